-- Paths, and parts of a buffer from its start. Assumes nothing.
use mathlib.Core.Path.{◌≡◌, sym}
use mathlib.Core.List.{List, [], ◌∷◌, ◌++◌}
use Prim.Native.Nat.{ℕ, ◌+◌, ◌≤◌}
use native.Mathlib.Omega.{arith}
use lib.ListN.{length, take, length-append}
use lib.Seq.{take-length, length-take-le}
use Rattle.common.specs.Store.{part, Room, Puts}
use Rattle.list.specs.Files.{name_of, path_of, Loads}
use Rattle.std.proofs.Common.{Option, Some}

part_all : (w : List ℕ) → part w 0 (length w) ≡ w
unfolding part
part_all w = take-length w

pub room_all : (d : List ℕ) (at : ℕ) (w : List ℕ) → Room d at w → Room d at (part w 0 (length w))
room_all d at w r = rw (part_all w) r

pub puts_all : (d d' : List ℕ) (at : ℕ) (w : List ℕ) (n : ℕ) → Puts d d' at (part w 0 (length w)) n → Puts d d' at w n
puts_all d d' at w n p = rw (part_all w) at p

length_path : (folder name : List ℕ) → length (path_of folder name) ≡ length folder + (1 + length name)
unfolding path_of name_of
length_path folder name = omega (arith, length-append folder ((47 ∷ []) ++ name), length-append (47 ∷ []) name)

pub room_path : (d folder name : List ℕ) → length d ≡ 4200 → length folder ≤ 4096 → length name ≤ 64 → Room d 0 (path_of folder name)
room_path d folder name h k l = record { fits = omega (arith, length_path folder name) }

pub path_most : (d d₁ d₂ folder name : List ℕ) (m n : ℕ) → Puts d d₁ 0 folder m → Puts d₁ d₂ m (name_of name) n → n ≤ length folder + 1 + length name
unfolding name_of
path_most d d₁ d₂ folder name m n p q = omega (arith, p.next, q.next, length-append (47 ∷ []) name)

-- the first n bytes are n
pub first_bytes : (d : List ℕ) (n : ℕ) → n ≤ length d → n ≡ length (take n d)
first_bytes d n h = sym (length-take-le n d h)

pub first_schema : (d : List ℕ) (n : ℕ) → n ≤ 2544 → 2544 ≤ length d → n ≡ length (take n d)
first_schema d n h k = first_bytes d n (omega arith)

pub loaded_within : (r : Option ℕ) (d : List ℕ) (n : ℕ) → Loads r d → r ≡ Some n → n ≤ length d
loaded_within r d n h e = rw e at h
