-- Laws by which `search` answers the needs of the functions that store. Assumes nothing.
use mathlib.Core.Path.{◌≡◌}
use mathlib.Core.List.{List, [], ◌∷◌, ◌++◌}
use Prim.Native.Nat.{ℕ, ◌+◌, ◌≤◌}
use lib.ListN.{length}
use Rattle.number_fixed.specs.BigEndian.{bytes_of}
use Rattle.common.specs.Store.{Room, Puts, part, shown}
use Rattle.common.proofs.Puts.{puts_then, room_left, room_right}
use Rattle.data_field.specs.declared.fields.Deletion.{Deletion}
use Rattle.write_form.specs.Partitions.{deleted_bytes, head_bytes}
use Rattle.write_number.proofs.Writing.{shown_part, shown_len}

-- a byte, and a number of a width, that a callee gives
pub room_byte : (d : List ℕ) (at x y : ℕ) → y ≡ x → Room d at (x ∷ []) → Room d at (y ∷ [])
room_byte d at x y e r = rw e r

pub puts_byte_of : (d d' : List ℕ) (at x y n : ℕ) → y ≡ x → Puts d d' at (y ∷ []) n → Puts d d' at (x ∷ []) n
puts_byte_of d d' at x y n e p = rw (← e) p

pub room_number : (d : List ℕ) (at w x y : ℕ) → y ≡ x → Room d at (bytes_of x w) → Room d at (bytes_of y w)
room_number d at w x y e r = rw e r

pub puts_number : (d d' : List ℕ) (at w x y n : ℕ) → y ≡ x → Puts d d' at (bytes_of y w) n → Puts d d' at (bytes_of x w) n
puts_number d d' at w x y n e p = rw (← e) p

pub ruleset numbers = (room_byte, puts_byte_of, room_number, puts_number)

-- ---- the header of a partition: the key's length, and then the rest
module _ (s : List ℕ) (start len : ℕ) (l : start + len ≤ length s) (d : List ℕ) (at : ℕ) (x : Deletion) (r : Room d at (head_bytes (shown s start len) x)) where
  header_is : head_bytes (shown s start len) x ≡ bytes_of len 2 ++ (part s start len ++ deleted_bytes x)
  unfolding head_bytes
  header_is = rw (shown_len s start len l, shown_part s start len l)

  header_room : Room d at (bytes_of len 2 ++ (part s start len ++ deleted_bytes x))
  header_room = rw (← header_is) r

  pub header_first : Room d at (bytes_of len 2)
  header_first = room_left d at _ _ header_room

  module _ (d₁ : List ℕ) (p : ℕ) (g : Puts d d₁ at (bytes_of len 2) p) where
    pub header_second : Room d₁ p (part s start len ++ deleted_bytes x)
    header_second = room_right d d₁ at p _ _ header_room g

    pub header_all : (d₂ : List ℕ) (m : ℕ) → Puts d₁ d₂ p (part s start len ++ deleted_bytes x) m → Puts d d₂ at (head_bytes (shown s start len) x) m
    header_all d₂ m h = rw header_is (puts_then d d₁ d₂ at p m _ _ header_room g h)

pub ruleset put_header = (header_first, header_second, header_all)
