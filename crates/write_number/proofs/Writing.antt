-- Laws by which `search` answers the needs of the functions that measure and store. Assumes nothing.
use mathlib.Core.Path.{◌≡◌, refl, sym, ◌∙◌}
use mathlib.Core.Bool.{Bool, true, false}
use mathlib.Core.List.{List, [], ◌∷◌, ◌++◌}
use Prim.Native.Nat.{ℕ, ◌+◌, ◌-◌, ◌≤◌}
use native.Mathlib.Omega.{arith}
use borrow.Author.Tests.{eq-eqb, ne_eqb, le-ltb}
use lib.Dec.{eqb}
use lib.ListN.{length, set, length-append}
use Rattle.common.specs.Choose.{pick}
use Rattle.number_varint.specs.Varints.{shortest}
use Rattle.common.specs.Store.{Room, Puts, part, shown}
use Rattle.number_varint.proofs.Shortest.{extra_le, length_shortest}
use Rattle.common.proofs.Splices.{splice_cons}
use Rattle.common.proofs.Puts.{length_part, puts_none, puts_then, room_left, room_right, room_no, puts_yes, puts_no}
use Rattle.common.specs.declared.times.Bases.{Bases}
use Rattle.data_cell.specs.declared.cells.Times.{Times}
use Rattle.data_cell.specs.declared.cells.Cell.{Cell}
use Rattle.write_form.specs.Cells.{same_expiry, no_value, cell_flags, ttl_bytes, expiry_bytes, length_bytes, field_bytes, value_bytes, tail_bytes, cell_bytes}
use Rattle.write_form.specs.Clusterings.{clustering_bytes}

-- what a callee's number tells of its definition
pub eq_told : (r x n : ℕ) → r ≡ x → r ≡ n → eqb x n ≡ true
eq_told r x n e f = eq-eqb x n (sym e ∙ f)

pub ne_told : (r x n : ℕ) → r ≡ x → (r ≡ n → ⊥) → eqb x n ≡ false
ne_told r x n e f = ne_eqb x n (λ g. f (e ∙ g))

-- ---- lengths
pub len_yes : (q : ℕ) (t : Bool) (v w : List ℕ) → t ≡ true → q ≡ length v → q ≡ length (pick t v w)
unfolding pick
len_yes q t v w e f = rw e f

pub len_no : (q : ℕ) (t : Bool) (v w : List ℕ) → t ≡ false → q ≡ length w → q ≡ length (pick t v w)
unfolding pick
len_no q t v w e f = rw e f

pub len_nil : ◌≡◌ {A = ℕ} 0 (length {A = ℕ} [])
len_nil = refl

pub len_append : (m n : ℕ) (v w : List ℕ) → m ≡ length v → n ≡ length w → m + n ≡ length (v ++ w)
len_append m n v w e f = rw (e, f) (sym (length-append v w))

pub len_varint : (r x y : ℕ) → y ≡ x → r ≡ length (shortest y) → r ≡ length (shortest x)
len_varint r x y e f = rw (← e) f

pub varint_most : (x : ℕ) → length (shortest x) ≤ 9
varint_most x = omega (arith, length_shortest x, extra_le 8 x)

pub len_small : (r x : ℕ) → r ≡ length (shortest x) → r ≤ 9
len_small r x e = omega (arith, varint_most x)

-- ---- stores
pub room_varint : (d : List ℕ) (at x y : ℕ) → y ≡ x → Room d at (shortest x) → Room d at (shortest y)
room_varint d at x y e r = rw e r

pub puts_varint : (d d' : List ℕ) (at x y n : ℕ) → y ≡ x → Puts d d' at (shortest y) n → Puts d d' at (shortest x) n
puts_varint d d' at x y n e p = rw (← e) p

pub puts_byte : (d : List ℕ) (at x : ℕ) → Room d at (x ∷ []) → Puts d (set d at x) at (x ∷ []) (at + 1)
puts_byte d at x r = record { next = refl; stores = (puts_none (set d at x) (at + 1)).stores ∙ splice_cons d at x [] (omega (arith, r.fits)) }

pub ruleset writing = (eq_told, ne_told, len_yes, len_no, len_nil, len_append, len_varint, len_small, room_varint, puts_varint)

-- local deletion time and TTL that are the cell's own
pub own_room : (d : List ℕ) (at x : ℕ) (b : Bases) (row : Times) (c : Cell) → (c.kind ≡ 0 → ⊥) → x ≡ same_expiry row c → (x ≡ 1 → ⊥)
    → Room d at (expiry_bytes b row c) → Room d at (shortest (c.local - b.local) ++ ttl_bytes b c)
unfolding expiry_bytes
own_room d at x b row c k e f r = room_no d at _ _ _ (room_no d at _ _ _ r (ne_eqb c.kind 0 k)) (ne_told x (same_expiry row c) 1 e f)

-- ---- a part that lies in its slice
pub shown_part : (s : List ℕ) (start len : ℕ) → start + len ≤ length s → shown s start len ≡ part s start len
unfolding shown pick
shown_part s start len h = rw (le-ltb (length s) start (omega arith), le-ltb (length s - start) len (omega arith))

pub shown_len : (s : List ℕ) (start len : ℕ) → start + len ≤ length s → length (shown s start len) ≡ len
shown_len s start len h = rw (shown_part s start len h) (length_part s start len h)

module _ (s : List ℕ) (start len : ℕ) (l : start + len ≤ length s) (d : List ℕ) (at w : ℕ) where
  abbrev X : List ℕ
  X = shown s start len

  -- ---- a value that is not empty
  module _ (r : Room d at (field_bytes w (shown s start len))) where
    field_is : field_bytes w X ≡ length_bytes w len ++ part s start len
    unfolding field_bytes
    field_is = rw (shown_len s start len l, shown_part s start len l)

    field_room : Room d at (length_bytes w len ++ part s start len)
    field_room = rw (← field_is) r

    pub field_first : Room d at (length_bytes w len)
    field_first = room_left d at _ _ field_room

    module _ (d₁ : List ℕ) (p : ℕ) (g : Puts d d₁ at (length_bytes w len) p) where
      pub field_second : Room d₁ p (part s start len)
      field_second = room_right d d₁ at p _ _ field_room g

      pub field_all : (d₂ : List ℕ) (m : ℕ) → Puts d₁ d₂ p (part s start len) m → Puts d d₂ at (field_bytes w (shown s start len)) m
      field_all d₂ m h = rw field_is (puts_then d d₁ d₂ at p m _ _ field_room g h)

  -- ---- a clustering value
  pub value_none : len ≡ 0 → Puts d d at (clustering_bytes w (shown s start len)) at
  unfolding clustering_bytes
  value_none e = puts_yes d d at at _ _ _ (eq-eqb (length X) 0 (shown_len s start len l ∙ e)) (puts_none d at)

  module _ (f : len ≡ 0 → ⊥) where
    there : eqb (length X) 0 ≡ false
    there = ne_eqb (length X) 0 (λ e. f (sym (shown_len s start len l) ∙ e))

    pub value_room : Room d at (clustering_bytes w (shown s start len)) → Room d at (field_bytes w (shown s start len))
    unfolding clustering_bytes
    value_room r = room_no d at _ _ _ r there

    pub value_all : (d₁ : List ℕ) (m : ℕ) → Puts d d₁ at (field_bytes w (shown s start len)) m → Puts d d₁ at (clustering_bytes w (shown s start len)) m
    unfolding clustering_bytes
    value_all d₁ m p = puts_no d d₁ at m _ _ _ there p

  -- ---- the value of a cell
  module _ (x : ℕ) (c : Cell) (e : x ≡ no_value c len) where
    none_is : x ≡ no_value c (length X)
    none_is = rw (shown_len s start len l) e

    pub content_none : x ≡ 1 → Puts d d at (value_bytes w c (shown s start len)) at
    unfolding value_bytes
    content_none f = puts_yes d d at at _ _ _ (eq_told x (no_value c (length X)) 1 none_is f) (puts_none d at)

    module _ (f : x ≡ 1 → ⊥) where
      pub content_room : Room d at (value_bytes w c (shown s start len)) → Room d at (field_bytes w (shown s start len))
      unfolding value_bytes
      content_room r = room_no d at _ _ _ r (ne_told x (no_value c (length X)) 1 none_is f)

      pub content_all : (d₁ : List ℕ) (m : ℕ) → Puts d d₁ at (field_bytes w (shown s start len)) m → Puts d d₁ at (value_bytes w c (shown s start len)) m
      unfolding value_bytes
      content_all d₁ m p = puts_no d d₁ at m _ _ _ (ne_told x (no_value c (length X)) 1 none_is f) p

  -- ---- a cell: its flags, and then the rest
  module _ (b : Bases) (row : Times) (c : Cell) (r : Room d at (cell_bytes b row w c (shown s start len))) (y : ℕ) (e : y ≡ cell_flags row c len) where
    cell_is : cell_bytes b row w c X ≡ (y ∷ []) ++ tail_bytes b row w c X
    unfolding cell_bytes
    cell_is = rw (e, shown_len s start len l)

    cell_room : Room d at ((y ∷ []) ++ tail_bytes b row w c X)
    cell_room = rw (← cell_is) r

    pub cell_first : Room d at (y ∷ [])
    cell_first = room_left d at _ _ cell_room

    module _ (d₁ : List ℕ) (p : ℕ) (g : Puts d d₁ at (y ∷ []) p) where
      pub cell_tail : Room d₁ p (tail_bytes b row w c (shown s start len))
      cell_tail = room_right d d₁ at p _ _ cell_room g

      pub cell_all : (d₂ : List ℕ) (m : ℕ) → Puts d₁ d₂ p (tail_bytes b row w c (shown s start len)) m → Puts d d₂ at (cell_bytes b row w c (shown s start len)) m
      cell_all d₂ m h = rw cell_is (puts_then d d₁ d₂ at p m _ _ cell_room g h)

pub ruleset put_field = (field_first, field_second, field_all)

pub ruleset put_value = (value_none, value_room, value_all)

pub ruleset put_content = (content_none, content_room, content_all)

pub ruleset put_cell = (cell_first, cell_tail, cell_all)
