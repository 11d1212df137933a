-- What a record says, from the bytes or numbers that are used. Assumes nothing.
use mathlib.Core.Path.{◌≡◌, refl, sym}
use mathlib.Core.List.{List}
use Prim.Native.Nat.{ℕ, ◌+◌, ◌/◌, ◌%◌}
use borrow.Author.Tests.{eq-eqb, ne_eqb}
use lib.ListN.{get_or}
use Rattle.number_fixed.specs.BigEndian.{big_endian}
use Rattle.common.proofs.Choose.{pick_yes, pick_no}
use Rattle.data_field.specs.Fields.{span, live}
use Rattle.data_cell.specs.Cells.{cell}
use Rattle.data_field.specs.declared.fields.Span.{Span}
use Rattle.data_items.specs.declared.Item.{Item}
use Rattle.write_accept.specs.Fields.{signed_at, item_of, has_expiry, has_local, has_second}
use Rattle.write_accept.specs.Entries.{value_of, second_of, cell_of}

module _ (s : List ℕ) (at t : ℕ) (time : t ≡ signed_at s (at + 8)) where
  -- a tombstone
  pub cell_dead : (l : ℕ) → get_or s (at + 1) 0 / 4 % 2 ≡ 1 → l ≡ big_endian 0 s (at + 24) 4 → cell 2 t l 0 (span 0 0) ≡ cell_of (item_of s at)
  unfolding cell_of has_local item_of
  cell_dead l d e = pick_yes _ _ _ _ (eq-eqb _ _ d) (rw (time, e) refl)

  module _ (v : Span) (lives : get_or s (at + 1) 0 / 4 % 2 ≡ 1 → ⊥) (value : v ≡ value_of (item_of s at)) where
    pub cell_expires : (l ttl : ℕ) → get_or s (at + 1) 0 / 2 % 2 ≡ 1 → l ≡ big_endian 0 s (at + 28) 4 → ttl ≡ big_endian 0 s (at + 4) 4 → cell 1 t l ttl v ≡ cell_of (item_of s at)
    unfolding cell_of has_local has_expiry item_of
    cell_expires l ttl d e f = pick_no _ _ _ _ (ne_eqb _ _ lives) (pick_yes _ _ _ _ (eq-eqb _ _ d) (rw (time, e, f, value) refl))

    pub cell_lives : (get_or s (at + 1) 0 / 2 % 2 ≡ 1 → ⊥) → cell 0 t 0 0 v ≡ cell_of (item_of s at)
    unfolding cell_of has_local has_expiry item_of
    cell_lives d = pick_no _ _ _ _ (ne_eqb _ _ lives) (pick_no _ _ _ _ (ne_eqb _ _ d) (rw (time, value) refl))

pub ruleset places = (cell_dead, cell_expires, cell_lives)

-- the column of a record is its third byte
pub column_at_lem : (s : List ℕ) (at : ℕ) → (item_of s at).column ≡ get_or s (at + 2) 0
unfolding item_of
column_at_lem s at = refl

-- what is no marker has no second deletion
pub second_none : (i : Item) → (i.kind ≡ 4 → ⊥) → live ≡ second_of i
unfolding second_of has_second
second_none i h = pick_no _ _ _ _ (sym (pick_no _ _ _ _ (ne_eqb _ _ h) refl)) refl
