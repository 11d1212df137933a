-- Cells stored one by one. Assumes nothing.
use mathlib.Core.Path.{◌≡◌, refl, ap, ◌∙◌}
use mathlib.Core.List.{List, [], ◌++◌}
use Prim.Native.Nat.{ℕ, suc, ◌+◌, ◌-◌, ◌*◌, ◌^◌, ◌≤◌, ◌<◌}
use native.Mathlib.Omega.{arith}
use lib.ListN.{length, get_or}
use Rattle.common.specs.Store.{Room, Puts, shown}
use Rattle.common.specs.declared.times.Bases.{Bases}
use Rattle.data_cell.specs.declared.cells.Cell.{Cell}
use Rattle.data_cell.specs.declared.cells.Times.{Times}
use Rattle.write_form.specs.Cells.{cell_bytes}
use Rattle.write_accept.specs.Fields.{item_of}
use Rattle.write_accept.specs.Entries.{cell_of}
use Rattle.write_record_parts.proofs.Places.{column_at_lem}
use Rattle.list_call.proofs.Writing.{Writing, writing_none, writing_same, writing_end, writing_room, writing_more}
use Rattle.write_store_parts.specs.Again.{cell_again, cells_again, CellsThere}

cells_last : (b : Bases) (row : Times) (c : List ℕ) (base : ℕ) (bytes s : List ℕ) (at : ℕ) → cells_again b row c base bytes s at 0 ≡ []
unfolding cells_again
cells_last b row c base bytes s at = refl

cells_next : (b : Bases) (row : Times) (c : List ℕ) (base : ℕ) (bytes s : List ℕ) (at k : ℕ) → cells_again b row c base bytes s at (suc k) ≡ cell_again b row c base bytes s at ++ cells_again b row c base bytes s (at + 64) k
unfolding cells_again
cells_next b row c base bytes s at k = refl

-- ---- one cell
module _ (b : Bases) (row : Times) (c : List ℕ) (base : ℕ) (bytes s : List ℕ) (at : ℕ) (h : CellsThere c base bytes s at 1) where
  here : at + 64 * 0 ≡ at
  here = omega arith

  pub one_record : at + 64 ≤ length s
  one_record = omega (arith, h.within 0 (omega arith))

  pub one_third : at + 2 < length s
  one_third = omega (arith, one_record)

  pub one_byte : length s < 2 ^ 64 → at + 2 < 18446744073709551616
  one_byte m = omega (arith, one_record)

  inside : base + 16 * get_or s (at + 2) 0 + 16 ≤ length c
  inside = rw (← column_at_lem s at) (rw here at (h.known 0 (omega arith)))

  pub one_index : base + 16 * get_or s (at + 2) 0 + 3 < length c
  one_index = omega (arith, inside)

  module _ (m : length c < 2 ^ 64) where
    pub one_cast : get_or s (at + 2) 0 < 18446744073709551616
    one_cast = omega (arith, inside)

    pub one_product : 16 * get_or s (at + 2) 0 < 18446744073709551616
    one_product = omega (arith, inside)

    pub one_column : base + 16 * get_or s (at + 2) 0 < 18446744073709551616
    one_column = omega (arith, inside)

    pub one_width : base + 16 * get_or s (at + 2) 0 + 3 < 18446744073709551616
    one_width = omega (arith, inside)

  module _ (x : Cell) (g : x ≡ cell_of (item_of s at)) where
    pub one_lies : x.value.start + x.value.len ≤ length bytes
    one_lies = rw g (rw here at (h.lie 0 (omega arith)))

    pub one_room : (d : List ℕ) (to : ℕ) → Room d to (cell_again b row c base bytes s at)
        → Room d to (cell_bytes b row (get_or c (base + 16 * get_or s (at + 2) 0 + 3) 0) x (shown bytes x.value.start x.value.len))
    unfolding cell_again
    one_room d to r = rw (g, ← column_at_lem s at) r

    pub one_puts : (d d' : List ℕ) (to n : ℕ) → Puts d d' to (cell_bytes b row (get_or c (base + 16 * get_or s (at + 2) 0 + 3) 0) x (shown bytes x.value.start x.value.len)) n
        → Puts d d' to (cell_again b row c base bytes s at) n
    unfolding cell_again
    one_puts d d' to n p = rw (g, ← column_at_lem s at) at p

pub ruleset one_cell = (one_record, one_third, one_byte, one_cast, one_index, one_product, one_column, one_width, one_lies, one_room, one_puts)

-- ---- one after the other
there_first : (c : List ℕ) (base : ℕ) (bytes s : List ℕ) (at k : ℕ) → CellsThere c base bytes s at (suc k) → CellsThere c base bytes s at 1
there_first c base bytes s at k h = record { within = λ i l. h.within i (omega arith); known = λ i l. h.known i (omega arith); lie = λ i l. h.lie i (omega arith) }

there_rest : (c : List ℕ) (base : ℕ) (bytes s : List ℕ) (at k : ℕ) → CellsThere c base bytes s at (suc k) → CellsThere c base bytes s (at + 64) k
there_rest c base bytes s at k h = record {
  within = λ i l. omega (arith, h.within (suc i) (omega arith));
  known = λ i l. let e : at + 64 * suc i ≡ at + 64 + 64 * i = omega arith in rw e at (h.known (suc i) (omega arith));
  lie = λ i l. let e : at + 64 * suc i ≡ at + 64 + 64 * i = omega arith in rw e at (h.lie (suc i) (omega arith));
}

-- the cells from the i-th on; R is what all of them are
pub record Celling (R : List ℕ) (b : Bases) (row : Times) (c : List ℕ) (base : ℕ) (bytes s : List ℕ) (k : ℕ) (d₀ d : List ℕ) (to i p out : ℕ) : Type 0 where
  pub there : CellsThere c base bytes s p (k - i)
  pub writing : Writing R d₀ d to out (cells_again b row c base bytes s p (k - i))

module _ (b : Bases) (row : Times) (c : List ℕ) (base : ℕ) (bytes s : List ℕ) (k at : ℕ) (d : List ℕ) (to : ℕ) where
  pub celling_none : CellsThere c base bytes s at k → Room d to (cells_again b row c base bytes s at k)
      → Celling (cells_again b row c base bytes s at k) b row c base bytes s k d d to 0 at to
  celling_none t r =
      let e : k - 0 ≡ k = omega arith in
      record {
        there = rw e t;
        writing = rw e (writing_none (cells_again b row c base bytes s at k) d to r);
      }

module _ (R : List ℕ) (b : Bases) (row : Times) (c : List ℕ) (base : ℕ) (bytes s : List ℕ) (k : ℕ) (d₀ d : List ℕ) (to i p out : ℕ) (v : Celling R b row c base bytes s k d₀ d to i p out) where
  pub celling_same : length d ≡ length d₀
  celling_same = writing_same R d₀ d to out _ v.writing

  pub celling_end : k ≤ i → Puts d₀ d to R out
  celling_end l =
      let e : k - i ≡ 0 = omega arith in
      writing_end R d₀ d to out _ v.writing (ap (cells_again b row c base bytes s p) e ∙ cells_last b row c base bytes s p)

  module _ (l : i < k) where
    more : k - i ≡ suc (k - (i + 1))
    more = omega arith

    pub celling_there : CellsThere c base bytes s p 1
    celling_there = there_first c base bytes s p (k - (i + 1)) (rw (← more) v.there)

    celling_record : p + 64 ≤ length s
    celling_record = one_record b row c base bytes s p celling_there

    pub celling_place : length s < 2 ^ 64 → p + 64 < 18446744073709551616
    celling_place m = omega (arith, celling_record)

    parts : cells_again b row c base bytes s p (k - i) ≡ cell_again b row c base bytes s p ++ cells_again b row c base bytes s (p + 64) (k - (i + 1))
    parts = ap (cells_again b row c base bytes s p) more ∙ cells_next b row c base bytes s p (k - (i + 1))

    pub celling_room : Room d out (cell_again b row c base bytes s p)
    celling_room = writing_room R d₀ d to out _ v.writing _ _ parts

    pub celling_more : (d' : List ℕ) (n : ℕ) → Puts d d' out (cell_again b row c base bytes s p) n → Celling R b row c base bytes s k d₀ d' to (i + 1) (p + 64) n
    celling_more d' n w = record {
      there = there_rest c base bytes s p (k - (i + 1)) (rw (← more) v.there);
      writing = writing_more R d₀ d to out _ v.writing _ _ parts d' n w;
    }

pub ruleset celling = (celling_none, celling_same, celling_end, celling_there, celling_place, celling_room, celling_more)
