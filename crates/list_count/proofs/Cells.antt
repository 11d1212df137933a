-- Cells counted: the loop goes from one column that has a cell to the next, they are read column by column. Assumes nothing.
use Rattle.common.specs.declared.reading.Bad.{Bad}
use Rattle.std.proofs.Common.{Err, Ok}
use mathlib.Core.Path.{◌≡◌, refl, sym, ap, ◌∙◌}
use mathlib.Core.Bool.{Bool, true, false}
use mathlib.Core.List.{List, [], ◌∷◌}
use mathlib.Core.Option.{Option, none, some}
use Prim.Native.Nat.{ℕ, zero, suc, ◌+◌, ◌*◌, ◌/◌, ◌%◌, ◌^◌, ◌≤◌, ◌<◌}
use native.Mathlib.Omega.{arith}
use native.Mathlib.Nat.{pow-suc}
use borrow.Author.Tests.{lt-ltb, le-ltb, eq-eqb, ne_eqb}
use lib.Count.{count_trailing_zeros, under}
use lib.Dec.{ltb}
use lib.ListN.{length, get_or}
use lib.Pow.{shr-shr, shr_le, pow_pos}
use Rattle.common.specs.Choose.{pick}
use Rattle.common.specs.Got.{Got, got, bad, on, Reading, said}
use Rattle.common.specs.declared.refusal.Fault.TheVariants.{LeftOver}
use Rattle.common.specs.declared.times.Bases.{Bases}
use Rattle.common.proofs.Choose.{pick_yes, pick_no}
use Rattle.data_cell.specs.Cells.{cell_at}
use Rattle.data_cell.specs.declared.cells.Times.{Times}
use Rattle.data_cell.specs.declared.cells.Cell.{Cell}
use Rattle.data_clustering.specs.Prefixes.{widths_at}
use Rattle.data_row.specs.Bodies.{columns}
use Rattle.data_contents.specs.Contents.{cells_at, cells_listed}
use Rattle.list_count.specs.Counted.{whole_cells_at, cells_counted}
use Rattle.list_count.proofs.Follows.{on_same, on_on, on_got}
use Rattle.common.proofs.Said.{on_ok, on_err}

-- the column from which a list of cells is counted does not show
pub many_cells : (i j : ℕ) (cs : List (Option Cell)) → length (cells_listed i cs) ≡ length (cells_listed j cs)
many_cells i j [] = refl
many_cells i j (none ∷ cs) = many_cells (i + 1) (j + 1) cs
many_cells i j (some x ∷ cs) = ap suc (many_cells (i + 1) (j + 1) cs)

module _ (stop : ℕ) where
  -- the cells cs up to r fill what is before stop
  abbrev Fill : ℕ → List (Option Cell) → ℕ → Got ℕ
  Fill n cs r = pick (ltb r stop) (bad LeftOver r) (got (n + length (cells_listed 0 cs)) r)

  fill_none : (n : ℕ) (cs : List (Option Cell)) (r : ℕ) → Fill n (none ∷ cs) r ≡ Fill n cs r
  fill_none n cs r = ap (λ (x : ℕ). pick (ltb r stop) (bad LeftOver r) (got (n + x) r)) (many_cells 1 0 cs)

  fill_some : (n : ℕ) (v : Cell) (cs : List (Option Cell)) (r : ℕ) → Fill n (some v ∷ cs) r ≡ Fill (n + 1) cs r
  fill_some n v cs r = ap (λ (x : ℕ). pick (ltb r stop) (bad LeftOver r) (got x r)) (let e = many_cells 1 0 cs in omega (arith, e))

  fill_last : (n r : ℕ) → Fill n [] r ≡ pick (ltb r stop) (bad LeftOver r) (got n r)
  fill_last n r = ap (λ (x : ℕ). pick (ltb r stop) (bad LeftOver r) (got x r)) (omega arith)

  counted_pick : (n : ℕ) (t : Bool) (cs : List (Option Cell)) (r : ℕ) → cells_counted n (pick t (bad LeftOver r) (got cs r)) ≡ pick t (bad LeftOver r) (got (n + length (cells_listed 0 cs)) r)
  unfolding cells_counted pick
  counted_pick n true cs r = refl
  counted_pick n false cs r = refl

  fill_counted : (n : ℕ) (x : Got (List (Option Cell))) → cells_counted n (on x (λ cs r. pick (ltb r stop) (bad LeftOver r) (got cs r))) ≡ on x (Fill n)
  unfolding on cells_counted
  fill_counted n (got cs r) = counted_pick n (ltb r stop) cs r
  fill_counted n (bad f p) = refl

module _ (b : Bases) (row : Times) (c s : List ℕ) (stop : ℕ) where
  abbrev Cells : ℕ → ℕ → ℕ → ℕ → Got (List (Option Cell))
  Cells a j m p = cells_at b row (widths_at c a j) m s p stop

  -- the cells of the j columns from the record at a on, of which those in m have one, from p on; with n before them
  unfoldable pub Count : ℕ → ℕ → ℕ → ℕ → ℕ → Got ℕ
  Count n a j m p = on (Cells a j m p) (Fill stop n)

  pub count_whole : (n a j m p : ℕ) → Count n a j m p ≡ cells_counted n (whole_cells_at b row (widths_at c a j) m s p stop)
  unfolding whole_cells_at Count
  count_whole n a j m p = sym (fill_counted stop n (Cells a j m p))

  cells_some : (a j m p : ℕ) → m % 2 ≡ 1 → Cells a (suc j) m p ≡ on (cell_at b row (get_or c (a + 3) 0) s p stop) (λ v q. on (Cells (a + 16) j (m / 2) q) (λ cs r. got (some v ∷ cs) r))
  unfolding cells_at widths_at pick
  cells_some a j m p e = rw (eq-eqb (m % 2) 1 e)

  cells_none : (a j m p : ℕ) → m % 2 ≡ 0 → Cells a (suc j) m p ≡ on (Cells (a + 16) j (m / 2) p) (λ cs r. got (none ∷ cs) r)
  unfolding cells_at widths_at pick
  cells_none a j m p e = rw (ne_eqb (m % 2) 1 (λ f. omega arith))

  cells_last : (a m p : ℕ) → Cells a 0 m p ≡ got [] p
  unfolding cells_at widths_at
  cells_last a m p = refl

  count_none : (n a j m p : ℕ) → m % 2 ≡ 0 → Count n a (suc j) m p ≡ Count n (a + 16) j (m / 2) p
  unfolding on Count
  count_none n a j m p e =
      ap (λ x. on x (Fill stop n)) (cells_none a j m p e)
      ∙ on_on (Cells (a + 16) j (m / 2) p) _ (Fill stop n)
      ∙ on_same (Cells (a + 16) j (m / 2) p) _ _ (λ cs r d. fill_none stop n cs r)

  count_some : (n a j m p : ℕ) → m % 2 ≡ 1 → Count n a (suc j) m p ≡ on (cell_at b row (get_or c (a + 3) 0) s p stop) (λ v q. Count (n + 1) (a + 16) j (m / 2) q)
  unfolding on Count
  count_some n a j m p e =
      ap (λ x. on x (Fill stop n)) (cells_some a j m p e)
      ∙ on_on (cell_at b row (get_or c (a + 3) 0) s p stop) _ (Fill stop n)
      ∙ on_same (cell_at b row (get_or c (a + 3) 0) s p stop) _ _ (λ v q d.
      on_on (Cells (a + 16) j (m / 2) q) _ (Fill stop n)
      ∙ on_same (Cells (a + 16) j (m / 2) q) _ _ (λ cs r g. fill_some stop n v cs r))

  -- no column has a cell
  count_last : (n a j m p : ℕ) → m ≡ 0 → Count n a j m p ≡ pick (ltb p stop) (bad LeftOver p) (got n p)
  unfolding Count
  count_last n a zero m p e = on_got _ [] p (Fill stop n) (cells_last a m p) ∙ fill_last stop n p
  count_last n a (suc j) m p e = count_none n a j m p (omega arith) ∙ count_last n (a + 16) j (m / 2) p (omega arith)

  -- of j columns those in m have a cell, the first of them t columns on
  pub record First (n a j m p t : ℕ) : Type 0 where
    pub behind : ℕ
    pub among : j ≡ t + 1 + behind
    pub below : m / 2 ^ t / 2 < 2 ^ behind
    pub is : Count n a j m p ≡ on (cell_at b row (get_or c (a + 16 * t + 3) 0) s p stop) (λ v q. Count (n + 1) (a + 16 * t + 16) behind (m / 2 ^ t / 2) q)

  halved : (m t : ℕ) → m / 2 / 2 ^ t ≡ m / 2 ^ suc t
  halved m t = shr-shr m 1 t ∙ ap (λ (x : ℕ). m / 2 ^ x) (omega arith)

  first_here : (n a j m p : ℕ) → m % 2 ≡ 1 → m / 2 < 2 ^ j → First n a (suc j) m p 0
  first_here n a j m p e l =
      let f : m ≡ m / 2 ^ 0 = omega arith in
      let g : a + 16 * 0 ≡ a = omega arith in
      record {
        behind = j;
        among = omega arith;
        below = rw (← f) l;
        is = rw (g, ← f) (count_some n a j m p e);
      }

  first_later : (n a j m p t : ℕ) → m % 2 ≡ 0 → First n (a + 16) j (m / 2) p t → First n a (suc j) m p (suc t)
  first_later n a j m p t e h =
      let g : a + 16 + 16 * t ≡ a + 16 * suc t = omega arith in
      record {
        behind = h.behind;
        among = omega (arith, h.among);
        below = rw (← halved m t) h.below;
        is = count_none n a j m p e ∙ (rw (g, halved m t) at h.is);
      }

  pub first : (d n a j m p : ℕ) → j ≤ d → 0 < m → m < 2 ^ j → First n a j m p (count_trailing_zeros d m)
  unfolding count_trailing_zeros
  first d n a zero m p l h k = absurd (omega arith)
  first zero n a (suc j) m p l h k = absurd (omega arith)
  first (suc d) n a (suc j) m p l h k =
      go (m % 2) refl (small (pow-suc 2 j)) (λ e. first d n (a + 16) j (m / 2) p (omega arith) (omega arith) (small (pow-suc 2 j)))
    where
      small : 2 ^ suc j ≡ 2 ^ j * 2 → m / 2 < 2 ^ j
      small e = omega arith

      go : (r : ℕ) → m % 2 ≡ r → m / 2 < 2 ^ j → (m % 2 ≡ 0 → First n (a + 16) j (m / 2) p (count_trailing_zeros d (m / 2))) → First n a (suc j) m p (under r (count_trailing_zeros d (m / 2)))
      go zero e i ih = first_later n a j m p (count_trailing_zeros d (m / 2)) e (ih e)
      go (suc r) e i ih = first_here n a j m p (omega arith) i

-- ---- the loop: the columns that are left, those of them that have a cell, and how many items stand before
pub record Counting (z : Got ℕ) (b : Bases) (row : Times) (c s : List ℕ) (stop column left p n : ℕ) : Type 0 where
  pub columns : ℕ
  pub inside : column + 16 * columns ≤ length c
  pub few : columns ≤ 63
  pub known : left < 2 ^ columns
  pub fits : n + columns ≤ 1099511627839
  pub rest : Count b row c s stop n column columns left p ≡ z

module _ (b : Bases) (row : Times) (c s : List ℕ) (stop base k present at n : ℕ) where
  pub counting_none : base + 16 * k ≤ length c → k ≤ 63 → present ≤ columns k → n ≤ 1099511627776
      → Counting (cells_counted n (whole_cells_at b row (widths_at c base k) present s at stop)) b row c s stop base present at n
  unfolding columns
  counting_none h l i j = record {
    columns = k;
    inside = h;
    few = l;
    known = let p : 0 < 2 ^ k = pow_pos k in omega (arith, i);
    fits = omega arith;
    rest = count_whole b row c s stop n base k present at;
  }

module _ (z : Got ℕ) (b : Bases) (row : Times) (c s : List ℕ) (stop column left p n : ℕ) (i : Counting z b row c s stop column left p n) where
  pub counting_over : left ≤ 0 → p < stop → bad LeftOver p ≡ z
  unfolding said
  counting_over l h = pick_yes _ _ _ _ (lt-ltb p stop h) refl ∙ sym (count_last b row c s stop n column i.columns left p (omega arith)) ∙ i.rest

  pub counting_end : left ≤ 0 → stop ≤ p → said (Ok (n, p)) ≡ z
  unfolding said
  counting_end l h = pick_no _ _ _ _ (le-ltb p stop h) refl ∙ sym (count_last b row c s stop n column i.columns left p (omega arith)) ∙ i.rest

  module _ (l : 0 < left) where
    next : First b row c s stop n column i.columns left p (count_trailing_zeros 64 left)
    next = first b row c s stop 64 n column i.columns left p (omega (arith, i.few)) l i.known

    pub counting_skips : count_trailing_zeros 64 left < 64
    counting_skips = omega (arith, next.among, i.few)

    pub counting_index : column + 16 * count_trailing_zeros 64 left + 3 < length c
    counting_index = omega (arith, next.among, i.inside)

    pub counting_fits : n + 1 < 18446744073709551616
    counting_fits = omega (arith, next.among, i.fits)

    -- none of the sums is too large
    pub counting_cast : count_trailing_zeros 64 left < 18446744073709551616
    counting_cast = omega (arith, counting_skips)

    pub counting_product : 16 * count_trailing_zeros 64 left < 18446744073709551616
    counting_product = omega (arith, counting_skips)

    module _ (k : length c < 2 ^ 64) where
      pub counting_column : column + 16 * count_trailing_zeros 64 left < 18446744073709551616
      counting_column = omega (arith, counting_index)

      pub counting_width : column + 16 * count_trailing_zeros 64 left + 3 < 18446744073709551616
      counting_width = omega (arith, counting_index)

      pub counting_next : column + 16 * count_trailing_zeros 64 left + 16 < 18446744073709551616
      counting_next = omega (arith, next.among, i.inside)

    pub counting_less : left / 2 ^ count_trailing_zeros 64 left / 2 < left
    counting_less = omega (arith, shr_le left (count_trailing_zeros 64 left))

    pub counting_more : (r : Reading Cell) (v : Cell) (q : ℕ) → said r ≡ cell_at b row (get_or c (column + 16 * count_trailing_zeros 64 left + 3) 0) s p stop → r ≡ Ok (v, q)
        → Counting z b row c s stop (column + 16 * count_trailing_zeros 64 left + 16) (left / 2 ^ count_trailing_zeros 64 left / 2) q (n + 1)
    counting_more r v q e f = record {
      columns = next.behind;
      inside = omega (arith, next.among, i.inside);
      few = omega (arith, next.among, i.few);
      known = next.below;
      fits = omega (arith, next.among, i.fits);
      rest = on_ok _ _ r _ (v, q) e f refl ∙ sym next.is ∙ i.rest;
    }

    pub counting_bad : (r : Reading Cell) (err : Bad) → said r ≡ cell_at b row (get_or c (column + 16 * count_trailing_zeros 64 left + 3) 0) s p stop → r ≡ Err err
        → bad err.fault err.place ≡ z
    unfolding said
    counting_bad r err e g = on_err {B = ℕ} _ _ r _ err e g refl ∙ sym next.is ∙ i.rest

pub ruleset counting = (counting_none, counting_over, counting_end, counting_skips, counting_index, counting_fits, counting_cast, counting_product, counting_column, counting_width, counting_next, counting_less, counting_more, counting_bad)
