-- The walk through the cells of a row lists the cells that are read: it goes to the next column that has one, they are read column by column.
-- Assumes nothing.
use mathlib.Core.Path.{◌≡◌, refl, sym, ap, ◌∙◌}
use mathlib.Core.Bool.{Bool, true, false}
use mathlib.Core.List.{List, [], ◌∷◌}
use mathlib.Core.Option.{Option, none, some}
use Prim.Native.Nat.{ℕ, zero, suc, ◌+◌, ◌*◌, ◌/◌, ◌%◌, ◌^◌, ◌≤◌, ◌<◌}
use native.Mathlib.Omega.{arith}
use native.Mathlib.Nat.{pow-suc}
use borrow.Author.Tests.{le-ltb, eqb-true, eqb-false, eq-eqb, ne_eqb}
use lib.Count.{count_trailing_zeros, under}
use lib.Dec.{ltb, eqb}
use lib.ListN.{length, get_or}
use lib.Pow.{shr-shr, shr_lt, shr_le, pow-lt, pow_pos}
use Rattle.common.specs.Choose.{pick, bind}
use Rattle.common.specs.Got.{Got, got, bad, on}
use Rattle.common.specs.Refusals.{refused}
use Rattle.common.specs.declared.refusal.Fault.{Fault}
use Rattle.common.specs.declared.refusal.Fault.TheVariants.{LeftOver}
use Rattle.common.specs.declared.refusal.Slice.TheVariants.{Data}
use Rattle.common.specs.declared.times.Bases.{Bases}
use Rattle.data_cell.specs.Cells.{cell_at}
use Rattle.data_field.specs.declared.fields.Deletion.{Deletion}
use Rattle.data_cell.specs.declared.cells.Times.{Times}
use Rattle.data_cell.specs.declared.cells.Cell.{Cell}
use Rattle.data_cell.proofs.Gives.{cell_gives}
use Rattle.data_clustering.specs.Prefixes.{widths_at}
use Rattle.data_row.specs.Bodies.{columns}
use Rattle.schema_check.specs.declared.records.Counts.{Counts}
use Rattle.data_items.specs.Items.{cell_item}
use Rattle.data_walk.specs.Cursors.{hand, cursor, outside, bad_cells, behind_cell}
use Rattle.data_walk.specs.Steps.{Handed, bad_state, step_in, handed, item_step, cell_step, cells_step, cells_answer}
use Rattle.data_walk.specs.Walks.{add, follow}
use Rattle.data_walk.specs.declared.cursors.Phase.{Phase}
use Rattle.data_walk.specs.declared.cursors.Cursor.{Cursor}
use Rattle.data_contents.specs.Contents.{cells_at, cells_listed}
use Rattle.data_contents.proofs.Follows.{Walked, adds, run, adds_none, add_adds, run_got, run_same, add_run, run_on, run_handed}

-- ---- the lowest digit that is 1
-- one more place to look at does not change it
trailing_more : (d q : ℕ) → 0 < q → q < 2 ^ d → count_trailing_zeros d q ≡ count_trailing_zeros (suc d) q
unfolding count_trailing_zeros
trailing_more zero q h l = absurd (omega arith)
trailing_more (suc d) q h l = go (q % 2) refl (λ e. trailing_more d (q / 2) (omega arith) (small (pow-suc 2 d)))
  where
    small : 2 ^ suc d ≡ 2 ^ d * 2 → q / 2 < 2 ^ d
    small e = omega arith

    go : (r : ℕ) → q % 2 ≡ r → (q % 2 ≡ 0 → count_trailing_zeros d (q / 2) ≡ count_trailing_zeros (suc d) (q / 2)) → under r (count_trailing_zeros d (q / 2)) ≡ under r (count_trailing_zeros (suc d) (q / 2))
    go zero e ih = ap suc (ih e)
    go (suc r) e ih = refl

trailing_even : (q : ℕ) → q % 2 ≡ 0 → 0 < q → q < 18446744073709551616 → count_trailing_zeros 64 q ≡ suc (count_trailing_zeros 64 (q / 2))
unfolding count_trailing_zeros
trailing_even q e h l = ap (λ r. under r (count_trailing_zeros 63 (q / 2))) e ∙ ap suc (trailing_more 63 (q / 2) (omega arith) (omega arith))

trailing_odd : (q : ℕ) → q % 2 ≡ 1 → count_trailing_zeros 64 q ≡ 0
unfolding count_trailing_zeros
trailing_odd q e = ap (λ r. under r (count_trailing_zeros 63 (q / 2))) e

-- the bits from the next column on
pub present_next : (present i : ℕ) → present / 2 ^ i / 2 ≡ present / 2 ^ (i + 1)
present_next present i = shr-shr present i 1

-- ---- the columns that are left
module _ (n present : ℕ) (few : n ≤ 63) (known : present ≤ columns n) where
  present_below : present < 2 ^ n
  unfolding columns
  present_below = let p : 0 < 2 ^ n = pow_pos n in omega (arith, known)

  none_left : present / 2 ^ n ≡ 0
  none_left = let h : present / 2 ^ n < 2 ^ 0 = shr_lt 0 n (rw zero_plus present_below) in omega arith
    where
      zero_plus : 0 + n ≡ n
      zero_plus = omega arith

  present_fits : (i : ℕ) → present / 2 ^ i < 18446744073709551616
  present_fits i =
      let h : 2 ^ n < 2 ^ 64 = pow-lt {i = n} {j = 64} (omega arith) in
      omega (arith, present_below, shr_le present i)

-- ---- what is read of one column more
module _ (b : Bases) (row : Times) (c s : List ℕ) (a j m p end : ℕ) where
  abbrev Rest : ℕ → Got (List (Option Cell))
  Rest q = cells_at b row (widths_at c (a + 16) j) (m / 2) s q end

  cells_some : m % 2 ≡ 1 → cells_at b row (widths_at c a (suc j)) m s p end ≡ on (cell_at b row (get_or c (a + 3) 0) s p end) (λ v q. on (Rest q) (λ cs r. got (some v ∷ cs) r))
  unfolding cells_at widths_at pick
  cells_some e = rw (eq-eqb (m % 2) 1 e)

  cells_none : m % 2 ≡ 0 → cells_at b row (widths_at c a (suc j)) m s p end ≡ on (Rest p) (λ cs r. got (none ∷ cs) r)
  unfolding cells_at widths_at pick
  cells_none e = rw (ne_eqb (m % 2) 1 (λ f. omega arith))

cells_last : (b : Bases) (row : Times) (c s : List ℕ) (a m p end : ℕ) → cells_at b row (widths_at c a 0) m s p end ≡ got [] p
unfolding cells_at widths_at
cells_last b row c s a m p end = refl

follow_pick : (t : Bool) (f : Fault) (p : ℕ) (x : Got Handed) (w : Cursor → Walked) → follow (handed (pick t (bad f p) x)) w ≡ pick t (refused f Data p) (follow (handed x) w)
unfolding pick handed follow
follow_pick true f p x w = refl
follow_pick false f p x w = refl

module _ (c s : List ℕ) (k : Counts) (b : Bases) (w : Cursor → Walked) where
  -- what the walk does at an item of a partition
  abbrev pub item_walk : ℕ → Deletion → ℕ → Walked
  item_walk first opened at = follow (handed (item_step c k b s first opened at)) w

module _ (c s : List ℕ) (k : Counts) (b : Bases) (w : Cursor → Walked) (turns : (x : Cursor) → w x ≡ follow (step_in x.phase c k b s x) w) (phase : Phase) (opened : Deletion) (count header resume stop present : ℕ) (row : Times) (base n : ℕ) where
  -- the state at column i, at place p
  abbrev pub state : ℕ → ℕ → Cursor
  state i p = cursor p phase opened (hand i count header resume stop present row)

  -- what follows the last cell, which ends at p
  abbrev pub behind : ℕ → Walked
  behind p = pick (ltb p stop) (refused LeftOver Data p) (item_walk c s k b w 0 opened p)

  module _ (steps : (x : Cursor) → step_in phase c k b s x ≡ cells_answer c k b s x base n) (few : n ≤ 63) (known : present ≤ columns n) (inside : stop ≤ length s) where
    good : (i p : ℕ) → i ≤ n → p ≤ stop → bad_cells n (length s) (state i p) ≡ false
    unfolding bad_cells outside pick bind
    good i p l h = rw (le-ltb (length s) stop inside, le-ltb stop p h, le-ltb n i l) (le-ltb (columns n) present known)

    answer : (i p : ℕ) → i ≤ n → p ≤ stop → step_in phase c k b s (state i p) ≡ handed (cells_step c k b s (state i p) base)
    unfolding cells_answer pick
    answer i p l h = steps (state i p) ∙ ap (λ t. pick t bad_state (handed (cells_step c k b s (state i p) base))) (good i p l h)

    cells_turn : (i p : ℕ) → i ≤ n → p ≤ stop → w (state i p) ≡ follow (handed (cells_step c k b s (state i p) base)) w
    cells_turn i p l h = turns (state i p) ∙ ap (λ y. follow y w) (answer i p l h)

    -- a step, where the columns from i on that have a cell are m
    abbrev step_of : ℕ → ℕ → ℕ → Got Handed
    step_of i p m =
        pick (eqb m 0)
        (pick (ltb p stop) (bad LeftOver p) (item_step c k b s 0 opened p))
        (cell_step c b s (state 0 p) base (i + count_trailing_zeros 64 m))

    step_as : (i p m : ℕ) → m ≡ present / 2 ^ i → cells_step c k b s (state i p) base ≡ step_of i p m
    unfolding cells_step bind cell_step behind_cell
    step_as i p m e = ap (step_of i p) (sym e)

    skip_none : (i p m : ℕ) → m ≡ 0 → step_of i p m ≡ step_of (i + 1) p (m / 2)
    unfolding pick
    skip_none i p m e = rw e

    skip_some : (i p m : ℕ) → (m ≡ 0 → ⊥) → m % 2 ≡ 0 → m < 18446744073709551616 → step_of i p m ≡ step_of (i + 1) p (m / 2)
    unfolding pick
    skip_some i p m f e l =
        rw (ne_eqb m 0 f, ne_eqb (m / 2) 0 (λ z. f (omega arith)))
        (ap (cell_step c b s (state 0 p) base) (ap (λ q. i + q) (trailing_even m e (positive m f) l) ∙ omega arith))
      where
        positive : (q : ℕ) → (q ≡ 0 → ⊥) → 0 < q
        positive zero g = absurd (g refl)
        positive (suc q) g = omega arith

    -- a column that has none does not matter
    skip : (i p m : ℕ) → m % 2 ≡ 0 → m < 18446744073709551616 → step_of i p m ≡ step_of (i + 1) p (m / 2)
    skip i p m e l = go (eqb m 0) refl
      where
        go : (t : Bool) → eqb m 0 ≡ t → step_of i p m ≡ step_of (i + 1) p (m / 2)
        go true d = skip_none i p m (eqb-true m 0 d)
        go false d = skip_some i p m (eqb-false m 0 d) e l

    module _ (i p m : ℕ) (l : i ≤ n) (h : p ≤ stop) (e : m ≡ present / 2 ^ i) where
      turn : w (state i p) ≡ follow (handed (step_of i p m)) w
      turn = cells_turn i p l h ∙ ap (λ y. follow (handed y) w) (step_as i p m e)

      -- no cell is left
      end_walk : m ≡ 0 → w (state i p) ≡ behind p
      unfolding pick
      end_walk z = turn ∙ ap (λ q. follow (handed (step_of i p q)) w) z ∙ follow_pick (ltb p stop) LeftOver p (item_step c k b s 0 opened p) w

      -- column i has a cell
      cell_walk : m % 2 ≡ 1 → w (state i p) ≡ run (cell_at b row (get_or c (base + 16 * i + 3) 0) s p stop) (λ v q. add (cell_item i v) (w (state (i + 1) q)))
      unfolding pick cell_step behind_cell bind run
      cell_walk z =
          turn
          ∙ ap (λ y. follow (handed y) w) (rw (ne_eqb m 0 (λ f. omega arith)) (ap (cell_step c b s (state 0 p) base) (ap (λ q. i + q) (trailing_odd m z) ∙ omega arith)))
          ∙ run_handed (cell_step c b s (state 0 p) base i) w
          ∙ run_on (cell_at b row (get_or c (base + 16 * i + 3) 0) s p stop) _ _

      -- column i has none
      skip_walk : m % 2 ≡ 0 → i + 1 ≤ n → w (state i p) ≡ w (state (i + 1) p)
      skip_walk z r =
          turn
          ∙ ap (λ y. follow (handed y) w) (skip i p m z (rw e (present_fits n present few known i)) ∙ sym (step_as (i + 1) p (m / 2) (ap (λ q. q / 2) e ∙ present_next present i)))
          ∙ sym (cells_turn (i + 1) p r h)

    -- from column i on
    abbrev Walks : ℕ → ℕ → ℕ → ℕ → ℕ → Type 0
    Walks j i p m a = w (state i p) ≡ run (cells_at b row (widths_at c a j) m s p stop) (λ cs q. adds (cells_listed i cs) (behind q))

    module _ (j i p m a : ℕ) (u : i + suc j ≡ n) (h : p ≤ stop) (e : m ≡ present / 2 ^ i) (ih : (q : ℕ) → q ≤ stop → Walks j (i + 1) q (m / 2) (a + 16)) where
      walk_none : m % 2 ≡ 0 → Walks (suc j) i p m a
      unfolding run
      walk_none z =
          skip_walk i p m (omega arith) h e z (omega arith)
          ∙ ih p h
          ∙ sym (ap (λ y. run y (λ cs q. adds (cells_listed i cs) (behind q))) (cells_none b row c s a j m p stop z) ∙ run_on (cells_at b row (widths_at c (a + 16) j) (m / 2) s p stop) _ _)

      walk_some : m % 2 ≡ 1 → a ≡ base + 16 * i → Walks (suc j) i p m a
      unfolding run
      walk_some z f =
          cell_walk i p m (omega arith) h e z
          ∙ ap (λ q. run (cell_at b row (get_or c q 0) s p stop) (λ v q. add (cell_item i v) (w (state (i + 1) q)))) (omega arith)
          ∙ run_same (cell_at b row (get_or c (a + 3) 0) s p stop) _ (λ v q. run (on (cells_at b row (widths_at c (a + 16) j) (m / 2) s q stop) (λ cs r. got (some v ∷ cs) r)) (λ cs q. adds (cells_listed i cs) (behind q))) next
          ∙ sym (ap (λ y. run y (λ cs q. adds (cells_listed i cs) (behind q))) (cells_some b row c s a j m p stop z) ∙ run_on (cell_at b row (get_or c (a + 3) 0) s p stop) _ _)
        where
          next : (v : Cell) (q : ℕ) → cell_at b row (get_or c (a + 3) 0) s p stop ≡ got v q
              → add (cell_item i v) (w (state (i + 1) q)) ≡ run (on (cells_at b row (widths_at c (a + 16) j) (m / 2) s q stop) (λ cs r. got (some v ∷ cs) r)) (λ cs q. adds (cells_listed i cs) (behind q))
          next v q d =
              ap (add (cell_item i v)) (ih q ((cell_gives b row (get_or c (a + 3) 0) s p stop).given v q d).1.within)
              ∙ add_run (cell_item i v) (cells_at b row (widths_at c (a + 16) j) (m / 2) s q stop) _
              ∙ run_same (cells_at b row (widths_at c (a + 16) j) (m / 2) s q stop) _ _ (λ cs r g. add_adds (cell_item i v) (cells_listed (i + 1) cs) (behind r))
              ∙ sym (run_on (cells_at b row (widths_at c (a + 16) j) (m / 2) s q stop) _ _)

    pub cells_walk : (j i p m a : ℕ) → i + j ≡ n → p ≤ stop → m ≡ present / 2 ^ i → a ≡ base + 16 * i → Walks j i p m a
    cells_walk zero i p m a u h e f =
        end_walk i p m (omega arith) h e (e ∙ ap (λ q. present / 2 ^ q) (omega arith) ∙ none_left n present few known)
        ∙ sym (run_got _ [] p _ (cells_last b row c s a m p stop) ∙ adds_none (behind p))
    cells_walk (suc j) i p m a u h e f = go (eqb (m % 2) 1) refl (λ q r. cells_walk j (i + 1) q (m / 2) (a + 16) (omega arith) r (ap (λ z. z / 2) e ∙ present_next present i) (omega arith))
      where
        go : (t : Bool) → eqb (m % 2) 1 ≡ t → ((q : ℕ) → q ≤ stop → Walks j (i + 1) q (m / 2) (a + 16)) → Walks (suc j) i p m a
        go true d ih = walk_some j i p m a u h e ih (eqb-true (m % 2) 1 d) f
        go false d ih = let z = eqb-false (m % 2) 1 d in walk_none j i p m a u h e ih (odd_or (m % 2) z (omega arith))
          where
            odd_or : (r : ℕ) → (r ≡ 1 → ⊥) → r < 2 → r ≡ 0
            odd_or zero g l = refl
            odd_or (suc r) g l = absurd (g (omega arith))
