-- The records of cells, stored by a loop that goes from one column that has a cell to the next. Assumes nothing.
use mathlib.Core.Path.{◌≡◌, refl, sym, ap, ◌∙◌}
use mathlib.Core.Bool.{Bool, true, false}
use mathlib.Core.List.{List, [], ◌∷◌, ◌++◌}
use mathlib.Core.Option.{Option, none, some}
use Prim.Native.Nat.{ℕ, zero, suc, ◌+◌, ◌*◌, ◌/◌, ◌%◌, ◌^◌, ◌≤◌, ◌<◌}
use native.Mathlib.Omega.{arith}
use native.Mathlib.Nat.{pow-suc}
use borrow.Author.Tests.{eq-eqb, ne_eqb}
use lib.Count.{count_trailing_zeros, under}
use lib.Dec.{ltb}
use lib.ListN.{length, get_or}
use lib.Pow.{shr-shr, shr_le, pow_pos}
use Rattle.common.specs.Choose.{pick}
use Rattle.common.specs.Got.{Got, got, bad, on, Took}
use Rattle.common.specs.Store.{Room, Puts}
use Rattle.common.specs.declared.refusal.Fault.TheVariants.{LeftOver}
use Rattle.common.specs.declared.times.Bases.{Bases}
use Rattle.common.proofs.Gives.{never, got_value, got_place}
use Rattle.data_cell.specs.Cells.{cell_at}
use Rattle.data_cell.specs.declared.cells.Times.{Times}
use Rattle.data_cell.specs.declared.cells.Cell.{Cell}
use Rattle.data_clustering.specs.Prefixes.{widths_at}
use Rattle.data_row.specs.Bodies.{columns}
use Rattle.data_items.specs.Items.{cell_item}
use Rattle.data_items.specs.declared.Item.{Item}
use Rattle.data_contents.specs.Contents.{cells_at, cells_listed}
use Rattle.data_contents.proofs.Follows.{parted}
use Rattle.list_count.specs.Counted.{whole_cells_at}
use Rattle.list_call.specs.Records.{record_of, records_of}
use Rattle.list_call.specs.Parts.{cells_of, Fitting}
use Rattle.list_call.proofs.Writing.{Writing, writing_none, writing_same, writing_end, writing_room, writing_more}

module _ (b : Bases) (row : Times) (c s : List ℕ) (stop : ℕ) where
  abbrev Cells : ℕ → ℕ → ℕ → ℕ → Got (List (Option Cell))
  Cells a j m p = cells_at b row (widths_at c a j) m s p stop

  cells_some : (a j m p : ℕ) → m % 2 ≡ 1 → Cells a (suc j) m p ≡ on (cell_at b row (get_or c (a + 3) 0) s p stop) (λ v q. on (Cells (a + 16) j (m / 2) q) (λ cs r. got (some v ∷ cs) r))
  unfolding cells_at widths_at pick
  cells_some a j m p e = rw (eq-eqb (m % 2) 1 e)

  cells_none : (a j m p : ℕ) → m % 2 ≡ 0 → Cells a (suc j) m p ≡ on (Cells (a + 16) j (m / 2) p) (λ cs r. got (none ∷ cs) r)
  unfolding cells_at widths_at pick
  cells_none a j m p e = rw (ne_eqb (m % 2) 1 (λ f. omega arith))

  cells_last : (a m p : ℕ) → Cells a 0 m p ≡ got [] p
  unfolding cells_at widths_at
  cells_last a m p = refl

  -- no column has a cell
  cells_end : (i a j m p : ℕ) (cs : List (Option Cell)) (n : ℕ) → m ≡ 0 → Cells a j m p ≡ got cs n → cells_listed i cs ≡ []
  cells_end i a zero m p cs n e d = ap (cells_listed i) (sym (got_value (sym (cells_last a m p) ∙ d)))
  cells_end i a (suc j) m p cs n e d =
      let h = parted _ _ cs n (sym (cells_none a j m p (omega arith)) ∙ d) in
      ap (cells_listed i) (sym (got_value h.rest)) ∙ cells_end (i + 1) (a + 16) j (m / 2) p h.value h.place (omega arith) h.is

  -- of j columns, whose cells are cs, those in m have a cell, the first of them t columns on
  record First (i a j m p t : ℕ) (cs : List (Option Cell)) (n : ℕ) : Type 0 where
    behind : ℕ
    among : j ≡ t + 1 + behind
    below : m / 2 ^ t / 2 < 2 ^ behind
    cell : Cell
    next : ℕ
    here : cell_at b row (get_or c (a + 16 * t + 3) 0) s p stop ≡ got cell next
    cells : List (Option Cell)
    rest : Cells (a + 16 * t + 16) behind (m / 2 ^ t / 2) next ≡ got cells n
    items : cells_listed i cs ≡ cell_item (i + t) cell ∷ cells_listed (i + t + 1) cells

  halved : (m t : ℕ) → m / 2 / 2 ^ t ≡ m / 2 ^ suc t
  halved m t = shr-shr m 1 t ∙ ap (λ (x : ℕ). m / 2 ^ x) (omega arith)

  first_here : (i a j m p : ℕ) (cs : List (Option Cell)) (n : ℕ) → m % 2 ≡ 1 → m / 2 < 2 ^ j → Cells a (suc j) m p ≡ got cs n → First i a (suc j) m p 0 cs n
  first_here i a j m p cs n e l d =
      let h = parted _ _ cs n (sym (cells_some a j m p e) ∙ d) in
      let k = parted _ _ cs n h.rest in
      let f : m ≡ m / 2 ^ 0 = omega arith in
      let g : a + 16 * 0 ≡ a = omega arith in
      let u : i + 0 ≡ i = omega arith in
      record {
        behind = j;
        among = omega arith;
        below = rw (← f) l;
        cell = h.value;
        next = h.place;
        here = rw g h.is;
        cells = k.value;
        rest = rw (g, ← f) (k.is ∙ ap (got k.value) (got_place k.rest));
        items = rw u (ap (cells_listed i) (sym (got_value k.rest)));
      }

  first_later : (i a j m p t : ℕ) (cs : List (Option Cell)) (n : ℕ) (ds : List (Option Cell)) → m % 2 ≡ 0 → cs ≡ none ∷ ds → First (i + 1) (a + 16) j (m / 2) p t ds n → First i a (suc j) m p (suc t) cs n
  first_later i a j m p t cs n ds e f h =
      let g : a + 16 + 16 * t ≡ a + 16 * suc t = omega arith in
      let u : i + 1 + t ≡ i + suc t = omega arith in
      record {
        behind = h.behind;
        among = omega (arith, h.among);
        below = rw (← halved m t) h.below;
        cell = h.cell;
        next = h.next;
        here = rw (← g) h.here;
        cells = h.cells;
        rest = rw (← g, ← halved m t) h.rest;
        items = ap (cells_listed i) f ∙ h.items ∙ rw u refl;
      }

  first : (d i a j m p : ℕ) (cs : List (Option Cell)) (n : ℕ) → j ≤ d → 0 < m → m < 2 ^ j → Cells a j m p ≡ got cs n → First i a j m p (count_trailing_zeros d m) cs n
  unfolding count_trailing_zeros
  first d i a zero m p cs n l h k e = absurd (omega arith)
  first zero i a (suc j) m p cs n l h k e = absurd (omega arith)
  first (suc d) i a (suc j) m p cs n l h k e =
      go (m % 2) refl (small (pow-suc 2 j)) (λ z.
      let y = parted _ _ cs n (sym (cells_none a j m p z) ∙ e) in
      first_later i a j m p (count_trailing_zeros d (m / 2)) cs n y.value z (sym (got_value y.rest))
      (first d (i + 1) (a + 16) j (m / 2) p y.value n (omega arith) (omega arith) (small (pow-suc 2 j)) (y.is ∙ ap (got y.value) (got_place y.rest))))
    where
      small : 2 ^ suc j ≡ 2 ^ j * 2 → m / 2 < 2 ^ j
      small z = omega arith

      go : (r : ℕ) → m % 2 ≡ r → m / 2 < 2 ^ j → (m % 2 ≡ 0 → First i a (suc j) m p (suc (count_trailing_zeros d (m / 2))) cs n) → First i a (suc j) m p (under r (count_trailing_zeros d (m / 2))) cs n
      go zero z q ih = ih z
      go (suc r) z q ih = first_here i a j m p cs n (omega arith) q e

-- ---- the loop: the columns that are left from column i on, those of them that have a cell, and their records
pub record Putting (R : List ℕ) (b : Bases) (row : Times) (c s : List ℕ) (stop : ℕ) (d₀ d : List ℕ) (to left column i p out : ℕ) : Type 0 where
  pub columns : ℕ
  pub inside : column + 16 * columns ≤ length c
  pub few : i + columns ≤ 63
  pub known : left < 2 ^ columns
  pub cells : List (Option Cell)
  pub place : ℕ
  pub is : cells_at b row (widths_at c column columns) left s p stop ≡ got cells place
  pub writing : Writing R d₀ d to out (records_of (cells_listed i cells))

filled_as : (cs : List (Option Cell)) (n : ℕ) (t : Bool) (ds : List (Option Cell)) (q : ℕ) → pick t (bad LeftOver q) (got ds q) ≡ got cs n → got ds q ≡ got cs n
unfolding pick
filled_as cs n true ds q e = never e
filled_as cs n false ds q e = e

whole_cells : (b : Bases) (row : Times) (ws : List ℕ) (m : ℕ) (s : List ℕ) (p stop : ℕ) (cs : List (Option Cell)) (n : ℕ) → whole_cells_at b row ws m s p stop ≡ got cs n → cells_at b row ws m s p stop ≡ got cs n
unfolding whole_cells_at
whole_cells b row ws m s p stop cs n e =
    let h = parted (cells_at b row ws m s p stop) _ cs n e in
    h.is ∙ filled_as cs n (ltb h.place stop) h.value h.place h.rest

pub cells_of_lem : (x : Got (List (Option Cell))) (cs : List (Option Cell)) (n : ℕ) → x ≡ got cs n → cells_of x ≡ cells_listed 0 cs
unfolding cells_of
cells_of_lem x cs n e = rw e refl

module _ (b : Bases) (row : Times) (c s : List ℕ) (stop base k present at : ℕ) (d : List ℕ) (to : ℕ) where
  pub putting_none : base + 16 * k ≤ length c → k ≤ 63 → present ≤ columns k
      → Fitting (whole_cells_at b row (widths_at c base k) present s at stop) (cells_of (whole_cells_at b row (widths_at c base k) present s at stop)) d to
      → Putting (records_of (cells_of (whole_cells_at b row (widths_at c base k) present s at stop))) b row c s stop d d to present base 0 at to
  unfolding columns
  putting_none h l i f = record {
    columns = k;
    inside = h;
    few = omega arith;
    known = let p : 0 < 2 ^ k = pow_pos k in omega (arith, i);
    cells = f.value;
    place = f.place;
    is = whole_cells b row (widths_at c base k) present s at stop f.value f.place f.is;
    writing = rw (cells_of_lem _ f.value f.place f.is) (writing_none (records_of (cells_listed 0 f.value)) d to (rw (cells_of_lem _ f.value f.place f.is) at f.room));
  }

module _ (R : List ℕ) (b : Bases) (row : Times) (c s : List ℕ) (stop : ℕ) (d₀ d : List ℕ) (to left column i p out : ℕ) (h : Putting R b row c s stop d₀ d to left column i p out) where
  pub putting_same : length d ≡ length d₀
  putting_same = writing_same R d₀ d to out _ h.writing

  pub putting_end : left ≤ 0 → Puts d₀ d to R out
  unfolding records_of
  putting_end l = writing_end R d₀ d to out _ h.writing (ap records_of (cells_end b row c s stop i column h.columns left p h.cells h.place (omega arith) h.is))

  module _ (l : 0 < left) where
    next : First b row c s stop i column h.columns left p (count_trailing_zeros 64 left) h.cells h.place
    next = first b row c s stop 64 i column h.columns left p h.cells h.place (omega (arith, h.few)) l h.known h.is

    pub putting_skips : count_trailing_zeros 64 left < 64
    putting_skips = omega (arith, next.among, h.few)

    pub putting_index : column + 16 * count_trailing_zeros 64 left + 3 < length c
    putting_index = omega (arith, next.among, h.inside)

    -- none of the sums is too large
    pub putting_cast : count_trailing_zeros 64 left < 18446744073709551616
    putting_cast = omega (arith, putting_skips)

    pub putting_product : 16 * count_trailing_zeros 64 left < 18446744073709551616
    putting_product = omega (arith, putting_skips)

    pub putting_sum : i + count_trailing_zeros 64 left < 18446744073709551616
    putting_sum = omega (arith, next.among, h.few)

    pub putting_sum_next : i + count_trailing_zeros 64 left + 1 < 18446744073709551616
    putting_sum_next = omega (arith, next.among, h.few)

    module _ (k : length c < 2 ^ 64) where
      pub putting_column : column + 16 * count_trailing_zeros 64 left < 18446744073709551616
      putting_column = omega (arith, putting_index)

      pub putting_width : column + 16 * count_trailing_zeros 64 left + 3 < 18446744073709551616
      putting_width = omega (arith, putting_index)

      pub putting_next : column + 16 * count_trailing_zeros 64 left + 16 < 18446744073709551616
      putting_next = omega (arith, next.among, h.inside)

    pub putting_less : left / 2 ^ count_trailing_zeros 64 left / 2 < left
    putting_less = omega (arith, shr_le left (count_trailing_zeros 64 left))

    pub putting_took : Took (cell_at b row (get_or c (column + 16 * count_trailing_zeros 64 left + 3) 0) s p stop)
    putting_took = record { value = next.cell; place = next.next; is = next.here }

    module _ (v : Cell) (q : ℕ) (e : got v q ≡ cell_at b row (get_or c (column + 16 * count_trailing_zeros 64 left + 3) 0) s p stop) where
      module _ (it : Item) (g : it ≡ cell_item (i + count_trailing_zeros 64 left) v) where
        same_cell : next.cell ≡ v
        same_cell = got_value (sym next.here ∙ sym e)

        same_next : next.next ≡ q
        same_next = got_place (sym next.here ∙ sym e)

        records : records_of (cells_listed i h.cells) ≡ record_of it ++ records_of (cells_listed (i + count_trailing_zeros 64 left + 1) next.cells)
        unfolding records_of
        records = ap records_of next.items ∙ ap (λ (x : Item). record_of x ++ records_of (cells_listed (i + count_trailing_zeros 64 left + 1) next.cells)) (ap (cell_item (i + count_trailing_zeros 64 left)) same_cell ∙ sym g)

        pub putting_room : Room d out (record_of it)
        putting_room = writing_room R d₀ d to out _ h.writing _ _ records

        pub putting_more : (d' : List ℕ) (n : ℕ) → Puts d d' out (record_of it) n
            → Putting R b row c s stop d₀ d' to (left / 2 ^ count_trailing_zeros 64 left / 2) (column + 16 * count_trailing_zeros 64 left + 16) (i + count_trailing_zeros 64 left + 1) q n
        putting_more d' n w = record {
          columns = next.behind;
          inside = omega (arith, next.among, h.inside);
          few = omega (arith, next.among, h.few);
          known = next.below;
          cells = next.cells;
          place = h.place;
          is = rw (← same_next) next.rest;
          writing = writing_more R d₀ d to out _ h.writing _ _ records d' n w;
        }

pub ruleset putting = (putting_none, putting_same, putting_end, putting_skips, putting_index, putting_cast, putting_product, putting_sum, putting_sum_next, putting_column, putting_width, putting_next, putting_less, putting_took, putting_room, putting_more)
