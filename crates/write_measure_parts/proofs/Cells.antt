-- Cells measured one by one: the loop goes from one cell to the next, they are taken column by column. Assumes nothing.
use mathlib.Core.Path.{◌≡◌, refl, sym, ap, ◌∙◌}
use mathlib.Core.Bool.{false}
use mathlib.Core.List.{List, [], ◌∷◌}
use mathlib.Core.Option.{Option, some}
use Prim.Native.Nat.{ℕ, zero, suc, ◌+◌, ◌-◌, ◌*◌, ◌%◌, ◌^◌, ◌≤◌, ◌<◌}
use native.Mathlib.Omega.{arith}
use native.Mathlib.Nat.{pow-suc, mul-add, mul_assoc, pow-le-pow_right}
use lib.Dec.{eqb, eqb→eq, lit<}
use lib.ListN.{length, get_or, length-append}
use Rattle.std.proofs.Common.{Ok, Err}
use Rattle.common.specs.Got.{Got, got, bad, on, Reading, said}
use Rattle.common.specs.declared.reading.Bad.{Bad}
use Rattle.common.specs.declared.times.Bases.{Bases}
use Rattle.common.proofs.Finite.{below_at}
use Rattle.common.proofs.Said.{said_got, said_not, tried, failed}
use Rattle.data_cell.specs.declared.cells.Times.{Times}
use Rattle.data_cell.specs.declared.cells.Cell.{Cell}
use Rattle.data_clustering.specs.Prefixes.{widths_at}
use Rattle.data_items.specs.declared.Item.{Item}
use Rattle.write_form.specs.Views.{show_cell, show_cells}
use Rattle.write_form.specs.Cells.{cell_form}
use Rattle.write_form.specs.Rows.{missing_of, cells_bytes}
use Rattle.write_accept.specs.Fields.{item_of}
use Rattle.write_accept.specs.Records.{record_at}
use Rattle.write_accept.specs.Tests.{bad_cell}
use Rattle.write_accept.specs.Entries.{cell_of, taken_cells}
use Rattle.write_accept.proofs.Goods.{Good, record_gives}
use Rattle.write_cell.specs.Sizes.{cell_size}
use Rattle.write_cell.proofs.Sizes.{cell_size_most}
use Rattle.list_count.proofs.Follows.{on_got, on_bad}
use Rattle.common.proofs.Gives.{never}
use Rattle.write_measure_parts.specs.Lengths.{cell_column, columns_from, cells_measured, Known}
use Rattle.write_measure_parts.proofs.Skips.{cell_here, cell_other, nones, cells_some, cells_skip}
use Rattle.write_measure_parts.proofs.Sizes.{cell_short, cell_length}

-- ---- the bits of columns
power_up : (i j : ℕ) → i ≤ j → 2 ^ i ≤ 2 ^ j
power_up i j l = pow-le-pow_right (lit< tt) l

shifted : (k : ℕ) → k ≤ 63 → 1 * 2 ^ k % 18446744073709551616 ≡ 2 ^ k
shifted k h = eqb→eq _ _ (below_at 64 (λ k. eqb (1 * 2 ^ k % 18446744073709551616) (2 ^ k)) tt k (omega arith))

pub columns_below : (i j : ℕ) → i ≤ j → j ≤ 63 → 1 * 2 ^ i % 18446744073709551616 ≤ 1 * 2 ^ j % 18446744073709551616
columns_below i j l h = rw (shifted i (omega arith), shifted j h) (power_up i j l)

pub columns_are : (i j : ℕ) → i ≤ j → j ≤ 63 → 1 * 2 ^ j % 18446744073709551616 - 1 * 2 ^ i % 18446744073709551616 ≡ columns_from i j
unfolding columns_from
columns_are i j l h = rw (shifted i (omega arith), shifted j h) refl

pub ruleset columns = (columns_below, columns_are)

-- ---- d missing columns before others
module _ (bytes : List ℕ) where
  missing_before : (i d : ℕ) (cs : List (Option Cell)) → 2 ^ i * missing_of (show_cells bytes (nones d cs)) ≡ 2 ^ (i + d) - 2 ^ i + 2 ^ (i + d) * missing_of (show_cells bytes cs)
  unfolding missing_of
  missing_before i zero cs =
      let e : i + 0 ≡ i = omega arith in
      rw e (omega arith)
  missing_before i (suc d) cs =
      let m : ℕ = missing_of (show_cells bytes (nones d cs)) in
      let e : i + suc d ≡ i + 1 + d = omega arith in
      let f : 2 ^ (i + 1) ≡ 2 ^ i * 2 = ap (λ (k : ℕ). 2 ^ k) (omega arith) ∙ pow-suc 2 i in
      let g : 2 ^ (i + 1) * m ≡ 2 ^ i * (2 * m) = ap (λ (k : ℕ). k * m) f ∙ mul_assoc (2 ^ i) 2 m in
      let h = missing_before (i + 1) d cs in
      let u = power_up (i + 1) (i + 1 + d) (omega arith) in
      rw e (omega (arith, mul-add (2 ^ i) 1 (2 * m), f, g, h, u))

  module _ (b : Bases) (row : Times) (c : List ℕ) where
    cells_before : (d a r : ℕ) (cs : List (Option Cell)) → cells_bytes b row (widths_at c a (d + r)) (show_cells bytes (nones d cs)) ≡ cells_bytes b row (widths_at c (a + 16 * d) r) (show_cells bytes cs)
    unfolding cells_bytes widths_at
    cells_before zero a r cs =
        let e : a + 16 * 0 ≡ a = omega arith in
        let f : 0 + r ≡ r = omega arith in
        rw (e, f) refl
    cells_before (suc d) a r cs =
        let e : a + 16 + 16 * d ≡ a + 16 * suc d = omega arith in
        let f : suc d + r ≡ suc (d + r) = omega arith in
        rw (f, ← e) (cells_before d (a + 16) r cs)

-- m has the bits of the missing columns before i, and n is how long the cells before are
unfoldable pub Measure : Bases → Times → List ℕ → ℕ → ℕ → ℕ → List ℕ → Got (List (Option Cell)) → Got (ℕ × ℕ)
Measure b row bytes i m n ws (got cs q) = got (m + 2 ^ i * missing_of (show_cells bytes cs), n + length (cells_bytes b row ws (show_cells bytes cs))) q
Measure b row bytes i m n ws (bad f p) = bad f p

same : (h k m n q : ℕ) → h ≡ k → m ≡ n → ◌≡◌ {A = Got (ℕ × ℕ)} (got (h, m) q) (got (k, n) q)
same h k m n q f g = rw (f, g) refl

module _ (b : Bases) (row : Times) (bytes c : List ℕ) where
  measure_none : (ws : List ℕ) (x : Got (List (Option Cell))) → Measure b row bytes 0 0 0 ws x ≡ cells_measured b row bytes ws x
  unfolding Measure cells_measured
  measure_none ws (got cs q) = same _ _ _ _ q (omega arith) (omega arith)
  measure_none ws (bad f p) = refl

  measure_skip : (d i m n a r : ℕ) (x : Got (List (Option Cell)))
      → Measure b row bytes i m n (widths_at c a (d + r)) (on x (λ cs q. got (nones d cs) q)) ≡ Measure b row bytes (i + d) (m + columns_from i (i + d)) n (widths_at c (a + 16 * d) r) x
  unfolding Measure columns_from on
  measure_skip d i m n a r (got cs q) =
      same _ _ _ _ q (omega (arith, missing_before bytes i d cs)) (ap (λ (x : List ℕ). n + length x) (cells_before bytes b row c d a r cs))
  measure_skip d i m n a r (bad f p) = refl

  measure_more : (i m n w : ℕ) (ws : List ℕ) (y : Item) (x : Got (List (Option Cell))) → bad_cell bytes i w y ≡ false
      → Measure b row bytes i m n (w ∷ ws) (on x (λ cs q. got (some (cell_of y) ∷ cs) q)) ≡ Measure b row bytes (i + 1) m (n + cell_size b row w (cell_of y)) ws x
  unfolding Measure missing_of cells_bytes on
  measure_more i m n w ws y (got cs q) e =
      let k : ℕ = missing_of (show_cells bytes cs) in
      let f : 2 ^ (i + 1) ≡ 2 ^ i * 2 = ap (λ (k : ℕ). 2 ^ k) (omega arith) ∙ pow-suc 2 i in
      let g : 2 ^ (i + 1) * k ≡ 2 ^ i * (2 * k) = ap (λ (x : ℕ). x * k) f ∙ mul_assoc (2 ^ i) 2 k in
      same _ _ _ _ q (omega (arith, g))
      (omega (arith, length-append (cell_form b row w (show_cell bytes (cell_of y))) (cells_bytes b row ws (show_cells bytes cs)), cell_length bytes i w y e b row))
  measure_more i m n w ws y (bad f p) e = refl

  measure_last : (i m n p : ℕ) → Measure b row bytes i m n [] (got [] p) ≡ got (m, n) p
  unfolding Measure missing_of cells_bytes
  measure_last i m n p = same _ _ _ _ p (omega arith) (omega arith)

-- the cells of k columns, of which those before i are measured; z is what measuring all gives
pub record Celling (z : Got (ℕ × ℕ)) (b : Bases) (row : Times) (bytes c s : List ℕ) (base k i p m n : ℕ) : Type 0 where
  pub left : ℕ
  pub among : i + left ≡ k
  pub few : k ≤ 63
  pub inside : base + 16 * k ≤ length c
  pub short : length bytes ≤ 1073741824
  pub within : p ≤ length s
  pub table : length s ≤ 1073741824
  pub known : m < 2 ^ i
  pub fits : n ≤ 1073741861 * i
  pub rest : Measure b row bytes i m n (widths_at c (base + 16 * i) left) (taken_cells b bytes i (widths_at c (base + 16 * i) left) s p (length s)) ≡ z

pub celling_none : (b : Bases) (row : Times) (bytes c s : List ℕ) (base k at : ℕ) → base + 16 * k ≤ length c → k ≤ 63 → length bytes ≤ 1073741824 → at ≤ length s → length s ≤ 1073741824
    → Celling (cells_measured b row bytes (widths_at c base k) (taken_cells b bytes 0 (widths_at c base k) s at (length s))) b row bytes c s base k 0 at 0 0
celling_none b row bytes c s base k at h l m w t =
    let e : base + 16 * 0 ≡ base = omega arith in
    record {
      left = k;
      among = omega arith;
      few = l;
      inside = h;
      short = m;
      within = w;
      table = t;
      known = lit< tt;
      fits = omega arith;
      rest = rw e (measure_none b row bytes c _ _);
    }

module _ (z : Got (ℕ × ℕ)) (b : Bases) (row : Times) (bytes c s : List ℕ) (base k i p m n : ℕ) (v : Celling z b row bytes c s base k i p m n) where
  pub celling_place : p ≤ 1073741824
  celling_place = omega (arith, v.within, v.table)

  pub celling_few : k ≤ 63
  celling_few = v.few

  pub celling_among : i ≤ k
  celling_among = omega (arith, v.among)

  -- d columns without a cell, before r more
  skipped : (d r : ℕ) → v.left ≡ d + r → ((e : ℕ) → e < d → i + e < k → i + e ≡ cell_column s p → ⊥)
      → Measure b row bytes (i + d) (m + columns_from i (i + d)) n (widths_at c (base + 16 * (i + d)) r) (taken_cells b bytes (i + d) (widths_at c (base + 16 * (i + d)) r) s p (length s)) ≡ z
  skipped d r e h =
      let f : base + 16 * (i + d) ≡ base + 16 * i + 16 * d = omega arith in
      rw f
      (sym (measure_skip b row bytes c d i m n (base + 16 * i) r _)
      ∙ ap (Measure b row bytes i m n (widths_at c (base + 16 * i) (d + r))) (sym (cells_skip b bytes c s (length s) d i (base + 16 * i) r p (λ x l. cell_other s p (cell_column s p) refl (i + x) (h x l (omega (arith, v.among, e))))))
      ∙ ap (λ (x : ℕ). Measure b row bytes i m n (widths_at c (base + 16 * i) x) (taken_cells b bytes i (widths_at c (base + 16 * i) x) s p (length s))) (sym e)
      ∙ v.rest)

  over : ((e : ℕ) → e < v.left → i + e < k → i + e ≡ cell_column s p → ⊥) → got (m + columns_from i k, n) p ≡ z
  unfolding widths_at taken_cells
  over h =
      let e = skipped v.left 0 (omega arith) h in
      let f : i + v.left ≡ k = v.among in
      sym (measure_last b row bytes c k (m + columns_from i k) n p) ∙ (rw f at e)

  module _ (j : ℕ) (told : j ≡ cell_column s p) where
    pub celling_before : (x : ℕ) → x ≡ columns_from i k → j < i → said (Ok ((m + x, n), p)) ≡ z
    unfolding said
    celling_before x e l = rw e (over (λ y h g d. omega (arith, told)))

    pub celling_behind : (x : ℕ) → x ≡ columns_from i k → k ≤ j → said (Ok ((m + x, n), p)) ≡ z
    unfolding said
    celling_behind x e l = rw e (over (λ y h g d. omega (arith, told)))

  pub celling_all : (x : ℕ) → x ≡ columns_from i k → m + x < 18446744073709551616
  unfolding columns_from
  celling_all x e =
      let u = power_up i k celling_among in
      let w = power_up k 63 v.few in
      omega (arith, v.known)

  module _ (j : ℕ) (l : i ≤ j) (h : j < k) where
    pub celling_bits : j ≤ 63
    celling_bits = omega (arith, v.few)

    pub celling_cast : 16 * j < 18446744073709551616
    celling_cast = omega (arith, v.few)

    pub celling_next : j + 1 < 18446744073709551616
    celling_next = omega (arith, v.few)

    pub celling_index : base + 16 * j + 3 < length c
    celling_index = omega (arith, v.inside)

    module _ (t : length c < 2 ^ 64) where
      pub celling_base : base + 16 * j < 18446744073709551616
      celling_base = omega (arith, v.inside)

      pub celling_width : base + 16 * j + 3 < 18446744073709551616
      celling_width = omega (arith, v.inside)

    new : m + columns_from i j < 2 ^ j
    unfolding columns_from
    new = let u = power_up i j l in omega (arith, v.known)

    pub celling_missing : (x : ℕ) → x ≡ columns_from i j → m + x < 18446744073709551616
    celling_missing x e = let u = power_up j 63 (omega (arith, v.few)) in omega (arith, new)

    module _ (told : j ≡ cell_column s p) where
      abbrev W : ℕ
      W = get_or c (base + 16 * j + 3) 0

      abbrev Rest : List ℕ
      Rest = widths_at c (base + 16 * j + 16) (k - j - 1)

      abbrev More : Item → ℕ → Got (List (Option Cell))
      More x q = on (taken_cells b bytes (j + 1) Rest s q (length s)) (λ cs r. got (some (cell_of x) ∷ cs) r)

      here : Measure b row bytes j (m + columns_from i j) n (W ∷ Rest) (on (record_at b (bad_cell bytes j W) s p (length s)) More) ≡ z
      unfolding widths_at
      here =
          let e : i + (j - i) ≡ j = omega arith in
          let f = skipped (j - i) (suc (k - j - 1)) (omega (arith, v.among)) (λ y a d g. omega (arith, told)) in
          ap (Measure b row bytes j (m + columns_from i j) n (W ∷ Rest)) (sym (cells_some b bytes c s (length s) j (base + 16 * j) (k - j - 1) p (cell_here s p j told (omega (arith, v.few)))))
          ∙ (rw e at f)

      module _ (r : Reading Item) (found : said r ≡ record_at b (bad_cell bytes j (get_or c (base + 16 * j + 3) 0)) s p (length s)) where
        pub celling_bad : (y : Bad) → r ≡ Err y → bad y.fault y.place ≡ z
        unfolding Measure
        celling_bad y e = ap (Measure b row bytes j (m + columns_from i j) n (W ∷ Rest)) (sym (on_bad _ y.fault y.place More (said_not r _ y found e))) ∙ here

        module _ (y : Item) (q : ℕ) (e : r ≡ Ok (y, q)) where
          got_as : record_at b (bad_cell bytes j W) s p (length s) ≡ got y q
          got_as = said_got r _ y q found e

          good : Good b (bad_cell bytes j W) s p (length s) y q
          good = (record_gives b _ s p (length s)).given y q got_as

          pub celling_length : (x : Cell) → x ≡ cell_of y → x.value.len ≤ 1073741824
          celling_length x f = rw f (cell_short bytes j W y good.right v.short)

          pub celling_size : (x : ℕ) → x ≤ 1073741861 → n + x < 18446744073709551616
          celling_size x f = omega (arith, v.fits, v.few)

          pub celling_less : length s - q < length s - p
          celling_less = omega (arith, good.next, good.within)

          pub celling_more : (x : ℕ) (d : Cell) (w : ℕ) → x ≡ columns_from i j → d ≡ cell_of y → w ≡ cell_size b row (get_or c (base + 16 * j + 3) 0) d
              → Celling z b row bytes c s base k (j + 1) q (m + x) (n + w)
          celling_more x d w f g t = rw (f, t, g) (record {
            left = k - j - 1;
            among = omega arith;
            few = v.few;
            inside = v.inside;
            short = v.short;
            within = omega (arith, good.within);
            table = v.table;
            known = let u = pow-suc 2 j in let a : 2 ^ (j + 1) ≡ 2 ^ suc j = ap (λ (k : ℕ). 2 ^ k) (omega arith) in omega (arith, new);
            fits = omega (arith, v.fits, cell_size_most b row W (cell_of y) (cell_short bytes j W y good.right v.short));
            rest = next;
          })
            where
              next : Measure b row bytes (j + 1) (m + columns_from i j) (n + cell_size b row W (cell_of y)) (widths_at c (base + 16 * (j + 1)) (k - j - 1)) (taken_cells b bytes (j + 1) (widths_at c (base + 16 * (j + 1)) (k - j - 1)) s q (length s)) ≡ z
              next =
                  let a : base + 16 * (j + 1) ≡ base + 16 * j + 16 = omega arith in
                  rw a
                  (sym (measure_more b row bytes c j (m + columns_from i j) n W Rest y _ good.right)
                  ∙ ap (Measure b row bytes j (m + columns_from i j) n (W ∷ Rest)) (sym (on_got _ y q More got_as))
                  ∙ here)

      -- the cells are known to be taken
      module _ (t : Known z) where
        sure : record_at b (bad_cell bytes j W) s p (length s) ≡ got (item_of s p) (p + 64)
        unfolding Measure
        sure = go (record_at b (bad_cell bytes j W) s p (length s)) refl
          where
            go : (x : Got Item) → record_at b (bad_cell bytes j W) s p (length s) ≡ x → x ≡ got (item_of s p) (p + 64)
            go (got y q) e = let g = (record_gives b (bad_cell bytes j W) s p (length s)).given y q e in rw (g.is, g.next) refl
            go (bad f q) e =
                let a : ◌≡◌ {A = Got (ℕ × ℕ)} (bad f q) (got t.value t.place) = ap (Measure b row bytes j (m + columns_from i j) n (W ∷ Rest)) (sym (on_bad _ f q More e)) ∙ here ∙ t.is in
                never a

        found : said (Ok (item_of s p, p + 64)) ≡ record_at b (bad_cell bytes j (get_or c (base + 16 * j + 3) 0)) s p (length s)
        unfolding said
        found = sym sure

        pub sizing_record : p + 64 ≤ length s
        sizing_record = ((record_gives b (bad_cell bytes j W) s p (length s)).given (item_of s p) (p + 64) sure).within

        pub sizing_place : p + 64 < 18446744073709551616
        sizing_place = omega (arith, sizing_record, v.table)

        pub sizing_length : (x : Cell) → x ≡ cell_of (item_of s p) → x.value.len ≤ 1073741824
        sizing_length x f = celling_length (Ok (item_of s p, p + 64)) found (item_of s p) (p + 64) refl x f

        pub sizing_less : length s - (p + 64) < length s - p
        sizing_less = omega (arith, sizing_record)

        pub sizing_more : (x : ℕ) (d : Cell) (w : ℕ) → x ≡ columns_from i j → d ≡ cell_of (item_of s p) → w ≡ cell_size b row (get_or c (base + 16 * j + 3) 0) d
            → Celling z b row bytes c s base k (j + 1) (p + 64) (m + x) (n + w)
        sizing_more x d w f g e = celling_more (Ok (item_of s p, p + 64)) found (item_of s p) (p + 64) refl x d w f g e

  pub sizing_size : (x : ℕ) → x ≤ 1073741861 → n + x < 18446744073709551616
  sizing_size x f = omega (arith, v.fits, v.few, v.among)

pub cells_known : (b : Bases) (row : Times) (bytes ws : List ℕ) (x : Got (List (Option Cell))) → Known x → Known (cells_measured b row bytes ws x)
unfolding cells_measured
cells_known b row bytes ws x t = record {
  value = (missing_of (show_cells bytes t.value), length (cells_bytes b row ws (show_cells bytes t.value)));
  place = t.place;
  is = rw t.is refl;
}

pub ruleset celling = (celling_none, celling_place, celling_few, celling_among, celling_before, celling_behind, celling_all, celling_bits, celling_cast, celling_next, celling_index, celling_base, celling_width, celling_missing, celling_bad, celling_length, celling_size, celling_less, celling_more, tried, failed, refl)

pub ruleset sizing = (celling_none, celling_place, celling_few, celling_among, celling_before, celling_behind, celling_all, celling_bits, celling_cast, celling_next, celling_index, celling_base, celling_width, celling_missing, sizing_record, sizing_place, sizing_length, sizing_less, sizing_more, sizing_size, cells_known, refl)
