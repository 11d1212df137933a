-- Clustering values measured one by one. Assumes nothing.
use mathlib.Core.Path.{◌≡◌, refl, sym, ap, ◌∙◌}
use mathlib.Core.Bool.{Bool, true, false}
use mathlib.Core.List.{List, [], ◌∷◌}
use Prim.Native.Nat.{ℕ, suc, ◌+◌, ◌-◌, ◌*◌, ◌%◌, ◌^◌, ◌≤◌, ◌<◌}
use native.Mathlib.Omega.{arith}
use native.Mathlib.Nat.{pow-suc, mul-add, mul_assoc, pow-le-pow_right}
use lib.Dec.{eqb, eqb→eq, lit<}
use lib.ListN.{length, get_or, length-append}
use Rattle.std.proofs.Common.{Ok, Err}
use Rattle.common.specs.Choose.{pick}
use Rattle.common.specs.Got.{Got, got, bad, on, Reading, said}
use Rattle.common.specs.declared.reading.Bad.{Bad}
use Rattle.common.specs.declared.times.Bases.{Bases}
use Rattle.common.proofs.Finite.{below_at}
use Rattle.common.proofs.Said.{said_got, said_not, tried, failed}
use Rattle.data_field.specs.declared.fields.Span.{Span}
use Rattle.data_clustering.specs.Prefixes.{widths_at}
use Rattle.data_items.specs.declared.Item.{Item}
use Rattle.write_form.specs.Views.{show_value, show_values}
use Rattle.write_form.specs.Clusterings.{header_of, clustering_bytes, values_bytes}
use Rattle.write_accept.specs.Fields.{item_of}
use Rattle.write_accept.specs.Records.{record_at}
use Rattle.write_accept.specs.Tests.{bad_clustering}
use Rattle.write_accept.specs.Entries.{value_of, taken_values, taken_prefix}
use Rattle.write_accept.proofs.Goods.{Good, record_gives}
use Rattle.write_cell.specs.Sizes.{value_size}
use Rattle.write_cell.proofs.Sizes.{value_size_most}
use Rattle.list_count.proofs.Follows.{on_got, on_bad}
use Rattle.common.proofs.Gives.{never}
use Rattle.write_measure_parts.specs.Lengths.{taken_clustering, is_over, empty_bit, clustering_measured, Known}
use Rattle.write_measure_parts.proofs.Sizes.{value_shown, value_short, value_length}

-- ---- the bit of an empty value
pub bit_is : (n i : ℕ) → i < 32 → n ≡ 0 → 1 * 2 ^ (2 * i) % 18446744073709551616 ≡ empty_bit n i
unfolding empty_bit pick
bit_is n i l e = rw e (eqb→eq _ _ (below_at 32 (λ i. eqb (1 * 2 ^ (2 * i) % 18446744073709551616) (4 ^ i)) tt i l))

pub bit_none : (n i : ℕ) → eqb n 0 ≡ false → 0 ≡ empty_bit n i
unfolding empty_bit pick
bit_none n i e = rw e refl

bit_most : (n i : ℕ) → empty_bit n i ≤ 4 ^ i
unfolding empty_bit pick
bit_most n i = go (eqb n 0)
  where
    go : (t : Bool) → pick t (4 ^ i) 0 ≤ 4 ^ i
    go true = omega arith
    go false = omega arith

-- ---- the values, one at a time
module _ (b : Bases) (bytes s : List ℕ) (end : ℕ) where
  abbrev More : Bool → ℕ → ℕ → List ℕ → ℕ → Got (List Span)
  More whole i w ws p = on (record_at b (bad_clustering bytes i w) s p end) (λ x n. on (taken_clustering whole b bytes (i + 1) ws s n end) (λ vs m. got (value_of x ∷ vs) m))

  values_none : (whole : Bool) (i p : ℕ) → taken_clustering whole b bytes i [] s p end ≡ got [] p
  unfolding taken_clustering taken_values taken_prefix
  values_none true i p = refl
  values_none false i p = refl

  values_stop : (whole : Bool) (i w : ℕ) (ws : List ℕ) (p : ℕ) → is_over whole s p ≡ true → taken_clustering whole b bytes i (w ∷ ws) s p end ≡ got [] p
  unfolding taken_clustering taken_prefix is_over pick
  values_stop true i w ws p e = let z : ◌≡◌ {A = ℕ} 0 1 = cc in absurd (omega arith)
  values_stop false i w ws p e = go (eqb (get_or s p 0) 5) e
    where
      go : (t : Bool) → pick t false true ≡ true → pick t (More false i w ws p) (got [] p) ≡ got [] p
      go true f = let z : ◌≡◌ {A = ℕ} 0 1 = cc in absurd (omega arith)
      go false f = refl

  values_more : (whole : Bool) (i w : ℕ) (ws : List ℕ) (p : ℕ) → is_over whole s p ≡ false → taken_clustering whole b bytes i (w ∷ ws) s p end ≡ More whole i w ws p
  unfolding taken_clustering taken_values taken_prefix is_over pick
  values_more true i w ws p e = refl
  values_more false i w ws p e = go (eqb (get_or s p 0) 5) e
    where
      go : (t : Bool) → pick t false true ≡ false → pick t (More false i w ws p) (got [] p) ≡ More false i w ws p
      go true f = refl
      go false f = let z : ◌≡◌ {A = ℕ} 0 1 = cc in absurd (omega arith)

-- i values before, with the bits h and n bytes
unfoldable pub Measure : List ℕ → ℕ → ℕ → ℕ → List ℕ → Got (List Span) → Got (ℕ × ℕ × ℕ)
Measure bytes i h n ws (got vs q) = got (i + length vs, h + 4 ^ i * header_of (show_values bytes vs), n + length (values_bytes ws (show_values bytes vs))) q
Measure bytes i h n ws (bad f p) = bad f p

same : (i j h k m n q : ℕ) → i ≡ j → h ≡ k → m ≡ n → ◌≡◌ {A = Got (ℕ × ℕ × ℕ)} (got (i, h, m) q) (got (j, k, n) q)
same i j h k m n q e f g = rw (e, f, g) refl

header_first : (p : ℕ) (t : Bool) (m : ℕ) → p * (pick t 1 0 + 4 * m) ≡ pick t p 0 + p * 4 * m
unfolding pick
header_first p true m = mul-add p 1 (4 * m) ∙ omega (arith, mul_assoc p 4 m)
header_first p false m = mul-add p 0 (4 * m) ∙ omega (arith, mul_assoc p 4 m)

module _ (bytes : List ℕ) where
  measure_none : (ws : List ℕ) (x : Got (List Span)) → Measure bytes 0 0 0 ws x ≡ clustering_measured bytes ws x
  unfolding Measure clustering_measured
  measure_none ws (got vs q) = same _ _ _ _ _ _ q (omega arith) (omega arith) (omega arith)
  measure_none ws (bad f p) = refl

  measure_last : (i h n : ℕ) (ws : List ℕ) (p : ℕ) → Measure bytes i h n ws (got [] p) ≡ got (i, h, n) p
  unfolding Measure header_of values_bytes
  measure_last i h n [] p = same _ _ _ _ _ _ p (omega arith) (omega arith) (omega arith)
  measure_last i h n (w ∷ ws) p = same _ _ _ _ _ _ p (omega arith) (omega arith) (omega arith)

  measure_more : (i h n w : ℕ) (ws : List ℕ) (y : Item) (x : Got (List Span)) → bad_clustering bytes i w y ≡ false
      → Measure bytes i h n (w ∷ ws) (on x (λ vs m. got (value_of y ∷ vs) m)) ≡ Measure bytes (i + 1) (h + empty_bit y.length i) (n + value_size w y.length) ws x
  unfolding Measure header_of values_bytes empty_bit on
  measure_more i h n w ws y (got vs q) e =
      let v : List ℕ = show_value bytes (value_of y) in
      let m : ℕ = header_of (show_values bytes vs) in
      let f : 4 ^ (i + 1) ≡ 4 ^ i * 4 = ap (λ (k : ℕ). 4 ^ k) (omega arith) ∙ pow-suc 4 i in
      let g : 4 ^ i * (pick (eqb (length v) 0) 1 0 + 4 * m) ≡ pick (eqb y.length 0) (4 ^ i) 0 + 4 ^ i * 4 * m = header_first (4 ^ i) (eqb (length v) 0) m ∙ ap (λ (k : ℕ). pick (eqb k 0) (4 ^ i) 0 + 4 ^ i * 4 * m) (value_shown bytes i w y e) in
      same _ _ _ _ _ _ q (omega arith)
      (rw f (omega (arith, g)))
      (omega (arith, length-append (clustering_bytes w v) (values_bytes ws (show_values bytes vs)), value_length bytes i w y e))
  measure_more i h n w ws y (bad f p) e = refl

-- the values of the columns that are left, from column i on, whose records stand in the schema from column on; z is what measuring all gives
pub record Valuing (z : Got (ℕ × ℕ × ℕ)) (whole : Bool) (b : Bases) (bytes c s : List ℕ) (k i column p h n : ℕ) : Type 0 where
  pub left : ℕ
  pub among : i + left ≡ k
  pub few : k ≤ 32
  pub inside : column + 16 * left ≤ length c
  pub short : length bytes ≤ 1073741824
  pub known : h < 4 ^ i
  pub fits : n ≤ 1073741833 * i
  pub rest : Measure bytes i h n (widths_at c column left) (taken_clustering whole b bytes i (widths_at c column left) s p (length s)) ≡ z

pub valuing_none : (whole : Bool) (b : Bases) (bytes c s : List ℕ) (k at : ℕ) → 16 + 16 * k ≤ length c → k ≤ 32 → length bytes ≤ 1073741824
    → Valuing (clustering_measured bytes (widths_at c 16 k) (taken_clustering whole b bytes 0 (widths_at c 16 k) s at (length s))) whole b bytes c s k 0 16 at 0 0
valuing_none whole b bytes c s k at h l m = record {
  left = k;
  among = omega arith;
  few = l;
  inside = h;
  short = m;
  known = lit< tt;
  fits = omega arith;
  rest = measure_none bytes _ _;
}

powers : (i : ℕ) → i ≤ 32 → 4 ^ i ≤ 18446744073709551616
powers i l = let h : 4 ^ i ≤ 4 ^ 32 = pow-le-pow_right (lit< tt) l in h

module _ (z : Got (ℕ × ℕ × ℕ)) (whole : Bool) (b : Bases) (bytes c s : List ℕ) (k i column p h n : ℕ) (v : Valuing z whole b bytes c s k i column p h n) where
  ended : (ws : List ℕ) → taken_clustering whole b bytes i ws s p (length s) ≡ got [] p → Measure bytes i h n ws (taken_clustering whole b bytes i ws s p (length s)) ≡ got (i, h, n) p
  ended ws e = ap (Measure bytes i h n ws) e ∙ measure_last bytes i h n ws p

  pub valuing_end : k ≤ i → said (Ok ((k, h, n), p)) ≡ z
  unfolding said widths_at
  valuing_end l =
      let e : v.left ≡ 0 = omega (arith, v.among) in
      let f : k ≡ i = omega (arith, v.among) in
      rw f (sym (ended [] (values_none b bytes s (length s) whole i p)) ∙ (rw e at v.rest))

  module _ (l : i < k) where
    more : v.left ≡ suc (v.left - 1)
    more = omega (arith, v.among)

    abbrev W : ℕ
    W = get_or c (column + 3) 0

    abbrev Rest : List ℕ
    Rest = widths_at c (column + 16) (v.left - 1)

    from : Measure bytes i h n (W ∷ Rest) (taken_clustering whole b bytes i (W ∷ Rest) s p (length s)) ≡ z
    unfolding widths_at
    from = ap (λ (x : ℕ). Measure bytes i h n (widths_at c column x) (taken_clustering whole b bytes i (widths_at c column x) s p (length s))) (sym more) ∙ v.rest

    pub valuing_over : (o : Bool) → o ≡ is_over whole s p → o ≡ true → said (Ok ((i, h, n), p)) ≡ z
    unfolding said
    valuing_over o e f = sym (ended (W ∷ Rest) (values_stop b bytes s (length s) whole i W Rest p (sym e ∙ f))) ∙ from

    pub valuing_index : column + 3 < length c
    valuing_index = omega (arith, v.inside, more)

    pub valuing_bit : i < 32
    valuing_bit = omega (arith, v.few)

    module _ (m : length c < 2 ^ 64) where
      pub valuing_width : column + 3 < 18446744073709551616
      valuing_width = omega (arith, v.inside, more)

      pub valuing_column : column + 16 < 18446744073709551616
      valuing_column = omega (arith, v.inside, more)

    module _ (r : Reading Item) (told : said r ≡ record_at b (bad_clustering bytes i (get_or c (column + 3) 0)) s p (length s)) where
      pub valuing_bad : (o : Bool) → o ≡ is_over whole s p → o ≡ false → (y : Bad) → r ≡ Err y → bad y.fault y.place ≡ z
      unfolding Measure
      valuing_bad o d g y e =
          ap (Measure bytes i h n (W ∷ Rest)) (sym (values_more b bytes s (length s) whole i W Rest p (sym d ∙ g) ∙ on_bad _ y.fault y.place _ (said_not r _ y told e))) ∙ from

      module _ (y : Item) (q : ℕ) (e : r ≡ Ok (y, q)) where
        got_as : record_at b (bad_clustering bytes i (get_or c (column + 3) 0)) s p (length s) ≡ got y q
        got_as = said_got r _ y q told e

        good : Good b (bad_clustering bytes i (get_or c (column + 3) 0)) s p (length s) y q
        good = (record_gives b _ s p (length s)).given y q got_as

        pub valuing_length : y.length ≤ 1073741824
        valuing_length = value_short bytes i (get_or c (column + 3) 0) y good.right v.short

        bits : h + empty_bit y.length i < 4 ^ (i + 1)
        bits =
            let f : 4 ^ (i + 1) ≡ 4 ^ i * 4 = ap (λ (k : ℕ). 4 ^ k) (omega arith) ∙ pow-suc 4 i in
            omega (arith, v.known, bit_most y.length i)

        pub valuing_header : (x : ℕ) → x ≡ empty_bit y.length i → h + x < 18446744073709551616
        valuing_header x f =
            let g = powers (i + 1) (omega (arith, v.few)) in
            omega (arith, f, bits)

        pub valuing_size : (x : ℕ) → x ≤ 1073741833 → n + x < 18446744073709551616
        valuing_size x f = omega (arith, v.fits, v.few)

        pub valuing_more : (o : Bool) (x w : ℕ) → o ≡ is_over whole s p → o ≡ false → x ≡ empty_bit y.length i → w ≡ value_size (get_or c (column + 3) 0) y.length
            → Valuing z whole b bytes c s k (i + 1) (column + 16) q (h + x) (n + w)
        valuing_more o x w d g f t = rw (f, t) (record {
          left = v.left - 1;
          among = omega (arith, v.among, more);
          few = v.few;
          inside = omega (arith, v.inside, more);
          short = v.short;
          known = bits;
          fits = omega (arith, v.fits, value_size_most (get_or c (column + 3) 0) y.length valuing_length);
          rest =
              sym (measure_more bytes i h n W Rest y _ good.right)
              ∙ ap (Measure bytes i h n (W ∷ Rest)) (sym (values_more b bytes s (length s) whole i W Rest p (sym d ∙ g) ∙ on_got _ y q _ got_as))
              ∙ from;
        })

    -- the values are known to be taken
    module _ (t : Known z) (o : Bool) (d : o ≡ is_over whole s p) (g : o ≡ false) where
      sure : record_at b (bad_clustering bytes i W) s p (length s) ≡ got (item_of s p) (p + 64)
      unfolding Measure
      sure = go (record_at b (bad_clustering bytes i W) s p (length s)) refl
        where
          go : (x : Got Item) → record_at b (bad_clustering bytes i W) s p (length s) ≡ x → x ≡ got (item_of s p) (p + 64)
          go (got y q) e = let r = (record_gives b (bad_clustering bytes i W) s p (length s)).given y q e in rw (r.is, r.next) refl
          go (bad f q) e =
              let a : ◌≡◌ {A = Got (ℕ × ℕ × ℕ)} (bad f q) (got t.value t.place) =
              ap (Measure bytes i h n (W ∷ Rest)) (sym (values_more b bytes s (length s) whole i W Rest p (sym d ∙ g) ∙ on_bad _ f q _ e)) ∙ from ∙ t.is in
              never a

      found : said (Ok (item_of s p, p + 64)) ≡ record_at b (bad_clustering bytes i (get_or c (column + 3) 0)) s p (length s)
      unfolding said
      found = sym sure

      sizing_record : p + 64 ≤ length s
      sizing_record = ((record_gives b (bad_clustering bytes i W) s p (length s)).given (item_of s p) (p + 64) sure).within

      module _ (y : Span) (e : y ≡ value_of (item_of s p)) where
        sizing_length : y.len ≤ 1073741824
        sizing_length = rw e (valuing_length (Ok (item_of s p, p + 64)) found (item_of s p) (p + 64) refl)

        sizing_header : (x : ℕ) → x ≡ empty_bit y.len i → h + x < 18446744073709551616
        sizing_header x f = valuing_header (Ok (item_of s p, p + 64)) found (item_of s p) (p + 64) refl x (rw e at f)

        sizing_more : (x w : ℕ) → x ≡ empty_bit y.len i → w ≡ value_size (get_or c (column + 3) 0) y.len
            → Valuing z whole b bytes c s k (i + 1) (column + 16) (p + 64) (h + x) (n + w)
        sizing_more x w f u = valuing_more (Ok (item_of s p, p + 64)) found (item_of s p) (p + 64) refl o x w d g (rw e at f) (rw e at u)

    sizing_size : (x : ℕ) → x ≤ 1073741833 → n + x < 18446744073709551616
    sizing_size x f = omega (arith, v.fits, v.few)

values_known : (bytes ws : List ℕ) (x : Got (List Span)) → Known x → Known (clustering_measured bytes ws x)
unfolding clustering_measured
values_known bytes ws x t = record {
  value = (length t.value, header_of (show_values bytes t.value), length (values_bytes ws (show_values bytes t.value)));
  place = t.place;
  is = rw t.is refl;
}

pub ruleset valuing = (valuing_none, valuing_end, valuing_over, valuing_index, valuing_bit, valuing_width, valuing_column, valuing_bad, valuing_length, valuing_header, valuing_size, valuing_more, tried, failed, refl)

-- the same under each bases with which the values are taken, as they are with some
pub record Valued (whole : Bool) (bytes c s : List ℕ) (k at i column p h n : ℕ) : Type 0 where
  pub bases : Bases
  pub known : Known (taken_clustering whole bases bytes 0 (widths_at c 16 k) s at (length s))
  pub each : (b : Bases) → Known (taken_clustering whole b bytes 0 (widths_at c 16 k) s at (length s))
      → Valuing (clustering_measured bytes (widths_at c 16 k) (taken_clustering whole b bytes 0 (widths_at c 16 k) s at (length s))) whole b bytes c s k i column p h n

pub valued_none : (whole : Bool) (b : Bases) (bytes c s : List ℕ) (k at : ℕ) → 16 + 16 * k ≤ length c → k ≤ 32 → length bytes ≤ 1073741824
    → Known (taken_clustering whole b bytes 0 (widths_at c 16 k) s at (length s)) → Valued whole bytes c s k at 0 16 at 0 0
valued_none whole b bytes c s k at h l m t = record { bases = b; known = t; each = λ d u. valuing_none whole d bytes c s k at h l m }

module _ (whole : Bool) (bytes c s : List ℕ) (k at i column p h n : ℕ) (x : Valued whole bytes c s k at i column p h n) where
  abbrev Z : Bases → Got (ℕ × ℕ × ℕ)
  Z b = clustering_measured bytes (widths_at c 16 k) (taken_clustering whole b bytes 0 (widths_at c 16 k) s at (length s))

  v : Valuing (Z x.bases) whole x.bases bytes c s k i column p h n
  v = x.each x.bases x.known

  t : Known (Z x.bases)
  t = values_known bytes (widths_at c 16 k) _ x.known

  pub valued_end : (b : Bases) → Known (taken_clustering whole b bytes 0 (widths_at c 16 k) s at (length s)) → k ≤ i → said (Ok ((k, h, n), p)) ≡ Z b
  valued_end b u l = valuing_end (Z b) whole b bytes c s k i column p h n (x.each b u) l

  module _ (l : i < k) where
    pub valued_over : (b : Bases) → Known (taken_clustering whole b bytes 0 (widths_at c 16 k) s at (length s)) → (o : Bool) → o ≡ is_over whole s p → o ≡ true → said (Ok ((i, h, n), p)) ≡ Z b
    valued_over b u o e f = valuing_over (Z b) whole b bytes c s k i column p h n (x.each b u) l o e f

    pub valued_index : column + 3 < length c
    valued_index = valuing_index (Z x.bases) whole x.bases bytes c s k i column p h n v l

    pub valued_bit : i < 32
    valued_bit = valuing_bit (Z x.bases) whole x.bases bytes c s k i column p h n v l

    module _ (m : length c < 2 ^ 64) where
      pub valued_width : column + 3 < 18446744073709551616
      valued_width = valuing_width (Z x.bases) whole x.bases bytes c s k i column p h n v l m

      pub valued_column : column + 16 < 18446744073709551616
      valued_column = valuing_column (Z x.bases) whole x.bases bytes c s k i column p h n v l m

    pub valued_size : (y : ℕ) → y ≤ 1073741833 → n + y < 18446744073709551616
    valued_size y f = sizing_size (Z x.bases) whole x.bases bytes c s k i column p h n v l y f

    module _ (o : Bool) (d : o ≡ is_over whole s p) (g : o ≡ false) where
      pub valued_record : p + 64 ≤ length s
      valued_record = sizing_record (Z x.bases) whole x.bases bytes c s k i column p h n v l t o d g

      pub valued_place : length s < 2 ^ 64 → p + 64 < 18446744073709551616
      valued_place e = omega (arith, valued_record)

      module _ (y : Span) (e : y ≡ value_of (item_of s p)) where
        pub valued_length : y.len ≤ 1073741824
        valued_length = sizing_length (Z x.bases) whole x.bases bytes c s k i column p h n v l t o d g y e

        pub valued_header : (a : ℕ) → a ≡ empty_bit y.len i → h + a < 18446744073709551616
        valued_header a f = sizing_header (Z x.bases) whole x.bases bytes c s k i column p h n v l t o d g y e a f

        pub valued_more : (a w : ℕ) → a ≡ empty_bit y.len i → w ≡ value_size (get_or c (column + 3) 0) y.len → Valued whole bytes c s k at (i + 1) (column + 16) (p + 64) (h + a) (n + w)
        valued_more a w f q = record {
          bases = x.bases;
          known = x.known;
          each = λ b u. sizing_more (Z b) whole b bytes c s k i column p h n (x.each b u) l (values_known bytes (widths_at c 16 k) _ u) o d g y e a w f q;
        }

pub ruleset sizing = (valued_none, valued_end, valued_over, valued_index, valued_bit, valued_width, valued_column, valued_size, valued_record, valued_place, valued_length, valued_header, valued_more, refl)
