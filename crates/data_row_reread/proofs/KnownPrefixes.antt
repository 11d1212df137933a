-- The clustering of a row that is known to stand. Assumes nothing.
use Rattle.std.proofs.Common.{Ok, Continue}
use mathlib.Core.Path.{◌≡◌, refl}
use mathlib.Core.Bool.{false}
use mathlib.Core.List.{List, ◌∷◌}
use Prim.Native.Nat.{ℕ, suc, ◌+◌, ◌-◌, ◌*◌, ◌/◌, ◌%◌, ◌^◌, ◌≤◌, ◌<◌}
use native.Mathlib.Omega.{arith}
use borrow.Author.Tests.{eq-eqb, ne_eqb}
use lib.Dec.{eqb}
use lib.ListN.{length, get_or}
use mir.Syntax.{w64}
use mir.Val.{Fits}
use Rattle.common.specs.Got.{Got, got, bad, on, Took, said, said_place}
use Rattle.common.proofs.Choose.{pick_no}
use Rattle.common.proofs.Gives.{never}
use Rattle.common.proofs.Took.{took_first, took_then, took_no, past, on_again}
use Rattle.number_varint.specs.Varints.{varint_at}
use Rattle.data_field.specs.Fields.{value_at}
use Rattle.data_field.specs.declared.fields.Span.{Span}
use Rattle.data_clustering.specs.Prefixes.{header_at, clustering_at, values_at, prefix_at, widths_at, skipped}
use Rattle.data_clustering.specs.declared.prefixes.Prefix.{Prefix}
use Rattle.data_clustering.proofs.Loops.{widths_count, Skipping, skipping_none, skipping_end, skipping_index, skipping_width, skipping_column, skipping_more}

-- ---- one value, and the header
pub clustering_value : (w h : ℕ) (s : List ℕ) (at end : ℕ) → Took (clustering_at w h s at end) → eqb (h % 2) 1 ≡ false → Took (value_at w s at end)
unfolding clustering_at
clustering_value w h s at end t e = took_no _ _ _ e t

module _ (k : ℕ) (s : List ℕ) (at end : ℕ) (t : Took (header_at k s at end)) (e : eqb k 0 ≡ false) where
  pub header_first : Took (varint_at s at end)
  unfolding header_at
  header_first = took_first _ _ (took_no _ _ _ e t)

  pub header_is : (h n : ℕ) → got h n ≡ varint_at s at end → got h n ≡ header_at k s at end
  unfolding header_at
  header_is h n d = pick_no _ _ _ _ e (on_again _ _ _ h n d (pick_no _ _ _ _ (past _ _ _ _ (took_then _ _ h n d (took_no _ _ _ e t))) refl))

-- ---- past the values
took_skipped : {A : Type 0} (x : Got A) → Took (skipped x) → Took x
unfolding skipped
took_skipped (got a n) t = record { value = a; place = n; is = refl }
took_skipped (bad f p) t = never t.is

-- the columns that are left behind i of them, as in `Skipping`; their values are known to stand
pub record Passing (z : Got Unit) (c s : List ℕ) (end column count i h p : ℕ) : Type 0 where
  pub skipping : Skipping z c s end column count i h p
  pub took : Took (values_at (widths_at c column (count - i)) h s p end)

pub passing_none : (c s : List ℕ) (at end column count header : ℕ) → column + 16 * count ≤ length c → Took (values_at (widths_at c column count) header s at end)
    → Passing (skipped (values_at (widths_at c column count) header s at end)) c s end column count 0 header at
passing_none c s at end column count header l t =
    let e : count - 0 ≡ count = omega arith in
    record { skipping = skipping_none c s at end column count header l; took = rw e t }

module _ (z : Got Unit) (c s : List ℕ) (end column count i h p : ℕ) (a : Passing z c s end column count i h p) where
  pub passing_end : count ≤ i → got tt p ≡ z
  unfolding said_place
  passing_end l = skipping_end z c s end column count i h p a.skipping l

  module _ (l : i < count) where
    pub passing_index : column + 3 < length c
    passing_index = skipping_index z c s end column count i h p a.skipping l

    pub passing_width : length c < 2 ^ 64 → Fits w64 (column + 3)
    passing_width = skipping_width z c s end column count i h p a.skipping l

    pub passing_column : length c < 2 ^ 64 → Fits w64 (column + 16)
    passing_column = skipping_column z c s end column count i h p a.skipping l

    next : Took (on (clustering_at (get_or c (column + 3) 0) h s p end) (λ v m. on (values_at (widths_at c (column + 16) (count - (i + 1))) (h / 4) s m end) (λ vs n. got (v ∷ vs) n)))
    unfolding values_at widths_at
    next =
        let e : count - i ≡ suc (count - (i + 1)) = omega arith in
        rw e at a.took

    pub passing_value : Took (clustering_at (get_or c (column + 3) 0) h s p end)
    passing_value = took_first _ _ next

    pub passing_more : (v : Span) (n : ℕ) → got v n ≡ clustering_at (get_or c (column + 3) 0) h s p end → Passing z c s end (column + 16) count (i + 1) (h / 4) n
    unfolding said
    passing_more v n e = record {
      skipping = skipping_more z c s end column count i h p a.skipping l (Ok (v, n)) (Continue (v, n)) v n e refl refl;
      took = took_first _ _ (took_then _ _ v n e next);
    }

-- ---- header and values
abbrev prefix : ℕ → ℕ → Prefix
prefix h n = record { header = h; values = n }

module _ (c : List ℕ) (first count : ℕ) (s : List ℕ) (at end : ℕ) (t : Took (prefix_at (widths_at c first count) s at end)) where
  whole : Took (on (header_at count s at end) (λ h n. on (skipped (values_at (widths_at c first count) h s n end)) (λ u m. got (prefix h n) m)))
  unfolding prefix_at
  whole = rw (widths_count c first count) at t

  pub prefix_header : Took (header_at count s at end)
  prefix_header = took_first _ _ whole

  module _ (h n : ℕ) (e : got h n ≡ header_at count s at end) where
    pub prefix_values : Took (values_at (widths_at c first count) h s n end)
    prefix_values = took_skipped _ (took_first _ _ (took_then _ _ h n e whole))

    pub prefix_is : (m : ℕ) → got tt m ≡ skipped (values_at (widths_at c first count) h s n end) → got (prefix h n) m ≡ prefix_at (widths_at c first count) s at end
    unfolding prefix_at
    prefix_is m d = on_again _ _ _ h n (rw (widths_count c first count) e) (on_again _ _ _ tt m d refl)

pub ruleset prefixes = (clustering_value, header_first, header_is, passing_none, passing_end, passing_index, passing_width, passing_column, passing_value, passing_more, prefix_header, prefix_values, prefix_is, eq-eqb, ne_eqb)
