-- The bits of a header one column after the other, and the values that they leave. Assumes nothing.
use Rattle.std.proofs.Common.{Continue, Break, Ok}
use Rattle.std.specs.Result.{result_from_control_flow}
use mathlib.Core.Path.{◌≡◌, refl, sym, ap, ◌∙◌}
use mathlib.Core.Bool.{true, false}
use mathlib.Core.List.{List, ◌∷◌}
use Prim.Native.Nat.{ℕ, zero, suc, ◌+◌, ◌-◌, ◌*◌, ◌/◌, ◌%◌, ◌^◌, ◌≤◌, ◌<◌}
use native.Mathlib.Omega.{arith}
use borrow.Author.Tests.{eq-eqb, ne_eqb}
use lib.Dec.{ltb, eqb}
use lib.ListN.{length, get_or}
use mir.Syntax.{w64}
use mir.Val.{Fits}
use Rattle.common.specs.Got.{Got, got, bad, on, Reading, said, said_place}
use Rattle.common.specs.Choose.{pick}
use Rattle.common.proofs.Choose.{pick_yes, pick_no}
use Rattle.data_field.specs.declared.fields.Span.{Span}
use Rattle.common.proofs.Said.{on_tried, on_failed}
use Rattle.data_clustering.specs.Prefixes.{bad_header, header_at, clustering_at, values_at, widths_at, skipped}

-- h is what is left of a header behind i columns
pub record Heading (k header i h : ℕ) : Type 0 where
  pub rest : bad_header (k - i) h ≡ bad_header k header

module _ (k header : ℕ) where
  pub heading_none : Heading k header 0 header
  heading_none =
      let e : k - 0 ≡ k = omega arith in
      record { rest = rw e refl }

  module _ (i h : ℕ) (a : Heading k header i h) where
    pub heading_end : k ≤ i → ltb 0 h ≡ bad_header k header
    unfolding bad_header
    heading_end l =
        let e : k - i ≡ 0 = omega arith in
        rw e at a.rest

    module _ (l : i < k) where
      next : k - i ≡ suc (k - (i + 1))
      next = omega arith

      pub heading_null : h / 2 % 2 ≡ 1 → true ≡ bad_header k header
      unfolding bad_header
      heading_null e = pick_yes _ _ _ _ (eq-eqb _ _ e) refl ∙ ap (λ (x : ℕ). bad_header x h) (sym next) ∙ a.rest

      pub heading_more : eqb (h / 2 % 2) 1 ≡ false → Heading k header (i + 1) (h / 4)
      unfolding bad_header
      heading_more e = record { rest = pick_no _ _ _ _ e refl ∙ ap (λ (x : ℕ). bad_header x h) (sym next) ∙ a.rest }

-- a header without bits is never refused
pub heading_zero : (k header : ℕ) → header ≡ 0 → false ≡ bad_header k header
unfolding bad_header pick
heading_zero zero header e = rw e refl
heading_zero (suc k) header e = rw e (heading_zero k 0 refl)

pub ruleset heading = (heading_none, heading_end, heading_null, heading_more, heading_zero, ne_eqb)

-- ---- values
pub widths_count : (c : List ℕ) (at k : ℕ) → length (widths_at c at k) ≡ k
unfolding widths_at
widths_count c at zero = refl
widths_count c at (suc k) = ap suc (widths_count c (at + 16) k)

-- the header of the columns of a schema
pub header_of_lem : (r : Reading ℕ) (c : List ℕ) (record₀ k : ℕ) (s : List ℕ) (at end : ℕ) → said r ≡ header_at k s at end → said r ≡ header_at (length (widths_at c record₀ k)) s at end
header_of_lem r c record₀ k s at end e = rw (widths_count c record₀ k) e

skipped_cons : (v : Span) (x : Got (List Span)) → skipped x ≡ skipped (on x (λ vs m. got (v ∷ vs) m))
unfolding skipped on
skipped_cons v (got vs m) = refl
skipped_cons v (bad f p) = refl

-- behind i of `count` columns, those from the record at column on are left; their bits h; their values from p on; z is what skipping all gives
pub record Skipping (z : Got Unit) (c : List ℕ) (s : List ℕ) (end column count i h p : ℕ) : Type 0 where
  pub fits : column + 16 * (count - i) ≤ length c
  pub rest : skipped (values_at (widths_at c column (count - i)) h s p end) ≡ z

module _ (c : List ℕ) (s : List ℕ) (at end column count header : ℕ) where
  pub skipping_none : column + 16 * count ≤ length c → Skipping (skipped (values_at (widths_at c column count) header s at end)) c s end column count 0 header at
  skipping_none h =
      let e : count - 0 ≡ count = omega arith in
      record { fits = omega arith; rest = rw e refl }

module _ (z : Got Unit) (c : List ℕ) (s : List ℕ) (end column count i h p : ℕ) (a : Skipping z c s end column count i h p) where
  pub skipping_end : count ≤ i → said_place (Ok p) ≡ z
  unfolding said_place skipped values_at widths_at
  skipping_end l =
      let e : count - i ≡ 0 = omega arith in
      rw e at a.rest

  module _ (l : i < count) where
    more : count - i ≡ suc (count - (i + 1))
    more = omega arith

    pub skipping_index : column + 3 < length c
    skipping_index = omega (arith, a.fits)

    pub skipping_width : length c < 2 ^ 64 → Fits w64 (column + 3)
    skipping_width k = record { fits = omega (arith, a.fits) }

    pub skipping_column : length c < 2 ^ 64 → Fits w64 (column + 16)
    skipping_column k = record { fits = omega (arith, a.fits) }

    from : skipped (values_at (widths_at c column (suc (count - (i + 1)))) h s p end) ≡ z
    from = ap (λ (x : ℕ). skipped (values_at (widths_at c column x) h s p end)) (sym more) ∙ a.rest

    pub skipping_more : (r : Reading Span) (b : _) (v : Span) (n : ℕ) → said r ≡ clustering_at (get_or c (column + 3) 0) h s p end → r ≡ result_from_control_flow b
        → b ≡ Continue (v, n) → Skipping z c s end (column + 16) count (i + 1) (h / 4) n
    unfolding values_at widths_at
    skipping_more r b v n e f g = record {
      fits = omega (arith, a.fits);
      rest = skipped_cons v _ ∙ ap skipped (on_tried _ _ r _ b (v, n) e f g refl) ∙ from;
    }

    pub skipping_bad : (r : Reading Span) (b : _) (y : _) → said r ≡ clustering_at (get_or c (column + 3) 0) h s p end → r ≡ result_from_control_flow b
        → b ≡ Break y → bad y.0.fault y.0.place ≡ z
    unfolding values_at widths_at skipped
    skipping_bad r b y e f g = ap skipped (on_failed {B = List Span} _ _ r _ b y e f g refl) ∙ from

pub ruleset skipping = (skipping_none, skipping_end, skipping_index, skipping_width, skipping_column, skipping_more, skipping_bad)
