-- The loops over the columns. Assumes nothing.
use mathlib.Core.Path.{◌≡◌, refl, sym, ap, ◌∙◌}
use mathlib.Core.Bool.{Bool, true, false}
use mathlib.Core.List.{List}
use Prim.Native.Nat.{ℕ, suc, ◌+◌, ◌-◌, ◌*◌, ◌/◌, ◌≤◌, ◌<◌}
use native.Mathlib.Omega.{arith}
use borrow.Author.Tests.{eq-eqb, ne_eqb}
use lib.Dec.{eqb}
use lib.ListN.{length, get_or}
use Rattle.std.proofs.Common.{Some, None}
use Rattle.common.specs.Choose.{pick}
use Rattle.common.proofs.Choose.{pick_yes, pick_no}
use Rattle.type_table.specs.Table.{line_of}
use Rattle.schema_check.specs.Records.{role_at, line_at}
use Rattle.schema_column.specs.Columns.{same_column, same_from, same_schemas, unordered_from, unordered_of}

-- ---- two schemas: the first i records are equal
pub record Alike (s t v u : List ℕ) (n i : ℕ) : Type 0 where
  pub within : i ≤ n
  pub rest : same_from (n - i) s t v u (16 * i) ≡ same_schemas s t v u

module _ (s t v u : List ℕ) where
  pub alike_unlike : (length s ≡ length v → ⊥) → false ≡ same_schemas s t v u
  unfolding same_schemas
  alike_unlike n = pick_no _ _ _ _ (ne_eqb _ _ n) refl

  pub alike_none : (n : ℕ) → length s ≡ length v → n ≡ length s / 16 → Alike s t v u n 0
  unfolding same_schemas
  alike_none n e f = record { within = omega arith; rest = pick_yes _ _ _ _ (eq-eqb _ _ e) (ap (λ (k : ℕ). same_from k s t v u 0) (omega arith)) }

  module _ (n i : ℕ) (h : Alike s t v u n i) where
    pub alike_end : n ≤ i → true ≡ same_schemas s t v u
    unfolding same_from
    alike_end l =
        let e : n - i ≡ 0 = omega arith in
        rw e at h.rest

    module _ (l : i < n) (r : Bool) (e : r ≡ same_column s t v u (16 * i)) where
      same_step : pick (same_column s t v u (16 * i)) (same_from (n - (i + 1)) s t v u (16 * i + 16)) false ≡ same_schemas s t v u
      unfolding same_from
      same_step =
          let f : n - i ≡ suc (n - (i + 1)) = omega arith in
          ap (λ (k : ℕ). same_from k s t v u (16 * i)) (sym f) ∙ h.rest

      pub alike_not : r ≡ false → false ≡ same_schemas s t v u
      alike_not f = pick_no _ _ _ _ (sym e ∙ f) refl ∙ same_step

      pub alike_more : r ≡ true → Alike s t v u n (i + 1)
      alike_more f =
          let g : 16 * i + 16 ≡ 16 * (i + 1) = omega arith in
          record { within = omega arith; rest = rw (← g) (pick_yes _ _ _ _ (sym e ∙ f) refl ∙ same_step) }

pub ruleset alike = (alike_unlike, alike_none, alike_end, alike_not, alike_more)

-- ---- the first clustering record without an order: none of the first i
pub record Ordered (s : List ℕ) (n i : ℕ) : Type 0 where
  pub within : i ≤ n
  pub rest : unordered_from (n - i) s (16 * i) ≡ unordered_of s

module _ (s : List ℕ) (n : ℕ) (size : n ≡ length s / 16) where
  pub ordered_none : Ordered s n 0
  unfolding unordered_of
  ordered_none = record { within = omega arith; rest = ap (λ (k : ℕ). unordered_from k s 0) (omega arith) }

  module _ (i : ℕ) (h : Ordered s n i) where
    pub ordered_end : n ≤ i → None ≡ unordered_of s
    unfolding unordered_from
    ordered_end l =
        let e : n - i ≡ 0 = omega arith in
        rw e at h.rest

    module _ (l : i < n) where
      order_step : pick (eqb (get_or s (16 * i) 0) 1)
          (pick (line_of (get_or s (16 * i + 1) 0)).ordered (unordered_from (n - (i + 1)) s (16 * i + 16)) (Some (16 * i)))
          (unordered_from (n - (i + 1)) s (16 * i + 16))
          ≡ unordered_of s
      unfolding unordered_from role_at line_at
      order_step =
          let f : n - i ≡ suc (n - (i + 1)) = omega arith in
          ap (λ (k : ℕ). unordered_from k s (16 * i)) (sym f) ∙ h.rest

      order_next : 16 * i + 16 ≡ 16 * (i + 1)
      order_next = omega arith

      pub ordered_other : (get_or s (16 * i) 0 ≡ 1 → ⊥) → Ordered s n (i + 1)
      ordered_other m = record { within = omega arith; rest = rw (← order_next) (pick_no _ _ _ _ (ne_eqb _ _ m) refl ∙ order_step) }

      module _ (m : get_or s (16 * i) 0 ≡ 1) (r : Bool) (e : r ≡ (line_of (get_or s (16 * i + 1) 0)).ordered) where
        pub ordered_more : r ≡ true → Ordered s n (i + 1)
        ordered_more f = record { within = omega arith; rest = rw (← order_next) (pick_yes _ _ _ _ (eq-eqb _ _ m) (pick_yes _ _ _ _ (sym e ∙ f) refl) ∙ order_step) }

        pub ordered_not : r ≡ false → Some (16 * i) ≡ unordered_of s
        ordered_not f = pick_yes _ _ _ _ (eq-eqb _ _ m) (pick_no _ _ _ _ (sym e ∙ f) refl) ∙ order_step

pub ruleset ordered = (ordered_none, ordered_end, ordered_other, ordered_more, ordered_not)
