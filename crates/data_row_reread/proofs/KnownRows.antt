-- A row that is known to stand. Assumes nothing.
use mathlib.Core.Path.{◌≡◌, refl, sym, ◌∙◌}
use mathlib.Core.Bool.{Bool, true, false}
use mathlib.Core.List.{List}
use Prim.Native.Nat.{ℕ, ◌/◌, ◌%◌, ◌≤◌}
use native.Mathlib.Omega.{arith}
use borrow.Author.Tests.{eq-eqb, ne_eqb, eqb-true, eqb-false}
use lib.Dec.{eqb}
use Rattle.common.specs.Choose.{pick}
use Rattle.common.specs.Got.{Got, got, bad, Took}
use Rattle.common.specs.declared.refusal.Fault.{Fault}
use Rattle.common.specs.declared.times.Bases.{Bases}
use Rattle.common.proofs.Choose.{pick_yes, pick_no}
use Rattle.common.proofs.Gives.{never, gives_is}
use Rattle.common.proofs.Took.{took_first, took_then, took_yes, took_no, took_past, past, on_again}
use Rattle.data_field.specs.Fields.{byte_at}
use Rattle.data_clustering.specs.Prefixes.{prefix_at, widths_at}
use Rattle.data_clustering.specs.declared.prefixes.Prefix.{Prefix}
use Rattle.data_row.specs.Flags.{row_flags_at, extended_of, extended_at}
use Rattle.data_row.specs.Bodies.{body_at}
use Rattle.data_row.specs.Rows.{rest_at, row_at, clustering_in, cells_in, static_in}
use Rattle.data_row.specs.declared.rows.Row.{Row}
use Rattle.data_field.proofs.Ranges.{byte_gives}
use Rattle.data_row.proofs.Gives.{extended_gives}
use Rattle.data_row.proofs.Parts.{clustering_inside, cells_few, rest_is}
use Rattle.data_turns.specs.Turns.{may_stand}

-- ---- the extended byte: one that is not refused is 0, or 1 in its turn
stands : (r : Bool) (z : Fault) (x at n : ℕ) → Took {A = ℕ} (pick r (got 1 n) (bad z at)) → x ≡ 1 → got x n ≡ pick r (got 1 n) (bad z at)
unfolding pick
stands true z x at n t e = rw e refl
stands false z x at n t e = never t.is

extended_of_lem : (first statics x at n : ℕ) (a b : Bool) → eqb x 0 ≡ a → eqb x 1 ≡ b → Took (extended_of first statics x at n) → got x n ≡ extended_of first statics x at n
unfolding extended_of
extended_of_lem first statics x at n true b e f t = pick_yes _ _ _ _ e (rw (eqb-true x 0 e) refl)
extended_of_lem first statics x at n false true e f t = pick_no _ _ _ _ e (pick_yes _ _ _ _ f (stands (may_stand first statics) _ x at n (took_yes _ _ _ f (took_no _ _ _ e t)) (eqb-true x 1 f)))
extended_of_lem first statics x at n false false e f t = never (took_past _ _ _ _ (took_past _ _ _ _ (took_no _ _ _ f (took_no _ _ _ e t)))).is

module _ (f first statics : ℕ) (s : List ℕ) (at end : ℕ) (t : Took (extended_at f first statics s at end)) (e : eqb (f / 128 % 2) 1 ≡ true) where
  pub extended_byte : Took (byte_at s at end)
  unfolding extended_at
  extended_byte = took_first _ _ (took_yes _ _ _ e t)

  pub extended_is : (x n : ℕ) → got x n ≡ byte_at s at end → got x n ≡ extended_at f first statics s at end
  unfolding extended_at
  extended_is x n d = pick_yes _ _ _ _ e (on_again _ _ _ x n d (extended_of_lem first statics x at n (eqb x 0) (eqb x 1) refl refl (took_then _ _ x n d (took_yes _ _ _ e t))))

pub extended_none : (f first statics : ℕ) (s : List ℕ) (at end : ℕ) → eqb (f / 128 % 2) 1 ≡ false → got 0 at ≡ extended_at f first statics s at end
unfolding extended_at
extended_none f first statics s at end e = pick_no _ _ _ _ e refl

-- ---- behind the flags and the extended byte
module _ (b : Bases) (ws : List ℕ) (k start f x : ℕ) (s : List ℕ) (at end : ℕ) (t : Took (rest_at b ws k start f x s at end)) where
  pub rest_prefix : Took (prefix_at ws s at end)
  unfolding rest_at
  rest_prefix = took_first _ _ t

  pub rest_body : (p : Prefix) (n : ℕ) → got p n ≡ prefix_at ws s at end → Took (body_at b k f s n end)
  unfolding rest_at
  rest_body p n e = took_first _ _ (took_then _ _ p n e t)

-- the extended byte is its own mark
static_is : (x : ℕ) (r : Bool) → eqb x 1 ≡ r → x ≤ 1 → x ≡ pick r 1 0
unfolding pick
static_is x true e l = eqb-true x 1 e
static_is x false e l = omega (arith, eqb-false x 1 e)

marked : (f first statics : ℕ) (s : List ℕ) (at end x n : ℕ) → at ≤ end → got x n ≡ extended_at f first statics s at end → x ≡ static_in x
unfolding static_in
marked f first statics s at end x n l e = static_is x (eqb x 1) refl (gives_is (extended_gives f first statics s at end l) (sym e)).0

-- ---- the whole row
module _ (b : Bases) (c : List ℕ) (count statics regulars first : ℕ) (s : List ℕ) (at end : ℕ) (t : Took (row_at b (widths_at c 16 count) statics regulars first s at end)) where
  flags : Took (row_flags_at s at end)
  unfolding row_at
  flags = took_first _ _ t

  pub row_byte : Took (byte_at s at end)
  unfolding row_flags_at
  row_byte = took_first _ _ flags

  module _ (f n : ℕ) (d : got f n ≡ byte_at s at end) where
    e : got f n ≡ row_flags_at s at end
    unfolding row_flags_at
    e = on_again _ _ _ f n d (pick_no _ _ _ _ (past _ _ _ _ (took_then _ _ f n d flags)) refl)

    pub row_extended : Took (extended_at f first statics s n end)
    unfolding row_at
    row_extended = took_first _ _ (took_then _ _ f n e t)

    module _ (x m : ℕ) (g : got x m ≡ extended_at f first statics s n end) (v k : ℕ) (h : v ≡ clustering_in x count) (i : k ≡ cells_in x statics regulars) where
      rest : rest_at b (widths_at c 16 v) k at f x s m end ≡ row_at b (widths_at c 16 count) statics regulars first s at end
      unfolding row_at
      rest = on_again _ _ _ f n e (on_again _ _ _ x m g (rest_is b c count statics regulars at f s m end _ x v k x h i (marked f first statics s n end x m (gives_is (byte_gives s at end) (sym d)).1.within g) refl))

      pub row_rest : Took (rest_at b (widths_at c 16 v) k at f x s m end)
      row_rest = rw (← rest) at t

      pub row_is : (q : Got Row) → q ≡ rest_at b (widths_at c 16 v) k at f x s m end → q ≡ row_at b (widths_at c 16 count) statics regulars first s at end
      row_is q j = j ∙ rest

pub ruleset rows = (extended_byte, extended_is, extended_none, rest_prefix, rest_body, row_byte, row_extended, row_rest, row_is, clustering_inside, cells_few, on_again, eq-eqb, ne_eqb)
