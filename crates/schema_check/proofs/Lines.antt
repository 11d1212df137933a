-- The lines that a record may have, as the code's numbers tell them, and their widths: computed at every line. Assumes nothing.
use mathlib.Core.Path.{◌≡◌, refl, sym, ap, ◌∙◌}
use mathlib.Core.Bool.{Bool, true, false, not}
use mathlib.Core.List.{List}
use Prim.Native.Nat.{ℕ, zero, suc, ◌/◌, ◌%◌, ◌^◌, ◌≤◌, ◌<◌}
use native.Mathlib.Nat.{not-suc-le-zero, le_of_suc-le-suc}
use native.Mathlib.Omega.{arith}
use borrow.Author.Tests.{lt-ltb, le-ltb, lt-leb}
use lib.Dec.{T, ltb, eqb}
use lib.ListN.{get_or}
use Rattle.common.specs.Choose.{pick}
use Rattle.common.proofs.Finite.{below_at}
use Rattle.type_table.specs.Table.{Line, table, nth, line_of, no_line, is_line}
use Rattle.type_table.proofs.Rows.{none_at, line_some}
use Rattle.schema_check.specs.Records.{is_line_of}
use Rattle.schema_check.specs.Runs.{each_below, all_widths}

abbrev alike : Bool → Bool → Bool
alike true b = b
alike false b = not b

alike_is : (a b : Bool) → T (alike a b) → a ≡ b
alike_is true true t = refl
alike_is true false t = absurd t
alike_is false true t = absurd t
alike_is false false t = refl

-- bit l of x
abbrev bit : ℕ → ℕ → Bool
bit x l = eqb (x / 2 ^ l % 2) 1

-- computed at each line
key_bits : (l : ℕ) → l < 35 → bit 0x7_feff_fffe l ≡ is_line_of 0 l
unfolding is_line_of is_line line_of nth table no_line pick
key_bits l h = alike_is _ _ (below_at 35 (λ l. alike (bit 0x7_feff_fffe l) (is_line_of 0 l)) tt l h)

column_bits : (l : ℕ) → l < 35 → bit 0x6_fcaf_ff7e l ≡ is_line_of 2 l
unfolding is_line_of is_line line_of nth table no_line pick
column_bits l h = alike_is _ _ (below_at 35 (λ l. alike (bit 0x6_fcaf_ff7e l) (is_line_of 2 l)) tt l h)

same_of : (t a : Bool) → pick t a a ≡ a
unfolding pick
same_of true a = refl
same_of false a = refl

module _ (role line : ℕ) where
  pub key_line : line ≤ 34 → role < 2 → bit 0x7_feff_fffe line ≡ is_line_of role line
  unfolding is_line_of
  key_line h k = key_bits line (omega arith) ∙ rw (lt-ltb role 2 k) refl

  pub column_line : line ≤ 34 → 2 ≤ role → bit 0x6_fcaf_ff7e line ≡ is_line_of role line
  unfolding is_line_of
  column_line h k = column_bits line (omega arith) ∙ rw (le-ltb role 2 k) refl

  pub no_line_lem : 34 < line → false ≡ is_line_of role line
  unfolding is_line_of no_line
  no_line_lem h =
      let e : is_line line ≡ false = sym (line_some line (λ z. absurd (omega arith))) ∙ lt-leb line 34 h in
      let f : (line_of line).column ≡ false = sym (ap (λ (x : Line). x.column) (none_at line h)) in
      rw (e, f, same_of (ltb role 2) false, same_of (eqb line 24) false) refl

pub ruleset lines = (key_line, column_line, no_line_lem)

-- ---- the widths
each_at : (n : ℕ) (f : ℕ → ℕ) (k d : ℕ) → k < n → get_or (each_below n f) k d ≡ f k
unfolding each_below
each_at zero f k d h = absurd (not-suc-le-zero h)
each_at (suc n) f zero d h = refl
each_at (suc n) f (suc k) d h = each_at n (λ i. f (suc i)) k d (le_of_suc-le-suc h)

module _ (line : ℕ) where
  pub width_at_lem : (ws : List ℕ) (d : ℕ) → ws ≡ all_widths → line ≤ 34 → get_or ws line d ≡ (line_of line).width
  unfolding all_widths
  width_at_lem ws d e h = rw e (each_at 35 _ line d (omega arith))

  pub no_width : 34 < line → 0 ≡ (line_of line).width
  unfolding no_line
  no_width h = ap (λ (x : Line). x.width) (none_at line h)

pub ruleset widths = (width_at_lem, no_width)
