-- The code's table is 001's: the ends of its names are computed from the lines of the definition, which the check compares with the
-- code's constants; what the code says of a line by its number is computed at every number. Assumes nothing.
use mathlib.Core.Path.{◌≡◌, refl, sym, subst, ◌∙◌}
use mathlib.Core.Logic.{inl, inr}
use mathlib.Core.Bool.{Bool, true, false, not, ◌||◌}
use mathlib.Core.List.{List, [], ◌∷◌}
use Prim.Native.Nat.{ℕ, zero, suc, ◌+◌, ◌-◌, ◌≤◌, ◌<◌}
use native.Mathlib.Nat.{not-suc-le-zero, le_of_suc-le-suc}
use native.Mathlib.Omega.{arith}
use borrow.Author.Tests.{ne_eqb, le-leb, eqb-false, leb-true}
use lib.Dec.{T, eqb, leb, leb→le, ltb, ltb→lt}
use lib.ListN.{length, get_or, drop, length-append, drop_of_length-le}
use mir.Syntax.{w64}
use mir.Val.{Fits, has_key}
use types.Run.{OneOf, hit}
use Rattle.common.specs.Choose.{pick}
use Rattle.common.specs.Store.{part}
use Rattle.common.proofs.Choose.{cases, pick_yes, pick_no, pick_ind}
use Rattle.common.proofs.Finite.{all_below, below_at}
use Rattle.text.specs.Text.{same}
use Rattle.type_table.specs.Table.{Line, table, line_in, nth, line_of, no_line, is_line}
use Rattle.type_table.specs.Rows.{names, first}
use Rattle.text.proofs.Texts.{first_passes, then_passes, same_is}

-- where the names of lines end, the first of which begins at e
unfoldable pub ends_from : ℕ → List Line → List ℕ
ends_from e [] = []
ends_from e (l ∷ ls) = (e + length l.name) ∷ ends_from (e + length l.name) ls

unfoldable pub all_ends : List ℕ
all_ends = 0 ∷ ends_from 0 table

end_at : (ls : List Line) (e n d : ℕ) → n < length ls → get_or (ends_from e ls) n d ≡ e + length (names (first (suc n) ls))
unfolding ends_from names first
end_at [] e n d h = absurd (not-suc-le-zero h)
end_at (l ∷ ls) e zero d h = rw (length-append l.name []) (omega arith)
end_at (l ∷ ls) e (suc n) d h =
    end_at ls (e + length l.name) n d (le_of_suc-le-suc h)
    ∙ rw (length-append l.name (names (first (suc n) ls))) (omega arith)

nth_none : (ls : List Line) (n : ℕ) → length ls ≤ n → nth n ls ≡ no_line
unfolding nth
nth_none [] n h = refl
nth_none (l ∷ ls) zero h = absurd (not-suc-le-zero h)
nth_none (l ∷ ls) (suc n) h = nth_none ls n (le_of_suc-le-suc h)

-- the table has 34 lines
lines : length table ≡ 34
unfolding table
lines = refl

pub end_is : (l d : ℕ) → l ≤ 34 → get_or all_ends l d ≡ length (names (first l table))
unfolding all_ends names first
end_is zero d h = refl
end_is (suc n) d h = end_at table 0 n d (omega (arith, lines)) ∙ omega arith

pub ends_fit : (l : ℕ) → l ≤ 34 → Fits w64 (get_or all_ends l 0)
unfolding all_ends ends_from table
ends_fit l h = let k : get_or all_ends l 0 ≤ 382 = leb→le _ _ (below_at 35 (λ n. leb (get_or all_ends n 0) 382) tt l (omega arith)) in omega arith

-- ---- what a line is, by its number
pub none_at : (l : ℕ) → 34 < l → no_line ≡ line_of l
unfolding line_of
none_at zero h = absurd (not-suc-le-zero h)
none_at (suc n) h = sym (nth_none table n (omega (arith, lines)))

-- of a test f that passes at each of the keys ks
abbrev pub all_of : (ℕ → Bool) → List ℕ → Bool
all_of f [] = true
all_of f (k ∷ ks) = pick (f k) (all_of f ks) false

pub at_key : (f : ℕ → Bool) (ks : List ℕ) → T (all_of f ks) → (l : ℕ) → OneOf ks l → T (f l)
at_key f [] t l e = absurd e
at_key f (k ∷ []) t l e = rw e (first_passes (f k) true t)
at_key f (k ∷ m ∷ ks) t l (inl e) = rw e (first_passes (f k) (all_of f (m ∷ ks)) t)
at_key f (k ∷ m ∷ ks) t l (inr e) = at_key f (m ∷ ks) (then_passes (f k) (all_of f (m ∷ ks)) t) l e

-- of a test f that passes from lo up to hi, but at keys: those of arms, the last first
abbrev pub NoKey : List (List ℕ) → ℕ → Type 0
NoKey [] l = Unit {0}
NoKey (ks ∷ arms) l = NoKey arms l × (OneOf ks l → ⊥)

abbrev pub or_key : List (List ℕ) → ℕ → Bool → Bool
or_key [] l b = b
or_key (ks ∷ arms) l b = has_key ks l || or_key arms l b

or_else : (a b : Bool) → T (a || b) → (T a → ⊥) → T b
or_else true b t n = absurd (n tt)
or_else false b t n = t

no_key : (arms : List (List ℕ)) (l : ℕ) (b : Bool) → T (or_key arms l b) → NoKey arms l → T b
no_key [] l b t n = t
no_key (ks ∷ arms) l b t n = no_key arms l b (or_else (has_key ks l) (or_key arms l b) t (λ h. n.1 (hit ks l h))) n.0

pub between : (f : ℕ → Bool) (lo hi : ℕ) (arms : List (List ℕ)) → T (all_below hi (λ l. ltb l lo || or_key arms l (f l))) → (l : ℕ) → lo ≤ l → l < hi → NoKey arms l → T (f l)
between f lo hi arms t l h k n =
    no_key arms l (f l) (or_else (ltb l lo) _ (below_at hi (λ l. ltb l lo || or_key arms l (f l)) t l k) (λ p. absurd (omega (arith, ltb→lt l lo p, h)))) n

pub it_is : (b : Bool) → T b → true ≡ b
it_is true t = refl
it_is false t = absurd t

pub it_is_not : (b : Bool) → T (not b) → false ≡ b
it_is_not true t = absurd t
it_is_not false t = refl

-- ---- whether a number is a line's
pub line_zero : (l : ℕ) → l ≡ 0 → false ≡ is_line l
unfolding is_line
line_zero l e = search cases

pub line_some : (l : ℕ) → (l ≡ 0 → ⊥) → leb l 34 ≡ is_line l
unfolding is_line
line_some l h = rw lines (search cases)

pub ruleset line_cases = (line_zero, line_some)

pub line_yes : (l : ℕ) → 1 ≤ l → l ≤ 34 → true ≡ is_line l
unfolding is_line
line_yes l h k = rw lines (pick_no _ _ _ _ (ne_eqb l 0 (λ e. absurd (omega arith))) (sym (le-leb l 34 k)))

pub line_range : (l : ℕ) → is_line l ≡ true → (1 ≤ l) × (l ≤ 34)
unfolding is_line
line_range l e = pick_ind (λ (x : Bool). x ≡ true → (1 ≤ l) × (l ≤ 34)) _ _ (eqb l 0) (λ f t. absurd (never t)) (λ f t. some (eqb-false l 0 f) (leb-true l 34 (rw lines at t))) e
  where
    never : false ≡ true → ⊥
    never t = let z : ◌≡◌ {A = ℕ} 0 1 = cc in omega arith

    some : (l ≡ 0 → ⊥) → l ≤ 34 → (1 ≤ l) × (l ≤ 34)
    some n k = (omega arith, k)

-- ---- the names
ends : ℕ → ℕ
ends l = length (names (first l table))

name_part : ℕ → List ℕ
name_part n = part (names table) (ends n) (ends (suc n) - ends n)

name_test : ℕ → Bool
name_test n = same (name_part n) (line_of (suc n)).name

-- computed at each line
name_is : (n : ℕ) → n < 34 → name_part n ≡ (line_of (suc n)).name
unfolding part ends name_part names table first line_of nth same pick name_test
name_is n h = same_is _ _ (below_at 34 name_test tt n h)

rise : (n : ℕ) → n < 34 → ends n ≤ ends (suc n)
unfolding ends names table first
rise n h = leb→le _ _ (below_at 34 (λ n. leb (ends n) (ends (suc n))) tt n h)

last : (n : ℕ) → n < 34 → ends (suc n) ≤ length (names table)
unfolding ends names table first
last n h = leb→le _ _ (below_at 34 (λ n. leb (ends (suc n)) (length (names table))) tt n h)

-- of the ends before and at a line
module _ (l p r : ℕ) (least : 0 < l) (most : l ≤ 34) (before : p ≡ length (names (first (l - 1) table))) (at : r ≡ length (names (first l table))) where
  next : suc (l - 1) ≡ l
  next = omega arith

  pub name_rise : p ≤ r
  unfolding ends
  name_rise = rw (before, at) (subst (λ (k : ℕ). ends (l - 1) ≤ ends k) next (rise (l - 1) (omega arith)))

  pub name_within : r ≤ length (names table)
  unfolding ends
  name_within = rw at (subst (λ (k : ℕ). ends k ≤ length (names table)) next (last (l - 1) (omega arith)))

  name_at_lem : part (names table) p (r - p) ≡ (line_of l).name
  unfolding ends name_part
  name_at_lem =
      rw (before, at)
      (subst (λ (k : ℕ). part (names table) (ends (l - 1)) (ends k - ends (l - 1)) ≡ (line_of k).name) next (name_is (l - 1) (omega arith)))

  pub name_same : (b : Bool) (name : List ℕ) → b ≡ same (part (names table) p (r - p)) name → b ≡ same (line_of l).name name
  name_same b name e = rw (← name_at_lem) e

-- ---- the loop over the lines: none before line l has the name
pub record Finding (name : List ℕ) (l : ℕ) : Type 0 where
  pub least : 0 < l
  pub most : l ≤ 35
  pub left : line_in l (drop (l - 1) table) name ≡ line_in 1 table name

pub finding_none : (name : List ℕ) → Finding name 1
finding_none name = record { least = omega arith; most = omega arith; left = refl }

from_nth : (ls : List Line) (n : ℕ) → n < length ls → drop n ls ≡ nth n ls ∷ drop (suc n) ls
unfolding nth
from_nth [] n h = absurd (not-suc-le-zero h)
from_nth (l ∷ ls) zero h = refl
from_nth (l ∷ ls) (suc n) h = from_nth ls n (le_of_suc-le-suc h)

line_from : (l : ℕ) → 0 < l → l ≤ 34 → drop (l - 1) table ≡ line_of l ∷ drop l table
unfolding line_of
line_from zero h k = absurd (not-suc-le-zero h)
line_from (suc n) h k =
    let e : suc n - 1 ≡ n = omega arith in
    rw e (from_nth table n (omega (arith, lines)))

module _ (name : List ℕ) (l : ℕ) (c : Finding name l) where
  step : l ≤ 34 → line_in l (drop (l - 1) table) name ≡ pick (same (line_of l).name name) l (line_in (l + 1) (drop l table) name)
  unfolding line_in
  step h = rw (line_from l c.least h)

  pub finding_here : (b : Bool) → l ≤ 34 → b ≡ same (line_of l).name name → b ≡ true → l ≡ line_in 1 table name
  finding_here b h e f = pick_yes _ _ _ _ (sym e ∙ f) refl ∙ sym (step h) ∙ c.left

  pub finding_more : (b : Bool) → l ≤ 34 → b ≡ same (line_of l).name name → b ≡ false → Finding name (l + 1)
  finding_more b h e f =
      let d : l + 1 - 1 ≡ l = omega arith in
      record { least = omega arith; most = omega arith; left = rw d (pick_no _ _ _ _ (sym e ∙ f) refl ∙ sym (step h) ∙ c.left) }

  pub finding_end : 34 < l → 0 ≡ line_in 1 table name
  unfolding line_in
  finding_end h =
      let d : length table ≤ l - 1 = omega (arith, lines) in
      sym (rw (drop_of_length-le table d) refl) ∙ c.left

pub ruleset finding = (finding_none, finding_here, finding_more, finding_end)

-- ---- a line that is found is one of the table's
below : (i : ℕ) (ls : List Line) (name : List ℕ) → 0 < i → line_in i ls name < i + length ls
unfolding line_in
below i [] name h = omega arith
below i (l ∷ ls) name h =
    pick_ind (λ (x : ℕ). x < i + suc (length ls)) _ _ (same l.name name) (λ e. omega arith) (λ e. omega (arith, below (i + 1) ls name (omega arith)))

pub line_most : (name : List ℕ) → line_in 1 table name ≤ 34
line_most name = omega (arith, below 1 table name (omega arith), lines)
