-- The fields of a record, as the code tests them. Assumes nothing.
use mathlib.Core.Path.{◌≡◌, refl, sym, ap, ◌∙◌}
use mathlib.Core.Bool.{Bool, true, false}
use mathlib.Core.List.{List}
use Prim.Native.Nat.{ℕ, ◌+◌, ◌-◌, ◌*◌, ◌^◌, ◌≤◌, ◌<◌}
use native.Mathlib.Omega.{arith}
use native.Mathlib.Decide.{dec_le}
use borrow.Author.Tests.{lt-ltb, le-ltb, le-leb, lt-leb, eq-eqb, ne_eqb, ltb-false, eqb-true}
use lib.Dec.{ltb, leb, eqb}
use lib.ListN.{length, get_or}
use Rattle.number_fixed.specs.BigEndian.{big_endian}
use Rattle.number_fixed.proofs.Swaps.{be_split}
use Rattle.common.specs.Choose.{pick}
use Rattle.common.proofs.Choose.{pick_yes, pick_no}
use Rattle.schema_check.specs.Records.{role_at, line_at, mark_at, width_at, name_at, name_len_at, zeros_at, is_kind_of, is_name_of, given}
use Rattle.schema_check.specs.Runs.{is_of}

-- ---- the name's place
-- a sum below a limit, tested without the sum
sum_over : (limit a b : ℕ) → limit < a → false ≡ leb (a + b) limit
sum_over limit a b h = sym (lt-leb (a + b) limit (omega arith))

sum_within : (limit a b : ℕ) → a ≤ limit → leb b (limit - a) ≡ leb (a + b) limit
sum_within limit a b h = go (dec_le b (limit - a))
  where
    go : Dec (b ≤ limit - a) → leb b (limit - a) ≡ leb (a + b) limit
    go (yes p) = le-leb b (limit - a) p ∙ sym (le-leb (a + b) limit (omega arith))
    go (no p) = lt-leb b (limit - a) (omega arith) ∙ sym (lt-leb (a + b) limit (omega arith))

module _ (limit role : ℕ) (s : List ℕ) (at : ℕ) where
  -- 0, 0 is eight bytes of zero
  both_zero : (x a b : ℕ) → x ≡ a * 256 ^ 4 + b → eqb x 0 ≡ pick (eqb a 0) (eqb b 0) false
  both_zero x a b e = go (dec_le a 0) (dec_le b 0)
    where
      go : Dec (a ≤ 0) → Dec (b ≤ 0) → eqb x 0 ≡ pick (eqb a 0) (eqb b 0) false
      go (yes p) (yes q) = eq-eqb x 0 (omega arith) ∙ pick_yes _ _ _ _ (eq-eqb a 0 (omega arith)) (sym (eq-eqb b 0 (omega arith)))
      go (yes p) (no q) = ne_eqb x 0 (λ z. absurd (omega arith)) ∙ pick_yes _ _ _ _ (eq-eqb a 0 (omega arith)) (sym (ne_eqb b 0 (λ z. absurd (omega arith))))
      go (no p) q = ne_eqb x 0 (λ z. absurd (omega arith)) ∙ pick_no _ _ _ _ (ne_eqb a 0 (λ z. absurd (omega arith))) refl

  pub name_none : (x : ℕ) → role < 2 → x ≡ big_endian 0 s (at + 4) 8 → eqb x 0 ≡ is_name_of limit role (name_at s at) (name_len_at s at)
  unfolding is_name_of name_at name_len_at
  name_none x h e =
      let next : at + 4 + 4 ≡ at + 8 = omega arith in
      both_zero x _ _ (rw next at (e ∙ be_split 0 s (at + 4) 4 4)) ∙ pick_yes _ _ _ _ (lt-ltb role 2 h) refl

  module _ (h : 2 ≤ role) (name : ℕ) (e : name ≡ big_endian 0 s (at + 4) 4) where
    pub name_over : limit < name → false ≡ is_name_of limit role (name_at s at) (name_len_at s at)
    unfolding is_name_of name_at name_len_at
    name_over k = pick_no _ _ _ _ (le-ltb role 2 h) (sum_over limit _ _ (rw e at k))

    pub name_within : (len : ℕ) → name ≤ limit → len ≡ big_endian 0 s (at + 8) 4 → leb len (limit - name) ≡ is_name_of limit role (name_at s at) (name_len_at s at)
    unfolding is_name_of name_at name_len_at
    name_within len k f = pick_no _ _ _ _ (le-ltb role 2 h) (sum_within limit name len k ∙ rw (e, f) refl)

pub ruleset names = (name_none, name_over, name_within)

-- ---- whether the record at at has the role and is given
module _ (limit role : ℕ) (s : List ℕ) (at : ℕ) (h : at + 16 ≤ length s) where
  is_of_lem : (q : Bool) → q ≡ pick (eqb (get_or s at 0) role) (given limit s at) false → q ≡ is_of limit role s at
  unfolding is_of role_at
  is_of_lem q e = pick_no _ _ _ _ (le-ltb (length s - at) 16 (omega arith)) e

  pub of_other : (get_or s at 0 ≡ role → ⊥) → false ≡ is_of limit role s at
  of_other n = is_of_lem false (pick_no _ _ _ _ (ne_eqb _ _ n) refl)

  module _ (e : get_or s at 0 ≡ role) (k : Bool) (f : k ≡ is_kind_of role (get_or s (at + 1) 0) (get_or s (at + 2) 0) (get_or s (at + 3) 0)) where
    is_given : (q : Bool) → q ≡ given limit s at → q ≡ is_of limit role s at
    is_given q g = is_of_lem q (pick_yes _ _ _ _ (eq-eqb _ _ e) g)

    kind : is_kind_of (get_or s at 0) (get_or s (at + 1) 0) (get_or s (at + 2) 0) (get_or s (at + 3) 0) ≡ k
    kind = rw e (sym f)

    pub of_kind : k ≡ false → false ≡ is_of limit role s at
    unfolding given role_at line_at mark_at width_at
    of_kind g = is_given false (pick_no _ _ _ _ (kind ∙ g) refl)

    module _ (g : k ≡ true) (m : Bool) (l : m ≡ is_name_of limit role (name_at s at) (name_len_at s at)) where
      named : is_name_of limit (get_or s at 0) (name_at s at) (name_len_at s at) ≡ m
      named = rw e (sym l)

      pub of_name_lem : m ≡ false → false ≡ is_of limit role s at
      unfolding given role_at line_at mark_at width_at
      of_name_lem n = is_given false (pick_yes _ _ _ _ (kind ∙ g) (pick_no _ _ _ _ (named ∙ n) refl))

      pub of_all : (z : ℕ) → m ≡ true → z ≡ big_endian 0 s (at + 12) 4 → eqb z 0 ≡ is_of limit role s at
      unfolding given role_at line_at mark_at width_at zeros_at
      of_all z n o =
          is_given (eqb z 0) (pick_yes _ _ _ _ (kind ∙ g) (pick_yes _ _ _ _ (named ∙ n) (ap (λ (x : ℕ). eqb x 0) o)))

pub ruleset of_role = (of_other, of_kind, of_name_lem, of_all)

-- ---- what it says that a record is of a role
parts : (a b c : Bool) → pick a false (pick b c false) ≡ true → (a ≡ false) × (b ≡ true) × (c ≡ true)
unfolding pick
parts true b c e = absurd (let z : ◌≡◌ {A = ℕ} 0 1 = cc in omega arith)
parts false true c e = (refl, refl, e)
parts false false c e = absurd (let z : ◌≡◌ {A = ℕ} 0 1 = cc in omega arith)

module _ (limit role : ℕ) (s : List ℕ) (at : ℕ) where
  pub of_parts : is_of limit role s at ≡ true → (ltb (length s - at) 16 ≡ false) × (role_at s at ≡ role) × (given limit s at ≡ true)
  unfolding is_of
  of_parts e = let p = parts _ _ _ e in (p.0, eqb-true _ _ p.1, p.2)

  pub of_given : 16 ≤ length s - at → role_at s at ≡ role → given limit s at ≡ true → is_of limit role s at ≡ true
  unfolding is_of
  of_given h e g = sym (pick_no _ _ _ _ (le-ltb _ _ h) (pick_yes _ _ _ _ (eq-eqb _ _ e) (sym g)))

-- a record that is given has a role
first_part : (a b : Bool) → pick a b false ≡ true → a ≡ true
unfolding pick
first_part true b e = refl
first_part false b e = cc

not_first : (a b : Bool) → pick a false b ≡ true → a ≡ false
unfolding pick
not_first true b e = cc
not_first false b e = refl

pub given_role : (limit : ℕ) (s : List ℕ) (at : ℕ) → given limit s at ≡ true → role_at s at ≤ 3
unfolding given is_kind_of
given_role limit s at e = ltb-false 3 (role_at s at) (not_first _ _ (first_part _ _ e))
