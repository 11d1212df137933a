-- A whole schema, role by role: the runs of the four roles give what the definition gives record by record. Assumes nothing.
use mathlib.Core.Path.{◌≡◌, refl, sym, ap, ◌∙◌}
use mathlib.Core.Bool.{Bool, true, false}
use mathlib.Core.List.{List}
use Prim.Native.Nat.{ℕ, zero, suc, ◌+◌, ◌-◌, ◌*◌, ◌/◌, ◌≤◌, ◌<◌}
use native.Mathlib.Omega.{arith}
use native.Mathlib.Decide.{dec_le}
use borrow.Author.Tests.{lt-ltb, ne_eqb, eq-eqb, ltb-true, ltb-false}
use lib.Dec.{ltb}
use lib.ListN.{length}
use Rattle.std.proofs.Common.{Ok, Err}
use Rattle.common.specs.Choose.{pick, bind}
use Rattle.common.specs.Got.{Got, got, bad, on, said}
use Rattle.common.specs.Refusals.{bad_at}
use Rattle.common.specs.declared.refusal.Fault.TheVariants.{BadRecord}
use Rattle.common.proofs.Choose.{pick_yes, pick_no, pick_ind}
use Rattle.schema_check.specs.Records.{role_at, none, given, count_of, most_of, is_first, is_passed, in_turn, with_one, record_at, records_at, schema_at}
use Rattle.schema_check.specs.Runs.{is_of, run_of}
use Rattle.schema_check.specs.declared.records.Counts.{Counts}
use Rattle.schema_check.proofs.Runs.{none_left, run_most, run_stop}
use Rattle.schema_check.proofs.Fields.{of_parts, of_given, given_role}

-- ---- checking: the records before at are counted in c
record Checking (limit : ℕ) (s : List ℕ) (c : Counts) (at : ℕ) : Type 0 where
  pub rest : records_at limit ((length s + 15 - at) / 16) c s at (length s) ≡ schema_at limit s

module _ (limit : ℕ) (s : List ℕ) where
  checking_none : (length s ≡ 0 → ⊥) → Checking limit s none 0
  unfolding schema_at
  checking_none n = record { rest = pick_no _ _ _ _ (ne_eqb _ _ n) (ap (λ (k : ℕ). records_at limit k none s 0 (length s)) (omega arith)) }

  module _ (c : Counts) (at : ℕ) (h : Checking limit s c at) where
    checking_end : length s ≤ at → got c at ≡ schema_at limit s
    unfolding records_at
    checking_end l =
        let e : (length s + 15 - at) / 16 ≡ 0 = omega arith in
        rw e at h.rest

    checking_on : at < length s → on (record_at limit c s at (length s)) (λ d n. records_at limit ((length s + 15 - (at + 16)) / 16) d s n (length s)) ≡ schema_at limit s
    unfolding records_at
    checking_on l =
        let e : suc ((length s + 15 - (at + 16)) / 16) ≡ (length s + 15 - at) / 16 = omega arith in
        ap (λ (k : ℕ). records_at limit k c s at (length s)) e ∙ h.rest

    -- a record that is not given, or not in turn
    fails : at < length s → (16 ≤ length s - at → given limit s at ≡ true → in_turn (role_at s at) c ≡ true → ⊥) → bad BadRecord at ≡ schema_at limit s
    unfolding on record_at
    fails l n =
        (pick_ind P _ _ (ltb (length s - at) 16) (λ _. refl) (λ a.
        pick_ind P _ _ (given limit s at) (λ b.
        pick_ind P _ _ (in_turn (role_at s at) c) (λ d. absurd (n (ltb-false _ _ a) b d)) (λ _. refl)) (λ _. refl)))
        ∙ checking_on l
      where
        P : Got Counts → Type 0
        P x = bad BadRecord at ≡ on x (λ d n. records_at limit ((length s + 15 - (at + 16)) / 16) d s n (length s))

    one_more : (role : ℕ) → is_of limit role s at ≡ true → in_turn role c ≡ true → Checking limit s (with_one role c) (at + 16)
    unfolding on record_at
    one_more role e t =
        let p = of_parts limit role s at e in
        let w : 16 ≤ length s - at = ltb-false _ _ p.0 in
        let r : got (with_one role c) (at + 16) ≡ record_at limit c s at (length s) =
        pick_no _ _ _ _ p.0 (pick_yes _ _ _ _ p.2 (rw p.1 (pick_yes _ _ _ _ t refl))) in
        record { rest = rw (← r) at (checking_on (omega arith)) }

-- ---- the records of one role, where those before it are C 0
module _ (limit role : ℕ) (s : List ℕ) (C : ℕ → Counts) (turn : (n : ℕ) → in_turn role (C n) ≡ ltb n (most_of role)) (one : (n : ℕ) → with_one role (C n) ≡ C (n + 1)) where
  moved : (n m at to : ℕ) → n ≡ m → at ≡ to → Checking limit s (C n) at → Checking limit s (C m) to
  moved n m at to e f h = rw (← e, ← f) h

  run_from : (k n at : ℕ) → n + k ≡ most_of role → Checking limit s (C n) at → Checking limit s (C (run_of limit role s k at + n)) (at + 16 * run_of limit role s k at)
  unfolding run_of
  run_from zero n at e h = moved _ _ _ _ (omega arith) (omega arith) h
  run_from (suc k) n at e h =
      pick_ind (λ (r : ℕ). Checking limit s (C (r + n)) (at + 16 * r)) _ _ (is_of limit role s at) (λ f. moved _ _ _ _ (omega arith) (omega arith) (run_from k (n + 1) (at + 16) (omega arith) (more f))) (λ f. moved _ _ _ _ (omega arith) (omega arith) h)
    where
      more : is_of limit role s at ≡ true → Checking limit s (C (n + 1)) (at + 16)
      more f = rw (one n) at (one_more limit s (C n) at h role f (turn n ∙ lt-ltb n (most_of role) (omega arith)))

  run_all : (r at : ℕ) → r ≡ run_of limit role s (most_of role) at → Checking limit s (C 0) at → Checking limit s (C r) (at + 16 * r)
  run_all r at e h = rw e (moved _ _ _ _ (omega arith) refl (run_from (most_of role) 0 at (omega arith) h))

-- ---- the counts on the way
abbrev with_keys : ℕ → Counts
with_keys n = record { keys = n; clustering = 0; statics = 0; regulars = 0 }

abbrev with_clustering_lem : ℕ → Counts
with_clustering_lem n = record { keys = 1; clustering = n; statics = 0; regulars = 0 }

abbrev with_statics : ℕ → ℕ → Counts
with_statics a n = record { keys = 1; clustering = a; statics = n; regulars = 0 }

abbrev with_regulars : ℕ → ℕ → ℕ → Counts
with_regulars a b n = record { keys = 1; clustering = a; statics = b; regulars = n }

clash : false ≡ true → ⊥
clash e = let z : ◌≡◌ {A = ℕ} 0 1 = cc in omega arith

-- the first record can only be a key
first_is_key : (role : ℕ) → in_turn role none ≡ true → role ≡ 0
unfolding in_turn is_first pick
first_is_key zero t = refl
first_is_key (suc r) t = absurd (clash (rw (ne_eqb (suc r) 0 (λ e. absurd (omega arith))) at t))

-- behind the runs no role is in turn but one whose run has not ended
passed : (x y z : Bool) → pick (pick x true y) false z ≡ true → (x ≡ false) × (y ≡ false) × (z ≡ true)
unfolding pick
passed true y z e = absurd (clash e)
passed false true z e = absurd (clash e)
passed false false z e = (refl, refl, e)

behind : (role a b d : ℕ) → role ≤ 3 → in_turn role (with_regulars a b d) ≡ true → (role ≡ 1 → a < 32 → b ≡ 0 → d ≡ 0 → ⊥) → (role ≡ 2 → b < 63 → d ≡ 0 → ⊥) → (role ≡ 3 → d < 63 → ⊥) → ⊥
unfolding in_turn is_first is_passed count_of most_of pick bind
behind zero a b d h t f g i = clash t
behind (suc zero) a b d h t f g i =
    let p = passed _ _ _ t in
    f refl (ltb-true _ _ p.2) (omega (arith, ltb-false 0 b p.0)) (omega (arith, ltb-false 0 d p.1))
behind (suc (suc zero)) a b d h t f g i =
    let p = passed false _ _ t in
    g refl (ltb-true _ _ p.2) (omega (arith, ltb-false 0 d p.1))
behind (suc (suc (suc zero))) a b d h t f g i = i refl (ltb-true _ _ t)
behind (suc (suc (suc (suc r)))) a b d h t f g i = absurd (omega arith)

-- ---- the whole
module _ (limit : ℕ) (s : List ℕ) where
  no_more : (role at : ℕ) → is_of limit role s at ≡ false → 16 ≤ length s - at → role_at s at ≡ role → given limit s at ≡ true → ⊥
  no_more role at f w e g = clash (sym f ∙ of_given limit role s at w e g)

  module _ (k : ℕ) (ek : k ≡ run_of limit 0 s (most_of 0) 0) where
    pub whole_no_key : k ≡ 0 → said (Err (bad_at BadRecord 0)) ≡ schema_at limit s
    unfolding said schema_at most_of pick
    whole_no_key z = go (dec_le (length s) 0)
      where
        stop : is_of limit 0 s 0 ≡ false
        stop =
            let e : run_of limit 0 s 1 0 ≡ 0 = sym ek ∙ z in
            rw e at (run_stop limit 0 s 1 0 (omega arith))

        go : Dec (length s ≤ 0) → bad BadRecord 0 ≡ schema_at limit s
        go (yes p) = pick_yes _ _ _ _ (eq-eqb (length s) 0 (omega arith)) refl
        go (no p) =
            fails limit s none 0 (checking_none limit s (λ e. absurd (omega arith))) (omega arith)
            (λ w g t. no_more 0 0 stop w (first_is_key (role_at s 0) t) g)

    module _ (nz : k ≡ 0 → ⊥) (a b d : ℕ) (ea : a ≡ run_of limit 1 s (most_of 1) 16) (eb : b ≡ run_of limit 2 s (most_of 2) (16 + 16 * a)) (ed : d ≡ run_of limit 3 s (most_of 3) (16 + 16 * a + 16 * b)) where
      some : length s ≡ 0 → ⊥
      some e = nz (ek ∙ none_left limit 0 s (most_of 0) 0 (omega arith))

      key : Checking limit s (with_keys 1) 16
      unfolding in_turn is_first is_passed count_of most_of with_one pick bind
      key =
          let one : k ≡ 1 = omega (arith, ek, run_most limit 0 s 1 0, nz) in
          rw one at (run_all limit 0 s with_keys (λ n. refl) (λ n. refl) k 0 ek (checking_none limit s some))

      runs : Checking limit s (with_regulars a b d) (16 + 16 * a + 16 * b + 16 * d)
      unfolding in_turn is_first is_passed count_of most_of with_one pick bind
      runs =
          run_all limit 3 s (with_regulars a b) (λ n. refl) (λ n. refl) d _ ed
          (run_all limit 2 s (with_statics a) (λ n. refl) (λ n. refl) b _ eb
          (run_all limit 1 s with_clustering_lem (λ n. refl) (λ n. refl) a _ ea key))

      pub whole_all : length s ≤ 16 + 16 * a + 16 * b + 16 * d → said (Ok (with_regulars a b d, 16 + 16 * a + 16 * b + 16 * d)) ≡ schema_at limit s
      unfolding said
      whole_all l = checking_end limit s _ _ runs l

      pub whole_more_lem : 16 + 16 * a + 16 * b + 16 * d < length s → said (Err (bad_at BadRecord (16 + 16 * a + 16 * b + 16 * d))) ≡ schema_at limit s
      unfolding said most_of pick
      whole_more_lem l =
          fails limit s _ _ runs l
          (λ w g t.
          behind (role_at s (16 + 16 * a + 16 * b + 16 * d)) a b d (given_role limit s _ g) t (λ e m x y.
          no_more 1 _ (stop 1 32 16 a ea m (omega arith)) w e g) (λ e m y.
          no_more 2 _ (stop 2 63 (16 + 16 * a) b eb m (omega arith)) w e g) (λ e m.
          no_more 3 _ (stop 3 63 (16 + 16 * a + 16 * b) d ed m refl) w e g))
        where
          stop : (role most at n : ℕ) → n ≡ run_of limit role s most at → n < most → at + 16 * n ≡ 16 + 16 * a + 16 * b + 16 * d → is_of limit role s (16 + 16 * a + 16 * b + 16 * d) ≡ false
          stop role most at n e m f = rw (← e, f) at (run_stop limit role s most at (omega arith))

pub ruleset whole = (whole_no_key, whole_all, whole_more_lem)
