-- The loop over the records of one role. Assumes nothing.
use mathlib.Core.Path.{◌≡◌, refl, sym, ◌∙◌}
use mathlib.Core.Bool.{Bool, true, false}
use mathlib.Core.List.{List}
use Prim.Native.Nat.{ℕ, zero, suc, ◌+◌, ◌-◌, ◌*◌, ◌/◌, ◌≤◌, ◌<◌}
use native.Mathlib.Omega.{arith}
use native.Mathlib.Decide.{dec_lt}
use borrow.Author.Tests.{lt-ltb, le-ltb}
use lib.ListN.{length}
use Rattle.common.specs.Choose.{pick}
use Rattle.common.proofs.Choose.{pick_yes, pick_no, pick_ind}
use Rattle.schema_check.specs.Records.{most_of}
use Rattle.schema_check.specs.Runs.{is_of, lesser_of, run_of}

-- n records of the role stand from place from on, of at most `most`, with which the bytes or the role's columns end
pub record Running (limit role : ℕ) (s : List ℕ) (from most n : ℕ) : Type 0 where
  pub least : n ≤ most
  pub whole : from + 16 * most ≤ length s
  pub few : most ≤ most_of role
  pub last : run_of limit role s (most_of role - most) (from + 16 * most) ≡ 0
  pub rest : n + run_of limit role s (most_of role - n) (from + 16 * n) ≡ run_of limit role s (most_of role) from

module _ (limit role : ℕ) (s : List ℕ) where
  -- where no whole record is left
  pub none_left : (k at : ℕ) → length s - at < 16 → run_of limit role s k at ≡ 0
  unfolding run_of is_of pick
  none_left zero at h = refl
  none_left (suc k) at h = rw (lt-ltb (length s - at) 16 h) refl

  none_of : (k at : ℕ) → k ≡ 0 → run_of limit role s k at ≡ 0
  unfolding run_of
  none_of k at e = rw e refl

  module _ (from : ℕ) where
    pub running_none : (m most : ℕ) → from ≤ length s → m ≡ most_of role → most ≡ lesser_of ((length s - from) / 16) m → Running limit role s from most 0
    unfolding lesser_of pick
    running_none m most h e f = go (dec_lt ((length s - from) / 16) m)
      where
        start : 0 + run_of limit role s (most_of role - 0) (from + 16 * 0) ≡ run_of limit role s (most_of role) from
        start =
            let a : most_of role - 0 ≡ most_of role = omega arith in
            let b : from + 16 * 0 ≡ from = omega arith in
            rw (a, b) (omega arith)

        go : Dec ((length s - from) / 16 < m) → Running limit role s from most 0
        go (yes p) =
            let g : most ≡ (length s - from) / 16 = f ∙ rw (lt-ltb _ _ p) refl in
            record { least = omega arith; whole = omega arith; few = omega arith; last = none_left _ _ (omega arith); rest = start }
        go (no p) =
            let q : m ≤ (length s - from) / 16 = omega arith in
            let g : most ≡ m = f ∙ rw (le-ltb _ _ q) refl in
            record { least = omega arith; whole = omega arith; few = omega arith; last = none_of _ _ (omega arith); rest = start }

    module _ (most n : ℕ) (c : Running limit role s from most n) where
      pub running_fits : from + 16 * n ≤ length s
      running_fits = omega (arith, c.least, c.whole)

      pub running_end : most ≤ n → n ≡ run_of limit role s (most_of role) from
      running_end h =
          let e : most ≡ n = omega (arith, c.least) in
          let z : run_of limit role s (most_of role - n) (from + 16 * n) ≡ 0 = rw e at c.last in
          omega (arith, c.rest, z)

      module _ (h : n < most) (b : Bool) (e : b ≡ is_of limit role s (from + 16 * n)) where
        next : most_of role - n ≡ suc (most_of role - (n + 1))
        next = omega (arith, c.few)

        pub running_stop : b ≡ false → n ≡ run_of limit role s (most_of role) from
        unfolding run_of
        running_stop f =
            let z : 0 ≡ run_of limit role s (most_of role - n) (from + 16 * n) = rw next (pick_no _ _ _ _ (sym e ∙ f) refl) in
            omega (arith, c.rest, z)

        pub running_more : b ≡ true → Running limit role s from most (n + 1)
        unfolding run_of
        running_more f =
            let at : from + 16 * n + 16 ≡ from + 16 * (n + 1) = omega arith in
            let z : suc (run_of limit role s (most_of role - (n + 1)) (from + 16 * (n + 1))) ≡ run_of limit role s (most_of role - n) (from + 16 * n) =
            rw next (pick_yes _ _ _ _ (sym e ∙ f) (rw at refl)) in
            record { least = omega arith; whole = c.whole; few = c.few; last = c.last; rest = omega (arith, c.rest, z) }

pub ruleset running = (running_none, running_fits, running_end, running_stop, running_more)

-- ---- what a run says
module _ (limit role : ℕ) (s : List ℕ) where
  pub run_most : (k at : ℕ) → run_of limit role s k at ≤ k
  unfolding run_of
  run_most zero at = omega arith
  run_most (suc k) at =
      pick_ind (λ (r : ℕ). r ≤ suc k) _ _ (is_of limit role s at) (λ _. omega (arith, run_most k (at + 16))) (λ _. omega arith)

  -- the record behind it is none of the role, where there may be one more
  pub run_stop : (k at : ℕ) → run_of limit role s k at < k → is_of limit role s (at + 16 * run_of limit role s k at) ≡ false
  unfolding run_of
  run_stop zero at = λ h. absurd (omega arith)
  run_stop (suc k) at =
      pick_ind (λ (r : ℕ). r < suc k → is_of limit role s (at + 16 * r) ≡ false) _ _ (is_of limit role s at) (λ _ h.
      let e : at + 16 * suc (run_of limit role s k (at + 16)) ≡ at + 16 + 16 * run_of limit role s k (at + 16) = omega arith in
      rw e (run_stop k (at + 16) (omega arith))) (λ f _.
      let e : at + 16 * 0 ≡ at = omega arith in
      rw e f)
