-- "at most once each": behind a body of a known tag that tag is seen, wherever the body begins but at 0. Assumes nothing.
use mathlib.Core.Path.{◌≡◌}
use mathlib.Core.Bool.{true}
use mathlib.Core.List.{List}
use Prim.Native.Nat.{ℕ, ◌<◌}
use native.Mathlib.Omega.{arith}
use borrow.Author.Tests.{lt-ltb, eqb-true, eqb-false}
use lib.Dec.{eqb}
use Rattle.common.specs.Choose.{pick}
use Rattle.common.specs.Got.{Got}
use Rattle.common.proofs.Gives.{Gives, gives_got, gives_pick, gives_on}
use Rattle.scylla_file.specs.Components.{is_seen, with_sharding, with_features, with_attributes, with_run, body_at}
use Rattle.scylla_file.specs.declared.component.Components.{Components}

any : {A : Type 0} (x : Got A) → Gives x (λ a n. Unit {0})
any x = record { given = λ a n e. tt }

module _ (c : Components) (s : List ℕ) (at end : ℕ) (h : 0 < at) where
  sharding_seen : Gives (with_sharding c s at end) (λ d n. is_seen d 1 ≡ true)
  unfolding with_sharding is_seen pick
  sharding_seen = gives_on _ (any _) (λ u n x. gives_got _ n (lt-ltb 0 at h))

  features_seen : Gives (with_features c s at end) (λ d n. is_seen d 2 ≡ true)
  unfolding with_features is_seen pick
  features_seen = gives_on _ (any _) (λ u n x. gives_got _ n (lt-ltb 0 at h))

  attributes_seen : Gives (with_attributes c s at end) (λ d n. is_seen d 3 ≡ true)
  unfolding with_attributes is_seen pick
  attributes_seen = gives_on _ (any _) (λ u n x. gives_got _ n (lt-ltb 0 at h))

  run_seen : Gives (with_run c s at end) (λ d n. is_seen d 4 ≡ true)
  unfolding with_run is_seen pick
  run_seen = gives_on _ (any _) (λ u n x. gives_got _ n (lt-ltb 0 at h))

  pub once : (t : ℕ) → 0 < t → t < 5 → Gives (body_at t c s at end) (λ d n. is_seen d t ≡ true)
  unfolding body_at
  once t k l =
      gives_pick (eqb t 1) (λ e. rw (eqb-true t 1 e) sharding_seen) (λ e.
      gives_pick (eqb t 2) (λ f. rw (eqb-true t 2 f) features_seen) (λ f.
      gives_pick (eqb t 3) (λ g. rw (eqb-true t 3 g) attributes_seen) (λ g.
      gives_pick (eqb t 4) (λ i. rw (eqb-true t 4 i) run_seen) (λ i.
      absurd (omega (arith, eqb-false t 1 e, eqb-false t 2 f, eqb-false t 3 g, eqb-false t 4 i))))))
