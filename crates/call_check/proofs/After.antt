-- What follows an outcome behind `?`. Assumes nothing.
use Rattle.std.proofs.Common.{◌≡◌, Result, Continue, Break}
use Rattle.std.specs.Result.{result_from_control_flow}
use Rattle.common.specs.Refusals.{Outcome, refused, outcome}
use Rattle.common.specs.declared.refusal.Refusal.{Refusal}
use Rattle.call_check.specs.Tables.{after}

pub after_tried : {A B : Type 0} (q : Outcome B) (g : A → Outcome B) (r : Result A Refusal) (x : Outcome A) (b : _) (k : A)
    → outcome r ≡ x → r ≡ result_from_control_flow b → b ≡ Continue k → q ≡ g k → q ≡ after x g
unfolding after outcome
after_tried q g r x b k e f h i = rw (← e, f, h) i

pub after_failed : {A B : Type 0} (q : Outcome B) (g : A → Outcome B) (r : Result A Refusal) (x : Outcome A) (b : _) (y : _)
    → outcome r ≡ x → r ≡ result_from_control_flow b → b ≡ Break y → q ≡ refused y.0.fault y.0.slice y.0.place → q ≡ after x g
unfolding after outcome
after_failed q g r x b y e f h i = rw (← e, f, h) i

pub ruleset following = (after_tried, after_failed)
