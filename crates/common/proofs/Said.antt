-- What the code's answers say, in the direction of a contract `said r ≡ definition`: `search (trying, cases) depth 12` answers each
-- return of a function that reads by `?`, `search (reading, cases) depth 12` one that matches. Where `?` returns, `said_again` comes first.
-- Assumes nothing.
use Rattle.std.proofs.Common.{◌≡◌, ℕ, Result, Ok, Err, Continue, Break, sym, refl, ◌∙◌}
use Rattle.std.specs.Result.{result_from_control_flow, IsErr, IsErrAnd}
use Rattle.common.specs.Got.{Got, got, bad, on, Reading, said, said_place, within}
use Rattle.common.specs.Refusals.{Outcome, taken, refused, outcome, bad_at, refusal_at}
use Rattle.common.specs.declared.reading.Bad.{Bad}
use Rattle.common.specs.declared.refusal.Fault.{Fault}
use Rattle.common.specs.declared.refusal.Refusal.{Refusal}
use Rattle.common.specs.declared.refusal.Slice.{Slice}

-- ---- an answer says what it holds
pub said_ok : {A : Type 0} (v : A × ℕ) (q : Got A) → got v.0 v.1 ≡ q → said (Ok v) ≡ q
unfolding said
said_ok v q e = e

pub said_err : {A : Type 0} (y : Bad) (f : Fault) (p : ℕ) (q : Got A) → y ≡ bad_at f p → bad f p ≡ q → said (Err y) ≡ q
unfolding said
said_err y f p q d e = rw d e

pub said_bad : {A : Type 0} (y : Bad) (q : Got A) → bad y.fault y.place ≡ q → said (Err y) ≡ q
unfolding said
said_bad y q e = e

-- what `?` returns says what it was handed
pub said_again : {A : Type 0} (w : Reading A) (y : Bad) (q : Got A) → IsErr w × IsErrAnd w (λ z. z ≡ y) → bad y.fault y.place ≡ q → said w ≡ q
unfolding said
said_again (Ok x) y q d e = absurd d.1
said_again (Err x) y q d e = rw d.1 e

-- ---- what follows a callee's answer
pub on_ok : {A B : Type 0} (q : Got B) (k : A → ℕ → Got B) (r : Reading A) (x : Got A) (v : A × ℕ)
    → said r ≡ x → r ≡ Ok v → q ≡ k v.0 v.1 → q ≡ on x k
unfolding on said
on_ok q k r x v e f h = rw (← e, f) h

pub on_err : {A B : Type 0} (q : Got B) (k : A → ℕ → Got B) (r : Reading A) (x : Got A) (y : Bad)
    → said r ≡ x → r ≡ Err y → q ≡ bad y.fault y.place → q ≡ on x k
unfolding on said
on_err q k r x y e f h = rw (← e, f) h

-- the same behind `?`
pub on_tried : {A B : Type 0} (q : Got B) (k : A → ℕ → Got B) (r : Reading A) (x : Got A) (b : _) (v : A × ℕ)
    → said r ≡ x → r ≡ result_from_control_flow b → b ≡ Continue v → q ≡ k v.0 v.1 → q ≡ on x k
unfolding on said
on_tried q k r x b v e f g h = rw (← e, f, g) h

pub on_failed : {A B : Type 0} (q : Got B) (k : A → ℕ → Got B) (r : Reading A) (x : Got A) (b : _) (y : _)
    → said r ≡ x → r ≡ result_from_control_flow b → b ≡ Break y → q ≡ bad y.0.fault y.0.place → q ≡ on x k
unfolding on said
on_failed q k r x b y e f g h = rw (← e, f, g) h

pub ruleset reading = (on_ok, on_err, said_ok, said_err, said_bad)

pub ruleset trying = (on_tried, on_failed, said_ok, said_err)

-- what `?` goes on with, and what it returns
pub tried : {A E : Type 0} (r : Result A E) (b : _) (y : A) → r ≡ result_from_control_flow b → b ≡ Continue y → r ≡ Ok y
tried r b y e f = rw (e, f) refl

pub failed : {A E : Type 0} (r : Result A E) (b : _) (y : _) → r ≡ result_from_control_flow b → b ≡ Break y → r ≡ Err y.0
failed r b y e f = rw (e, f) refl

-- ---- the same, where nothing but the place is of interest
pub place_ok : (n : ℕ) (q : Got (Unit {0})) → got tt n ≡ q → said_place (Ok n) ≡ q
unfolding said_place
place_ok n q e = e

pub place_err : (y : Bad) (f : Fault) (p : ℕ) (q : Got (Unit {0})) → y ≡ bad_at f p → bad f p ≡ q → said_place (Err y) ≡ q
unfolding said_place
place_err y f p q d e = rw d e

pub place_again : (w : Result ℕ Bad) (y : Bad) (q : Got (Unit {0})) → IsErr w × IsErrAnd w (λ z. z ≡ y) → bad y.fault y.place ≡ q → said_place w ≡ q
unfolding said_place
place_again (Ok x) y q d e = absurd d.1
place_again (Err x) y q d e = rw d.1 e

pub place_tried : {B : Type 0} (q : Got B) (k : Unit {0} → ℕ → Got B) (r : Result ℕ Bad) (x : Got (Unit {0})) (b : _) (n : ℕ)
    → said_place r ≡ x → r ≡ result_from_control_flow b → b ≡ Continue n → q ≡ k tt n → q ≡ on x k
unfolding on said_place
place_tried q k r x b n e f g h = rw (← e, f, g) h

pub place_failed : {B : Type 0} (q : Got B) (k : Unit {0} → ℕ → Got B) (r : Result ℕ Bad) (x : Got (Unit {0})) (b : _) (y : _)
    → said_place r ≡ x → r ≡ result_from_control_flow b → b ≡ Break y → q ≡ bad y.0.fault y.0.place → q ≡ on x k
unfolding on said_place
place_failed q k r x b y e f g h = rw (← e, f, g) h

pub ruleset places = (place_tried, place_failed, place_ok, place_err)

-- what a callee's place tells of its definition
pub place_got : (r : Result ℕ Bad) (x : Got (Unit {0})) (n : ℕ) → said_place r ≡ x → r ≡ Ok n → x ≡ got tt n
unfolding said_place
place_got r x n e f = sym e ∙ rw f refl

pub place_not : (r : Result ℕ Bad) (x : Got (Unit {0})) (y : Bad) → said_place r ≡ x → r ≡ Err y → x ≡ bad y.fault y.place
unfolding said_place
place_not r x y e f = sym e ∙ rw f refl

-- where a promise is more than what the answer says: `rw (again _ _ c.from_residual.ensures) (..)`
pub again : {A E : Type 0} (w : Result A E) (y : E) → IsErr w × IsErrAnd w (λ z. z ≡ y) → w ≡ Err y
again (Ok x) y d = absurd d.1
again (Err x) y d = rw d.1 refl

-- ---- what a callee's answer tells of its definition
pub said_got : {A : Type 0} (r : Reading A) (x : Got A) (v : A) (n : ℕ) → said r ≡ x → r ≡ Ok (v, n) → x ≡ got v n
unfolding said
said_got r x v n e f = sym e ∙ rw f refl

pub said_not : {A : Type 0} (r : Reading A) (x : Got A) (y : Bad) → said r ≡ x → r ≡ Err y → x ≡ bad y.fault y.place
unfolding said
said_not r x y e f = sym e ∙ rw f refl

-- ---- calls that answer with the slice
pub outcome_ok : {A : Type 0} (v : A) (q : Outcome A) → taken v ≡ q → outcome (Ok v) ≡ q
unfolding outcome
outcome_ok v q e = e

pub outcome_err : {A : Type 0} (r : Refusal) (f : Fault) (z : Slice) (p : ℕ) (q : Outcome A) → r ≡ refusal_at f z p → refused f z p ≡ q → outcome (Err r) ≡ q
unfolding outcome
outcome_err r f z p q d e = rw d e

pub outcome_again : {A : Type 0} (w : Result A Refusal) (y : Refusal) (q : Outcome A) → IsErr w × IsErrAnd w (λ z. z ≡ y) → refused y.fault y.slice y.place ≡ q → outcome w ≡ q
unfolding outcome
outcome_again (Ok x) y q d e = absurd d.1
outcome_again (Err x) y q d e = rw d.1 e

pub within_ok : {A : Type 0} (z : Slice) (r : Reading A) (v : A × ℕ) (q : Outcome A) → r ≡ Ok v → q ≡ taken v.0 → q ≡ within z (said r)
unfolding within said
within_ok z r v q e f = rw e f

pub within_err : {A : Type 0} (z : Slice) (r : Reading A) (y : Bad) (q : Outcome A) → r ≡ Err y → q ≡ refused y.fault z y.place → q ≡ within z (said r)
unfolding within said
within_err z r y q e f = rw e f

pub ruleset answering = (outcome_ok, outcome_err, within_ok, within_err)
