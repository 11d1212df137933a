-- The laws of `pick` and `bind`, in the direction of a contract `r ≡ definition`: with them `search cases depth 12` finds, from the tests
-- on the way and what the callees ensure, that a return's value is what the definition gives. Assumes nothing.
use Rattle.std.proofs.Common.{◌≡◌, ℕ, Bool, true, false, eqb, sym, refl, ap, ◌∙◌, le-ltb, lt-ltb, eq-eqb, ne_eqb, le-leb}
use borrow.Author.Tests.{lt-leb}
use Rattle.common.specs.Choose.{pick, bind}

pub pick_yes : {A : Type 0} (q a b : A) (t : Bool) → t ≡ true → q ≡ a → q ≡ pick t a b
unfolding pick
pick_yes q a b t e f = rw e f

pub pick_no : {A : Type 0} (q a b : A) (t : Bool) → t ≡ false → q ≡ b → q ≡ pick t a b
unfolding pick
pick_no q a b t e f = rw e f

pub bind_at : {A B : Type 0} (q : B) (x y : A) (f : A → B) → y ≡ x → q ≡ f y → q ≡ bind x f
unfolding bind
bind_at q x y f e g = rw (← e) g

pub bind_self : {A B : Type 0} (q : B) (x : A) (f : A → B) → q ≡ f x → q ≡ bind x f
unfolding bind
bind_self q x f g = g

-- what holds of both answers holds of the one picked
pub pick_ind : {A : Type 0} (P : A → Type 0) (a b : A) (t : Bool) → (t ≡ true → P a) → (t ≡ false → P b) → P (pick t a b)
unfolding pick
pick_ind P a b true f g = f refl
pick_ind P a b false f g = g refl

pub bind_ind : {A B : Type 0} (P : B → Type 0) (x : A) (f : A → B) → P (f x) → P (bind x f)
unfolding bind
bind_ind P x f h = h

-- a number that is m is no other n, as where an arm of a `match` on a number says which it is
pub eqb_other : (x m n : ℕ) → x ≡ m → eqb m n ≡ false → eqb x n ≡ false
eqb_other x m n e f = rw e f

pub ruleset cases = (eqb_other, pick_yes, pick_no, bind_at, bind_self, lt-ltb, le-ltb, le-leb, lt-leb, eq-eqb, ne_eqb, refl)

-- what a callee's answer tells of the test that it stands for
pub told : (r x t : Bool) → r ≡ x → r ≡ t → x ≡ t
told r x t e f = sym e ∙ f
