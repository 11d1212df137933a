-- What follows a reading. Assumes nothing.
use mathlib.Core.Path.{◌≡◌, refl}
use Prim.Native.Nat.{ℕ}
use Rattle.common.specs.Got.{Got, got, bad, on}
use Rattle.common.specs.declared.refusal.Fault.{Fault}

-- it is looked at only for what is read
pub on_same : {A B : Type 0} (x : Got A) (f g : A → ℕ → Got B) → ((a : A) (n : ℕ) → x ≡ got a n → f a n ≡ g a n) → on x f ≡ on x g
unfolding on
on_same (got a n) f g e = e a n refl
on_same (bad z p) f g e = refl

pub on_on : {A B C : Type 0} (x : Got A) (f : A → ℕ → Got B) (g : B → ℕ → Got C) → on (on x f) g ≡ on x (λ a n. on (f a n) g)
unfolding on
on_on (got a n) f g = refl
on_on (bad z p) f g = refl

pub on_got : {A B : Type 0} (x : Got A) (a : A) (n : ℕ) (f : A → ℕ → Got B) → x ≡ got a n → on x f ≡ f a n
unfolding on
on_got x a n f e = rw e

pub on_bad : {A B : Type 0} (x : Got A) (z : Fault) (p : ℕ) (f : A → ℕ → Got B) → x ≡ bad z p → on x f ≡ bad z p
unfolding on
on_bad x z p f e = rw e
