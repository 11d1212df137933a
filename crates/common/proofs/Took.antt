-- Readings that are not refused, for code that reads again what was read before: each part of one is not refused either. Assumes nothing.
use Rattle.std.proofs.Common.{◌≡◌, ℕ, Bool, true, false, refl}
use Rattle.common.specs.Choose.{pick}
use Rattle.common.specs.Got.{Got, got, bad, on, Took}
use Rattle.common.specs.declared.refusal.Fault.{Fault}
use Rattle.common.proofs.Gives.{never}

-- ---- one reading, and then another
pub took_first : {A B : Type 0} (x : Got A) (k : A → ℕ → Got B) → Took (on x k) → Took x
unfolding on
took_first (got a n) k t = record { value = a; place = n; is = refl }
took_first (bad f p) k t = never t.is

pub took_then : {A B : Type 0} (x : Got A) (k : A → ℕ → Got B) (a : A) (n : ℕ) → got a n ≡ x → Took (on x k) → Took (k a n)
unfolding on
took_then x k a n e t = rw (← e) at t

-- ---- one of two readings
pub took_yes : {A : Type 0} (t : Bool) (x y : Got A) → t ≡ true → Took (pick t x y) → Took x
unfolding pick
took_yes t x y e h = rw e at h

pub took_no : {A : Type 0} (t : Bool) (x y : Got A) → t ≡ false → Took (pick t x y) → Took y
unfolding pick
took_no t x y e h = rw e at h

-- ---- a test that refuses has not
pub took_past : {A : Type 0} (t : Bool) (f : Fault) (p : ℕ) (y : Got A) → Took (pick t (bad f p) y) → Took y
unfolding pick
took_past true f p y h = never h.is
took_past false f p y h = h

pub past : {A : Type 0} (t : Bool) (f : Fault) (p : ℕ) (y : Got A) → Took (pick t (bad f p) y) → t ≡ false
unfolding pick
past true f p y h = never h.is
past false f p y h = refl

-- ---- in the direction of a contract `got .. ≡ definition`: what follows a callee's answer
pub on_again : {A B : Type 0} (q : Got B) (x : Got A) (k : A → ℕ → Got B) (a : A) (n : ℕ) → got a n ≡ x → q ≡ k a n → q ≡ on x k
unfolding on
on_again q x k a n e g = rw (← e) g
