-- Round trips: that reading at a place gives a value of which P holds, and the place after it, with a law for each way to read on.
-- Assumes nothing.
use Rattle.std.proofs.Common.{◌≡◌, ℕ, Bool, true, false, refl}
use Rattle.common.specs.Choose.{pick}
use Rattle.common.specs.Got.{Got, got, bad, on}
use Rattle.common.specs.declared.refusal.Fault.{Fault}

-- x is a value of which P holds, and n is the place after it
pub record Reads {A : Type 0} (x : Got A) (n : ℕ) (P : A → Type 0) : Type 0 where
  pub value : A
  pub is : x ≡ got value n
  pub holds : P value

pub reads_got : {A : Type 0} {P : A → Type 0} (a : A) (n : ℕ) → P a → Reads (got a n) n P
reads_got a n h = record { value = a; is = refl; holds = h }

pub reads_on : {A B : Type 0} {P : A → Type 0} {Q : B → Type 0} {x : Got A} {m n : ℕ} (k : A → ℕ → Got B) → Reads x m P → ((a : A) → P a → Reads (k a m) n Q) → Reads (on x k) n Q
unfolding on
reads_on k h g = rw h.is (g h.value h.holds)

-- where the value is known
pub reads_at : {A B : Type 0} {Q : B → Type 0} {x : Got A} {m n : ℕ} {a : A} (k : A → ℕ → Got B) → Reads x m (λ y. y ≡ a) → Reads (k a m) n Q → Reads (on x k) n Q
unfolding on
reads_at k h g = rw (h.is, h.holds) g

pub reads_yes : {A : Type 0} {P : A → Type 0} {x : Got A} {n : ℕ} (y : Got A) (t : Bool) → t ≡ true → Reads x n P → Reads (pick t x y) n P
unfolding pick
reads_yes y t e h = rw e h

pub reads_no : {A : Type 0} {P : A → Type 0} {y : Got A} {n : ℕ} (x : Got A) (t : Bool) → t ≡ false → Reads y n P → Reads (pick t x y) n P
unfolding pick
reads_no x t e h = rw e h

pub reads_to : {A : Type 0} {P : A → Type 0} {x : Got A} {m n : ℕ} → m ≡ n → Reads x m P → Reads x n P
reads_to e h = rw (← e) h

-- ---- what follows a reading that is known
pub reads_then : {A B : Type 0} {P : A → Type 0} {x : Got A} {m : ℕ} {y : Got B} (k : A → ℕ → Got B) → Reads x m P → ((a : A) → P a → k a m ≡ y) → on x k ≡ y
unfolding on
reads_then k h g = rw h.is (g h.value h.holds)

pub bad_on : {A B : Type 0} {x : Got A} {f : Fault} {p : ℕ} (k : A → ℕ → Got B) → x ≡ bad f p → on x k ≡ bad f p
unfolding on
bad_on k e = rw e refl
