-- Ranges and progress: that P holds of whatever reading gives, with a law for each way to read on. Assumes nothing.
use Rattle.std.proofs.Common.{◌≡◌, ℕ, Bool, true, false, refl, subst, arith}
use Rattle.common.specs.Choose.{pick, bind}
use Rattle.common.specs.Got.{Got, got, bad, on}
use Rattle.common.specs.declared.refusal.Fault.{Fault}

-- P holds of the value that x gives, and the place after it
pub record Gives {A : Type 0} (x : Got A) (P : A → ℕ → Type 0) : Type 0 where
  pub given : (a : A) (n : ℕ) → x ≡ got a n → P a n

pub never : {A C : Type 0} {f : Fault} {p n : ℕ} {a : A} → bad f p ≡ got a n → C
never e = let z : ◌≡◌ {A = ℕ} 0 1 = cc in absurd (omega arith)

pub got_value : {A : Type 0} {a b : A} {m n : ℕ} → got a m ≡ got b n → a ≡ b
got_value e = cc

pub got_place : {A : Type 0} {a b : A} {m n : ℕ} → got a m ≡ got b n → m ≡ n
got_place e = cc

pub gives_got : {A : Type 0} {P : A → ℕ → Type 0} (a : A) (n : ℕ) → P a n → Gives (got a n) P
gives_got {P} a n h = record { given = λ b m e. subst (λ x. P x m) (got_value e) (subst (P a) (got_place e) h) }

pub gives_bad : {A : Type 0} {P : A → ℕ → Type 0} (f : Fault) (p : ℕ) → Gives (bad f p) P
gives_bad f p = record { given = λ b m e. never e }

pub gives_on : {A B : Type 0} {P : A → ℕ → Type 0} {Q : B → ℕ → Type 0} {x : Got A} (k : A → ℕ → Got B) → Gives x P → ((a : A) (n : ℕ) → P a n → Gives (k a n) Q) → Gives (on x k) Q
unfolding on
gives_on {A} {B} {P} {Q} {x} k h g = record { given = λ b m e. go x refl b m e }
  where
    go : (y : Got A) → x ≡ y → (b : B) (m : ℕ) → on y k ≡ got b m → Q b m
    go (got a n) d b m e = (g a n (h.given a n d)).given b m e
    go (bad z p) d b m e = never e

pub gives_pick : {A : Type 0} {P : A → ℕ → Type 0} (t : Bool) {x y : Got A} → (t ≡ true → Gives x P) → (t ≡ false → Gives y P) → Gives (pick t x y) P
unfolding pick
gives_pick true h g = h refl
gives_pick false h g = g refl

pub gives_bind : {A B : Type 0} {P : B → ℕ → Type 0} (a : A) (k : A → Got B) → Gives (k a) P → Gives (bind a k) P
unfolding bind
gives_bind a k h = h

-- what is known of one reading is known of a reading equal to it
pub gives_is : {A : Type 0} {P : A → ℕ → Type 0} {x : Got A} {a : A} {n : ℕ} → Gives x P → x ≡ got a n → P a n
gives_is h e = h.given _ _ e
