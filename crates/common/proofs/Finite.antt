-- A test that antt computes at every number below a bound. Assumes nothing.
use Rattle.std.proofs.Common.{ℕ, zero, suc, ◌<◌, Bool, true, false, T, le_of_suc-le-suc, not-suc-le-zero}

abbrev pub both : Bool → Bool → Bool
both true b = b
both false b = false

both_left : (a b : Bool) → T (both a b) → T a
both_left true b t = tt
both_left false b t = t

both_right : (a b : Bool) → T (both a b) → T b
both_right true b t = t
both_right false b t = absurd t

-- where the first passes, the second does
abbrev pub implies : Bool → Bool → Bool
implies true b = b
implies false b = true

-- the test f passes at each number below n
abbrev pub all_below : ℕ → (ℕ → Bool) → Bool
all_below zero f = true
all_below (suc n) f = both (f 0) (all_below n (λ i. f (suc i)))

pub below_at : (n : ℕ) (f : ℕ → Bool) → T (all_below n f) → (k : ℕ) → k < n → T (f k)
below_at zero f t k h = absurd (not-suc-le-zero h)
below_at (suc n) f t zero h = both_left (f 0) (all_below n (λ i. f (suc i))) t
below_at (suc n) f t (suc k) h = below_at n (λ i. f (suc i)) (both_right (f 0) (all_below n (λ i. f (suc i))) t) k (le_of_suc-le-suc h)
