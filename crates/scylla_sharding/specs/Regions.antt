-- Lengths and what they announce, readings one after the other, and those of which only the place after them is kept. Assumes nothing.
use Rattle.std.specs.Prelude.{ℕ, zero, suc, ◌-◌, ltb}
use Rattle.common.specs.Choose.{pick}
use Rattle.common.specs.Got.{Got, got, bad, on, Reader, ◌>>=◌, ret}
use Rattle.number_fixed.specs.BigEndian.{fixed_at}
use Rattle.common.specs.declared.refusal.Fault.TheVariants.{PastEnd}

-- a length of w bytes: 2 at the length where what it announces passes the end
unfoldable pub length_at : ℕ → Reader ℕ
length_at w s at end = on (fixed_at w s at end) (λ z n. pick (ltb (end - n) z) (bad PastEnd at) (got z n))

-- k readings, each with what the one before it gave, a the first
unfoldable pub times : {A : Type 0} → (A → Reader A) → ℕ → A → Reader A
times f zero a = ret a
times f (suc k) a = f a >>= (λ b. times f k b)

-- what is read, but for its value
unfoldable pub passed : {A : Type 0} → Got A → Got (Unit {0})
passed x = on x (λ a n. got tt n)
