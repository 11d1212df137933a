-- What reading at a place gives, and what follows it: the way in which every format of the library is defined. A reader takes the
-- bytes, the place where it begins and the end of its region; written without them they pass through. Assumes nothing.
use Rattle.std.specs.Prelude.{◌≡◌, ℕ, Bool, List, Result, Ok, Err, nat_lt}
use Rattle.common.specs.Choose.{pick}
use Rattle.common.specs.Refusals.{Outcome, taken, refused}
use Rattle.common.specs.declared.refusal.Fault.{Fault}
use Rattle.common.specs.declared.refusal.Fault.TheVariants.{LeftOver}
use Rattle.common.specs.declared.refusal.Slice.{Slice}
use Rattle.common.specs.declared.reading.Bad.{Bad}

infixl 20 ◌>>=◌
-- a value and the place after it; or a fault and its place
pub data Got (A : Type 0) : Type 0 where
  got : A → ℕ → Got A
  bad : Fault → ℕ → Got A

-- what is read after it, with the value and from the place that it gives
unfoldable pub on : {A B : Type 0} → Got A → (A → ℕ → Got B) → Got B
on (got a n) k = k a n
on (bad f p) k = bad f p

-- a reader: of the bytes s from at on, before end. Open, so that all laws see `on` and `pick`
abbrev pub Reader : Type 0 → Type 0
Reader A = List ℕ → ℕ → ℕ → Got A

-- one reader, and then another
abbrev pub ◌>>=◌ : {A B : Type 0} → Reader A → (A → Reader B) → Reader B
◌>>=◌ f k s at end = on (f s at end) (λ a n. k a s n end)

-- nothing is read
abbrev pub ret : {A : Type 0} → A → Reader A
ret a s at end = got a at

-- one of two readers
abbrev pub when : {A : Type 0} → Bool → Reader A → Reader A → Reader A
when t f g s at end = pick t (f s at end) (g s at end)

-- a, where the region is filled: 3 at the first byte left over
abbrev pub filled : {A : Type 0} → A → Reader A
filled a s at end = pick (nat_lt at end) (bad LeftOver at) (got a at)

-- x is not refused: what one asks for who reads again what was read before, and so tests nothing
pub record Took {A : Type 0} (x : Got A) : Type 0 where
  pub value : A
  pub place : ℕ
  pub is : x ≡ got value place

-- what the code answers that reads: the value and the place after it, or the fault and its place
abbrev pub Reading : Type 0 → Type 0
Reading A = Result (A × ℕ) Bad

-- what it says: the value with the place after it, the place alone, or the fault
unfoldable pub said : {A : Type 0} → Reading A → Got A
said (Ok x) = got x.0 x.1
said (Err e) = bad e.fault e.place

unfoldable pub said_place : Result ℕ Bad → Got (Unit {0})
said_place (Ok n) = got tt n
said_place (Err e) = bad e.fault e.place

-- what a call answers that reads a slice: the value, or the refusal in that slice
unfoldable pub within : {A : Type 0} → Slice → Got A → Outcome A
within z (got a n) = taken a
within z (bad f p) = refused f z p
