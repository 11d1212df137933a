-- How the definitions choose: by a test, and by a value that is named. Shut, so that a proof goes by the laws of proofs/Choose.antt.
-- Assumes nothing.
use Rattle.std.specs.Prelude.{Bool, true, false}

-- a where the test t passes, else b
unfoldable pub pick : {A : Type 0} → Bool → A → A → A
pick true a b = a
pick false a b = b

-- f at x
unfoldable pub bind : {A B : Type 0} → A → (A → B) → B
bind x f = f x
