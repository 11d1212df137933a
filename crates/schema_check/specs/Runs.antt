-- The records as the code goes through them, role by role. Assumes nothing.
use Rattle.std.specs.Prelude.{ℕ, zero, suc, ◌+◌, ◌-◌, Bool, false, List, [], ◌∷◌, ltb, eqb, length}
use Rattle.common.specs.Choose.{pick}
use Rattle.type_table.specs.Table.{line_of}
use Rattle.schema_check.specs.Records.{role_at, given}

-- f at each number below n, one after the other
unfoldable pub each_below : ℕ → (ℕ → ℕ) → List ℕ
each_below zero f = []
each_below (suc n) f = f 0 ∷ each_below n (λ i. f (suc i))

-- the width of each line, from line 0
unfoldable pub all_widths : List ℕ
all_widths = each_below 35 (λ l. (line_of l).width)

-- whether a whole record stands at at, has the role and is one that Statistics gives
unfoldable pub is_of : ℕ → ℕ → List ℕ → ℕ → Bool
is_of limit role s at = pick (ltb (length s - at) 16) false (pick (eqb (role_at s at) role) (given limit s at) false)

unfoldable pub lesser_of : ℕ → ℕ → ℕ
lesser_of a b = pick (ltb a b) a b

-- how many records of the role stand from at on, one behind the other, of at most k
unfoldable pub run_of : ℕ → ℕ → List ℕ → ℕ → ℕ → ℕ
run_of limit role s zero at = 0
run_of limit role s (suc k) at = pick (is_of limit role s at) (suc (run_of limit role s k (at + 16))) 0
