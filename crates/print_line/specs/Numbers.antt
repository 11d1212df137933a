-- Numbers as text, in ASCII. Assumes nothing.
use Rattle.std.specs.Prelude.{ℕ, zero, suc, ◌+◌, ◌-◌, ◌/◌, ◌%◌, ◌^◌, List, [], ◌∷◌, ◌++◌, ltb}
use Rattle.common.specs.Choose.{pick}

-- the digits of n, at most k of them: the last is n's rest by ten, the others are those of n / 10
unfoldable pub digits : ℕ → ℕ → List ℕ
digits zero n = []
digits (suc k) n = pick (ltb n 10) ((48 + n) ∷ []) (digits k (n / 10) ++ ((48 + n % 10) ∷ []))

-- n in decimal, without leading zeros: any number below 10 ^ 20, so any of 64 bits
unfoldable pub decimal : ℕ → List ℕ
decimal n = digits 20 n

-- the signed number that is kept as x, plus 2^63: "-" before a negative one
unfoldable pub signed : ℕ → List ℕ
signed x = pick (ltb x (2 ^ 63)) (45 ∷ decimal (2 ^ 63 - x)) (decimal (x - 2 ^ 63))
