-- Bytes that are stored into a slice, and parts of one. Assumes nothing.
use Rattle.std.specs.Prelude.{◌≡◌, ℕ, ◌+◌, ◌-◌, ◌≤◌, List, Option, Some, None, [], ◌++◌, length, take, drop, nat_lt, nat_le}
use Rattle.common.specs.Choose.{pick}

-- d with w in the place of as many elements from place at on
unfoldable pub splice : List ℕ → ℕ → List ℕ → List ℕ
splice d at w = take at d ++ w ++ drop (at + length w) d

-- the len elements of s from start on
unfoldable pub part : List ℕ → ℕ → ℕ → List ℕ
part s start len = take len (drop start s)

-- the len elements of s from start on, where they lie in s; else none
unfoldable pub shown : List ℕ → ℕ → ℕ → List ℕ
shown s start len = pick (nat_lt (length s) start) [] (pick (nat_lt (length s - start) len) [] (part s start len))

-- w fits into d from place at on
pub record Room (d : List ℕ) (at : ℕ) (w : List ℕ) : Type 0 where
  pub fits : at + length w ≤ length d

-- d with w from place at on is d', and n is the place after it
pub record Puts (d d' : List ℕ) (at : ℕ) (w : List ℕ) (n : ℕ) : Type 0 where
  pub next : n ≡ at + length w
  pub stores : d' ≡ splice d at w

-- d with w stored at place at, where it fits there; else d
unfoldable pub stored : List ℕ → ℕ → List ℕ → List ℕ
stored d at w = pick (nat_le (at + length w) (length d)) (splice d at w) d

-- what storing w at place at of d answers: the place after it, or that it does not fit
unfoldable pub storing : List ℕ → ℕ → List ℕ → Option ℕ
storing d at w = pick (nat_le (at + length w) (length d)) (Some (at + length w)) None

-- w is stored at place at of d, which becomes d', and r is the answer; or it does not fit, and d' is d
pub record Stores (d d' : List ℕ) (at : ℕ) (w : List ℕ) (r : Option ℕ) : Type 0 where
  pub answer : r ≡ storing d at w
  pub buffer : d' ≡ stored d at w
