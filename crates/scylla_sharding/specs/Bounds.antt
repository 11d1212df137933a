-- Bounds of token ranges: how one is read, and which may follow which. Assumes nothing.
use Rattle.std.specs.Prelude.{ℕ, Bool, true, false, not, ltb, eqb}
use Rattle.common.specs.Choose.{pick}
use Rattle.common.specs.Times.{biased}
use Rattle.common.specs.Got.{got, bad, on, Reader, ◌>>=◌, ret}
use Rattle.number_fixed.specs.BigEndian.{fixed_at}
use Rattle.common.specs.declared.refusal.Fault.TheVariants.{BadFlags, NotCarried}
use Rattle.scylla_sharding.specs.Regions.{length_at}
use Rattle.scylla_sharding.specs.declared.bound.Bound.{Bound}

abbrev pub bound : ℕ → ℕ → Bound
bound exclusive token = record { exclusive = exclusive; token = token }

-- "exclusive_flag = byte // 0=inclusive, 1=exclusive"; above 1 it is 4
unfoldable pub flag_at : Reader ℕ
flag_at s at end = on (fixed_at 1 s at end) (λ x n. pick (ltb 1 x) (bad BadFlags at) (got x n))

-- "token = token_size byte*", "token_size = be16"; 7 at the size unless it is 8. "Tokens are eight bytes, signed": kept plus 2^63, so
-- that their order is the signed order (proofs/Tokens.antt), and -2^63, the least token, is 0
unfoldable pub token_at : Reader ℕ
token_at s at end =
    on (length_at 2 s at end) (λ z n.
    pick (eqb z 8) (on (fixed_at 8 s n end) (λ x m. got (biased x) m))
    (bad NotCarried at))

-- "token_bound = exclusive_flag token"
unfoldable pub bound_at : Reader Bound
bound_at = flag_at >>= (λ x. token_at >>= (λ t. ret (bound x t)))

-- "both inclusive"
unfoldable pub both_inclusive : Bound → Bound → Bool
both_inclusive a b = pick (eqb a.exclusive 0) (eqb b.exclusive 0) false

-- "In a range left < right, or equal and both inclusive"
unfoldable pub is_range : Bound → Bound → Bool
is_range l r = pick (ltb l.token r.token) true (pick (eqb l.token r.token) (both_inclusive l r) false)

-- "the next left is above this right, or equal and not both inclusive"
unfoldable pub is_next : Bound → Bound → Bool
is_next r l = pick (ltb r.token l.token) true (pick (eqb r.token l.token) (not (both_inclusive r l)) false)
