-- Sharding metadata: "a sorted list of disjoint token ranges". Assumes nothing.
use Rattle.std.specs.Prelude.{ℕ, zero, suc, List, [], ◌∷◌}
use Rattle.common.specs.Choose.{pick}
use Rattle.common.specs.Got.{got, bad, on, Reader, ◌>>=◌, ret, filled}
use Rattle.number_fixed.specs.BigEndian.{fixed_at}
use Rattle.common.specs.declared.refusal.Fault.TheVariants.{Repeated}
use Rattle.scylla_sharding.specs.Bounds.{bound, bound_at, is_range, is_next}
use Rattle.scylla_sharding.specs.declared.bound.Bound.{Bound}

pub record Range : Type 0 where
  pub left : Bound
  pub right : Bound

abbrev pub range : Bound → Bound → Range
range l r = record { left = l; right = r }

-- a left bound, r the right bound before it: "(9, at the later bound)"
unfoldable pub left_at : Bound → Reader Bound
left_at r s at end = on (bound_at s at end) (λ l n. pick (is_next r l) (got l n) (bad Repeated at))

-- the right bound of the range that l begins
unfoldable pub right_at : Bound → Reader Bound
right_at l s at end = on (bound_at s at end) (λ r n. pick (is_range l r) (got r n) (bad Repeated at))

-- "token_range = left_token_bound right_token_bound": k of them, r the right bound before them
unfoldable pub ranges_after : Bound → ℕ → Reader (List Range)
ranges_after r zero = ret []
ranges_after r (suc k) = left_at r >>= (λ l. right_at l >>= (λ r. ranges_after r k >>= (λ rs. ret (range l r ∷ rs))))

-- one range: its right bound is all that those after it depend on
unfoldable pub range_after : Bound → Reader Bound
range_after r = left_at r >>= (λ l. right_at l)

-- before the first range: every bound may follow an exclusive bound at the least token
abbrev pub first : Bound
first = bound 1 0

-- "sharding_metadata = token_range_count token_range*", "token_range_count = be32"
unfoldable pub ranges_at : Reader (List Range)
ranges_at = fixed_at 4 >>= (λ k. ranges_after first k)

-- the component's body, filled exactly
unfoldable pub sharding_at : Reader (List Range)
sharding_at = ranges_at >>= (λ rs. filled rs)
