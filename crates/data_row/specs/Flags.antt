-- The flags of a row and its extended byte. Assumes nothing.
use Rattle.std.specs.Prelude.{ℕ, ◌/◌, ◌%◌, Bool, true, ltb, eqb}
use Rattle.common.specs.Choose.{pick}
use Rattle.common.specs.Got.{Got, got, bad, on, Reader}
use Rattle.common.specs.declared.refusal.Fault.TheVariants.{BadFlags, OutOfTurn, NotCarried}
use Rattle.data_field.specs.Fields.{byte_at}
use Rattle.data_turns.specs.Turns.{may_stand}

-- "Row flags: 01 end (alone), 02 marker (alone), 04 timestamp, 08 TTL (only with 04), 10 deletion, 20 all columns, 40 complex deletion
-- (bad here), 80 extended byte follows": whether f are not those of a row
unfoldable pub bad_row_flags : ℕ → Bool
bad_row_flags f =
    pick (ltb 0 (f % 4)) true
    (pick (eqb (f / 4 % 4) 2) true
    (eqb (f / 64 % 2) 1))

-- the flags: 4 at them
unfoldable pub row_flags_at : Reader ℕ
row_flags_at s at end = on (byte_at s at end) (λ f n. pick (bad_row_flags f) (bad BadFlags at) (got f n))

-- "Extended: 00 nothing, 01 static, 02 and 80 shadowable (7), others bad": what the byte x that stands at place at, before n, gives
unfoldable pub extended_of : ℕ → ℕ → ℕ → ℕ → ℕ → Got ℕ
extended_of first statics x at n =
    pick (eqb x 0) (got 0 n)
    (pick (eqb x 1) (pick (may_stand first statics) (got 1 n) (bad OutOfTurn at))
    (pick (eqb x 2) (bad NotCarried at)
    (pick (eqb x 128) (bad NotCarried at)
    (bad BadFlags at))))

-- the extended byte that follows the flags f, 0 where there is none
unfoldable pub extended_at : ℕ → ℕ → ℕ → Reader ℕ
extended_at f first statics s at end =
    pick (eqb (f / 128 % 2) 1)
    (on (byte_at s at end) (λ x n. extended_of first statics x at n))
    (got 0 at)
