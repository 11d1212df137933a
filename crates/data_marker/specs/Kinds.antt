-- "Marker: kind (0 exclusive end, 1 inclusive start, 2 exclusive end with inclusive start, 5 inclusive end with exclusive start, 6 inclusive
-- end, 7 exclusive start), 16-bit count, prefix, sizes, one deletion, or end then start for 2 and 5." Assumes nothing.
use Rattle.std.specs.Prelude.{ℕ, ltb, eqb}
use Rattle.common.specs.Choose.{pick}
use Rattle.common.specs.Got.{got, bad, on, Reader}
use Rattle.number_fixed.specs.BigEndian.{fixed_at}
use Rattle.common.specs.declared.refusal.Fault.TheVariants.{BadFlags, OutOfRange, OutOfTurn}
use Rattle.data_field.specs.Fields.{byte_at}
use Rattle.data_turns.specs.Turns.{bad_kind, out_of_turn}

-- the flags of a marker, 02 alone: 4 at them
unfoldable pub marker_flags_at : Reader ℕ
marker_flags_at s at end = on (byte_at s at end) (λ f n. pick (eqb f 2) (got f n) (bad BadFlags at))

-- the kind: 4, or else 6, at it
unfoldable pub kind_at : ℕ → Reader ℕ
kind_at opened s at end =
    on (byte_at s at end) (λ kind n.
    pick (bad_kind kind) (bad BadFlags at)
    (pick (out_of_turn kind opened) (bad OutOfTurn at)
    (got kind n)))

-- the count of clustering columns: above k of them 5 at it
unfoldable pub count_at : ℕ → Reader ℕ
count_at k s at end = on (fixed_at 2 s at end) (λ count n. pick (ltb k count) (bad OutOfRange at) (got count n))
