-- "A partition: 16-bit key length, key, local deletion time (32), mark (64); live is exactly 7FFFFFFF and -2^63." Assumes nothing.
use Rattle.std.specs.Prelude.{ℕ, ◌+◌, ◌-◌, ltb, eqb}
use Rattle.common.specs.Choose.{pick, bind}
use Rattle.common.specs.Times.{biased}
use Rattle.common.specs.Got.{Got, got, bad, on, Reader}
use Rattle.number_fixed.specs.BigEndian.{fixed_at}
use Rattle.common.specs.declared.refusal.Fault.TheVariants.{PastEnd, OutOfRange}
use Rattle.data_field.specs.Fields.{span, deletion, live}
use Rattle.data_field.specs.declared.fields.Deletion.{Deletion}
use Rattle.data_field.specs.declared.fields.Span.{Span}
use Rattle.data_partition.specs.declared.partitions.Partition.{Partition}

-- a key of len bytes from place start on
unfoldable pub key_of : ℕ → ℕ → Span
key_of start len = pick (eqb len 0) (span 0 0) (span start len)

-- the deletion of the local time x that stands at place at and the mark t (plus 2^63) from place p up to n: half of live is 5 at the other
-- half
unfoldable pub deleted_by : ℕ → ℕ → ℕ → ℕ → ℕ → Got Deletion
deleted_by x t at p n =
    pick (eqb x 2147483647)
    (pick (eqb t 0) (got live n) (bad OutOfRange at))
    (pick (eqb t 0) (bad OutOfRange p) (got (deletion 1 t x) n))

-- the deletion of a partition: a negative local time is 5 at once, 7FFFFFFF waits for the mark
unfoldable pub deleted_at : Reader Deletion
deleted_at s at end =
    on (fixed_at 4 s at end) (λ x p.
    pick (ltb 2147483647 x) (bad OutOfRange at)
    (on (fixed_at 8 s p end) (λ y n.
    bind (biased y) (λ t. deleted_by x t at p n))))

-- the header of a partition: 2 at the length for what it announces
unfoldable pub partition_at : Reader Partition
partition_at s at end =
    on (fixed_at 2 s at end) (λ len m.
    pick (ltb (end - m) len) (bad PastEnd at)
    (on (deleted_at s (m + len) end) (λ d n.
    bind (key_of m len) (λ key.
    got (record { key = key; deletion = d }) n))))
