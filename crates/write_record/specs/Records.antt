-- What the code says of a record, and a record before the test of its kind. Assumes nothing.
use Rattle.std.specs.Prelude.{ℕ, ◌+◌, ◌-◌, Bool, true, List, ltb}
use Rattle.common.specs.Choose.{pick, bind}
use Rattle.common.specs.Got.{Got, got, bad, Reader}
use Rattle.common.specs.declared.refusal.Fault.TheVariants.{OutOfRange, BadRecord}
use Rattle.common.specs.declared.times.Bases.{Bases}
use Rattle.data_items.specs.declared.Item.{Item}
use Rattle.write_accept.specs.Fields.{item_of, stray_bytes, stray_numbers, has_time, has_expiry, has_local, has_mark, has_second}
use Rattle.write_accept.specs.Records.{outside_timestamp, outside_local, outside_ttl}
use Rattle.write_accept.specs.Tests.{bad_partition, bad_static, bad_marker, bad_end}
use Rattle.write_record.specs.declared.tests.Turn.{Turn}
use Rattle.write_record.specs.declared.tests.Turn.TheVariants.{Partition, Static, Marker, End}

-- what the record at at does not use is not zero; i are its numbers
unfoldable pub stray_record : List ℕ → ℕ → Item → Bool
stray_record s at i = pick (stray_bytes s at) true (stray_numbers i)

-- the record at at, nothing stray in it
unfoldable pub plain_at : Reader Item
plain_at s at end =
    pick (ltb (end - at) 64) (bad BadRecord end)
    (bind (item_of s at) (λ i.
    pick (stray_record s at i) (bad BadRecord at)
    (got i at)))

-- ---- the numbers' ranges: those that every kind may use, and a boundary's second mark and local time
unfoldable pub own_last_at : Bases → Item → ℕ → Got Item
own_last_at b i at =
    pick (outside_local b (has_local i) i.local) (bad OutOfRange (at + 24))
    (pick (outside_local b (has_expiry i) i.expiry) (bad OutOfRange (at + 28))
    (got i (at + 64)))

unfoldable pub own_at : Bases → Item → ℕ → Got Item
own_at b i at =
    pick (outside_ttl b (has_expiry i) i.ttl) (bad OutOfRange (at + 4))
    (pick (outside_timestamp b (has_time i) i.timestamp) (bad OutOfRange (at + 8))
    (pick (outside_timestamp b (has_mark i) i.mark) (bad OutOfRange (at + 16))
    (own_last_at b i at)))

unfoldable pub second_at : Bases → Item → ℕ → Got Item
second_at b i at =
    pick (outside_timestamp b (has_second i) i.mark2) (bad OutOfRange (at + 32))
    (pick (outside_local b (has_second i) i.local2) (bad OutOfRange (at + 40))
    (got i (at + 64)))

-- a record that is none of its turn; rows, clustering values and cells are read by functions of their own; bytes are those lent beside the records
unfoldable pub wrong_in : List ℕ → Turn → Item → Bool
wrong_in bytes Partition = bad_partition bytes
wrong_in bytes (Static first statics) = bad_static first statics
wrong_in bytes (Marker opened) = bad_marker opened
wrong_in bytes (End opened) = bad_end opened
