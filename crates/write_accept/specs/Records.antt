-- One record: "The writer checks 10, then 5, in each record". 10 is at the record's first byte, 5 at the number's first byte in it, the leftmost
-- of several (decisions W1, W2, W12). Assumes nothing.
use Rattle.std.specs.Prelude.{ℕ, ◌+◌, ◌-◌, Bool, true, false, ltb, get_or}
use Rattle.common.specs.Choose.{pick, bind}
use Rattle.common.specs.Got.{Got, got, bad, Reader}
use Rattle.common.specs.declared.refusal.Fault.TheVariants.{OutOfRange, BadRecord}
use Rattle.common.specs.declared.times.Bases.{Bases}
use Rattle.data_items.specs.declared.Item.{Item}
use Rattle.write_accept.specs.Fields.{item_of, stray_bytes, has_time, has_expiry, has_local, has_mark, has_second, stray_numbers}

-- "a number out of range or below its base", if it is used
unfoldable pub outside : Bool → ℕ → ℕ → ℕ → ℕ → Bool
outside used lo hi base v = pick used (pick (ltb v base) true (pick (ltb v lo) true (ltb hi v))) false

-- "timestamp and deletion mark -2^63+1 to 2^63-1; local deletion time 0 to 2147483646; TTL 1 to 2147483647"
abbrev pub outside_timestamp : Bases → Bool → ℕ → Bool
outside_timestamp b used v = outside used 1 18446744073709551615 b.timestamp v

abbrev pub outside_local : Bases → Bool → ℕ → Bool
outside_local b used v = outside used 0 2147483646 b.local v

abbrev pub outside_ttl : Bases → Bool → ℕ → Bool
outside_ttl b used v = outside used 1 2147483647 b.ttl v

-- the numbers of the record at at that are tested last
unfoldable pub last_ranges_at : Bases → Item → ℕ → Got Item
last_ranges_at b i at =
    pick (outside_local b (has_local i) i.local) (bad OutOfRange (at + 24))
    (pick (outside_local b (has_expiry i) i.expiry) (bad OutOfRange (at + 28))
    (pick (outside_timestamp b (has_second i) i.mark2) (bad OutOfRange (at + 32))
    (pick (outside_local b (has_second i) i.local2) (bad OutOfRange (at + 40))
    (got i (at + 64)))))

-- the item i that is the record at at, its numbers in range
unfoldable pub ranges_at : Bases → Item → ℕ → Got Item
ranges_at b i at =
    pick (outside_ttl b (has_expiry i) i.ttl) (bad OutOfRange (at + 4))
    (pick (outside_timestamp b (has_time i) i.timestamp) (bad OutOfRange (at + 8))
    (pick (outside_timestamp b (has_mark i) i.mark) (bad OutOfRange (at + 16))
    (last_ranges_at b i at)))

-- a record whose item does not fail the test `wrong`. "A list cut short is 10 at its end", inside a record too (decision W3)
unfoldable pub record_at : Bases → (Item → Bool) → Reader Item
record_at b wrong s at end =
    pick (ltb (end - at) 64) (bad BadRecord end)
    (bind (item_of s at) (λ i.
    pick (stray_bytes s at) (bad BadRecord at)
    (pick (stray_numbers i) (bad BadRecord at)
    (pick (wrong i) (bad BadRecord at)
    (ranges_at b i at)))))

-- the kind of the next record
unfoldable pub kind_at : Reader ℕ
kind_at s at end = pick (ltb (end - at) 64) (bad BadRecord end) (got (get_or s at 0) at)
