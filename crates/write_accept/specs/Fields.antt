-- "Records of 64 bytes, no header": the item that the record at a place spells, and the numbers that its kind and flags use. Timestamp and
-- marks are the signed number plus 2^63. Assumes nothing.
use Rattle.std.specs.Prelude.{ℕ, ◌+◌, ◌/◌, ◌%◌, Bool, true, false, List, ltb, eqb, get_or}
use Rattle.common.specs.Choose.{pick}
use Rattle.number_fixed.specs.BigEndian.{big_endian}
use Rattle.common.specs.Times.{biased}
use Rattle.data_turns.specs.Turns.{is_boundary}
use Rattle.data_items.specs.Items.{item, zeroed}
use Rattle.data_items.specs.declared.Item.{Item}

-- a timestamp or mark
unfoldable pub signed_at : List ℕ → ℕ → ℕ
signed_at s at = biased (big_endian 0 s at 8)

-- the record at at
unfoldable pub item_of : List ℕ → ℕ → Item
item_of s at = item
    (get_or s at 0) (get_or s (at + 1) 0) (get_or s (at + 2) 0) (big_endian 0 s (at + 4) 4) (signed_at s (at + 8)) (signed_at s (at + 16))
    (big_endian 0 s (at + 24) 4) (big_endian 0 s (at + 28) 4) (signed_at s (at + 32)) (big_endian 0 s (at + 40) 4)
    (big_endian 0 s (at + 48) 8) (big_endian 0 s (at + 56) 8)

-- "the rest zero": bytes 3 and 44 to 47
unfoldable pub stray_bytes : List ℕ → ℕ → Bool
stray_bytes s at = pick (ltb 0 (get_or s (at + 3) 0)) true (ltb 0 (big_endian 0 s (at + 44) 4))

-- ---- "flags (1 timestamp, 2 TTL, 4 deletion or tombstone, ..)": what is used
unfoldable pub has_time : Item → Bool
has_time i = eqb (i.flags % 2) 1

-- TTL and expiry local time
unfoldable pub has_expiry : Item → Bool
has_expiry i = eqb (i.flags / 2 % 2) 1

-- a local time: "its local time (a tombstone cell's too)"
unfoldable pub has_local : Item → Bool
has_local i = eqb (i.flags / 4 % 2) 1

-- a tombstone cell has no mark
unfoldable pub has_mark : Item → Bool
has_mark i = pick (eqb i.kind 6) false (has_local i)

-- "second mark and local time": a boundary's
unfoldable pub has_second : Item → Bool
has_second i = pick (eqb i.kind 4) (is_boundary i.column) false

-- "column from 0 or marker kind"
unfoldable pub has_column : Item → Bool
has_column i = pick (ltb i.kind 4) false (ltb i.kind 7)

-- ---- what is not used is zero (decision W6)
-- v is not the number `none`, and is not used
unfoldable pub stray : Bool → ℕ → ℕ → Bool
stray used none v = pick used false (pick (eqb v none) false true)

unfoldable pub stray_first : Item → Bool
stray_first i =
    pick (stray (has_column i) 0 i.column) true
    (pick (stray (has_expiry i) 0 i.ttl) true
    (pick (stray (has_time i) zeroed i.timestamp) true
    (stray (has_mark i) zeroed i.mark)))

unfoldable pub stray_last : Item → Bool
stray_last i =
    pick (stray (has_local i) 0 i.local) true
    (pick (stray (has_expiry i) 0 i.expiry) true
    (pick (stray (has_second i) zeroed i.mark2) true
    (stray (has_second i) 0 i.local2)))

unfoldable pub stray_numbers : Item → Bool
stray_numbers i = pick (stray_first i) true (stray_last i)
