-- "Records of 64 bytes, no header: 0 kind; 1 flags; 2 column from 0 or marker kind, each one byte; 4 TTL; 8 timestamp; 16 mark; 24 its local time;
-- 28 expiry local time; 32 and 40 second mark and local time; 48 offset, 56 length; the rest zero". Numbers are big-endian, timestamp and
-- marks signed (decision N1). Assumes nothing.
use Rattle.std.specs.Prelude.{ℕ, List, [], ◌∷◌, ◌++◌}
use Rattle.number_fixed.specs.BigEndian.{bytes_of}
use Rattle.common.specs.Times.{biased}
use Rattle.data_items.specs.declared.Item.{Item}

-- a timestamp or mark, which is kept plus 2^63
unfoldable pub signed_bytes : ℕ → List ℕ
signed_bytes x = bytes_of (biased x) 8

-- bytes 0 and 1
unfoldable pub kind_bytes : Item → List ℕ
kind_bytes i = bytes_of i.kind 1 ++ bytes_of i.flags 1

-- bytes 2 and 3, which is zero
unfoldable pub column_bytes : Item → List ℕ
column_bytes i = bytes_of i.column 1 ++ bytes_of 0 1

-- bytes 0 to 7
unfoldable pub head_bytes : Item → List ℕ
head_bytes i = kind_bytes i ++ column_bytes i ++ bytes_of i.ttl 4

-- bytes 24 to 31
unfoldable pub local_bytes : Item → List ℕ
local_bytes i = bytes_of i.local 4 ++ bytes_of i.expiry 4

-- bytes 8 to 31
unfoldable pub time_bytes : Item → List ℕ
time_bytes i = signed_bytes i.timestamp ++ signed_bytes i.mark ++ local_bytes i

-- bytes 32 to 47; 44 to 47 are zero
unfoldable pub second_bytes : Item → List ℕ
second_bytes i = signed_bytes i.mark2 ++ bytes_of i.local2 4 ++ bytes_of 0 4

-- bytes 48 to 63
unfoldable pub place_bytes : Item → List ℕ
place_bytes i = bytes_of i.offset 8 ++ bytes_of i.length 8

-- bytes 32 to 63
unfoldable pub tail_bytes : Item → List ℕ
tail_bytes i = second_bytes i ++ place_bytes i

unfoldable pub record_of : Item → List ℕ
record_of i = head_bytes i ++ time_bytes i ++ tail_bytes i

-- the records of items, one after the other
unfoldable pub records_of : List Item → List ℕ
records_of [] = []
records_of (i ∷ l) = record_of i ++ records_of l
