-- A partition's header in the writer's form. Assumes nothing.
use Rattle.std.specs.Prelude.{ℕ, List, ◌++◌, eqb, length}
use Rattle.common.specs.Choose.{pick}
use Rattle.number_fixed.specs.BigEndian.{bytes_of}
use Rattle.common.specs.Times.{biased}
use Rattle.data_field.specs.declared.fields.Deletion.{Deletion}

-- "live is exactly 7FFFFFFF and -2^63"
unfoldable pub header_local : Deletion → ℕ
header_local d = pick (eqb d.deleted 0) 2147483647 d.local

unfoldable pub deleted_bytes : Deletion → List ℕ
deleted_bytes d = bytes_of (header_local d) 4 ++ bytes_of (biased d.mark) 8

-- "16-bit key length, key, local deletion time (32), mark (64)"
unfoldable pub head_bytes : List ℕ → Deletion → List ℕ
head_bytes key d = bytes_of (length key) 2 ++ (key ++ deleted_bytes d)
