-- The bodies of features, extension attributes and run identifier (tags 2, 3 and 4), each filled exactly. Assumes nothing.
use Rattle.std.specs.Prelude.{ℕ, ◌+◌}
use Rattle.common.specs.Got.{got, on, Reader, ◌>>=◌, filled}
use Rattle.number_fixed.specs.BigEndian.{fixed_at}
use Rattle.scylla_sharding.specs.Regions.{length_at, times}
use Rattle.scylla_file.specs.declared.body.Uuid.{Uuid}

-- "features = be64 // interpreted as a set of bits"
unfoldable pub features_at : Reader ℕ
features_at = fixed_at 8 >>= (λ x. filled x)

-- "string32 = string32_size byte*", "string32_size = be32"; the bytes are skipped
unfoldable pub string_at : Reader (Unit {0})
string_at s at end = on (length_at 4 s at end) (λ z n. got tt (n + z))

-- "extension_attribute = extension_attribute_key extension_attribute_value"; "Attribute keys aren't compared"
unfoldable pub attribute_at : Reader (Unit {0})
attribute_at = string_at >>= (λ key. string_at)

-- "extension_attributes = extension_attribute_count extension_attribute*", "extension_attribute_count = be32"
unfoldable pub attributes_at : Reader (Unit {0})
attributes_at = fixed_at 4 >>= (λ k. times (λ u. attribute_at) k tt >>= (λ u. filled tt))

abbrev pub uuid : ℕ → ℕ → Uuid
uuid high low = record { high = high; low = low }

-- "run_identifier = uuid", "uuid = uuid_high_bits uuid_low_bits", both be64
unfoldable pub run_at : Reader Uuid
run_at = fixed_at 8 >>= (λ high. fixed_at 8 >>= (λ low. filled (uuid high low)))
