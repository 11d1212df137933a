-- The examples of the decisions for the header, as one statement: T x is a Statistics whose entry 3 is x and begins at 30. Assumes nothing.
use Rattle.std.proofs.Common.{◌≡◌, ℕ, List, [], ◌∷◌, length, refl}
use Rattle.common.specs.Choose.{pick, bind}
use Rattle.common.specs.Got.{Got, got, bad, on}
use Rattle.number_fixed.specs.BigEndian.{big_endian, bytes_of}
use Rattle.common.specs.Store.{part, shown}
use Rattle.common.specs.Times.{biased}
use Rattle.number_varint.specs.Varints.{leading, low, varint_at}
use Rattle.common.specs.declared.refusal.Fault.{Fault}
use Rattle.common.specs.declared.refusal.Fault.TheVariants.{PastEnd, LeftOver, OutOfRange, NotCarried, TooMany, Repeated}
use Rattle.text.specs.Text.{same, among}
use Rattle.type_table.specs.Table.{table, line_in, nth, line_of}
use Rattle.type_name.specs.Names.{blank, alphanumeric, of_name, of_parameters, past, up_to, named, counted, inside}
use Rattle.type_string.specs.Strings.{opened, tail, typed, behind, plain, line_with, string_with, held, type_of, string_at, type_at}
use Rattle.schema_check.specs.Records.{most_of}
use Rattle.stats_file.specs.Bases.{timestamp_at, local_of, local_at, ttl_at, bases_at}
use Rattle.stats_file.specs.Header.{count_at, is_named, name_at, typed_at, named_at, column_at, columns_at, group_at, groups_at, header_at, head_of, place_of, tail_of, record_of, records_of, Header}

abbrev T : List ℕ → List ℕ
T x = 0 ∷ 0 ∷ 0 ∷ 2 ∷ 0 ∷ 0 ∷ 0 ∷ 0 ∷ 0 ∷ 0 ∷ 0 ∷ 0x14 ∷ 0 ∷ 0 ∷ 0 ∷ 3 ∷ 0 ∷ 0 ∷ 0 ∷ 0x1E ∷ 0 ∷ 0 ∷ 0 ∷ 0 ∷ 0 ∷ 0 ∷ 0 ∷ 0 ∷ 0 ∷ 0 ∷ x

abbrev Refuses : List ℕ → Fault → ℕ → Type 0
Refuses x f p = header_at (T x) 30 (length (T x)) ≡ bad f p

-- the schema records that the header x gives
abbrev records : Got Header → List ℕ
records (got h n) = records_of h.columns
records (bad f p) = []

abbrev Records : List ℕ → List ℕ → Type 0
Records x r = records (header_at (T x) 30 (length (T x))) ≡ r

pub vectors :
    Refuses (0 ∷ 0 ∷ 0 ∷ 0 ∷ 0 ∷ 1 ∷ 1 ∷ 0x76 ∷ 0 ∷ 1 ∷ 1 ∷ 0x76 ∷ 0 ∷ []) Repeated 41
    × Refuses (0 ∷ 0 ∷ 0xF1 ∷ 0 ∷ 0 ∷ 0 ∷ 0 ∷ []) OutOfRange 32
    × Refuses (0 ∷ 0 ∷ 0 ∷ 0xF1 ∷ 0 ∷ 0 ∷ 0 ∷ 0 ∷ []) PastEnd 33
    × Refuses (0 ∷ 0 ∷ 0 ∷ 0 ∷ 0xF1 ∷ 0 ∷ 0 ∷ 0 ∷ 0 ∷ []) TooMany 34
    × Refuses (0 ∷ 0 ∷ 0 ∷ 1 ∷ 0x28 ∷ []) NotCarried 34
    × Refuses (0 ∷ 0 ∷ 0 ∷ 0 ∷ 0 ∷ 0 ∷ 0 ∷ 9 ∷ []) LeftOver 37
    × Records (0 ∷ 0 ∷ 0 ∷ 0 ∷ 0 ∷ 0 ∷ 1 ∷ 0 ∷ 0 ∷ [])
    (0 ∷ 3 ∷ 0 ∷ 255 ∷ 0 ∷ 0 ∷ 0 ∷ 0 ∷ 0 ∷ 0 ∷ 0 ∷ 0 ∷ 0 ∷ 0 ∷ 0 ∷ 0 ∷ 3 ∷ 3 ∷ 0 ∷ 255 ∷ 0 ∷ 0 ∷ 0 ∷ 38 ∷ 0 ∷ 0 ∷ 0 ∷ 0 ∷ 0 ∷ 0 ∷ 0 ∷ 0 ∷ [])
unfolding header_at groups_at group_at columns_at column_at typed_at named_at name_at is_named count_at most_of bases_at timestamp_at local_at local_of ttl_at biased type_at string_at type_of held string_with line_with plain behind typed tail opened inside counted named up_to past of_parameters of_name alphanumeric blank table line_in nth line_of same among varint_at leading low big_endian bytes_of part shown on pick bind records_of record_of head_of place_of tail_of
vectors = (refl, refl, refl, refl, refl, refl, refl)
