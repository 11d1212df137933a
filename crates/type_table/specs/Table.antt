-- The table of types (source document 001), one line each, from 1, and what document 01 says of each. Assumes nothing.
use Rattle.std.specs.Prelude.{ℕ, zero, suc, ◌+◌, Bool, true, false, List, [], ◌∷◌, eqb, leb, length}
use Prim.Native.String.{String}
use Rattle.common.specs.Choose.{pick}
use Rattle.text.specs.Text.{text, same}

-- a line: the type's name; whether it takes parameters; its fixed width, or 255 where it is variable; whether document 01 orders it;
-- whether a static or regular column may have it
pub record Line : Type 0 where
  pub name : List ℕ
  pub parameters : Bool
  pub width : ℕ
  pub ordered : Bool
  pub column : Bool

abbrev variable : ℕ
variable = 255

abbrev line : String → Bool → ℕ → Bool → Bool → Line
line t p w o c = record { name = text t; parameters = p; width = w; ordered = o; column = c }

-- parameters "exactly where 001 says Yes". "Fixed widths: Boolean 1; Int32, Float 4; Long, Double, Timestamp, Date 8; UUID, TimeUUID,
-- LexicalUUID 16; other names of 001's table are variable". "Clustering types with an order: Int32, Long, Timestamp, Boolean, Ascii,
-- UTF8, Bytes". "As the outer type of a static or regular column List, Map, Set, User and CounterColumn are refused"
unfoldable pub table : List Line
table =
    -- name, parameters, width, ordered, column
    line "AsciiType" false variable true true  -- 1
    ∷ line "BooleanType" false 1 true true
    ∷ line "BytesType" false variable true true  -- 3
    ∷ line "ByteType" false variable false true
    ∷ line "ColumnToCollectionType" true variable false true
    ∷ line "CompositeType" true variable false true
    ∷ line "CounterColumnType" false variable false false  -- 7
    ∷ line "DateType" false 8 false true
    ∷ line "DecimalType" false variable false true
    ∷ line "DoubleType" false 8 false true
    ∷ line "DurationType" false variable false true
    ∷ line "DynamicCompositeType" true variable false true
    ∷ line "EmptyType" false variable false true
    ∷ line "FloatType" false 4 false true
    ∷ line "FrozenType" true variable false true
    ∷ line "InetAddressType" false variable false true
    ∷ line "Int32Type" false 4 true true  -- 17
    ∷ line "IntegerType" false variable false true
    ∷ line "LexicalUUIDType" false 16 false true
    ∷ line "ListType" true variable false false  -- 20
    ∷ line "LongType" false 8 true true
    ∷ line "MapType" true variable false false  -- 22
    ∷ line "PartitionerDefinedOrder" true variable false true
    ∷ line "ReversedType" true variable false true  -- 24: stands in no record, its parameter's line does
    ∷ line "SetType" true variable false false  -- 25
    ∷ line "ShortType" false variable false true
    ∷ line "SimpleDateType" false variable false true
    ∷ line "TimestampType" false 8 true true
    ∷ line "TimeType" false variable false true
    ∷ line "TimeUUIDType" false 16 false true
    ∷ line "TupleType" true variable false true
    ∷ line "UserType" true variable false false  -- 32
    ∷ line "UTF8Type" false variable true true
    ∷ line "UUIDType" false 16 false true  -- 34
    ∷ []

-- "type's line in 001's table from 1": the number of the line, counted on from i, that has the name; 0 where none has it
unfoldable pub line_in : ℕ → List Line → List ℕ → ℕ
line_in i [] name = 0
line_in i (l ∷ ls) name = pick (same l.name name) i (line_in (i + 1) ls name)

-- no line: as 0 and every number above 34 are
unfoldable pub no_line : Line
no_line = record { name = []; parameters = false; width = 0; ordered = false; column = false }

unfoldable pub nth : ℕ → List Line → Line
nth n [] = no_line
nth zero (l ∷ ls) = l
nth (suc n) (l ∷ ls) = nth n ls

-- the line of a number from 1
unfoldable pub line_of : ℕ → Line
line_of zero = no_line
line_of (suc n) = nth n table

-- whether a number is that of a line, 1 to 34
unfoldable pub is_line : ℕ → Bool
is_line l = pick (eqb l 0) false (leb l (length table))

abbrev pub bytes_line : ℕ
bytes_line = 3

abbrev pub reversed_line : ℕ
reversed_line = 24
