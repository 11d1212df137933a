-- A Statistics that gives a schema: the columns' types in their shortest spelling, and names of the letter a that differ in length.
-- Assumes nothing.
use Rattle.std.specs.Prelude.{List, [], ◌∷◌, ◌++◌, ℕ, zero, suc, ◌+◌, ltb, length}
use Rattle.common.specs.Choose.{pick}
use Rattle.number_fixed.specs.BigEndian.{bytes_of}
use Rattle.number_varint.specs.Varints.{shortest}
use Rattle.type_string.specs.declared.Kind.{Kind}
use Rattle.type_spelling.proofs.Spelled.{type_bytes}
use Rattle.schema_column.specs.declared.Column.{Column}

-- a name of n letters
unfoldable pub letters : ℕ → List ℕ
letters zero = []
letters (suc n) = 97 ∷ letters n

-- the type that a record says
abbrev pub kind_of : Column → Kind
kind_of c = record { line = c.line; reversed = c.reversed }

-- how many letters the name of the i-th column has: no two names are equal
abbrev pub letters_of : ℕ → ℕ
letters_of i = i

-- the i-th column of the header: its type; for static and regular behind its name
unfoldable pub column_bytes : ℕ → Column → List ℕ
column_bytes i c = pick (ltb c.role 2) (type_bytes (kind_of c)) (shortest (letters_of i) ++ (letters (letters_of i) ++ type_bytes (kind_of c)))

-- columns from the i-th on
unfoldable pub columns_bytes : ℕ → List Column → List ℕ
columns_bytes i [] = []
columns_bytes i (c ∷ cs) = column_bytes i c ++ columns_bytes (suc i) cs

-- their count, and the columns
unfoldable pub group_bytes : ℕ → List Column → List ℕ
group_bytes i cs = shortest (length cs) ++ columns_bytes i cs

-- the three bases
unfoldable pub bases_bytes : List ℕ
bases_bytes = shortest 0 ++ (shortest 0 ++ shortest 0)

-- the clustering, static and regular columns
unfoldable pub groups_bytes : List Column → List Column → List Column → List ℕ
groups_bytes ks ms rs = group_bytes 1 ks ++ (group_bytes (1 + length ks) ms ++ group_bytes (1 + length ks + length ms) rs)

-- entry 3: bases, the key, and the other columns
unfoldable pub header_bytes : Column → List Column → List Column → List Column → List ℕ
header_bytes key ks ms rs = bases_bytes ++ (columns_bytes 0 (key ∷ []) ++ groups_bytes ks ms rs)

-- the contents: two entries, type 0 at 20 and type 3 at 30
unfoldable pub contents_bytes : List ℕ
contents_bytes = bytes_of 2 4 ++ (bytes_of 0 4 ++ (bytes_of 20 4 ++ (bytes_of 3 4 ++ bytes_of 30 4)))

-- entry 0: a name of length 0, and the chance 0.0
unfoldable pub validation_bytes : List ℕ
validation_bytes = bytes_of 0 2 ++ bytes_of 0 8

unfoldable pub statistics_bytes : Column → List Column → List Column → List Column → List ℕ
statistics_bytes key ks ms rs = contents_bytes ++ (validation_bytes ++ header_bytes key ks ms rs)
