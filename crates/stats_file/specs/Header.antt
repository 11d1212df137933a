-- Entry 3 of Statistics, the serialization header: "bases, key type, clustering types, static columns, regular columns (001), no column
-- name twice", and the schema records that it gives. Assumes nothing.
use Rattle.std.specs.Prelude.{ℕ, zero, suc, ◌+◌, ◌-◌, Bool, true, false, List, [], ◌∷◌, ◌++◌, nat_lt}
use Rattle.common.specs.Choose.{pick, bind}
use Rattle.common.specs.Got.{got, bad, on, Reader, ◌>>=◌, ret, when, filled}
use Rattle.number_fixed.specs.BigEndian.{bytes_of}
use Rattle.common.specs.Store.{shown}
use Rattle.number_varint.specs.Varints.{varint_at}
use Rattle.common.specs.declared.refusal.Fault.TheVariants.{PastEnd, TooMany, Repeated}
use Rattle.common.specs.declared.times.Bases.{Bases}
use Rattle.type_table.specs.Table.{line_of}
use Rattle.text.specs.Text.{same}
use Rattle.type_string.specs.Strings.{type_at}
use Rattle.type_string.specs.declared.Kind.{Kind}
use Rattle.schema_check.specs.Records.{most_of}
use Rattle.schema_column.specs.declared.Column.{Column}
use Rattle.stats_file.specs.Bases.{bases_at}
use Rattle.stats_file.specs.declared.columns.Name.{Name}
use Rattle.stats_file.specs.declared.columns.Sizes.{Sizes}

-- the roles
abbrev pub of_key : ℕ
of_key = 0

abbrev pub of_clustering : ℕ
of_clustering = 1

abbrev pub of_static : ℕ
of_static = 2

abbrev pub of_regular : ℕ
of_regular = 3

-- a column of a role and type, whose name stands at a place
abbrev pub column : ℕ → Kind → ℕ → ℕ → Column
column role k name len = record { role = role; line = k.line; reversed = k.reversed; width = (line_of k.line).width; name = name; len = len }

-- a count of columns of the role: "clustering columns 0 to 32; static 0 to 63; regular 0 to 63", more is 8
unfoldable pub count_at : ℕ → Reader ℕ
count_at role s at end =
    on (varint_at s at end) (λ n m.
    bind (most_of role) (λ most.
    pick (nat_lt most n) (bad TooMany at)
    (got n m)))

-- whether a static or regular column of cs has the name w
unfoldable pub is_named : List ℕ → List ℕ → List Column → Bool
is_named s w [] = false
is_named s w (c ∷ cs) =
    pick (nat_lt c.role of_static) (is_named s w cs)
    (pick (same (shown s c.name c.len) w) true
    (is_named s w cs))

-- a name, behind the columns cs: one seen before is 9 at its first byte, behind its length
unfoldable pub name_at : List Column → Reader Name
name_at cs s at end =
    on (varint_at s at end) (λ len n.
    pick (nat_lt (end - n) len) (bad PastEnd at)
    (pick (is_named s (shown s n len) cs) (bad Repeated n)
    (got (record { start = n; len = len }) (n + len))))

-- a key or clustering column: its type
unfoldable pub typed_at : ℕ → Reader Column
typed_at role = type_at false >>= (λ k. ret (column role k 0 0))

-- a static or regular column, behind the columns cs: its name, and its type
unfoldable pub named_at : ℕ → List Column → Reader Column
named_at role cs = name_at cs >>= (λ name. type_at true >>= (λ k. ret (column role k name.start name.len)))

-- a column of the role
unfoldable pub column_at : ℕ → List Column → Reader Column
column_at role cs = when (nat_lt role of_static) (typed_at role) (named_at role cs)

-- n columns of the role, behind the columns cs: all of them
unfoldable pub columns_at : ℕ → ℕ → List Column → Reader (List Column)
columns_at zero role cs = ret cs
columns_at (suc n) role cs = column_at role cs >>= (λ c. columns_at n role (cs ++ (c ∷ [])))

-- a count of columns, and all columns up to the last of them
pub record Group : Type 0 where
  pub count : ℕ
  pub columns : List Column

abbrev pub group : ℕ → List Column → Group
group n cs = record { count = n; columns = cs }

-- a count, and so many columns of the role, behind the columns cs
unfoldable pub group_at : ℕ → List Column → Reader Group
group_at role cs = count_at role >>= (λ n. columns_at n role cs >>= (λ ds. ret (group n ds)))

-- how many columns of each role there are, and all columns
pub record Groups : Type 0 where
  pub sizes : Sizes
  pub columns : List Column

abbrev pub sizes_of : ℕ → ℕ → ℕ → Sizes
sizes_of k m r = record { clustering = k; statics = m; regulars = r }

abbrev pub groups : ℕ → ℕ → ℕ → List Column → Groups
groups k m r cs = record { sizes = sizes_of k m r; columns = cs }

-- the clustering, static and regular columns, behind the key
unfoldable pub groups_at : List Column → Reader Groups
groups_at key =
    group_at of_clustering key >>= (λ k.
    group_at of_static k.columns >>= (λ m.
    group_at of_regular m.columns >>= (λ r.
    ret (groups k.count m.count r.count r.columns))))

-- what the header holds
pub record Header : Type 0 where
  pub bases : Bases
  pub sizes : Sizes
  pub columns : List Column

abbrev pub header : Bases → Groups → Header
header b g = record { bases = b; sizes = g.sizes; columns = g.columns }

-- "filled exactly"
unfoldable pub header_at : Reader Header
header_at = bases_at >>= (λ b. columns_at 1 of_key [] >>= (λ key. groups_at key >>= (λ g. filled (header b g))))

-- ---- the schema records: "role; type's line; reversed; width; name offset and length, 32-bit each; four zero bytes"
unfoldable pub head_of : Column → List ℕ
head_of c = c.role ∷ c.line ∷ c.reversed ∷ c.width ∷ []

unfoldable pub place_of : Column → List ℕ
place_of c = bytes_of c.name 4 ++ bytes_of c.len 4

unfoldable pub tail_of : Column → List ℕ
tail_of c = place_of c ++ bytes_of 0 4

unfoldable pub record_of : Column → List ℕ
record_of c = head_of c ++ tail_of c

unfoldable pub records_of : List Column → List ℕ
records_of [] = []
records_of (c ∷ cs) = record_of c ++ records_of cs
