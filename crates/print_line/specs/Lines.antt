-- What the listing program prints: a line for each record, or a refusal's one line. Assumes nothing.
use Rattle.std.specs.Prelude.{ℕ, List, [], ◌∷◌, ◌++◌}
use Rattle.text.specs.Text.{text}
use Rattle.common.specs.Refusals.{fault_number}
use Rattle.common.specs.declared.refusal.Fault.{Fault}
use Rattle.common.specs.declared.refusal.Slice.{Slice}
use Rattle.common.specs.declared.refusal.Slice.TheVariants.{Statistics, Scylla, Data, Schema, Records, Bytes, Output, Bases, State}
use Rattle.data_items.specs.declared.Item.{Item}
use Rattle.print_line.specs.Numbers.{decimal, signed}

-- a field with a space behind it; the last one, with the line's end
unfoldable pub spaced : List ℕ → List ℕ
spaced w = w ++ (32 ∷ [])

unfoldable pub ended : List ℕ → List ℕ
ended w = w ++ (10 ∷ [])

-- "twelve decimal fields a record, in the order above"; timestamp and marks are signed (decision L6)
unfoldable pub line_of : Item → List ℕ
line_of i =
    spaced (decimal i.kind)
    ++ spaced (decimal i.flags)
    ++ spaced (decimal i.column)
    ++ spaced (decimal i.ttl)
    ++ spaced (signed i.timestamp)
    ++ spaced (signed i.mark)
    ++ spaced (decimal i.local)
    ++ spaced (decimal i.expiry)
    ++ spaced (signed i.mark2)
    ++ spaced (decimal i.local2)
    ++ spaced (decimal i.offset)
    ++ ended (decimal i.length)

-- the lines of a listing
unfoldable pub lines_of : List Item → List ℕ
lines_of [] = []
lines_of (i ∷ l) = line_of i ++ lines_of l

-- a slice's name (decision E1)
abbrev pub slice_name : Slice → List ℕ
slice_name Statistics = text "statistics"
slice_name Scylla = text "scylla"
slice_name Data = text "data"
slice_name Schema = text "schema"
slice_name Records = text "records"
slice_name Bytes = text "bytes"
slice_name Output = text "output"
slice_name Bases = text "bases"
slice_name State = text "state"

-- "refused N SLICE PLACE"
unfoldable pub refusal_line : Fault → Slice → ℕ → List ℕ
refusal_line f z p = spaced (text "refused") ++ spaced (decimal (fault_number f)) ++ spaced (slice_name z) ++ ended (decimal p)

-- ---- the parts that the code puts: of a line
unfoldable pub pair_of : ℕ → ℕ → List ℕ
pair_of a b = spaced (decimal a) ++ spaced (decimal b)

unfoldable pub stamps_of : Item → List ℕ
stamps_of i = spaced (signed i.timestamp) ++ spaced (signed i.mark)

unfoldable pub times_of : Item → List ℕ
times_of i = stamps_of i ++ pair_of i.local i.expiry

unfoldable pub second_of : Item → List ℕ
second_of i = spaced (signed i.mark2) ++ spaced (decimal i.local2)

unfoldable pub place_of : Item → List ℕ
place_of i = spaced (decimal i.offset) ++ ended (decimal i.length)

unfoldable pub rest_of : Item → List ℕ
rest_of i = second_of i ++ place_of i

unfoldable pub tail_of : Item → List ℕ
tail_of i = times_of i ++ rest_of i

unfoldable pub more_of : Item → List ℕ
more_of i = pair_of i.column i.ttl ++ tail_of i

-- of a refusal's line
unfoldable pub words_of : ℕ → List ℕ
words_of n = spaced (text "refused") ++ spaced (decimal n)

unfoldable pub where_of : Slice → ℕ → List ℕ
where_of z p = spaced (slice_name z) ++ ended (decimal p)
