-- What the writer answers: Data in the writer's form, or a refusal. Assumes nothing.
use Rattle.std.specs.Prelude.{ℕ, List, ltb, length}
use Rattle.common.specs.Choose.{pick}
use Rattle.common.specs.Got.{got, on, within}
use Rattle.common.specs.Refusals.{Outcome, taken, refused}
use Rattle.common.specs.declared.refusal.Fault.TheVariants.{OverLimit, OutOfRange, NoRoom}
use Rattle.common.specs.declared.refusal.Slice.TheVariants.{Schema, Records, Bytes, Output, Bases as bases-slice}
use Rattle.common.specs.declared.times.Bases.{Bases}
use Rattle.schema_check.specs.Records.{schema_of, anywhere}
use Rattle.schema_check.specs.declared.records.Counts.{Counts}
use Rattle.call_check.specs.Tables.{bad_bases, after}
use Rattle.data_contents.specs.Contents.{Widths, widths_of}
use Rattle.write_form.specs.Whole.{contents_bytes}
use Rattle.write_accept.specs.Entries.{taken_at}

-- "Every call tests 1 first, then 5 for bases": the columns of the schema c, where the records are s, their values lie in bytes, and a buffer of
-- room bytes is lent
unfoldable pub desk_at : List ℕ → Bases → List ℕ → List ℕ → ℕ → Outcome Counts
desk_at c b s bytes room =
    pick (ltb 1073741824 (length c)) (refused OverLimit Schema 0)
    (pick (ltb 1073741824 (length s)) (refused OverLimit Records 0)
    (pick (ltb 1073741824 (length bytes)) (refused OverLimit Bytes 0)
    (pick (ltb 1073741824 room) (refused OverLimit Output 0)
    (pick (bad_bases b) (refused OutOfRange bases-slice 0)
    (schema_of anywhere c)))))

-- the Data of a record table, in a table whose columns have the widths t
unfoldable pub written_as : Widths → Bases → List ℕ → List ℕ → Outcome (List ℕ)
written_as t b s bytes = within Records (on (taken_at t b bytes s 0 (length s)) (λ ps n. got (contents_bytes b t bytes ps) n))

-- what fits into a buffer of room bytes: 13 with the length needed, over the limit too (decision W13), since no buffer is larger
unfoldable pub fitting : ℕ → List ℕ → Outcome (List ℕ)
fitting room w = pick (ltb room (length w)) (refused NoRoom Output (length w)) (taken w)

-- the writer's answer
unfoldable pub write_of : List ℕ → Bases → List ℕ → List ℕ → ℕ → Outcome (List ℕ)
write_of c b s bytes room =
    after (desk_at c b s bytes room) (λ k.
    after (written_as (widths_of c k) b s bytes) (λ w.
    fitting room w))
