-- What the listing program prints, from the bytes of the two files. Assumes nothing.
use Rattle.std.specs.Prelude.{List, ℕ, ltb, length}
use Rattle.common.specs.Choose.{pick}
use Rattle.common.specs.Got.{within}
use Rattle.common.specs.Refusals.{Outcome, taken, refused}
use Rattle.common.specs.declared.refusal.Fault.TheVariants.{OverLimit}
use Rattle.common.specs.declared.refusal.Slice.TheVariants.{Statistics}
use Rattle.stats_file.specs.Header.{records_of}
use Rattle.stats_file.specs.Statistics.{File, file_at}
use Rattle.call_check.specs.Tables.{after}
use Rattle.data_items.specs.declared.Item.{Item}
use Rattle.list_call.specs.Lists.{list_at}
use Rattle.print_line.specs.Lines.{lines_of, refusal_line}

-- Statistics: "Every call tests 1 first"
unfoldable pub statistics_at : List ℕ → Outcome File
statistics_at s = pick (ltb 1073741824 (length s)) (refused OverLimit Statistics 0) (within Statistics (file_at s))

-- the listing of the files: Statistics file, Data s
unfoldable pub listed_at : List ℕ → List ℕ → Outcome (List Item)
listed_at file s = after (statistics_at file) (λ x. list_at (records_of x.header.columns) x.header.bases s 0)

-- what is printed: the listing's lines, or the refusal's one line
unfoldable pub text_of : Outcome (List Item) → List ℕ
text_of (taken l) = lines_of l
text_of (refused f z p) = refusal_line f z p

unfoldable pub report_of : List ℕ → List ℕ → List ℕ
report_of file s = text_of (listed_at file s)
