-- What the program knows before it prints. Assumes nothing.
use Rattle.std.specs.Prelude.{ℕ, ◌≤◌, List, take, Result, Ok, Err}
use Rattle.common.specs.Refusals.{Outcome, taken, said_refusal}
use Rattle.common.specs.declared.refusal.Refusal.{Refusal}
use Rattle.common.specs.declared.times.Bases.{Bases}
use Rattle.stats_file.specs.Header.{records_of}
use Rattle.call_check.specs.Tables.{after}
use Rattle.list_call.specs.Lists.{list_at}
use Rattle.print_line.specs.Reports.{statistics_at}

-- ---- what is known before the first line: the base times and the schema, or the refusal
abbrev pub Known : Type 0
Known = Bases × List ℕ

unfoldable pub counted_at : List ℕ → Bases → List ℕ → Outcome Known
counted_at c b s = after (list_at c b s 0) (λ l. taken (b, c))

unfoldable pub begun_at : List ℕ → List ℕ → Outcome Known
begun_at file s = after (statistics_at file) (λ x. counted_at (records_of x.header.columns) x.header.bases s)

-- what the code's answer says, where the buffer d holds the schema
unfoldable pub begun_of : Result (Bases × ℕ) Refusal → List ℕ → Outcome Known
begun_of (Ok (b, n)) d = taken (b, take n d)
begun_of (Err r) d = said_refusal r

-- the schema lies in the buffer
abbrev pub Fit : Result (Bases × ℕ) Refusal → Type 0
Fit (Ok (b, n)) = n ≤ 2544
Fit (Err r) = Unit
