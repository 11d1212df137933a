-- The text of a walk through Data, a page at a time: a line for each item, and a refusal's line where the walk ends so. Assumes nothing.
use Rattle.std.specs.Prelude.{ℕ, zero, suc, ◌≡◌, List, [], ◌++◌, length}
use Rattle.std.proofs.Math.Option.{none, some}
use Rattle.common.specs.Refusals.{Outcome, taken, refused}
use Rattle.common.specs.Store.{splice}
use Rattle.common.specs.declared.times.Bases.{Bases}
use Rattle.schema_check.specs.declared.records.Counts.{Counts}
use Rattle.data_walk.specs.Steps.{Answer, step_in}
use Rattle.call_check.specs.Tables.{table_at}
use Rattle.data_walk.specs.declared.cursors.Cursor.{Cursor}
use Rattle.print_line.specs.Lines.{line_of, refusal_line}
use Rattle.print_page.specs.declared.Filled.{Filled}
use Rattle.print_page.specs.declared.Filled.TheVariants.{More, Last}

-- what a page holds: there may be more from the cursor on, or it is the last
pub data Page : Type 0 where
  more : List ℕ → Cursor → Page
  last : List ℕ → Page

-- a line before the others
unfoldable pub before : List ℕ → Page → Page
before w (more v y) = more (w ++ v) y
before w (last v) = last (w ++ v)

-- what a step's answer gives, and then the rest
unfoldable pub onward : Answer → (Cursor → Page) → Page
onward (taken none) g = last []
onward (taken (some h)) g = before (line_of h.0) (g h.1)
onward (refused f z p) g = last (refusal_line f z p)

-- the page of at most n lines from x on
unfoldable pub page_in : ℕ → List ℕ → Counts → Bases → List ℕ → Cursor → Page
page_in zero c k b s x = more [] x
page_in (suc n) c k b s x = onward (step_in x.phase c k b s x) (page_in n c k b s)

unfoldable pub in_table : Outcome Counts → (Counts → Page) → Page
in_table (taken k) g = g k
in_table (refused f z p) g = last (refusal_line f z p)

-- the page from x on, of the Data s in a table of the schema c and the bases b
unfoldable pub page_at : List ℕ → Bases → List ℕ → Cursor → Page
page_at c b s x = in_table (table_at c b s 0) (λ k. page_in 16 c k b s x)

-- the bytes of a page
unfoldable pub bytes_in : Page → List ℕ
bytes_in (more w y) = w
bytes_in (last w) = w

-- the answer of the code that fills it
unfoldable pub answer_of : Page → Filled
answer_of (more w y) = More (length w) y
answer_of (last w) = Last (length w)

-- how many bytes an answer says
abbrev pub len_of : Filled → ℕ
len_of (More n y) = n
len_of (Last n) = n

-- the page p is stored at the start of d, which becomes d', and r is the answer
pub record Fills (p : Page) (d d' : List ℕ) (r : Filled) : Type 0 where
  pub answer : r ≡ answer_of p
  pub buffer : d' ≡ splice d 0 (bytes_in p)

-- ---- all pages, one after the other
-- a page's bytes, and what follows it
unfoldable pub joined : Page → (Cursor → List ℕ) → List ℕ
joined (more w y) g = w ++ g y
joined (last w) g = w

-- at most n pages
unfoldable pub printed : ℕ → List ℕ → Bases → List ℕ → Cursor → List ℕ
printed zero c b s x = []
printed (suc n) c b s x = joined (page_at c b s x) (printed n c b s)
