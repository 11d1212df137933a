-- What the program prints: all pages, one after the other, are the report of the two files. Assumes nothing.
use mathlib.Core.Path.{◌≡◌, refl, sym, ap, ◌∙◌}
use mathlib.Core.List.{List}
use Prim.Native.Nat.{ℕ, suc, ◌≤◌, ◌<◌}
use native.Mathlib.Omega.{arith}
use lib.ListN.{length}
use Rattle.common.specs.Refusals.{Outcome, taken, refused}
use Rattle.common.specs.declared.refusal.Fault.{Fault}
use Rattle.common.specs.declared.refusal.Slice.{Slice}
use Rattle.common.specs.declared.times.Bases.{Bases}
use Rattle.schema_check.specs.declared.records.Counts.{Counts}
use Rattle.call_check.specs.Tables.{table_at, after}
use Rattle.data_walk.specs.Walks.{start, remaining}
use Rattle.call_check.proofs.Schemas.{table_taken}
use Rattle.data_contents.specs.Contents.{contents_of}
use Rattle.data_contents.proofs.Lists.{walk_lists}
use Rattle.data_items.specs.declared.Item.{Item}
use Rattle.data_walk.specs.declared.cursors.Cursor.{Cursor}
use Rattle.list_call.specs.Lists.{list_at}
use Rattle.print_line.specs.Lines.{lines_of, refusal_line}
use Rattle.print_line.specs.Reports.{statistics_at, listed_at, text_of, report_of}
use Rattle.print_page.specs.Pages.{Page, more, last, page_at, answer_of, len_of, Fills, printed}
use Rattle.print_page.specs.declared.Filled.{Filled}
use Rattle.print_page.specs.declared.Filled.TheVariants.{More, Last}
use Rattle.print_page.proofs.Text.{pages_print, page_moves}
use Rattle.stats_file.specs.Statistics.{File}
use Rattle.stats_file.specs.Header.{records_of}
use Rattle.list.specs.Reports.{Known, counted_at, begun_at}

no : {C : Type 0} {n m : ℕ} {y : Cursor} → More n y ≡ Last m → C
no e = let z : ◌≡◌ {A = ℕ} 0 1 = cc in absurd (omega arith)

more_cursor : {n m : ℕ} {y z : Cursor} → More n y ≡ More m z → z ≡ y
more_cursor e = cc

pub len_more : (r : Filled) (n : ℕ) (y : Cursor) → r ≡ More n y → n ≡ len_of r
len_more r n y e = rw e refl

pub page_answer : (p : Page) (d d' : List ℕ) (r : Filled) → Fills p d d' r → r ≡ answer_of p
page_answer p d d' r f = f.answer

pub len_within : (r : Filled) (n : ℕ) (d d' : List ℕ) → n ≡ len_of r → len_of r ≤ 4032 → 4032 ≤ length d → length d' ≡ length d → n ≤ length d'
len_within r n d d' e h k l = omega arith

-- ---- the loop over pages ends
pub pages_less : (c : List ℕ) (b : Bases) (s : List ℕ) (x y : Cursor) (r : Filled) (n : ℕ) → r ≡ answer_of (page_at c b s x) → r ≡ More n y
    → remaining (length s) y < remaining (length s) x
unfolding answer_of
pages_less c b s x y r n e f = go (page_at c b s x) refl (sym f ∙ e)
  where
    go : (p : Page) → page_at c b s x ≡ p → More n y ≡ answer_of p → remaining (length s) y < remaining (length s) x
    go (more w z) g h = rw (← more_cursor h) (page_moves c b s x z w g)
    go (last w) g h = no h

-- ---- the whole output
-- all pages from the start of Data on
unfoldable pub pages_of : List ℕ → Bases → List ℕ → List ℕ
pages_of c b s = printed (suc (remaining (length s) start)) c b s start

-- where Data is listed, they are the lines of the listing
pages_list : (c : List ℕ) (b : Bases) (s : List ℕ) (l : List Item) → list_at c b s 0 ≡ taken l → pages_of c b s ≡ lines_of l
unfolding list_at pages_of after
pages_list c b s l e = go (table_at c b s 0) refl e
  where
    go : (a : Outcome Counts) → table_at c b s 0 ≡ a → after a (λ k. contents_of c k b s) ≡ taken l → printed (suc (remaining (length s) start)) c b s start ≡ lines_of l
    go (taken k) f g = pages_print (suc (remaining (length s) start)) c k b s start l f (walk_lists c k b s (table_taken c b s 0 k f) ∙ g) (omega arith)
    go (refused y z p) f g = let q : ◌≡◌ {A = ℕ} 0 1 = cc in absurd (omega arith)

known_same : (k m : Known) → ◌≡◌ {A = Outcome Known} (taken k) (taken m) → k ≡ m
known_same k m e = cc

-- the files are listed: the pages that are printed are the report
pub listing_report : (file s c : List ℕ) (b : Bases) → begun_at file s ≡ taken (b, c) → pages_of c b s ≡ report_of file s
unfolding begun_at report_of listed_at counted_at after text_of
listing_report file s c b e = go (statistics_at file) e
  where
    known : {b' : Bases} {c' : List ℕ} {l : List Item} → list_at c' b' s 0 ≡ taken l → ◌≡◌ {A = Outcome Known} (taken (b', c')) (taken (b, c)) → pages_of c b s ≡ lines_of l
    known {b'} {c'} {l} f g =
        let h : b' ≡ b = ap (λ (k : Known). k.0) (known_same (b', c') (b, c) g) in
        let i : c' ≡ c = ap (λ (k : Known). k.1) (known_same (b', c') (b, c) g) in
        pages_list c b s l (rw (h, i) at f)

    in_table : (c' : List ℕ) (b' : Bases) (x : Outcome (List Item)) → list_at c' b' s 0 ≡ x → ◌≡◌ {A = Outcome Known} (after x (λ l. taken (b', c'))) (taken (b, c)) → pages_of c b s ≡ text_of x
    in_table c' b' (taken l) f g = known f g
    in_table c' b' (refused y z p) f g = let q : ◌≡◌ {A = ℕ} 0 1 = cc in absurd (omega arith)

    go : (a : Outcome File) → ◌≡◌ {A = Outcome Known} (after a (λ x. counted_at (records_of x.header.columns) x.header.bases s)) (taken (b, c))
        → pages_of c b s ≡ text_of (after a (λ x. list_at (records_of x.header.columns) x.header.bases s 0))
    go (taken x) f = in_table (records_of x.header.columns) x.header.bases (list_at (records_of x.header.columns) x.header.bases s 0) refl f
    go (refused y z p) f = let q : ◌≡◌ {A = ℕ} 0 1 = cc in absurd (omega arith)

-- they are refused: the report is the refusal's line
pub refusal_report : (file s : List ℕ) (f : Fault) (z : Slice) (p : ℕ) → begun_at file s ≡ refused f z p → report_of file s ≡ refusal_line f z p
unfolding begun_at report_of listed_at counted_at after text_of
refusal_report file s f z p e = go (statistics_at file) e
  where
    same : (y : Fault) (w : Slice) (q : ℕ) → ◌≡◌ {A = Outcome Known} (refused y w q) (refused f z p) → refusal_line y w q ≡ refusal_line f z p
    same y w q g = let h : y ≡ f = cc in let i : w ≡ z = cc in let j : q ≡ p = cc in rw (h, i, j) refl

    in_table : (k : Known) (x : Outcome (List Item)) → ◌≡◌ {A = Outcome Known} (after x (λ l. taken k)) (refused f z p) → text_of x ≡ refusal_line f z p
    in_table k (taken l) g = let q : ◌≡◌ {A = ℕ} 0 1 = cc in absurd (omega arith)
    in_table k (refused y w q) g = same y w q g

    go : (a : Outcome File) → ◌≡◌ {A = Outcome Known} (after a (λ x. counted_at (records_of x.header.columns) x.header.bases s)) (refused f z p)
        → text_of (after a (λ x. list_at (records_of x.header.columns) x.header.bases s 0)) ≡ refusal_line f z p
    go (taken x) g = in_table (x.header.bases, records_of x.header.columns) (list_at (records_of x.header.columns) x.header.bases s 0) g
    go (refused y w q) g = same y w q g
