-- The loop that fills a page, and the page's answer. Assumes nothing.
use Rattle.std.proofs.Common.{Result, Ok, Err, Option, Some, None}
use mathlib.Core.Path.{◌≡◌, refl, sym, ap, ◌∙◌}
use mathlib.Core.List.{List, [], ◌++◌, append_assoc, append-nil}
use Prim.Native.Nat.{ℕ, suc, ◌+◌, ◌-◌, ◌*◌, ◌≤◌, ◌<◌}
use native.Mathlib.Omega.{arith}
use lib.ListN.{length, length-append}
use Rattle.common.specs.Refusals.{outcome}
use Rattle.common.specs.Store.{splice, Puts}
use Rattle.common.specs.declared.refusal.Refusal.{Refusal}
use Rattle.common.specs.declared.times.Bases.{Bases}
use Rattle.common.proofs.Splices.{splice_none, splice_splice, length_splice}
use Rattle.schema_check.specs.declared.records.Counts.{Counts}
use Rattle.data_walk.specs.Steps.{step_in, said_step}
use Rattle.call_check.specs.Tables.{table_at}
use Rattle.data_items.specs.declared.Item.{Item}
use Rattle.data_walk.specs.declared.cursors.Cursor.{Cursor}
use Rattle.print_line.specs.Lines.{line_of, refusal_line}
use Rattle.print_page.specs.Pages.{Page, more, last, before, onward, page_in, in_table, page_at, bytes_in, answer_of, Fills}
use Rattle.print_page.specs.declared.Filled.{Filled}
use Rattle.print_page.specs.declared.Filled.TheVariants.{More, Last}

before_none : (p : Page) → p ≡ before [] p
unfolding before
before_none (more w y) = refl
before_none (last w) = refl

before_both : (v w : List ℕ) (p : Page) → before v (before w p) ≡ before (v ++ w) p
unfolding before
before_both v w (more u y) = rw (append_assoc v w u) refl
before_both v w (last u) = rw (append_assoc v w u) refl

-- ---- a page unfolds by a step's answer
module _ (n : ℕ) (c : List ℕ) (k : Counts) (b : Bases) (s : List ℕ) (x : Cursor) (r : Result (Option (Item × Cursor)) Refusal) (e : said_step r ≡ step_in x.phase c k b s x) where
  page_next : (i : Item) (y : Cursor) → r ≡ Ok (Some (i, y)) → page_in (suc n) c k b s x ≡ before (line_of i) (page_in n c k b s y)
  unfolding page_in onward said_step
  page_next i y f = rw (← e, f) refl

  page_done : r ≡ Ok None → page_in (suc n) c k b s x ≡ last []
  unfolding page_in onward said_step
  page_done f = rw (← e, f) refl

  page_refused : (q : Refusal) → r ≡ Err q → page_in (suc n) c k b s x ≡ last (refusal_line q.fault q.slice q.place)
  unfolding page_in onward said_step
  page_refused q f = rw (← e, f) refl

-- ---- filling the page p: the bytes written stand in d, which was d₀, at is the place after them, and the rest is left, of at most 16 - i lines from x on
pub record Paging (p : Page) (c : List ℕ) (k : Counts) (b : Bases) (s d₀ d : List ℕ) (at i : ℕ) (x : Cursor) : Type 0 where
  pub written : List ℕ
  pub place : at ≡ length written
  pub lines : at ≤ 252 * i
  pub most : i ≤ 16
  pub same : length d ≡ length d₀
  pub stores : d ≡ splice d₀ 0 written
  pub rest : p ≡ before written (page_in (16 - i) c k b s x)

pub paging_none : (c : List ℕ) (k : Counts) (b : Bases) (s d : List ℕ) (x : Cursor) → Paging (page_in 16 c k b s x) c k b s d d 0 0 x
paging_none c k b s d x = record { written = []; place = refl; lines = omega arith; most = omega arith; same = refl; stores = splice_none d; rest = before_none _ }

module _ (p : Page) (c : List ℕ) (k : Counts) (b : Bases) (s d₀ d : List ℕ) (at i : ℕ) (x : Cursor) (h : Paging p c k b s d₀ d at i x) (l : 4032 ≤ length d₀) where
  pub paging_room : i < 16 → at + 252 ≤ length d
  paging_room m = omega (arith, h.lines, h.same)

  then : (w d' : List ℕ) (n : ℕ) → Puts d d' at w n → n ≤ at + 252 → i < 16 → d' ≡ splice d₀ 0 (h.written ++ w)
  then w d' n q m j = q.stores ∙ rw h.stores (splice_splice d₀ 0 at h.written w (omega (arith, h.place)) (omega (arith, q.next, h.place, h.lines)))

  pub paging_end : 16 ≤ i → Fills p d₀ d (More at x)
  unfolding page_in before bytes_in answer_of
  paging_end m =
      let e : 16 - i ≡ 0 = omega arith in
      let f : p ≡ more h.written x = rw (e, append-nil h.written) at h.rest in
      record { answer = rw (f, h.place) refl; buffer = rw f h.stores }

  module _ (r : Result (Option (Item × Cursor)) Refusal) (e : said_step r ≡ step_in x.phase c k b s x) (j : i < 16) where
    left : 16 - i ≡ suc (16 - (i + 1))
    left = omega arith

    pub paging_more : (it : Item) (y : Cursor) (o : Option (Item × Cursor)) (d' : List ℕ) (n : ℕ) → r ≡ Ok o → o ≡ Some (it, y) → Puts d d' at (line_of it) n → n ≤ at + 252 → Paging p c k b s d₀ d' n (i + 1) y
    paging_more it y o d' n f u q m =
        let g : d' ≡ splice d₀ 0 (h.written ++ line_of it) = then (line_of it) d' n q m j in
        let z : length (h.written ++ line_of it) ≡ n = length-append h.written (line_of it) ∙ omega (arith, q.next, h.place) in
        record {
          written = h.written ++ line_of it;
          place = sym z;
          lines = omega (arith, h.lines);
          most = omega arith;
          same = rw (g, length_splice d₀ 0 (h.written ++ line_of it) (omega (arith, h.lines))) refl;
          stores = g;
          rest = (rw (left, page_next (16 - (i + 1)) c k b s x r e it y (f ∙ ap Ok u)) at h.rest) ∙ before_both h.written (line_of it) _;
        }

    pub paging_done : (o : Option (Item × Cursor)) → r ≡ Ok o → o ≡ None → Fills p d₀ d (Last at)
    unfolding before bytes_in answer_of
    paging_done o f u =
        let g : p ≡ last h.written = rw (left, page_done (16 - (i + 1)) c k b s x r e (f ∙ ap Ok u), append-nil h.written) at h.rest in
        record { answer = rw (g, h.place) refl; buffer = rw g h.stores }

    pub paging_refused : (q : Refusal) (d' : List ℕ) (n : ℕ) → r ≡ Err q → Puts d d' at (refusal_line q.fault q.slice q.place) n → n ≤ at + 252
        → Fills p d₀ d' (Last n)
    unfolding before bytes_in answer_of
    paging_refused q d' n f w m =
        let g : p ≡ last (h.written ++ refusal_line q.fault q.slice q.place) = rw (left, page_refused (16 - (i + 1)) c k b s x r e q f) at h.rest in
        let z : n ≡ length (h.written ++ refusal_line q.fault q.slice q.place) = omega (arith, w.next, h.place) ∙ sym (length-append h.written (refusal_line q.fault q.slice q.place)) in
        record { answer = rw (g, z) refl; buffer = rw g (then (refusal_line q.fault q.slice q.place) d' n w m j) }

-- ---- no page is longer than 16 lines
module _ (p : Page) (c : List ℕ) (k : Counts) (b : Bases) (s d₀ d : List ℕ) (at i : ℕ) (x : Cursor) (h : Paging p c k b s d₀ d at i x) where
  pub paging_most : at ≤ 4032
  paging_most = omega (arith, h.lines, h.most)

  pub paging_last : (n : ℕ) → i < 16 → n ≤ at + 252 → n ≤ 4032
  paging_last n j m = omega (arith, h.lines)

-- ---- a page of a table that is checked first
module _ (c : List ℕ) (b : Bases) (s : List ℕ) (x : Cursor) (q : Result Counts Refusal) (e : outcome q ≡ table_at c b s 0) (d d' : List ℕ) where
  pub page_counted : (k : Counts) (r : Filled) → q ≡ Ok k → Fills (page_in 16 c k b s x) d d' r → Fills (page_at c b s x) d d' r
  unfolding page_at in_table outcome
  page_counted k r f h = rw (← e, f) h

  pub page_unchecked : (y : Refusal) (n : ℕ) → q ≡ Err y → Puts d d' 0 (refusal_line y.fault y.slice y.place) n → Fills (page_at c b s x) d d' (Last n)
  unfolding page_at in_table outcome bytes_in answer_of
  page_unchecked y n f h =
      let m : n ≡ length (refusal_line y.fault y.slice y.place) = omega (arith, h.next) in
      rw (← e, f) (record { answer = ap Last m; buffer = h.stores })

pub ruleset paging = (paging_none, paging_room, paging_end, paging_more, paging_done, paging_refused, paging_most, paging_last)
