-- All pages of a walk, one after the other, are the lines of the items that it lists. Assumes nothing.
use mathlib.Core.Path.{◌≡◌, refl, sym, ap, ◌∙◌, subst}
use mathlib.Core.List.{List, ◌∷◌, ◌++◌, append_assoc}
use mathlib.Core.Option.{none, some}
use Prim.Native.Nat.{ℕ, zero, suc, ◌+◌, ◌≤◌, ◌<◌}
use native.Mathlib.Omega.{arith}
use lib.ListN.{length}
use Rattle.common.specs.Refusals.{Outcome, taken, refused}
use Rattle.common.specs.declared.times.Bases.{Bases}
use Rattle.schema_check.specs.declared.records.Counts.{Counts}
use Rattle.data_walk.specs.Steps.{Answer, step_in}
use Rattle.call_check.specs.Tables.{Table, table_at}
use Rattle.data_walk.specs.Walks.{remaining, add, follow, walk_from}
use Rattle.data_items.specs.declared.Item.{Item}
use Rattle.data_walk.specs.declared.cursors.Cursor.{Cursor}
use Rattle.data_walk.proofs.Moves.{step_moves, walk_unfolds}
use Rattle.call_check.proofs.Schemas.{table_taken}
use Rattle.print_line.specs.Lines.{line_of, lines_of}
use Rattle.print_page.specs.Pages.{Page, more, last, before, onward, page_in, in_table, page_at, joined, printed}

not_more : {C : Type 0} {w v : List ℕ} {y : Cursor} → last w ≡ more v y → C
not_more e = let z : ◌≡◌ {A = ℕ} 0 1 = cc in absurd (omega arith)

same_end : {w v : List ℕ} {y z : Cursor} → more w y ≡ more v z → y ≡ z
same_end e = cc

not_taken : {A C : Type 0} {a : A} {f : _} {z : _} {p : ℕ} → refused f z p ≡ taken a → C
not_taken e = let z : ◌≡◌ {A = ℕ} 0 1 = cc in absurd (omega arith)

same_taken : {A : Type 0} {a b : A} → taken a ≡ taken b → a ≡ b
same_taken e = cc

module _ (c : List ℕ) (k : Counts) (b : Bases) (s : List ℕ) (t : Table (length c) k) where
  -- ---- a page of n lines moves on by as many steps
  -- from x on n lines moved on so far
  Moves : ℕ → Cursor → Page → Type 0
  Moves n x (more w y) = remaining (length s) y + n ≤ remaining (length s) x
  Moves n x (last w) = Unit

  moves_before : (n : ℕ) (x z : Cursor) (v : List ℕ) (p : Page) → remaining (length s) z < remaining (length s) x → Moves n z p → Moves (suc n) x (before v p)
  unfolding before Moves
  moves_before n x z v (more w y) l h = omega arith
  moves_before n x z v (last w) l h = tt

  moves_onward : (n : ℕ) (x : Cursor) (a : Answer) (g : Cursor → Page) → step_in x.phase c k b s x ≡ a → ((z : Cursor) → Moves n z (g z)) → Moves (suc n) x (onward a g)
  unfolding onward Moves
  moves_onward n x (taken none) g e h = tt
  moves_onward n x (taken (some z)) g e h = moves_before n x z.1 (line_of z.0) (g z.1) (step_moves c k b s x z.1 z.0 t e) (h z.1)
  moves_onward n x (refused f y p) g e h = tt

  moves_page : (n : ℕ) (x : Cursor) → Moves n x (page_in n c k b s x)
  unfolding page_in Moves
  moves_page zero x = omega arith
  moves_page (suc n) x = moves_onward n x _ (page_in n c k b s) refl (moves_page n)

  -- ---- a page holds the lines of the items that the walk hands out
  -- what is listed from y on, behind the bytes w of the lines of l
  record Rest (w : List ℕ) (y : Cursor) (l : List Item) : Type 0 where
    left : List Item
    rest : walk_from c k b s y ≡ taken left
    text : lines_of l ≡ w ++ lines_of left

  Holds : Page → List Item → Type 0
  Holds (more w y) l = Rest w y l
  Holds (last w) l = w ≡ lines_of l

  holds_before : (i : Item) (l : List Item) (p : Page) → Holds p l → Holds (before (line_of i) p) (i ∷ l)
  unfolding before Holds lines_of
  holds_before i l (more w y) h = record { left = h.left; rest = h.rest; text = ap (◌++◌ (line_of i)) h.text ∙ sym (append_assoc (line_of i) w (lines_of h.left)) }
  holds_before i l (last w) h = ap (◌++◌ (line_of i)) h

  holds_added : (i : Item) (z : Cursor) (g : Cursor → Page) (l : List Item) (x : Outcome (List Item)) → walk_from c k b s z ≡ x → add i x ≡ taken l
      → ((m : List Item) → walk_from c k b s z ≡ taken m → Holds (g z) m) → Holds (before (line_of i) (g z)) l
  unfolding add
  holds_added i z g l (taken m) e f h = subst (Holds (before (line_of i) (g z))) (same_taken f) (holds_before i m (g z) (h m e))
  holds_added i z g l (refused u v p) e f h = not_taken f

  holds_onward : (l : List Item) (a : Answer) (g : Cursor → Page) → follow a (walk_from c k b s) ≡ taken l
      → ((z : Cursor) (m : List Item) → walk_from c k b s z ≡ taken m → Holds (g z) m) → Holds (onward a g) l
  unfolding onward follow Holds lines_of
  holds_onward l (taken none) g e h = ap lines_of (same_taken e)
  holds_onward l (taken (some z)) g e h = holds_added z.0 z.1 g l (walk_from c k b s z.1) refl e (h z.1)
  holds_onward l (refused f y p) g e h = not_taken e

  holds_page : (n : ℕ) (x : Cursor) (l : List Item) → walk_from c k b s x ≡ taken l → Holds (page_in n c k b s x) l
  unfolding page_in Holds
  holds_page zero x l e = record { left = l; rest = e; text = refl }
  holds_page (suc n) x l e = holds_onward l (step_in x.phase c k b s x) (page_in n c k b s) (sym (walk_unfolds c k b s t x) ∙ e) (holds_page n)

  -- ---- all pages
  holds_joined : (m : ℕ) (x : Cursor) (l : List Item) (p : Page) (g : Cursor → List ℕ) → Holds p l → Moves 16 x p → remaining (length s) x < suc m
      → ((y : Cursor) (r : List Item) → walk_from c k b s y ≡ taken r → remaining (length s) y < m → g y ≡ lines_of r) → joined p g ≡ lines_of l
  unfolding joined Holds Moves
  holds_joined m x l (more w y) g h o q f = ap (◌++◌ w) (f y h.left h.rest (omega arith)) ∙ sym h.text
  holds_joined m x l (last w) g h o q f = h

-- the table is sound, and the walk from x on lists l: then the pages print the lines of l, and end
pub pages_print : (m : ℕ) (c : List ℕ) (k : Counts) (b : Bases) (s : List ℕ) (x : Cursor) (l : List Item)
    → table_at c b s 0 ≡ taken k → walk_from c k b s x ≡ taken l → remaining (length s) x < m → printed m c b s x ≡ lines_of l
unfolding printed page_at in_table
pages_print zero c k b s x l e f h = absurd (omega arith)
pages_print (suc m) c k b s x l e f h =
    let t : Table (length c) k = table_taken c b s 0 k e in
    rw e (holds_joined c k b s t m x l (page_in 16 c k b s x) (printed m c b s) (holds_page c k b s t 16 x l f) (moves_page c k b s t 16 x) h (λ y r i j. pages_print m c k b s y r e i j))

-- a page behind which there may be more moves on: so a loop over pages ends
pub page_moves : (c : List ℕ) (b : Bases) (s : List ℕ) (x y : Cursor) (w : List ℕ) → page_at c b s x ≡ more w y → remaining (length s) y < remaining (length s) x
unfolding page_at in_table Moves
page_moves c b s x y w e = go (table_at c b s 0) refl e
  where
    go : (a : Outcome Counts) → table_at c b s 0 ≡ a → in_table a (λ k. page_in 16 c k b s x) ≡ more w y → remaining (length s) y < remaining (length s) x
    go (taken k) f g = let h = rw g at (moves_page c k b s (table_taken c b s 0 k f) 16 x) in omega arith
    go (refused f z p) q g = not_more g
