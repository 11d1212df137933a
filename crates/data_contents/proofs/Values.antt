-- The walk through the clustering values of a row or a marker lists the values that are read. Assumes nothing.
use mathlib.Core.Path.{◌≡◌, refl, sym, ap, ◌∙◌}
use mathlib.Core.List.{List, [], ◌∷◌}
use Prim.Native.Nat.{ℕ, zero, suc, ◌+◌, ◌*◌, ◌/◌, ◌^◌, ◌≤◌, ◌<◌}
use native.Mathlib.Omega.{arith}
use borrow.Author.Tests.{eq-eqb, ne_eqb, lt-leb}
use lib.ListN.{length, get_or, take}
use lib.Pow.{shr-shr}
use Rattle.common.specs.Choose.{pick, bind}
use Rattle.common.specs.Got.{Got, got, on}
use Rattle.common.specs.declared.times.Bases.{Bases}
use Rattle.data_field.specs.declared.fields.Deletion.{Deletion}
use Rattle.data_field.specs.declared.fields.Span.{Span}
use Rattle.data_cell.specs.declared.cells.Times.{Times}
use Rattle.data_clustering.specs.Prefixes.{clustering_at, values_at, widths_at}
use Rattle.data_clustering.proofs.Gives.{clustering_gives, values_give}
use Rattle.schema_check.specs.declared.records.Counts.{Counts}
use Rattle.data_items.specs.Items.{value_item}
use Rattle.data_walk.specs.Cursors.{hand, cursor, behind_value}
use Rattle.data_walk.specs.Steps.{step_in, handed, value_step}
use Rattle.data_walk.specs.Walks.{add, follow}
use Rattle.data_walk.specs.declared.cursors.Phase.{Phase}
use Rattle.data_walk.specs.declared.cursors.Cursor.{Cursor}
use Rattle.data_contents.specs.Contents.{values_listed}
use Rattle.data_contents.proofs.Follows.{Walked, adds, add_adds, add_one, run_got, run_on, run_handed, Parted, parted}

-- ---- widths
pub widths_length : (c : List ℕ) (a n : ℕ) → length (widths_at c a n) ≡ n
unfolding widths_at
widths_length c a zero = refl
widths_length c a (suc n) = ap suc (widths_length c (a + 16) n)

pub widths_take : (c : List ℕ) (a m n : ℕ) → m ≤ n → take m (widths_at c a n) ≡ widths_at c a m
unfolding widths_at
widths_take c a zero n h = refl
widths_take c a (suc m) zero h = absurd (omega arith)
widths_take c a (suc m) (suc n) h = ap (λ l. get_or c (a + 3) 0 ∷ l) (widths_take c (a + 16) m n (omega arith))

-- the bits of the next column
pub header_next : (header i : ℕ) → header / 2 ^ (2 * i) / 4 ≡ header / 2 ^ (2 * (i + 1))
header_next header i = shr-shr header (2 * i) 2 ∙ ap (λ n. header / 2 ^ n) (omega arith)

module _ (c s : List ℕ) (h : ℕ) (a j at end : ℕ) (vs : List Span) (n : ℕ) where
  -- the values of one column more
  values_parted : values_at (widths_at c a (suc j)) h s at end ≡ got vs n
      → Parted (clustering_at (get_or c (a + 3) 0) h s at end) (λ v m. on (values_at (widths_at c (a + 16) j) (h / 4) s m end) (λ ws p. got (v ∷ ws) p)) vs n
  unfolding values_at widths_at
  values_parted e = parted _ _ vs n e

-- no column
pub values_none : (c s : List ℕ) (a h at end : ℕ) → values_at (widths_at c a 0) h s at end ≡ got [] at
unfolding values_at widths_at
values_none c s a h at end = refl

on_got : {A B : Type 0} (x : Got A) (k : A → ℕ → Got B) (a : A) (n : ℕ) → x ≡ got a n → on x k ≡ k a n
unfolding on
on_got x k a n e = rw e

module _ (c s : List ℕ) (k : Counts) (b : Bases) (w : Cursor → Walked) (turns : (x : Cursor) → w x ≡ follow (step_in x.phase c k b s x) w) (phase : Phase) (opened : Deletion) (count header resume stop present : ℕ) (row : Times) (last : Cursor) where
  -- the state at the value of column i, at place p
  abbrev pub state : ℕ → ℕ → Cursor
  state i p = cursor p phase opened (hand i count header resume stop present row)

  module _ (steps : (i p : ℕ) → i < count → p ≤ stop → step_in phase c k b s (state i p) ≡ handed (value_step c s (state i p) last)) (inside : stop ≤ length s) where
    value_walk : (i p : ℕ) (v : Span) (m : ℕ) → i < count → p ≤ stop → clustering_at (get_or c (16 * i + 19) 0) (header / 2 ^ (2 * i)) s p (length s) ≡ got v m
        → w (state i p) ≡ add (value_item i v) (w (behind_value (state i p) m last))
    unfolding value_step bind
    value_walk i p v m l h e =
        turns (state i p)
        ∙ ap (λ y. follow y w) (steps i p l h)
        ∙ run_handed (value_step c s (state i p) last) w
        ∙ run_on (clustering_at (get_or c (16 * i + 19) 0) (header / 2 ^ (2 * i)) s p (length s)) _ _
        ∙ run_got _ v m _ e
        ∙ run_got _ _ _ _ refl

    behind_last : (i p m : ℕ) → i + 1 ≡ count → behind_value (state i p) m last ≡ last
    unfolding behind_value pick
    behind_last i p m e = rw (lt-leb count i (omega arith), eq-eqb (i + 1) count e)

    behind_next : (i p m : ℕ) → i + 1 < count → behind_value (state i p) m last ≡ state (i + 1) m
    unfolding behind_value pick
    behind_next i p m l = rw (lt-leb count i (omega arith), ne_eqb (i + 1) count (λ e. omega arith))

    module _ (i a p h : ℕ) (vs : List Span) (n : ℕ) (f : a ≡ 16 + 16 * i) (g : h ≡ header / 2 ^ (2 * i)) (l : p ≤ length s) (t : n ≤ stop) where
      -- the value of column i, before those of j columns more
      first_walk : (j : ℕ) → i < count → (d : values_at (widths_at c a (suc j)) h s p (length s) ≡ got vs n)
          → w (state i p) ≡ add (value_item i (values_parted c s h a j p (length s) vs n d).value) (w (behind_value (state i p) (values_parted c s h a j p (length s) vs n d).place last))
      first_walk j u d = value_walk i p _ _ u below (alike ∙ (values_parted c s h a j p (length s) vs n d).is)
        where
          below : p ≤ stop
          below = omega (arith, ((values_give s (length s) (omega arith) (widths_at c a (suc j)) h p l).given vs n d).1.on)

          alike : clustering_at (get_or c (16 * i + 19) 0) (header / 2 ^ (2 * i)) s p (length s) ≡ clustering_at (get_or c (a + 3) 0) h s p (length s)
          alike = ap (λ z. clustering_at (get_or c z 0) (header / 2 ^ (2 * i)) s p (length s)) (omega arith) ∙ ap (λ z. clustering_at (get_or c (a + 3) 0) z s p (length s)) (sym g)

      last_walk : i + 1 ≡ count → values_at (widths_at c a 1) h s p (length s) ≡ got vs n → w (state i p) ≡ adds (values_listed i vs) (w last)
      last_walk u d =
          let x = values_parted c s h a 0 p (length s) vs n d in
          let y : got (x.value ∷ []) x.place ≡ got vs n = sym (on_got _ _ _ _ (values_none c s (a + 16) (h / 4) x.place (length s))) ∙ x.rest in
          let z : x.value ∷ [] ≡ vs = cc in
          first_walk 0 (omega arith) d
          ∙ ap (λ q. add (value_item i x.value) (w q)) (behind_last i p x.place u)
          ∙ add_one (value_item i x.value) (w last)
          ∙ ap (λ q. adds (values_listed i q) (w last)) z

      next_walk : (j : ℕ) → i + suc (suc j) ≡ count
          → ((m : ℕ) (us : List Span) → m ≤ length s → values_at (widths_at c (a + 16) (suc j)) (h / 4) s m (length s) ≡ got us n → w (state (i + 1) m) ≡ adds (values_listed (i + 1) us) (w last))
          → values_at (widths_at c a (suc (suc j))) h s p (length s) ≡ got vs n
          → w (state i p) ≡ adds (values_listed i vs) (w last)
      next_walk j u ih d =
          let x = values_parted c s h a (suc j) p (length s) vs n d in
          let y = parted _ _ vs n x.rest in
          let o : y.place ≡ n = cc in
          let z : x.value ∷ y.value ≡ vs = cc in
          let m : x.place ≤ length s = ((clustering_gives s (length s) (omega arith) _ h p l).given _ _ x.is).1.within in
          first_walk (suc j) (omega arith) d
          ∙ ap (λ q. add (value_item i x.value) (w q)) (behind_next i p x.place (omega arith))
          ∙ ap (add (value_item i x.value)) (ih x.place y.value m (y.is ∙ ap (got y.value) o))
          ∙ add_adds (value_item i x.value) (values_listed (i + 1) y.value) (w last)
          ∙ ap (λ q. adds (values_listed i q) (w last)) z

    -- from column i on
    pub values_walk : (j i a p h : ℕ) (vs : List Span) (n : ℕ) → i + suc j ≡ count → a ≡ 16 + 16 * i → h ≡ header / 2 ^ (2 * i) → p ≤ length s → n ≤ stop
        → values_at (widths_at c a (suc j)) h s p (length s) ≡ got vs n → w (state i p) ≡ adds (values_listed i vs) (w last)
    values_walk zero i a p h vs n e f g l t d = last_walk i a p h vs n f g l t (omega arith) d
    values_walk (suc j) i a p h vs n e f g l t d =
        next_walk i a p h vs n f g l t j e
        (λ m us u v. values_walk j (i + 1) (a + 16) m (h / 4) us n (omega arith) (omega arith) (ap (λ z. z / 4) g ∙ header_next header i) u t v) d
