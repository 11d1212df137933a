-- Clustering values in the writer's form are read back. Assumes nothing.
use mathlib.Core.Path.{◌≡◌, refl, ap, ◌∙◌}
use mathlib.Core.Bool.{Bool, true, false}
use mathlib.Core.List.{List, [], ◌∷◌}
use Prim.Native.Nat.{ℕ, suc, ◌+◌, ◌*◌, ◌/◌, ◌%◌, ◌^◌, ◌≤◌, ◌<◌}
use native.Mathlib.Nat.{pow-succ', pow-le-pow_right, lt_of_lt_of_le}
use native.Mathlib.Omega.{arith}
use borrow.Author.Tests.{ne_eqb, eqb-true}
use lib.Dec.{eqb, lit<}
use lib.ListN.{length}
use Rattle.common.specs.Choose.{pick}
use Rattle.common.specs.Got.{Got}
use Rattle.number_varint.specs.Varints.{shortest}
use Rattle.common.proofs.Choose.{pick_ind}
use Rattle.common.proofs.RoundTrip.{Reads, reads_got, reads_on, reads_at, reads_yes, reads_no, reads_to}
use Rattle.common.proofs.Stands.{Stands, stands_left, stands_right}
use Rattle.number_varint.proofs.Varints.{varint_back}
use Rattle.data_clustering.specs.Prefixes.{bad_header, header_at, clustering_at, values_at, skipped, prefix_at}
use Rattle.write_form.specs.Views.{show_value, show_values}
use Rattle.write_form.specs.Cells.{field_bytes}
use Rattle.write_form.specs.Clusterings.{header_of, header_bytes, clustering_bytes, values_bytes, prefix_bytes}
use Rattle.write_form.specs.Fits.{ValueFits, ValuesFit}
use Rattle.write_form.proofs.Fields.{either, stands_none, shown_none, field_back, no_bytes}

-- ---- the header
bit_le : (t : Bool) → pick {A = ℕ} t 1 0 ≤ 1
bit_le t = pick_ind (λ x. x ≤ 1) 1 0 t (λ e. omega arith) (λ e. omega arith)

header_more : (k e h : ℕ) → e ≤ 1 → bad_header k h ≡ false → bad_header (suc k) (e + 4 * h) ≡ false
unfolding bad_header pick
header_more k e h l g =
    let two : (e + 4 * h) / 2 ≡ 2 * h = omega arith in
    let four : (e + 4 * h) / 4 ≡ h = omega arith in
    rw (ne_eqb ((e + 4 * h) / 2 % 2) 1 (λ z. absurd (omega arith)), four) g

none_bad : bad_header 0 0 ≡ false
unfolding bad_header
none_bad = refl

pub header_good : (vs : List (List ℕ)) → bad_header (length vs) (header_of vs) ≡ false
unfolding header_of
header_good [] = none_bad
header_good (v ∷ vs) = header_more (length vs) (pick (eqb (length v) 0) 1 0) (header_of vs) (bit_le (eqb (length v) 0)) (header_good vs)

header_lt : (vs : List (List ℕ)) → header_of vs < 4 ^ length vs
unfolding header_of
header_lt [] = omega arith
header_lt (v ∷ vs) = rw (pow-succ' 4 (length vs)) (omega (arith, header_lt vs, bit_le (eqb (length v) 0)))

header_fits : (vs : List (List ℕ)) → length vs ≤ 32 → header_of vs < 2 ^ 64
header_fits vs l = lt_of_lt_of_le (header_lt vs) (pow-le-pow_right (lit< tt) l)

pub values_length : (ws : List ℕ) (vs : List (List ℕ)) → ValuesFit ws vs → length ws ≡ length vs
values_length [] [] i = refl
values_length [] (v ∷ vs) i = absurd (omega arith)
values_length (w ∷ ws) [] i = absurd (omega arith)
values_length (w ∷ ws) (v ∷ vs) i = ap suc (values_length ws vs i.1)

-- ---- the bytes of each part, by its case
header_none : (vs : List (List ℕ)) → eqb (length vs) 0 ≡ true → header_bytes vs ≡ []
unfolding header_bytes pick
header_none vs e = rw e

header_some : (vs : List (List ℕ)) → eqb (length vs) 0 ≡ false → header_bytes vs ≡ shortest (header_of vs)
unfolding header_bytes pick
header_some vs e = rw e

no_header : (vs : List (List ℕ)) → eqb (length vs) 0 ≡ true → 0 ≡ header_of vs
unfolding header_of
no_header [] e = refl
no_header (v ∷ vs) e = absurd (omega (arith, eqb-true (suc (length vs)) 0 e))

clustering_none : (w : ℕ) (v : List ℕ) → eqb (length v) 0 ≡ true → clustering_bytes w v ≡ []
unfolding clustering_bytes pick
clustering_none w v e = rw e

clustering_some : (w : ℕ) (v : List ℕ) → eqb (length v) 0 ≡ false → clustering_bytes w v ≡ field_bytes w v
unfolding clustering_bytes pick
clustering_some w v e = rw e

pick_one : (t : Bool) → t ≡ true → pick {A = ℕ} t 1 0 ≡ 1
unfolding pick
pick_one t e = rw e

pick_other : (t : Bool) → t ≡ false → pick {A = ℕ} t 1 0 ≡ 0
unfolding pick
pick_other t e = rw e

skipped_back : {A : Type 0} {P : A → Type 0} {x : Got A} {n : ℕ} → Reads x n P → Reads (skipped x) n (λ u. Unit)
unfolding skipped
skipped_back h = rw h.is (reads_got tt _ tt)

module _ (s : List ℕ) (end : ℕ) where
  pub header_back : (vs : List (List ℕ)) (k at n : ℕ) → k ≡ length vs → k ≤ 32 → Stands s end at n (header_bytes vs) → Reads (header_at k s at end) n (λ h. h ≡ header_of vs)
  unfolding header_at
  header_back vs k at n d l h = either (eqb (length vs) 0)
      (λ e. reads_yes _ _ (rw d e) (reads_to (stands_none s end at n (rw (header_none vs e) at h)) (reads_got 0 at (no_header vs e))))
      (λ e.
      reads_no _ _ (rw d e)
      (reads_at _ (varint_back s end at n (header_of vs) (header_fits vs (rw (← d) l)) (rw (header_some vs e) at h))
      (reads_no _ _ (rw d (header_good vs)) (reads_got _ n refl))))

  clustering_back : (w h at n : ℕ) (v : List ℕ) → ValueFits w v → h % 2 ≡ pick (eqb (length v) 0) 1 0 → Stands s end at n (clustering_bytes w v)
      → Reads (clustering_at w h s at end) n (λ p. show_value s p ≡ v)
  unfolding clustering_at
  clustering_back w h at n v i d g = either (eqb (length v) 0)
      (λ e. reads_yes _ _ (rw (d, pick_one _ e)) (reads_to (stands_none s end at n (rw (clustering_none w v e) at g)) (reads_got _ at (shown_none s ∙ no_bytes v e))))
      (λ e. reads_no _ _ (rw (d, pick_other _ e)) (field_back s end w at n v e i (rw (clustering_some w v e) at g)))

  pub values_back : (ws : List ℕ) (vs : List (List ℕ)) → ValuesFit ws vs → (at n : ℕ) → Stands s end at n (values_bytes ws vs)
      → Reads (values_at ws (header_of vs) s at end) n (λ xs. show_values s xs ≡ vs)
  unfolding values_at values_bytes header_of
  values_back [] [] i at n h = reads_to (stands_none s end at n h) (reads_got [] at refl)
  values_back [] (v ∷ vs) i at n h = absurd (omega arith)
  values_back (w ∷ ws) [] i at n h = absurd (omega arith)
  values_back (w ∷ ws) (v ∷ vs) i at n h = go (pick (eqb (length v) 0) 1 0) refl (bit_le (eqb (length v) 0)) (λ m k. values_back ws vs i.1 m n k)
    where
      go : (e : ℕ) → e ≡ pick (eqb (length v) 0) 1 0 → e ≤ 1
          → ((m : ℕ) → Stands s end m n (values_bytes ws vs) → Reads (values_at ws (header_of vs) s m end) n (λ xs. show_values s xs ≡ vs))
          → Reads (values_at (w ∷ ws) (e + 4 * header_of vs) s at end) n (λ xs. show_values s xs ≡ v ∷ vs)
      go e d l ih =
          let two : (e + 4 * header_of vs) % 2 ≡ e = omega arith in
          let four : (e + 4 * header_of vs) / 4 ≡ header_of vs = omega arith in
          reads_on _ (clustering_back w (e + 4 * header_of vs) at _ v i.0 (two ∙ d) (stands_left s end at n (clustering_bytes w v) (values_bytes ws vs) h)) (λ p q.
          rw four (reads_on _ (ih _ (stands_right s end at n (clustering_bytes w v) (values_bytes ws vs) h)) (λ xs g.
          reads_got (p ∷ xs) n (λ j. q j ∷ g j))))

  -- header and values; the values are there for one who reads them one by one
  pub prefix_back : (ws : List ℕ) (vs : List (List ℕ)) (at n : ℕ) → length ws ≤ 32 → ValuesFit ws vs → Stands s end at n (prefix_bytes ws vs)
      → Reads (prefix_at ws s at end) n (λ p. Reads (values_at ws p.header s p.values end) n (λ xs. show_values s xs ≡ vs))
  unfolding prefix_at prefix_bytes
  prefix_back ws vs at n l i h =
      let g = values_back ws vs i _ n (stands_right s end at n (header_bytes vs) (values_bytes ws vs) h) in
      reads_at _ (header_back vs (length ws) at _ (values_length ws vs i) l (stands_left s end at n (header_bytes vs) (values_bytes ws vs) h))
      (reads_on _ (skipped_back g) (λ u _. reads_got _ n g))
