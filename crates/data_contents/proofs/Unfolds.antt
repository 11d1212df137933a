-- Entries and partitions, read one by one: how many there may be at most does not show. Assumes nothing.
use mathlib.Core.Path.{◌≡◌, refl, sym, ap, ◌∙◌}
use mathlib.Core.List.{List, [], ◌∷◌}
use Prim.Native.Nat.{ℕ, zero, suc, ◌-◌, ◌≤◌, ◌<◌}
use native.Mathlib.Omega.{arith}
use borrow.Author.Tests.{eq-eqb}
use lib.Dec.{eqb}
use Rattle.common.specs.Choose.{pick}
use Rattle.common.specs.Got.{Got, got, bad, on}
use Rattle.common.specs.declared.refusal.Fault.TheVariants.{PastEnd}
use Rattle.common.specs.declared.times.Bases.{Bases}
use Rattle.data_field.specs.Fields.{byte_at}
use Rattle.data_field.specs.declared.fields.Deletion.{Deletion}
use Rattle.data_contents.specs.Contents.{Widths, Entry, Contents, open_behind, closed_at, entry_at, entries_in, entries_at, whole_at, partitions_in, contents_at}
use Rattle.data_contents.proofs.Gives.{byte_none, entry_gives, entry_moves, whole_gives}

-- what follows a reading is looked at only for what is read
on_same : {A B : Type 0} (x : Got A) (f g : A → ℕ → Got B) → ((a : A) (n : ℕ) → x ≡ got a n → f a n ≡ g a n) → on x f ≡ on x g
unfolding on
on_same (got a n) f g e = e a n refl
on_same (bad z p) f g e = refl

module _ (t : Widths) (b : Bases) (s : List ℕ) (end : ℕ) where
  -- an entry and those behind it, read by x
  abbrev one_more_lem : ℕ → Deletion → ℕ → (Deletion → ℕ → Got (List Entry)) → Got (List Entry)
  one_more_lem first opened at x =
      on (byte_at s at end) (λ f n.
      pick (eqb f 1) (closed_at opened at)
      (on (entry_at t b first opened f s at end) (λ e m.
      on (x (open_behind opened e) m) (λ es p.
      got (e ∷ es) p))))

  more_same : (first : ℕ) (opened : Deletion) (at : ℕ) (x y : Deletion → ℕ → Got (List Entry)) → ((op : Deletion) (m : ℕ) → at < m → m ≤ end → x op m ≡ y op m)
      → one_more_lem first opened at x ≡ one_more_lem first opened at y
  more_same first opened at x y e =
      on_same (byte_at s at end) _ _ (λ f n d.
      ap (pick (eqb f 1) (closed_at opened at))
      (on_same (entry_at t b first opened f s at end) _ _ (λ a m h.
      let g = entry_moves t b s at end opened a m ((entry_gives t b s at end first opened f).given a m h) in
      ap (λ z. on z (λ es p. got (a ∷ es) p)) (e (open_behind opened a) m g.past g.within))))

  entries_none : (j first : ℕ) (opened : Deletion) (at : ℕ) → end ≤ at → entries_in j t b first opened s at end ≡ bad PastEnd at
  unfolding entries_in on
  entries_none zero first opened at h = refl
  entries_none (suc j) first opened at h = rw (byte_none s at end h)

  entries_same : (i j first : ℕ) (opened : Deletion) (at : ℕ) → end - at ≤ i → end - at ≤ j → entries_in i t b first opened s at end ≡ entries_in j t b first opened s at end
  unfolding entries_in
  entries_same zero j first opened at h l = sym (entries_none j first opened at (omega arith))
  entries_same (suc i) zero first opened at h l = entries_none (suc i) first opened at (omega arith)
  entries_same (suc i) (suc j) first opened at h l = more_same first opened at _ _ (λ op m f g. entries_same i j 0 op m (omega arith) (omega arith))

  pub entries_unfold : (first : ℕ) (opened : Deletion) (at : ℕ) → entries_at t b first opened s at end ≡ one_more_lem first opened at (λ op m. entries_at t b 0 op s m end)
  unfolding entries_at entries_in
  entries_unfold first opened at =
      entries_same (end - at) (suc (end - at)) first opened at (omega arith) (omega arith)
      ∙ more_same first opened at _ _ (λ op m f g. entries_same (end - at) (end - m) 0 op m (omega arith) (omega arith))

  -- ---- partitions
  abbrev whole_more : ℕ → (ℕ → Got (List Contents)) → Got (List Contents)
  whole_more at x =
      pick (eqb at end) (got [] at)
      (on (whole_at t b s at end) (λ p n.
      on (x n) (λ ps m.
      got (p ∷ ps) m)))

  whole_same : (at : ℕ) (x y : ℕ → Got (List Contents)) → ((m : ℕ) → at < m → m ≤ end → x m ≡ y m) → whole_more at x ≡ whole_more at y
  whole_same at x y e =
      ap (pick (eqb at end) (got [] at))
      (on_same (whole_at t b s at end) _ _ (λ p n d.
      let g = (whole_gives t b s at end).given p n d in
      ap (λ z. on z (λ ps m. got (p ∷ ps) m)) (e n (omega (arith, g.next, g.ended.on)) (omega (arith, g.next, g.ended.within)))))

  partitions_none : (j at : ℕ) → at ≡ end → partitions_in j t b s at end ≡ got [] at
  unfolding partitions_in pick
  partitions_none zero at h = refl
  partitions_none (suc j) at h = rw (eq-eqb at end h)

  partitions_same : (i j at : ℕ) → at ≤ end → end - at ≤ i → end - at ≤ j → partitions_in i t b s at end ≡ partitions_in j t b s at end
  unfolding partitions_in
  partitions_same zero j at k h l = sym (partitions_none j at (omega arith))
  partitions_same (suc i) zero at k h l = partitions_none (suc i) at (omega arith)
  partitions_same (suc i) (suc j) at k h l = whole_same at _ _ (λ m f g. partitions_same i j m g (omega arith) (omega arith))

  pub contents_unfold : (at : ℕ) → at ≤ end → contents_at t b s at end ≡ whole_more at (λ m. contents_at t b s m end)
  unfolding contents_at partitions_in
  contents_unfold at h =
      partitions_same (end - at) (suc (end - at)) at h (omega arith) (omega arith)
      ∙ whole_same at _ _ (λ m f g. partitions_same (end - at) (end - m) m g (omega arith) (omega arith))
