-- Entries and partitions of a record table, taken one by one: how many there may be at most does not show. Assumes nothing.
use mathlib.Core.Path.{◌≡◌, refl, sym, ap, ◌∙◌}
use mathlib.Core.List.{List, [], ◌∷◌}
use Prim.Native.Nat.{ℕ, zero, suc, ◌+◌, ◌-◌, ◌≤◌, ◌<◌}
use native.Mathlib.Omega.{arith}
use borrow.Author.Tests.{eq-eqb, lt-ltb, ltb-false}
use lib.Dec.{ltb, eqb}
use lib.ListN.{length, get_or}
use Rattle.common.specs.Choose.{pick}
use Rattle.common.specs.Got.{Got, got, bad, on}
use Rattle.common.specs.declared.refusal.Fault.TheVariants.{BadRecord}
use Rattle.common.specs.declared.times.Bases.{Bases}
use Rattle.common.proofs.Choose.{pick_yes}
use Rattle.common.proofs.Gives.{Gives, gives_got, gives_bad, gives_on, gives_pick}
use Rattle.data_field.specs.Fields.{live}
use Rattle.data_field.specs.declared.fields.Deletion.{Deletion}
use Rattle.data_contents.specs.Contents.{Widths, Entry, Contents, open_behind}
use Rattle.list_count.proofs.Follows.{on_same}
use Rattle.write_accept.specs.Records.{kind_at}
use Rattle.write_accept.specs.Tests.{bad_partition, bad_row, bad_static, bad_marker, bad_clustering, bad_cell, bad_end}
use Rattle.write_accept.specs.Entries.{taken_values, taken_prefix, is_cell, taken_cells, taken_static, taken_row, taken_marker, taken_entry, taken_end, taken_entries_in, taken_entries, baseless, taken_partition, taken_in, taken_at}
use Rattle.write_accept.proofs.Goods.{record_gives}

-- what is taken from at on ends at n
pub record Moves (at end n : ℕ) : Type 0 where
  pub least : at ≤ n
  pub within : at ≤ end → n ≤ end

stays : (at end : ℕ) → Moves at end at
stays at end = record { least = omega arith; within = λ h. h }

moves : (at end m n : ℕ) → at ≤ m → m ≤ end → Moves m end n → Moves at end n
moves at end m n h l k = record { least = omega (arith, k.least); within = λ _. k.within l }

module _ (b : Bases) (bytes s : List ℕ) (end : ℕ) where
  pub values_move : (column : ℕ) (ws : List ℕ) (at : ℕ) → Gives (taken_values b bytes column ws s at end) (λ vs n. Moves at end n)
  unfolding taken_values
  values_move column [] at = gives_got _ _ (stays at end)
  values_move column (w ∷ ws) at =
      gives_on _ (record_gives b (bad_clustering bytes column w) s at end) (λ i m g.
      gives_on _ (values_move (column + 1) ws m) (λ vs n h.
      gives_got _ _ (moves at end m n (omega (arith, g.next)) g.within h)))

  pub prefix_moves : (column : ℕ) (ws : List ℕ) (at : ℕ) → Gives (taken_prefix b bytes column ws s at end) (λ vs n. Moves at end n)
  unfolding taken_prefix
  prefix_moves column [] at = gives_got _ _ (stays at end)
  prefix_moves column (w ∷ ws) at =
      gives_pick (eqb (get_or s at 0) 5)
      (λ e.
      gives_on _ (record_gives b (bad_clustering bytes column w) s at end) (λ i m g.
      gives_on _ (prefix_moves (column + 1) ws m) (λ vs n h.
      gives_got _ _ (moves at end m n (omega (arith, g.next)) g.within h))))
      (λ e. gives_got _ _ (stays at end))

  pub cells_move : (column : ℕ) (ws : List ℕ) (at : ℕ) → Gives (taken_cells b bytes column ws s at end) (λ cs n. Moves at end n)
  unfolding taken_cells
  cells_move column [] at = gives_got _ _ (stays at end)
  cells_move column (w ∷ ws) at =
      gives_pick (is_cell column s at)
      (λ e.
      gives_on _ (record_gives b (bad_cell bytes column w) s at end) (λ i m g.
      gives_on _ (cells_move (column + 1) ws m) (λ cs n h.
      gives_got _ _ (moves at end m n (omega (arith, g.next)) g.within h))))
      (λ e. gives_on _ (cells_move (column + 1) ws at) (λ cs n h. gives_got _ _ h))

  module _ (t : Widths) where
    -- an entry has a record or more
    pub entry_moves : (first : ℕ) (opened : Deletion) (kind at : ℕ) → Gives (taken_entry t b bytes first opened kind s at end) (λ e n. (at + 64 ≤ n) × (n ≤ end))
    unfolding taken_entry taken_static taken_row taken_marker
    entry_moves first opened kind at =
        gives_pick (eqb kind 2)
        (λ e.
        gives_on _ (record_gives b (bad_static first (length t.statics)) s at end) (λ i m g.
        gives_on _ (cells_move 0 t.statics m) (λ cs n h.
        gives_got _ _ (omega (arith, g.next, h.least), h.within g.within))))
        (λ e.
        gives_pick (eqb kind 3)
        (λ f.
        gives_on _ (record_gives b (bad_row 3) s at end) (λ i m g.
        gives_on _ (values_move 0 t.clustering m) (λ vs p v.
        gives_on _ (cells_move 0 t.regulars p) (λ cs n h.
        gives_got _ _ (omega (arith, g.next, v.least, h.least), h.within (v.within g.within))))))
        (λ f.
        gives_pick (eqb kind 4)
        (λ k.
        gives_on _ (record_gives b (bad_marker opened) s at end) (λ i m g.
        gives_on _ (prefix_moves 0 t.clustering m) (λ vs n h.
        gives_got _ _ (omega (arith, g.next, h.least), h.within g.within))))
        (λ k. gives_bad _ _)))

    pub kind_gives : (at : ℕ) → Gives (kind_at s at end) (λ kind n. (kind ≡ get_or s at 0) × ((n ≡ at) × (at + 64 ≤ end)))
    unfolding kind_at
    kind_gives at = gives_pick (ltb (end - at) 64) (λ e. gives_bad _ _) (λ e. gives_got _ _ (refl, (refl, omega (arith, ltb-false (end - at) 64 e))))

    kind_none : (at : ℕ) → end ≤ at → kind_at s at end ≡ bad BadRecord end
    unfolding kind_at
    kind_none at h = sym (pick_yes _ _ _ _ (lt-ltb (end - at) 64 (omega arith)) refl)

    -- an entry and those behind it, taken by x
    abbrev pub one_more_lem : ℕ → Deletion → ℕ → (Deletion → ℕ → Got (List Entry)) → Got (List Entry)
    one_more_lem first opened at x =
        on (kind_at s at end) (λ kind n.
        pick (eqb kind 7) (taken_end b opened s at end)
        (on (taken_entry t b bytes first opened kind s at end) (λ e m.
        on (x (open_behind opened e) m) (λ es p.
        got (e ∷ es) p))))

    more_same : (first : ℕ) (opened : Deletion) (at : ℕ) (x y : Deletion → ℕ → Got (List Entry)) → ((op : Deletion) (m : ℕ) → at < m → m ≤ end → x op m ≡ y op m)
        → one_more_lem first opened at x ≡ one_more_lem first opened at y
    more_same first opened at x y e =
        on_same (kind_at s at end) _ _ (λ f n d.
        ap (pick (eqb f 7) (taken_end b opened s at end))
        (on_same (taken_entry t b bytes first opened f s at end) _ _ (λ a m h.
        let g = (entry_moves first opened f at).given a m h in
        ap (λ z. on z (λ es p. got (a ∷ es) p)) (e (open_behind opened a) m (omega (arith, g.0)) g.1))))

    entries_none : (j first : ℕ) (opened : Deletion) (at : ℕ) → end ≤ at → taken_entries_in j t b bytes first opened s at end ≡ bad BadRecord end
    unfolding taken_entries_in on
    entries_none zero first opened at h = refl
    entries_none (suc j) first opened at h = rw (kind_none at h)

    entries_same : (i j first : ℕ) (opened : Deletion) (at : ℕ) → end - at ≤ i → end - at ≤ j → taken_entries_in i t b bytes first opened s at end ≡ taken_entries_in j t b bytes first opened s at end
    unfolding taken_entries_in
    entries_same zero j first opened at h l = sym (entries_none j first opened at (omega arith))
    entries_same (suc i) zero first opened at h l = entries_none (suc i) first opened at (omega arith)
    entries_same (suc i) (suc j) first opened at h l = more_same first opened at _ _ (λ op m f g. entries_same i j 0 op m (omega arith) (omega arith))

    pub entries_unfold : (first : ℕ) (opened : Deletion) (at : ℕ) → taken_entries t b bytes first opened s at end ≡ one_more_lem first opened at (λ op m. taken_entries t b bytes 0 op s m end)
    unfolding taken_entries taken_entries_in
    entries_unfold first opened at =
        entries_same (end - at) (suc (end - at)) first opened at (omega arith) (omega arith)
        ∙ more_same first opened at _ _ (λ op m f g. entries_same (end - at) (end - m) 0 op m (omega arith) (omega arith))

    -- entries and the end record
    entries_move_in : (j first : ℕ) (opened : Deletion) (at : ℕ) → Gives (taken_entries_in j t b bytes first opened s at end) (λ es n. (at + 64 ≤ n) × (n ≤ end))
    unfolding taken_entries_in taken_end
    entries_move_in zero first opened at = gives_bad _ _
    entries_move_in (suc j) first opened at =
        gives_on _ (kind_gives at) (λ kind q _.
        gives_pick (eqb kind 7)
        (λ e. gives_on _ (record_gives b (bad_end opened) s at end) (λ i n g. gives_got _ _ (omega (arith, g.next), g.within)))
        (λ e.
        gives_on _ (entry_moves first opened kind at) (λ x m h.
        gives_on _ (entries_move_in j 0 (open_behind opened x) m) (λ es n k.
        gives_got _ _ (omega (arith, h.0, k.0), k.1)))))

    pub entries_move : (first : ℕ) (opened : Deletion) (at : ℕ) → Gives (taken_entries t b bytes first opened s at end) (λ es n. (at + 64 ≤ n) × (n ≤ end))
    unfolding taken_entries
    entries_move first opened at = entries_move_in (end - at) first opened at

    -- ---- partitions
    pub partition_moves : (at : ℕ) → Gives (taken_partition t b bytes s at end) (λ p n. (at + 64 ≤ n) × (n ≤ end))
    unfolding taken_partition
    partition_moves at =
        gives_on _ (record_gives baseless (bad_partition bytes) s at end) (λ i m g.
        gives_on _ (entries_move 1 live m) (λ es n h.
        gives_got _ _ (omega (arith, g.next, h.0), h.1)))

    abbrev pub whole_more : ℕ → (ℕ → Got (List Contents)) → Got (List Contents)
    whole_more at x =
        pick (eqb at end) (got [] at)
        (on (taken_partition t b bytes s at end) (λ p n.
        on (x n) (λ ps m.
        got (p ∷ ps) m)))

    whole_same : (at : ℕ) (x y : ℕ → Got (List Contents)) → ((m : ℕ) → at < m → m ≤ end → x m ≡ y m) → whole_more at x ≡ whole_more at y
    whole_same at x y e =
        ap (pick (eqb at end) (got [] at))
        (on_same (taken_partition t b bytes s at end) _ _ (λ p n d.
        let g = (partition_moves at).given p n d in
        ap (λ z. on z (λ ps m. got (p ∷ ps) m)) (e n (omega (arith, g.0)) g.1)))

    partitions_none : (j at : ℕ) → at ≡ end → taken_in j t b bytes s at end ≡ got [] at
    unfolding taken_in pick
    partitions_none zero at h = refl
    partitions_none (suc j) at h = rw (eq-eqb at end h)

    partitions_same : (i j at : ℕ) → at ≤ end → end - at ≤ i → end - at ≤ j → taken_in i t b bytes s at end ≡ taken_in j t b bytes s at end
    unfolding taken_in
    partitions_same zero j at k h l = sym (partitions_none j at (omega arith))
    partitions_same (suc i) zero at k h l = partitions_none (suc i) at (omega arith)
    partitions_same (suc i) (suc j) at k h l = whole_same at _ _ (λ m f g. partitions_same i j m g (omega arith) (omega arith))

    pub taken_unfold : (at : ℕ) → at ≤ end → taken_at t b bytes s at end ≡ whole_more at (λ m. taken_at t b bytes s m end)
    unfolding taken_at taken_in
    taken_unfold at h =
        partitions_same (end - at) (suc (end - at)) at h (omega arith) (omega arith)
        ∙ whole_same at _ _ (λ m f g. partitions_same (end - at) (end - m) m g (omega arith) (omega arith))
