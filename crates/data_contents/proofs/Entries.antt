-- The walk through a partition's rows and markers lists the entries that are read. Assumes nothing.
use mathlib.Core.Path.{◌≡◌, refl, sym, ap, ◌∙◌}
use mathlib.Core.Bool.{Bool, true, false}
use mathlib.Core.List.{List, [], ◌∷◌}
use Prim.Native.Nat.{ℕ, zero, suc, ◌+◌, ◌-◌, ◌≤◌}
use native.Mathlib.Omega.{arith}
use lib.Dec.{ltb, leb, eqb}
use lib.ListN.{length}
use Rattle.common.specs.Choose.{pick, bind}
use Rattle.common.specs.Got.{Got, got, on}
use Rattle.common.specs.Refusals.{refused}
use Rattle.common.proofs.Gives.{Gives, gives_got, gives_bad, gives_pick}
use Rattle.common.specs.declared.refusal.Fault.TheVariants.{PastEnd, OutOfTurn}
use Rattle.common.specs.declared.refusal.Slice.TheVariants.{Data}
use Rattle.common.specs.declared.times.Bases.{Bases}
use Rattle.data_field.specs.Fields.{byte_at, live}
use Rattle.data_field.specs.declared.fields.Deletion.{Deletion}
use Rattle.schema_check.specs.declared.records.Counts.{Counts}
use Rattle.data_items.specs.Items.{end_item}
use Rattle.data_walk.specs.Cursors.{at_items}
use Rattle.data_walk.specs.Steps.{step_in, end_step, marker_step, row_step, item_step}
use Rattle.data_walk.specs.Walks.{follow}
use Rattle.data_walk.specs.declared.cursors.Phase.TheVariants.{Partition}
use Rattle.data_walk.specs.declared.cursors.Cursor.{Cursor}
use Rattle.call_check.specs.Tables.{Table}
use Rattle.data_contents.specs.Contents.{widths_of, Entry, open_behind, row_entry_at, marker_entry_at, entry_at, closed_at, entries_in, entry_listed, entries_listed}
use Rattle.data_contents.proofs.Follows.{Walked, adds, run, add_one, adds_adds, run_bad, run_pick, run_same, adds_run, run_on, run_handed}
use Rattle.data_contents.proofs.Gives.{byte_none, entry_gives, entry_moves}
use Rattle.data_contents.proofs.Rows.{item_from, next, behind_entry, row_walk}
use Rattle.data_contents.proofs.Markers.{marker_walk}

byte_next : (s : List ℕ) (at end : ℕ) → Gives (byte_at s at end) (λ f n. n ≡ at + 1)
unfolding byte_at
byte_next s at end = gives_pick (ltb (length s) end) (λ e. gives_bad _ _) (λ e. gives_pick (leb end at) (λ f. gives_bad _ _) (λ f. gives_got _ _ refl))

module _ (c s : List ℕ) (k : Counts) (b : Bases) (w : Cursor → Walked) (turns : (x : Cursor) → w x ≡ follow (step_in x.phase c k b s x) w) (table : Table (length c) k) where
  -- what follows a partition's entries and its end byte at p
  abbrev pub behind_entries : List Entry → ℕ → Walked
  behind_entries es p = adds (entries_listed es p) (w (at_items (p + 1) Partition live))

  module _ (first : ℕ) (opened : Deletion) (at : ℕ) where
    end_walk : (n : ℕ) → n ≡ at + 1 → run (end_step opened at n) (next c s k b w turns) ≡ run (closed_at opened at) behind_entries
    unfolding end_step closed_at bind run
    end_walk n e =
        run_pick (eqb opened.deleted 0) _ _ (next c s k b w turns)
        ∙ ap (λ o. pick (eqb opened.deleted 0) o (refused OutOfTurn Data at)) (add_one (end_item at) _ ∙ ap (λ m. adds (end_item at ∷ []) (w (at_items m Partition live))) e)
        ∙ sym (run_pick (eqb opened.deleted 0) _ _ behind_entries)

    entry_walk : (f : ℕ) → run (pick (eqb f 2) (marker_step c k b s opened at) (row_step c k b s first opened at)) (next c s k b w turns) ≡ run (entry_at (widths_of c k) b first opened f s at (length s)) (behind_entry c s k b w turns opened)
    unfolding entry_at pick
    entry_walk f = go (eqb f 2)
      where
        go : (t : Bool) → run (pick t (marker_step c k b s opened at) (row_step c k b s first opened at)) (next c s k b w turns) ≡ run (pick t (marker_entry_at (widths_of c k) b opened s at (length s)) (row_entry_at (widths_of c k) b first s at (length s))) (behind_entry c s k b w turns opened)
        go true = marker_walk c s k b w turns opened at
        go false = row_walk c s k b w turns table opened at first

    module _ (j : ℕ) (left : length s - at ≤ suc j) (ih : (op : Deletion) (m : ℕ) → length s - m ≤ j → item_from c s k b w turns 0 op m ≡ run (entries_in j (widths_of c k) b 0 op s m (length s)) behind_entries) where
      -- an entry and those behind it
      abbrev more : Entry → ℕ → Got (List Entry)
      more e m = on (entries_in j (widths_of c k) b 0 (open_behind opened e) s m (length s)) (λ es p. got (e ∷ es) p)

      rest_walk : (f : ℕ) (e : Entry) (m : ℕ) → entry_at (widths_of c k) b first opened f s at (length s) ≡ got e m → behind_entry c s k b w turns opened e m ≡ run (more e m) behind_entries
      unfolding run
      rest_walk f e m d =
          let g = entry_moves (widths_of c k) b s at (length s) opened e m ((entry_gives (widths_of c k) b s at (length s) first opened f).given e m d) in
          ap (adds (entry_listed e)) (ih (open_behind opened e) m (omega (arith, g.past, g.within)))
          ∙ adds_run (entry_listed e) (entries_in j (widths_of c k) b 0 (open_behind opened e) s m (length s)) _
          ∙ run_same (entries_in j (widths_of c k) b 0 (open_behind opened e) s m (length s)) _ _ (λ es p h. adds_adds (entry_listed e) (entries_listed es p) _)
          ∙ sym (run_on (entries_in j (widths_of c k) b 0 (open_behind opened e) s m (length s)) _ _)

      byte_walk : (f n : ℕ) → n ≡ at + 1
          → run (pick (eqb f 1) (end_step opened at n) (pick (eqb f 2) (marker_step c k b s opened at) (row_step c k b s first opened at))) (next c s k b w turns)
          ≡ run (pick (eqb f 1) (closed_at opened at) (on (entry_at (widths_of c k) b first opened f s at (length s)) more)) behind_entries
      byte_walk f n e =
          run_pick (eqb f 1) _ _ (next c s k b w turns)
          ∙ ap (λ o. pick (eqb f 1) o (run (pick (eqb f 2) (marker_step c k b s opened at) (row_step c k b s first opened at)) (next c s k b w turns))) (end_walk n e)
          ∙ ap (λ o. pick (eqb f 1) (run (closed_at opened at) behind_entries) o)
          (entry_walk f ∙ run_same (entry_at (widths_of c k) b first opened f s at (length s)) _ _ (rest_walk f) ∙ sym (run_on (entry_at (widths_of c k) b first opened f s at (length s)) more behind_entries))
          ∙ sym (run_pick (eqb f 1) _ _ behind_entries)

      one_walk : item_from c s k b w turns first opened at ≡ run (entries_in (suc j) (widths_of c k) b first opened s at (length s)) behind_entries
      unfolding item_step entries_in
      one_walk =
          run_handed (item_step c k b s first opened at) w
          ∙ run_on (byte_at s at (length s)) _ _
          ∙ run_same (byte_at s at (length s)) _ _ (λ f n e. byte_walk f n ((byte_next s at (length s)).given f n e))
          ∙ sym (run_on (byte_at s at (length s)) _ _)

    none_walk : length s - at ≤ 0 → item_from c s k b w turns first opened at ≡ run (entries_in 0 (widths_of c k) b first opened s at (length s)) behind_entries
    unfolding item_step entries_in
    none_walk l =
        run_handed (item_step c k b s first opened at) w
        ∙ run_on (byte_at s at (length s)) _ _
        ∙ run_bad (byte_at s at (length s)) PastEnd at _ (byte_none s at (length s) (omega arith))
        ∙ sym (run_bad _ PastEnd at _ refl)

  -- from an item of a partition on
  pub entries_walk : (j first : ℕ) (opened : Deletion) (at : ℕ) → length s - at ≤ j → item_from c s k b w turns first opened at ≡ run (entries_in j (widths_of c k) b first opened s at (length s)) behind_entries
  entries_walk zero first opened at l = none_walk first opened at l
  entries_walk (suc j) first opened at l = one_walk first opened at j l (λ op m h. entries_walk j 0 op m h)
