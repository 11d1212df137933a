-- Walking by steps lists exactly what is read of Data as a whole, refusals too. Assumes nothing.
use mathlib.Core.Path.{◌≡◌, refl, sym, ap, ◌∙◌}
use mathlib.Core.Bool.{Bool, true, false}
use mathlib.Core.List.{List, [], ◌∷◌}
use Prim.Native.Nat.{ℕ, zero, suc, ◌+◌, ◌-◌, ◌≤◌, ◌<◌}
use native.Mathlib.Omega.{arith}
use borrow.Author.Tests.{le-ltb, eqb-true, eq-eqb}
use lib.Dec.{eqb}
use lib.ListN.{length}
use Rattle.common.specs.Choose.{pick, bind}
use Rattle.common.specs.Got.{Got, got, bad, on}
use Rattle.common.specs.Refusals.{taken}
use Rattle.common.proofs.Choose.{pick_yes, pick_no}
use Rattle.common.specs.declared.times.Bases.{Bases}
use Rattle.data_field.specs.Fields.{live}
use Rattle.data_partition.specs.Partitions.{partition_at}
use Rattle.data_partition.specs.declared.partitions.Partition.{Partition as Header}
use Rattle.schema_check.specs.declared.records.Counts.{Counts}
use Rattle.data_items.specs.Items.{partition_item}
use Rattle.data_walk.specs.Cursors.{at_items}
use Rattle.data_walk.specs.Steps.{step_in, handed, partition_step, partition_answer}
use Rattle.data_walk.specs.Walks.{start, add, follow, walk_from}
use Rattle.data_walk.specs.declared.cursors.Phase.TheVariants.{Partition, First}
use Rattle.data_walk.specs.declared.cursors.Cursor.{Cursor}
use Rattle.call_check.specs.Tables.{Table}
use Rattle.data_walk.proofs.Moves.{walk_unfolds}
use Rattle.data_contents.specs.Contents.{Widths, widths_of, Entry, Contents, entries_in, entries_at, whole_at, partitions_in, contents_at, entries_listed, listed, listing, contents_of}
use Rattle.data_contents.proofs.Follows.{Walked, adds, run, add_adds, run_got, run_same, adds_run, add_run, run_on, run_handed}
use Rattle.data_contents.proofs.Gives.{entries_give, partition_moves}
use Rattle.data_contents.proofs.Rows.{first_turn}
use Rattle.data_contents.proofs.Entries.{behind_entries, entries_walk}

listing_run : (x : Got (List Contents)) → listing x ≡ run x (λ ps n. taken (listed ps))
unfolding listing run
listing_run (got ps n) = refl
listing_run (bad f p) = refl

-- any walk that goes on by steps lists what is read
module _ (c s : List ℕ) (k : Counts) (b : Bases) (w : Cursor → Walked) (turns : (x : Cursor) → w x ≡ follow (step_in x.phase c k b s x) w) (table : Table (length c) k) where
  abbrev all : List Contents → ℕ → Walked
  all ps n = taken (listed ps)

  abbrev widths : Widths
  widths = widths_of c k

  module _ (at : ℕ) where
    end_walk : at ≡ length s → w (at_items at Partition live) ≡ taken []
    unfolding at_items bind step_in partition_answer pick follow
    end_walk e = turns (at_items at Partition live) ∙ rw (le-ltb (length s) at (omega arith), eq-eqb at (length s) e)

    header_turn : at ≤ length s → eqb at (length s) ≡ false → w (at_items at Partition live) ≡ follow (handed (partition_step s at)) w
    unfolding at_items bind step_in partition_answer pick
    header_turn l e = turns (at_items at Partition live) ∙ rw (le-ltb (length s) at l, e)

    -- a partition's header
    header_walk : at ≤ length s → eqb at (length s) ≡ false → w (at_items at Partition live) ≡ run (partition_at s at (length s)) (λ h n. add (partition_item h) (w (at_items n First live)))
    unfolding partition_step bind run
    header_walk l e = header_turn l e ∙ run_handed (partition_step s at) w ∙ run_on (partition_at s at (length s)) _ _

    module _ (j : ℕ) (l : at ≤ length s) (left : length s - at ≤ suc j) (ih : (m : ℕ) → length s - m ≤ j → m ≤ length s → w (at_items m Partition live) ≡ run (partitions_in j widths b s m (length s)) all) where
      -- a partition and those behind it
      abbrev more : Contents → ℕ → Got (List Contents)
      more x n = on (partitions_in j widths b s n (length s)) (λ ps m. got (x ∷ ps) m)

      module _ (h : Header) (n : ℕ) where
        abbrev whole : List Entry → ℕ → Contents
        whole es p = record { header = h; entries = es; end = p }

        rest_walk : (es : List Entry) (p : ℕ) → at ≤ p → p < length s → add (partition_item h) (behind_entries c s k b w turns table es p) ≡ run (more (whole es p) (p + 1)) all
        unfolding run adds
        rest_walk es p f g =
            add_adds (partition_item h) (entries_listed es p) (w (at_items (p + 1) Partition live))
            ∙ ap (adds (partition_item h ∷ entries_listed es p)) (ih (p + 1) (omega arith) (omega arith))
            ∙ adds_run (partition_item h ∷ entries_listed es p) (partitions_in j widths b s (p + 1) (length s)) _
            ∙ sym (run_on (partitions_in j widths b s (p + 1) (length s)) _ _)

        entries_then : partition_at s at (length s) ≡ got h n
            → add (partition_item h) (w (at_items n First live)) ≡ run (on (entries_at widths b 1 live s n (length s)) (λ es p. got (whole es p) (p + 1))) (λ x m. run (more x m) all)
        unfolding entries_at run
        entries_then d =
            let g = ((partition_moves s (length s) at).given h n d).0 in
            ap (add (partition_item h)) (first_turn c s k b w turns live n g.within ∙ entries_walk c s k b w turns table (length s - n) 1 live n (omega arith))
            ∙ add_run (partition_item h) (entries_in (length s - n) widths b 1 live s n (length s)) _
            ∙ run_same (entries_in (length s - n) widths b 1 live s n (length s)) _ _ (λ es p e.
            let z = ((entries_give (length s - n) widths b 1 live s n (length s)).given es p e).1 in
            rest_walk es p (omega (arith, g.past, z.on)) z.within)
            ∙ sym (run_on (entries_in (length s - n) widths b 1 live s n (length s)) _ _)

      whole_walk : eqb at (length s) ≡ false → w (at_items at Partition live) ≡ run (on (whole_at widths b s at (length s)) more) all
      unfolding whole_at
      whole_walk e =
          header_walk l e
          ∙ run_same (partition_at s at (length s)) _ _ entries_then
          ∙ sym (run_on (whole_at widths b s at (length s)) more all ∙ run_on (partition_at s at (length s)) _ _)

      one_walk : w (at_items at Partition live) ≡ run (partitions_in (suc j) widths b s at (length s)) all
      unfolding partitions_in
      one_walk = go (eqb at (length s)) refl
        where
          go : (t : Bool) → eqb at (length s) ≡ t → w (at_items at Partition live) ≡ run (pick (eqb at (length s)) (got [] at) (on (whole_at widths b s at (length s)) more)) all
          go true e = end_walk (eqb-true at (length s) e) ∙ sym (run_got _ [] at all refl) ∙ ap (λ x. run x all) (pick_yes _ _ _ _ e refl)
          go false e = whole_walk e ∙ ap (λ x. run x all) (pick_no _ _ _ _ e refl)

  -- from a partition on
  partitions_walk : (j at : ℕ) → length s - at ≤ j → at ≤ length s → w (at_items at Partition live) ≡ run (partitions_in j widths b s at (length s)) all
  unfolding partitions_in run
  partitions_walk zero at l h = end_walk at (omega arith)
  partitions_walk (suc j) at l h = one_walk at j h l (λ m f g. partitions_walk j m f g)

  pub steps_list : w start ≡ contents_of c k b s
  unfolding start contents_of contents_at
  steps_list = partitions_walk (length s - 0) 0 (omega arith) (omega arith) ∙ sym (listing_run _)

-- the walk from the start of Data
pub walk_lists : (c : List ℕ) (k : Counts) (b : Bases) (s : List ℕ) → Table (length c) k → walk_from c k b s start ≡ contents_of c k b s
walk_lists c k b s t = steps_list c s k b (walk_from c k b s) (walk_unfolds c k b s t) t
