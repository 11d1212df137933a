-- The partitions of Data stored one by one. Assumes nothing.
use Rattle.common.specs.declared.reading.Bad.{Bad}
use Rattle.std.proofs.Common.{Err, Ok}
use mathlib.Core.Path.{◌≡◌, refl, sym, ap, ◌∙◌}
use mathlib.Core.List.{List, [], ◌∷◌, ◌++◌, append_assoc}
use Prim.Native.Nat.{ℕ, ◌+◌, ◌-◌, ◌≤◌, ◌<◌}
use native.Mathlib.Omega.{arith}
use borrow.Author.Tests.{eq-eqb, ne_eqb}
use lib.ListN.{length}
use Rattle.common.specs.Got.{Got, got, on, Reading, said}
use Rattle.common.specs.Store.{splice, Room, Puts}
use Rattle.common.specs.declared.times.Bases.{Bases}
use Rattle.common.proofs.Choose.{pick_yes, pick_no}
use Rattle.data_field.specs.Fields.{live}
use Rattle.data_partition.specs.Partitions.{partition_at}
use Rattle.data_partition.specs.declared.partitions.Partition.{Partition}
use Rattle.schema_check.specs.declared.records.Counts.{Counts}
use Rattle.data_items.specs.Items.{partition_item}
use Rattle.data_items.specs.declared.Item.{Item}
use Rattle.data_contents.specs.Contents.{widths_of, Entry, Contents, entries_at, whole_at, contents_at, entries_listed, partition_listed, listed}
use Rattle.data_contents.proofs.Follows.{Parted, parted}
use Rattle.data_contents.proofs.Gives.{ContentsIn, whole_gives}
use Rattle.data_contents.proofs.Unfolds.{contents_unfold}
use Rattle.list_count.proofs.Follows.{on_got, on_bad}
use Rattle.list_call.specs.Records.{record_of, records_of}
use Rattle.list_call.specs.Parts.{entries_of, contents_items, Fitting, PutsEntries}
use Rattle.list_call.specs.declared.fills.Behind.{Behind}
use Rattle.common.proofs.Gives.{never, got_value, got_place}
use Rattle.list_call.proofs.PutRows.{records_both}
use Rattle.list_call.proofs.PutEntries.{entries_of_lem}
use Rattle.list_call.proofs.Writing.{Writing, writing_none, writing_same, writing_end, writing_room, writing_more}
use Rattle.common.proofs.Said.{said_got}

contents_of_lem : (x : Got (List Contents)) (ps : List Contents) (n : ℕ) → x ≡ got ps n → contents_items x ≡ listed ps
unfolding contents_items
contents_of_lem x ps n d = rw d refl

-- the partitions from p on, and their records; x is what all of them are
pub record Filing (x : Got (List Contents)) (c : List ℕ) (k : Counts) (b : Bases) (s d₀ d : List ℕ) (p out : ℕ) : Type 0 where
  pub within : p ≤ length s
  pub parts : List Contents
  pub end : ℕ
  pub is : contents_at (widths_of c k) b s p (length s) ≡ got parts end
  pub writing : Writing (records_of (contents_items x)) d₀ d 0 out (records_of (listed parts))

module _ (c : List ℕ) (k : Counts) (b : Bases) (s d : List ℕ) where
  pub filing_none : Fitting (contents_at (widths_of c k) b s 0 (length s)) (contents_items (contents_at (widths_of c k) b s 0 (length s))) d 0
      → Filing (contents_at (widths_of c k) b s 0 (length s)) c k b s d d 0 0
  filing_none f =
      let e = contents_of_lem (contents_at (widths_of c k) b s 0 (length s)) f.value f.place f.is in
      record {
        within = omega arith;
        parts = f.value;
        end = f.place;
        is = f.is;
        writing = rw e (writing_none (records_of (listed f.value)) d 0 (rw e at f.room));
      }

module _ (x : Got (List Contents)) (c : List ℕ) (k : Counts) (b : Bases) (s d₀ d : List ℕ) (p out : ℕ) (i : Filing x c k b s d₀ d p out) where
  pub filing_same : length d ≡ length d₀
  filing_same = writing_same _ d₀ d 0 out _ i.writing

  pub filing_end : p ≡ length s → d ≡ splice d₀ 0 (records_of (contents_items x))
  unfolding records_of
  filing_end e =
      let g : [] ≡ i.parts = got_value (sym (contents_unfold (widths_of c k) b s (length s) p i.within ∙ sym (pick_yes _ _ _ _ (eq-eqb p (length s) e) refl)) ∙ i.is) in
      (writing_end _ d₀ d 0 out _ i.writing (ap (λ (y : List Contents). records_of (listed y)) (sym g))).stores

  module _ (h : p ≡ length s → ⊥) where
    abbrev More : Contents → ℕ → Got (List Contents)
    More y m = on (contents_at (widths_of c k) b s m (length s)) (λ ps q. got (y ∷ ps) q)

    one : Parted (whole_at (widths_of c k) b s p (length s)) More i.parts i.end
    one = parted _ More i.parts i.end (sym (contents_unfold (widths_of c k) b s (length s) p i.within ∙ sym (pick_no _ _ _ _ (ne_eqb p (length s) h) refl)) ∙ i.is)

    rest : Parted (contents_at (widths_of c k) b s one.place (length s)) (λ ps q. got (one.value ∷ ps) q) i.parts i.end
    rest = parted _ _ i.parts i.end one.rest

    placed : ContentsIn (widths_of c k) b s p (length s) one.value one.place
    placed = (whole_gives (widths_of c k) b s p (length s)).given one.value one.place one.is

    module _ (r : Reading Partition) (told : said r ≡ partition_at s p (length s)) where
      pub filing_never : (err : Bad) → r ≡ Err err → d ≡ splice d₀ 0 (records_of (contents_items x))
      unfolding whole_at said
      filing_never err w = never (sym (on_bad _ err.fault err.place _ (sym told ∙ rw w refl)) ∙ one.is)

      module _ (t : Partition) (m : ℕ) (w : r ≡ Ok (t, m)) where
        abbrev Whole : List Entry → ℕ → Contents
        Whole es e = record { header = t; entries = es; end = e }

        whole_as : whole_at (widths_of c k) b s p (length s) ≡ on (entries_at (widths_of c k) b 1 live s m (length s)) (λ es e. got (Whole es e) (e + 1))
        unfolding whole_at
        whole_as = on_got _ t m _ (said_got r _ t m told w)

        inner : Parted (entries_at (widths_of c k) b 1 live s m (length s)) (λ es e. got (Whole es e) (e + 1)) one.value one.place
        inner = parted _ _ one.value one.place (sym whole_as ∙ one.is)

        entries_are : entries_of (entries_at (widths_of c k) b 1 live s m (length s)) ≡ entries_listed inner.value inner.place
        entries_are = entries_of_lem _ inner.value inner.place inner.is

        module _ (it : Item) (g : it ≡ partition_item t) where
          records : records_of (listed i.parts) ≡ record_of it ++ (records_of (entries_listed inner.value inner.place) ++ records_of (listed rest.value))
          unfolding records_of
          records =
              ap (λ (y : List Contents). records_of (listed y)) (sym (got_value rest.rest))
              ∙ ap (λ (y : Contents). records_of (partition_listed y ++ listed rest.value)) (sym (got_value inner.rest))
              ∙ records_both (partition_listed (Whole inner.value inner.place)) (listed rest.value)
              ∙ ap (λ (y : Item). record_of y ++ records_of (entries_listed inner.value inner.place) ++ records_of (listed rest.value)) (sym g)
              ∙ append_assoc (record_of it) (records_of (entries_listed inner.value inner.place)) (records_of (listed rest.value))

          pub filing_room : Room d out (record_of it)
          filing_room = writing_room _ d₀ d 0 out _ i.writing (record_of it) _ records

          module _ (d₁ : List ℕ) (o : ℕ) (u : Puts d d₁ out (record_of it) o) where
            first : Writing (records_of (contents_items x)) d₀ d₁ 0 o (records_of (entries_listed inner.value inner.place) ++ records_of (listed rest.value))
            first = writing_more _ d₀ d 0 out _ i.writing (record_of it) _ records d₁ o u

            pub filing_entries : Fitting (entries_at (widths_of c k) b 1 live s m (length s)) (entries_of (entries_at (widths_of c k) b 1 live s m (length s))) d₁ o
            filing_entries = record { value = inner.value; place = inner.place; is = inner.is; room = rw entries_are (writing_room _ d₀ d₁ 0 o _ first (records_of (entries_listed inner.value inner.place)) (records_of (listed rest.value)) refl) }

            module _ (d₂ : List ℕ) (z : Behind) (v : PutsEntries (entries_at (widths_of c k) b 1 live s m (length s)) d₁ d₂ o z) where
              ended : z.next ≡ inner.place + 1
              ended = v.next inner.value inner.place inner.is

              pub filing_less : (y : ℕ) → y ≡ z.next → length s - y < length s - p
              filing_less y e = omega (arith, e, ended, got_place inner.rest, placed.next, placed.ended.on, placed.ended.within)

              pub filing_more : (y q : ℕ) → y ≡ z.next → q ≡ z.out → Filing x c k b s d₀ d₂ y q
              filing_more y q e f =
                  let n : y ≡ one.place = e ∙ ended ∙ got_place inner.rest in
                  record {
                    within = omega (arith, n, placed.next, placed.ended.within);
                    parts = rest.value;
                    end = i.end;
                    is = rw n (rest.is ∙ ap (got rest.value) (got_place rest.rest));
                    writing = writing_more _ d₀ d₁ 0 o _ first (records_of (entries_listed inner.value inner.place)) (records_of (listed rest.value)) refl d₂ q (rw (f, ← entries_are) v.puts);
                  }

pub ruleset filing = (filing_none, filing_same, filing_end, filing_never, filing_room, filing_entries, filing_less, filing_more, refl)
