-- What was read is taken again from the records that list it, and shows the same. Assumes nothing.
use mathlib.Core.Path.{◌≡◌, refl, sym, subst, ap, ◌∙◌}
use mathlib.Core.Bool.{true, false}
use mathlib.Core.List.{List, [], ◌∷◌, ◌++◌}
use mathlib.Core.Logic.{◌⊎◌, inl, inr}
use mathlib.Core.Option.{Option}
use Prim.Native.Nat.{ℕ, zero, suc, ◌+◌, ◌-◌, ◌^◌, ◌≤◌, ◌<◌}
use native.Mathlib.Omega.{arith}
use borrow.Author.Tests.{le-ltb, eq-eqb, ne_eqb}
use lib.Dec.{eqb}
use lib.ListN.{length, get_or}
use Rattle.common.specs.Choose.{bind}
use Rattle.common.specs.Got.{got}
use Rattle.common.specs.declared.times.Bases.{Bases}
use Rattle.common.proofs.RoundTrip.{Reads, reads_got, reads_on, reads_at, reads_yes, reads_no, reads_to}
use Rattle.common.proofs.Stands.{Stands}
use Rattle.data_field.specs.Fields.{live}
use Rattle.data_field.specs.declared.fields.Deletion.{Deletion}
use Rattle.data_field.specs.declared.fields.Span.{Span}
use Rattle.data_cell.specs.declared.cells.Times.{Times}
use Rattle.data_cell.specs.declared.cells.Cell.{Cell}
use Rattle.data_field.proofs.Ranges.{DeletionIn}
use Rattle.data_cell.proofs.Gives.{TimesIn}
use Rattle.data_clustering.proofs.Gives.{ValuesIn}
use Rattle.data_turns.specs.Turns.{may_stand}
use Rattle.data_row.specs.declared.rows.Row.{Row}
use Rattle.data_row.proofs.Gives.{RestOk, RowOk}
use Rattle.data_marker.specs.declared.markers.Deletions.{Deletions}
use Rattle.data_marker.specs.declared.markers.Marker.{Marker}
use Rattle.data_partition.proofs.Gives.{partition_gives}
use Rattle.data_items.specs.Items.{partition_item, row_item, marker_item, end_item}
use Rattle.data_items.specs.declared.Item.{Item}
use Rattle.data_contents.specs.Contents.{Widths, Entry, static_entry, row_entry, marker_entry, Contents, open_behind, contents_at, values_listed, cells_listed, entry_listed, entries_listed, partition_listed, listed}
use Rattle.data_contents.proofs.Gives.{RowIn, EntryIn, EntriesIn, ContentsIn, AllIn, row_placed, entry_moves, contents_give}
use Rattle.list_call.specs.Records.{records_of}
use Rattle.write_form.specs.Views.{RowView, MarkerView, EntryView, static_view, row_view, marker_view, PartitionView, show_value, show_values, show_row, show_entry, show_entries, show_partition, show_contents}
use Rattle.write_form.specs.Fits.{Bounded, EntryFits, open_view, EntriesFit, PartitionFits, AllFit}
use Rattle.write_form.proofs.Fits.{contents_fit}
use Rattle.write_form.proofs.Whole.{open_shown}
use Rattle.write_accept.specs.Records.{kind_at}
use Rattle.write_accept.specs.Entries.{row_of, taken_static, taken_row, taken_marker, taken_entry, taken_end, taken_entries_in, taken_entries, baseless, taken_partition, taken_in, taken_at}
use Rattle.write_accept.proofs.Spelled.{kind_back, record_back}
use Rattle.write_accept.proofs.Heads.{Flagged, plain_sound, static_sound, row_times, row_deletion, marker_sound, marker_deletions, marker_column, end_sound, partition_sound, partition_deletion, partition_key}
use Rattle.write_accept.proofs.Flagging.{FlaggedEntry, FlaggedEntries, FlaggedAll, contents_flagged}
use Rattle.write_accept.proofs.Back.{Wide, stands_none, stands_first, stands_rest, stands_two, values_back, prefix_back, cells_back}

-- ---- the first byte of an entry's records
pub row_kind : (kind : ℕ) (r : Row) → (row_item kind r).kind ≡ kind
unfolding row_item bind
row_kind kind r = refl

pub marker_kind : (m : Marker) (n : ℕ) → (marker_item m n).kind ≡ 4
unfolding marker_item bind
marker_kind m n = refl

pub end_kind : (p : ℕ) → (end_item p).kind ≡ 7
unfolding end_item
end_kind p = refl

-- ---- equal views
pub row_view_lem : (x y : RowView) → x.times ≡ y.times → x.deletion ≡ y.deletion → x.cells ≡ y.cells → x ≡ y
row_view_lem x y e f g = rw3 x.times y.times e x.deletion y.deletion f x.cells y.cells g
  where
    rw3 : (a b : Times) → a ≡ b → (c d : Deletion) → c ≡ d → (u v : List _) → u ≡ v → ◌≡◌ {A = RowView} (record { times = a; deletion = c; cells = u }) (record { times = b; deletion = d; cells = v })
    rw3 a b e c d f u v g = rw (e, f, g) refl

pub marker_view_lem : (k l : ℕ) → k ≡ l → (u v : List (List ℕ)) → u ≡ v → (c d : Deletions) → c ≡ d
    → ◌≡◌ {A = MarkerView} (record { kind = k; values = u; deletions = c }) (record { kind = l; values = v; deletions = d })
marker_view_lem k l e u v f c d g = rw (e, f, g) refl

pub partition_view : (k l : List ℕ) → k ≡ l → (c d : Deletion) → c ≡ d → (u v : List EntryView) → u ≡ v
    → ◌≡◌ {A = PartitionView} (record { key = k; deletion = c; entries = u }) (record { key = l; deletion = d; entries = v })
partition_view k l e c d f u v g = rw (e, f, g) refl

pub pair : (x y : EntryView) → x ≡ y → (u v : List EntryView) → u ≡ v → ◌≡◌ {A = List EntryView} (x ∷ u) (y ∷ v)
pair x y e u v f = rw (e, f) refl

-- columns of all roles have a width
pub record AllWide (t : Widths) : Type 0 where
  pub clustering : Wide t.clustering
  pub statics : Wide t.statics
  pub regulars : Wide t.regulars

module _ (t : Widths) (few : Bounded t) (wide : AllWide t) (b : Bases) (d : List ℕ) (short : length d < 2 ^ 64) (s : List ℕ) (end : ℕ) where
  -- what was read of a row, of Data from place x up to y
  times_of_lem : (x y n : ℕ) (r : Row) → RowOk b t.clustering (length t.statics) (length t.regulars) d x y r n → TimesIn b r.body.times × DeletionIn b r.body.deletion
  times_of_lem x y n r g = of g.rest
    where
      of : ((r.extended ≡ 1) × RestOk b [] (length t.statics) d g.clustering y r n) ⊎ ((r.extended ≡ 0) × RestOk b t.clustering (length t.regulars) d g.clustering y r n)
          → TimesIn b r.body.times × DeletionIn b r.body.deletion
      of (inl z) = (z.1.body.times, z.1.body.deletion)
      of (inr z) = (z.1.body.times, z.1.body.deletion)

  -- no value or cell stands at n
  record Next (n : ℕ) : Type 0 where
    value : eqb (get_or s n 0) 5 ≡ false
    cell : eqb (get_or s n 0) 6 ≡ false

  module _ (x y m : ℕ) (r : Row) (cs : List (Option Cell)) (z : Flagged r) where
    module _ (ws : List ℕ) (g : RowIn t b d x y ws r cs m) where
      row_start : r.start < 2 ^ 64
      row_start = let p = row_placed _ _ _ _ _ _ _ r g.first g.row in omega (arith, g.row.start, p.past, p.within, p.stops, p.inside)

      row_stop : r.body.stop < 2 ^ 64
      row_stop = let p = row_placed _ _ _ _ _ _ _ r g.first g.row in omega (arith, p.stops, p.inside)

      row_shown : (kind extended : ℕ) → show_row d (row_of extended (row_item kind r)) cs ≡ show_row d r cs
      row_shown kind extended =
          let k = times_of_lem x y g.first r g.row in
          row_view_lem _ _ (row_times b r z k.0 k.1 kind) (row_deletion b r z k.0 k.1 kind) refl

    static_back : (first at n : ℕ) → may_stand first (length t.statics) ≡ true → RowIn t b d x y t.statics r cs m → Next n → Stands s end at n (records_of (entry_listed (static_entry r cs)))
        → Reads (taken_static t b d first s at end) n (λ e. show_entry d e ≡ show_entry d (static_entry r cs))
    unfolding taken_static
    static_back first at n may g next h =
        let k = times_of_lem x y g.first r g.row in
        reads_at _ (record_back b _ s end at (at + 64) (row_item 2 r) (static_sound b r z k.0 k.1 first (length t.statics) may (row_start _ g) (row_stop _ g)) (stands_first s end at n _ _ h))
        (reads_at _ (cells_back s end b d short r.body.times k.0 0 t.statics cs (at + 64) n (omega (arith, few.statics)) wide.statics g.cells next.cell (stands_rest s end at n _ _ h))
        (reads_got _ n (ap static_view (row_shown _ g 2 1))))

    row_back : (at n : ℕ) (vs : List Span) → ValuesIn d t.clustering vs → RowIn t b d x y t.regulars r cs m → Next n → Stands s end at n (records_of (entry_listed (row_entry r vs cs)))
        → Reads (taken_row t b d s at end) n (λ e. show_entry d e ≡ show_entry d (row_entry r vs cs))
    unfolding taken_row
    row_back at n vs v g next h =
        let k = times_of_lem x y g.first r g.row in
        let w = stands_two s end (at + 64) n (values_listed 0 vs) (cells_listed 0 cs) (stands_rest s end at n _ _ h) in
        reads_at _ (record_back b _ s end at (at + 64) (row_item 3 r) (plain_sound b r z k.0 k.1 (row_start _ g) (row_stop _ g)) (stands_first s end at n _ _ h))
        (reads_at _ (values_back s end b d short 0 t.clustering vs (at + 64) w.middle (omega (arith, few.clustering)) wide.clustering v w.first)
        (reads_at _ (cells_back s end b d short r.body.times k.0 0 t.regulars cs w.middle n (omega (arith, few.regulars)) wide.regulars g.cells next.cell w.second)
        (reads_got _ n (ap (row_view (show_values d vs)) (row_shown _ g 3 0)))))

  marker_back : (first : ℕ) (opened : Deletion) (x y at n : ℕ) (m : Marker) (q : ℕ) (vs : List Span) → EntryIn t b d opened x y (marker_entry m q vs) q → EntryFits b t first opened (show_entry d (marker_entry m q vs))
      → Next n → Stands s end at n (records_of (entry_listed (marker_entry m q vs))) → Reads (taken_marker t b d opened s at end) n (λ e. show_entry d e ≡ show_entry d (marker_entry m q vs))
  unfolding taken_marker
  marker_back first opened x y at n m q vs g f next h =
      let p = entry_moves t b d x y opened (marker_entry m q vs) q g in
      let u : m.start < 2 ^ 64 = omega (arith, g.2.start, p.past, p.within, p.inside) in
      let w : q < 2 ^ 64 = omega (arith, p.within, p.inside) in
      let o = g.2.rest.deletions in
      reads_at _ (record_back b _ s end at (at + 64) (marker_item m q) (marker_sound b opened m q f.kind o f.turn f.same u w) (stands_first s end at n _ _ h))
      (reads_at _ (prefix_back s end b d short 0 t.clustering m.count vs (at + 64) n (omega (arith, few.clustering)) wide.clustering g.1 next.value (stands_rest s end at n _ _ h))
      (reads_got _ n (ap marker_view (marker_view_lem _ _ (marker_column b opened m q f.kind o) _ _ refl _ _ (marker_deletions b opened m q f.kind o)))))

  -- ---- one entry
  abbrev entry_kind : Entry → ℕ
  entry_kind (static_entry r cs) = 2
  entry_kind (row_entry r vs cs) = 3
  entry_kind (marker_entry m q vs) = 4

  entry_byte : (e : Entry) (at n : ℕ) (l : List Item) → Stands s end at n (records_of (entry_listed e ++ l)) → get_or s at 0 ≡ entry_kind e
  entry_byte (static_entry r cs) at n l h = kind_back s end at (at + 64) _ (stands_first s end at n _ _ h) (omega (arith, row_kind 2 r)) ∙ row_kind 2 r
  entry_byte (row_entry r vs cs) at n l h = kind_back s end at (at + 64) _ (stands_first s end at n _ _ h) (omega (arith, row_kind 3 r)) ∙ row_kind 3 r
  entry_byte (marker_entry m q vs) at n l h = kind_back s end at (at + 64) _ (stands_first s end at n _ _ h) (omega (arith, marker_kind m q)) ∙ marker_kind m q

  end_byte : (p at n : ℕ) → Stands s end at n (records_of (end_item p ∷ [])) → get_or s at 0 ≡ 7
  end_byte p at n h = kind_back s end at (at + 64) _ (stands_first s end at n _ _ h) (omega (arith, end_kind p)) ∙ end_kind p

  next_of : (n k : ℕ) → get_or s n 0 ≡ k → eqb k 5 ≡ false → eqb k 6 ≡ false → Next n
  next_of n k e f g = record { value = rw e f; cell = rw e g }

  next_back : (es : List Entry) (p at n : ℕ) → Stands s end at n (records_of (entries_listed es p)) → Next at
  next_back [] p at n h = next_of at 7 (end_byte p at n h) refl refl
  next_back (static_entry r cs ∷ es) p at n h = next_of at 2 (entry_byte (static_entry r cs) at n _ h) refl refl
  next_back (row_entry r vs cs ∷ es) p at n h = next_of at 3 (entry_byte (row_entry r vs cs) at n _ h) refl refl
  next_back (marker_entry m q vs ∷ es) p at n h = next_of at 4 (entry_byte (marker_entry m q vs) at n _ h) refl refl

  entry_back : (first : ℕ) (opened : Deletion) (x y m at n : ℕ) (e : Entry) → EntryIn t b d opened x y e m → EntryFits b t first opened (show_entry d e) → FlaggedEntry e → Next n
      → Stands s end at n (records_of (entry_listed e)) → Reads (taken_entry t b d first opened (entry_kind e) s at end) n (λ u. show_entry d u ≡ show_entry d e)
  unfolding taken_entry
  entry_back first opened x y m at n (static_entry r cs) g f z next h = reads_yes _ _ refl (static_back x y m r cs z first at n f.0 g.1 next h)
  entry_back first opened x y m at n (row_entry r vs cs) g f z next h = reads_no _ _ refl (reads_yes _ _ refl (row_back x y m r cs z at n vs g.1 g.2 next h))
  entry_back first opened x y m at n (marker_entry k q vs) g f z next h =
      reads_no _ _ refl (reads_no _ _ refl (reads_yes _ _ refl
      (marker_back first opened x y at n k q vs (subst (EntryIn t b d opened x y (marker_entry k q vs)) g.0 g) f next h)))

  entry_not_end : (e : Entry) → eqb (entry_kind e) 7 ≡ false
  entry_not_end (static_entry r cs) = refl
  entry_not_end (row_entry r vs cs) = refl
  entry_not_end (marker_entry m q vs) = refl

  entry_record : (e : Entry) (at n : ℕ) → Stands s end at n (records_of (entry_listed e)) → at + 64 ≤ n
  entry_record (static_entry r cs) at n h = let k = stands_rest s end at n _ _ h in omega (arith, k.stop)
  entry_record (row_entry r vs cs) at n h = let k = stands_rest s end at n _ _ h in omega (arith, k.stop)
  entry_record (marker_entry m q vs) at n h = let k = stands_rest s end at n _ _ h in omega (arith, k.stop)

  kind_reads : (at k : ℕ) → at + 64 ≤ end → get_or s at 0 ≡ k → Reads (kind_at s at end) at (λ z. z ≡ k)
  unfolding kind_at
  kind_reads at k l e = reads_no _ _ (le-ltb (end - at) 64 (omega arith)) (reads_got (get_or s at 0) at e)

  open_same : (opened : Deletion) (u e : Entry) → show_entry d u ≡ show_entry d e → open_behind opened u ≡ open_behind opened e
  open_same opened u e f = open_shown d opened u ∙ ap (open_view opened) f ∙ sym (open_shown d opened e)

  entries_back : (j first : ℕ) (opened : Deletion) (x y at n p : ℕ) (es : List Entry) → EntriesIn t b d y opened x es p → EntriesFit b t first opened (show_entries d es) → FlaggedEntries es → p < 2 ^ 64 → n - at ≤ j
      → Stands s end at n (records_of (entries_listed es p)) → Reads (taken_entries_in j t b d first opened s at end) n (λ us. show_entries d us ≡ show_entries d es)
  unfolding taken_entries_in taken_end
  entries_back zero first opened x y at n p [] g f z q l h = let k = stands_rest s end at n _ _ h in absurd (omega (arith, k.stop))
  entries_back zero first opened x y at n p (e ∷ es) g f z q l h =
      let w = stands_two s end at n (entry_listed e) (entries_listed es p) h in
      absurd (omega (arith, entry_record e at w.middle w.first, w.second.stop))
  entries_back (suc j) first opened x y at n p [] g f z q l h =
      let k = stands_rest s end at n _ _ h in
      reads_at _ (kind_reads at 7 (omega (arith, k.stop, k.within)) (end_byte p at n h))
      (reads_yes _ _ refl
      (reads_at _ (record_back b _ s end at (at + 64) (end_item p) (end_sound b opened p f q) (stands_first s end at n _ _ h))
      (reads_to (stands_none s end (at + 64) n k) (reads_got [] (at + 64) refl))))
  entries_back (suc j) first opened x y at n p (e ∷ es) g f z q l h =
      let w = stands_two s end at n (entry_listed e) (entries_listed es p) h in
      let k = entry_record e at w.middle w.first in
      let next = next_back es p w.middle n w.second in
      reads_at _ (kind_reads at (entry_kind e) (omega (arith, w.second.stop, w.second.within)) (entry_byte e at n _ h))
      (reads_no _ _ (entry_not_end e)
      (reads_on _ (entry_back first opened x y g.0 at w.middle e g.1.0 f.0 z.0 next w.first) (λ u same.
      reads_on _
      (subst (λ o. Reads (taken_entries_in j t b d 0 o s w.middle end) n (λ us. show_entries d us ≡ show_entries d es)) (sym (open_same opened u e same))
      (entries_back j 0 (open_behind opened e) g.0 y w.middle n p es g.1.1 (subst (λ o. EntriesFit b t 0 o (show_entries d es)) (sym (open_shown d opened e)) f.1) z.1 q (omega arith) w.second))
      (λ us equal. reads_got _ n (pair _ _ same _ _ equal)))))

  -- ---- partitions
  module _ (octets : (k : ℕ) → get_or d k 0 < 256) where
    partition_back : (x y m at n : ℕ) (p : Contents) → y ≤ length d → ContentsIn t b d x y p m → PartitionFits b t (show_partition d p) → FlaggedEntries p.entries → Stands s end at n (records_of (partition_listed p))
        → Reads (taken_partition t b d s at end) n (λ u. show_partition d u ≡ show_partition d p)
    unfolding taken_partition taken_entries
    partition_back x y m at n p l g f z h =
        let o = (partition_gives d octets y x).given p.header g.first g.header in
        let k = stands_rest s end at n _ _ h in
        reads_at _ (record_back baseless _ s end at (at + 64) (partition_item p.header) (partition_sound d short p.header o.lies o.short o.empty o.deletion) (stands_first s end at n _ _ h))
        (reads_on _ (entries_back (end - (at + 64)) 1 live g.first y (at + 64) n p.end p.entries g.entries f.entries z (omega (arith, g.ended.within)) (omega (arith, k.within)) k) (λ us equal.
        reads_got _ n (partition_view _ _ (ap (show_value d) (partition_key d short p.header o.lies o.short o.empty o.deletion)) _ _ (partition_deletion d short p.header o.lies o.short o.empty o.deletion) _ _ equal)))

    partition_records : (p : Contents) (at n : ℕ) → Stands s end at n (records_of (partition_listed p)) → at + 64 ≤ n
    partition_records p at n h = let k = stands_rest s end at n _ _ h in omega (arith, k.stop)

    all_back : (j x y at : ℕ) (ps : List Contents) → y ≤ length d → AllIn t b d y x ps → AllFit b t (show_contents d ps) → FlaggedAll ps → end - at ≤ j → Stands s end at end (records_of (listed ps))
        → Reads (taken_in j t b d s at end) end (λ us. show_contents d us ≡ show_contents d ps)
    unfolding taken_in
    all_back zero x y at [] l g f z q h = reads_to (stands_none s end at end h) (reads_got [] at refl)
    all_back zero x y at (p ∷ ps) l g f z q h =
        let w = stands_two s end at end (partition_listed p) (listed ps) h in
        absurd (omega (arith, partition_records p at w.middle w.first, w.second.stop))
    all_back (suc j) x y at [] l g f z q h =
        let e = stands_none s end at end h in
        reads_yes _ _ (eq-eqb at end e) (reads_to e (reads_got [] at refl))
    all_back (suc j) x y at (p ∷ ps) l g f z q h =
        let w = stands_two s end at end (partition_listed p) (listed ps) h in
        let k = partition_records p at w.middle w.first in
        reads_no _ _ (ne_eqb at end (λ e. omega (arith, w.second.stop)))
        (reads_on _ (partition_back x y g.0 at w.middle p l g.1.0 f.0 z.0 w.first) (λ u same.
        reads_on _ (all_back j g.0 y w.middle ps l g.1.1 f.1 z.1 (omega arith) w.second) (λ us equal.
        reads_got _ end (both _ _ same _ _ equal))))
      where
        both : (a c : PartitionView) → a ≡ c → (u v : List PartitionView) → u ≡ v → ◌≡◌ {A = List PartitionView} (a ∷ u) (c ∷ v)
        both a c e u v f = rw (e, f) refl

-- ---- all of Data
itself : (s : List ℕ) → Stands s (length s) 0 (length s) s
itself s = record { stop = omega arith; within = omega arith; inside = omega arith; bytes = λ i l. ap (λ k. get_or s k 0) (omega arith) }

-- what was read of Data is taken again from the records that list it, the values lying in Data, and shows the same
pub records_back : (t : Widths) → Bounded t → AllWide t → (b : Bases) (d : List ℕ) → length d < 2 ^ 64 → ((k : ℕ) → get_or d k 0 < 256) → (ps : List Contents) (n : ℕ)
    → contents_at t b d 0 (length d) ≡ got ps n
    → Reads (taken_at t b d (records_of (listed ps)) 0 (length (records_of (listed ps)))) (length (records_of (listed ps))) (λ qs. show_contents d qs ≡ show_contents d ps)
unfolding taken_at
records_back t few wide b d short octets ps n e =
    let s = records_of (listed ps) in
    all_back t few wide b d short s (length s) octets (length s - 0) 0 (length d) 0 ps (omega arith)
    ((contents_give t b d 0 (length d) (omega arith)).given ps n e).0
    ((contents_fit d short t b octets 0 (length d)).given ps n e)
    ((contents_flagged t b d 0 (length d)).given ps n e)
    (omega arith)
    (itself s)
