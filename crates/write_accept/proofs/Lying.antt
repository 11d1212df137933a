-- Keys and values of what is read, and of what is taken, lie in their bytes; rows' flags tell their times and deletions. Assumes nothing.
use mathlib.Core.Path.{◌≡◌, ap, ◌∙◌}
use mathlib.Core.Bool.{true, false}
use mathlib.Core.List.{List, [], ◌∷◌}
use mathlib.Core.Option.{Option, none, some}
use Prim.Native.Nat.{ℕ, zero, suc, ◌+◌, ◌-◌, ◌*◌, ◌/◌, ◌%◌}
use native.Mathlib.Omega.{arith}
use borrow.Author.Tests.{eqb-true, eqb-false}
use lib.Dec.{ltb, eqb}
use lib.ListN.{length, get_or, take}
use Rattle.common.specs.Got.{Got, got}
use Rattle.common.specs.declared.times.Bases.{Bases}
use Rattle.common.proofs.Choose.{pick_ind}
use Rattle.common.proofs.Gives.{Gives, gives_got, gives_bad, gives_on, gives_pick}
use Rattle.data_field.specs.Fields.{live}
use Rattle.data_field.specs.declared.fields.Deletion.{Deletion}
use Rattle.data_field.specs.declared.fields.Span.{Span}
use Rattle.data_cell.specs.declared.cells.Times.{Times}
use Rattle.data_cell.specs.declared.cells.Cell.{Cell}
use Rattle.data_clustering.proofs.Gives.{ValuesIn}
use Rattle.data_items.specs.declared.Item.{Item}
use Rattle.data_contents.specs.Contents.{Widths, Entry, static_entry, row_entry, marker_entry, Contents, open_behind, contents_at}
use Rattle.data_contents.proofs.Gives.{CellsIn, EntryIn, EntriesIn, AllIn, partition_moves, contents_give}
use Rattle.write_accept.specs.Fields.{has_time, has_expiry, has_local}
use Rattle.write_accept.specs.Records.{kind_at}
use Rattle.write_accept.specs.Tests.{unlike, bad_place, bad_nowhere, bad_key, bad_value, bad_partition_flags, bad_value_flags, bad_cell_flags, bad_partition, bad_row, bad_static, bad_marker, bad_clustering, bad_cell_place, bad_cell}
use Rattle.write_accept.specs.Entries.{value_of, deletion_of, times_of, cell_of, row_of, taken_values, taken_prefix, is_cell, taken_cells, taken_static, taken_row, taken_marker, taken_entry, taken_end, taken_entries_in, taken_entries, baseless, taken_partition, taken_in, taken_at}
use Rattle.write_accept.proofs.Goods.{not_first, not_second, not_else, not_then, yes_or_no, record_gives, place_short, nowhere_offset, nowhere_length}
use Rattle.write_accept.proofs.Fitting.{static_row}
use Rattle.write_accept.proofs.Heads.{Flagged}
use Rattle.write_accept.proofs.Flagging.{FlaggedEntry, FlaggedEntries, FlaggedAll, contents_flagged}
use Rattle.write_accept.proofs.Items.{not_used, row_legal}
use Rattle.write_accept.proofs.Shows.{Lies, ValuesLie, CellsLie, EntryLies, EntriesLie, AllLie}

any : {A : Type 0} (x : Got A) → Gives x (λ a n. Unit)
any x = record { given = λ a n e. tt }

-- ---- what is read
module _ (s : List ℕ) where
  values_lie : (ws : List ℕ) (vs : List Span) → ValuesIn s ws vs → ValuesLie s vs
  values_lie ws [] h = tt
  values_lie [] (v ∷ vs) h = absurd (omega arith)
  values_lie (w ∷ ws) (v ∷ vs) h = (h.0.lies, values_lie ws vs h.1)

  cells_lie : (b : Bases) (row : Times) (ws : List ℕ) (cs : List (Option Cell)) → CellsIn s b row ws cs → CellsLie s cs
  cells_lie b row ws [] h = tt
  cells_lie b row [] (x ∷ cs) h = absurd (omega arith)
  cells_lie b row (w ∷ ws) (none ∷ cs) h = cells_lie b row ws cs h
  cells_lie b row (w ∷ ws) (some c ∷ cs) h = (h.0.value.lies, cells_lie b row ws cs h.1)

  module _ (t : Widths) (b : Bases) (end : ℕ) where
    entry_lies : (opened : Deletion) (at : ℕ) (e : Entry) (n : ℕ) → EntryIn t b s opened at end e n → FlaggedEntry e → EntryLies s e
    entry_lies opened at (static_entry r cs) n g z = (z, cells_lie b r.body.times t.statics cs g.1.cells)
    entry_lies opened at (row_entry r vs cs) n g z = (z, (values_lie t.clustering vs g.1, cells_lie b r.body.times t.regulars cs g.2.cells))
    entry_lies opened at (marker_entry m q vs) n g z = values_lie (take m.count t.clustering) vs g.1

    entries_lie : (opened : Deletion) (at : ℕ) (es : List Entry) (p : ℕ) → EntriesIn t b s end opened at es p → FlaggedEntries es → EntriesLie s es
    entries_lie opened at [] p g z = tt
    entries_lie opened at (e ∷ es) p g z = (entry_lies opened at e g.0 g.1.0 z.0, entries_lie (open_behind opened e) g.0 es p g.1.1 z.1)

    all_lie : (at : ℕ) (ps : List Contents) → AllIn t b s end at ps → FlaggedAll ps → AllLie s ps
    all_lie at [] g z = tt
    all_lie at (p ∷ ps) g z =
        let h = g.1.0 in
        ((((partition_moves s end at).given p.header h.first h.header).1, entries_lie live h.first p.entries p.end h.entries z.0), all_lie g.0 ps g.1.1 z.1)

pub read_lies : (t : Widths) (b : Bases) (s : List ℕ) (ps : List Contents) (n : ℕ) → contents_at t b s 0 (length s) ≡ got ps n → AllLie s ps
read_lies t b s ps n e =
    all_lie s t b (length s) 0 ps ((contents_give t b s 0 (length s) (omega arith)).given ps n e).0 ((contents_flagged t b s 0 (length s)).given ps n e)

-- ---- what is taken
-- a row's flags
quarters : (f : ℕ) → 4 * f / 4 ≡ f
quarters f = omega arith

eighths : (f : ℕ) → 4 * f / 8 ≡ f / 2
eighths f = omega arith

sixteenths : (f : ℕ) → 4 * f / 16 ≡ f / 4
sixteenths f = omega arith

bit_one : (x : ℕ) → eqb (x % 2) 1 ≡ true → x % 2 ≡ 1
bit_one x e = eqb-true (x % 2) 1 e

bit_none : (x : ℕ) → eqb (x % 2) 1 ≡ false → x % 2 ≡ 0
bit_none x e = let z = eqb-false (x % 2) 1 e in omega arith

module _ (i : Item) (legal : has_time i ≡ false → has_expiry i ≡ false) where
  timed_bit : i.flags % 2 ≡ (times_of i).timed
  unfolding times_of has_time
  timed_bit =
      pick_ind (λ (x : Times). i.flags % 2 ≡ x.timed) _ _ (eqb (i.flags % 2) 1)
      (λ e. pick_ind (λ (x : Times). i.flags % 2 ≡ x.timed) _ _ (has_expiry i) (λ f. bit_one i.flags e) (λ f. bit_one i.flags e))
      (λ e. bit_none i.flags e)

  expires_bit : i.flags / 2 % 2 ≡ (times_of i).expires
  unfolding times_of has_expiry
  expires_bit =
      pick_ind (λ (x : Times). i.flags / 2 % 2 ≡ x.expires) _ _ (has_time i)
      (λ e. pick_ind (λ (x : Times). i.flags / 2 % 2 ≡ x.expires) _ _ (eqb (i.flags / 2 % 2) 1) (λ f. bit_one (i.flags / 2) f) (λ f. bit_none (i.flags / 2) f))
      (λ e. bit_none (i.flags / 2) (legal e))

  deleted_bit : i.flags / 4 % 2 ≡ (deletion_of i).deleted
  unfolding deletion_of has_local
  deleted_bit = pick_ind (λ (x : Deletion). i.flags / 4 % 2 ≡ x.deleted) _ _ (eqb (i.flags / 4 % 2) 1) (λ e. bit_one (i.flags / 4) e) (λ e. bit_none (i.flags / 4) e)

  row_flagged : (x : ℕ) → Flagged (row_of x i)
  row_flagged x = record {
    timed = ap (λ z. z % 2) (quarters i.flags) ∙ timed_bit;
    expires = ap (λ z. z % 2) (eighths i.flags) ∙ expires_bit;
    deleted = ap (λ z. z % 2) (sixteenths i.flags) ∙ deleted_bit;
  }

module _ (bytes : List ℕ) where
  nowhere_lies : (i : Item) → bad_nowhere i ≡ false → Lies bytes (value_of i)
  nowhere_lies i e = omega (arith, nowhere_offset i e, nowhere_length i e)

  value_lies : (w : ℕ) (i : Item) → bad_value bytes w i ≡ false → Lies bytes (value_of i)
  unfolding bad_value
  value_lies w i e = place_short bytes i (not_first (bad_place bytes i) _ e)

  pub clustering_lies : (column w : ℕ) (i : Item) → bad_clustering bytes column w i ≡ false → Lies bytes (value_of i)
  unfolding bad_clustering
  clustering_lies column w i e =
      let f = not_second (unlike i.column column) _ (not_second (bad_value_flags i.flags) _ (not_second (unlike i.kind 5) _ e)) in
      yes_or_no (eqb i.flags 8) (λ g. nowhere_lies i (not_then (eqb i.flags 8) _ _ f g)) (λ g. value_lies w i (not_else (eqb i.flags 8) _ _ f g))

  cell_value_lies : (column w : ℕ) (i : Item) → bad_cell bytes column w i ≡ false → Lies bytes (value_of i)
  unfolding bad_cell bad_cell_place
  cell_value_lies column w i e =
      let f = not_second (unlike i.column column) _ (not_second (bad_cell_flags i.flags) _ (not_second (unlike i.kind 6) _ e)) in
      yes_or_no (has_local i) (λ g. nowhere_lies i (not_then (has_local i) _ _ f g)) (λ g.
      let k = not_else (has_local i) _ _ f g in
      yes_or_no (ltb 8 i.flags) (λ h. nowhere_lies i (not_then (ltb 8 i.flags) _ _ k h)) (λ h. value_lies w i (not_else (ltb 8 i.flags) _ _ k h)))

  pub cell_lies : (column w : ℕ) (i : Item) → bad_cell bytes column w i ≡ false → Lies bytes (cell_of i).value
  unfolding cell_of
  cell_lies column w i e =
      let h = cell_value_lies column w i e in
      pick_ind (λ (c : Cell). Lies bytes c.value) _ _ (has_local i) (λ f. omega arith) (λ f. pick_ind (λ (c : Cell). Lies bytes c.value) _ _ (has_expiry i) (λ g. h) (λ g. h))

  pub key_lies : (i : Item) → bad_partition bytes i ≡ false → Lies bytes (value_of i)
  unfolding bad_partition bad_key
  key_lies i e =
      let f = not_second (bad_partition_flags i.flags) _ (not_second (unlike i.kind 1) _ e) in
      yes_or_no (ltb 7 i.flags) (λ g. nowhere_lies i (not_then (ltb 7 i.flags) _ _ f g)) (λ g. place_short bytes i (not_first (bad_place bytes i) _ (not_else (ltb 7 i.flags) _ _ f g)))

  module _ (b : Bases) (s : List ℕ) (end : ℕ) where
    taken_values_lie : (column : ℕ) (ws : List ℕ) (at : ℕ) → Gives (taken_values b bytes column ws s at end) (λ vs n. ValuesLie bytes vs)
    unfolding taken_values
    taken_values_lie column [] at = gives_got _ _ tt
    taken_values_lie column (w ∷ ws) at =
        gives_on _ (record_gives b (bad_clustering bytes column w) s at end) (λ i n g.
        gives_on _ (taken_values_lie (column + 1) ws n) (λ vs m h.
        gives_got _ _ (clustering_lies column w i g.right, h)))

    taken_prefix_lies : (column : ℕ) (ws : List ℕ) (at : ℕ) → Gives (taken_prefix b bytes column ws s at end) (λ vs n. ValuesLie bytes vs)
    unfolding taken_prefix
    taken_prefix_lies column [] at = gives_got _ _ tt
    taken_prefix_lies column (w ∷ ws) at =
        gives_pick (eqb (get_or s at 0) 5)
        (λ e.
        gives_on _ (record_gives b (bad_clustering bytes column w) s at end) (λ i n g.
        gives_on _ (taken_prefix_lies (column + 1) ws n) (λ vs m h.
        gives_got _ _ (clustering_lies column w i g.right, h))))
        (λ e. gives_got _ _ tt)

    taken_cells_lie : (column : ℕ) (ws : List ℕ) (at : ℕ) → Gives (taken_cells b bytes column ws s at end) (λ cs n. CellsLie bytes cs)
    unfolding taken_cells
    taken_cells_lie column [] at = gives_got _ _ tt
    taken_cells_lie column (w ∷ ws) at =
        gives_pick (is_cell column s at)
        (λ e.
        gives_on _ (record_gives b (bad_cell bytes column w) s at end) (λ i n g.
        gives_on _ (taken_cells_lie (column + 1) ws n) (λ cs m h.
        gives_got _ _ (cell_lies column w i g.right, h))))
        (λ e. gives_on _ (taken_cells_lie (column + 1) ws at) (λ cs m h. gives_got _ _ h))

    module _ (t : Widths) where
      taken_entry_lies : (first : ℕ) (opened : Deletion) (kind at : ℕ) → Gives (taken_entry t b bytes first opened kind s at end) (λ e n. EntryLies bytes e)
      unfolding taken_entry taken_static taken_row taken_marker
      taken_entry_lies first opened kind at =
          gives_pick (eqb kind 2)
          (λ e.
          gives_on _ (record_gives b (bad_static first (length t.statics)) s at end) (λ i n g.
          gives_on _ (taken_cells_lie 0 t.statics n) (λ cs m h.
          gives_got _ _ (row_flagged i (row_legal 2 (omega arith) i (static_row first _ i g.right) (not_used i g.numbers)) 1, h))))
          (λ e.
          gives_pick (eqb kind 3)
          (λ f.
          gives_on _ (record_gives b (bad_row 3) s at end) (λ i n g.
          gives_on _ (taken_values_lie 0 t.clustering n) (λ vs p v.
          gives_on _ (taken_cells_lie 0 t.regulars p) (λ cs m h.
          gives_got _ _ (row_flagged i (row_legal 3 (omega arith) i g.right (not_used i g.numbers)) 0, (v, h))))))
          (λ f.
          gives_pick (eqb kind 4)
          (λ k.
          gives_on _ (record_gives b (bad_marker opened) s at end) (λ i n g.
          gives_on _ (taken_prefix_lies 0 t.clustering n) (λ vs m h.
          gives_got _ _ h)))
          (λ k. gives_bad _ _)))

      taken_entries_lie : (j first : ℕ) (opened : Deletion) (at : ℕ) → Gives (taken_entries_in j t b bytes first opened s at end) (λ es n. EntriesLie bytes es)
      unfolding taken_entries_in taken_end
      taken_entries_lie zero first opened at = gives_bad _ _
      taken_entries_lie (suc j) first opened at =
          gives_on _ (any (kind_at s at end)) (λ kind q _.
          gives_pick (eqb kind 7)
          (λ e. gives_on _ (any _) (λ i n g. gives_got _ _ tt))
          (λ e.
          gives_on _ (taken_entry_lies first opened kind at) (λ x m h.
          gives_on _ (taken_entries_lie j 0 (open_behind opened x) m) (λ es n k.
          gives_got _ _ (h, k)))))

      taken_partition_lies : (at : ℕ) → Gives (taken_partition t b bytes s at end) (λ p n. Lies bytes p.header.key × EntriesLie bytes p.entries)
      unfolding taken_partition taken_entries
      taken_partition_lies at =
          gives_on _ (record_gives baseless (bad_partition bytes) s at end) (λ i n g.
          gives_on _ (taken_entries_lie (end - n) 1 live n) (λ es m h.
          gives_got _ _ (key_lies i g.right, h)))

      taken_all_lie : (j at : ℕ) → Gives (taken_in j t b bytes s at end) (λ ps n. AllLie bytes ps)
      unfolding taken_in
      taken_all_lie zero at = gives_got _ _ tt
      taken_all_lie (suc j) at =
          gives_pick (eqb at end) (λ e. gives_got _ _ tt) (λ e.
          gives_on _ (taken_partition_lies at) (λ p n g.
          gives_on _ (taken_all_lie j n) (λ ps m h.
          gives_got _ _ (g, h))))

pub taken_lies : (t : Widths) (b : Bases) (bytes s : List ℕ) (at end : ℕ) → Gives (taken_at t b bytes s at end) (λ ps n. AllLie bytes ps)
unfolding taken_at
taken_lies t b bytes s at end = taken_all_lie bytes b s end t (end - at) at
