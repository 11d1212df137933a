-- What can be written under the bases b, in a table whose columns have given widths: numbers in range and not below their base, values of
-- their column's width, entries in turn. Assumes nothing.
use Rattle.std.specs.Prelude.{◌≡◌, true, false, List, [], ◌∷◌, ℕ, ◌^◌, ◌≤◌, ◌<◌, eqb, length, take}
use Rattle.std.proofs.Math.Option.{Option, none, some}
use Rattle.common.specs.declared.times.Bases.{Bases}
use Rattle.data_field.specs.Fields.{live}
use Rattle.data_field.specs.declared.fields.Deletion.{Deletion}
use Rattle.data_field.proofs.Ranges.{TimestampIn, LocalIn, TTLIn, DeletionIn}
use Rattle.data_cell.proofs.Gives.{TimesIn}
use Rattle.data_turns.specs.Turns.{may_stand}
use Rattle.data_turns.specs.Turns.{bad_kind, is_start, out_of_turn}
use Rattle.data_marker.specs.Markers.{open_after}
use Rattle.data_turns.specs.Turns.{same_deletion}
use Rattle.data_marker.proofs.Gives.{DeletionsIn}
use Rattle.data_partition.proofs.Gives.{DeletedIn}
use Rattle.data_contents.specs.Contents.{Widths}
use Rattle.write_form.specs.Views.{CellView, RowView, MarkerView, EntryView, static_view, row_view, marker_view, PartitionView}

-- "Bounds: .. clustering columns 0 to 32; static 0 to 63; regular 0 to 63"
pub record Bounded (t : Widths) : Type 0 where
  pub clustering : length t.clustering ≤ 32
  pub statics : length t.statics ≤ 63
  pub regulars : length t.regulars ≤ 63

-- the bytes of a value of a column of width w
pub record ValueFits (w : ℕ) (v : List ℕ) : Type 0 where
  pub fills : eqb w 255 ≡ false → 1 ≤ length v → length v ≡ w
  pub short : length v < 2 ^ 64

abbrev pub ValuesFit : List ℕ → List (List ℕ) → Type 0
ValuesFit [] [] = Unit
ValuesFit [] (v ∷ vs) = ◌≡◌ {A = ℕ} 0 1
ValuesFit (w ∷ ws) [] = ◌≡◌ {A = ℕ} 0 1
ValuesFit (w ∷ ws) (v ∷ vs) = ValueFits w v × ValuesFit ws vs

pub record CellFits (b : Bases) (w : ℕ) (c : CellView) : Type 0 where
  pub kind : c.kind ≤ 2
  pub timestamp : TimestampIn b c.timestamp
  pub local : 1 ≤ c.kind → LocalIn b c.local
  pub ttl : c.kind ≡ 1 → TTLIn b c.ttl
  pub plain : c.kind ≡ 0 → (c.local ≡ 0) × (c.ttl ≡ 0)
  pub tombstone : c.kind ≡ 2 → (c.ttl ≡ 0) × (c.value ≡ [])
  pub value : ValueFits w c.value

abbrev pub CellsFit : Bases → List ℕ → List (Option CellView) → Type 0
CellsFit b [] [] = Unit
CellsFit b [] (c ∷ cs) = ◌≡◌ {A = ℕ} 0 1
CellsFit b (w ∷ ws) [] = ◌≡◌ {A = ℕ} 0 1
CellsFit b (w ∷ ws) (none ∷ cs) = CellsFit b ws cs
CellsFit b (w ∷ ws) (some c ∷ cs) = CellFits b w c × CellsFit b ws cs

-- a row whose columns have the widths ws
pub record RowFits (b : Bases) (ws : List ℕ) (r : RowView) : Type 0 where
  pub times : TimesIn b r.times
  pub deletion : DeletionIn b r.deletion
  pub cells : CellsFit b ws r.cells

-- a marker where the deletion of the open range is `opened`
pub record MarkerFits (b : Bases) (ws : List ℕ) (opened : Deletion) (m : MarkerView) : Type 0 where
  pub kind : bad_kind m.kind ≡ false
  pub turn : out_of_turn m.kind opened.deleted ≡ false
  pub same : is_start m.kind ≡ false → same_deletion opened m.deletions.first ≡ true
  pub count : length m.values ≤ length ws
  pub values : ValuesFit (take (length m.values) ws) m.values
  pub deletions : DeletionsIn b m.kind m.deletions

-- first is 1 right behind the partition's header
abbrev pub EntryFits : Bases → Widths → ℕ → Deletion → EntryView → Type 0
EntryFits b t first opened (static_view r) = (may_stand first (length t.statics) ≡ true) × RowFits b t.statics r
EntryFits b t first opened (row_view vs r) = ValuesFit t.clustering vs × RowFits b t.regulars r
EntryFits b t first opened (marker_view m) = MarkerFits b t.clustering opened m

-- the deletion of the range that is open behind an entry
abbrev pub open_view : Deletion → EntryView → Deletion
open_view opened (static_view r) = opened
open_view opened (row_view vs r) = opened
open_view opened (marker_view m) = open_after m.kind m.deletions

-- "the partition ends closed"
abbrev pub EntriesFit : Bases → Widths → ℕ → Deletion → List EntryView → Type 0
EntriesFit b t first opened [] = opened.deleted ≡ 0
EntriesFit b t first opened (e ∷ es) = EntryFits b t first opened e × EntriesFit b t 0 (open_view opened e) es

pub record PartitionFits (b : Bases) (t : Widths) (p : PartitionView) : Type 0 where
  pub key : length p.key < 2 ^ 16
  pub deletion : DeletedIn p.deletion
  pub entries : EntriesFit b t 1 live p.entries

abbrev pub AllFit : Bases → Widths → List PartitionView → Type 0
AllFit b t [] = Unit
AllFit b t (p ∷ ps) = PartitionFits b t p × AllFit b t ps
