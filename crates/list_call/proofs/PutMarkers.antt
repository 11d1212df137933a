-- A marker stored: its record and its values. Assumes nothing.
use Rattle.common.specs.declared.reading.Bad.{Bad}
use Rattle.std.proofs.Common.{Err, Ok}
use mathlib.Core.Path.{◌≡◌, refl, sym, ap, ◌∙◌}
use mathlib.Core.List.{List, ◌∷◌}
use Prim.Native.Nat.{ℕ, ◌+◌, ◌*◌, ◌≤◌}
use native.Mathlib.Omega.{arith}
use lib.ListN.{length}
use Rattle.common.specs.Got.{Got, got, Reading, said}
use Rattle.common.specs.Store.{Room, Puts}
use Rattle.common.specs.declared.times.Bases.{Bases}
use Rattle.data_field.specs.declared.fields.Deletion.{Deletion}
use Rattle.data_clustering.specs.Prefixes.{values_at, widths_at}
use Rattle.data_clustering.proofs.Loops.{widths_count}
use Rattle.data_marker.specs.Markers.{marker_at, open_after}
use Rattle.data_marker.specs.declared.markers.Marker.{Marker}
use Rattle.data_marker.proofs.Gives.{MarkerOk}
use Rattle.schema_check.specs.declared.records.Counts.{Counts}
use Rattle.data_items.specs.Items.{marker_item}
use Rattle.call_check.specs.Tables.{Table}
use Rattle.data_items.specs.declared.Item.{Item}
use Rattle.data_contents.specs.Contents.{widths_of, Entry, marker_entry, open_behind, marker_entry_at}
use Rattle.data_contents.proofs.Values.{widths_take}
use Rattle.list_count.proofs.Follows.{on_bad}
use Rattle.list_count.proofs.Markers.{ok, entry_as, entry_is}
use Rattle.list_call.specs.Records.{record_of, records_of}
use Rattle.list_call.specs.Parts.{values_of, entry_of, bound_of, Fitting, FittingBound, PutsMarker}
use Rattle.list_call.specs.declared.fills.Open.{Open}
use Rattle.common.proofs.Gives.{never, got_value, got_place}
use Rattle.list_call.proofs.PutValues.{values_of_lem}
use Rattle.list_call.proofs.PutRows.{head_room, rest_room, all_puts, entry_of_lem}

module _ (c s : List ℕ) (x : Marker) (n : ℕ) (d : List ℕ) (to : ℕ) (f : FittingBound c s x n d to) where
  pub bound_inside : (i : ℕ) → i ≡ x.count → 16 + 16 * i ≤ length c
  bound_inside i e = omega (arith, f.inside)

  pub bound_few : (i : ℕ) → i ≡ x.count → i ≤ 32
  bound_few i e = omega (arith, f.few)

  module _ (it : Item) (e : it ≡ marker_item x n) where
    pub bound_head : Room d to (record_of it)
    bound_head = rw e (head_room d to (marker_item x n) _ f.room)

    module _ (d₁ : List ℕ) (m : ℕ) (p : Puts d d₁ to (record_of it) m) where
      item_puts : Puts d d₁ to (record_of (marker_item x n)) m
      item_puts = rw (← e) p

      pub bound_values : Fitting (values_at (widths_at c 16 x.count) x.prefix.header s x.prefix.values (length s)) (values_of (values_at (widths_at c 16 x.count) x.prefix.header s x.prefix.values (length s))) d₁ m
      unfolding bound_of
      bound_values = record { value = f.values; place = f.end; is = f.are; room = rest_room d to (marker_item x n) _ f.room d₁ m item_puts }

      pub bound_puts : (d₂ : List ℕ) (q : ℕ) → Puts d₁ d₂ m (records_of (values_of (values_at (widths_at c 16 x.count) x.prefix.header s x.prefix.values (length s)))) q
          → Puts d d₂ to (records_of (marker_item x n ∷ values_of (bound_of c s x))) q
      unfolding bound_of
      bound_puts d₂ q w = all_puts d to (marker_item x n) _ f.room d₁ m item_puts d₂ q w

pub ruleset bounds = (bound_inside, bound_few, bound_head, bound_values, bound_puts, refl)

module _ (c s : List ℕ) (k : Counts) (b : Bases) (opened : Deletion) (at : ℕ) (q : Reading Marker) (found : said q ≡ marker_at b (widths_at c 16 k.clustering) opened s at (length s))
    (d : List ℕ) (to : ℕ) (fit : Fitting (marker_entry_at (widths_of c k) b opened s at (length s)) (entry_of (marker_entry_at (widths_of c k) b opened s at (length s))) d to) where
  abbrev Entry₀ : Got Entry
  Entry₀ = marker_entry_at (widths_of c k) b opened s at (length s)

  module _ (x : Marker) (m : ℕ) (f : q ≡ Ok (x, m)) where
    abbrev good : MarkerOk b (widths_at c 16 k.clustering) opened s at (length s) x m
    good = ok c s k b opened at q found x m f

    known : Entry₀ ≡ got (marker_entry x m good.rest.prefix.read) m
    known = entry_is c s k b opened at q found x m f

    count_in_lem : x.count ≤ k.clustering
    count_in_lem = omega (arith, good.rest.count, widths_count c 16 k.clustering)

    values_are : bound_of c s x ≡ got good.rest.prefix.read good.rest.sizes
    unfolding bound_of
    values_are = ap (λ (ws : List ℕ). values_at ws x.prefix.header s x.prefix.values (length s)) (sym (widths_take c 16 x.count k.clustering count_in_lem)) ∙ good.rest.prefix.is

    items : entry_of Entry₀ ≡ marker_item x m ∷ values_of (bound_of c s x)
    items = entry_of_lem Entry₀ _ m known ∙ ap (λ (l : List Item). marker_item x m ∷ l) (sym (values_of_lem _ good.rest.prefix.read good.rest.sizes values_are))

    pub marker_fits : Table (length c) k → FittingBound c s x m d to
    marker_fits table = record {
      inside = omega (arith, count_in_lem, table.filled);
      few = omega (arith, count_in_lem, table.clustering);
      values = good.rest.prefix.read;
      end = good.rest.sizes;
      are = values_are;
      room = rw (← items) fit.room;
    }

    pub marker_puts : (o : Deletion) → o ≡ open_after x.kind x.deletions → (d' : List ℕ) (n : ℕ) → Puts d d' to (records_of (marker_item x m ∷ values_of (bound_of c s x))) n
        → PutsMarker Entry₀ opened d d' to (record { opened = o; next = m; out = n })
    marker_puts o g d' n w = record {
      next = λ e p y. got_place (sym known ∙ y);
      opens = λ e p y. g ∙ ap (open_behind opened) (got_value (sym known ∙ y));
      puts = rw items w;
    }

  pub marker_never : (err : Bad) → q ≡ Err err → (r : Open) → PutsMarker Entry₀ opened d d to r
  unfolding said
  marker_never err e r = never (sym (entry_as c s k b opened at q found ∙ on_bad _ err.fault err.place _ (sym found ∙ rw e refl)) ∙ fit.is)

pub ruleset markers = (marker_fits, marker_puts, marker_never)
