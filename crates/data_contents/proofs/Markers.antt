-- The walk through a marker lists what is read of it. Assumes nothing.
use mathlib.Core.Path.{◌≡◌, refl, sym, ap, ◌∙◌}
use mathlib.Core.Bool.{false}
use mathlib.Core.List.{List, []}
use Prim.Native.Nat.{ℕ, zero, suc, ◌≤◌, ◌<◌}
use native.Mathlib.Omega.{arith}
use borrow.Author.Tests.{le-ltb, lt-leb, eq-eqb, ne_eqb}
use lib.ListN.{length, take}
use Rattle.common.specs.Choose.{pick, bind}
use Rattle.common.specs.Got.{got, on}
use Rattle.common.specs.declared.times.Bases.{Bases}
use Rattle.data_field.specs.declared.fields.Deletion.{Deletion}
use Rattle.data_field.specs.declared.fields.Span.{Span}
use Rattle.data_clustering.specs.Prefixes.{bad_header, values_at, widths_at}
use Rattle.data_row.specs.Bodies.{times}
use Rattle.data_marker.specs.Markers.{marker_at, open_after}
use Rattle.data_marker.specs.declared.markers.Marker.{Marker}
use Rattle.data_marker.proofs.Gives.{MarkerOk, marker_gives}
use Rattle.schema_check.specs.declared.records.Counts.{Counts}
use Rattle.data_items.specs.Items.{marker_item}
use Rattle.data_walk.specs.Cursors.{hand, cursor, outside, bad_column, bad_prefix, at_items, behind_marker}
use Rattle.data_walk.specs.Steps.{step_in, handed, marker_step, value_step, prefix_answer}
use Rattle.data_walk.specs.Walks.{add, follow}
use Rattle.data_walk.specs.declared.cursors.Phase.TheVariants.{Items, Prefix}
use Rattle.data_walk.specs.declared.cursors.Cursor.{Cursor}
use Rattle.data_contents.specs.Contents.{widths_of, marker_entry, marker_entry_at, values_listed}
use Rattle.data_contents.proofs.Follows.{Walked, adds, run, adds_none, add_adds, run_got, run_same, run_on}
use Rattle.data_contents.proofs.Values.{widths_length, widths_take, values_none, values_walk}
use Rattle.data_contents.proofs.Rows.{item_from, next, behind_entry, items_turn}

module _ (c s : List ℕ) (k : Counts) (b : Bases) (w : Cursor → Walked) (turns : (x : Cursor) → w x ≡ follow (step_in x.phase c k b s x) w) where
  module _ (m : Marker) (stop : ℕ) where
    abbrev opens : Deletion
    opens = open_after m.kind m.deletions

    abbrev state : ℕ → ℕ → Cursor
    state i p = cursor p Prefix opens (hand i m.count m.prefix.header 0 stop 0 (times 0 0 0 0 0))

    bare_cursor : m.count ≡ 0 → behind_marker m stop ≡ at_items stop Items opens
    unfolding behind_marker bind pick
    bare_cursor e = rw (eq-eqb m.count 0 e)

    values_cursor : (m.count ≡ 0 → ⊥) → behind_marker m stop ≡ state 0 m.prefix.values
    unfolding behind_marker bind pick
    values_cursor e = rw (ne_eqb m.count 0 e)

    module _ (inside : stop ≤ length s) (few : m.count ≤ k.clustering) (plain : bad_header m.count m.prefix.header ≡ false) where
      values_good : (i p : ℕ) → i < m.count → p ≤ stop → bad_prefix k (length s) (state i p) ≡ false
      unfolding bad_prefix outside bad_column pick
      values_good i p l h = rw (le-ltb (length s) stop inside, le-ltb stop p h, le-ltb k.clustering m.count few, lt-leb m.count i l) plain

      values_step : (i p : ℕ) → i < m.count → p ≤ stop → step_in Prefix c k b s (state i p) ≡ handed (value_step c s (state i p) (at_items stop Items opens))
      unfolding step_in prefix_answer bind pick
      values_step i p l h = rw (values_good i p l h)

      -- behind a marker's values stands the next item
      values_then : (vs : List Span) (q : ℕ) → q ≤ stop → m.prefix.values ≤ length s → values_at (widths_at c 16 m.count) m.prefix.header s m.prefix.values (length s) ≡ got vs q
          → w (behind_marker m stop) ≡ adds (values_listed 0 vs) (item_from c s k b w turns 0 opens stop)
      values_then vs q l h d = go m.count refl
        where
          alike : (j : ℕ) → m.count ≡ j → values_at (widths_at c 16 j) m.prefix.header s m.prefix.values (length s) ≡ values_at (widths_at c 16 m.count) m.prefix.header s m.prefix.values (length s)
          alike j f = ap (λ z. values_at (widths_at c 16 z) m.prefix.header s m.prefix.values (length s)) (sym f)

          go : (j : ℕ) → m.count ≡ j → w (behind_marker m stop) ≡ adds (values_listed 0 vs) (item_from c s k b w turns 0 opens stop)
          go zero f =
              let y : got [] m.prefix.values ≡ got vs q = sym (values_none c s 16 m.prefix.header m.prefix.values (length s)) ∙ alike zero f ∙ d in
              let z : [] ≡ vs = cc in
              ap w (bare_cursor f)
              ∙ items_turn c s k b w turns opens stop inside
              ∙ sym (adds_none _)
              ∙ ap (λ l. adds (values_listed 0 l) (item_from c s k b w turns 0 opens stop)) z
          go (suc j) f =
              ap w (values_cursor (λ z. omega arith))
              ∙ values_walk c s k b w turns Prefix opens m.count m.prefix.header 0 stop 0 (times 0 0 0 0 0) (at_items stop Items opens) values_step inside j 0 16 m.prefix.values m.prefix.header vs q (omega arith) (omega arith) (omega arith) h l (alike (suc j) f ∙ d)
              ∙ ap (adds (values_listed 0 vs)) (items_turn c s k b w turns opens stop inside)

  module _ (opened : Deletion) (at : ℕ) where
    abbrev widths : List ℕ
    widths = widths_at c 16 k.clustering

    handed_walk : (m : Marker) (n : ℕ) → MarkerOk b widths opened s at (length s) m n
        → add (marker_item m n) (w (behind_marker m n))
        ≡ run (on (values_at (take m.count widths) m.prefix.header s m.prefix.values (length s)) (λ vs p. got (marker_entry m n vs) n)) (behind_entry c s k b w turns opened)
    unfolding run
    handed_walk m n g =
        let few : m.count ≤ k.clustering = omega (arith, g.rest.count, widths_length c 16 k.clustering) in
        let short : take m.count widths ≡ widths_at c 16 m.count = widths_take c 16 m.count k.clustering few in
        let size : m.count ≡ length (take m.count widths) = sym (widths_length c 16 m.count) ∙ ap length (sym short) in
        ap (add (marker_item m n))
        (values_then m n g.rest.body.within few (ap (λ q. bad_header q m.prefix.header) size ∙ g.rest.prefix.header) g.rest.prefix.read g.rest.sizes (omega (arith, g.rest.body.past)) g.rest.prefix.begins.within
        (ap (λ l. values_at l m.prefix.header s m.prefix.values (length s)) (sym short) ∙ g.rest.prefix.is))
        ∙ add_adds (marker_item m n) (values_listed 0 g.rest.prefix.read) _
        ∙ sym (run_on (values_at (take m.count widths) m.prefix.header s m.prefix.values (length s)) _ _ ∙ run_got _ g.rest.prefix.read g.rest.sizes _ g.rest.prefix.is)

    pub marker_walk : run (marker_step c k b s opened at) (next c s k b w turns) ≡ run (marker_entry_at (widths_of c k) b opened s at (length s)) (behind_entry c s k b w turns opened)
    unfolding marker_step marker_entry_at widths_of bind run
    marker_walk =
        run_on (marker_at b widths opened s at (length s)) _ _
        ∙ run_same (marker_at b widths opened s at (length s)) _ _ (λ m n e. handed_walk m n ((marker_gives b widths opened s at (length s)).given m n e))
        ∙ sym (run_on (marker_at b widths opened s at (length s)) _ _)
