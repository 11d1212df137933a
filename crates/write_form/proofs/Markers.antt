-- A marker in the writer's form is read back. Assumes nothing.
use mathlib.Core.Path.{◌≡◌, refl, sym, subst}
use mathlib.Core.Bool.{Bool, true, false}
use mathlib.Core.List.{List, [], ◌∷◌, ◌++◌}
use Prim.Native.Nat.{ℕ, ◌^◌, ◌≤◌, ◌<◌}
use native.Mathlib.Omega.{arith}
use borrow.Author.Tests.{le-ltb}
use lib.ListN.{length, take}
use Rattle.common.specs.Choose.{pick}
use Rattle.number_fixed.specs.BigEndian.{bytes_of}
use Rattle.common.specs.declared.times.Bases.{Bases}
use Rattle.common.proofs.RoundTrip.{Reads, reads_got, reads_on, reads_at, reads_yes, reads_no, reads_to}
use Rattle.common.proofs.Stands.{Stands, stands_left, stands_right}
use Rattle.number_fixed.proofs.BigEndian.{fixed_back}
use Rattle.data_field.specs.Fields.{live}
use Rattle.data_field.specs.declared.fields.Deletion.{Deletion}
use Rattle.data_clustering.specs.Prefixes.{values_at}
use Rattle.data_marker.specs.Kinds.{marker_flags_at, kind_at, count_at}
use Rattle.data_turns.specs.Turns.{bad_kind, is_start, is_boundary, out_of_turn}
use Rattle.data_marker.specs.Markers.{first_at, second_at, deletions_at, body_at, bound_at, marker_at}
use Rattle.data_turns.specs.Turns.{same_deletion}
use Rattle.data_marker.specs.declared.markers.Deletions.{Deletions}
use Rattle.data_marker.specs.declared.markers.Marker.{Marker}
use Rattle.data_marker.proofs.Gives.{DeletionsIn}
use Rattle.data_contents.specs.Contents.{Widths, marker_entry, marker_entry_at}
use Rattle.write_form.specs.Views.{MarkerView, marker_view, show_entry, show_values}
use Rattle.write_form.specs.Clusterings.{prefix_bytes}
use Rattle.write_form.specs.Rows.{deletion_bytes, sized_bytes}
use Rattle.write_form.specs.Markers.{deletions_bytes, bound_bytes, marker_bytes}
use Rattle.write_form.specs.Fits.{Bounded, MarkerFits}
use Rattle.write_form.proofs.Fields.{either, stands_none, byte_back, deletion_back}
use Rattle.write_form.proofs.Clusterings.{values_length, prefix_back}
use Rattle.write_form.proofs.Rows.{sized_rest, sizes_back}

pick_left : (t : Bool) (v w : List ℕ) → t ≡ true → pick t v w ≡ v
unfolding pick
pick_left t v w e = rw e

pick_right : (t : Bool) (v w : List ℕ) → t ≡ false → pick t v w ≡ w
unfolding pick
pick_right t v w e = rw e

module _ (s : List ℕ) (b : Bases) (kind : ℕ) (opened : Deletion) (d : Deletions) (i : DeletionsIn b kind d) (same : is_start kind ≡ false → same_deletion opened d.first ≡ true) where
  first_back : (end at n : ℕ) → Stands s end at n (deletion_bytes b d.first) → Reads (first_at b kind opened s at end) n (λ x. x ≡ d.first)
  unfolding first_at
  first_back end at n h =
      reads_at _ (deletion_back s end b at n d.first i.deleted i.first h)
      (either (is_start kind)
      (λ e. reads_yes _ _ e (reads_got _ n refl))
      (λ e. reads_no _ _ e (reads_yes _ _ (same e) (reads_got _ n refl))))

  second_back : (end at n : ℕ) → Stands s end at n (pick (is_boundary kind) (deletion_bytes b d.second) []) → Reads (second_at b kind s at end) n (λ x. x ≡ d.second)
  unfolding second_at
  second_back end at n h = either (is_boundary kind)
      (λ e. reads_yes _ _ e (deletion_back s end b at n d.second (i.boundary e) i.second (subst (Stands s end at n) (pick_left _ _ _ e) h)))
      (λ e. reads_no _ _ e (reads_to (stands_none s end at n (subst (Stands s end at n) (pick_right _ (deletion_bytes b d.second) [] e) h)) (reads_got live at (sym (i.bound e)))))

  -- they fill the body
  deletions_back : (at n : ℕ) → Stands s n at n (deletions_bytes b kind d) → Reads (deletions_at b kind opened s at n) n (λ x. x ≡ d)
  unfolding deletions_at deletions_bytes
  deletions_back at n h =
      let last : List ℕ = pick (is_boundary kind) (deletion_bytes b d.second) [] in
      reads_at _ (first_back n at _ (stands_left s n at n (deletion_bytes b d.first) last h))
      (reads_at _ (second_back n _ n (stands_right s n at n (deletion_bytes b d.first) last h))
      (reads_no _ _ (le-ltb n n (omega arith)) (reads_got _ n refl)))

  body_back : (end at n previous : ℕ) → length s < 2 ^ 64 → previous < 2 ^ 64 → Stands s end at n (sized_bytes previous (deletions_bytes b kind d)) → Reads (body_at b kind opened s at end) n (λ x. x ≡ d)
  unfolding body_at
  body_back end at n previous short small h =
      let w : List ℕ = deletions_bytes b kind d in
      reads_at _ (sizes_back s end at n previous w short small h) (deletions_back _ n (sized_rest s end at n previous w short small h))

flags_back : (s : List ℕ) (end at n : ℕ) → Stands s end at n (2 ∷ []) → Reads (marker_flags_at s at end) n (λ f. f ≡ 2)
unfolding marker_flags_at
flags_back s end at n h = reads_at _ (byte_back s end at n 2 h) (reads_yes _ _ refl (reads_got 2 n refl))

kind_back : (s : List ℕ) (end at n kind opened : ℕ) → bad_kind kind ≡ false → out_of_turn kind opened ≡ false → Stands s end at n (kind ∷ []) → Reads (kind_at opened s at end) n (λ k. k ≡ kind)
unfolding kind_at
kind_back s end at n kind opened e f h = reads_at _ (byte_back s end at n kind h) (reads_no _ _ e (reads_no _ _ f (reads_got kind n refl)))

count_back : (s : List ℕ) (end at n k count : ℕ) → count ≤ k → k ≤ 32 → Stands s end at n (bytes_of count 2) → Reads (count_at k s at end) n (λ c. c ≡ count)
unfolding count_at
count_back s end at n k count l m h = reads_at _ (fixed_back 2 s end at n count (omega arith) (omega arith) h) (reads_no _ _ (le-ltb k count l) (reads_got count n refl))

module _ (s : List ℕ) (short : length s < 2 ^ 64) (b : Bases) (ws : List ℕ) (few : length ws ≤ 32) (opened : Deletion) (m : MarkerView) (i : MarkerFits b ws opened m) (end previous : ℕ) (small : previous < 2 ^ 64) where
  -- what was read shows the marker; its values stand before q
  abbrev Shows : ℕ → Marker → Type 0
  Shows q y =
      (y.kind ≡ m.kind) × (y.count ≡ length m.values) × (y.deletions ≡ m.deletions)
      × Reads (values_at (take (length m.values) ws) y.prefix.header s y.prefix.values end) q (λ xs. show_values s xs ≡ m.values)

  bound_back : (at n start : ℕ) → Stands s end at n (bound_bytes b ws previous m)
      → (q : ℕ) × Reads (bound_at b ws opened start m.kind s at end) n (Shows q)
  unfolding bound_at bound_bytes
  bound_back at n start h =
      let us : List ℕ = take (length m.values) ws in
      let w : List ℕ = sized_bytes previous (deletions_bytes b m.kind m.deletions) in
      let h₁ = stands_right s end at n (bytes_of (length m.values) 2) (prefix_bytes us m.values ++ w) h in (
        _,
        reads_at _ (count_back s end at _ (length ws) (length m.values) i.count few (stands_left s end at n (bytes_of (length m.values) 2) (prefix_bytes us m.values ++ w) h))
            (reads_on _ (prefix_back s end us m.values _ _ (omega (arith, values_length us m.values i.values, i.count)) i.values (stands_left s end _ n (prefix_bytes us m.values) w h₁)) (λ p v.
            reads_at _ (body_back s b m.kind opened m.deletions i.deletions i.same end _ n previous short small (stands_right s end _ n (prefix_bytes us m.values) w h₁))
            (reads_got _ n (refl, refl, refl, v)))),
      )

  marker_back : (at n : ℕ) → Stands s end at n (marker_bytes b ws previous m) → (q : ℕ) × Reads (marker_at b ws opened s at end) n (Shows q)
  unfolding marker_at marker_bytes
  marker_back at n h =
      let w : List ℕ = bound_bytes b ws previous m in
      let h₁ = stands_right s end at n (2 ∷ []) ((m.kind ∷ []) ++ w) h in
      let c = bound_back _ n at (stands_right s end _ n (m.kind ∷ []) w h₁) in (
        c.0,
        reads_at _ (flags_back s end at _ (stands_left s end at n (2 ∷ []) ((m.kind ∷ []) ++ w) h))
            (reads_at _ (kind_back s end _ _ m.kind opened.deleted i.kind i.turn (stands_left s end _ n (m.kind ∷ []) w h₁))
            c.1),
      )

pub marker_entry_back : (s : List ℕ) → length s < 2 ^ 64 → (t : Widths) → Bounded t → (b : Bases) (opened : Deletion) (m : MarkerView) → MarkerFits b t.clustering opened m
    → (end at n previous : ℕ) → previous < 2 ^ 64 → Stands s end at n (marker_bytes b t.clustering previous m) → Reads (marker_entry_at t b opened s at end) n (λ e. show_entry s e ≡ marker_view m)
unfolding marker_entry_at
marker_entry_back s short t few b opened m i end at n previous small h =
    let c = marker_back s short b t.clustering few.clustering opened m i end previous small at n h in
    reads_on _ c.1 (λ y q.
    reads_on _ (subst (λ k. Reads (values_at (take k t.clustering) y.prefix.header s y.prefix.values end) c.0 (λ xs. show_values s xs ≡ m.values)) (sym q.1) q.3) (λ xs g.
    reads_got (marker_entry y n xs) n (λ j. marker_view (record { kind = q.0 j; values = g j; deletions = q.2 j }))))
