-- The parts make up the writer's form, and how long they are. Assumes nothing.
use mathlib.Core.Path.{◌≡◌, refl, sym, ap, ◌∙◌}
use mathlib.Core.List.{List, [], ◌++◌, append_assoc}
use Prim.Native.Nat.{ℕ, ◌+◌, ◌-◌, ◌≤◌}
use native.Mathlib.Omega.{arith}
use lib.Dec.{eqb}
use lib.ListN.{length, take, length-append}
use Rattle.common.specs.Choose.{pick}
use Rattle.number_varint.specs.Varints.{shortest}
use Rattle.number_fixed.specs.BigEndian.{bytes_of}
use Rattle.common.specs.Store.{shown}
use Rattle.common.specs.Times.{biased}
use Rattle.common.specs.declared.times.Bases.{Bases}
use Rattle.number_fixed.proofs.BigEndian.{length_bytes_of}
use Rattle.data_field.specs.declared.fields.Deletion.{Deletion}
use Rattle.data_cell.specs.declared.cells.Times.{Times}
use Rattle.data_turns.specs.Turns.{is_boundary}
use Rattle.data_marker.specs.declared.markers.Deletions.{Deletions}
use Rattle.write_form.specs.Views.{RowView, MarkerView}
use Rattle.write_form.specs.Clusterings.{header_of, header_bytes, prefix_bytes}
use Rattle.write_form.specs.Rows.{row_expiry_bytes, liveness_bytes, deletion_bytes, row_deletion_bytes, missing_of, missing_bytes, cells_bytes, content_bytes, sized_bytes}
use Rattle.write_form.specs.Markers.{deletions_bytes, bound_bytes, marker_bytes}
use Rattle.write_form.specs.Partitions.{header_local, deleted_bytes, head_bytes}
use Rattle.write_number.proofs.Writing.{varint_most, shown_len}
use Rattle.write_cell.proofs.Sizes.{most_pick, most_append}
use Rattle.write_row_parts.specs.Parts.{rest_form, head_form, body_size, sizes_form, header_form, bound_form}

-- ---- the writer's form by its parts
pub content_form : (b : Bases) (ws : List ℕ) (r : RowView)
    → content_bytes b ws r ≡ head_form b r.times r.deletion (missing_of r.cells) ++ cells_bytes b r.times ws r.cells
unfolding content_bytes head_form rest_form
content_form b ws r =
    let x = liveness_bytes b r.times in
    let y = row_deletion_bytes b r.deletion in
    let z = missing_bytes (missing_of r.cells) in
    let w = cells_bytes b r.times ws r.cells in
    sym (append_assoc x (y ++ z) w ∙ ap (λ (v : List ℕ). x ++ v) (append_assoc y z w))

pub sized_form : (previous : ℕ) (w : List ℕ) → sized_bytes previous w ≡ sizes_form previous (length w) ++ w
unfolding sized_bytes sizes_form body_size
sized_form previous w = rw (length-append (shortest previous) w) (sym (append_assoc (shortest (length (shortest previous) + length w)) (shortest previous) w))

pub header_form_lem : (vs : List (List ℕ)) → header_bytes vs ≡ header_form (length vs) (header_of vs)
unfolding header_bytes header_form
header_form_lem vs = refl

pub marker_form : (b : Bases) (ws : List ℕ) (previous : ℕ) (m : MarkerView)
    → marker_bytes b ws previous m ≡ bound_form m.kind (length m.values) ++ (prefix_bytes (take (length m.values) ws) m.values ++ sized_bytes previous (deletions_bytes b m.kind m.deletions))
unfolding marker_bytes bound_bytes bound_form
marker_form b ws previous m = refl

-- ---- lengths
expiry_most : (b : Bases) (row : Times) → length (row_expiry_bytes b row) ≤ 18
unfolding row_expiry_bytes
expiry_most b row = most_pick (eqb row.expires 1) _ [] 18 (most_append (shortest (row.ttl - b.ttl)) (shortest (row.local - b.local)) 9 9 (varint_most (row.ttl - b.ttl)) (varint_most (row.local - b.local))) (omega arith)

liveness_most : (b : Bases) (row : Times) → length (liveness_bytes b row) ≤ 27
unfolding liveness_bytes
liveness_most b row = most_pick (eqb row.timed 1) _ [] 27 (most_append (shortest (row.timestamp - b.timestamp)) (row_expiry_bytes b row) 9 18 (varint_most (row.timestamp - b.timestamp)) (expiry_most b row)) (omega arith)

deletion_most : (b : Bases) (d : Deletion) → length (deletion_bytes b d) ≤ 18
unfolding deletion_bytes
deletion_most b d = most_append (shortest (d.mark - b.timestamp)) (shortest (d.local - b.local)) 9 9 (varint_most (d.mark - b.timestamp)) (varint_most (d.local - b.local))

rest_most : (b : Bases) (d : Deletion) (m : ℕ) → length (rest_form b d m) ≤ 27
unfolding rest_form row_deletion_bytes missing_bytes
rest_most b d m =
    most_append (row_deletion_bytes b d) (missing_bytes m) 18 9 (most_pick (eqb d.deleted 1) _ [] 18 (deletion_most b d) (omega arith)) (most_pick (eqb m 0) [] _ 9 (omega arith) (varint_most m))

pub head_most : (b : Bases) (times : Times) (d : Deletion) (m : ℕ) → length (head_form b times d m) ≤ 54
unfolding head_form
head_most b times d m = most_append (liveness_bytes b times) (rest_form b d m) 27 27 (liveness_most b times) (rest_most b d m)

pub sizes_most : (previous n : ℕ) → length (sizes_form previous n) ≤ 18
unfolding sizes_form
sizes_most previous n = most_append (shortest (body_size previous n)) (shortest previous) 9 9 (varint_most (body_size previous n)) (varint_most previous)

pub header_most : (count h : ℕ) → length (header_form count h) ≤ 9
unfolding header_form
header_most count h = most_pick (eqb count 0) [] _ 9 (omega arith) (varint_most h)

pub deletions_most : (b : Bases) (kind : ℕ) (d : Deletions) → length (deletions_bytes b kind d) ≤ 36
unfolding deletions_bytes
deletions_most b kind d = most_append (deletion_bytes b d.first) (pick (is_boundary kind) (deletion_bytes b d.second) []) 18 18 (deletion_most b d.first) (most_pick (is_boundary kind) _ [] 18 (deletion_most b d.second) (omega arith))

pub bound_length : (kind count : ℕ) → length (bound_form kind count) ≡ 4
unfolding bound_form
bound_length kind count = rw (length_bytes_of count 2)

pub header_length : (key : List ℕ) (d : Deletion) → length (head_bytes key d) ≡ 14 + length key
unfolding head_bytes deleted_bytes
header_length key d =
    let x = bytes_of (length key) 2 in
    let y = bytes_of (header_local d) 4 in
    let z = bytes_of (biased d.mark) 8 in
    omega (arith, length-append x (key ++ (y ++ z)), length-append key (y ++ z), length-append y z, length_bytes_of (length key) 2, length_bytes_of (header_local d) 4, length_bytes_of (biased d.mark) 8)

-- of a key that lies in its slice
pub header_shown : (s : List ℕ) (start len : ℕ) (d : Deletion) → start + len ≤ length s → length (head_bytes (shown s start len) d) ≡ 14 + len
header_shown s start len d h = omega (arith, header_length (shown s start len) d, shown_len s start len h)
