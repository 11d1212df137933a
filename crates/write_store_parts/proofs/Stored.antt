-- A row's or a marker's parts, stored one after the other. Assumes nothing.
use mathlib.Core.Path.{◌≡◌}
use mathlib.Core.List.{List, ◌++◌}
use Prim.Native.Nat.{ℕ, ◌+◌, ◌≤◌}
use native.Mathlib.Omega.{arith}
use lib.ListN.{length}
use Rattle.common.specs.Store.{Room, Puts}
use Rattle.common.specs.declared.times.Bases.{Bases}
use Rattle.common.proofs.Puts.{room_left, room_right, puts_then}
use Rattle.data_field.specs.declared.fields.Deletion.{Deletion}
use Rattle.data_cell.specs.declared.cells.Times.{Times}
use Rattle.data_marker.specs.declared.markers.Deletions.{Deletions}
use Rattle.write_form.specs.Markers.{deletions_bytes}
use Rattle.write_row_parts.specs.Parts.{head_form, sizes_form}
use Rattle.write_store_parts.specs.Again.{content_again, body_again, deletions_again}

-- ---- a row's sizes and what follows them; h is how long the latter is before the cells
module _ (previous size : ℕ) (b : Bases) (row : Times) (x : Deletion) (missing : ℕ) (c : List ℕ) (base : ℕ) (bytes s : List ℕ) (at k : ℕ) (d : List ℕ) (to : ℕ)
    (room : Room d to (body_again previous size b row x missing c base bytes s at k)) (h : ℕ) (e : h ≡ length (head_form b row x missing)) where
  parts : Room d to (sizes_form previous (h + size) ++ content_again b row x missing c base bytes s at k)
  unfolding body_again
  parts = rw e room

  pub body_sizes : Room d to (sizes_form previous (h + size))
  body_sizes = room_left d to _ _ parts

  module _ (d₁ : List ℕ) (n : ℕ) (p : Puts d d₁ to (sizes_form previous (h + size)) n) where
    pub body_content : Room d₁ n (content_again b row x missing c base bytes s at k)
    body_content = room_right d d₁ to n _ _ parts p

    pub body_puts : (d₂ : List ℕ) (m : ℕ) → Puts d₁ d₂ n (content_again b row x missing c base bytes s at k) m → Puts d d₂ to (body_again previous size b row x missing c base bytes s at k) m
    unfolding body_again
    body_puts d₂ m q = rw e at (puts_then d d₁ d₂ to n m (sizes_form previous (h + size)) (content_again b row x missing c base bytes s at k) parts p q)

pub body_few : (h size : ℕ) → h ≤ 54 → size ≤ 1073741824 → h + size ≤ 4611686018427387904
body_few h size l m = omega arith

pub ruleset bodies = (body_sizes, body_content, body_puts, body_few)

-- ---- a marker's sizes and deletions
module _ (b : Bases) (previous kind : ℕ) (x : Deletions) (d : List ℕ) (to : ℕ) (room : Room d to (deletions_again b previous kind x)) (h : ℕ) (e : h ≡ length (deletions_bytes b kind x)) where
  both : Room d to (sizes_form previous h ++ deletions_bytes b kind x)
  unfolding deletions_again
  both = rw e room

  pub sized_sizes : Room d to (sizes_form previous h)
  sized_sizes = room_left d to _ _ both

  module _ (d₁ : List ℕ) (n : ℕ) (p : Puts d d₁ to (sizes_form previous h) n) where
    pub sized_deletions : Room d₁ n (deletions_bytes b kind x)
    sized_deletions = room_right d d₁ to n _ _ both p

    pub sized_puts : (d₂ : List ℕ) (m : ℕ) → Puts d₁ d₂ n (deletions_bytes b kind x) m → Puts d d₂ to (deletions_again b previous kind x) m
    unfolding deletions_again
    sized_puts d₂ m q = rw e at (puts_then d d₁ d₂ to n m (sizes_form previous h) (deletions_bytes b kind x) both p q)

pub sized_few : (h : ℕ) → h ≤ 36 → h ≤ 4611686018427387904
sized_few h l = omega arith

pub ruleset sized = (sized_sizes, sized_deletions, sized_puts, sized_few)
