-- The body of a row that is known to stand, up to its first cell. Assumes nothing.
use mathlib.Core.Path.{◌≡◌, refl, sym}
use mathlib.Core.Bool.{true, false}
use mathlib.Core.List.{List}
use Prim.Native.Nat.{ℕ, ◌+◌, ◌-◌, ◌/◌, ◌%◌, ◌^◌, ◌≤◌, ◌<◌}
use native.Mathlib.Omega.{arith}
use borrow.Author.Tests.{eq-eqb, ne_eqb, ltb-false}
use lib.Dec.{eqb, ltb}
use Rattle.common.specs.Choose.{bind}
use Rattle.common.specs.Got.{got, Took}
use Rattle.common.specs.declared.times.Bases.{Bases}
use Rattle.common.proofs.Choose.{pick_no}
use Rattle.common.proofs.Gives.{gives_is}
use Rattle.common.proofs.Took.{took_first, took_then, took_yes, took_no, took_past, past, on_again}
use Rattle.number_varint.specs.Varints.{varint_at}
use Rattle.number_varint.proofs.Varints.{varint_ends}
use Rattle.data_field.specs.Fields.{timestamp_at, local_at, ttl_at, deletion_at}
use Rattle.data_cell.specs.declared.cells.Times.{Times}
use Rattle.data_field.specs.declared.fields.Deletion.{Deletion}
use Rattle.data_clustering.specs.Sizes.{sizes_at}
use Rattle.data_row.specs.Bodies.{expiry_at, liveness_at, row_deletion_at, columns, present_at, content_at, body_at}

-- ---- sizes
module _ (s : List ℕ) (at end : ℕ) (t : Took (sizes_at s at end)) where
  pub sizes_first : Took (varint_at s at end)
  unfolding sizes_at
  sizes_first = took_first _ _ t

  module _ (size n : ℕ) (e : got size n ≡ varint_at s at end) where
    announced : ltb (end - n) size ≡ false
    unfolding sizes_at
    announced = past _ _ _ _ (took_then _ _ size n e t)

    pub sizes_fits : end < 2 ^ 64 → n + size < 18446744073709551616
    sizes_fits h = omega (arith, ltb-false (end - n) size announced, (gives_is (varint_ends s at end) (sym e)).within)

    pub sizes_second : Took (varint_at s n (n + size))
    unfolding sizes_at
    sizes_second = took_first _ _ (took_past _ _ _ _ (took_then _ _ size n e t))

    pub sizes_are : (p m : ℕ) → got p m ≡ varint_at s n (n + size) → got (n + size) m ≡ sizes_at s at end
    unfolding sizes_at
    sizes_are p m d = on_again _ _ _ size n e (pick_no _ _ _ _ announced (on_again _ _ _ p m d refl))

-- ---- liveness
module _ (b : Bases) (time : ℕ) (s : List ℕ) (at end : ℕ) (t : Took (expiry_at b time s at end)) where
  pub expiry_ttl : Took (ttl_at b s at end)
  unfolding expiry_at
  expiry_ttl = took_first _ _ t

  pub expiry_local : (y n : ℕ) → got y n ≡ ttl_at b s at end → Took (local_at b s n end)
  unfolding expiry_at
  expiry_local y n e = took_first _ _ (took_then _ _ y n e t)

module _ (b : Bases) (f : ℕ) (s : List ℕ) (at end : ℕ) (t : Took (liveness_at b f s at end)) (e : eqb (f / 4 % 2) 1 ≡ true) where
  pub liveness_time : Took (timestamp_at b s at end)
  unfolding liveness_at
  liveness_time = took_first _ _ (took_yes _ _ _ e t)

  pub liveness_expiry : (x n : ℕ) → got x n ≡ timestamp_at b s at end → eqb (f / 8 % 2) 1 ≡ true → Took (expiry_at b x s n end)
  unfolding liveness_at
  liveness_expiry x n d g = took_yes _ _ _ g (took_then _ _ x n d (took_yes _ _ _ e t))

-- ---- deletion
module _ (b : Bases) (s : List ℕ) (at end : ℕ) (t : Took (deletion_at b s at end)) where
  pub deletion_mark : Took (timestamp_at b s at end)
  unfolding deletion_at
  deletion_mark = took_first _ _ t

  pub deletion_local : (x n : ℕ) → got x n ≡ timestamp_at b s at end → Took (local_at b s n end)
  unfolding deletion_at
  deletion_local x n e = took_first _ _ (took_then _ _ x n e t)

pub row_deletion : (b : Bases) (f : ℕ) (s : List ℕ) (at end : ℕ) → Took (row_deletion_at b f s at end) → eqb (f / 16 % 2) 1 ≡ true → Took (deletion_at b s at end)
unfolding row_deletion_at
row_deletion b f s at end t e = took_yes _ _ _ e t

-- ---- the columns that have a cell
module _ (k f : ℕ) (s : List ℕ) (at end : ℕ) (t : Took (present_at k f s at end)) (e : eqb (f / 32 % 2) 1 ≡ false) where
  pub present_first : Took (varint_at s at end)
  unfolding present_at bind
  present_first = took_first _ _ (took_no _ _ _ e t)

  module _ (all : ℕ) (c : all ≡ columns k) (m n : ℕ) (d : got m n ≡ varint_at s at end) where
    few : ltb (columns k) m ≡ false
    unfolding present_at bind
    few = past _ _ _ _ (took_then _ _ m n d (took_no _ _ _ e t))

    pub present_less : m ≤ all
    present_less = omega (arith, ltb-false (columns k) m few)

    pub present_is : got (all - m) n ≡ present_at k f s at end
    unfolding present_at bind
    present_is = rw c (pick_no _ _ _ _ e (on_again _ _ _ m n d (pick_no _ _ _ _ few refl)))

-- ---- before the cells
module _ (b : Bases) (k f stop : ℕ) (s : List ℕ) (at : ℕ) (t : Took (content_at b k f stop s at stop)) where
  pub content_liveness : Took (liveness_at b f s at stop)
  unfolding content_at
  content_liveness = took_first _ _ t

  module _ (row : Times) (n : ℕ) (e : got row n ≡ liveness_at b f s at stop) where
    pub content_deletion : Took (row_deletion_at b f s n stop)
    unfolding content_at
    content_deletion = took_first _ _ (took_then _ _ row n e t)

    pub content_present : (d : Deletion) (m : ℕ) → got d m ≡ row_deletion_at b f s n stop → Took (present_at k f s m stop)
    unfolding content_at
    content_present d m g = took_first _ _ (took_then _ _ d m g (took_then _ _ row n e t))

module _ (b : Bases) (k f : ℕ) (s : List ℕ) (at end : ℕ) (t : Took (body_at b k f s at end)) where
  pub body_sizes : Took (sizes_at s at end)
  unfolding body_at
  body_sizes = took_first _ _ t

  pub body_content : (stop n : ℕ) → got stop n ≡ sizes_at s at end → Took (content_at b k f stop s n stop)
  unfolding body_at
  body_content stop n e = took_then _ _ stop n e t

pub ruleset bodies = (sizes_first, sizes_fits, sizes_second, sizes_are, expiry_ttl, expiry_local, liveness_time, liveness_expiry, deletion_mark, deletion_local, row_deletion, present_first, present_less, present_is, content_liveness, content_deletion, content_present, body_sizes, body_content, on_again, eq-eqb, ne_eqb)
