-- A cell that is known to stand, and so its parts. Assumes nothing.
use mathlib.Core.Path.{◌≡◌, refl}
use mathlib.Core.Bool.{true, false}
use mathlib.Core.List.{List}
use Prim.Native.Nat.{ℕ, ◌/◌, ◌%◌}
use borrow.Author.Tests.{eq-eqb, ne_eqb}
use lib.Dec.{eqb}
use Rattle.common.specs.Got.{Got, got, on, Took}
use Rattle.common.specs.declared.times.Bases.{Bases}
use Rattle.common.proofs.Choose.{pick_no}
use Rattle.common.proofs.Took.{took_first, took_then, took_yes, took_no, took_past, past, on_again}
use Rattle.data_field.specs.Fields.{byte_at, timestamp_at, local_at, ttl_at, value_at}
use Rattle.data_cell.specs.Cells.{flags_at, time_at, own_at, lasting_at, last_at, content_at, cell_at}
use Rattle.data_cell.specs.declared.cells.Times.{Times}
use Rattle.data_cell.proofs.Parts.{timed_is, content_is}

-- ---- the timestamp, the expiry, the value
module _ (b : Bases) (row : Times) (f : ℕ) (s : List ℕ) (at end : ℕ) where
  pub time_own : Took (time_at b row f s at end) → eqb (f / 8 % 2) 1 ≡ false → Took (timestamp_at b s at end)
  unfolding time_at
  time_own t e = took_no _ _ _ e t

  pub lasting_own : Took (lasting_at b row f s at end) → eqb (f / 2 % 2) 1 ≡ true → eqb (f / 16 % 2) 1 ≡ false → Took (own_at b s at end)
  unfolding lasting_at
  lasting_own t e d = took_no _ _ _ d (took_yes _ _ _ e t)

module _ (b : Bases) (s : List ℕ) (at end : ℕ) (t : Took (own_at b s at end)) where
  pub own_local : Took (local_at b s at end)
  unfolding own_at
  own_local = took_first _ _ t

  pub own_ttl : (x n : ℕ) → got x n ≡ local_at b s at end → Took (ttl_at b s n end)
  unfolding own_at
  own_ttl x n e = took_first _ _ (took_then _ _ x n e t)

pub last_value : (w f kind time local ttl : ℕ) (s : List ℕ) (at end : ℕ) → Took (last_at w f kind time local ttl s at end) → eqb (f / 4 % 2) 1 ≡ false → Took (value_at w s at end)
unfolding last_at
last_value w f kind time local ttl s at end t e = took_first _ _ (took_no _ _ _ e t)

-- ---- what follows the timestamp
module _ (b : Bases) (row : Times) (w f time : ℕ) (s : List ℕ) (at end : ℕ) (t : Took (content_at b row w f time s at end)) where
  pub content_local : eqb (f % 2) 1 ≡ true → Took (local_at b s at end)
  unfolding content_at
  content_local e = took_first _ _ (took_yes _ _ _ e t)

  module _ (e : eqb (f % 2) 1 ≡ false) where
    by_parts : Took (on (lasting_at b row f s at end) (λ x n. last_at w f x.0 time x.1 x.2 s n end))
    by_parts = rw (← content_is b row w f s at end _ time e refl) at t

    pub content_lasting : Took (lasting_at b row f s at end)
    content_lasting = took_first _ _ by_parts

    pub content_last : (x : ℕ × ℕ × ℕ) (n : ℕ) → got x n ≡ lasting_at b row f s at end → Took (last_at w f x.0 time x.1 x.2 s n end)
    content_last x n g = took_then _ _ x n g by_parts

    pub content_by : (x : ℕ × ℕ × ℕ) (n : ℕ) → got x n ≡ lasting_at b row f s at end → (q : Got _) → q ≡ last_at w f x.0 time x.1 x.2 s n end → q ≡ content_at b row w f time s at end
    content_by x n g q h = content_is b row w f s at end q time e (on_again _ _ _ x n g h)

-- ---- the whole cell
module _ (b : Bases) (row : Times) (w : ℕ) (s : List ℕ) (at end : ℕ) (t : Took (cell_at b row w s at end)) where
  flags : Took (flags_at row s at end)
  unfolding cell_at
  flags = took_first _ _ t

  pub cell_byte : Took (byte_at s at end)
  unfolding flags_at
  cell_byte = took_first _ _ flags

  module _ (f n : ℕ) (d : got f n ≡ byte_at s at end) where
    e : got f n ≡ flags_at row s at end
    unfolding flags_at
    e = on_again _ _ _ f n d (pick_no _ _ _ _ (past _ _ _ _ (took_then _ _ f n d flags)) refl)

    timed : Took (on (time_at b row f s n end) (λ x m. content_at b row w f x s m end))
    unfolding cell_at
    timed = rw (← timed_is b row w f s n end _ refl) at (took_then _ _ f n e t)

    pub cell_time : Took (time_at b row f s n end)
    cell_time = took_first _ _ timed

    module _ (x m : ℕ) (g : got x m ≡ time_at b row f s n end) where
      pub cell_content : Took (content_at b row w f x s m end)
      cell_content = took_then _ _ x m g timed

      pub cell_is : (q : Got _) → q ≡ content_at b row w f x s m end → q ≡ cell_at b row w s at end
      unfolding cell_at
      cell_is q h = on_again _ _ _ f n e (timed_is b row w f s n end q (on_again _ _ _ x m g h))

pub ruleset cells = (time_own, lasting_own, own_local, own_ttl, last_value, content_local, content_lasting, content_last, content_by, cell_byte, cell_time, cell_content, cell_is, on_again, eq-eqb, ne_eqb)
