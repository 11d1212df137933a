-- What is read of a row goes on, not past its end, and is in range. Assumes nothing.
use mathlib.Core.Path.{◌≡◌, refl}
use mathlib.Core.Bool.{false}
use mathlib.Core.List.{List, []}
use mathlib.Core.Logic.{◌⊎◌, inl, inr}
use Prim.Native.Nat.{ℕ, ◌/◌, ◌%◌, ◌≤◌}
use native.Mathlib.Omega.{arith}
use lib.Dec.{ltb, eqb}
use lib.ListN.{length}
use Rattle.common.specs.Got.{Got}
use Rattle.common.proofs.Gives.{Gives, gives_got, gives_bad, gives_on, gives_pick, gives_bind}
use Rattle.common.specs.declared.times.Bases.{Bases}
use Rattle.data_field.proofs.Ranges.{Goes, Moves, goes_none, goes_goes, moves_on, moves_goes, TimestampIn, DeletionIn, deletion_none, byte_gives, varint_moves, in_gives, deletion_gives}
use Rattle.data_cell.proofs.Gives.{TimesIn}
use Rattle.data_clustering.proofs.Gives.{PrefixOk, Sized, prefix_gives, sizes_give}
use Rattle.data_row.specs.Flags.{bad_row_flags, row_flags_at, extended_of, extended_at}
use Rattle.data_turns.specs.Turns.{may_stand}
use Rattle.data_row.specs.Bodies.{times, expiry_at, liveness_at, row_deletion_at, columns, present_at, content_at, body_at}
use Rattle.data_row.specs.Rows.{rest_at, row_at}
use Rattle.data_row.specs.declared.bodies.Body.{Body}
use Rattle.data_row.specs.declared.rows.Row.{Row}

-- ---- flags
pub flags_give : (s : List ℕ) (at end : ℕ) → Gives (row_flags_at s at end) (λ f n. (bad_row_flags f ≡ false) × Moves s at end n)
unfolding row_flags_at
flags_give s at end =
    gives_on _ (byte_gives s at end) (λ f n g.
    gives_pick (bad_row_flags f) (λ e. gives_bad _ _) (λ e. gives_got _ _ (e, g.1)))

extended_of_lem : (first statics x at end n : ℕ) → Goes at end n → Gives (extended_of first statics x at n) (λ y m. (y ≤ 1) × Goes at end m)
unfolding extended_of
extended_of_lem first statics x at end n g =
    gives_pick (eqb x 0) (λ e. gives_got _ _ (omega arith, g)) (λ e.
    gives_pick (eqb x 1)
    (λ f. gives_pick (may_stand first statics) (λ h. gives_got _ _ (omega arith, g)) (λ h. gives_bad _ _)) (λ f.
    gives_pick (eqb x 2) (λ h. gives_bad _ _) (λ h.
    gives_pick (eqb x 128) (λ i. gives_bad _ _) (λ i. gives_bad _ _))))

pub extended_gives : (f first statics : ℕ) (s : List ℕ) (at end : ℕ) → at ≤ end → Gives (extended_at f first statics s at end) (λ x n. (x ≤ 1) × Goes at end n)
unfolding extended_at
extended_gives f first statics s at end l =
    gives_pick (eqb (f / 128 % 2) 1)
    (λ e. gives_on _ (byte_gives s at end) (λ x n g. extended_of_lem first statics x at end n (moves_on g.1)))
    (λ e. gives_got _ _ (omega arith, goes_none l))

-- ---- the body
-- a body that was read from at up to its first cell at n: its end is not before n and not past the end
pub record BodyOk (b : Bases) (k : ℕ) (s : List ℕ) (at end : ℕ) (y : Body) (n : ℕ) : Type 0 where
  pub sized : Sized s at end y.stop n
  pub times : TimesIn b y.times
  pub deletion : DeletionIn b y.deletion
  pub present : y.present ≤ columns k

module _ (b : Bases) (s : List ℕ) (end : ℕ) where
  none_timed : TimesIn b (times 0 0 0 0 0)
  none_timed = record {
    timed = omega arith;
    expires = omega arith;
    timestamp = λ e. absurd (omega arith);
    local = λ e. absurd (omega arith);
    ttl = λ e. absurd (omega arith);
    untimed = λ e. refl;
    lasting = λ e. (refl, refl);
  }

  lasting_timed : (t : ℕ) → TimestampIn b t → TimesIn b (times 1 t 0 0 0)
  lasting_timed t g = record {
    timed = omega arith;
    expires = omega arith;
    timestamp = λ e. g;
    local = λ e. absurd (omega arith);
    ttl = λ e. absurd (omega arith);
    untimed = λ e. absurd (omega arith);
    lasting = λ e. (refl, refl);
  }

  expiry_gives : (t at : ℕ) → TimestampIn b t → Gives (expiry_at b t s at end) (λ row n. TimesIn b row × Moves s at end n)
  unfolding expiry_at
  expiry_gives t at i =
      gives_on _ (in_gives s at end 1 2147483647 b.ttl) (λ y m g.
      gives_on _ (in_gives s m end 0 2147483646 b.local) (λ x n j.
      gives_got _ _ (
        record {
          timed = omega arith;
          expires = omega arith;
          timestamp = λ e. i;
          local = λ e. j.0;
          ttl = λ e. g.0;
          untimed = λ e. absurd (omega arith);
          lasting = λ e. absurd (omega arith);
        },
        moves_goes g.1 (moves_on j.1),
      )))

  pub liveness_gives : (f at : ℕ) → at ≤ end → Gives (liveness_at b f s at end) (λ row n. TimesIn b row × Goes at end n)
  unfolding liveness_at
  liveness_gives f at l =
      gives_pick (eqb (f / 4 % 2) 1)
      (λ e.
      gives_on _ (in_gives s at end 1 18446744073709551615 b.timestamp) (λ t m g.
      gives_pick (eqb (f / 8 % 2) 1)
      (λ d. record { given = λ row n c. let z = (expiry_gives t m g.0).given row n c in (z.0, goes_goes (moves_on g.1) (moves_on z.1)) })
      (λ d. gives_got _ _ (lasting_timed t g.0, moves_on g.1))))
      (λ e. gives_got _ _ (none_timed, goes_none l))

  pub row_deletion_gives : (f at : ℕ) → at ≤ end → Gives (row_deletion_at b f s at end) (λ d n. DeletionIn b d × Goes at end n)
  unfolding row_deletion_at
  row_deletion_gives f at l =
      gives_pick (eqb (f / 16 % 2) 1)
      (λ e. record { given = λ d n c. let z = (deletion_gives b s at end).given d n c in (z.1, moves_on z.2) })
      (λ e. gives_got _ _ (deletion_none b, goes_none l))

  pub present_gives : (k f at : ℕ) → at ≤ end → Gives (present_at k f s at end) (λ x n. (x ≤ columns k) × Goes at end n)
  unfolding present_at
  present_gives k f at l =
      gives_bind _ _
      (gives_pick (eqb (f / 32 % 2) 1)
      (λ e. gives_got _ _ (omega arith, goes_none l))
      (λ e.
      gives_on _ (varint_moves s at end) (λ m n g.
      gives_pick (ltb (columns k) m) (λ d. gives_bad _ _) (λ d. gives_got _ _ (omega arith, moves_on g)))))

  pub content_gives : (k f stop at : ℕ) → at ≤ end
      → Gives (content_at b k f stop s at end) (λ y n. (y.stop ≡ stop) × TimesIn b y.times × DeletionIn b y.deletion × (y.present ≤ columns k) × Goes at end n)
  unfolding content_at
  content_gives k f stop at l =
      gives_on _ (liveness_gives f at l) (λ row m g.
      gives_on _ (row_deletion_gives f m g.1.within) (λ d p j.
      gives_on _ (present_gives k f p j.1.within) (λ x n i.
      gives_got _ _ (refl, g.0, j.0, i.0, goes_goes g.1 (goes_goes j.1 i.1)))))

pub body_gives : (b : Bases) (k f : ℕ) (s : List ℕ) (at end : ℕ) → Gives (body_at b k f s at end) (BodyOk b k s at end)
unfolding body_at
body_gives b k f s at end = gives_on _ (sizes_give s end at) (λ stop m g. inner stop m g (content_gives b s stop k f stop m g.within))
  where
    inner : (stop m : ℕ) → Sized s at end stop m → {x : Got Body}
        → Gives x (λ y n. (y.stop ≡ stop) × TimesIn b y.times × DeletionIn b y.deletion × (y.present ≤ columns k) × Goes m stop n) → Gives x (BodyOk b k s at end)
    inner stop m g h = record {
      given = λ y n e.
          let z = h.given y n e in
          record {
            sized = record {
              past = omega (arith, g.past, z.4.on);
              within = omega (arith, z.0, z.4.within);
              stops = omega (arith, z.0, g.stops);
              inside = g.inside;
            };
            times = z.1;
            deletion = z.2;
            present = z.3;
          };
    }

-- ---- the row
-- what was read behind flags and extended byte, from at up to the first cell at n
pub record RestOk (b : Bases) (ws : List ℕ) (k : ℕ) (s : List ℕ) (at end : ℕ) (r : Row) (n : ℕ) : Type 0 where
  pub sizes : ℕ
  pub prefix : PrefixOk s ws at end r.prefix sizes
  pub body : BodyOk b k s sizes end r.body n

-- a row that was read from at up to its first cell at n; behind its flags and extended byte stands what is its own
pub record RowOk (b : Bases) (ws : List ℕ) (statics regulars : ℕ) (s : List ℕ) (at end : ℕ) (r : Row) (n : ℕ) : Type 0 where
  pub start : r.start ≡ at
  pub clustering : ℕ
  pub moves : Moves s at end clustering
  pub rest : ((r.extended ≡ 1) × RestOk b [] statics s clustering end r n) ⊎ ((r.extended ≡ 0) × RestOk b ws regulars s clustering end r n)

rest_gives : (b : Bases) (ws : List ℕ) (k start f x : ℕ) (s : List ℕ) (at end : ℕ) → end ≤ length s → at ≤ end
    → Gives (rest_at b ws k start f x s at end) (λ r n. (r.start ≡ start) × (r.extended ≡ x) × RestOk b ws k s at end r n)
unfolding rest_at
rest_gives b ws k start f x s at end h l =
    gives_on _ (prefix_gives s end h ws at l) (λ p m g.
    gives_on _ (body_gives b k f s m end) (λ y n j.
    gives_got _ _ (refl, refl, record { sizes = m; prefix = g; body = j })))

pub row_gives : (b : Bases) (ws : List ℕ) (statics regulars first : ℕ) (s : List ℕ) (at end : ℕ)
    → Gives (row_at b ws statics regulars first s at end) (RowOk b ws statics regulars s at end)
unfolding row_at
row_gives b ws statics regulars first s at end =
    gives_on _ (flags_give s at end) (λ f m g.
    gives_on _ (extended_gives f first statics s m end g.1.within) (λ x p j.
    gives_pick (eqb x 1)
    (λ e. record {
      given = λ r n c.
          let z = (rest_gives b [] statics at f 1 s p end g.1.inside j.1.within).given r n c in
          record { start = z.0; clustering = p; moves = moves_goes g.1 j.1; rest = inl (z.1, z.2) };
    })
    (λ e. record {
      given = λ r n c.
          let z = (rest_gives b ws regulars at f 0 s p end g.1.inside j.1.within).given r n c in
          record { start = z.0; clustering = p; moves = moves_goes g.1 j.1; rest = inr (z.1, z.2) };
    })))
