-- What is read of a marker goes on, not past its end, and is in range. Assumes nothing.
use mathlib.Core.Path.{◌≡◌, refl}
use mathlib.Core.Bool.{Bool, true, false}
use mathlib.Core.List.{List}
use Prim.Native.Nat.{ℕ, ◌≤◌}
use native.Mathlib.Omega.{arith}
use borrow.Author.Tests.{ltb-false}
use lib.Dec.{ltb, eqb}
use lib.ListN.{length, take}
use Rattle.common.proofs.Gives.{Gives, gives_got, gives_bad, gives_on, gives_pick}
use Rattle.data_field.specs.Fields.{live}
use Rattle.common.specs.declared.times.Bases.{Bases}
use Rattle.data_field.specs.declared.fields.Deletion.{Deletion}
use Rattle.data_field.proofs.Ranges.{Goes, Moves, goes_none, moves_on, moves_goes, moves_moves, DeletionIn, deletion_none, byte_gives, fixed_moves, deletion_gives}
use Rattle.data_clustering.proofs.Gives.{PrefixOk, prefix_gives, sizes_give}
use Rattle.data_marker.specs.Kinds.{marker_flags_at, kind_at, count_at}
use Rattle.data_turns.specs.Turns.{bad_kind, is_start, is_boundary, out_of_turn}
use Rattle.data_marker.specs.Markers.{first_at, second_at, deletions_at, body_at, bound_at, marker_at}
use Rattle.data_turns.specs.Turns.{same_deletion}
use Rattle.data_marker.specs.declared.markers.Deletions.{Deletions}
use Rattle.data_marker.specs.declared.markers.Marker.{Marker}

-- the deletions of a marker of a kind: one there is always
pub record DeletionsIn (b : Bases) (kind : ℕ) (d : Deletions) : Type 0 where
  pub deleted : d.first.deleted ≡ 1
  pub first : DeletionIn b d.first
  pub second : DeletionIn b d.second
  pub boundary : is_boundary kind ≡ true → d.second.deleted ≡ 1
  pub bound : is_boundary kind ≡ false → d.second ≡ live

never : {C : Type 0} {t : Bool} → t ≡ true → t ≡ false → C
never e f = let z : ◌≡◌ {A = ℕ} 0 1 = cc in absurd (omega arith)

module _ (b : Bases) (kind : ℕ) (s : List ℕ) where
  pub first_gives : (opened : Deletion) (at end : ℕ)
      → Gives (first_at b kind opened s at end) (λ d n. (d.deleted ≡ 1) × DeletionIn b d × (is_start kind ≡ false → same_deletion opened d ≡ true) × Moves s at end n)
  unfolding first_at
  first_gives opened at end =
      gives_on _ (deletion_gives b s at end) (λ d n g.
      gives_pick (is_start kind)
      (λ e. gives_got _ _ (g.0, g.1, (λ f. never e f), g.2))
      (λ e. gives_pick (same_deletion opened d) (λ f. gives_got _ _ (g.0, g.1, (λ _. f), g.2)) (λ f. gives_bad _ _)))

  abbrev Second : Deletion → Type 0
  Second d = DeletionIn b d × (is_boundary kind ≡ true → d.deleted ≡ 1) × (is_boundary kind ≡ false → d ≡ live)

  second_gives : (at end : ℕ) → at ≤ end → Gives (second_at b kind s at end) (λ d n. Second d × Goes at end n)
  unfolding second_at
  second_gives at end l =
      gives_pick (is_boundary kind)
      (λ e. record { given = λ d n c. let z = (deletion_gives b s at end).given d n c in ((z.1, (λ _. z.0), (λ f. never e f)), moves_on z.2) })
      (λ e. gives_got _ _ ((deletion_none b, (λ f. never f e), (λ _. refl)), goes_none l))

  deletions_give : (opened : Deletion) (at end : ℕ) → Gives (deletions_at b kind opened s at end) (λ d n. DeletionsIn b kind d × Moves s at end n × (n ≡ end))
  unfolding deletions_at
  deletions_give opened at end =
      gives_on _ (first_gives opened at end) (λ d m g.
      gives_on _ (second_gives m end g.3.within) (λ e n j.
      gives_pick (ltb n end) (λ c. gives_bad _ _) (λ c.
      gives_got _ _ (
        record { deleted = g.0; first = g.1; second = j.0.0; boundary = j.0.1; bound = j.0.2 },
        moves_goes g.3 j.1,
        omega (arith, ltb-false n end c, j.1.within),
      ))))

  pub body_gives : (opened : Deletion) (at end : ℕ) → Gives (body_at b kind opened s at end) (λ d n. DeletionsIn b kind d × Moves s at end n)
  unfolding body_at
  body_gives opened at end = gives_on _ (sizes_give s end at) (λ stop m g. record {
    given = λ d n c.
        let z = (deletions_give opened m stop).given d n c in
        (z.0, record { past = omega (arith, g.past, z.1.past); within = omega (arith, z.1.within, g.stops); inside = g.inside });
  })

pub flags_give : (s : List ℕ) (at end : ℕ) → Gives (marker_flags_at s at end) (λ f n. Moves s at end n)
unfolding marker_flags_at
flags_give s at end = gives_on _ (byte_gives s at end) (λ f n g. gives_pick (eqb f 2) (λ e. gives_got _ _ g.1) (λ e. gives_bad _ _))

pub kind_gives : (opened : ℕ) (s : List ℕ) (at end : ℕ) → Gives (kind_at opened s at end) (λ kind n. (bad_kind kind ≡ false) × (out_of_turn kind opened ≡ false) × Moves s at end n)
unfolding kind_at
kind_gives opened s at end =
    gives_on _ (byte_gives s at end) (λ kind n g.
    gives_pick (bad_kind kind) (λ e. gives_bad _ _) (λ e.
    gives_pick (out_of_turn kind opened) (λ f. gives_bad _ _) (λ f. gives_got _ _ (e, f, g.1))))

pub count_gives : (k : ℕ) (s : List ℕ) (at end : ℕ) → Gives (count_at k s at end) (λ count n. (count ≤ k) × Moves s at end n)
unfolding count_at
count_gives k s at end =
    gives_on _ (fixed_moves s at end 2 (omega arith)) (λ count n g.
    gives_pick (ltb k count) (λ e. gives_bad _ _) (λ e. gives_got _ _ (ltb-false k count e, g)))

-- what was read behind the kind, from at up to n: the prefix has the first columns, and the deletions are in range
pub record BoundOk (b : Bases) (ws : List ℕ) (s : List ℕ) (at end : ℕ) (m : Marker) (n : ℕ) : Type 0 where
  pub count : m.count ≤ length ws
  pub clustering : ℕ
  pub sizes : ℕ
  pub begins : Moves s at end clustering
  pub prefix : PrefixOk s (take m.count ws) clustering end m.prefix sizes
  pub body : Moves s sizes end n
  pub deletions : DeletionsIn b m.kind m.deletions

-- a marker that was read from at up to n
pub record MarkerOk (b : Bases) (ws : List ℕ) (opened : Deletion) (s : List ℕ) (at end : ℕ) (m : Marker) (n : ℕ) : Type 0 where
  pub start : m.start ≡ at
  pub kind : bad_kind m.kind ≡ false
  pub turn : out_of_turn m.kind opened.deleted ≡ false
  pub bound : ℕ
  pub moves : Moves s at end bound
  pub rest : BoundOk b ws s bound end m n

bound_gives : (b : Bases) (ws : List ℕ) (opened : Deletion) (start kind : ℕ) (s : List ℕ) (at end : ℕ)
    → Gives (bound_at b ws opened start kind s at end) (λ m n. (m.start ≡ start) × (m.kind ≡ kind) × BoundOk b ws s at end m n)
unfolding bound_at
bound_gives b ws opened start kind s at end =
    gives_on _ (count_gives (length ws) s at end) (λ count p g.
    gives_on _ (prefix_gives s end g.1.inside (take count ws) p g.1.within) (λ x q j.
    gives_on _ (body_gives b kind s opened q end) (λ d n i.
    gives_got _ _ (refl, refl, record { count = g.0; clustering = p; sizes = q; begins = g.1; prefix = j; body = i.1; deletions = i.0 }))))

pub marker_gives : (b : Bases) (ws : List ℕ) (opened : Deletion) (s : List ℕ) (at end : ℕ) → Gives (marker_at b ws opened s at end) (MarkerOk b ws opened s at end)
unfolding marker_at
marker_gives b ws opened s at end =
    gives_on _ (flags_give s at end) (λ f p g.
    gives_on _ (kind_gives opened.deleted s p end) (λ kind q j. record {
      given = λ m n c.
          let z = (bound_gives b ws opened at kind s q end).given m n c in
          record {
            start = z.0;
            kind = rw z.1 j.0;
            turn = rw z.1 j.1;
            bound = q;
            moves = moves_moves g j.2;
            rest = z.2;
          };
    }))
