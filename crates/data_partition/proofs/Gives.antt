-- What is read of a partition's header goes on, not past its end, and is in range. Assumes nothing.
use mathlib.Core.Path.{◌≡◌, refl}
use mathlib.Core.List.{List}
use Prim.Native.Nat.{ℕ, ◌+◌, ◌-◌, ◌^◌, ◌≤◌, ◌<◌}
use native.Mathlib.Omega.{arith}
use borrow.Author.Tests.{ltb-false, eqb-false}
use lib.Dec.{ltb, eqb}
use lib.ListN.{length, get_or}
use Rattle.number_fixed.specs.BigEndian.{fixed_at}
use Rattle.common.proofs.Choose.{pick_ind}
use Rattle.common.proofs.Gives.{Gives, gives_got, gives_bad, gives_on, gives_pick, gives_bind}
use Rattle.number_fixed.proofs.BigEndian.{Fixed, fixed_gives}
use Rattle.data_field.specs.declared.fields.Deletion.{Deletion}
use Rattle.data_field.specs.declared.fields.Span.{Span}
use Rattle.data_field.proofs.Ranges.{Moves, moves_moves, fixed_moves}
use Rattle.common.specs.Times.{biased}
use Rattle.data_partition.specs.Partitions.{key_of, deleted_by, deleted_at, partition_at}
use Rattle.data_partition.specs.declared.partitions.Partition.{Partition}

-- a partition's deletion in range, which no base bounds; or none
pub record DeletedIn (d : Deletion) : Type 0 where
  pub deleted : d.deleted ≤ 1
  pub least : 1 ≤ d.deleted → 1 ≤ d.mark
  pub most : d.mark < 2 ^ 64
  pub local : d.local ≤ 2147483646
  pub none : d.deleted ≡ 0 → (d.mark ≡ 0) × (d.local ≡ 0)

-- a partition that was read from at up to n: its key lies in the slice, and has no place where it is empty
pub record PartitionOk (s : List ℕ) (at end : ℕ) (x : Partition) (n : ℕ) : Type 0 where
  pub moves : Moves s at end n
  pub lies : x.key.start + x.key.len ≤ length s
  pub short : x.key.len < 2 ^ 16
  pub empty : x.key.len ≡ 0 → x.key.start ≡ 0
  pub deletion : DeletedIn x.deletion

module _ (len start : ℕ) where
  key_lies : (size : ℕ) → start + len ≤ size → (key_of start len).start + (key_of start len).len ≤ size
  unfolding key_of
  key_lies size h = pick_ind (λ (v : Span). v.start + v.len ≤ size) _ _ (eqb len 0) (λ e. omega arith) (λ e. h)

  key_short : len < 2 ^ 16 → (key_of start len).len < 2 ^ 16
  unfolding key_of
  key_short h = pick_ind (λ (v : Span). v.len < 2 ^ 16) _ _ (eqb len 0) (λ e. omega arith) (λ e. h)

  key_empty : (key_of start len).len ≡ 0 → (key_of start len).start ≡ 0
  unfolding key_of
  key_empty = pick_ind (λ (v : Span). v.len ≡ 0 → v.start ≡ 0) _ _ (eqb len 0) (λ e _. refl) (λ e z. absurd (eqb-false len 0 e z))

biased_lt : (x : ℕ) → x < 2 ^ 64 → biased x < 2 ^ 64
unfolding biased
biased_lt x h = omega arith

deleted_by_lem : (x t at p n : ℕ) (P : ℕ → Type 0) → x ≤ 2147483647 → t < 2 ^ 64 → P n → Gives (deleted_by x t at p n) (λ d m. DeletedIn d × P m)
unfolding deleted_by
deleted_by_lem x t at p n P h k q =
    gives_pick (eqb x 2147483647)
    (λ e.
    gives_pick (eqb t 0)
    (λ f. gives_got _ _ (record { deleted = omega arith; least = λ l. absurd (omega arith); most = omega arith; local = omega arith; none = λ z. (refl, refl) }, q))
    (λ f. gives_bad _ _))
    (λ e.
    gives_pick (eqb t 0) (λ f. gives_bad _ _)
    (λ f.
    let u = eqb-false x 2147483647 e in
    let v = eqb-false t 0 f in
    gives_got _ _ (record { deleted = omega arith; least = λ l. omega arith; most = k; local = omega arith; none = λ z. absurd (omega arith) }, q)))

module _ (s : List ℕ) (bytes : (k : ℕ) → get_or s k 0 < 256) (end : ℕ) where
  number_gives : (w at : ℕ) → 1 ≤ w → Gives (fixed_at w s at end) (λ v n. Fixed w at end v n × Moves s at end n)
  number_gives w at l = record { given = λ v n e. ((fixed_gives w s at end bytes).given v n e, (fixed_moves s at end w l).given v n e) }

  pub deleted_gives : (at : ℕ) → Gives (deleted_at s at end) (λ d n. DeletedIn d × Moves s at end n)
  unfolding deleted_at
  deleted_gives at =
      gives_on _ (number_gives 4 at (omega arith)) (λ x p g.
      gives_pick (ltb 2147483647 x) (λ e. gives_bad _ _) (λ e.
      gives_on _ (number_gives 8 p (omega arith)) (λ y n j.
      gives_bind _ _ (deleted_by_lem x (biased y) at p n (λ m. Moves s at end m) (ltb-false 2147483647 x e) (biased_lt y j.0.small) (moves_moves g.1 j.1)))))

  pub partition_gives : (at : ℕ) → Gives (partition_at s at end) (PartitionOk s at end)
  unfolding partition_at
  partition_gives at =
      gives_on _ (number_gives 2 at (omega arith)) (λ len m g.
      gives_pick (ltb (end - m) len) (λ e. gives_bad _ _) (λ e.
      gives_on _ (deleted_gives (m + len)) (λ d n j.
      gives_bind _ _ (gives_got _ _ (found len m d n g.0.small g.1 (omega (arith, ltb-false (end - m) len e, g.1.within)) j)))))
    where
      found : (len m : ℕ) (d : Deletion) (n : ℕ) → len < 2 ^ 16 → Moves s at end m → m + len ≤ end → DeletedIn d × Moves s (m + len) end n
          → PartitionOk s at end (record { key = key_of m len; deletion = d }) n
      found len m d n k g l j = record {
        moves = record { past = omega (arith, g.past, j.1.past); within = j.1.within; inside = g.inside };
        lies = key_lies len m (length s) (omega (arith, g.inside));
        short = key_short len m k;
        empty = key_empty len m;
        deletion = j.0;
      }
