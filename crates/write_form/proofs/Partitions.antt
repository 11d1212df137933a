-- A partition's header in the writer's form is read back. Assumes nothing.
use mathlib.Core.Path.{◌≡◌, refl, sym, ◌∙◌, subst}
use mathlib.Core.List.{List, ◌++◌}
use Prim.Native.Nat.{ℕ, zero, suc, ◌+◌, ◌-◌, ◌^◌, ◌≤◌, ◌<◌}
use native.Mathlib.Omega.{arith}
use borrow.Author.Tests.{le-ltb, ne_eqb, eq-eqb}
use lib.Dec.{eqb}
use lib.ListN.{length}
use Rattle.common.specs.Choose.{pick, bind}
use Rattle.common.specs.Store.{shown}
use Rattle.number_fixed.specs.BigEndian.{bytes_of}
use Rattle.common.specs.Times.{biased}
use Rattle.common.proofs.Choose.{pick_ind}
use Rattle.common.proofs.RoundTrip.{Reads, reads_got, reads_at, reads_yes, reads_no}
use Rattle.common.proofs.Stands.{Stands, stands_left, stands_right}
use Rattle.number_fixed.proofs.BigEndian.{fixed_back}
use Rattle.data_field.specs.Fields.{deletion, live}
use Rattle.data_field.specs.declared.fields.Deletion.{Deletion}
use Rattle.data_field.specs.declared.fields.Span.{Span}
use Rattle.data_partition.specs.Partitions.{key_of, deleted_by, deleted_at, partition_at}
use Rattle.data_partition.proofs.Gives.{DeletedIn}
use Rattle.write_form.specs.Views.{show_value}
use Rattle.write_form.specs.Partitions.{header_local, deleted_bytes, head_bytes}
use Rattle.write_form.proofs.Fields.{stands_shown, shown_none, no_bytes}

biased_lt : (x : ℕ) → biased x < 2 ^ 64
unfolding biased
biased_lt x = omega arith

biased_twice : (x : ℕ) → x < 2 ^ 64 → biased (biased x) ≡ x
unfolding biased
biased_twice x h = omega arith

key_back : (s : List ℕ) (end at n : ℕ) (key : List ℕ) → Stands s end at n key → show_value s (key_of at (length key)) ≡ key
unfolding key_of
key_back s end at n key h =
    pick_ind (λ (v : Span). shown s v.start v.len ≡ key) _ _ (eqb (length key) 0) (λ e. shown_none s ∙ no_bytes key e) (λ e. stands_shown s end at n key h)

-- ---- the deletion
local_live : (t x : ℕ) → header_local (deletion 0 t x) ≡ 2147483647
unfolding header_local pick
local_live t x = refl

local_deleted : (t x : ℕ) → header_local (deletion 1 t x) ≡ x
unfolding header_local pick
local_deleted t x = refl

module _ (t x at p n : ℕ) where
  by_live : DeletedIn (deletion 0 t x) → Reads (deleted_by 2147483647 t at p n) n (λ d. d ≡ deletion 0 t x)
  unfolding deleted_by
  by_live i = let z = i.none refl in reads_yes _ _ refl (reads_yes _ _ (eq-eqb t 0 z.0) (reads_got live n (λ j. deletion 0 (sym z.0 j) (sym z.1 j))))

  by_deleted : DeletedIn (deletion 1 t x) → Reads (deleted_by x t at p n) n (λ d. d ≡ deletion 1 t x)
  unfolding deleted_by
  by_deleted i = reads_no _ _ (ne_eqb x 2147483647 (λ z. absurd (omega (arith, i.local)))) (reads_no _ _ (ne_eqb t 0 (λ z. absurd (omega (arith, i.least (omega arith))))) (reads_got _ n refl))

module _ (s : List ℕ) (end at n : ℕ) where
  -- local time and mark, and then the deletion that they say
  numbers_back : (d : Deletion) → d.mark < 2 ^ 64 → header_local d ≤ 2147483647 → Stands s end at n (deleted_bytes d)
      → Reads (deleted_by (header_local d) d.mark at (at + length (bytes_of (header_local d) 4)) n) n (λ x. x ≡ d) → Reads (deleted_at s at end) n (λ x. x ≡ d)
  unfolding deleted_at deleted_bytes bind
  numbers_back d l m h g =
      reads_at _ (fixed_back 4 s end at _ (header_local d) (omega arith) (omega arith) (stands_left s end at n (bytes_of (header_local d) 4) (bytes_of (biased d.mark) 8) h))
      (reads_no _ _ (le-ltb 2147483647 (header_local d) m)
      (reads_at _ (fixed_back 8 s end _ n (biased d.mark) (omega arith) (omega (arith, biased_lt d.mark)) (stands_right s end at n (bytes_of (header_local d) 4) (bytes_of (biased d.mark) 8) h))
      (subst (λ t. Reads (deleted_by (header_local d) t at (at + length (bytes_of (header_local d) 4)) n) n (λ x. x ≡ d)) (sym (biased_twice d.mark l)) g)))

  deleted_back : (d : Deletion) → DeletedIn d → Stands s end at n (deleted_bytes d) → Reads (deleted_at s at end) n (λ x. x ≡ d)
  deleted_back d i h = go d.deleted d.mark d.local i h
    where
      go : (k t x : ℕ) → DeletedIn (deletion k t x) → Stands s end at n (deleted_bytes (deletion k t x)) → Reads (deleted_at s at end) n (λ y. y ≡ deletion k t x)
      go zero t x i h = numbers_back (deletion 0 t x) i.most (omega (arith, local_live t x)) h (rw (local_live t x) (by_live t x at _ n i))
      go (suc zero) t x i h = numbers_back (deletion 1 t x) i.most (omega (arith, local_deleted t x, i.local)) h (rw (local_deleted t x) (by_deleted t x at _ n i))
      go (suc (suc k)) t x i h = absurd (omega (arith, i.deleted))

pub partition_back : (s : List ℕ) (end at n : ℕ) (key : List ℕ) (d : Deletion) → length key < 2 ^ 16 → DeletedIn d → Stands s end at n (head_bytes key d)
    → Reads (partition_at s at end) n (λ h. (show_value s h.key ≡ key) × (h.deletion ≡ d))
unfolding partition_at head_bytes bind
partition_back s end at n key d l i h =
    let h₁ = stands_right s end at n (bytes_of (length key) 2) (key ++ deleted_bytes d) h in
    let h₂ = stands_left s end _ n key (deleted_bytes d) h₁ in
    reads_at _ (fixed_back 2 s end at _ (length key) (omega arith) (omega arith) (stands_left s end at n (bytes_of (length key) 2) (key ++ deleted_bytes d) h))
    (reads_no _ _ (le-ltb (end - (at + length (bytes_of (length key) 2))) (length key) (omega (arith, h₂.within)))
    (reads_at _ (deleted_back s end _ n d i (stands_right s end _ n key (deleted_bytes d) h₁))
    (reads_got _ n (key_back s end _ _ key h₂, refl))))
