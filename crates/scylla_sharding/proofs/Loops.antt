-- A loop that reads one thing after the other, whatever it reads. Assumes nothing.
use mathlib.Core.Path.{◌≡◌, refl, sym, ap, ◌∙◌}
use mathlib.Core.List.{List}
use Prim.Native.Nat.{ℕ, zero, suc, ◌+◌, ◌-◌, ◌≤◌, ◌<◌}
use native.Mathlib.Omega.{arith}
use Rattle.common.specs.Got.{Got, got, bad, on, Reader}
use Rattle.common.specs.declared.refusal.Fault.{Fault}
use Rattle.scylla_sharding.specs.Regions.{times}

-- of n readings i are done, a what was read, p the place: with those to come they give z
pub record Repeats {A : Type 0} (f : A → Reader A) (z : Got A) (s : List ℕ) (end n i p : ℕ) (a : A) : Type 0 where
  pub rest : times f (n - i) a s p end ≡ z

module _ {A : Type 0} (f : A → Reader A) (s : List ℕ) (end : ℕ) where
  pub repeats_none : (n p : ℕ) (a : A) → Repeats f (times f n a s p end) s end n 0 p a
  repeats_none n p a =
      let e : n - 0 ≡ n = omega arith in
      record { rest = ap (λ k. times f k a s p end) e }

  pub repeats_from : (n p : ℕ) (a b : A) → b ≡ a → Repeats f (times f n a s p end) s end n 0 p b
  repeats_from n p a b e = rw e (repeats_none n p a)

  times_more : (k j p q : ℕ) (a b : A) → k ≡ j + 1 → f a s p end ≡ got b q → times f k a s p end ≡ times f j b s q end
  unfolding times on
  times_more zero j p q a b h e = absurd (omega (arith, h))
  times_more (suc k) j p q a b h e =
      let g : j ≡ k = omega (arith, h) in
      rw (e, g)

  times_bad : (k p q : ℕ) (y : Fault) (a : A) → 0 < k → f a s p end ≡ bad y q → times f k a s p end ≡ bad y q
  unfolding times on
  times_bad zero p q y a h e = absurd (omega arith)
  times_bad (suc k) p q y a h e = rw e

  times_none : (k p : ℕ) (a : A) → k ≤ 0 → times f k a s p end ≡ got a p
  unfolding times
  times_none zero p a h = refl
  times_none (suc k) p a h = absurd (omega arith)

  module _ (z : Got A) (n i p : ℕ) (a : A) (so : Repeats f z s end n i p a) where
    pub repeats_more : (q : ℕ) (b : A) → i < n → f a s p end ≡ got b q → Repeats f z s end n (i + 1) q b
    repeats_more q b h e = record { rest = sym (times_more (n - i) (n - (i + 1)) p q a b (omega (arith, h)) e) ∙ so.rest }

    pub repeats_bad : (y : Fault) (q : ℕ) → i < n → f a s p end ≡ bad y q → bad y q ≡ z
    repeats_bad y q h e = sym (times_bad (n - i) p q y a (omega (arith, h)) e) ∙ so.rest

    pub repeats_end : n ≤ i → got a p ≡ z
    repeats_end h = sym (times_none (n - i) p a (omega (arith, h))) ∙ so.rest

pub ruleset repeating = (repeats_none, repeats_from, repeats_more, repeats_bad, repeats_end)
