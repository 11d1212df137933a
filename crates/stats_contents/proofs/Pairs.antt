-- The loop over the pairs of the contents. Assumes nothing.
use Rattle.std.proofs.Common.{Ok, Err}
use mathlib.Core.Path.{◌≡◌, refl, sym, ap, ◌∙◌}
use mathlib.Core.List.{List}
use Prim.Native.Nat.{ℕ, suc, ◌+◌, ◌-◌, ◌≤◌, ◌<◌}
use native.Mathlib.Omega.{arith}
use Rattle.common.specs.Got.{bad, Reading, said}
use Rattle.common.specs.declared.reading.Bad.{Bad}
use borrow.Author.Tests.{ltb-false}
use lib.Dec.{ltb}
use Rattle.common.proofs.Gives.{gives_on, gives_got, gives_bad, gives_pick, gives_is}
use Rattle.common.proofs.Said.{on_ok, on_err, said_got}
use Rattle.stats_contents.specs.Contents.{none, with_entry, entry_type_at, offset_at, pairs_at, count_at}
use Rattle.stats_contents.specs.declared.contents.Contents.{Contents}

-- of n pairs, i are read into c, and the rest begins at p
pub record Pairing (n start : ℕ) (s : List ℕ) (at end : ℕ) (c : Contents) (p i : ℕ) : Type 0 where
  pub within : i ≤ n
  pub rest : pairs_at (n - i) c start s p end ≡ pairs_at n none start s at end

module _ (n start : ℕ) (s : List ℕ) (at end : ℕ) where
  pub pairing_none : Pairing n start s at end none at 0
  pairing_none = record { within = omega arith; rest = ap (λ (k : ℕ). pairs_at k none start s at end) (omega arith) }

  module _ (c : Contents) (p i : ℕ) (h : Pairing n start s at end c p i) where
    pub pairing_end : n ≤ i → said (Ok (c, p)) ≡ pairs_at n none start s at end
    unfolding said pairs_at
    pairing_end l =
        let e : n - i ≡ 0 = omega arith in
        rw e at h.rest

    module _ (l : i < n) where
      next : n - i ≡ suc (n - (i + 1))
      next = omega arith

      pub pairing_more : (r q : Reading ℕ) (t o m k : ℕ) (d : Contents) → said r ≡ entry_type_at c s p end → r ≡ Ok (t, m) → said q ≡ offset_at c start s m end → q ≡ Ok (o, k) → d ≡ with_entry t o c
          → Pairing n start s at end d k (i + 1)
      unfolding pairs_at
      pairing_more r q t o m k d e f g j w = record {
        within = omega arith;
        rest =
            rw w (on_ok _ _ r _ (t, m) e f (on_ok _ _ q _ (o, k) g j refl))
            ∙ ap (λ (x : ℕ). pairs_at x c start s p end) (sym next)
            ∙ h.rest;
      }

      pub pairing_type : (r : Reading ℕ) (y : Bad) → said r ≡ entry_type_at c s p end → r ≡ Err y → bad y.fault y.place ≡ pairs_at n none start s at end
      unfolding pairs_at
      pairing_type r y e f = on_err _ _ r _ y e f refl ∙ ap (λ (x : ℕ). pairs_at x c start s p end) (sym next) ∙ h.rest

      pub pairing_offset : (r q : Reading ℕ) (t m : ℕ) (y : Bad) → said r ≡ entry_type_at c s p end → r ≡ Ok (t, m) → said q ≡ offset_at c start s m end → q ≡ Err y
          → bad y.fault y.place ≡ pairs_at n none start s at end
      unfolding pairs_at
      pairing_offset r q t m y e f g j =
          on_ok _ _ r _ (t, m) e f (on_err _ _ q _ y g j refl) ∙ ap (λ (x : ℕ). pairs_at x c start s p end) (sym next) ∙ h.rest

pub ruleset pairing = (pairing_none, pairing_end, pairing_more, pairing_type, pairing_offset)

pub count_small : (r : Reading ℕ) (s : List ℕ) (at end v n : ℕ) → said r ≡ count_at s at end → r ≡ Ok (v, n) → v ≤ 4
unfolding count_at
count_small r s at end v n e f =
    gives_is
    {P = λ x m. x ≤ 4}
    (gives_on {P = λ x m. Unit} _ (record { given = λ x m g. tt }) (λ x m u.
    gives_pick (ltb 2147483647 x) (λ g. gives_bad _ _) (λ g.
    gives_pick (ltb 4 x) (λ h. gives_bad _ _) (λ h. gives_got _ _ (ltb-false 4 x h)))))
    (said_got r _ v n e f)
