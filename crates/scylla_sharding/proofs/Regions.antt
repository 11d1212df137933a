-- Where numbers and what lengths announce end. Assumes nothing.
use mathlib.Core.Path.{◌≡◌}
use mathlib.Core.List.{List}
use Prim.Native.Nat.{ℕ, ◌+◌, ◌-◌, ◌^◌, ◌≤◌, ◌<◌}
use native.Mathlib.Omega.{arith}
use borrow.Author.Tests.{ltb-false}
use lib.Dec.{ltb}
use lib.ListN.{length}
use mir.Syntax.{w64}
use mir.Val.{Fits}
use Rattle.std.proofs.Common.{Ok}
use Rattle.common.specs.Got.{Reading, said}
use Rattle.number_fixed.specs.BigEndian.{fixed_at}
use Rattle.common.proofs.Said.{said_got}
use Rattle.common.proofs.Gives.{Gives, gives_got, gives_bad, gives_pick, gives_on, gives_is}
use Rattle.scylla_sharding.specs.Regions.{length_at}

-- a number ends before its region does, and the region before the slice
record Ends (s : List ℕ) (end n : ℕ) : Type 0 where
  within : n ≤ end
  inside : end ≤ length s

module _ (w : ℕ) (s : List ℕ) (at end : ℕ) where
  fixed_gives : Gives (fixed_at w s at end) (λ x n. Ends s end n)
  unfolding fixed_at
  fixed_gives =
      gives_pick (ltb 8 w) (λ d. gives_bad _ _) (λ d.
      gives_pick (ltb (length s) end) (λ e. gives_bad _ _) (λ e.
      gives_pick (ltb end at) (λ f. gives_bad _ _) (λ f.
      gives_pick (ltb (end - at) w) (λ g. gives_bad _ _) (λ g.
      gives_got _ _ (record {
        within = omega (arith, ltb-false end at f, ltb-false (end - at) w g);
        inside = omega (arith, ltb-false (length s) end e);
      })))))

  -- what a length announces does too
  length_gives : Gives (length_at w s at end) (λ z n. Ends s end (n + z))
  unfolding length_at
  length_gives =
      gives_on _ fixed_gives (λ z n h.
      gives_pick (ltb (end - n) z) (λ d. gives_bad _ _) (λ d.
      gives_got _ _ (record { within = omega (arith, ltb-false (end - n) z d, h.within); inside = h.inside })))

  module _ (r : Reading ℕ) (v n : ℕ) where
    pub fixed_ends : said r ≡ fixed_at w s at end → r ≡ Ok (v, n) → n ≤ end
    fixed_ends e f = (gives_is fixed_gives (said_got r _ v n e f)).within

    pub length_fits : length s < 2 ^ 64 → said r ≡ length_at w s at end → r ≡ Ok (v, n) → Fits w64 (n + v)
    length_fits h e f =
        let g = gives_is length_gives (said_got r _ v n e f) in
        omega (arith, g.within, g.inside)

pub ruleset ends = (fixed_ends, length_fits)
