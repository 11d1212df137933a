-- The order of tokens: that of the biased numbers is the signed order, and every bound may begin the first range. Assumes nothing.
use mathlib.Core.Path.{◌≡◌, sym, ap, ◌∙◌}
use mathlib.Core.Bool.{true}
use Prim.Native.Nat.{ℕ, suc, ◌+◌, ◌-◌, ◌^◌, ◌≤◌, ◌<◌}
use native.Mathlib.Decide.{dec_lt}
use native.Mathlib.Omega.{arith}
use borrow.Author.Tests.{lt-ltb, le-ltb, eq-eqb}
use lib.Dec.{ltb}
use lib.IntN.{negsuc}
use lib.Signed.{lt_z}
use mir.Syntax.{w64}
use mir.Val.{to_z}
use mir.Facts.{to_z_pos, to_z-neg}
use Rattle.common.specs.Choose.{pick}
use Rattle.common.specs.Times.{biased}
use Rattle.scylla_sharding.specs.Bounds.{both_inclusive, is_next}
use Rattle.scylla_sharding.specs.Ranges.{first}
use Rattle.scylla_sharding.specs.declared.bound.Bound.{Bound}

low : (x : ℕ) → x < 2 ^ 63 → biased x ≡ x + 2 ^ 63
unfolding biased
low x h = omega arith

high : (x : ℕ) → 2 ^ 63 ≤ x → x < 2 ^ 64 → biased x ≡ x - 2 ^ 63
unfolding biased
high x h k = omega arith

-- two tests are one where each passes with the other
same_test : (a b c d : ℕ) → (a < b → c < d) → (b ≤ a → d ≤ c) → ltb a b ≡ ltb c d
same_test a b c d f g = go (dec_lt a b)
  where
    go : Dec (a < b) → ltb a b ≡ ltb c d
    go (yes h) = lt-ltb a b h ∙ sym (lt-ltb c d (f h))
    go (no h) = le-ltb a b (omega arith) ∙ sym (le-ltb c d (g (omega arith)))

negative : (x : ℕ) → 2 ^ 63 ≤ x → x < 2 ^ 64 → to_z w64 x ≡ negsuc (2 ^ 64 - 1 - x)
negative x h k =
    let e : x ≡ 2 ^ 64 - suc (2 ^ 64 - 1 - x) = omega arith in
    ap (to_z w64) e ∙ to_z-neg w64 (2 ^ 64 - 1 - x) (omega arith)

-- the token of the eight bytes that spell a stands before that of b exactly where the biased number does
pub signed_order : (a b : ℕ) → a < 2 ^ 64 → b < 2 ^ 64 → ltb (biased a) (biased b) ≡ lt_z (to_z w64 a) (to_z w64 b)
signed_order a b p q = go (dec_lt a (2 ^ 63)) (dec_lt b (2 ^ 63))
  where
    go : Dec (a < 2 ^ 63) → Dec (b < 2 ^ 63) → ltb (biased a) (biased b) ≡ lt_z (to_z w64 a) (to_z w64 b)
    go (yes h) (yes k) = rw (low a h, low b k, to_z_pos w64 h, to_z_pos w64 k) (same_test (a + 2 ^ 63) (b + 2 ^ 63) a b (λ l. omega arith) (λ l. omega arith))
    go (yes h) (no k) = rw (low a h, high b (omega arith) q, to_z_pos w64 h, negative b (omega arith) q) (le-ltb (a + 2 ^ 63) (b - 2 ^ 63) (omega arith))
    go (no h) (yes k) = rw (high a (omega arith) p, low b k, negative a (omega arith) p, to_z_pos w64 k) (lt-ltb (a - 2 ^ 63) (b + 2 ^ 63) (omega arith))
    go (no h) (no k) = rw (high a (omega arith) p, high b (omega arith) q, negative a (omega arith) p, negative b (omega arith) q) (same_test (a - 2 ^ 63) (b - 2 ^ 63) (2 ^ 64 - 1 - b) (2 ^ 64 - 1 - a) (λ l. omega arith) (λ l. omega arith))

first_above : (l : Bound) → 0 < l.token → is_next first l ≡ true
unfolding is_next pick
first_above l h = rw (lt-ltb 0 l.token h)

first_least : (l : Bound) → l.token ≡ 0 → is_next first l ≡ true
unfolding is_next both_inclusive pick
first_least l e = rw (le-ltb 0 l.token (omega arith), eq-eqb 0 l.token (sym e))

-- nothing stands before the first range
pub first_any : (l : Bound) → is_next first l ≡ true
first_any l = go (dec_lt 0 l.token)
  where
    go : Dec (0 < l.token) → is_next first l ≡ true
    go (yes h) = first_above l h
    go (no h) = first_least l (omega arith)
