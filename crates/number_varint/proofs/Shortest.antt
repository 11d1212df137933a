-- The shortest varint of a number: how many bytes, and its first byte. Assumes nothing.
use mathlib.Core.Path.{◌≡◌, refl}
use mathlib.Core.Bool.{Bool, true, false}
use Prim.Native.Nat.{ℕ, zero, suc, ◌+◌, ◌-◌, ◌*◌, ◌/◌, ◌^◌, ◌≤◌, ◌<◌}
use native.Mathlib.Nat.{pow-suc, div-lt_iff_lt-mul, one-le-pow, le_trans, lt_of_lt_of_le, pow-le-pow_right}
use native.Mathlib.Numerals.{add-one}
use native.Mathlib.Decide.{dec_lt}
use native.Mathlib.Omega.{arith}
use borrow.Author.Tests.{ltb-true, ltb-false, lt-ltb, le-ltb}
use lib.Dec.{lit<, ltb, leb, eqb, eqb→eq, leb→le}
use lib.Count.{count_leading_zeros, leading_top}
use lib.ListN.{length}
use Rattle.common.specs.Choose.{pick}
use Rattle.number_varint.specs.Varints.{extra, form, shortest}
use Rattle.common.proofs.Finite.{below_at}
use Rattle.number_fixed.proofs.BigEndian.{length_bytes_of, pow_bytes}

le_step : (b : Bool) (m k : ℕ) → m ≤ k → pick b 0 (suc m) ≤ suc k
unfolding pick
le_step true m k h = omega arith
le_step false m k h = omega arith

pub extra_le : (k x : ℕ) → extra k x ≤ k
unfolding extra
extra_le zero x = omega arith
extra_le (suc k) x = le_step (ltb x 128) (extra k (x / 128)) k (extra_le k (x / 128))

lt_step : (b : Bool) (x m k : ℕ) → ltb x 128 ≡ b → (m < k → x / 128 < 128 ^ suc m) → pick b 0 (suc m) < suc k → x < 128 ^ suc (pick b 0 (suc m))
unfolding pick
lt_step true x m k e f h = ltb-true x 128 e
lt_step false x m k e f h = rw (pow-suc 128 (suc m)) ((div-lt_iff_lt-mul (lit< tt)).0 (f (omega arith)))

extra_lt : (k x : ℕ) → extra k x < k → x < 128 ^ suc (extra k x)
unfolding extra
extra_lt (suc k) x h = lt_step (ltb x 128) x (extra k (x / 128)) k refl (extra_lt k (x / 128)) h
extra_lt zero x h = absurd (omega arith)

-- the powers agree at each number of bytes that follow
room : (n : ℕ) → n < 8 → 128 ^ suc n ≡ 2 ^ (7 - n) * 256 ^ n
room n h = eqb→eq _ _ (below_at 8 (λ n. eqb (128 ^ suc n) (2 ^ (7 - n) * 256 ^ n)) tt n h)

le_more : (m n : ℕ) → m ≤ n → suc m ≤ suc n
le_more m n h = omega arith

-- what stands above the n bytes that follow has room beside the marker
pub top_lt : (x n : ℕ) → x < 2 ^ 64 → extra 8 x ≤ n → n ≤ 8 → x / 256 ^ n < 2 ^ (7 - n)
top_lt x n h e l = go (dec_lt n 8)
  where
    pos : 0 < 256 ^ n
    pos = one-le-pow n 256 (lit< tt)

    go : Dec (n < 8) → x / 256 ^ n < 2 ^ (7 - n)
    go (yes p) = (div-lt_iff_lt-mul pos).1 (rw (room n p) at (lt_of_lt_of_le (extra_lt 8 x (omega arith)) (pow-le-pow_right (lit< tt) (le_more (extra 8 x) n e))))
    go (no q) = let e8 : n ≡ 8 = omega arith in rw e8 (omega arith)

-- no fewer bytes will do
least_step : (b : Bool) (x k n : ℕ) → ltb x 128 ≡ b → x < 128 ^ suc n → ((m : ℕ) → x / 128 < 128 ^ suc m → extra k (x / 128) ≤ m) → pick b 0 (suc (extra k (x / 128))) ≤ n
unfolding pick
least_step true x k n e h f = omega arith
least_step false x k zero e h f = absurd (omega (arith, ltb-false x 128 e))
least_step false x k (suc m) e h f = omega (arith, f m ((div-lt_iff_lt-mul (lit< tt)).1 (rw (pow-suc 128 (suc m)) at h)))

extra_least : (k x n : ℕ) → x < 128 ^ suc n → extra k x ≤ n
unfolding extra
extra_least zero x n h = omega arith
extra_least (suc k) x n h = least_step (ltb x 128) x k n refl h (extra_least k (x / 128))

pub extra_fewest : (x n : ℕ) → n ≤ 8 → x < 2 ^ (7 - n) * 256 ^ n → extra 8 x ≤ n
extra_fewest x n l h = go (dec_lt n 8)
  where
    go : Dec (n < 8) → extra 8 x ≤ n
    go (yes p) = extra_least 8 x n (rw (room n p) h)
    go (no q) = omega (arith, extra_le 8 x)

-- ---- the same from the zeros that lead the number
-- its highest one is at j: j + 1 bits fit, and fewer bytes hold less than j bits
zeros_hold : (j : ℕ) → j < 64 → 2 ^ suc j ≤ 2 ^ (7 - (8 - 9 * (63 - j) / 64)) * 256 ^ (8 - 9 * (63 - j) / 64)
zeros_hold j h = leb→le _ _ (below_at 64 (λ j. leb (2 ^ suc j) (2 ^ (7 - (8 - 9 * (63 - j) / 64)) * 256 ^ (8 - 9 * (63 - j) / 64))) tt j h)

zeros_pass : (j : ℕ) → j < 64 → 128 ^ (8 - 9 * (63 - j) / 64) ≤ 2 ^ j
zeros_pass j h = leb→le _ _ (below_at 64 (λ j. leb (128 ^ (8 - 9 * (63 - j) / 64)) (2 ^ j)) tt j h)

zeros_few : (j : ℕ) → j < 64 → 9 * (63 - j) / 64 ≤ 8
zeros_few j h = leb→le _ _ (below_at 64 (λ j. leb (9 * (63 - j) / 64) 8) tt j h)

no_fewer : (x n : ℕ) → n ≤ 8 → 128 ^ n ≤ x → n ≤ extra 8 x
no_fewer x n l h = go (dec_lt (extra 8 x) n)
  where
    go : Dec (extra 8 x < n) → n ≤ extra 8 x
    go (yes p) =
        let u : x < 128 ^ suc (extra 8 x) = extra_lt 8 x (omega arith) in
        let v : 128 ^ suc (extra 8 x) ≤ 128 ^ n = pow-le-pow_right (lit< tt) p in
        absurd (omega arith)
    go (no q) = omega arith

module _ (x : ℕ) (l : 128 ≤ x) (h : x < 2 ^ 64) where
  abbrev Top : ℕ
  Top = (leading_top 64 x (omega arith) h).0

  zeros_top : count_leading_zeros 64 x ≡ 63 - Top
  zeros_top = omega (arith, (leading_top 64 x (omega arith) h).1)

  top_below : Top < 64
  top_below = omega (arith, (leading_top 64 x (omega arith) h).1)

  pub zeros_most : 9 * count_leading_zeros 64 x / 64 ≤ 8
  zeros_most = rw zeros_top (zeros_few Top top_below)

  pub extra_zeros : 8 - 9 * count_leading_zeros 64 x / 64 ≡ extra 8 x
  extra_zeros =
      let t = leading_top 64 x (omega arith) h in
      let n : ℕ = 8 - 9 * (63 - Top) / 64 in
      let a : extra 8 x ≤ n = extra_fewest x n (omega arith) (lt_of_lt_of_le t.3 (zeros_hold Top top_below)) in
      let b : n ≤ extra 8 x = no_fewer x n (omega arith) (le_trans (zeros_pass Top top_below) t.2) in
      rw zeros_top (omega arith)

pub marker_shift : (n : ℕ) → n < 9 → 256 / 2 ^ n ≡ 2 ^ (8 - n)
marker_shift n h = eqb→eq _ _ (below_at 9 (λ n. eqb (256 / 2 ^ n) (2 ^ (8 - n))) tt n h)

room_le : (n : ℕ) → n < 9 → 2 ^ (7 - n) ≤ 2 ^ (8 - n)
room_le n h = leb→le _ _ (below_at 9 (λ n. leb (2 ^ (7 - n)) (2 ^ (8 - n))) tt n h)

marker_le : (n : ℕ) → n < 9 → 2 ^ (8 - n) ≤ 256
marker_le n h = leb→le _ _ (below_at 9 (λ n. leb (2 ^ (8 - n)) 256) tt n h)

pub first_lt : (x n : ℕ) → x < 2 ^ 64 → n ≡ extra 8 x → 256 - 2 ^ (8 - n) + x / 256 ^ n < 256
first_lt x n h e =
    let l : n < 9 = omega (arith, extra_le 8 x) in
    omega (arith, top_lt x n h (omega arith) (omega arith), room_le n l, marker_le n l)

pub first_eq : (x n : ℕ) → n < 9 → 256 - 256 / 2 ^ n + x / 2 ^ (8 * n) ≡ 256 - 2 ^ (8 - n) + x / 256 ^ n
first_eq x n l = rw (marker_shift n l, pow_bytes n)

-- the cases of `extra`
pub extra_small : (k x : ℕ) → x < 128 → extra k x ≡ 0
unfolding extra pick
extra_small zero x h = refl
extra_small (suc k) x h = simp (lt-ltb _ _ h)

pub extra_more : (k x : ℕ) → 128 ≤ x → extra (suc k) x ≡ suc (extra k (x / 128))
unfolding extra pick
extra_more k x h = simp (le-ltb _ _ h)

pub length_form : (n x : ℕ) → length (form n x) ≡ n + 1
unfolding form
length_form n x = rw (length_bytes_of, add-one)

pub length_shortest : (x : ℕ) → length (shortest x) ≡ extra 8 x + 1
unfolding shortest
length_shortest x = length_form (extra 8 x) x
