-- A varint of which n bytes follow the first, cut out of eight bytes. Assumes nothing.
use mathlib.Core.Path.{◌≡◌, refl, ap, ◌∙◌}
use mathlib.Core.List.{List}
use Prim.Native.Nat.{ℕ, zero, suc, ◌+◌, ◌-◌, ◌*◌, ◌/◌, ◌%◌, ◌^◌, ◌≤◌, ◌<◌}
use native.Mathlib.Nat.{pow-suc, mul_assoc}
use native.Mathlib.Omega.{arith}
use native.Mathlib.Decide.{dec_lt}
use lib.ListN.{get_or}
use Rattle.number_fixed.specs.BigEndian.{big_endian}
use Rattle.number_varint.specs.Varints.{leading, low}
use Rattle.number_fixed.proofs.BigEndian.{be_lt}
use Rattle.number_fixed.proofs.Swaps.{be_split}
use Rattle.number_varint.proofs.Marker.{leading_le, leading_more, low_lt, marked}

-- b is the first byte, l what it holds of the value, h the bytes behind it, r those behind the varint
cut : (n b l h r : ℕ) → 0 < n → n < 8 → b ≡ 256 - 2 ^ (8 - n) + l → l < 2 ^ (7 - n) → h < 256 ^ n → r < 256 ^ (7 - n)
    → ((b * 256 ^ n + h) * 256 ^ (7 - n) + r) * 2 ^ n % 2 ^ 64 / 2 ^ (56 - 7 * n) ≡ l * 256 ^ n + h
cut zero b l h r p q e i j k = absurd (omega arith)
cut (suc zero) b l h r p q e i j k = omega arith
cut (suc (suc zero)) b l h r p q e i j k = omega arith
cut (suc (suc (suc zero))) b l h r p q e i j k = omega arith
cut (suc (suc (suc (suc zero)))) b l h r p q e i j k = omega arith
cut (suc (suc (suc (suc (suc zero))))) b l h r p q e i j k = omega arith
cut (suc (suc (suc (suc (suc (suc zero)))))) b l h r p q e i j k = omega arith
cut (suc (suc (suc (suc (suc (suc (suc zero))))))) b l h r p q e i j k = omega arith
cut (suc (suc (suc (suc (suc (suc (suc (suc n)))))))) b l h r p q e i j k = absurd (omega arith)

be_acc : (acc : ℕ) (s : List ℕ) (at n : ℕ) → big_endian acc s at n ≡ acc * 256 ^ n + big_endian 0 s at n
unfolding big_endian
be_acc acc s at zero = omega arith
be_acc acc s at (suc n) = rw (be_acc acc s at n, pow-suc, ← mul_assoc) (omega arith)

module _ (s : List ℕ) (at : ℕ) where
  first_byte : big_endian 0 s at 1 ≡ get_or s at 0
  unfolding big_endian
  first_byte = let e : at + 0 ≡ at = omega arith in rw e (omega arith)

  eight_split : (n : ℕ) → n < 8 → big_endian 0 s at 8 ≡ (get_or s at 0 * 256 ^ n + big_endian 0 s (at + 1) n) * 256 ^ (7 - n) + big_endian 0 s (at + (1 + n)) (7 - n)
  eight_split n h =
      let e : 8 ≡ 1 + n + (7 - n) = omega arith in
      ap (big_endian 0 s at) e ∙ be_split 0 s at (1 + n) (7 - n) ∙ rw (be_split 0 s at 1 n, first_byte) refl

module _ (s : List ℕ) (b : (k : ℕ) → get_or s k 0 < 256) (at : ℕ) where
  cut_eight : (n : ℕ) → n < 8 → 0 < n → n ≡ leading 8 (get_or s at 0)
      → big_endian 0 s at 8 * 2 ^ n % 2 ^ 64 / 2 ^ (56 - 7 * n) ≡ big_endian (low (get_or s at 0)) s (at + 1) n
  cut_eight n h p e =
      rw (eight_split s at n h, be_acc (low (get_or s at 0)) s (at + 1) n)
      (cut n (get_or s at 0) (low (get_or s at 0)) (big_endian 0 s (at + 1) n) (big_endian 0 s (at + (1 + n)) (7 - n)) p h
      (rw e (marked (get_or s at 0) (b at)))
      (rw e (low_lt (get_or s at 0) (b at)))
      (omega (arith, be_lt 0 s (at + 1) n b))
      (omega (arith, be_lt 0 s (at + (1 + n)) (7 - n) b)))

  cut_nine : (n : ℕ) → n ≡ 8 → n ≡ leading 8 (get_or s at 0)
      → big_endian 0 s (at + 1) 8 * 2 ^ 0 % 2 ^ 64 / 2 ^ 0 ≡ big_endian (low (get_or s at 0)) s (at + 1) n
  cut_nine n h e =
      let l : low (get_or s at 0) < 2 ^ (7 - n) = rw e (low_lt (get_or s at 0) (b at)) in
      let m : low (get_or s at 0) ≡ 0 = omega (arith, rw h at l) in
      rw (m, h) (omega (arith, be_lt 0 s (at + 1) 8 b))

  pub cut_out : (n w : ℕ) → 128 ≤ get_or s at 0 → n ≡ leading 8 (get_or s at 0) → w ≡ big_endian 0 s (at + n / 8) 8
      → w * 2 ^ (n % 8) % 2 ^ 64 / 2 ^ (56 - 7 * n) ≡ big_endian (low (get_or s at 0)) s (at + 1) n
  cut_out n w g e f = go (dec_lt n 8)
    where
      go : Dec (n < 8) → w * 2 ^ (n % 8) % 2 ^ 64 / 2 ^ (56 - 7 * n) ≡ big_endian (low (get_or s at 0)) s (at + 1) n
      go (yes h) =
          let i : at + n / 8 ≡ at = omega arith in
          let j : n % 8 ≡ n = omega arith in
          rw (f, i, j) (cut_eight n h (rw e (leading_more (get_or s at 0) (b at) g)) e)
      go (no h) =
          let k : n ≡ 8 = omega (arith, h, rw (← e) at (leading_le (get_or s at 0) (b at))) in
          let i : at + n / 8 ≡ at + 1 = omega arith in
          let j : n % 8 ≡ 0 = omega arith in
          let m : 56 - 7 * n ≡ 0 = omega arith in
          rw (f, i, j, m) (cut_nine n k e)
