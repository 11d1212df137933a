-- The laws of big-endian numbers, once over the width. Assumes nothing.
use Rattle.std.proofs.Common.{Ok}
use mathlib.Core.Path.{◌≡◌, refl, sym, ap, ◌∙◌}
use mathlib.Core.List.{List}
use Prim.Native.Nat.{ℕ, zero, suc, ◌+◌, ◌-◌, ◌*◌, ◌/◌, ◌%◌, ◌^◌, ◌≤◌, ◌<◌}
use native.Mathlib.Nat.{pow-suc, mul_assoc, mul-suc, pow-le-pow_right, mul-le-mul_left, lt_of_lt_of_le, le_trans, le_of_suc-le-suc, not-suc-le-zero, sub-zero, suc-sub-suc, div-div-eq-div-mul, div-add-mod', sub_self, div-one, div-eq_of_lt}
use lib.Pow.{pow-add}
use lib.Dec.{ltb, leb, lit<, leb→le}
use borrow.Author.Tests.{ltb-false}
use native.Mathlib.Omega.{arith}
use lib.ListN.{length, get_or}
use Rattle.common.specs.Got.{got, Reading, said}
use Rattle.number_fixed.specs.BigEndian.{big_endian, bytes_of, fixed_at}
use Rattle.common.proofs.Choose.{cases}
use Rattle.common.proofs.Finite.{below_at}
use Rattle.common.proofs.Gives.{Gives, gives_got, gives_bad, gives_pick, gives_is}
use Rattle.common.proofs.Said.{said_got}
use Rattle.common.proofs.RoundTrip.{Reads}
use Rattle.common.proofs.Stands.{Stands}

pub be_lt : (acc : ℕ) (s : List ℕ) (at n : ℕ) → ((k : ℕ) → get_or s k 0 < 256) → big_endian acc s at n < (acc + 1) * 256 ^ n
unfolding big_endian
be_lt acc s at zero h = omega arith
be_lt acc s at (suc n) h = rw (pow-suc, ← mul_assoc) (omega (arith, be_lt acc s at n h, h (at + n)))

-- one byte more still fits, where n bytes do
pub be_fits : (acc : ℕ) (s : List ℕ) (at n i : ℕ) → ((k : ℕ) → get_or s k 0 < 256) → (acc + 1) * 256 ^ n ≤ 2 ^ 64 → i < n
    → big_endian acc s at i * 256 + get_or s (at + i) 0 < 2 ^ 64
unfolding big_endian
be_fits acc s at n i h b l =
    lt_of_lt_of_le (be_lt acc s at (suc i) h) (le_trans (mul-le-mul_left (acc + 1) (pow-le-pow_right (lit< tt) l)) b)

pub length_bytes_of : (x n : ℕ) → length (bytes_of x n) ≡ n
unfolding bytes_of
length_bytes_of x zero = refl
length_bytes_of x (suc n) = ap suc (length_bytes_of x n)

pub get_d_bytes_of : (x n i : ℕ) → i < n → get_or (bytes_of x n) i 0 ≡ x / 256 ^ (n - suc i) % 256
unfolding bytes_of
get_d_bytes_of x zero i h = absurd (not-suc-le-zero h)
get_d_bytes_of x (suc n) zero h = ap (λ (k : ℕ). x / 256 ^ k % 256) (omega arith)
get_d_bytes_of x (suc n) (suc i) h = simp suc-sub-suc (get_d_bytes_of x n i (le_of_suc-le-suc h))

-- a shift by whole bytes
pub pow_bytes : (k : ℕ) → 2 ^ (8 * k) ≡ 256 ^ k
pow_bytes zero = refl
pow_bytes (suc k) = rw (mul-suc, pow-add, pow_bytes k, pow-suc 256 k)

-- the m lowest bytes of x behind the number of the bytes above them: reading j of them
pub be_bytes : (s : List ℕ) (at m x j : ℕ) → j ≤ m → ((i : ℕ) → i < m → get_or s (at + i) 0 ≡ x / 256 ^ (m - suc i) % 256)
    → big_endian (x / 256 ^ m) s at j ≡ x / 256 ^ (m - j)
unfolding big_endian
be_bytes s at m x zero l h = simp sub-zero
be_bytes s at m x (suc j) l h =
    let e : m - j ≡ suc (m - suc j) = omega arith in
    rw (be_bytes s at m x j (omega arith) h, h j l, e, pow-suc, ← div-div-eq-div-mul) (div-add-mod' (x / 256 ^ (m - suc j)) 256)

-- byte k of x, as a shift gives it
pub byte_shift : (x k : ℕ) → x / 2 ^ (8 * k) % 256 ≡ x / 256 ^ k % 256
byte_shift x k = rw (pow_bytes k)

-- a 64-bit number has eight bytes
pub byte_none : (x k : ℕ) → x < 2 ^ 64 → 8 ≤ k → 0 ≡ x / 256 ^ k % 256
byte_none x k h l =
    let p : x < 256 ^ k = lt_of_lt_of_le h (pow-le-pow_right (lit< tt) l) in
    rw (div-eq_of_lt p)

pub byte_is : (x n i v : ℕ) → v ≡ x / 256 ^ (n - 1 - i) % 256 → i < n → v ≡ get_or (bytes_of x n) i 0
byte_is x n i v e h =
    let f : n - 1 - i ≡ n - suc i = omega arith in
    rw (get_d_bytes_of x n i h, ← f) e

-- ---- numbers of a width
pub fixed_whole : (s : List ℕ) (at end w v : ℕ) → w ≤ 8 → end ≤ length s → at ≤ end → w ≤ end - at → v ≡ big_endian 0 s at w
    → got v (at + w) ≡ fixed_at w s at end
unfolding fixed_at
fixed_whole s at end w v h k l m e = rw e (search cases depth 12)

-- eight bytes spell a 64-bit number
pub width_fits : (w : ℕ) → w ≤ 8 → (0 + 1) * 256 ^ w ≤ 2 ^ 64
width_fits w h = leb→le _ _ (below_at 9 (λ w. leb ((0 + 1) * 256 ^ w) (2 ^ 64)) tt w (omega arith))

-- what is read: its number fits its width, and it lies before the end
pub record Fixed (w at end x n : ℕ) : Type 0 where
  pub next : n ≡ at + w
  pub within : n ≤ end
  pub small : x < 256 ^ w

pub fixed_gives : (w : ℕ) (s : List ℕ) (at end : ℕ) → ((k : ℕ) → get_or s k 0 < 256) → Gives (fixed_at w s at end) (Fixed w at end)
unfolding fixed_at
fixed_gives w s at end b =
    gives_pick (ltb 8 w) (λ d. gives_bad _ _) (λ d.
    gives_pick (ltb (length s) end) (λ e. gives_bad _ _) (λ e.
    gives_pick (ltb end at) (λ f. gives_bad _ _) (λ f.
    gives_pick (ltb (end - at) w) (λ g. gives_bad _ _) (λ g.
    gives_got _ _ (record {
      next = refl;
      within = omega (arith, ltb-false end at f, ltb-false (end - at) w g);
      small = omega (arith, be_lt 0 s at w b);
    })))))

-- a number that the code has read ends before the end
pub fixed_within : (r : Reading ℕ) (w : ℕ) (s : List ℕ) (at end v n : ℕ) → said r ≡ fixed_at w s at end → r ≡ Ok (v, n) → n ≤ end
unfolding fixed_at
fixed_within r w s at end v n e f =
    gives_is
    {P = λ x m. m ≤ end}
    (gives_pick (ltb 8 w) (λ d. gives_bad _ _) (λ d.
    gives_pick (ltb (length s) end) (λ d. gives_bad _ _) (λ d.
    gives_pick (ltb end at) (λ g. gives_bad _ _) (λ g.
    gives_pick (ltb (end - at) w) (λ h. gives_bad _ _) (λ h.
    gives_got _ _ (omega (arith, ltb-false end at g, ltb-false (end - at) w h)))))))
    (said_got r _ v n e f)

-- bytes that stand spell their number
pub spelled_back : (w : ℕ) (s : List ℕ) (end at n x : ℕ) → x < 256 ^ w → Stands s end at n (bytes_of x w) → big_endian 0 s at w ≡ x
spelled_back w s end at n x small h =
    let k = length_bytes_of x w in
    rw (← div-eq_of_lt small) (be_bytes s at w x w (omega arith) (λ i p. h.bytes i (omega arith) ∙ get_d_bytes_of x w i p) ∙ rw sub_self (div-one x))

-- round trip: what is put is read back
pub fixed_back : (w : ℕ) (s : List ℕ) (end at n x : ℕ) → w ≤ 8 → x < 256 ^ w → Stands s end at n (bytes_of x w) → Reads (fixed_at w s at end) n (λ y. y ≡ x)
fixed_back w s end at n x l small h =
    let k = length_bytes_of x w in
    record {
      value = x;
      is =
          sym (fixed_whole s at end w x l h.inside (omega (arith, h.stop, h.within)) (omega (arith, h.stop, h.within)) (sym (spelled_back w s end at n x small h)))
          ∙ ap (got x) (omega (arith, h.stop));
      holds = refl;
    }

-- a number depends on its bytes alone
pub be_agrees : (acc : ℕ) (s t : List ℕ) (at n : ℕ) → ((i : ℕ) → i < at + n → get_or s i 0 ≡ get_or t i 0) → big_endian acc s at n ≡ big_endian acc t at n
unfolding big_endian
be_agrees acc s t at zero h = refl
be_agrees acc s t at (suc n) h = rw (be_agrees acc s t at n (λ i l. h i (omega arith)), h (at + n) (omega arith))
