-- A record of the listing is read back: its bytes spell its item. Assumes nothing.
use mathlib.Core.Path.{◌≡◌, refl, subst, ◌∙◌}
use mathlib.Core.Bool.{Bool, true, false}
use mathlib.Core.List.{List, [], ◌++◌}
use Prim.Native.Nat.{ℕ, ◌+◌, ◌-◌, ◌/◌, ◌%◌, ◌^◌, ◌<◌}
use native.Mathlib.Nat.{add-zero, div-one, mod-eq_of_lt}
use native.Mathlib.Omega.{arith}
use borrow.Author.Tests.{le-ltb}
use lib.ListN.{length, get_or}
use Rattle.common.specs.Choose.{pick, bind}
use Rattle.number_fixed.specs.BigEndian.{big_endian, bytes_of}
use Rattle.common.specs.Times.{biased}
use Rattle.common.specs.declared.times.Bases.{Bases}
use Rattle.number_fixed.proofs.BigEndian.{spelled_back}
use Rattle.common.proofs.RoundTrip.{Reads, reads_got, reads_no, reads_to}
use Rattle.common.proofs.Stands.{Stands, stands_left, stands_right, stands_byte}
use Rattle.data_field.proofs.Ranges.{In}
use Rattle.data_items.specs.declared.Item.{Item}
use Rattle.list_call.specs.Records.{signed_bytes, kind_bytes, column_bytes, head_bytes, local_bytes, time_bytes, second_bytes, place_bytes, tail_bytes, record_of}
use Rattle.list_call.proofs.Loops.{length_record_of}
use Rattle.write_accept.specs.Fields.{signed_at, item_of, stray_bytes, has_time, has_expiry, has_local, has_mark, has_second, stray_numbers}
use Rattle.write_accept.specs.Records.{outside, last_ranges_at, ranges_at, record_at}
use Rattle.write_accept.proofs.Goods.{Ranged}

-- the numbers of an item fit into their bytes
pub record Sized (i : Item) : Type 0 where
  pub kind : i.kind < 256
  pub flags : i.flags < 256
  pub column : i.column < 256
  pub ttl : i.ttl < 2 ^ 32
  pub timestamp : i.timestamp < 2 ^ 64
  pub mark : i.mark < 2 ^ 64
  pub local : i.local < 2 ^ 32
  pub expiry : i.expiry < 2 ^ 32
  pub mark2 : i.mark2 < 2 ^ 64
  pub local2 : i.local2 < 2 ^ 32
  pub offset : i.offset < 2 ^ 64
  pub length : i.length < 2 ^ 64

biased_back : (x : ℕ) → x < 2 ^ 64 → biased (biased x) ≡ x
unfolding biased
biased_back x h = omega arith

biased_small : (x : ℕ) → biased x < 256 ^ 8
unfolding biased
biased_small x = omega arith

module _ (s : List ℕ) (end at n : ℕ) (i : Item) (h : Stands s end at n (record_of i)) where
  -- the bytes of x, behind u
  inside : (u v w : List ℕ) → record_of i ≡ (u ++ v) ++ w → Stands s end (at + length u) (at + length (u ++ v)) v
  inside u v w e = stands_right s end at (at + length (u ++ v)) u v (stands_left s end at n (u ++ v) w (subst (Stands s end at n) e h))

  number : (u w : List ℕ) (x k : ℕ) → record_of i ≡ (u ++ bytes_of x k) ++ w → x < 256 ^ k → big_endian 0 s (at + length u) k ≡ x
  number u w x k e l = spelled_back k s end (at + length u) _ x l (inside u (bytes_of x k) w e)

  signed : (u w : List ℕ) (x : ℕ) → record_of i ≡ (u ++ bytes_of (biased x) 8) ++ w → x < 2 ^ 64 → signed_at s (at + length u) ≡ x
  unfolding signed_at
  signed u w x e l = rw (number u w (biased x) 8 e (biased_small x)) (biased_back x l)

  byte : (u w : List ℕ) (x : ℕ) → record_of i ≡ (u ++ bytes_of x 1) ++ w → x < 256 → get_or s (at + length u) 0 ≡ x
  unfolding bytes_of
  byte u w x e l =
      stands_byte s end (at + length u) _ (x / 256 ^ 0 % 256) (inside u (bytes_of x 1) w e)
      ∙ rw (div-one x) (mod-eq_of_lt l)

  pub kind_back : i.kind < 256 → get_or s at 0 ≡ i.kind
  unfolding signed_bytes kind_bytes column_bytes head_bytes local_bytes time_bytes second_bytes place_bytes tail_bytes record_of bytes_of
  kind_back l = rw (add-zero at) at (byte [] (bytes_of i.flags 1 ++ column_bytes i ++ bytes_of i.ttl 4 ++ time_bytes i ++ tail_bytes i) i.kind refl l)

  pub column_back : i.column < 256 → get_or s (at + 2) 0 ≡ i.column
  unfolding signed_bytes kind_bytes column_bytes head_bytes local_bytes time_bytes second_bytes place_bytes tail_bytes record_of bytes_of
  column_back l = byte (kind_bytes i) (bytes_of 0 1 ++ bytes_of i.ttl 4 ++ time_bytes i ++ tail_bytes i) i.column refl l

  -- the bytes before offset and length
  abbrev before : List ℕ
  before = head_bytes i ++ time_bytes i ++ second_bytes i

  pub spelled : Sized i → item_of s at ≡ i
  unfolding signed_bytes kind_bytes column_bytes head_bytes local_bytes time_bytes second_bytes place_bytes tail_bytes record_of item_of bytes_of
  spelled z =
      let a = kind_back z.kind in
      let b = byte (bytes_of i.kind 1) (column_bytes i ++ bytes_of i.ttl 4 ++ time_bytes i ++ tail_bytes i) i.flags refl z.flags in
      let c = column_back z.column in
      let d = number (kind_bytes i ++ column_bytes i) (time_bytes i ++ tail_bytes i) i.ttl 4 refl z.ttl in
      let e = signed (head_bytes i) (signed_bytes i.mark ++ local_bytes i ++ tail_bytes i) i.timestamp refl z.timestamp in
      let f = signed (head_bytes i ++ signed_bytes i.timestamp) (local_bytes i ++ tail_bytes i) i.mark refl z.mark in
      let g = number (head_bytes i ++ signed_bytes i.timestamp ++ signed_bytes i.mark) (bytes_of i.expiry 4 ++ tail_bytes i) i.local 4 refl z.local in
      let j = number (head_bytes i ++ signed_bytes i.timestamp ++ signed_bytes i.mark ++ bytes_of i.local 4) (tail_bytes i) i.expiry 4 refl z.expiry in
      let k = signed (head_bytes i ++ time_bytes i) (bytes_of i.local2 4 ++ bytes_of 0 4 ++ place_bytes i) i.mark2 refl z.mark2 in
      let l = number (head_bytes i ++ time_bytes i ++ signed_bytes i.mark2) (bytes_of 0 4 ++ place_bytes i) i.local2 4 refl z.local2 in
      let m = number before (bytes_of i.length 8) i.offset 8 refl z.offset in
      let o = number (before ++ bytes_of i.offset 8) [] i.length 8 refl z.length in
      rw (a, b, c, d, e, f, g, j, k, l, m, o) refl

  pub unstray : stray_bytes s at ≡ false
  unfolding signed_bytes kind_bytes column_bytes head_bytes local_bytes time_bytes second_bytes place_bytes tail_bytes record_of bytes_of stray_bytes pick
  unstray =
      let a = byte (kind_bytes i ++ bytes_of i.column 1) (bytes_of i.ttl 4 ++ time_bytes i ++ tail_bytes i) 0 refl (omega arith) in
      let b = number (head_bytes i ++ time_bytes i ++ signed_bytes i.mark2 ++ bytes_of i.local2 4) (place_bytes i) 0 4 refl (omega arith) in
      rw (a, b) refl

-- ---- a record of an item that is not wrong, and whose numbers are in range
pub in_range : (used : Bool) (lo hi base v : ℕ) → (used ≡ true → In lo hi base v) → outside used lo hi base v ≡ false
unfolding outside pick
in_range true lo hi base v g =
    let z = g refl in
    rw (le-ltb v base z.above, le-ltb v lo z.least, le-ltb hi v z.most) refl
in_range false lo hi base v g = refl

pub ranges_back : (b : Bases) (i : Item) (at : ℕ) → Ranged b i → Reads (ranges_at b i at) (at + 64) (λ j. j ≡ i)
unfolding ranges_at last_ranges_at
ranges_back b i at r =
    reads_no _ _ (in_range (has_expiry i) _ _ _ _ r.ttl)
    (reads_no _ _ (in_range (has_time i) _ _ _ _ r.timestamp)
    (reads_no _ _ (in_range (has_mark i) _ _ _ _ r.mark)
    (reads_no _ _ (in_range (has_local i) _ _ _ _ r.local)
    (reads_no _ _ (in_range (has_expiry i) _ _ _ _ r.expiry)
    (reads_no _ _ (in_range (has_second i) _ _ _ _ r.mark2)
    (reads_no _ _ (in_range (has_second i) _ _ _ _ r.local2)
    (reads_got i (at + 64) refl)))))))

-- an item that the writer takes
pub record Sound (b : Bases) (wrong : Item → Bool) (i : Item) : Type 0 where
  pub sized : Sized i
  pub numbers : stray_numbers i ≡ false
  pub right : wrong i ≡ false
  pub ranged : Ranged b i

pub record_back : (b : Bases) (wrong : Item → Bool) (s : List ℕ) (end at n : ℕ) (i : Item) → Sound b wrong i → Stands s end at n (record_of i) → Reads (record_at b wrong s at end) n (λ j. j ≡ i)
unfolding record_at bind
record_back b wrong s end at n i g h =
    let e = spelled s end at n i h g.sized in
    let l = length_record_of i in
    reads_no _ _ (le-ltb (end - at) 64 (omega (arith, h.stop, h.within)))
    (reads_no _ _ (unstray s end at n i h)
    (reads_no _ _ (rw e g.numbers)
    (reads_no _ _ (rw e g.right)
    (reads_to {m = at + 64} (omega (arith, h.stop)) (rw e (ranges_back b i at g.ranged))))))
