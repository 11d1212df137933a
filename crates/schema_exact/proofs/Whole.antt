-- The whole file that is made for a schema is read back. Assumes nothing.
use mathlib.Core.Path.{◌≡◌, refl}
use mathlib.Core.Bool.{false}
use mathlib.Core.List.{List, ◌∷◌, ◌++◌}
use Prim.Native.Nat.{ℕ, ◌+◌, ◌^◌, ◌≤◌, ◌<◌}
use native.Mathlib.Omega.{arith}
use borrow.Author.Tests.{le-ltb, ltb-false, eq-eqb}
use lib.Dec.{ltb}
use lib.Ieee as Ieee
use lib.ListN.{length}
use Rattle.common.specs.Choose.{pick, bind}
use Rattle.number_fixed.specs.BigEndian.{bytes_of, fixed_at}
use Rattle.common.proofs.Choose.{pick_ind}
use Rattle.common.proofs.RoundTrip.{Reads, reads_got, reads_on, reads_at, reads_yes, reads_no, reads_to}
use Rattle.common.proofs.Stands.{Stands, stands_left, stands_right, narrow}
use Rattle.number_fixed.proofs.BigEndian.{length_bytes_of, fixed_back}
use Rattle.schema_column.specs.declared.Column.{Column}
use Rattle.stats_contents.specs.Contents.{none, offset_of, with_entry, used, entry_type_at, offset_at, pairs_at, count_at, present, contents_at, nearer, end_of}
use Rattle.stats_validation.specs.Validation.{chance_of, chance_at, validation_at}
use Rattle.stats_contents.specs.declared.contents.Contents.{Contents}
use Rattle.stats_file.specs.Statistics.{File, entry0_at, entry3_at, forward_at, entries_at, file_at}
use Rattle.schema_exact.specs.Canonical.{header_bytes, contents_bytes, validation_bytes, statistics_bytes}
use Rattle.schema_exact.proofs.Records.{Every, stands_whole}
use Rattle.schema_exact.proofs.Columns.{bares, Kinded}
use Rattle.schema_exact.proofs.Reread.{reads_bind, header_back}

-- ---- a number of w bytes, and what follows it
module _ (s : List ℕ) (stop at n w x : ℕ) (rest : List ℕ) (h : Stands s stop at n (bytes_of x w ++ rest)) where
  number : w ≤ 8 → x < 256 ^ w → Reads (fixed_at w s at stop) (at + w) (λ y. y ≡ x)
  number l m =
      let p : at + length (bytes_of x w) ≡ at + w = omega (arith, length_bytes_of x w) in
      reads_to p (fixed_back w s stop at _ x l m (stands_left s stop at n (bytes_of x w) rest h))

  behind : Stands s stop (at + w) n rest
  behind =
      let p : at + length (bytes_of x w) ≡ at + w = omega (arith, length_bytes_of x w) in
      rw p at (stands_right s stop at n (bytes_of x w) rest h)

-- ---- the contents
module _ (s : List ℕ) (stop : ℕ) where
  type_is : (c : Contents) (t at n : ℕ) → t ≤ 3 → offset_of t c ≡ 0 → Reads (fixed_at 4 s at stop) n (λ y. y ≡ t) → Reads (entry_type_at c s at stop) n (λ y. y ≡ t)
  unfolding entry_type_at
  type_is c t at n l e h = reads_at _ h (reads_no _ _ (le-ltb 3 t l) (reads_bind _ _ (reads_yes _ _ (eq-eqb _ _ e) (reads_got _ n refl))))

  offset_is : (c : Contents) (start o at n : ℕ) → o ≤ 2147483647 → o ≤ stop → start ≤ o → used o c ≡ false → Reads (fixed_at 4 s at stop) n (λ y. y ≡ o)
      → Reads (offset_at c start s at stop) n (λ y. y ≡ o)
  unfolding offset_at
  offset_is c start o at n l m k e h =
      reads_at _ h (reads_no _ _ (le-ltb 2147483647 o l) (reads_no _ _ (le-ltb stop o m) (reads_no _ _ (le-ltb o start k) (reads_no _ _ e (reads_got _ n refl)))))

first : Contents
first = with_entry 0 20 none

second : Contents
second = with_entry 3 30 first

abbrev places : Contents
places = record { validation = 20; compaction = 0; statistics = 0; header = 30 }

second_is : second ≡ places
unfolding second first with_entry pick
second_is = refl

absent_0 : offset_of 0 none ≡ 0
unfolding offset_of pick
absent_0 = refl

absent_3 : offset_of 3 first ≡ 0
unfolding offset_of first with_entry pick
absent_3 = refl

unused_20 : used 20 none ≡ false
unfolding used pick
unused_20 = refl

unused_30 : used 30 first ≡ false
unfolding used first with_entry pick
unused_30 = refl

module _ (s : List ℕ) (stop : ℕ) (room : 30 ≤ stop) (h : Stands s stop 0 20 contents_bytes) where
  abbrev w4 : List ℕ
  w4 = bytes_of 30 4

  abbrev w3 : List ℕ
  w3 = bytes_of 3 4 ++ w4

  abbrev w2 : List ℕ
  w2 = bytes_of 20 4 ++ w3

  abbrev w1 : List ℕ
  w1 = bytes_of 0 4 ++ w2

  at_0 : Stands s stop 0 20 (bytes_of 2 4 ++ w1)
  unfolding contents_bytes
  at_0 = h

  at_4 : Stands s stop 4 20 w1
  at_4 = behind s stop 0 20 4 2 w1 at_0

  at_8 : Stands s stop 8 20 w2
  at_8 = behind s stop 4 20 4 0 w2 at_4

  at_12 : Stands s stop 12 20 w3
  at_12 = behind s stop 8 20 4 20 w3 at_8

  at_16 : Stands s stop 16 20 w4
  at_16 = behind s stop 12 20 4 3 w4 at_12

  count_back : Reads (count_at s 0 stop) 4 (λ y. y ≡ 2)
  unfolding count_at
  count_back = reads_at _ (number s stop 0 20 4 2 w1 at_0 (omega arith) (omega arith)) (reads_no _ _ refl (reads_no _ _ refl (reads_got _ 4 refl)))

  pairs_back : Reads (pairs_at 2 none 20 s 4 stop) 20 (λ c. c ≡ second)
  unfolding pairs_at first second
  pairs_back =
      reads_at _ (type_is s stop none 0 4 8 (omega arith) absent_0 (number s stop 4 20 4 0 w2 at_4 (omega arith) (omega arith)))
      (reads_at _ (offset_is s stop none 20 20 8 12 (omega arith) (omega arith) (omega arith) unused_20 (number s stop 8 20 4 20 w3 at_8 (omega arith) (omega arith)))
      (reads_at _ (type_is s stop first 3 12 16 (omega arith) absent_3 (number s stop 12 20 4 3 w4 at_12 (omega arith) (omega arith)))
      (reads_at _ (offset_is s stop first 20 30 16 20 (omega arith) (omega arith) (omega arith) unused_30 (fixed_back 4 s stop 16 20 30 (omega arith) (omega arith) at_16))
      (reads_got _ 20 refl))))

  contents_back : Reads (contents_at s 0 stop) 20 (λ c. c ≡ places)
  unfolding contents_at present
  contents_back =
      reads_at _ count_back
      (reads_at _ pairs_back
      (rw second_is (reads_no _ _ refl (reads_no _ _ refl (reads_got _ 20 refl)))))

-- ---- entry 0
chance_ok : Reads (chance_of 0 22 30) 30 (λ x. Unit)
unfolding chance_of pick bind Ieee.nan_bits Ieee.of_bits Ieee.le
chance_ok = reads_got _ 30 tt

validation_back : (s : List ℕ) → Stands s 30 20 30 validation_bytes → Reads (validation_at s 20 30) 30 (λ v. Unit)
unfolding validation_at validation_bytes chance_at
validation_back s h =
    reads_at _ (number s 30 20 30 2 0 (bytes_of 0 8) h (omega arith) (omega arith))
    (reads_no _ _ refl
    (reads_on _ (reads_at _ (fixed_back 8 s 30 22 30 0 (omega arith) (omega arith) (behind s 30 20 30 2 0 (bytes_of 0 8) h)) chance_ok)
    (λ x u. reads_no _ _ refl (reads_got _ 30 tt))))

-- ---- where the entries end
nearest : (size : ℕ) → 30 ≤ size → pick (ltb 30 size) 30 size ≡ 30
nearest size h = pick_ind (λ (x : ℕ). x ≡ 30) _ _ (ltb 30 size) (λ e. refl) (λ e. omega (arith, ltb-false 30 size e))

end_0 : (size : ℕ) → 30 ≤ size → end_of 20 places size ≡ 30
unfolding end_of nearer pick
end_0 size h = nearest size h

end_3 : (size : ℕ) → end_of 30 places size ≡ size
unfolding end_of nearer pick
end_3 size = refl

-- ---- the file
module _ (key : Column) (ks ms rs : List Column) (keyed : Kinded 0 key) (ks_are : Every (Kinded 1) ks) (ms_are : Every (Kinded 2) ms) (rs_are : Every (Kinded 3) rs)
    (ks_few : length ks ≤ 32) (ms_few : length ms ≤ 63) (rs_few : length rs ≤ 63) where
  abbrev s : List ℕ
  s = statistics_bytes key ks ms rs

  abbrev head : List ℕ
  head = header_bytes key ks ms rs

  contents_length : length contents_bytes ≡ 20
  unfolding contents_bytes bytes_of
  contents_length = refl

  validation_length : length validation_bytes ≡ 10
  unfolding validation_bytes bytes_of
  validation_length = refl

  all : Stands s (length s) 0 (length s) (contents_bytes ++ (validation_bytes ++ head))
  unfolding statistics_bytes
  all = stands_whole s

  contents_stand : Stands s (length s) 0 20 contents_bytes
  contents_stand = rw contents_length at (stands_left s (length s) 0 (length s) contents_bytes (validation_bytes ++ head) all)

  entries_stand : Stands s (length s) 20 (length s) (validation_bytes ++ head)
  entries_stand = rw contents_length at (stands_right s (length s) 0 (length s) contents_bytes (validation_bytes ++ head) all)

  validation_stands : Stands s 30 20 30 validation_bytes
  validation_stands = narrow s (length s) 20 30 validation_bytes (rw validation_length at (stands_left s (length s) 20 (length s) validation_bytes head entries_stand))

  header_stands : Stands s (length s) 30 (length s) head
  header_stands = rw validation_length at (stands_right s (length s) 20 (length s) validation_bytes head entries_stand)

  room : 30 ≤ length s
  room = omega (arith, header_stands.stop)

  Read : File → Type 0
  Read x = bares x.header.columns ≡ bares (key ∷ (ks ++ (ms ++ rs)))

  entry0_back : Reads (entry0_at s places) 30 (λ v. Unit)
  unfolding entry0_at
  entry0_back = rw (end_0 (length s) room) (validation_back s validation_stands)

  entry3_back : Reads (entry3_at s places) (length s) (λ h. bares h.columns ≡ bares (key ∷ (ks ++ (ms ++ rs))))
  unfolding entry3_at
  entry3_back = rw (end_3 (length s)) (header_back s (length s) key ks ms rs keyed ks_are ms_are rs_are ks_few ms_few rs_few 30 header_stands)

  pub file_back : Reads (file_at s) (length s) (λ x. bares x.header.columns ≡ bares (key ∷ (ks ++ (ms ++ rs))))
  unfolding file_at entries_at forward_at
  file_back =
      reads_at _ (contents_back s (length s) room contents_stand)
      (reads_yes _ _ refl (reads_on _ entry0_back (λ v u. reads_on _ entry3_back (λ h e. reads_got _ (length s) e))))
