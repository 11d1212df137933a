-- A record from what the code tests, in the code's order. Assumes nothing.
use Rattle.std.proofs.Common.{Ok}
use mathlib.Core.Path.{◌≡◌, refl, ◌∙◌}
use mathlib.Core.Bool.{Bool, true, false}
use mathlib.Core.List.{List}
use Prim.Native.Nat.{ℕ, ◌+◌, ◌-◌, ◌^◌, ◌≤◌, ◌<◌}
use native.Mathlib.Omega.{arith}
use borrow.Author.Tests.{ltb-false, le-ltb, eqb-true}
use lib.Dec.{ltb, eqb}
use Rattle.common.specs.Choose.{pick, bind}
use Rattle.common.specs.Got.{Got, got, bad, on, Reader, Reading, said}
use Rattle.common.specs.declared.refusal.Fault.TheVariants.{OutOfRange, BadRecord}
use Rattle.common.specs.declared.times.Bases.{Bases}
use Rattle.common.proofs.Choose.{pick_no}
use Rattle.data_items.specs.declared.Item.{Item}
use Rattle.write_accept.specs.Fields.{item_of, stray_bytes, stray_numbers, has_second}
use Rattle.write_accept.specs.Records.{outside, record_at, last_ranges_at, ranges_at}
use Rattle.write_accept.specs.Tests.{unlike, bad_row, bad_clustering, bad_cell}
use Rattle.write_record.specs.Records.{stray_record, plain_at, own_last_at, own_at, second_at}

-- ---- the ranges: a record's own numbers, then the second ones
on_five : (t u v w x : Bool) (c d e f g : ℕ) (i : Item) (n : ℕ) (k : Item → ℕ → Got Item) →
    on (pick t (bad OutOfRange c) (pick u (bad OutOfRange d) (pick v (bad OutOfRange e) (pick w (bad OutOfRange f) (pick x (bad OutOfRange g) (got i n)))))) k
    ≡ pick t (bad OutOfRange c) (pick u (bad OutOfRange d) (pick v (bad OutOfRange e) (pick w (bad OutOfRange f) (pick x (bad OutOfRange g) (k i n)))))
unfolding on pick
on_five true u v w x c d e f g i n k = refl
on_five false true v w x c d e f g i n k = refl
on_five false false true w x c d e f g i n k = refl
on_five false false false true x c d e f g i n k = refl
on_five false false false false true c d e f g i n k = refl
on_five false false false false false c d e f g i n k = refl

module _ (b : Bases) (i : Item) (at : ℕ) where
  ranges_own : on (own_at b i at) (λ j n. second_at b j at) ≡ ranges_at b i at
  unfolding own_at own_last_at second_at ranges_at last_ranges_at
  ranges_own = on_five _ _ _ _ _ _ _ _ _ _ i (at + 64) (λ j n. second_at b j at)

  pub is_ranges : (q : Got Item) → q ≡ on (own_at b i at) (λ j n. second_at b j at) → q ≡ ranges_at b i at
  is_ranges q e = e ∙ ranges_own

  -- what has no second mark
  own_only : has_second i ≡ false → own_at b i at ≡ ranges_at b i at
  unfolding own_at own_last_at ranges_at last_ranges_at outside pick
  own_only e = rw e refl

-- ---- a record of any turn: a plain one that passes the test of its turn
on_tests : (x y z : Bool) (i : Item) (at end : ℕ) (k : Item → ℕ → Got Item) →
    on (pick x (bad BadRecord end) (pick (pick y true z) (bad BadRecord at) (got i at))) k
    ≡ pick x (bad BadRecord end) (pick y (bad BadRecord at) (pick z (bad BadRecord at) (k i at)))
unfolding on pick
on_tests true y z i at end k = refl
on_tests false true z i at end k = refl
on_tests false false true i at end k = refl
on_tests false false false i at end k = refl

-- the test of the kind before that of what is stray
swapped_tests : (x y z w : Bool) (a c p q : Got Item) → (w ≡ false → p ≡ q) →
    pick x a (pick w c (pick (pick y true z) c p)) ≡ pick x a (pick y c (pick z c (pick w c q)))
unfolding pick
swapped_tests true y z w a c p q e = refl
swapped_tests false true z true a c p q e = refl
swapped_tests false true z false a c p q e = refl
swapped_tests false false true true a c p q e = refl
swapped_tests false false true false a c p q e = refl
swapped_tests false false false true a c p q e = refl
swapped_tests false false false false a c p q e = e refl

-- a record of a kind that has no second mark
unfoldable pub sole_at : Bases → (Item → Bool) → Reader Item
sole_at b wrong s at end =
    pick (ltb (end - at) 64) (bad BadRecord end)
    (bind (item_of s at) (λ i.
    pick (wrong i) (bad BadRecord at)
    (pick (stray_record s at i) (bad BadRecord at)
    (own_at b i at))))

module _ (b : Bases) (wrong : Item → Bool) (s : List ℕ) (at end : ℕ) where
  record_plain : on (plain_at s at end) (λ i n. pick (wrong i) (bad BadRecord at) (ranges_at b i n)) ≡ record_at b wrong s at end
  unfolding plain_at stray_record record_at bind
  record_plain =
      on_tests (ltb (end - at) 64) (stray_bytes s at) (stray_numbers (item_of s at)) (item_of s at) at end
      (λ i n. pick (wrong i) (bad BadRecord at) (ranges_at b i n))

  pub is_record : (q : Got Item) → q ≡ on (plain_at s at end) (λ i n. pick (wrong i) (bad BadRecord at) (ranges_at b i n)) → q ≡ record_at b wrong s at end
  is_record q e = e ∙ record_plain

  record_sole : ((i : Item) → wrong i ≡ false → has_second i ≡ false) → sole_at b wrong s at end ≡ record_at b wrong s at end
  unfolding sole_at stray_record record_at bind
  record_sole h =
      swapped_tests (ltb (end - at) 64) (stray_bytes s at) (stray_numbers (item_of s at)) (wrong (item_of s at)) (bad BadRecord end) (bad BadRecord at)
      (own_at b (item_of s at) at) (ranges_at b (item_of s at) at) (λ e. own_only b (item_of s at) at (h (item_of s at) e))

-- what is of a kind other than a marker's has no second mark
sole_kind : (n : ℕ) (i : Item) (z : Bool) → eqb n 4 ≡ false → pick (unlike i.kind n) true z ≡ false → has_second i ≡ false
unfolding unlike pick has_second
sole_kind n i z h e = go (eqb i.kind n) refl e
  where
    go : (t : Bool) → eqb i.kind n ≡ t → pick (pick t false true) true z ≡ false → has_second i ≡ false
    go true f g = rw (eqb-true i.kind n f, h) refl
    go false f g = let z : ◌≡◌ {A = ℕ} 0 1 = cc in absurd (omega arith)

module _ (b : Bases) (s : List ℕ) (at end : ℕ) (q : Got Item) where
  pub is_row : q ≡ sole_at b (bad_row 3) s at end → q ≡ record_at b (bad_row 3) s at end
  unfolding bad_row
  is_row e = e ∙ record_sole b (bad_row 3) s at end (λ i h. sole_kind 3 i _ refl h)

  pub is_value : (bytes : List ℕ) (column w : ℕ) → q ≡ sole_at b (bad_clustering bytes column w) s at end → q ≡ record_at b (bad_clustering bytes column w) s at end
  unfolding bad_clustering
  is_value bytes column w e = e ∙ record_sole b (bad_clustering bytes column w) s at end (λ i h. sole_kind 5 i _ refl h)

  pub is_cell_lem : (bytes : List ℕ) (column w : ℕ) → q ≡ sole_at b (bad_cell bytes column w) s at end → q ≡ record_at b (bad_cell bytes column w) s at end
  unfolding bad_cell
  is_cell_lem bytes column w e = e ∙ record_sole b (bad_cell bytes column w) s at end (λ i h. sole_kind 6 i _ refl h)

-- what is stray is refused, whatever the kind
stray_picks : (y z : Bool) (a p : Got Item) → pick y true z ≡ true → a ≡ pick y a (pick z a p)
unfolding pick
stray_picks true z a p e = refl
stray_picks false true a p e = refl
stray_picks false false a p e = let z : ◌≡◌ {A = ℕ} 0 1 = cc in absurd (omega arith)

pub is_stray : (b : Bases) (wrong : Item → Bool) (s : List ℕ) (at end m : ℕ) (i : Item) (t : Bool) → m ≡ end - at → 64 ≤ m → i ≡ item_of s at
    → t ≡ stray_record s at i → t ≡ true → bad BadRecord at ≡ record_at b wrong s at end
unfolding record_at bind stray_record
is_stray b wrong s at end m i t e l f g h =
    let u : stray_record s at (item_of s at) ≡ true = rw (← f, ← g) h in
    let v : 64 ≤ end - at = rw (← e) l in
    pick_no _ _ _ _ (le-ltb (end - at) 64 v)
    (stray_picks (stray_bytes s at) (stray_numbers (item_of s at)) (bad BadRecord at) (pick (wrong (item_of s at)) (bad BadRecord at) (ranges_at b (item_of s at) at)) u)

-- ---- a record whose bytes are there ends below 2^64
pub there_fits : (end at r : ℕ) → r ≡ end - at → 64 ≤ r → end < 2 ^ 64 → at + 64 < 2 ^ 64
there_fits end at r e h l = omega arith

plain_place : (x y : Bool) (i j : Item) (at end n : ℕ) → ltb (end - at) 64 ≡ x →
    got j n ≡ pick x (bad BadRecord end) (pick y (bad BadRecord at) (got i at)) → end < 2 ^ 64 → n + 64 < 2 ^ 64
unfolding pick
plain_place true y i j at end n t e h = let z : ◌≡◌ {A = ℕ} 0 1 = cc in absurd (omega arith)
plain_place false true i j at end n t e h = let z : ◌≡◌ {A = ℕ} 0 1 = cc in absurd (omega arith)
plain_place false false i j at end n t e h = let f : n ≡ at = cc in omega (arith, f, ltb-false (end - at) 64 t)

pub plain_fits : (s : List ℕ) (at end : ℕ) (r : Reading Item) (i : Item) (n : ℕ) → said r ≡ plain_at s at end → r ≡ Ok (i, n) → end < 2 ^ 64 → n + 64 < 2 ^ 64
unfolding said plain_at bind
plain_fits s at end r i n e f h =
    plain_place (ltb (end - at) 64) (stray_record s at (item_of s at)) (item_of s at) i at end n refl (rw f at e) h
