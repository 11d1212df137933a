-- What a record that is taken says is listed as that record again, but for the place of a whole item. Assumes nothing.
use mathlib.Core.Path.{◌≡◌, refl, sym, ap, ◌∙◌}
use mathlib.Core.Bool.{Bool, true, false}
use mathlib.Core.List.{List}
use Prim.Native.Nat.{ℕ, ◌*◌, ◌/◌, ◌%◌, ◌≤◌, ◌<◌}
use native.Mathlib.Omega.{arith}
use borrow.Author.Tests.{lt-ltb, ltb-true, ltb-false, eq-eqb, ne_eqb, eqb-true, eqb-false}
use lib.Dec.{ltb, eqb}
use Rattle.common.specs.Choose.{pick, bind}
use Rattle.common.proofs.Choose.{pick_yes, pick_no}
use Rattle.data_field.specs.declared.fields.Deletion.{Deletion}
use Rattle.data_field.specs.declared.fields.Span.{Span}
use Rattle.data_items.specs.Items.{item, zeroed, mark_of, time_of, partition_flags, cell_flags, partition_item, row_item, marker_item, value_item, cell_item, end_item, shows_value}
use Rattle.data_items.specs.declared.Item.{Item}
use Rattle.write_accept.specs.Fields.{has_time, has_expiry, has_local, has_mark, has_second, has_column, stray, stray_first, stray_last, stray_numbers}
use Rattle.write_accept.specs.Tests.{unlike, bad_place, bad_nowhere, bad_key, bad_value, bad_partition_flags, bad_row_flags, bad_value_flags, bad_cell_flags, bad_partition, bad_row, bad_marker, bad_clustering, bad_cell_place, bad_cell, bad_end}
use Rattle.write_accept.specs.Entries.{value_of, deletion_of, second_of, times_of, cell_of, row_of, marker_of, partition_of}
use Rattle.write_accept.specs.Listings.{nowhere, placeless}
use Rattle.write_accept.proofs.Goods.{never, not_first, not_second, not_else, not_then, alike, yes_or_no, place_some, nowhere_offset, nowhere_length}
use Rattle.write_accept.proofs.Sound.{Unused}

-- ---- numbers that are not used
stray_none : (used : Bool) (none v : ℕ) → stray used none v ≡ false → used ≡ false → v ≡ none
unfolding stray pick
stray_none used none v e f = go (eqb v none) refl (not_else used _ _ e f)
  where
    go : (t : Bool) → eqb v none ≡ t → pick t false true ≡ false → v ≡ none
    go true g h = eqb-true v none g
    go false g h = never h

pub not_used : (i : Item) → stray_numbers i ≡ false → Unused i
unfolding stray_numbers stray_first stray_last
not_used i e =
    let a = not_first (stray_first i) _ e in
    let c = not_second (stray (has_column i) 0 i.column) _ a in
    let d = not_second (stray (has_expiry i) 0 i.ttl) _ c in
    let f = not_second (stray_first i) _ e in
    let g = not_second (stray (has_local i) 0 i.local) _ f in
    let h = not_second (stray (has_expiry i) 0 i.expiry) _ g in
    record {
      column = stray_none (has_column i) 0 i.column (not_first (stray (has_column i) 0 i.column) _ a);
      ttl = stray_none (has_expiry i) 0 i.ttl (not_first (stray (has_expiry i) 0 i.ttl) _ c);
      timestamp = stray_none (has_time i) zeroed i.timestamp (not_first (stray (has_time i) zeroed i.timestamp) _ d);
      mark = stray_none (has_mark i) zeroed i.mark (not_second (stray (has_time i) zeroed i.timestamp) _ d);
      local = stray_none (has_local i) 0 i.local (not_first (stray (has_local i) 0 i.local) _ f);
      expiry = stray_none (has_expiry i) 0 i.expiry (not_first (stray (has_expiry i) 0 i.expiry) _ g);
      mark2 = stray_none (has_second i) zeroed i.mark2 (not_first (stray (has_second i) zeroed i.mark2) _ h);
      local2 = stray_none (has_second i) 0 i.local2 (not_second (stray (has_second i) zeroed i.mark2) _ h);
    }

item_is : (i : Item) (k f c y t m l e n o p q : ℕ) → k ≡ i.kind → f ≡ i.flags → c ≡ i.column → y ≡ i.ttl → t ≡ i.timestamp → m ≡ i.mark → l ≡ i.local → e ≡ i.expiry → n ≡ i.mark2
    → o ≡ i.local2 → p ≡ i.offset → q ≡ i.length → item k f c y t m l e n o p q ≡ i
item_is i k f c y t m l e n o p q a1 a2 a3 a4 a5 a6 a7 a8 a9 b1 b2 b3 = rw (a1, a2, a3, a4, a5, a6, a7, a8, a9, b1, b2, b3) refl

nowhere_is : (i j : Item) → j.kind ≡ i.kind → j.flags ≡ i.flags → j.column ≡ i.column → j.ttl ≡ i.ttl → j.timestamp ≡ i.timestamp → j.mark ≡ i.mark → j.local ≡ i.local → j.expiry ≡ i.expiry
    → j.mark2 ≡ i.mark2 → j.local2 ≡ i.local2 → nowhere j ≡ nowhere i
nowhere_is i j a1 a2 a3 a4 a5 a6 a7 a8 a9 b1 = item_is (nowhere i) _ _ _ _ _ _ _ _ _ _ 0 0 a1 a2 a3 a4 a5 a6 a7 a8 a9 b1 refl refl

pub placeless_whole : (i : Item) → shows_value i.kind ≡ false → placeless i ≡ nowhere i
unfolding placeless
placeless_whole i e = sym (pick_no _ _ _ _ e refl)

-- ---- which numbers are used
module _ (i : Item) (kind : ℕ) (k : i.kind ≡ kind) where
  no_second : eqb kind 4 ≡ false → has_second i ≡ false
  unfolding has_second
  no_second e = sym (pick_no _ _ _ (eqb i.kind 4) (ap (λ z. eqb z 4) k ∙ e) refl)

  no_mark : kind ≡ 6 → has_mark i ≡ false
  unfolding has_mark
  no_mark e = sym (pick_yes _ _ _ (eqb i.kind 6) (eq-eqb i.kind 6 (k ∙ e)) refl)

  mark_local : eqb kind 6 ≡ false → has_mark i ≡ has_local i
  unfolding has_mark
  mark_local e = sym (pick_no _ _ _ (eqb i.kind 6) (ap (λ z. eqb z 6) k ∙ e) refl)

  no_column : ltb kind 4 ≡ true → has_column i ≡ false
  unfolding has_column
  no_column e = sym (pick_yes _ _ _ (ltb i.kind 4) (ap (λ z. ltb z 4) k ∙ e) refl)

no_bit : (x : ℕ) → x ≡ 0 → eqb x 1 ≡ false
no_bit x e = rw e refl

yes_bit : (x : ℕ) → x % 2 ≡ 0 → eqb (x % 2) 1 ≡ false
yes_bit x e = rw e refl

odd_bit : (x : ℕ) → eqb (x % 2) 1 ≡ false → x % 2 ≡ 0
odd_bit x e = let z = eqb-false (x % 2) 1 e in omega arith

-- ---- clustering values
value_flags_are : (f : ℕ) → bad_value_flags f ≡ pick (eqb f 0) false (unlike f 8)
unfolding bad_value_flags
value_flags_are f = refl

module _ (bytes : List ℕ) (column w : ℕ) (i : Item) (g : bad_clustering bytes column w i ≡ false) (u : Unused i) where
  value_is_kind : i.kind ≡ 5
  unfolding bad_clustering
  value_is_kind = alike _ _ (not_first (unlike i.kind 5) _ g)

  value_is_flags : bad_value_flags i.flags ≡ false
  unfolding bad_clustering
  value_is_flags = not_first (bad_value_flags i.flags) _ (not_second (unlike i.kind 5) _ g)

  value_is_column : i.column ≡ column
  unfolding bad_clustering
  value_is_column = alike _ _ (not_first (unlike i.column column) _ (not_second (bad_value_flags i.flags) _ (not_second (unlike i.kind 5) _ g)))

  value_place : pick (eqb i.flags 8) (bad_nowhere i) (bad_value bytes w i) ≡ false
  unfolding bad_clustering
  value_place = not_second (unlike i.column column) _ (not_second (bad_value_flags i.flags) _ (not_second (unlike i.kind 5) _ g))

  value_with_lem : (f : ℕ) → i.flags ≡ f → f % 2 ≡ 0 → f / 2 % 2 ≡ 0 → f / 4 % 2 ≡ 0 → partition_flags 0 i.length ≡ f → value_item column (value_of i) ≡ i
  unfolding value_item bind has_time has_expiry has_local
  value_with_lem f e p q r h =
      let k = value_is_kind in
      let x : has_expiry i ≡ false = rw e (yes_bit (f / 2) q) in
      let t : has_time i ≡ false = rw e (yes_bit f p) in
      let l : has_local i ≡ false = rw e (yes_bit (f / 4) r) in
      let n = no_second i 5 k refl in
      item_is i 5 _ column 0 zeroed zeroed 0 0 zeroed 0 _ _ (sym k) (h ∙ sym e) (sym value_is_column) (sym (u.ttl x)) (sym (u.timestamp t)) (sym (u.mark (mark_local i 5 k refl ∙ l))) (sym (u.local l)) (sym (u.expiry x)) (sym (u.mark2 n)) (sym (u.local2 n)) refl refl

  flags_empty : (n : ℕ) → n ≡ 0 → partition_flags 0 n ≡ 8
  unfolding partition_flags pick
  flags_empty n e = rw e refl

  flags_full : (n : ℕ) → 1 ≤ n → partition_flags 0 n ≡ 0
  unfolding partition_flags pick
  flags_full n l = rw (ne_eqb n 0 (λ e. omega arith)) refl

  value_flag : eqb i.flags 8 ≡ false → i.flags ≡ 0
  value_flag e =
      yes_or_no (eqb i.flags 0) (λ f. eqb-true i.flags 0 f) (λ f.
      absurd (eqb-false i.flags 8 e (other f value_is_flags)))
    where
      unfold_flags : bad_value_flags i.flags ≡ pick (eqb i.flags 0) false (unlike i.flags 8)
      unfold_flags = value_flags_are i.flags

      other : eqb i.flags 0 ≡ false → bad_value_flags i.flags ≡ false → i.flags ≡ 8
      other f h = alike _ _ (not_else (eqb i.flags 0) _ _ (sym unfold_flags ∙ h) f)

  pub value_again_lem : value_item column (value_of i) ≡ i
  unfolding bad_value
  value_again_lem =
      yes_or_no (eqb i.flags 8)
      (λ e. value_with_lem 8 (eqb-true i.flags 8 e) refl refl refl (flags_empty i.length (nowhere_length i (not_then (eqb i.flags 8) _ _ value_place e))))
      (λ e. value_with_lem 0 (value_flag e) refl refl refl (flags_full i.length (place_some bytes i (not_first (bad_place bytes i) _ (not_else (eqb i.flags 8) _ _ value_place e)))))

-- ---- cells
cell_flags_are : (f : ℕ) → bad_cell_flags f ≡ false → (f ≤ 11) × ((f ≡ 7 → ⊥) × (f % 2 ≡ 1))
unfolding bad_cell_flags
cell_flags_are f e =
    let g = not_second (ltb 11 f) _ e in
    let z = eqb-false (f % 2) 0 (not_second (eqb f 7) _ g) in
    (ltb-false 11 f (not_first (ltb 11 f) _ e), (eqb-false f 7 (not_first (eqb f 7) _ g), omega arith))

-- the flags of cells, of which the bits 4, 2 and 8 are known
five : (f : ℕ) → f ≤ 11 → (f ≡ 7 → ⊥) → f % 2 ≡ 1 → f / 4 % 2 ≡ 1 → f ≡ 5
five f l n o e = let a : f / 4 ≡ 1 = omega arith in omega arith

small_cell : (f : ℕ) → f ≤ 8 → f % 2 ≡ 1 → f / 4 % 2 ≡ 0 → f / 4 ≡ 0
small_cell f l o e = omega arith

module _ (bytes : List ℕ) (column w : ℕ) (i : Item) (g : bad_cell bytes column w i ≡ false) (u : Unused i) where
  cell_is_kind : i.kind ≡ 6
  unfolding bad_cell
  cell_is_kind = alike _ _ (not_first (unlike i.kind 6) _ g)

  cell_is_flags : bad_cell_flags i.flags ≡ false
  unfolding bad_cell
  cell_is_flags = not_first (bad_cell_flags i.flags) _ (not_second (unlike i.kind 6) _ g)

  cell_is_column : i.column ≡ column
  unfolding bad_cell
  cell_is_column = alike _ _ (not_first (unlike i.column column) _ (not_second (bad_cell_flags i.flags) _ (not_second (unlike i.kind 6) _ g)))

  cell_place : bad_cell_place bytes w i ≡ false
  unfolding bad_cell
  cell_place = not_second (unlike i.column column) _ (not_second (bad_cell_flags i.flags) _ (not_second (unlike i.kind 6) _ g))

  cell_nowhere : has_local i ≡ true → bad_nowhere i ≡ false
  unfolding bad_cell_place
  cell_nowhere e = not_then (has_local i) _ _ cell_place e

  cell_empty : has_local i ≡ false → ltb 8 i.flags ≡ true → i.length ≡ 0
  unfolding bad_cell_place
  cell_empty e f = nowhere_length i (not_then (ltb 8 i.flags) _ _ (not_else (has_local i) _ _ cell_place e) f)

  cell_full : has_local i ≡ false → ltb 8 i.flags ≡ false → 1 ≤ i.length
  unfolding bad_cell_place bad_value
  cell_full e f = place_some bytes i (not_first (bad_place bytes i) _ (not_else (ltb 8 i.flags) _ _ (not_else (has_local i) _ _ cell_place e) f))

  cell_2 : has_local i ≡ true → cell_item column (cell_of i) ≡ item 6 5 column 0 i.timestamp zeroed i.local 0 zeroed 0 0 0
  unfolding cell_of cell_item pick
  cell_2 e = rw e refl

  cell_1 : has_local i ≡ false → has_expiry i ≡ true → cell_item column (cell_of i) ≡ item 6 (pick (eqb i.length 0) 11 3) column i.ttl i.timestamp zeroed 0 i.expiry zeroed 0 i.offset i.length
  unfolding cell_of cell_item cell_flags bind pick
  cell_1 e f = rw (e, f) refl

  cell_0 : has_local i ≡ false → has_expiry i ≡ false → cell_item column (cell_of i) ≡ item 6 (pick (eqb i.length 0) 9 1) column 0 i.timestamp zeroed 0 0 zeroed 0 i.offset i.length
  unfolding cell_of cell_item cell_flags bind pick
  cell_0 e f = rw (e, f) refl

  -- which of two flags it is, by the length of the value
  flag_by : (x y : ℕ) → (has_local i ≡ false) → (ltb 8 i.flags ≡ true → i.flags ≡ x) → (ltb 8 i.flags ≡ false → i.flags ≡ y) → pick (eqb i.length 0) x y ≡ i.flags
  flag_by x y l e f =
      yes_or_no (ltb 8 i.flags)
      (λ h. sym (pick_yes _ _ _ _ (eq-eqb i.length 0 (cell_empty l h)) (e h)))
      (λ h. sym (pick_no _ _ _ _ (ne_eqb i.length 0 (λ z. let k = cell_full l h in omega arith)) (f h)))

  bits : (i.flags ≤ 11) × ((i.flags ≡ 7 → ⊥) × (i.flags % 2 ≡ 1))
  bits = cell_flags_are i.flags cell_is_flags

  flag_expiring : has_local i ≡ false → has_expiry i ≡ true → pick (eqb i.length 0) 11 3 ≡ i.flags
  unfolding has_local has_expiry
  flag_expiring l e =
      let a = odd_bit (i.flags / 4) l in
      let c = eqb-true (i.flags / 2 % 2) 1 e in
      flag_by 11 3 l (λ h. eleven i.flags bits.0 (ltb-true 8 i.flags h) bits.1.1 c) (λ h. three i.flags (ltb-false 8 i.flags h) bits.1.1 a c)
    where
      fifth : (q : ℕ) → 4 ≤ q → q ≤ 5 → q % 2 ≡ 1 → q ≡ 5
      fifth q l m e = omega arith

      eleven : (f : ℕ) → f ≤ 11 → 8 < f → f % 2 ≡ 1 → f / 2 % 2 ≡ 1 → f ≡ 11
      eleven f l m o e = let a = fifth (f / 2) (omega arith) (omega arith) e in omega arith

      three : (f : ℕ) → f ≤ 8 → f % 2 ≡ 1 → f / 4 % 2 ≡ 0 → f / 2 % 2 ≡ 1 → f ≡ 3
      three f l o a c = let z = small_cell f l o a in let y : f / 2 ≡ 1 = omega arith in omega arith

  flag_plain : has_local i ≡ false → has_expiry i ≡ false → pick (eqb i.length 0) 9 1 ≡ i.flags
  unfolding has_local has_expiry
  flag_plain l e =
      let a = odd_bit (i.flags / 4) l in
      let c = odd_bit (i.flags / 2) e in
      flag_by 9 1 l (λ h. nine i.flags bits.0 (ltb-true 8 i.flags h) bits.1.1 c) (λ h. one i.flags (ltb-false 8 i.flags h) bits.1.1 a c)
    where
      fourth : (q : ℕ) → 4 ≤ q → q ≤ 5 → q % 2 ≡ 0 → q ≡ 4
      fourth q l m e = omega arith

      nine : (f : ℕ) → f ≤ 11 → 8 < f → f % 2 ≡ 1 → f / 2 % 2 ≡ 0 → f ≡ 9
      nine f l m o e = let a = fourth (f / 2) (omega arith) (omega arith) e in omega arith

      one : (f : ℕ) → f ≤ 8 → f % 2 ≡ 1 → f / 4 % 2 ≡ 0 → f / 2 % 2 ≡ 0 → f ≡ 1
      one f l o a c = let z = small_cell f l o a in let y : f / 2 ≡ 0 = omega arith in omega arith

  flag_tombstone : has_local i ≡ true → i.flags ≡ 5
  unfolding has_local
  flag_tombstone e = five i.flags bits.0 bits.1.0 bits.1.1 (eqb-true (i.flags / 4 % 2) 1 e)

  no_expiry : has_local i ≡ true → has_expiry i ≡ false
  unfolding has_expiry
  no_expiry e = ap (λ z. eqb (z / 2 % 2) 1) (flag_tombstone e)

  pub cell_again_lem : cell_item column (cell_of i) ≡ i
  cell_again_lem =
      let k = cell_is_kind in
      let m = no_mark i 6 k refl in
      let n = no_second i 6 k refl in
      yes_or_no (has_local i)
      (λ e.
      let x = no_expiry e in
      let o = cell_nowhere e in
      cell_2 e ∙ item_is i 6 5 column 0 _ zeroed _ 0 zeroed 0 0 0 (sym k) (sym (flag_tombstone e)) (sym cell_is_column) (sym (u.ttl x)) refl (sym (u.mark m)) refl (sym (u.expiry x)) (sym (u.mark2 n)) (sym (u.local2 n)) (sym (nowhere_offset i o)) (sym (nowhere_length i o)))
      (λ e.
      yes_or_no (has_expiry i)
      (λ f. cell_1 e f ∙ item_is i 6 _ column _ _ zeroed 0 _ zeroed 0 _ _ (sym k) (flag_expiring e f) (sym cell_is_column) refl refl (sym (u.mark m)) (sym (u.local e)) refl (sym (u.mark2 n)) (sym (u.local2 n)) refl refl)
      (λ f. cell_0 e f ∙ item_is i 6 _ column 0 _ zeroed 0 0 zeroed 0 _ _ (sym k) (flag_plain e f) (sym cell_is_column) (sym (u.ttl f)) refl (sym (u.mark m)) (sym (u.local e)) (sym (u.expiry f)) (sym (u.mark2 n)) (sym (u.local2 n)) refl refl))

-- ---- deletions and times
module _ (i : Item) (u : Unused i) where
  deletion_mark : has_mark i ≡ has_local i → mark_of (deletion_of i) ≡ i.mark
  unfolding deletion_of mark_of pick
  deletion_mark h = yes_or_no (has_local i) (λ e. rw e refl) (λ e. rw e (sym (u.mark (h ∙ e))))

  deletion_local : (deletion_of i).local ≡ i.local
  unfolding deletion_of pick
  deletion_local = yes_or_no (has_local i) (λ e. rw e refl) (λ e. rw e (sym (u.local e)))

  second_mark : mark_of (second_of i) ≡ i.mark2
  unfolding second_of mark_of pick
  second_mark = yes_or_no (has_second i) (λ e. rw e refl) (λ e. rw e (sym (u.mark2 e)))

  second_local : (second_of i).local ≡ i.local2
  unfolding second_of pick
  second_local = yes_or_no (has_second i) (λ e. rw e refl) (λ e. rw e (sym (u.local2 e)))

  times_stamp : time_of (times_of i) ≡ i.timestamp
  unfolding times_of time_of pick
  times_stamp =
      yes_or_no (has_time i)
      (λ e. yes_or_no (has_expiry i) (λ f. rw (e, f) refl) (λ f. rw (e, f) refl))
      (λ e. rw e (sym (u.timestamp e)))

  module _ (legal : has_time i ≡ false → has_expiry i ≡ false) where
    times_ttl : (times_of i).ttl ≡ i.ttl
    unfolding times_of pick
    times_ttl =
        yes_or_no (has_time i)
        (λ e. yes_or_no (has_expiry i) (λ f. rw (e, f) refl) (λ f. rw (e, f) (sym (u.ttl f))))
        (λ e. rw e (sym (u.ttl (legal e))))

    times_expiry : (times_of i).local ≡ i.expiry
    unfolding times_of pick
    times_expiry =
        yes_or_no (has_time i)
        (λ e. yes_or_no (has_expiry i) (λ f. rw (e, f) refl) (λ f. rw (e, f) (sym (u.expiry f))))
        (λ e. rw e (sym (u.expiry (legal e))))

-- ---- rows
module _ (kind : ℕ) (few : kind < 4) (i : Item) (g : bad_row kind i ≡ false) (u : Unused i) where
  pub row_is_kind : i.kind ≡ kind
  unfolding bad_row
  row_is_kind = alike _ _ (not_first (unlike i.kind kind) _ g)

  row_is_flags : bad_row_flags i.flags ≡ false
  unfolding bad_row
  row_is_flags = not_second (unlike i.kind kind) _ g

  row_few : i.flags ≤ 7
  unfolding bad_row_flags
  row_few = ltb-false 7 i.flags (not_first (ltb 7 i.flags) _ row_is_flags)

  pub row_legal : has_time i ≡ false → has_expiry i ≡ false
  unfolding has_time has_expiry bad_row_flags
  row_legal e = yes_bit (i.flags / 2) (half i.flags (odd_bit i.flags e) (eqb-false (i.flags % 4) 2 (not_second (ltb 7 i.flags) _ row_is_flags)))
    where
      even : (x q : ℕ) → x ≡ 2 * q → x % 2 ≡ 0
      even x q e = omega arith

      half : (f : ℕ) → f % 2 ≡ 0 → (f % 4 ≡ 2 → ⊥) → f / 2 % 2 ≡ 0
      half f e h =
          let z : f % 4 ≡ 0 = omega arith in
          let y : f / 2 ≡ 2 * (f / 4) = omega arith in
          even (f / 2) (f / 4) y

  row_flags_lem : (f : ℕ) → f ≤ 7 → 4 * f / 4 % 8 ≡ f
  row_flags_lem f l = let z : 4 * f / 4 ≡ f = omega arith in omega arith

  abbrev row_said : Item
  row_said = item kind (4 * i.flags / 4 % 8) 0 (times_of i).ttl (time_of (times_of i)) (mark_of (deletion_of i)) (deletion_of i).local (times_of i).local zeroed 0 0 0

  row_item_lem : (x : ℕ) → row_item kind (row_of x i) ≡ row_said
  unfolding row_item bind
  row_item_lem x = refl

  pub row_again_lem : (x : ℕ) → nowhere (row_item kind (row_of x i)) ≡ nowhere i
  row_again_lem x =
      let k = row_is_kind in
      let n = no_second i kind k (ne_eqb kind 4 (λ e. omega arith)) in
      let c = u.column (no_column i kind k (lt-ltb kind 4 few)) in
      ap nowhere (row_item_lem x)
      ∙ nowhere_is i row_said (sym k) (row_flags_lem i.flags row_few) (sym c) (times_ttl i u row_legal) (times_stamp i u) (deletion_mark i u (mark_local i kind k (ne_eqb kind 6 (λ e. omega arith)))) (deletion_local i u) (times_expiry i u row_legal) (sym (u.mark2 n)) (sym (u.local2 n))

-- ---- markers
module _ (opened : Deletion) (i : Item) (g : bad_marker opened i ≡ false) (u : Unused i) where
  pub marker_is_kind : i.kind ≡ 4
  unfolding bad_marker
  marker_is_kind = alike _ _ (not_first (unlike i.kind 4) _ g)

  marker_is_flags : i.flags ≡ 4
  unfolding bad_marker
  marker_is_flags = alike _ _ (not_first (unlike i.flags 4) _ (not_second (unlike i.kind 4) _ g))

  abbrev marker_said : Item
  marker_said = item 4 4 i.column 0 zeroed i.mark i.local 0 (mark_of (second_of i)) (second_of i).local 0 0

  marker_item_lem : (vs : List Span) → marker_item (marker_of i vs) 0 ≡ marker_said
  unfolding marker_item bind
  marker_item_lem vs = refl

  marker_no_time : has_time i ≡ false
  unfolding has_time
  marker_no_time = ap (λ z. eqb (z % 2) 1) marker_is_flags

  marker_no_expiry : has_expiry i ≡ false
  unfolding has_expiry
  marker_no_expiry = ap (λ z. eqb (z / 2 % 2) 1) marker_is_flags

  pub marker_again_lem : (vs : List Span) → nowhere (marker_item (marker_of i vs) 0) ≡ nowhere i
  marker_again_lem vs =
      ap nowhere (marker_item_lem vs)
      ∙ nowhere_is i marker_said (sym marker_is_kind) (sym marker_is_flags) refl (sym (u.ttl marker_no_expiry)) (sym (u.timestamp marker_no_time)) refl refl (sym (u.expiry marker_no_expiry)) (second_mark i u) (second_local i u)

-- ---- ends
module _ (opened : Deletion) (i : Item) (g : bad_end opened i ≡ false) (u : Unused i) where
  pub end_is_kind : i.kind ≡ 7
  unfolding bad_end
  end_is_kind = alike _ _ (not_first (unlike i.kind 7) _ g)

  end_is_flags : i.flags ≡ 0
  unfolding bad_end
  end_is_flags = alike _ _ (not_first (unlike i.flags 0) _ (not_second (unlike i.kind 7) _ g))

  end_no_time : has_time i ≡ false
  unfolding has_time
  end_no_time = ap (λ z. eqb (z % 2) 1) end_is_flags

  end_no_expiry : has_expiry i ≡ false
  unfolding has_expiry
  end_no_expiry = ap (λ z. eqb (z / 2 % 2) 1) end_is_flags

  end_no_local : has_local i ≡ false
  unfolding has_local
  end_no_local = ap (λ z. eqb (z / 4 % 2) 1) end_is_flags

  end_no_column : has_column i ≡ false
  unfolding has_column pick
  end_no_column = rw end_is_kind refl

  pub end_again : (at : ℕ) → nowhere (end_item at) ≡ nowhere i
  unfolding end_item
  end_again at =
      let k = end_is_kind in
      let n = no_second i 7 k refl in
      nowhere_is i (item 7 0 0 0 zeroed zeroed 0 0 zeroed 0 at 1) (sym k) (sym end_is_flags) (sym (u.column end_no_column)) (sym (u.ttl end_no_expiry)) (sym (u.timestamp end_no_time)) (sym (u.mark (mark_local i 7 k refl ∙ end_no_local))) (sym (u.local end_no_local)) (sym (u.expiry end_no_expiry)) (sym (u.mark2 n)) (sym (u.local2 n))

-- ---- partitions
local_true : (i : Item) → has_local i ≡ true → i.flags / 4 % 2 ≡ 1
unfolding has_local
local_true i e = eqb-true (i.flags / 4 % 2) 1 e

local_false : (i : Item) → has_local i ≡ false → i.flags / 4 % 2 ≡ 0
unfolding has_local
local_false i e = odd_bit (i.flags / 4) e

module _ (bytes : List ℕ) (i : Item) (g : bad_partition bytes i ≡ false) (u : Unused i) where
  partition_is_kind : i.kind ≡ 1
  unfolding bad_partition
  partition_is_kind = alike _ _ (not_first (unlike i.kind 1) _ g)

  partition_is_flags : bad_partition_flags i.flags ≡ false
  unfolding bad_partition
  partition_is_flags = not_first (bad_partition_flags i.flags) _ (not_second (unlike i.kind 1) _ g)

  partition_place : pick (ltb 7 i.flags) (bad_nowhere i) (bad_key bytes i) ≡ false
  unfolding bad_partition
  partition_place = not_second (bad_partition_flags i.flags) _ (not_second (unlike i.kind 1) _ g)

  partition_bits : (i.flags ≤ 15) × (i.flags % 4 ≡ 0)
  unfolding bad_partition_flags
  partition_bits =
      let z = ltb-false 0 (i.flags % 4) (not_second (ltb 15 i.flags) _ partition_is_flags) in
      (ltb-false 15 i.flags (not_first (ltb 15 i.flags) _ partition_is_flags), omega arith)

  key_empty : ltb 7 i.flags ≡ true → i.length ≡ 0
  key_empty e = nowhere_length i (not_then (ltb 7 i.flags) _ _ partition_place e)

  key_full : ltb 7 i.flags ≡ false → 1 ≤ i.length
  unfolding bad_key
  key_full e = place_some bytes i (not_first (bad_place bytes i) _ (not_else (ltb 7 i.flags) _ _ partition_place e))

  partition_no_time : has_time i ≡ false
  unfolding has_time
  partition_no_time = yes_bit i.flags (fourth i.flags partition_bits.1)
    where
      fourth : (f : ℕ) → f % 4 ≡ 0 → f % 2 ≡ 0
      fourth f e = omega arith

  partition_no_expiry : has_expiry i ≡ false
  unfolding has_expiry
  partition_no_expiry = yes_bit (i.flags / 2) (even (i.flags / 2) (i.flags / 4) (half i.flags partition_bits.1))
    where
      half : (f : ℕ) → f % 4 ≡ 0 → f / 2 ≡ 2 * (f / 4)
      half f e = omega arith

      even : (x q : ℕ) → x ≡ 2 * q → x % 2 ≡ 0
      even x q e = omega arith

  flags_by : (deleted x y : ℕ) → partition_flags deleted i.length ≡ pick (eqb i.length 0) x y → (ltb 7 i.flags ≡ true → i.flags ≡ x) → (ltb 7 i.flags ≡ false → i.flags ≡ y) → partition_flags deleted i.length ≡ i.flags
  flags_by deleted x y q e f =
      yes_or_no (ltb 7 i.flags)
      (λ h. q ∙ sym (pick_yes _ _ _ _ (eq-eqb i.length 0 (key_empty h)) (e h)))
      (λ h. q ∙ sym (pick_no _ _ _ _ (ne_eqb i.length 0 (λ z. let k = key_full h in omega arith)) (f h)))

  flags_live : partition_flags 0 i.length ≡ pick (eqb i.length 0) 8 0
  unfolding partition_flags pick
  flags_live = refl

  flags_deleted : partition_flags 1 i.length ≡ pick (eqb i.length 0) 12 4
  unfolding partition_flags pick
  flags_deleted = refl

  bits_of : (f : ℕ) → f ≤ 15 → f % 4 ≡ 0 → f ≡ 4 * (f / 4)
  bits_of f l e = omega arith

  deleted_yes : has_local i ≡ true → (deletion_of i).deleted ≡ 1
  unfolding deletion_of pick
  deleted_yes e = rw e refl

  deleted_no : has_local i ≡ false → (deletion_of i).deleted ≡ 0
  unfolding deletion_of pick
  deleted_no e = rw e refl

  partition_flags_lem : partition_flags (deletion_of i).deleted i.length ≡ i.flags
  partition_flags_lem =
      yes_or_no (has_local i)
      (λ e. rw (deleted_yes e) (flags_by 1 12 4 flags_deleted (λ h. twelve i.flags partition_bits.0 partition_bits.1 (local_bit e) (ltb-true 7 i.flags h)) (λ h. four i.flags partition_bits.1 (local_bit e) (ltb-false 7 i.flags h))))
      (λ e. rw (deleted_no e) (flags_by 0 8 0 flags_live (λ h. eight i.flags partition_bits.0 partition_bits.1 (no_local_bit e) (ltb-true 7 i.flags h)) (λ h. none i.flags partition_bits.1 (no_local_bit e) (ltb-false 7 i.flags h))))
    where
      local_bit : has_local i ≡ true → i.flags / 4 % 2 ≡ 1
      local_bit e = local_true i e

      no_local_bit : has_local i ≡ false → i.flags / 4 % 2 ≡ 0
      no_local_bit e = local_false i e

      twelve : (f : ℕ) → f ≤ 15 → f % 4 ≡ 0 → f / 4 % 2 ≡ 1 → 7 < f → f ≡ 12
      twelve f l z e h = let a : f / 4 ≡ 3 = omega arith in omega arith

      four : (f : ℕ) → f % 4 ≡ 0 → f / 4 % 2 ≡ 1 → f ≤ 7 → f ≡ 4
      four f z e h = let a : f / 4 ≡ 1 = omega arith in omega arith

      eight : (f : ℕ) → f ≤ 15 → f % 4 ≡ 0 → f / 4 % 2 ≡ 0 → 7 < f → f ≡ 8
      eight f l z e h = let a : f / 4 ≡ 2 = omega arith in omega arith

      none : (f : ℕ) → f % 4 ≡ 0 → f / 4 % 2 ≡ 0 → f ≤ 7 → f ≡ 0
      none f z e h = let a : f / 4 ≡ 0 = omega arith in omega arith

  partition_item_lem : partition_item (partition_of i) ≡ item 1 (partition_flags (deletion_of i).deleted i.length) 0 0 zeroed (mark_of (deletion_of i)) (deletion_of i).local 0 zeroed 0 i.offset i.length
  unfolding partition_item bind
  partition_item_lem = refl

  pub partition_again_lem : partition_item (partition_of i) ≡ i
  partition_again_lem =
      let k = partition_is_kind in
      let n = no_second i 1 k refl in
      partition_item_lem
      ∙ item_is i 1 _ 0 0 zeroed _ _ 0 zeroed 0 _ _ (sym k) partition_flags_lem (sym (u.column (no_column i 1 k refl))) (sym (u.ttl partition_no_expiry)) (sym (u.timestamp partition_no_time)) (deletion_mark i u (mark_local i 1 k refl)) (deletion_local i u) (sym (u.expiry partition_no_expiry)) (sym (u.mark2 n)) (sym (u.local2 n)) refl refl
