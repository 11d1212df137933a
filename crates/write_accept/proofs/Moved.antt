-- A record table is taken whatever the places are at which it shows the same keys and values: it is taken where a table like it, places
-- aside, is taken. Assumes nothing.
use mathlib.Core.Path.{◌≡◌, refl, sym, subst, ap, ◌∙◌}
use mathlib.Core.Bool.{Bool, true, false}
use mathlib.Core.List.{List}
use Prim.Native.Nat.{ℕ, ◌+◌, ◌-◌, ◌≤◌}
use native.Mathlib.Omega.{arith}
use borrow.Author.Tests.{le-ltb}
use lib.Dec.{ltb, eqb}
use lib.ListN.{length}
use Rattle.common.specs.Choose.{pick, bind}
use Rattle.common.specs.Got.{Got, got, bad, on}
use Rattle.common.specs.Store.{shown}
use Rattle.common.specs.declared.refusal.Fault.{Fault}
use Rattle.common.specs.declared.times.Bases.{Bases}
use Rattle.common.proofs.Gives.{never, got_value, got_place}
use Rattle.common.proofs.RoundTrip.{Reads, reads_got, reads_on, reads_no}
use Rattle.data_items.specs.Items.{item}
use Rattle.data_items.specs.declared.Item.{Item}
use Rattle.write_form.specs.Views.{show_cell}
use Rattle.write_form.proofs.Fields.{shown_none}
use Rattle.write_accept.specs.Fields.{item_of, stray_bytes, has_time, has_expiry, has_local, has_mark, has_second, has_column, stray_first, stray_last, stray_numbers}
use Rattle.write_accept.specs.Records.{ranges_at, record_at}
use Rattle.write_accept.specs.Tests.{unlike, bad_place, bad_nowhere, bad_key, bad_width, bad_value, bad_partition_flags, bad_value_flags, bad_cell_flags, bad_partition, bad_row, bad_static, bad_first, bad_marker, bad_clustering, bad_cell_place, bad_cell, bad_end}
use Rattle.write_accept.specs.Entries.{cell_of, times_of, deletion_of, second_of}
use Rattle.write_accept.specs.Listings.{nowhere}
use Rattle.write_accept.proofs.Goods.{not_first, not_second, not_then, yes_or_no, Ranged, record_gives, place_length, place_some, nowhere_offset, nowhere_length}
use Rattle.write_accept.proofs.Spelled.{ranges_back}
use Rattle.write_accept.proofs.Sound.{not_either}

-- ---- a reading that follows another: where x gives a value, so does y at the same place, and P holds of both
pub record Follows {A B : Type 0} (x : Got A) (y : Got B) (P : A → B → ℕ → Type 0) : Type 0 where
  pub given : (a : A) (n : ℕ) → x ≡ got a n → Reads y n (λ c. P a c n)

pub follows_got : {A B : Type 0} {P : A → B → ℕ → Type 0} (a : A) (c : B) (n : ℕ) → P a c n → Follows (got a n) (got c n) P
follows_got {P} a c n h = record {
  given = λ b m e. subst (λ k. Reads (got c n) k (λ d. P b d k)) (got_place e) (reads_got c n (subst (λ z. P z c n) (got_value e) h));
}

pub follows_bad : {A B : Type 0} {P : A → B → ℕ → Type 0} (f : Fault) (p : ℕ) (y : Got B) → Follows {A = A} (bad f p) y P
follows_bad f p y = record { given = λ b m e. never e }

pub follows_on : {A B C D : Type 0} {P : A → B → ℕ → Type 0} {Q : C → D → ℕ → Type 0} {x : Got A} {y : Got B} (k : A → ℕ → Got C) (l : B → ℕ → Got D) → Follows x y P
    → ((a : A) (c : B) (n : ℕ) → P a c n → Follows (k a n) (l c n) Q) → Follows (on x k) (on y l) Q
unfolding on
follows_on {A} {B} {C} {D} {P} {Q} {x} {y} k l h g = record { given = λ c m e. go x refl c m e }
  where
    go : (z : Got A) → x ≡ z → (c : C) (m : ℕ) → on z k ≡ got c m → Reads (on y l) m (λ d. Q c d m)
    go (got a n) d c m e = reads_on l (h.given a n d) (λ u p. (g a u n p).given c m e)
    go (bad f p) d c m e = never e

pub follows_pick : {A B : Type 0} {P : A → B → ℕ → Type 0} (t u : Bool) {x v : Got A} {y w : Got B} → t ≡ u → Follows x y P → Follows v w P → Follows (pick t x v) (pick u y w) P
unfolding pick
follows_pick true u e h g = rw (← e) h
follows_pick false u e h g = rw (← e) g

-- ---- an item at another place
abbrev pub placed : Item → ℕ → ℕ → Item
placed i o l = item i.kind i.flags i.column i.ttl i.timestamp i.mark i.local i.expiry i.mark2 i.local2 o l

pub placed_is : (i j : Item) → nowhere i ≡ nowhere j → placed i j.offset j.length ≡ j
placed_is i j e = ap (λ (z : Item). placed z j.offset j.length) e

placed_stray : (i : Item) (o l : ℕ) → stray_numbers (placed i o l) ≡ stray_numbers i
unfolding stray_numbers stray_first stray_last has_column has_expiry has_time has_mark has_local has_second
placed_stray i o l = refl

placed_ranged : (b : Bases) (i : Item) (o l : ℕ) → Ranged b i → Ranged b (placed i o l)
unfolding has_expiry has_time has_mark has_local has_second
placed_ranged b i o l r = record {
  ttl = r.ttl;
  timestamp = r.timestamp;
  mark = r.mark;
  local = r.local;
  expiry = r.expiry;
  mark2 = r.mark2;
  local2 = r.local2;
}

-- a place that is not wrong: 0, 0, or in the bytes
abbrev pub Placed : List ℕ → Item → Type 0
Placed bytes i = pick (bad_nowhere i) (bad_place bytes i) false ≡ false

module _ (bytes other : List ℕ) (i : Item) (o l : ℕ) (same : shown bytes i.offset i.length ≡ shown other o l) (p : Placed other (placed i o l)) where
  nowhere_shows : (s : List ℕ) (j : Item) → bad_nowhere j ≡ false → length (shown s j.offset j.length) ≡ 0
  nowhere_shows s j e = rw (nowhere_offset j e, nowhere_length j e) (ap length (shown_none s))

  to_nowhere : bad_nowhere i ≡ false → bad_nowhere (placed i o l) ≡ false
  to_nowhere e =
      yes_or_no (bad_nowhere (placed i o l))
      (λ f.
      let g = not_then (bad_nowhere (placed i o l)) _ _ p f in
      absurd (omega (arith, nowhere_shows bytes i e, ap length same, place_length other (placed i o l) g, place_some other (placed i o l) g)))
      (λ f. f)

  to_place : bad_place bytes i ≡ false → bad_place other (placed i o l) ≡ false
  to_place e =
      yes_or_no (bad_nowhere (placed i o l))
      (λ f. not_then (bad_nowhere (placed i o l)) _ _ p f)
      (λ f. absurd (omega (arith, nowhere_shows other (placed i o l) f, ap length same, place_length bytes i e, place_some bytes i e)))

  to_length : bad_place bytes i ≡ false → l ≡ i.length
  to_length e = sym (place_length other (placed i o l) (to_place e)) ∙ sym (ap length same) ∙ place_length bytes i e

  to_value : (w : ℕ) → bad_value bytes w i ≡ false → bad_value other w (placed i o l) ≡ false
  unfolding bad_value
  to_value w e =
      let f = not_first (bad_place bytes i) _ e in
      not_either _ _ (to_place f) (ap (bad_width w) (to_length f) ∙ not_second (bad_place bytes i) _ e)

  to_key : bad_key bytes i ≡ false → bad_key other (placed i o l) ≡ false
  unfolding bad_key
  to_key e =
      let f = not_first (bad_place bytes i) _ e in
      not_either _ _ (to_place f) (ap (ltb 65535) (to_length f) ∙ not_second (bad_place bytes i) _ e)

  -- one of two tests of the place
  to_either : (t x y u v : Bool) → (x ≡ false → u ≡ false) → (y ≡ false → v ≡ false) → pick t x y ≡ false → pick t u v ≡ false
  unfolding pick
  to_either true x y u v f g e = f e
  to_either false x y u v f g e = g e

  -- the second of two tests
  to_or : (t x u : Bool) → (x ≡ false → u ≡ false) → pick t true x ≡ false → pick t true u ≡ false
  unfolding pick
  to_or true x u f e = e
  to_or false x u f e = f e

  pub to_clustering : (column w : ℕ) → bad_clustering bytes column w i ≡ false → bad_clustering other column w (placed i o l) ≡ false
  unfolding bad_clustering
  to_clustering column w =
      to_or (unlike i.kind 5) _ _ (to_or (bad_value_flags i.flags) _ _ (to_or (unlike i.column column) _ _ (to_either (eqb i.flags 8) _ _ _ _ to_nowhere (to_value w))))

  pub to_cell : (column w : ℕ) → bad_cell bytes column w i ≡ false → bad_cell other column w (placed i o l) ≡ false
  unfolding bad_cell bad_cell_place has_local
  to_cell column w =
      to_or (unlike i.kind 6) _ _ (to_or (bad_cell_flags i.flags) _ _ (to_or (unlike i.column column) _ _
      (to_either (has_local i) _ _ _ _ to_nowhere (to_either (ltb 8 i.flags) _ _ _ _ to_nowhere (to_value w)))))

  pub to_partition : bad_partition bytes i ≡ false → bad_partition other (placed i o l) ≡ false
  unfolding bad_partition
  to_partition = to_or (unlike i.kind 1) _ _ (to_or (bad_partition_flags i.flags) _ _ (to_either (ltb 7 i.flags) _ _ _ _ to_nowhere to_key))

  pub to_cell_view : show_cell bytes (cell_of i) ≡ show_cell other (cell_of (placed i o l))
  unfolding cell_of has_local has_expiry pick
  to_cell_view =
      yes_or_no (has_local i)
      (λ e. rw (e, shown_none bytes, shown_none other) refl)
      (λ e. yes_or_no (has_expiry i) (λ f. rw (e, f, same) refl) (λ f. rw (e, f, same) refl))

-- tests that look at no place
pub to_row : (kind : ℕ) (i : Item) (o l : ℕ) → bad_row kind (placed i o l) ≡ bad_row kind i
unfolding bad_row
to_row kind i o l = refl

pub to_static : (first statics : ℕ) (i : Item) (o l : ℕ) → bad_static first statics (placed i o l) ≡ bad_static first statics i
unfolding bad_static bad_row
to_static first statics i o l = refl

pub to_marker : (opened : _) (i : Item) (o l : ℕ) → bad_marker opened (placed i o l) ≡ bad_marker opened i
unfolding bad_marker bad_first
to_marker opened i o l = refl

pub to_end : (opened : _) (i : Item) (o l : ℕ) → bad_end opened (placed i o l) ≡ bad_end opened i
unfolding bad_end
to_end opened i o l = refl

pub to_times : (i : Item) (o l : ℕ) → times_of (placed i o l) ≡ times_of i
unfolding times_of has_time has_expiry
to_times i o l = refl

pub to_deletion : (i : Item) (o l : ℕ) → deletion_of (placed i o l) ≡ deletion_of i
unfolding deletion_of has_local
to_deletion i o l = refl

pub to_second : (i : Item) (o l : ℕ) → second_of (placed i o l) ≡ second_of i
unfolding second_of has_second
to_second i o l = refl

-- ---- records
-- the record of `table` at at is that of s but for its place
pub record Moved (s table : List ℕ) (at : ℕ) : Type 0 where
  pub offset : ℕ
  pub len : ℕ
  pub is : item_of table at ≡ placed (item_of s at) offset len
  pub stray : stray_bytes table at ≡ false

pub record_follows : (b : Bases) (wrong right : Item → Bool) (s table : List ℕ) (at end : ℕ) (m : at + 64 ≤ end → Moved s table at)
    → ((h : at + 64 ≤ end) → wrong (item_of s at) ≡ false → right (placed (item_of s at) (m h).offset (m h).len) ≡ false)
    → Follows (record_at b wrong s at end) (record_at b right table at end) (λ i j n. (h : at + 64 ≤ end) × ((i ≡ item_of s at) × ((j ≡ placed (item_of s at) (m h).offset (m h).len) × ((n ≡ at + 64) × (wrong (item_of s at) ≡ false)))))
unfolding record_at bind
record_follows b wrong right s table at end m f = record {
  given = λ i n e.
      let g = (record_gives b wrong s at end).given i n e in
      let h : at + 64 ≤ end = omega (arith, g.next, g.within) in
      let z = m h in
      let r = subst (λ j. Ranged b j) g.is g.ranged in
      let w = subst (λ j. wrong j ≡ false) g.is g.right in
      let q = subst (λ j. stray_numbers j ≡ false) g.is g.numbers in
      subst (λ k. Reads (record_at b right table at end) k (λ j. (h : at + 64 ≤ end) × ((i ≡ item_of s at) × ((j ≡ placed (item_of s at) (m h).offset (m h).len) × ((k ≡ at + 64) × (wrong (item_of s at) ≡ false)))))) (sym g.next)
      (reads_no _ _ (le-ltb (end - at) 64 (omega arith))
      (reads_no _ _ z.stray
      (reads_no _ _ (rw z.is (placed_stray (item_of s at) z.offset z.len ∙ q))
      (reads_no _ _ (rw z.is (f h w))
      (rw z.is
      (said (ranges_at b (placed (item_of s at) z.offset z.len) at) (ranges_back b _ at (placed_ranged b (item_of s at) z.offset z.len r)) (λ j e. (h, (g.is, (e, (refl, w)))))))))));
}
  where
    said : {P Q : Item → Type 0} {k : ℕ} (x : Got Item) → Reads x k P → ((j : Item) → P j → Q j) → Reads x k Q
    said x r g = record { value = r.value; is = r.is; holds = g r.value r.holds }
