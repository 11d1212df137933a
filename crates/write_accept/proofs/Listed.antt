-- What is taken is listed as the records given, but for the places of whole items. Assumes nothing.
use mathlib.Core.Path.{◌≡◌, refl, sym, subst, ap, ◌∙◌}
use mathlib.Core.Bool.{Bool, true, false}
use mathlib.Core.List.{List, [], ◌∷◌, ◌++◌}
use Prim.Native.Nat.{ℕ, zero, suc, ◌+◌, ◌-◌, ◌*◌, ◌/◌, ◌≤◌, ◌<◌}
use native.Mathlib.Decide.{dec_lt}
use native.Mathlib.Omega.{arith}
use borrow.Author.Tests.{eqb-true}
use lib.Dec.{ltb, eqb}
use lib.ListN.{length, get_or}
use Rattle.common.specs.Choose.{pick}
use Rattle.common.specs.Got.{Got}
use Rattle.common.specs.declared.times.Bases.{Bases}
use Rattle.common.proofs.Choose.{pick_no}
use Rattle.common.proofs.Gives.{Gives, gives_got, gives_bad, gives_on, gives_pick}
use Rattle.data_field.specs.Fields.{live}
use Rattle.data_field.specs.declared.fields.Deletion.{Deletion}
use Rattle.data_items.specs.Items.{shows_value, row_item, marker_item, end_item}
use Rattle.data_items.specs.declared.Item.{Item}
use Rattle.data_contents.specs.Contents.{Widths, open_behind, values_listed, cells_listed, entry_listed, entries_listed, partition_listed, listed}
use Rattle.write_accept.specs.Fields.{item_of, stray_bytes, has_local}
use Rattle.write_accept.specs.Records.{kind_at}
use Rattle.write_accept.specs.Tests.{unlike, bad_place, bad_nowhere, bad_key, bad_value, bad_partition_flags, bad_value_flags, bad_cell_flags, bad_cell_place, bad_partition, bad_row, bad_static, bad_marker, bad_clustering, bad_cell, bad_end}
use Rattle.write_accept.specs.Entries.{row_of, marker_of, taken_values, taken_prefix, is_cell, taken_cells, taken_static, taken_row, taken_marker, taken_entry, taken_end, taken_entries_in, taken_entries, baseless, taken_partition, taken_in, taken_at}
use Rattle.write_accept.specs.Listings.{items_from, items_of, nowhere, placeless, all_placeless, misplaced, Proper}
use Rattle.write_accept.proofs.Goods.{not_first, not_second, not_else, not_then, yes_or_no, Good, record_gives}
use Rattle.write_accept.proofs.Fitting.{static_row}
use Rattle.write_accept.proofs.Again.{row_kind, marker_kind, end_kind}
use Rattle.write_accept.proofs.Items.{not_used, placeless_whole, value_again_lem, cell_again_lem, row_is_kind, row_again_lem, marker_is_kind, marker_again_lem, end_is_kind, end_again, partition_again_lem}

any : {A : Type 0} (x : Got A) → Gives x (λ a n. Unit)
any x = record { given = λ a n e. tt }

-- the records of s from at up to n are those of l, but for the places of whole items; they are zero where nothing stands, and show keys and
-- values in the bytes
pub record Lists (bytes s : List ℕ) (at : ℕ) (l : List Item) (n : ℕ) : Type 0 where
  pub count : ℕ
  pub stop : n ≡ at + 64 * count
  pub items : all_placeless l ≡ all_placeless (items_from s at count)
  pub zeros : (k : ℕ) → k < count → stray_bytes s (at + 64 * k) ≡ false
  pub places : (k : ℕ) → k < count → misplaced bytes (item_of s (at + 64 * k)) ≡ false

items_same : (s : List ℕ) (at n j k : ℕ) → at ≡ n → j ≡ k → items_from s at j ≡ items_from s n k
items_same s at n j k e f = rw (e, f) refl

items_both : (s : List ℕ) (at j k : ℕ) → items_from s at (j + k) ≡ items_from s at j ++ items_from s (at + 64 * j) k
unfolding items_from
items_both s at zero k = items_same s at (at + 64 * 0) (0 + k) k (omega arith) (omega arith)
items_both s at (suc j) k =
    items_same s at at (suc j + k) (suc (j + k)) refl (omega arith)
    ∙ ap (λ (z : List Item). item_of s at ∷ z) (items_both s (at + 64) j k ∙ ap (λ (z : List Item). items_from s (at + 64) j ++ z) (items_same s (at + 64 + 64 * j) (at + 64 * suc j) k k (omega arith) refl))

placeless_both : (l m : List Item) → all_placeless (l ++ m) ≡ all_placeless l ++ all_placeless m
placeless_both [] m = refl
placeless_both (i ∷ l) m = ap (λ (z : List Item). placeless i ∷ z) (placeless_both l m)

module _ (bytes s : List ℕ) where
  lists_none : (at : ℕ) → Lists bytes s at [] at
  unfolding items_from
  lists_none at = record { count = 0; stop = omega arith; items = refl; zeros = λ k l. absurd (omega arith); places = λ k l. absurd (omega arith) }

  lists_more : (at n m : ℕ) (i : Item) (l : List Item) → n ≡ at + 64 → placeless i ≡ placeless (item_of s at) → stray_bytes s at ≡ false → misplaced bytes (item_of s at) ≡ false → Lists bytes s n l m → Lists bytes s at (i ∷ l) m
  unfolding items_from
  lists_more at n m i l e f x y g = record {
    count = suc g.count;
    stop = omega (arith, g.stop);
    items = both (placeless i) (placeless (item_of s at)) f (all_placeless l) _ (g.items ∙ ap (λ z. all_placeless (items_from s z g.count)) e);
    zeros = step (λ z. stray_bytes s z ≡ false) x g.zeros;
    places = step (λ z. misplaced bytes (item_of s z) ≡ false) y g.places;
  }
    where
      step : (P : ℕ → Type 0) → P at → ((k : ℕ) → k < g.count → P (n + 64 * k)) → (k : ℕ) → k < suc g.count → P (at + 64 * k)
      step P p q zero c = subst P (omega arith) p
      step P p q (suc k) c = subst P (omega arith) (q k (omega arith))

      both : (x y : Item) → x ≡ y → (u v : List Item) → u ≡ v → ◌≡◌ {A = List Item} (x ∷ u) (y ∷ v)
      both x y e u v f = rw (e, f) refl

  lists_both : (at n m : ℕ) (l k : List Item) → Lists bytes s at l n → Lists bytes s n k m → Lists bytes s at (l ++ k) m
  lists_both at n m l k g h = record {
    count = g.count + h.count;
    stop = omega (arith, g.stop, h.stop);
    items =
        placeless_both l k ∙ both g.items (h.items ∙ ap (λ z. all_placeless (items_from s z h.count)) g.stop)
        ∙ sym (placeless_both (items_from s at g.count) _) ∙ ap all_placeless (sym (items_both s at g.count h.count));
    zeros = step (λ z. stray_bytes s z ≡ false) g.zeros h.zeros;
    places = step (λ z. misplaced bytes (item_of s z) ≡ false) g.places h.places;
  }
    where
      step : (P : ℕ → Type 0) → ((k : ℕ) → k < g.count → P (at + 64 * k)) → ((k : ℕ) → k < h.count → P (n + 64 * k)) → (k : ℕ) → k < g.count + h.count → P (at + 64 * k)
      step P p q k c = go (dec_lt k g.count)
        where
          go : Dec (k < g.count) → P (at + 64 * k)
          go (yes l) = p k l
          go (no l) = subst P (omega (arith, g.stop)) (q (k - g.count) (omega arith))

      both : {x y u v : List Item} → x ≡ y → u ≡ v → x ++ u ≡ y ++ v
      both e f = rw (e, f) refl

whole_again : (i j : Item) (k : ℕ) → j.kind ≡ k → i.kind ≡ k → shows_value k ≡ false → nowhere j ≡ nowhere i → placeless j ≡ placeless i
whole_again i j k e f h g = placeless_whole j (ap shows_value e ∙ h) ∙ g ∙ sym (placeless_whole i (ap shows_value f ∙ h))

-- ---- places that are not wrong
no_place : (t n p : Bool) → n ≡ false → pick t (pick n p false) false ≡ false
unfolding pick
no_place true n p e = rw e refl
no_place false n p e = refl

a_place : (t n p : Bool) → p ≡ false → pick t (pick n p false) false ≡ false
unfolding pick
a_place true true p e = e
a_place true false p e = refl
a_place false n p e = refl

module _ (bytes : List ℕ) where
  whole_placed : (i : Item) (k : ℕ) → i.kind ≡ k → shows_value k ≡ false → misplaced bytes i ≡ false
  unfolding misplaced
  whole_placed i k e f = sym (pick_no _ _ _ (shows_value i.kind) (ap shows_value e ∙ f) refl)

  nowhere_placed : (i : Item) → bad_nowhere i ≡ false → misplaced bytes i ≡ false
  unfolding misplaced
  nowhere_placed i e = no_place (shows_value i.kind) (bad_nowhere i) (bad_place bytes i) e

  shown_placed : (i : Item) → bad_place bytes i ≡ false → misplaced bytes i ≡ false
  unfolding misplaced
  shown_placed i e = a_place (shows_value i.kind) (bad_nowhere i) (bad_place bytes i) e

  value_placed : (column w : ℕ) (i : Item) → bad_clustering bytes column w i ≡ false → misplaced bytes i ≡ false
  unfolding bad_clustering bad_value
  value_placed column w i e =
      let f = not_second (unlike i.column column) _ (not_second (bad_value_flags i.flags) _ (not_second (unlike i.kind 5) _ e)) in
      yes_or_no (eqb i.flags 8) (λ g. nowhere_placed i (not_then (eqb i.flags 8) _ _ f g)) (λ g. shown_placed i (not_first (bad_place bytes i) _ (not_else (eqb i.flags 8) _ _ f g)))

  cell_placed : (column w : ℕ) (i : Item) → bad_cell bytes column w i ≡ false → misplaced bytes i ≡ false
  unfolding bad_cell bad_cell_place bad_value
  cell_placed column w i e =
      let f = not_second (unlike i.column column) _ (not_second (bad_cell_flags i.flags) _ (not_second (unlike i.kind 6) _ e)) in
      yes_or_no (has_local i) (λ g. nowhere_placed i (not_then (has_local i) _ _ f g)) (λ g.
      let k = not_else (has_local i) _ _ f g in
      yes_or_no (ltb 8 i.flags) (λ h. nowhere_placed i (not_then (ltb 8 i.flags) _ _ k h)) (λ h. shown_placed i (not_first (bad_place bytes i) _ (not_else (ltb 8 i.flags) _ _ k h))))

  key_placed : (i : Item) → bad_partition bytes i ≡ false → misplaced bytes i ≡ false
  unfolding bad_partition bad_key
  key_placed i e =
      let f = not_second (bad_partition_flags i.flags) _ (not_second (unlike i.kind 1) _ e) in
      yes_or_no (ltb 7 i.flags) (λ g. nowhere_placed i (not_then (ltb 7 i.flags) _ _ f g)) (λ g. shown_placed i (not_first (bad_place bytes i) _ (not_else (ltb 7 i.flags) _ _ f g)))

  placed_here : {i j : Item} → i ≡ j → misplaced bytes i ≡ false → misplaced bytes j ≡ false
  placed_here e f = subst (λ z. misplaced bytes z ≡ false) e f

shows_no : (shows_value 2 ≡ false) × ((shows_value 3 ≡ false) × ((shows_value 4 ≡ false) × (shows_value 7 ≡ false)))
unfolding shows_value pick
shows_no = (refl, (refl, (refl, refl)))

module _ (b : Bases) (bytes s : List ℕ) (end : ℕ) where
  values_listed_lem : (column : ℕ) (ws : List ℕ) (at : ℕ) → Gives (taken_values b bytes column ws s at end) (λ vs n. Lists bytes s at (values_listed column vs) n)
  unfolding taken_values
  values_listed_lem column [] at = gives_got _ _ (lists_none bytes s at)
  values_listed_lem column (w ∷ ws) at =
      gives_on _ (record_gives b (bad_clustering bytes column w) s at end) (λ i n g.
      gives_on _ (values_listed_lem (column + 1) ws n) (λ vs m h.
      gives_got _ _ (lists_more bytes s at n m _ _ g.next (ap placeless (value_again_lem bytes column w i g.right (not_used i g.numbers) ∙ g.is)) g.bytes (placed_here bytes g.is (value_placed bytes column w i g.right)) h)))

  prefix_listed : (column : ℕ) (ws : List ℕ) (at : ℕ) → Gives (taken_prefix b bytes column ws s at end) (λ vs n. Lists bytes s at (values_listed column vs) n)
  unfolding taken_prefix
  prefix_listed column [] at = gives_got _ _ (lists_none bytes s at)
  prefix_listed column (w ∷ ws) at =
      gives_pick (eqb (get_or s at 0) 5)
      (λ e.
      gives_on _ (record_gives b (bad_clustering bytes column w) s at end) (λ i n g.
      gives_on _ (prefix_listed (column + 1) ws n) (λ vs m h.
      gives_got _ _ (lists_more bytes s at n m _ _ g.next (ap placeless (value_again_lem bytes column w i g.right (not_used i g.numbers) ∙ g.is)) g.bytes (placed_here bytes g.is (value_placed bytes column w i g.right)) h))))
      (λ e. gives_got _ _ (lists_none bytes s at))

  cells_listed_lem : (column : ℕ) (ws : List ℕ) (at : ℕ) → Gives (taken_cells b bytes column ws s at end) (λ cs n. Lists bytes s at (cells_listed column cs) n)
  unfolding taken_cells
  cells_listed_lem column [] at = gives_got _ _ (lists_none bytes s at)
  cells_listed_lem column (w ∷ ws) at =
      gives_pick (is_cell column s at)
      (λ e.
      gives_on _ (record_gives b (bad_cell bytes column w) s at end) (λ i n g.
      gives_on _ (cells_listed_lem (column + 1) ws n) (λ cs m h.
      gives_got _ _ (lists_more bytes s at n m _ _ g.next (ap placeless (cell_again_lem bytes column w i g.right (not_used i g.numbers) ∙ g.is)) g.bytes (placed_here bytes g.is (cell_placed bytes column w i g.right)) h))))
      (λ e. gives_on _ (cells_listed_lem (column + 1) ws at) (λ cs m h. gives_got _ _ h))

  -- a row's record, said again
  row_same : (kind x : ℕ) (wrong : Item → Bool) (at : ℕ) (i : Item) (n : ℕ) → kind < 4 → shows_value kind ≡ false → bad_row kind i ≡ false → Good b wrong s at end i n → placeless (row_item kind (row_of x i)) ≡ placeless (item_of s at)
  row_same kind x wrong at i n l e r g =
      whole_again i (row_item kind (row_of x i)) kind (row_kind kind (row_of x i)) (row_is_kind kind l i r (not_used i g.numbers)) e (row_again_lem kind l i r (not_used i g.numbers) x) ∙ ap placeless g.is

  module _ (t : Widths) where
    entry_listed_lem : (first : ℕ) (opened : Deletion) (kind at : ℕ) → Gives (taken_entry t b bytes first opened kind s at end) (λ e n. Lists bytes s at (entry_listed e) n)
    unfolding taken_entry taken_static taken_row taken_marker
    entry_listed_lem first opened kind at =
        gives_pick (eqb kind 2)
        (λ e.
        gives_on _ (record_gives b (bad_static first (length t.statics)) s at end) (λ i n g.
        gives_on _ (cells_listed_lem 0 t.statics n) (λ cs m h.
        gives_got _ _ (lists_more bytes s at n m _ _ g.next (row_same 2 1 _ at i n (omega arith) shows_no.0 (static_row first _ i g.right) g) g.bytes
        (placed_here bytes g.is (whole_placed bytes i 2 (row_is_kind 2 (omega arith) i (static_row first _ i g.right) (not_used i g.numbers)) shows_no.0)) h))))
        (λ e.
        gives_pick (eqb kind 3)
        (λ f.
        gives_on _ (record_gives b (bad_row 3) s at end) (λ i n g.
        gives_on _ (values_listed_lem 0 t.clustering n) (λ vs p v.
        gives_on _ (cells_listed_lem 0 t.regulars p) (λ cs m h.
        gives_got _ _ (lists_more bytes s at n m _ _ g.next (row_same 3 0 _ at i n (omega arith) shows_no.1.0 g.right g) g.bytes
        (placed_here bytes g.is (whole_placed bytes i 3 (row_is_kind 3 (omega arith) i g.right (not_used i g.numbers)) shows_no.1.0)) (lists_both bytes s n p m _ _ v h))))))
        (λ f.
        gives_pick (eqb kind 4)
        (λ k.
        gives_on _ (record_gives b (bad_marker opened) s at end) (λ i n g.
        gives_on _ (prefix_listed 0 t.clustering n) (λ vs m h.
        let u = not_used i g.numbers in
        let same = whole_again i (marker_item (marker_of i vs) 0) 4 (marker_kind (marker_of i vs) 0) (marker_is_kind opened i g.right u) shows_no.1.1.0 (marker_again_lem opened i g.right u vs) in
        gives_got _ _ (lists_more bytes s at n m _ _ g.next (same ∙ ap placeless g.is) g.bytes (placed_here bytes g.is (whole_placed bytes i 4 (marker_is_kind opened i g.right u) shows_no.1.1.0)) h))))
        (λ k. gives_bad _ _)))

    entries_listed_lem : (j first : ℕ) (opened : Deletion) (at : ℕ) → Gives (taken_entries_in j t b bytes first opened s at end) (λ es n. Lists bytes s at (entries_listed es 0) n × (n ≤ end))
    unfolding taken_entries_in taken_end
    entries_listed_lem zero first opened at = gives_bad _ _
    entries_listed_lem (suc j) first opened at =
        gives_on _ (any (kind_at s at end)) (λ kind q _.
        gives_pick (eqb kind 7)
        (λ e.
        gives_on _ (record_gives b (bad_end opened) s at end) (λ i n g.
        let u = not_used i g.numbers in
        let same = whole_again i (end_item 0) 7 (end_kind 0) (end_is_kind opened i g.right u) shows_no.1.1.1 (end_again opened i g.right u 0) in
        gives_got _ _ (lists_more bytes s at n n _ _ g.next (same ∙ ap placeless g.is) g.bytes (placed_here bytes g.is (whole_placed bytes i 7 (end_is_kind opened i g.right u) shows_no.1.1.1)) (lists_none bytes s n), g.within)))
        (λ e.
        gives_on _ (entry_listed_lem first opened kind at) (λ x m h.
        gives_on _ (entries_listed_lem j 0 (open_behind opened x) m) (λ es n k.
        gives_got _ _ (lists_both bytes s at m n _ _ h k.0, k.1)))))

    partition_listed_lem : (at : ℕ) → Gives (taken_partition t b bytes s at end) (λ p n. Lists bytes s at (partition_listed p) n × ((at < n) × (n ≤ end)))
    unfolding taken_partition taken_entries
    partition_listed_lem at =
        gives_on _ (record_gives baseless (bad_partition bytes) s at end) (λ i n g.
        gives_on _ (entries_listed_lem (end - n) 1 live n) (λ es m h.
        let same = ap placeless (partition_again_lem bytes i g.right (not_used i g.numbers) ∙ g.is) in
        gives_got _ _ (lists_more bytes s at n m _ _ g.next same g.bytes (placed_here bytes g.is (key_placed bytes i g.right)) h.0, (omega (arith, g.next, h.0.stop), h.1))))

    all_listed : (j at : ℕ) → at ≤ end → end - at ≤ j → Gives (taken_in j t b bytes s at end) (λ ps n. Lists bytes s at (listed ps) n × (n ≡ end))
    unfolding taken_in
    all_listed zero at l k = gives_got _ _ (lists_none bytes s at, omega arith)
    all_listed (suc j) at l k =
        gives_pick (eqb at end) (λ e. gives_got _ _ (lists_none bytes s at, eqb-true at end e)) (λ e.
        gives_on _ (partition_listed_lem at) (λ p n g.
        gives_on _ (all_listed j n g.1.1 (omega (arith, g.1.0))) (λ ps m h.
        gives_got _ _ (lists_both bytes s at n m _ _ g.0 h.0, h.1))))

-- what is taken is listed as the records that were given, but for the places of whole items; and they are whole records
pub taken_listed : (t : Widths) (b : Bases) (bytes s : List ℕ) → Gives (taken_at t b bytes s 0 (length s)) (λ ps n. (all_placeless (listed ps) ≡ all_placeless (items_of s)) × (n ≡ length s))
unfolding taken_at items_of
taken_listed t b bytes s = record {
  given = λ ps n e.
      let z = (all_listed b bytes s (length s) t (length s - 0) 0 (omega arith) (omega arith)).given ps n e in
      (z.0.items ∙ ap (λ k. all_placeless (items_from s 0 k)) (counted z.0.count (length s) (sym z.1 ∙ z.0.stop)), z.1);
}
  where
    counted : (k l : ℕ) → l ≡ 0 + 64 * k → k ≡ l / 64
    counted k l e = omega arith

-- what is taken is a proper table
pub taken_proper : (t : Widths) (b : Bases) (bytes s : List ℕ) → Gives (taken_at t b bytes s 0 (length s)) (λ ps n. Proper bytes s)
unfolding taken_at
taken_proper t b bytes s = record {
  given = λ ps n e.
      let z = (all_listed b bytes s (length s) t (length s - 0) 0 (omega arith) (omega arith)).given ps n e in
      let l : length s ≡ 64 * z.0.count = omega (arith, z.1, z.0.stop) in
      record {
        whole = divided z.0.count (length s) l;
        zeros = λ k h. subst (λ x. stray_bytes s x ≡ false) (omega arith) (z.0.zeros k (omega arith));
        places = λ k h. subst (λ x. misplaced bytes (item_of s x) ≡ false) (omega arith) (z.0.places k (omega arith));
      };
}
  where
    divided : (k l : ℕ) → l ≡ 64 * k → l ≡ 64 * (l / 64)
    divided k l e = omega arith
