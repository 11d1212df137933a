-- "It takes exactly the record sequences that some accepted Data lists as, under the bases given, places aside": what is
-- taken is such a table, and every such table is taken. Assumes nothing.
use mathlib.Core.Path.{◌≡◌, refl, sym, subst, ap, ◌∙◌}
use mathlib.Core.Bool.{true, false}
use mathlib.Core.List.{List, [], ◌∷◌}
use Prim.Native.Nat.{ℕ, zero, suc, ◌+◌, ◌*◌, ◌/◌, ◌^◌, ◌≤◌, ◌<◌}
use native.Mathlib.Decide.{dec_lt}
use native.Mathlib.Omega.{arith}
use lib.ListN.{length, get_or, get_or-eq_default}
use Rattle.common.specs.Got.{got}
use Rattle.common.specs.Store.{shown}
use Rattle.common.specs.declared.times.Bases.{Bases}
use Rattle.common.proofs.Choose.{pick_yes}
use Rattle.common.proofs.RoundTrip.{Reads}
use Rattle.data_items.specs.Items.{shows_value, value_of}
use Rattle.data_items.specs.declared.Item.{Item}
use Rattle.data_contents.specs.Contents.{Widths, Contents, contents_at, listed}
use Rattle.list_call.specs.Records.{records_of}
use Rattle.list_call.proofs.Loops.{length_records_of}
use Rattle.write_form.specs.Views.{show_contents}
use Rattle.write_form.specs.Fits.{Bounded}
use Rattle.write_form.specs.Whole.{contents_bytes}
use Rattle.write_accept.specs.Fields.{item_of}
use Rattle.write_accept.specs.Entries.{taken_at}
use Rattle.write_accept.specs.Listings.{items_from, items_of, nowhere, ItemView, show_item, show_items, misplaced, Proper}
use Rattle.write_accept.proofs.Goods.{not_then}
use Rattle.write_accept.proofs.Again.{AllWide, records_back}
use Rattle.write_accept.proofs.Listed.{taken_listed, taken_proper}
use Rattle.write_accept.proofs.Shows.{shows_same}
use Rattle.write_accept.proofs.Lying.{read_lies, taken_lies}
use Rattle.write_accept.proofs.Laws.{ListsAs, lists_alike, taken_lists}
use Rattle.write_accept.proofs.Moved.{placed_is, Placed}
use Rattle.write_accept.proofs.Carried.{Carried, taken_carried}

-- ---- items one by one
pub items_length : (s : List ℕ) (at k : ℕ) → length (items_from s at k) ≡ k
unfolding items_from
items_length s at zero = refl
items_length s at (suc k) = ap suc (items_length s (at + 64) k)

pub shows_length : (s : List ℕ) (l : List Item) → length (show_items s l) ≡ length l
shows_length s [] = refl
shows_length s (i ∷ l) = ap suc (shows_length s l)

item_at : (d s bytes table : List ℕ) (at j k : ℕ) → k < j → show_items d (items_from s at j) ≡ show_items bytes (items_from table at j) → show_item d (item_of s (at + 64 * k)) ≡ show_item bytes (item_of table (at + 64 * k))
unfolding items_from
item_at d s bytes table at zero k l e = absurd (omega arith)
item_at d s bytes table at (suc j) zero l e =
    let f : show_item d (item_of s at) ≡ show_item bytes (item_of table at) = cc in
    subst (λ z. show_item d (item_of s z) ≡ show_item bytes (item_of table z)) (omega arith) f
item_at d s bytes table at (suc j) (suc k) l e =
    let f : show_items d (items_from s (at + 64) j) ≡ show_items bytes (items_from table (at + 64) j) = cc in
    subst (λ z. show_item d (item_of s z) ≡ show_item bytes (item_of table z)) (omega arith) (item_at d s bytes table (at + 64) j k (omega arith) f)

item_kind : (s : List ℕ) (at : ℕ) → (item_of s at).kind ≡ get_or s at 0
unfolding item_of
item_kind s at = refl

item_column : (s : List ℕ) (at : ℕ) → (item_of s at).column ≡ get_or s (at + 2) 0
unfolding item_of
item_column s at = refl

value_shown : (s : List ℕ) (i : Item) → shows_value i.kind ≡ true → value_of s i ≡ shown s i.offset i.length
unfolding value_of
value_shown s i e = sym (pick_yes _ _ _ (shows_value i.kind) e refl)

well_placed : (bytes : List ℕ) (i : Item) → misplaced bytes i ≡ false → shows_value i.kind ≡ true → Placed bytes i
unfolding misplaced
well_placed bytes i e f = not_then (shows_value i.kind) _ _ e f

-- two tables that show the same, as many records in both
module _ (d s bytes table : List ℕ) (count : ℕ) (all : length s ≡ 64 * count) (as_many : length table ≡ 64 * count)
    (same : show_items d (items_from s 0 count) ≡ show_items bytes (items_from table 0 count)) (g : Proper bytes table) where
  item_same : (k : ℕ) → 64 * k + 64 ≤ length s → show_item d (item_of s (64 * k)) ≡ show_item bytes (item_of table (64 * k))
  item_same k h = subst (λ z. show_item d (item_of s z) ≡ show_item bytes (item_of table z)) (omega arith) (item_at d s bytes table 0 count k (omega arith) same)

  nowhere_same : (k : ℕ) → 64 * k + 64 ≤ length s → nowhere (item_of s (64 * k)) ≡ nowhere (item_of table (64 * k))
  nowhere_same k h = ap (λ (x : ItemView). x.item) (item_same k h)

  kind_same : (k : ℕ) → 64 * k + 64 ≤ length s → (item_of s (64 * k)).kind ≡ (item_of table (64 * k)).kind
  kind_same k h = ap (λ (x : Item). x.kind) (nowhere_same k h)

  carried : (k : ℕ) → 64 * k + 64 ≤ length s → Carried d bytes s table (64 * k)
  carried k h =
      let j = item_of table (64 * k) in
      let e = placed_is (item_of s (64 * k)) j (nowhere_same k h) in
      record {
        moved = record { offset = j.offset; len = j.length; is = sym e; stray = g.zeros k (omega arith) };
        shows = λ f.
            let q : shows_value j.kind ≡ true = ap shows_value (sym (kind_same k h)) ∙ f in (
              sym (value_shown d (item_of s (64 * k)) f) ∙ ap (λ (x : ItemView). x.value) (item_same k h) ∙ value_shown bytes j q,
              subst (Placed bytes) (sym e) (well_placed bytes j (g.places k (omega arith)) q),
            );
      }

  first_byte : (k : ℕ) → get_or s (64 * k) 0 ≡ get_or table (64 * k) 0
  first_byte k = go (dec_lt k count)
    where
      go : Dec (k < count) → get_or s (64 * k) 0 ≡ get_or table (64 * k) 0
      go (yes l) = sym (item_kind s (64 * k)) ∙ kind_same k (omega arith) ∙ item_kind table (64 * k)
      go (no l) = get_or-eq_default s 0 {n = 64 * k} (omega arith) ∙ sym (get_or-eq_default table 0 {n = 64 * k} (omega arith))

  third_byte : (k : ℕ) → get_or s (64 * k + 2) 0 ≡ get_or table (64 * k + 2) 0
  third_byte k = go (dec_lt k count)
    where
      go : Dec (k < count) → get_or s (64 * k + 2) 0 ≡ get_or table (64 * k + 2) 0
      go (yes l) = sym (item_column s (64 * k)) ∙ ap (λ (x : Item). x.column) (nowhere_same k (omega arith)) ∙ item_column table (64 * k)
      go (no l) = get_or-eq_default s 0 {n = 64 * k + 2} (omega arith) ∙ sym (get_or-eq_default table 0 {n = 64 * k + 2} (omega arith))

  -- where s is taken, so is the other
  like_taken : (t : Widths) (b : Bases) (qs : List Contents) (n : ℕ) → taken_at t b d s 0 (length s) ≡ got qs n
      → Reads (taken_at t b bytes table 0 (length s)) n (λ us. show_contents d qs ≡ show_contents bytes us)
  like_taken t b qs n e =
      let r = (taken_carried d bytes s table (length s) carried first_byte third_byte b t).given qs n e in
      record { value = r.value; is = r.is; holds = r.holds.0 }

-- a proper table that shows what an accepted Data lists is taken, and shows what that Data shows
pub lists_taken : (t : Widths) → Bounded t → AllWide t → (b : Bases) (d : List ℕ) → length d < 2 ^ 64 → ((k : ℕ) → get_or d k 0 < 256) → (ps : List Contents) (n : ℕ)
    → contents_at t b d 0 (length d) ≡ got ps n → (bytes s : List ℕ) → Proper bytes s → show_items d (listed ps) ≡ show_items bytes (items_of s)
    → Reads (taken_at t b bytes s 0 (length s)) (length s) (λ us. show_contents bytes us ≡ show_contents d ps)
unfolding items_of
lists_taken t few wide b d short octets ps n e bytes s g h =
    let own = records_of (listed ps) in
    let r = records_back t few wide b d short octets ps n e in
    let alike = lists_alike t b d d r.value ps ((taken_lies t b d own 0 (length own)).given r.value (length own) r.is) (read_lies t b d ps n e) r.holds in
    let same : show_items d (items_from own 0 (length own / 64)) ≡ show_items bytes (items_from s 0 (length s / 64)) =
    sym (shows_same d (listed r.value) (items_of own) ((taken_listed t b d own).given r.value (length own) r.is).0) ∙ alike ∙ h in
    let count : length own / 64 ≡ length s / 64 =
    sym (items_length own 0 (length own / 64)) ∙ sym (shows_length d (items_from own 0 (length own / 64))) ∙ ap length same ∙ shows_length bytes (items_from s 0 (length s / 64)) ∙ items_length s 0 (length s / 64) in
    let l = length_records_of (listed ps) in
    let all : length own ≡ 64 * (length own / 64) = omega arith in
    let long : length own ≡ length s = omega (arith, g.whole) in
    let q = like_taken d own bytes s (length own / 64) all (omega (arith, g.whole)) (subst (λ k. show_items d (items_from own 0 (length own / 64)) ≡ show_items bytes (items_from s 0 k)) (sym count) same) g t b r.value (length own) r.is in
    subst (λ z. Reads (taken_at t b bytes s 0 z) z (λ us. show_contents bytes us ≡ show_contents d ps)) long (record { value = q.value; is = q.is; holds = sym q.holds ∙ r.holds })

-- some accepted Data lists as items that show xs
pub record Listable (t : Widths) (b : Bases) (xs : List ItemView) : Type 0 where
  pub «data» : List ℕ
  pub short : length «data» < 2 ^ 64
  pub lists : ListsAs t b «data» xs

-- what is taken is a proper table, and the Data that is written of it lists as the table, places aside
pub taken_only : (t : Widths) → Bounded t → (b : Bases) (bytes s : List ℕ) → length bytes < 2 ^ 64 → (qs : List Contents) (n : ℕ) → taken_at t b bytes s 0 (length s) ≡ got qs n
    → length (contents_bytes b t bytes qs) < 2 ^ 64 → Proper bytes s × Listable t b (show_items bytes (items_of s))
taken_only t few b bytes s short qs n e l =
    ((taken_proper t b bytes s).given qs n e, record { «data» = contents_bytes b t bytes qs; short = l; lists = taken_lists t b few bytes s short qs n e l })

-- and every such table is taken
pub taken_all : (t : Widths) → Bounded t → AllWide t → (b : Bases) (bytes s : List ℕ) → Proper bytes s → (x : Listable t b (show_items bytes (items_of s))) → ((k : ℕ) → get_or x.«data» k 0 < 256)
    → Reads (taken_at t b bytes s 0 (length s)) (length s) (λ us. show_contents bytes us ≡ show_contents x.«data» x.lists.value)
taken_all t few wide b bytes s g x octets = lists_taken t few wide b x.«data» x.short octets x.lists.value _ x.lists.is bytes s g x.lists.holds
