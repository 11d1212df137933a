-- "places aside": the items of a record table, and items without the places that the writer ignores. Assumes nothing.
use Rattle.std.specs.Prelude.{◌≡◌, Bool, false, ℕ, zero, suc, ◌+◌, ◌*◌, ◌/◌, ◌≤◌, List, [], ◌∷◌, length}
use Rattle.common.specs.Choose.{pick}
use Rattle.data_items.specs.Items.{item, shows_value, value_of}
use Rattle.data_items.specs.declared.Item.{Item}
use Rattle.write_accept.specs.Fields.{item_of, stray_bytes}
use Rattle.write_accept.specs.Tests.{bad_place, bad_nowhere}

-- the items of k records, from place at on
unfoldable pub items_from : List ℕ → ℕ → ℕ → List Item
items_from s at zero = []
items_from s at (suc k) = item_of s at ∷ items_from s (at + 64) k

-- those of a whole record table
unfoldable pub items_of : List ℕ → List Item
items_of s = items_from s 0 (length s / 64)

-- an item whose place is nowhere
abbrev pub nowhere : Item → Item
nowhere i = item i.kind i.flags i.column i.ttl i.timestamp i.mark i.local i.expiry i.mark2 i.local2 0 0

-- an item without the place of a whole item
unfoldable pub placeless : Item → Item
placeless i = pick (shows_value i.kind) i (nowhere i)

abbrev pub all_placeless : List Item → List Item
all_placeless [] = []
all_placeless (i ∷ l) = placeless i ∷ all_placeless l

-- an item without its place, and the key or value that it shows in the bytes s
pub record ItemView : Type 0 where
  pub item : Item
  pub value : List ℕ

abbrev pub show_item : List ℕ → Item → ItemView
show_item s i = record { item = nowhere i; value = value_of s i }

abbrev pub show_items : List ℕ → List Item → List ItemView
show_items s [] = []
show_items s (i ∷ l) = show_item s i ∷ show_items s l

-- "a value's place outside the lent bytes, or not 0, 0 without a value": a key or value is shown in the bytes, or has no place
unfoldable pub misplaced : List ℕ → Item → Bool
misplaced bytes i = pick (shows_value i.kind) (pick (bad_nowhere i) (bad_place bytes i) false) false

-- whole records, zero where nothing stands, whose keys and values lie in the bytes lent beside
pub record Proper (bytes s : List ℕ) : Type 0 where
  pub whole : length s ≡ 64 * (length s / 64)
  pub zeros : (k : ℕ) → 64 * k + 64 ≤ length s → stray_bytes s (64 * k) ≡ false
  pub places : (k : ℕ) → 64 * k + 64 ≤ length s → misplaced bytes (item_of s (64 * k)) ≡ false
