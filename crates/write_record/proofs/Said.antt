-- What the tests of a record say, for `search`. Assumes nothing.
use mathlib.Core.Path.{◌≡◌, refl, sym, ap}
use mathlib.Core.Bool.{Bool, true, false}
use mathlib.Core.List.{List}
use Prim.Native.Nat.{ℕ, ◌<◌, ◌≤◌}
use lib.Dec.{ltb}
use borrow.Author.Tests.{eq-eqb, ne_eqb, lt-ltb, le-ltb}
use Rattle.common.specs.Choose.{pick}
use Rattle.data_field.specs.declared.fields.Deletion.{Deletion}
use Rattle.data_items.specs.declared.Item.{Item}
use Rattle.write_accept.specs.Fields.{stray}
use Rattle.write_accept.specs.Records.{outside}
use Rattle.write_accept.specs.Tests.{unlike, bad_partition, bad_static, bad_marker, bad_end}
use Rattle.write_record.specs.Records.{wrong_in}
use Rattle.write_record.specs.declared.tests.Turn.{Turn}
use Rattle.write_record.specs.declared.tests.Turn.TheVariants.{Partition, Static, Marker, End}

-- ---- unlike numbers
pub unlike_yes : (x y : ℕ) → (x ≡ y → ⊥) → unlike x y ≡ true
unfolding unlike pick
unlike_yes x y h = rw (ne_eqb x y h) refl

pub unlike_no : (x y : ℕ) → x ≡ y → unlike x y ≡ false
unfolding unlike pick
unlike_no x y e = rw (eq-eqb x y e) refl

pub unlike_is_yes : (x y : ℕ) → (x ≡ y → ⊥) → true ≡ unlike x y
unlike_is_yes x y h = sym (unlike_yes x y h)

pub unlike_is_no : (x y : ℕ) → x ≡ y → false ≡ unlike x y
unlike_is_no x y e = sym (unlike_no x y e)

pub ruleset unlikes = (unlike_yes, unlike_no, unlike_is_yes, unlike_is_no)

-- ---- a test of a number, where another function tells whether it is used
pub stray_told : (r u h t : Bool) (none v : ℕ) → r ≡ stray u none v → u ≡ h → r ≡ t → stray h none v ≡ t
stray_told r u h t none v e f g = rw (← f, ← e) g

pub stray_is : (r u h : Bool) (none v : ℕ) → r ≡ stray u none v → u ≡ h → r ≡ stray h none v
stray_is r u h none v e f = rw (← f) e

pub outside_told : (r u h t : Bool) (lo hi base v : ℕ) → r ≡ outside u lo hi base v → u ≡ h → r ≡ t → outside h lo hi base v ≡ t
outside_told r u h t lo hi base v e f g = rw (← f, ← e) g

pub ruleset used = (stray_told, stray_is, outside_told)

-- ---- a test of a number that another function tells
pub below_told : (r x b : ℕ) → r ≡ x → r < b → ltb x b ≡ true
below_told r x b e h = rw (← e) (lt-ltb r b h)

pub not_below_told : (r x b : ℕ) → r ≡ x → b ≤ r → ltb x b ≡ false
not_below_told r x b e h = rw (← e) (le-ltb r b h)

pub above_told : (r x a : ℕ) → r ≡ x → a < r → ltb a x ≡ true
above_told r x a e h = rw (← e) (lt-ltb a r h)

pub not_above_told : (r x a : ℕ) → r ≡ x → r ≤ a → ltb a x ≡ false
not_above_told r x a e h = rw (← e) (le-ltb a r h)

pub above_is : (r x a : ℕ) → r ≡ x → ltb a r ≡ ltb a x
above_is r x a e = ap (ltb a) e

pub ruleset numbers = (below_told, not_below_told, above_told, not_above_told, above_is)

-- ---- the test of each turn
module _ (r : Bool) (bytes : List ℕ) (t : Turn) (i : Item) where
  pub wrong_partition : t ≡ Partition → r ≡ bad_partition bytes i → r ≡ wrong_in bytes t i
  unfolding wrong_in
  wrong_partition e f = rw e f

  pub wrong_static : (first statics : ℕ) → t ≡ Static first statics → r ≡ bad_static first statics i → r ≡ wrong_in bytes t i
  unfolding wrong_in
  wrong_static first statics e f = rw e f

  pub wrong_marker : (opened : Deletion) → t ≡ Marker opened → r ≡ bad_marker opened i → r ≡ wrong_in bytes t i
  unfolding wrong_in
  wrong_marker opened e f = rw e f

  pub wrong_end : (opened : Deletion) → t ≡ End opened → r ≡ bad_end opened i → r ≡ wrong_in bytes t i
  unfolding wrong_in
  wrong_end opened e f = rw e f

pub ruleset wrongs = (wrong_partition, wrong_static, wrong_marker, wrong_end)
