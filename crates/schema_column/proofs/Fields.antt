-- One column: its fields as the code reads them, and when two are equal. Assumes nothing.
use mathlib.Core.Path.{◌≡◌, ap, ◌∙◌}
use mathlib.Core.Bool.{Bool}
use mathlib.Core.List.{List}
use Prim.Native.Nat.{ℕ, ◌+◌, ◌*◌, ◌/◌, ◌<◌}
use borrow.Author.Tests.{eq-eqb, lt-leb}
use lib.ListN.{length, get_or}
use Rattle.std.proofs.Common.{Some}
use Rattle.common.specs.Store.{shown}
use Rattle.common.proofs.Choose.{pick_yes, pick_no}
use Rattle.number_fixed.specs.BigEndian.{big_endian}
use Rattle.text.specs.Text.{same}
use Rattle.schema_check.specs.Records.{role_at, line_at, mark_at, width_at, name_at, name_len_at}
use Rattle.schema_column.specs.Columns.{column_at, column_of, name_of, same_column}
use Rattle.schema_column.specs.declared.Column.{Column}

pub column_is : (s : List ℕ) (at name len : ℕ) → name ≡ big_endian 0 s (at + 4) 4 → len ≡ big_endian 0 s (at + 8) 4
    → ◌≡◌ {A = Column} (record { role = get_or s at 0; line = get_or s (at + 1) 0; reversed = get_or s (at + 2) 0; width = get_or s (at + 3) 0; name = name; len = len }) (column_at s at)
unfolding column_at role_at line_at mark_at width_at name_at name_len_at
column_is s at name len e f = rw (e, f)

pub name_is : (t s : List ℕ) (at name len : ℕ) (r : List ℕ) → name ≡ big_endian 0 s (at + 4) 4 → len ≡ big_endian 0 s (at + 8) 4 → r ≡ shown t name len → r ≡ name_of t s at
unfolding name_of name_at name_len_at
name_is t s at name len r e f g = g ∙ rw (e, f)

pub found_at : (s : List ℕ) (i : ℕ) (c : Column) → i < length s / 16 → c ≡ column_at s (16 * i) → Some c ≡ column_of s i
unfolding column_of
found_at s i c h e = pick_no _ _ _ _ (lt-leb _ _ h) (ap Some e)

pub same_at : (s t v u : List ℕ) (at : ℕ) (x y : List ℕ) (r : Bool) → get_or s at 0 ≡ get_or v at 0 → get_or s (at + 1) 0 ≡ get_or v (at + 1) 0 → get_or s (at + 2) 0 ≡ get_or v (at + 2) 0
    → x ≡ name_of t s at → y ≡ name_of u v at → r ≡ same x y → r ≡ same_column s t v u at
unfolding same_column role_at line_at mark_at
same_at s t v u at x y r e f g h i j =
    pick_yes _ _ _ _ (eq-eqb _ _ e) (pick_yes _ _ _ _ (eq-eqb _ _ f) (pick_yes _ _ _ _ (eq-eqb _ _ g) (j ∙ rw (h, i))))
