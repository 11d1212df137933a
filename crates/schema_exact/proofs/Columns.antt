-- Columns apart from the places of their names. Assumes nothing.
use mathlib.Core.Path.{◌≡◌, refl, ap, subst}
use mathlib.Core.Bool.{true, false}
use mathlib.Core.List.{List, [], ◌∷◌, ◌++◌}
use Prim.Native.Nat.{ℕ, suc, ◌≤◌, ◌<◌}
use native.Mathlib.Omega.{arith}
use lib.ListN.{length}
use Rattle.type_table.specs.Table.{line_of}
use Rattle.type_spelling.proofs.Carried.{Carried}
use Rattle.schema_check.specs.Records.{with_one}
use Rattle.schema_column.specs.declared.Column.{Column}
use Rattle.schema_check.specs.declared.records.Counts.{Counts}
use Rattle.schema_exact.specs.Canonical.{kind_of}
use Rattle.schema_exact.proofs.Records.{Turns, done, turn}

abbrev pub bare_of : ℕ → ℕ → ℕ → ℕ → Column
bare_of role line mark width = record { role = role; line = line; reversed = mark; width = width; name = 0; len = 0 }

-- a column whose name's place is forgotten
unfoldable pub bare : Column → Column
bare c = bare_of c.role c.line c.reversed c.width

unfoldable pub bares : List Column → List Column
bares [] = []
bares (c ∷ cs) = bare c ∷ bares cs

pub bares_append : (xs ys : List Column) → bares (xs ++ ys) ≡ bares xs ++ bares ys
unfolding bares
bares_append [] ys = refl
bares_append (x ∷ xs) ys = ap (λ (zs : List Column). bare x ∷ zs) (bares_append xs ys)

pub length_bares : (xs : List Column) → length (bares xs) ≡ length xs
unfolding bares
length_bares [] = refl
length_bares (x ∷ xs) = ap suc (length_bares xs)

pub first_same : {x y : Column} {xs ys : List Column} → x ∷ xs ≡ y ∷ ys → x ≡ y
first_same e = cc

pub rest_same : {x y : Column} {xs ys : List Column} → x ∷ xs ≡ y ∷ ys → xs ≡ ys
rest_same e = cc

-- a column of the role whose type some string spells
pub record Kinded (role : ℕ) (c : Column) : Type 0 where
  pub is : c.role ≡ role
  pub typed : Carried false (kind_of c)
  pub named : 2 ≤ role → Carried true (kind_of c)
  pub width : c.width ≡ (line_of c.line).width

-- a key or clustering column has no name
pub record Nameless (c : Column) : Type 0 where
  pub name : c.role < 2 → c.name ≡ 0
  pub len : c.role < 2 → c.len ≡ 0

-- a column whose name has fewer than i bytes
pub record Short (i : ℕ) (c : Column) : Type 0 where
  pub len : c.len < i

-- columns that are equal but for the places of names are counted alike
pub counted_alike : (xs ys : List Column) (c d e : Counts) → bares xs ≡ bares ys → Turns c d xs → Turns c e ys → d ≡ e
unfolding bares bare
counted_alike [] [] c d e h done done = refl
counted_alike [] (y ∷ ys) c d e h f g = let z : ◌≡◌ {A = ℕ} 0 1 = cc in absurd (omega arith)
counted_alike (x ∷ xs) [] c d e h f g = let z : ◌≡◌ {A = ℕ} 0 1 = cc in absurd (omega arith)
counted_alike (x ∷ xs) (y ∷ ys) c d e h (turn a f) (turn b g) =
    let p : x.role ≡ y.role = ap (λ (z : Column). z.role) (first_same h) in
    counted_alike xs ys (with_one y.role c) d e (rest_same h) (subst (λ (r : ℕ). Turns (with_one r c) d xs) p f) g
