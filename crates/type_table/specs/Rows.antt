-- The names of the table, one after the other, as the code holds them. Assumes nothing.
use Rattle.std.specs.Prelude.{ℕ, List, [], ◌∷◌, ◌++◌, take}
use Rattle.type_table.specs.Table.{Line}

-- the names of lines, one after the other
unfoldable pub names : List Line → List ℕ
names [] = []
names (l ∷ ls) = l.name ++ names ls

-- the first n lines
unfoldable pub first : ℕ → List Line → List Line
first n ls = take n ls
