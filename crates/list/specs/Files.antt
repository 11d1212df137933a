-- What is said of reading files: no contract can say which bytes are read. Assumes nothing.
use Rattle.std.specs.Prelude.{ℕ, ◌≤◌, Option, IfSome, List, [], ◌∷◌, ◌++◌, length}

-- the path of a file in a folder: a slash and the name behind it
unfoldable pub name_of : List ℕ → List ℕ
name_of name = (47 ∷ []) ++ name

unfoldable pub path_of : List ℕ → List ℕ → List ℕ
path_of folder name = folder ++ name_of name

-- a file that is loaded lies in the buffer d
abbrev pub Loads : Option ℕ → List ℕ → Type 0
Loads r d = IfSome r (λ n. n ≤ length d)
