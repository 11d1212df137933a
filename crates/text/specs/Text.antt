-- Texts as lists of bytes. Assumes nothing.
use Rattle.std.specs.Prelude.{ℕ, zero, suc, ◌+◌, Bool, true, false, List, [], ◌∷◌, eqb, length, take, drop}
use Prim.Native.Char.{code}
use Prim.Native.String.{String, len, char_at}
use Rattle.common.specs.Choose.{pick}

-- the k characters of t from place i on
abbrev chars_from : ℕ → ℕ → String → List ℕ
chars_from zero i t = []
chars_from (suc k) i t = code (char_at t i) ∷ chars_from k (i + 1) t

-- the characters of an ASCII text
abbrev pub text : String → List ℕ
text t = chars_from (len t) 0 t

-- whether two lists are the same
unfoldable pub same : List ℕ → List ℕ → Bool
same [] [] = true
same [] (y ∷ ys) = false
same (x ∷ xs) [] = false
same (x ∷ xs) (y ∷ ys) = pick (eqb x y) (same xs ys) false

-- whether c is among cs
unfoldable pub among : ℕ → List ℕ → Bool
among c [] = false
among c (d ∷ ds) = pick (eqb c d) true (among c ds)

-- the bytes of s from place i on
unfoldable pub rest : List ℕ → ℕ → List ℕ
rest s i = drop i s

-- whether s begins with the prefix
unfoldable pub starts_with : List ℕ → List ℕ → Bool
starts_with s prefix = same (take (length prefix) s) prefix
