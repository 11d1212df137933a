-- Names and parameters of type strings: "spaces, tabs and newlines skipped first and after the name; a name without "." gets
-- "org.apache.cassandra.db.marshal."; parameters in balanced parentheses. Inside others only balance, depth and the characters are
-- checked." Assumes nothing.
use Rattle.std.specs.Prelude.{ℕ, zero, suc, Bool, true, false, List, [], ◌∷◌, ltb, eqb, take, drop}
use Rattle.common.specs.Choose.{pick}
use Rattle.common.specs.declared.refusal.Fault.{Fault}
use Rattle.common.specs.declared.refusal.Fault.TheVariants.{NotCarried, TooMany}
use Rattle.text.specs.Text.{text, same, among}
use Rattle.type_table.specs.Table.{table, line_in}

-- ---- characters
-- "spaces, tabs and newlines"
unfoldable pub blank : ℕ → Bool
blank c = among c (text " \t\n")

-- letters and digits, of ASCII
unfoldable pub alphanumeric : ℕ → Bool
alphanumeric c =
    pick (ltb c 48) false (pick (ltb c 58) true  -- 0 to 9
    (pick (ltb c 65) false (pick (ltb c 91) true  -- A to Z
    (pick (ltb c 97) false (ltb c 123)))))  -- a to z

-- the characters of a name (001)
unfoldable pub of_name : ℕ → Bool
of_name c = pick (alphanumeric c) true (among c (text "-+._&"))

-- "letters, digits, `-+._&,:=>` and space": what stands inside others, besides parentheses
unfoldable pub of_parameters : ℕ → Bool
of_parameters c = pick (alphanumeric c) true (among c (text "-+._&,:=> "))

-- ---- the name, with blanks before and behind it
-- what follows the characters of cs that pass the test
unfoldable pub past : (ℕ → Bool) → List ℕ → List ℕ
past f [] = []
past f (c ∷ cs) = pick (f c) (past f cs) (c ∷ cs)

-- the characters of cs that pass the test, up to the first that does not
unfoldable pub up_to : (ℕ → Bool) → List ℕ → List ℕ
up_to f [] = []
up_to f (c ∷ cs) = pick (f c) (c ∷ up_to f cs) []

abbrev pub marshal : List ℕ
marshal = text "org.apache.cassandra.db.marshal."

-- the line that a name means, 0 for none: with a "." it must be the whole full name, with none it is the name in the package
unfoldable pub named : List ℕ → ℕ
named name =
    pick (among 46 name)
    (pick (same (take 32 name) marshal) (line_in 1 table (drop 32 name)) 0)
    (line_in 1 table name)

-- ---- parameters
-- what follows a part in parentheses; or the fault in it
pub data Closed : Type 0 where
  closed : List ℕ → Closed
  faulty : Fault → Closed

-- a where n is 0, else f at the number before it
unfoldable pub counted : {A : Type 0} → ℕ → A → (ℕ → A) → A
counted zero a f = a
counted (suc n) a f = f n

-- inside parentheses, where `left` more may open and `more` are open: up to the one that closes the first.
-- "type parameters may nest to a depth of 16"
unfoldable pub inside : ℕ → ℕ → List ℕ → Closed
inside left more [] = faulty NotCarried
inside left more (c ∷ cs) =
    pick (eqb c 40) (counted left (faulty TooMany) (λ less. inside less (suc more) cs))
    (pick (eqb c 41) (counted more (closed cs) (λ fewer. inside (suc left) fewer cs))
    (pick (of_parameters c) (inside left more cs) (faulty NotCarried)))
