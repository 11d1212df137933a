-- What the parts of the code promise to each other, in terms of the definitions. Assumes nothing.
use Rattle.std.specs.Prelude.{ℕ, ◌-◌, ◌≤◌, ◌≡◌, Bool, List, [], length, Result, Ok, Err}
use Rattle.common.specs.Choose.{pick}
use Rattle.common.specs.Store.{part}
use Rattle.common.specs.declared.refusal.Fault.{Fault}
use Rattle.text.specs.Text.{rest, same}
use Rattle.type_table.specs.Table.{bytes_line}
use Rattle.type_name.specs.declared.Name.{Name}
use Rattle.type_name.specs.Names.{blank, of_name, past, up_to, named, Closed, closed, faulty}

-- the characters of s that pass the test from place at on reach up to place n
pub record Passed (f : ℕ → Bool) (s : List ℕ) (at n : ℕ) : Type 0 where
  pub least : at ≤ n
  pub most : n ≤ length s
  pub run : part s at (n - at) ≡ up_to f (rest s at)
  pub left : rest s n ≡ past f (rest s at)

-- the line that a name means, which may be empty
unfoldable pub line_named : List ℕ → ℕ
line_named name = pick (same name []) bytes_line (named name)

-- the name that the type string from place at on begins with
pub record NameAt (s : List ℕ) (at : ℕ) (r : Name) : Type 0 where
  pub most : r.next ≤ length s
  pub line : r.line ≡ line_named (up_to of_name (past blank (rest s at)))
  pub left : rest s r.next ≡ past blank (past of_name (past blank (rest s at)))

-- what the code's answer says
unfoldable pub said_skip : List ℕ → Result ℕ Fault → Closed
said_skip s (Ok n) = closed (rest s n)
said_skip s (Err f) = faulty f
