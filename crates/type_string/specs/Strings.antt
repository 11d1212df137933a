-- Type strings: "spaces, tabs and newlines skipped first and after the name; empty is BytesType; a name without "." gets
-- "org.apache.cassandra.db.marshal."; parameters in balanced parentheses, exactly where 001 says Yes, nothing after. Reversed holds
-- one type string, not a Reversed. Inside others only balance, depth and the characters are checked. The first fault from the left
-- is 7, or 8 for depth, at the string's first byte." Assumes nothing.
use Rattle.std.specs.Prelude.{ℕ, zero, suc, ◌+◌, ◌-◌, Bool, true, List, [], ◌∷◌, ltb, eqb}
use Rattle.common.specs.Choose.{pick, bind}
use Rattle.common.specs.Got.{Got, got, bad, on, Reader}
use Rattle.common.specs.Store.{part}
use Rattle.number_varint.specs.Varints.{varint_at}
use Rattle.common.specs.declared.refusal.Fault.TheVariants.{PastEnd, NotCarried}
use Rattle.type_string.specs.declared.Kind.{Kind}
use Rattle.text.specs.Text.{same}
use Rattle.type_table.specs.Table.{line_of, bytes_line, reversed_line}
use Rattle.type_name.specs.Names.{blank, of_name, past, up_to, named, Closed, closed, faulty, inside}

-- ---- parameters
-- an opening parenthesis, and what is read behind it
unfoldable pub opened : {A : Type 0} → A → (List ℕ → A) → List ℕ → A
opened none f [] = none
opened none f (c ∷ cs) = pick (eqb c 40) (f cs) none

-- ---- the type string
-- what may follow a type string: nothing, or under Reversed (1) the parenthesis that closes that
unfoldable pub tail : ℕ → List ℕ
tail zero = []
tail (suc n) = 41 ∷ []

-- the type of a line, under Reversed or not, where nothing else follows
unfoldable pub typed : ℕ → ℕ → List ℕ → Got Kind
typed under l cs = pick (same cs (tail under)) (got (record { line = l; reversed = under }) 0) (bad NotCarried 0)

unfoldable pub behind : ℕ → ℕ → Closed → Got Kind
behind under l (closed cs) = typed under l cs
behind under l (faulty f) = bad f 0

-- the type of line l that is no Reversed, of which cs follows the name: parameters exactly where 001 says Yes
unfoldable pub plain : ℕ → ℕ → List ℕ → Got Kind
plain under l cs = pick (line_of l).parameters (behind under l (opened (faulty NotCarried) (inside (15 - under) 0) cs)) (typed under l cs)

-- the type of line l: column where it is that of a static or regular column; rev reads what a Reversed holds
unfoldable pub line_with : ℕ → Bool → (List ℕ → Got Kind) → ℕ → List ℕ → Got Kind
line_with under column rev l cs =
    pick (eqb l 0) (bad NotCarried 0)
    (pick (pick column (line_of l).column true)
    (pick (eqb l reversed_line) (rev cs) (plain under l cs))
    (bad NotCarried 0))

-- the type string cs; without a name it is BytesType
unfoldable pub string_with : ℕ → Bool → (List ℕ → Got Kind) → List ℕ → Got Kind
string_with under column rev cs =
    bind (past blank cs) (λ a.
    bind (up_to of_name a) (λ name.
    line_with under column rev (pick (same name []) bytes_line (named name)) (past blank (past of_name a))))

-- what Reversed holds: a type string that is no Reversed
unfoldable pub held : Bool → List ℕ → Got Kind
held column = string_with 1 column (λ cs. bad NotCarried 0)

-- a whole type string; the place in the answer is always 0, its first byte
unfoldable pub type_of : Bool → List ℕ → Got Kind
type_of column = string_with 0 column (opened (bad NotCarried 0) (held column))

-- ---- in Statistics
-- what a type string from n on, before m, gives
unfoldable pub string_at : ℕ → ℕ → Got Kind → Got Kind
string_at n m (got t p) = got t m
string_at n m (bad f p) = bad f n

-- 001: "Type is just a byte buffer with an unsigned variant integer length"
unfoldable pub type_at : Bool → Reader Kind
type_at column s at end =
    on (varint_at s at end) (λ len n.
    pick (ltb (end - n) len) (bad PastEnd at)
    (string_at n (n + len) (type_of column (part s n len))))
