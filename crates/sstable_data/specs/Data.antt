-- The calls of the C interface for Data: one step of the walk, the value that an item shows, the listing, the writer. Assumes nothing.
use Rattle.std.specs.Prelude.{ℕ, ◌≡◌, List, [], ◌∷◌, ltb, eqb, length, get_or}
use Rattle.std.proofs.Math.Option.{Option, none, some}
use Rattle.common.specs.Choose.{pick, bind}
use Rattle.common.specs.Refusals.{Outcome, taken, refused}
use Rattle.common.specs.Store.{part}
use Rattle.common.specs.Times.{biased}
use Rattle.common.specs.declared.times.Bases.{Bases}
use Rattle.data_field.specs.Fields.{deletion}
use Rattle.data_field.specs.declared.fields.Deletion.{Deletion}
use Rattle.data_cell.specs.declared.cells.Times.{Times}
use Rattle.data_row.specs.Bodies.{times}
use Rattle.data_items.specs.Items.{item, value_of}
use Rattle.data_walk.specs.Cursors.{hand, cursor}
use Rattle.data_walk.specs.Steps.{Handed, Answer, step_at}
use Rattle.data_items.specs.declared.Item.{Item}
use Rattle.data_walk.specs.declared.cursors.Phase.{Phase}
use Rattle.data_walk.specs.declared.cursors.Phase.TheVariants.{Partition, First, Items, Values, Prefix, Statics, Cells}
use Rattle.data_walk.specs.declared.cursors.Hand.{Hand}
use Rattle.data_walk.specs.declared.cursors.Cursor.{Cursor}
use Rattle.list_call.specs.Lists.{list_at, counted, fitted, record_bytes, kept}
use Rattle.write_accept.specs.Writes.{write_of}
use Rattle.write_call.specs.Written.{length_of}
use Rattle.write_call.specs.Written.{kept as written}
use Rattle.sstable_words.specs.Words.{words, mapped}

-- the bases of three words: timestamp (the signed number's bits), local deletion time, TTL
unfoldable pub bases_in : List ℕ → Bases
bases_in b = bind (biased (get_or b 0 0)) (λ t. record { timestamp = t; local = get_or b 1 0; ttl = get_or b 2 0 })

-- ---- the walk's state in sixteen words: 0 phase, 1 position, 2 column; 3 open, 4 mark, 5 local time; 6 clustering header, 7 count of values,
-- 8 columns that have a cell, 9 the first cell's place, 10 the body's end; 11 timed, 12 timestamp, 13 expires, 14 TTL, 15 expiry
abbrev pub phase_number : Phase → ℕ
phase_number Partition = 0
phase_number First = 1
phase_number Items = 2
phase_number Values = 3
phase_number Prefix = 4
phase_number Statics = 5
phase_number Cells = 6

-- the phase of a number, 0 to 6
unfoldable pub phase_of : ℕ → Phase
phase_of n =
    pick (eqb n 1) First
    (pick (eqb n 2) Items
    (pick (eqb n 3) Values
    (pick (eqb n 4) Prefix
    (pick (eqb n 5) Statics
    (pick (eqb n 6) Cells Partition)))))

-- a word that says yes or no: all but 0 is yes
unfoldable pub flag_of : ℕ → ℕ
flag_of x = pick (eqb x 0) 0 1

unfoldable pub opened_in : List ℕ → Deletion
opened_in w = bind (flag_of (get_or w 3 0)) (λ d. bind (biased (get_or w 4 0)) (λ mark. deletion d mark (get_or w 5 0)))

unfoldable pub times_in : List ℕ → Times
times_in w =
    bind (flag_of (get_or w 11 0)) (λ timed.
    bind (biased (get_or w 12 0)) (λ timestamp.
    bind (flag_of (get_or w 13 0)) (λ expires. times timed timestamp expires (get_or w 15 0) (get_or w 14 0))))

unfoldable pub hand_in : List ℕ → Hand
hand_in w = bind (times_in w) (λ t. hand (get_or w 2 0) (get_or w 7 0) (get_or w 6 0) (get_or w 9 0) (get_or w 10 0) (get_or w 8 0) t)

-- a number that is no phase: a position past the end of any Data stands for it, which a step refuses likewise
unfoldable pub position_in : List ℕ → ℕ
position_in w = pick (ltb 6 (get_or w 0 0)) 18446744073709551615 (get_or w 1 0)

unfoldable pub cursor_in : List ℕ → Cursor
cursor_in w =
    bind (position_in w) (λ position.
    bind (phase_of (get_or w 0 0)) (λ phase.
    bind (opened_in w) (λ opened.
    bind (hand_in w) (λ h. cursor position phase opened h))))

-- and back
unfoldable pub state_words : Cursor → List ℕ
state_words x =
    bind (phase_number x.phase) (λ phase.
    bind (biased x.opened.mark) (λ mark.
    bind (biased x.hand.times.timestamp) (λ timestamp.
    phase
    ∷ x.position
    ∷ x.hand.column
    ∷ x.opened.deleted
    ∷ mark
    ∷ x.opened.local
    ∷ x.hand.header
    ∷ x.hand.count
    ∷ x.hand.present
    ∷ x.hand.resume
    ∷ x.hand.stop
    ∷ x.hand.times.timed
    ∷ timestamp
    ∷ x.hand.times.expires
    ∷ x.hand.times.ttl
    ∷ x.hand.times.local
    ∷ [])))

-- ---- one step
-- the twelve numbers of an item, in a record's order
unfoldable pub item_words : Item → List ℕ
item_words i =
    bind (biased i.timestamp) (λ timestamp.
    bind (biased i.mark) (λ mark.
    bind (biased i.mark2) (λ mark2.
    i.kind
    ∷ i.flags
    ∷ i.column
    ∷ i.ttl
    ∷ timestamp
    ∷ mark
    ∷ i.local
    ∷ i.expiry
    ∷ mark2
    ∷ i.local2
    ∷ i.offset
    ∷ i.length
    ∷ [])))

abbrev pub no_item : List ℕ
no_item = 0 ∷ 0 ∷ 0 ∷ 0 ∷ 0 ∷ 0 ∷ 0 ∷ 0 ∷ 0 ∷ 0 ∷ 0 ∷ 0 ∷ []

-- an item, or twelve zeros where none is left
abbrev pub handed_words : Option Handed → List ℕ
handed_words (some h) = item_words h.0
handed_words none = no_item

-- the words of a step's answer
unfoldable pub answer_words : Answer → List ℕ
answer_words x = words no_item (mapped handed_words x)

-- the state behind a step from the state w: another one only where an item is handed out
unfoldable pub state_after : List ℕ → Answer → List ℕ
state_after w (taken (some h)) = state_words h.1
state_after w (taken none) = w
state_after w (refused f z p) = w

-- the step from the state w, in a table of the schema c and the bases b, through the Data s
unfoldable pub step_of : List ℕ → List ℕ → List ℕ → List ℕ → Answer
step_of c b s w = bind (bases_in b) (λ bases. bind (cursor_in w) (λ x. step_at c bases x s))

-- the answer q of a step from w is told in the words a, and w becomes w'
pub record Told (q : Answer) (w w' a : List ℕ) : Type 0 where
  pub answer : a ≡ answer_words q
  pub state : w' ≡ state_after w q

-- ---- the value that an item shows
-- an item of the kind, offset and length
abbrev pub showing : ℕ → ℕ → ℕ → Item
showing kind offset len = item kind 0 0 0 0 0 0 0 0 0 offset len

-- offset and length of the part of s that i shows: 0, 0 for the empty part
unfoldable pub value_words : List ℕ → Item → List ℕ
value_words s i = bind (length (value_of s i)) (λ n. pick (eqb n 0) (0 ∷ 0 ∷ []) (i.offset ∷ n ∷ []))

-- a are those words, and what lies there is the value that i shows
pub record Shows (s : List ℕ) (i : Item) (a : List ℕ) : Type 0 where
  pub place : a ≡ value_words s i
  pub bytes : part s (get_or a 0 0) (get_or a 1 0) ≡ value_of s i

-- ---- the listing
-- the items of the Data s, in a table of the schema c and the bases b, where a buffer of room bytes is lent
unfoldable pub items_of : List ℕ → List ℕ → List ℕ → ℕ → Outcome (List Item)
items_of c b s room = bind (bases_in b) (λ bases. list_at c bases s room)

-- the words of an answer that is a number: how many records there are, or how long Data is
unfoldable pub number_words : Outcome ℕ → List ℕ
number_words x = words (0 ∷ []) (mapped (λ n. n ∷ []) x)

-- the records of the items x are stored in d, which becomes d', and a are the answer's words; or a tells why not, and d' is d
pub record Listing (x : Outcome (List Item)) (d d' a : List ℕ) : Type 0 where
  pub answer : a ≡ number_words (fitted (counted 0 x) (length d))
  pub buffer : d' ≡ kept (fitted (counted 0 x) (length d)) (record_bytes x) d

-- ---- the writer
-- the Data of the records s, whose keys and values lie in bytes, in a table of the schema c and the bases b, where a buffer of room bytes is lent
unfoldable pub data_of : List ℕ → List ℕ → List ℕ → List ℕ → ℕ → Outcome (List ℕ)
data_of c b s bytes room = bind (bases_in b) (λ bases. write_of c bases s bytes room)

-- the Data x is stored in d, which becomes d', and a are the answer's words; or a tells why not, and d' is d
pub record Writing (x : Outcome (List ℕ)) (d d' a : List ℕ) : Type 0 where
  pub answer : a ≡ number_words (length_of x)
  pub buffer : d' ≡ written x d
