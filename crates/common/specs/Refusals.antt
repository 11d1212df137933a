-- What a refusal says: document 01's number of each fault, and the number of each slice in the C interface. Assumes nothing.
use Rattle.std.specs.Prelude.{ℕ, Result, Ok, Err}
use Rattle.common.specs.declared.reading.Bad.{Bad}
use Rattle.common.specs.declared.refusal.Fault.{Fault}
use Rattle.common.specs.declared.refusal.Fault.TheVariants.{OverLimit, PastEnd, LeftOver, BadFlags, OutOfRange, OutOfTurn, NotCarried, TooMany, Repeated, BadRecord, Differs, RangeMarker, NoRoom}
use Rattle.common.specs.declared.refusal.Refusal.{Refusal}
use Rattle.common.specs.declared.refusal.Slice.{Slice}
use Rattle.common.specs.declared.refusal.Slice.TheVariants.{Statistics, Scylla, Data, Schema, Records, Bytes, Output, Bases, State}

-- "Numbers given back"
abbrev pub fault_number : Fault → ℕ
fault_number OverLimit = 1
fault_number PastEnd = 2
fault_number LeftOver = 3
fault_number BadFlags = 4
fault_number OutOfRange = 5
fault_number OutOfTurn = 6
fault_number NotCarried = 7
fault_number TooMany = 8
fault_number Repeated = 9
fault_number BadRecord = 10
fault_number Differs = 11
fault_number RangeMarker = 12
fault_number NoRoom = 13

-- the number of a slice
abbrev pub slice_number : Slice → ℕ
slice_number Statistics = 1
slice_number Scylla = 2
slice_number Data = 3
slice_number Schema = 4
slice_number Records = 5
slice_number Bytes = 6
slice_number Output = 7
slice_number Bases = 8
slice_number State = 9

-- what a call answers: what it read or made, or a refusal with its slice and place
pub data Outcome (A : Type 0) : Type 0 where
  taken : A → Outcome A
  refused : Fault → Slice → ℕ → Outcome A

-- the outcome that a refusal says
abbrev pub said_refusal : {A : Type 0} → Refusal → Outcome A
said_refusal r = refused r.fault r.slice r.place

-- what the code's answer says
unfoldable pub outcome : {A : Type 0} → Result A Refusal → Outcome A
outcome (Ok a) = taken a
outcome (Err r) = said_refusal r

-- a fault at a place of the slice that is read; a fault of a slice at a place
abbrev pub bad_at : Fault → ℕ → Bad
bad_at f p = record { fault = f; place = p }

abbrev pub refusal_at : Fault → Slice → ℕ → Refusal
refusal_at f z p = record { fault = f; slice = z; place = p }
