-- The cases of the writer's answer. Assumes nothing.
use mathlib.Core.Path.{◌≡◌, refl, sym, ap, ◌∙◌}
use mathlib.Core.Bool.{Bool, true, false}
use mathlib.Core.List.{List}
use Prim.Native.Nat.{ℕ, ◌≤◌, ◌<◌}
use native.Mathlib.Omega.{arith}
use borrow.Author.Tests.{lt-ltb, le-ltb}
use lib.Dec.{ltb}
use lib.ListN.{length}
use Rattle.std.proofs.Common.{Result, Ok, Err, Continue, Break}
use Rattle.std.specs.Result.{result_from_control_flow}
use Rattle.common.specs.Choose.{pick}
use Rattle.common.specs.Got.{Got, got, bad, on, within, Reading, said}
use Rattle.common.specs.Refusals.{Outcome, taken, refused, refusal_at, outcome}
use Rattle.common.specs.Store.{splice}
use Rattle.common.specs.declared.refusal.Fault.{Fault}
use Rattle.common.specs.declared.refusal.Fault.TheVariants.{OverLimit, OutOfRange, NoRoom}
use Rattle.common.specs.declared.refusal.Refusal.{Refusal}
use Rattle.common.specs.declared.refusal.Slice.{Slice}
use Rattle.common.specs.declared.refusal.Slice.TheVariants.{Data, Schema, Records, Bytes, Output, Bases as bases-slice}
use Rattle.common.specs.declared.times.Bases.{Bases}
use Rattle.common.proofs.Choose.{pick_yes, pick_no}
use Rattle.common.proofs.Said.{tried, failed}
use Rattle.schema_check.specs.Records.{schema_of, anywhere}
use Rattle.schema_check.specs.declared.records.Counts.{Counts}
use Rattle.call_check.specs.Tables.{Table, bad_bases, after, table_at}
use Rattle.call_check.proofs.Schemas.{table_taken}
use Rattle.data_contents.specs.Contents.{Widths, widths_of, Contents}
use Rattle.write_form.specs.Whole.{contents_bytes}
use Rattle.write_accept.specs.Entries.{taken_at}
use Rattle.write_accept.specs.Writes.{desk_at, written_as, fitting, write_of}
use Rattle.write_accept.proofs.Answers.{Desk, desk_taken}
use Rattle.write_measure.specs.Measured.{contents_measured}
use Rattle.write_store.specs.Parts.{contents_written, Fitting}
use Rattle.write_call.specs.Written.{length_of, fitted, kept, Writes}

-- ---- what is tested first, behind the limits
pub desk_rest : (c : List ℕ) (b : Bases) (s bytes : List ℕ) (room : ℕ) (r : Result Counts Refusal) → length c ≤ 1073741824 → length s ≤ 1073741824 → length bytes ≤ 1073741824 → room ≤ 1073741824
    → outcome r ≡ table_at c b s room → outcome r ≡ desk_at c b s bytes room
unfolding table_at desk_at pick
desk_rest c b s bytes room r h l m n e =
    let f = le-ltb 1073741824 (length c) h in
    let g = le-ltb 1073741824 (length s) l in
    let i = le-ltb 1073741824 (length bytes) m in
    let j = le-ltb 1073741824 room n in
    rw (f, g, i, j) (rw (f, g, j) at e)

never : {A C : Type 0} {f : Fault} {z : Slice} {p : ℕ} {a : A} → refused f z p ≡ taken a → C
never e = let z : ◌≡◌ {A = ℕ} 0 1 = cc in absurd (omega arith)

-- the schema of a call that is not refused
as_table : (c : List ℕ) (b : Bases) (s bytes : List ℕ) (room : ℕ) (k : Counts) → desk_at c b s bytes room ≡ taken k → table_at c b s room ≡ taken k
unfolding table_at desk_at pick
as_table c b s bytes room k e = go (ltb 1073741824 (length c)) (ltb 1073741824 (length s)) (ltb 1073741824 (length bytes)) (ltb 1073741824 room) e
  where
    go : (v w x y : Bool) → pick v (refused OverLimit Schema 0) (pick w (refused OverLimit Records 0) (pick x (refused OverLimit Bytes 0) (pick y (refused OverLimit Output 0) (pick (bad_bases b) (refused OutOfRange bases-slice 0) (schema_of anywhere c))))) ≡ taken k
        → pick v (refused OverLimit Schema 0) (pick w (refused OverLimit Data 0) (pick y (refused OverLimit Output 0) (pick (bad_bases b) (refused OutOfRange bases-slice 0) (schema_of anywhere c)))) ≡ taken k
    go true w x y f = never f
    go false true x y f = never f
    go false false true y f = never f
    go false false false true f = never f
    go false false false false f = f

-- ---- what measuring tells
data_of : (t : Widths) (b : Bases) (bytes : List ℕ) (x : Got (List Contents)) → Outcome (List ℕ)
data_of t b bytes x = within Records (on x (λ ps n. got (contents_bytes b t bytes ps) n))

within_measured : (t : Widths) (b : Bases) (bytes : List ℕ) (x : Got (List Contents)) → within Records (contents_measured b t bytes x) ≡ length_of (data_of t b bytes x)
unfolding contents_measured length_of within on data_of
within_measured t b bytes (got ps n) = refl
within_measured t b bytes (bad f p) = refl

module _ (t : Widths) (b : Bases) (bytes s : List ℕ) (w : Result ℕ Refusal) (q : Reading ℕ) (g : outcome w ≡ within Records (said q))
    (e : said q ≡ contents_measured b t bytes (taken_at t b bytes s 0 (length s))) where
  measured : outcome w ≡ length_of (written_as t b s bytes)
  unfolding written_as data_of
  measured = g ∙ ap (within Records) e ∙ within_measured t b bytes _

  pub measured_length : (y : _) (v : ℕ) → w ≡ result_from_control_flow y → y ≡ Continue v → outcome (Ok v) ≡ length_of (written_as t b s bytes)
  measured_length y v f h = rw (← tried w y v f h) measured

  pub measured_refused : (y : _) (z : _) → w ≡ result_from_control_flow y → y ≡ Break z → outcome (Err z.0) ≡ length_of (written_as t b s bytes)
  measured_refused y z f h = rw (← failed w y z f h) measured

pub ruleset measuring = (measured_length, measured_refused, refl)

-- ---- the answer
-- Data of n bytes
record Of (x : Outcome (List ℕ)) (n : ℕ) : Type 0 where
  «data» : List ℕ
  is : x ≡ taken «data»
  long : length «data» ≡ n

of_length : (x : Outcome (List ℕ)) (n : ℕ) → outcome (Ok n) ≡ length_of x → Of x n
unfolding outcome length_of
of_length (taken w) n e = let f : n ≡ length w = cc in record { «data» = w; is = refl; long = sym f }
of_length (refused f z p) n e = let q : ◌≡◌ {A = ℕ} 0 1 = cc in absurd (omega arith)

fitted_full : (x : Outcome (List ℕ)) (n room : ℕ) → Of x n → room < n → fitted x room ≡ refused NoRoom Output n
unfolding fitted after fitting
fitted_full x n room h l = rw (h.is, h.long) (sym (pick_yes _ _ _ _ (lt-ltb room n l) refl))

fitted_whole : (x : Outcome (List ℕ)) (n room : ℕ) (h : Of x n) → n ≤ room → fitted x room ≡ taken h.«data»
unfolding fitted after fitting
fitted_whole x n room h l = rw (h.is, h.long) (sym (pick_no _ _ _ _ (le-ltb room n l) refl))

fitted_refused : (x : Outcome (List ℕ)) (room : ℕ) (r : Refusal) → outcome (Err r) ≡ length_of x → fitted x room ≡ refused r.fault r.slice r.place
unfolding fitted after outcome length_of
fitted_refused (taken w) room r e = let q : ◌≡◌ {A = ℕ} 0 1 = cc in absurd (omega arith)
fitted_refused (refused f z p) room r e =
    let g : r.fault ≡ f = cc in
    let h : r.slice ≡ z = cc in
    let i : r.place ≡ p = cc in
    rw (g, h, i) refl

-- what is taken is what is written
taken_data : (t : Widths) (b : Bases) (bytes : List ℕ) (x : Got (List Contents)) (w d : List ℕ) → data_of t b bytes x ≡ taken w → length w ≤ length d → length d ≤ 1073741824 → Fitting x (contents_written b t bytes x) d 0
unfolding within on data_of contents_written
taken_data t b bytes (got ps n) w d e l m = let f : contents_bytes b t bytes ps ≡ w = cc in record { value = ps; place = n; is = refl; room = record { fits = rw f (omega arith) }; small = m }
taken_data t b bytes (bad f p) w d e l m = never e

taken_bytes : (t : Widths) (b : Bases) (bytes : List ℕ) (x : Got (List Contents)) (w : List ℕ) → data_of t b bytes x ≡ taken w → contents_written b t bytes x ≡ w
unfolding within on data_of contents_written
taken_bytes t b bytes (got ps n) w e = cc
taken_bytes t b bytes (bad f p) w e = never e

module _ (t : Widths) (b : Bases) (s bytes : List ℕ) (r : Result ℕ Refusal) (e : outcome r ≡ length_of (written_as t b s bytes)) where
  module _ (n : ℕ) (f : r ≡ Ok n) where
    that : Of (written_as t b s bytes) n
    that = of_length (written_as t b s bytes) n (rw f at e)

    as_data : data_of t b bytes (taken_at t b bytes s 0 (length s)) ≡ taken that.«data»
    unfolding data_of written_as
    as_data = that.is

    pub writes_full : (d : List ℕ) (y : Refusal) → y ≡ refusal_at NoRoom Output n → length d < n → Writes (fitted (written_as t b s bytes) (length d)) d d (Err y)
    unfolding outcome length_of kept
    writes_full d y h l = let g = fitted_full (written_as t b s bytes) n (length d) that l in record { answer = rw (g, h) refl; buffer = rw g refl }

    pub writes_fits : (d : List ℕ) → n ≤ length d → length d ≤ 1073741824 → Fitting (taken_at t b bytes s 0 (length s)) (contents_written b t bytes (taken_at t b bytes s 0 (length s))) d 0
    writes_fits d l m = taken_data t b bytes (taken_at t b bytes s 0 (length s)) that.«data» d as_data (omega (arith, that.long)) m

    pub writes_whole : (d d' : List ℕ) → n ≤ length d → d' ≡ splice d 0 (contents_written b t bytes (taken_at t b bytes s 0 (length s))) → Writes (fitted (written_as t b s bytes) (length d)) d d' (Ok n)
    unfolding outcome length_of kept
    writes_whole d d' l g =
        let h = fitted_whole (written_as t b s bytes) n (length d) that l in
        record { answer = rw h (ap taken (sym that.long)); buffer = rw h (g ∙ ap (splice d 0) (taken_bytes t b bytes (taken_at t b bytes s 0 (length s)) that.«data» as_data)) }

  pub writes_refused : (d : List ℕ) (q : Refusal) → r ≡ Err q → Writes (fitted (written_as t b s bytes) (length d)) d d (Err q)
  unfolding outcome length_of kept
  writes_refused d q f = let g = fitted_refused (written_as t b s bytes) (length d) q (rw f at e) in record { answer = rw g refl; buffer = rw g refl }

-- ---- behind what is tested first
module _ (c : List ℕ) (b : Bases) (s bytes : List ℕ) (room : ℕ) (r : Result Counts Refusal) (e : outcome r ≡ desk_at c b s bytes room) where
  module _ (k : Counts) (f : r ≡ Ok k) where
    desk_is : desk_at c b s bytes room ≡ taken k
    unfolding outcome
    desk_is = sym e ∙ rw f refl

    desk : Desk c b s bytes room k
    desk = desk_taken c b s bytes room k desk_is

    pub writes_table : Table (length c) k
    writes_table = table_taken c b s room k (as_table c b s bytes room k desk_is)

    pub writes_records : length s ≤ 1073741824
    writes_records = desk.records

    pub writes_bytes : length bytes ≤ 1073741824
    writes_bytes = desk.lent

    pub writes_output : room ≤ 1073741824
    writes_output = desk.output

    pub writes_in : (d d' : List ℕ) (q : Result ℕ Refusal) → Writes (fitted (written_as (widths_of c k) b s bytes) room) d d' q → Writes (write_of c b s bytes room) d d' q
    unfolding write_of after fitted
    writes_in d d' q g = rw desk_is g

  pub writes_not : (q : Refusal) → r ≡ Err q → (d : List ℕ) → Writes (write_of c b s bytes room) d d (Err q)
  unfolding write_of after outcome length_of kept
  writes_not q f d =
      let g : desk_at c b s bytes room ≡ refused q.fault q.slice q.place = sym e ∙ rw f refl in
      record { answer = rw g refl; buffer = rw g refl }

pub ruleset writing = (writes_full, writes_fits, writes_whole, writes_refused, writes_table, writes_records, writes_bytes, writes_output, writes_in, writes_not, refl)
