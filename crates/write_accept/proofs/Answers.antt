-- What the writer answers: Data that is accepted, and lists as the records given, places aside. Assumes nothing.
use mathlib.Core.Path.{◌≡◌, refl, ap, ◌∙◌}
use mathlib.Core.Bool.{Bool, true, false}
use mathlib.Core.List.{List}
use Prim.Native.Nat.{ℕ, ◌≤◌, ◌<◌}
use native.Mathlib.Omega.{arith}
use borrow.Author.Tests.{le-ltb, ltb-false}
use lib.Dec.{ltb}
use lib.ListN.{length, get_or}
use Rattle.common.specs.Choose.{pick}
use Rattle.common.specs.Got.{got}
use Rattle.common.specs.Refusals.{Outcome, taken, refused}
use Rattle.common.specs.declared.refusal.Fault.TheVariants.{OverLimit, OutOfRange, NoRoom}
use Rattle.common.specs.declared.refusal.Slice.TheVariants.{Schema, Records, Bytes, Output, Bases as bases-slice}
use Rattle.common.specs.declared.times.Bases.{Bases}
use Rattle.schema_check.specs.Records.{schema_of, anywhere}
use Rattle.schema_check.specs.declared.records.Counts.{Counts}
use Rattle.call_check.specs.Tables.{bad_bases, after}
use Rattle.data_contents.specs.Contents.{widths_of, Contents, contents_at, listed}
use Rattle.list_call.specs.Records.{records_of}
use Rattle.write_form.specs.Whole.{contents_bytes}
use Rattle.write_accept.specs.Writes.{desk_at, written_as, fitting, write_of}
use Rattle.write_accept.specs.Listings.{items_of, show_items}
use Rattle.write_accept.proofs.Laws.{ListsAs, written_lists, listed_written}
use Rattle.write_accept.proofs.Schemas.{schema_bounded, schema_wides}

-- what is known of the slices and bases that pass
pub record Desk (c : List ℕ) (b : Bases) (s bytes : List ℕ) (room : ℕ) (k : Counts) : Type 0 where
  pub schema : schema_of anywhere c ≡ taken k
  pub records : length s ≤ 1073741824
  pub lent : length bytes ≤ 1073741824
  pub output : room ≤ 1073741824
  pub bases : bad_bases b ≡ false

never : {A C : Type 0} {f : _} {z : _} {p : ℕ} {a : A} → refused f z p ≡ taken a → C
never e = let z : ◌≡◌ {A = ℕ} 0 1 = cc in absurd (omega arith)

pub desk_taken : (c : List ℕ) (b : Bases) (s bytes : List ℕ) (room : ℕ) (k : Counts) → desk_at c b s bytes room ≡ taken k → Desk c b s bytes room k
unfolding desk_at pick
desk_taken c b s bytes room k e = go (ltb 1073741824 (length c)) (ltb 1073741824 (length s)) (ltb 1073741824 (length bytes)) (ltb 1073741824 room) (bad_bases b) refl refl refl refl e
  where
    go : (v w x y z : Bool) → ltb 1073741824 (length s) ≡ w → ltb 1073741824 (length bytes) ≡ x → ltb 1073741824 room ≡ y → bad_bases b ≡ z
        → pick v (refused OverLimit Schema 0) (pick w (refused OverLimit Records 0) (pick x (refused OverLimit Bytes 0) (pick y (refused OverLimit Output 0) (pick z (refused OutOfRange bases-slice 0) (schema_of anywhere c))))) ≡ taken k
        → Desk c b s bytes room k
    go true w x y z f g h i q = never q
    go false true x y z f g h i q = never q
    go false false true y z f g h i q = never q
    go false false false true z f g h i q = never q
    go false false false false true f g h i q = never q
    go false false false false false f g h i q = record {
      schema = q;
      records = ltb-false 1073741824 (length s) f;
      lent = ltb-false 1073741824 (length bytes) g;
      output = ltb-false 1073741824 room h;
      bases = i;
    }

-- the Data d that the writer gives
pub record Writes (c : List ℕ) (b : Bases) (s bytes : List ℕ) (room : ℕ) (d : List ℕ) : Type 0 where
  pub counts : Counts
  pub desk : Desk c b s bytes room counts
  pub fits : length d ≤ room
  pub lists : ListsAs (widths_of c counts) b d (show_items bytes (items_of s))

pub write_lists : (c : List ℕ) (b : Bases) (s bytes : List ℕ) (room : ℕ) (d : List ℕ) → write_of c b s bytes room ≡ taken d → Writes c b s bytes room d
unfolding write_of after fitting pick
write_lists c b s bytes room d e = go (desk_at c b s bytes room) refl e
  where
    fitted : (k : Counts) → Desk c b s bytes room k → (w : List ℕ) → written_as (widths_of c k) b s bytes ≡ taken w → (t : Bool) → ltb room (length w) ≡ t
        → pick t (refused NoRoom Output (length w)) (taken w) ≡ taken d → Writes c b s bytes room d
    fitted k g w f true h q = never q
    fitted k g w f false h q =
        let z : w ≡ d = cc in
        let l = ltb-false room (length w) h in
        let n : length w ≡ length d = ap length z in
        record {
          counts = k;
          desk = g;
          fits = omega arith;
          lists = written_lists (widths_of c k) b (schema_bounded c k g.schema) bytes s (omega (arith, g.lent)) d (omega (arith, g.output)) (f ∙ ap taken z);
        }

    write : (k : Counts) → Desk c b s bytes room k → (x : Outcome (List ℕ)) → written_as (widths_of c k) b s bytes ≡ x → after x (λ w. fitting room w) ≡ taken d → Writes c b s bytes room d
    write k g (taken w) f q = fitted k g w f (ltb room (length w)) refl q
    write k g (refused f z p) h q = never q

    go : (x : Outcome Counts) → desk_at c b s bytes room ≡ x → after x (λ k. after (written_as (widths_of c k) b s bytes) (λ w. fitting room w)) ≡ taken d → Writes c b s bytes room d
    go (taken k) f q = write k (desk_taken c b s bytes room k f) (written_as (widths_of c k) b s bytes) refl q
    go (refused f z p) h q = never q

-- what Data lists is written, where it fits, as the writer's form of what that Data shows
pub write_listed : (c : List ℕ) (b : Bases) (d : List ℕ) (room : ℕ) (k : Counts) → ((i : ℕ) → get_or d i 0 < 256) → (ps : List Contents) (n : ℕ) → contents_at (widths_of c k) b d 0 (length d) ≡ got ps n
    → desk_at c b (records_of (listed ps)) d room ≡ taken k → length (contents_bytes b (widths_of c k) d ps) ≤ room
    → write_of c b (records_of (listed ps)) d room ≡ taken (contents_bytes b (widths_of c k) d ps)
unfolding write_of after fitting pick
write_listed c b d room k octets ps n e g l =
    let z = desk_taken c b (records_of (listed ps)) d room k g in
    let w = listed_written (widths_of c k) b (schema_bounded c k z.schema) (schema_wides c k z.schema) d (omega (arith, z.lent)) octets ps n e in
    rw (g, w, le-ltb room (length (contents_bytes b (widths_of c k) d ps)) l) refl
