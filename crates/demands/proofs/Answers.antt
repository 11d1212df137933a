-- What the answers of `list` and `write` tell of what was read and taken, and the other way round. Assumes nothing.
use mathlib.Core.Path.{◌≡◌, refl, sym, subst, ap, ◌∙◌}
use mathlib.Core.Bool.{Bool, true, false}
use mathlib.Core.List.{List}
use Prim.Native.Nat.{ℕ, ◌≤◌, ◌<◌}
use native.Mathlib.Omega.{arith}
use borrow.Author.Tests.{le-ltb, lt-ltb, ltb-false}
use lib.Dec.{ltb}
use lib.ListN.{length}
use Rattle.common.specs.Choose.{pick}
use Rattle.common.specs.Got.{Got, got, bad, on, within}
use Rattle.common.specs.Refusals.{slice_number, Outcome, taken, refused}
use Rattle.common.specs.declared.refusal.Fault.{Fault}
use Rattle.common.specs.declared.refusal.Fault.TheVariants.{OverLimit, OutOfRange, NoRoom}
use Rattle.common.specs.declared.refusal.Slice.{Slice}
use Rattle.common.specs.declared.refusal.Slice.TheVariants.{Data, Schema, Records, Output, Bases as bases-slice}
use Rattle.common.specs.declared.times.Bases.{Bases}
use Rattle.schema_check.specs.Records.{schema_at, schema_of, anywhere}
use Rattle.schema_check.specs.declared.records.Counts.{Counts}
use Rattle.call_check.specs.Tables.{bad_bases, after, table_at}
use Rattle.data_items.specs.declared.Item.{Item}
use Rattle.data_contents.specs.Contents.{Widths, widths_of, Contents, contents_at, listed, listing, contents_of}
use Rattle.list_call.specs.Lists.{list_at}
use Rattle.write_form.specs.Views.{show_contents}
use Rattle.write_form.specs.Whole.{contents_bytes}
use Rattle.write_accept.specs.Entries.{taken_at}
use Rattle.write_accept.specs.Writes.{desk_at, written_as, fitting, write_of}
use Rattle.write_accept.proofs.Answers.{desk_taken}
use Rattle.demands.specs.Demand2.{Usable, shown_by, held_under, held_by}

never : {A C : Type 0} {f : Fault} {z : Slice} {p : ℕ} {a : A} → refused f z p ≡ taken a → C
never e = let z : ◌≡◌ {A = ℕ} 0 1 = cc in absurd (omega arith)

pub same_got : {A : Type 0} {x y : A} {m n : ℕ} → got x m ≡ got y n → x ≡ y
same_got e = cc

pub same_taken : {A : Type 0} {x y : A} → taken x ≡ taken y → x ≡ y
same_taken e = cc

-- ---- schema and bases
schema_short : (c : List ℕ) (k : Counts) → schema_of anywhere c ≡ taken k → length c ≤ 1073741824
unfolding schema_of pick
schema_short c k e = go (ltb 1073741824 (length c)) refl e
  where
    go : (t : Bool) → ltb 1073741824 (length c) ≡ t → pick t (refused OverLimit Schema 0) (within Schema (schema_at anywhere c)) ≡ taken k → length c ≤ 1073741824
    go true f g = never g
    go false f g = ltb-false 1073741824 (length c) f

module _ (c : List ℕ) (b : Bases) (u : Usable c b) where
  pub desk_given : (s bytes : List ℕ) (room : ℕ) → length s ≤ 1073741824 → length bytes ≤ 1073741824 → room ≤ 1073741824 → desk_at c b s bytes room ≡ taken u.counts
  unfolding desk_at pick
  desk_given s bytes room h i j =
      rw (
        le-ltb 1073741824 (length c) (schema_short c u.counts u.schema),
        le-ltb 1073741824 (length s) h,
        le-ltb 1073741824 (length bytes) i,
        le-ltb 1073741824 room j,
        u.bases,
      ) u.schema

  table_given : (d : List ℕ) (room : ℕ) → length d ≤ 1073741824 → room ≤ 1073741824 → table_at c b d room ≡ taken u.counts
  unfolding table_at pick
  table_given d room h i =
      rw (le-ltb 1073741824 (length c) (schema_short c u.counts u.schema), le-ltb 1073741824 (length d) h, le-ltb 1073741824 room i, u.bases) u.schema

  pub accept : (d : List ℕ) (room : ℕ) (l : List Item) → length d ≤ 1073741824 → room ≤ 1073741824 → contents_of c u.counts b d ≡ taken l → list_at c b d room ≡ taken l
  unfolding list_at after
  accept d room l h i e = rw (table_given d room h i) e

  pub held_is : (d : List ℕ) (ps : List Contents) (n : ℕ) → length d ≤ 1073741824 → contents_at (widths_of c u.counts) b d 0 (length d) ≡ got ps n → held_by c b d ≡ show_contents d ps
  unfolding held_under shown_by
  held_is d ps n h e = rw (table_given d 0 h (omega arith), e) refl

  -- two readings of the schema
  pub same_counts : (v : Usable c b) → v.counts ≡ u.counts
  same_counts v = same_taken (sym v.schema ∙ u.schema)

-- ---- what is accepted
pub record Read (t : Widths) (b : Bases) (d : List ℕ) (l : List Item) : Type 0 where
  pub contents : List Contents
  pub place : ℕ
  pub is : contents_at t b d 0 (length d) ≡ got contents place
  pub items : listed contents ≡ l

pub read_of : (c : List ℕ) (k : Counts) (b : Bases) (d : List ℕ) (l : List Item) → contents_of c k b d ≡ taken l → Read (widths_of c k) b d l
unfolding contents_of listing
read_of c k b d l e = go (contents_at (widths_of c k) b d 0 (length d)) refl e
  where
    go : (x : Got (List Contents)) → contents_at (widths_of c k) b d 0 (length d) ≡ x → listing x ≡ taken l → Read (widths_of c k) b d l
    go (got ps n) f g = record { contents = ps; place = n; is = f; items = same_taken g }
    go (bad y p) f g = never g

pub read_is : (c : List ℕ) (k : Counts) (b : Bases) (d : List ℕ) (ps : List Contents) (n : ℕ) → contents_at (widths_of c k) b d 0 (length d) ≡ got ps n → contents_of c k b d ≡ taken (listed ps)
unfolding contents_of listing
read_is c k b d ps n e = rw e refl

pub record Accepted (c : List ℕ) (b : Bases) (d : List ℕ) (room : ℕ) (l : List Item) : Type 0 where
  pub usable : Usable c b
  pub short : length d ≤ 1073741824
  pub output : room ≤ 1073741824
  pub reads : contents_of c usable.counts b d ≡ taken l

pub accepted_by : (c : List ℕ) (b : Bases) (d : List ℕ) (room : ℕ) (l : List Item) → list_at c b d room ≡ taken l → Accepted c b d room l
unfolding list_at table_at after pick
accepted_by c b d room l e = go (ltb 1073741824 (length c)) (ltb 1073741824 (length d)) (ltb 1073741824 room) (bad_bases b) (schema_of anywhere c) refl refl refl refl e
  where
    go : (v w x y : Bool) (z : Outcome Counts) → ltb 1073741824 (length d) ≡ w → ltb 1073741824 room ≡ x → bad_bases b ≡ y → schema_of anywhere c ≡ z
        → after (pick v (refused OverLimit Schema 0) (pick w (refused OverLimit Data 0) (pick x (refused OverLimit Output 0) (pick y (refused OutOfRange bases-slice 0) z)))) (λ k. contents_of c k b d) ≡ taken l
        → Accepted c b d room l
    go true w x y z f g h i q = never q
    go false true x y z f g h i q = never q
    go false false true y z f g h i q = never q
    go false false false true z f g h i q = never q
    go false false false false (refused y z p) f g h i q = never q
    go false false false false (taken k) f g h i q = record {
      usable = record { counts = k; schema = i; bases = h };
      short = ltb-false 1073741824 (length d) f;
      output = ltb-false 1073741824 room g;
      reads = q;
    }

-- ---- what is written
pub writes_fitting : (room : ℕ) (w : List ℕ) → length w ≤ room → fitting room w ≡ taken w
unfolding fitting pick
writes_fitting room w h = rw (le-ltb room (length w) h) refl

pub short_fitting : (room : ℕ) (w : List ℕ) → room < length w → fitting room w ≡ refused NoRoom Output (length w)
unfolding fitting pick
short_fitting room w h = rw (lt-ltb room (length w) h) refl

module _ (c : List ℕ) (b : Bases) (s bytes : List ℕ) where
  -- what is taken is answered
  pub answer_of_lem : (k : Counts) (room : ℕ) (qs : List Contents) (n : ℕ) → desk_at c b s bytes room ≡ taken k → taken_at (widths_of c k) b bytes s 0 (length s) ≡ got qs n
      → write_of c b s bytes room ≡ fitting room (contents_bytes b (widths_of c k) bytes qs)
  unfolding write_of written_as after within on
  answer_of_lem k room qs n e f = rw (e, f) refl

  refusal_of : (k : Counts) (room : ℕ) (f : Fault) (p : ℕ) → desk_at c b s bytes room ≡ taken k → taken_at (widths_of c k) b bytes s 0 (length s) ≡ bad f p → write_of c b s bytes room ≡ refused f Records p
  unfolding write_of written_as after within on
  refusal_of k room f p e g = rw (e, g) refl

  -- no refusal of a record is an answer that fits or not
  abbrev slice_of : Outcome (List ℕ) → ℕ
  slice_of (taken w) = 0
  slice_of (refused f z p) = slice_number z

  no_record : (room : ℕ) (w : List ℕ) (f : Fault) (p : ℕ) → refused f Records p ≡ fitting room w → ⊥
  unfolding fitting pick
  no_record room w f p e = go (ltb room (length w)) e
    where
      go : (t : Bool) → refused f Records p ≡ pick t (refused NoRoom Output (length w)) (taken w) → ⊥
      go true g = let z : ◌≡◌ {A = ℕ} 5 7 = ap slice_of g in absurd (omega arith)
      go false g = let z : ◌≡◌ {A = ℕ} 5 0 = ap slice_of g in absurd (omega arith)

  pub record Takes (k : Counts) : Type 0 where
    pub contents : List Contents
    pub place : ℕ
    pub is : taken_at (widths_of c k) b bytes s 0 (length s) ≡ got contents place

  pub takes_of : (k : Counts) (room : ℕ) (w : List ℕ) → desk_at c b s bytes room ≡ taken k → write_of c b s bytes room ≡ fitting room w → Takes k
  takes_of k room w e f = go (taken_at (widths_of c k) b bytes s 0 (length s)) refl
    where
      go : (x : Got (List Contents)) → taken_at (widths_of c k) b bytes s 0 (length s) ≡ x → Takes k
      go (got qs n) g = record { contents = qs; place = n; is = g }
      go (bad y p) g = absurd (no_record room w y p (sym (refusal_of k room y p e g) ∙ f))

  -- what the answer d tells
  pub record Wrote (room : ℕ) (d : List ℕ) : Type 0 where
    pub usable : Usable c b
    pub records : length s ≤ 1073741824
    pub lent : length bytes ≤ 1073741824
    pub output : room ≤ 1073741824
    pub fits : length d ≤ room
    pub takes : Takes usable.counts
    pub is : contents_bytes b (widths_of c usable.counts) bytes takes.contents ≡ d

  fits_only : (room : ℕ) (w d : List ℕ) → fitting room w ≡ taken d → (length w ≤ room) × (w ≡ d)
  unfolding fitting pick
  fits_only room w d e = go (ltb room (length w)) refl e
    where
      go : (t : Bool) → ltb room (length w) ≡ t → pick t (refused NoRoom Output (length w)) (taken w) ≡ taken d → (length w ≤ room) × (w ≡ d)
      go true f g = never g
      go false f g = (ltb-false room (length w) f, same_taken g)

  desk_refused : (room : ℕ) (d : List ℕ) (f : Fault) (z : Slice) (p : ℕ) → desk_at c b s bytes room ≡ refused f z p → write_of c b s bytes room ≡ refused f z p
  unfolding write_of after
  desk_refused room d f z p e = rw e refl

  pub wrote_by : (room : ℕ) (d : List ℕ) → write_of c b s bytes room ≡ taken d → Wrote room d
  wrote_by room d e = go (desk_at c b s bytes room) refl
    where
      of : (k : Counts) → desk_at c b s bytes room ≡ taken k → (x : Got (List Contents)) → taken_at (widths_of c k) b bytes s 0 (length s) ≡ x → Wrote room d
      of k f (got qs n) g =
          let z = desk_taken c b s bytes room k f in
          let h = fits_only room (contents_bytes b (widths_of c k) bytes qs) d (sym (answer_of_lem k room qs n f g) ∙ e) in
          record {
            usable = record { counts = k; schema = z.schema; bases = z.bases };
            records = z.records;
            lent = z.lent;
            output = z.output;
            fits = subst (λ w. length w ≤ room) h.1 h.0;
            takes = record { contents = qs; place = n; is = g };
            is = h.1;
          }
      of k f (bad y p) g = never (sym (refusal_of k room y p f g) ∙ e)

      go : (x : Outcome Counts) → desk_at c b s bytes room ≡ x → Wrote room d
      go (taken k) f = of k f (taken_at (widths_of c k) b bytes s 0 (length s)) refl
      go (refused y z p) f = never (sym (desk_refused room d y z p f) ∙ e)
