-- What is counted and stored is what the walk lists. Assumes nothing.
use Rattle.std.proofs.Common.{Result, Ok, Err, Continue, Break}
use Rattle.std.specs.Result.{result_from_control_flow}
use mathlib.Core.Path.{◌≡◌, refl, sym, ap, ◌∙◌}
use mathlib.Core.List.{List, [], ◌∷◌}
use Prim.Native.Nat.{ℕ, ◌*◌}
use native.Mathlib.Omega.{arith}
use lib.ListN.{length, length-append}
use Rattle.number_fixed.specs.BigEndian.{bytes_of}
use Rattle.common.specs.Refusals.{taken, refused, outcome}
use Rattle.common.specs.Store.{splice}
use Rattle.common.specs.declared.times.Bases.{Bases}
use Rattle.common.specs.Got.{Got, got, bad, Reading, said, within}
use Rattle.common.specs.declared.refusal.Fault.{Fault}
use Rattle.common.specs.declared.refusal.Refusal.{Refusal}
use Rattle.common.specs.declared.refusal.Slice.{Slice}
use Rattle.common.specs.declared.refusal.Slice.TheVariants.{Data}
use Rattle.list_call.specs.Parts.{contents_items, Fitting}
use Rattle.common.proofs.Said.{tried, failed}
use Rattle.data_contents.specs.Contents.{Contents, widths_of, contents_at, contents_of, listed, listing as contents-listing}
use Rattle.data_contents.proofs.Lists.{walk_lists}
use Rattle.list_count.specs.Counted.{contents_counted}
use Rattle.schema_check.specs.declared.records.Counts.{Counts}
use Rattle.call_check.specs.Tables.{Table}
use Rattle.data_walk.specs.Walks.{start, walk_from}
use Rattle.data_items.specs.declared.Item.{Item}
use Rattle.list_call.specs.Records.{signed_bytes, kind_bytes, column_bytes, head_bytes, local_bytes, time_bytes, second_bytes, place_bytes, tail_bytes, record_of, records_of}
use Rattle.list_call.specs.Lists.{counted, record_bytes, Ready}

-- ---- a record has 64 bytes
pub length_record_of : (i : Item) → length (record_of i) ≡ 64
unfolding signed_bytes kind_bytes column_bytes head_bytes local_bytes time_bytes second_bytes place_bytes tail_bytes record_of bytes_of
length_record_of i = refl

pub length_records_of : (l : List Item) → length (records_of l) ≡ 64 * length l
unfolding records_of
length_records_of [] = refl
length_records_of (i ∷ l) = rw (length-append (record_of i) (records_of l), length_record_of i) (omega (arith, length_records_of l))

-- ---- what is counted
within_counted : (x : Got (List Contents)) → within Data (contents_counted 0 x) ≡ counted 0 (contents-listing x)
unfolding within contents_counted counted contents-listing
within_counted (got ps m) = refl
within_counted (bad f p) = refl

module _ (c : List ℕ) (k : Counts) (b : Bases) (s : List ℕ) (t : Table (length c) k) (w : Result ℕ Refusal) (q : Reading ℕ) (g : outcome w ≡ within Data (said q))
    (e : said q ≡ contents_counted 0 (contents_at (widths_of c k) b s 0 (length s))) where
  counts_are : outcome w ≡ counted 0 (walk_from c k b s start)
  unfolding contents_of
  counts_are = g ∙ ap (within Data) e ∙ within_counted _ ∙ ap (counted 0) (sym (walk_lists c k b s t))

  pub counts_all : (y : _) (v : ℕ) → w ≡ result_from_control_flow y → y ≡ Continue v → outcome (Ok v) ≡ counted 0 (walk_from c k b s start)
  counts_all y v f h = rw (← tried w y v f h) counts_are

  pub counts_bad : (y : _) (z : _) → w ≡ result_from_control_flow y → y ≡ Break z → outcome (Err z.0) ≡ counted 0 (walk_from c k b s start)
  counts_bad y z f h = rw (← failed w y z f h) counts_are

pub ruleset counting = (counts_all, counts_bad, refl)

-- ---- what is stored
taken_value : {l m : List Item} → taken l ≡ taken m → l ≡ m
taken_value e = cc

not_taken : {f : Fault} {z : Slice} {p : ℕ} {m : List Item} → refused f z p ≡ taken m → ⊥
not_taken e = let q : ◌≡◌ {A = ℕ} 0 1 = cc in absurd (omega arith)

bytes_as : (x : Got (List Contents)) → records_of (contents_items x) ≡ record_bytes (contents-listing x)
unfolding contents_items record_bytes contents-listing records_of
bytes_as (got ps n) = refl
bytes_as (bad f p) = refl

ready_fits : (x : Got (List Contents)) (d : List ℕ) → Ready (contents-listing x) (length d) → Fitting x (contents_items x) d 0
unfolding contents_items contents-listing
ready_fits (got ps n) d h =
    let e : listed ps ≡ h.items = taken_value h.are in
    record { value = ps; place = n; is = refl; room = record { fits = rw e (omega (arith, length_records_of h.items, h.fits)) } }
ready_fits (bad f p) d h = absurd (not_taken h.are)

module _ (c : List ℕ) (k : Counts) (b : Bases) (s : List ℕ) (t : Table (length c) k) where
  pub fill_fits : (d : List ℕ) → Ready (walk_from c k b s start) (length d) → Fitting (contents_at (widths_of c k) b s 0 (length s)) (contents_items (contents_at (widths_of c k) b s 0 (length s))) d 0
  unfolding contents_of
  fill_fits d h = ready_fits (contents_at (widths_of c k) b s 0 (length s)) d (rw (← walk_lists c k b s t) h)

  pub fill_done : (d d' : List ℕ) → d' ≡ splice d 0 (records_of (contents_items (contents_at (widths_of c k) b s 0 (length s)))) → d' ≡ splice d 0 (record_bytes (walk_from c k b s start))
  unfolding contents_of
  fill_done d d' e = e ∙ ap (splice d 0) (bytes_as (contents_at (widths_of c k) b s 0 (length s)) ∙ ap record_bytes (sym (walk_lists c k b s t)))

pub ruleset fills = (fill_fits, fill_done)
