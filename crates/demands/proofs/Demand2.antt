-- Demand 2, proved: what is written of a list is read again (`write_form`, `write_accept`), and every byte of it is one (Octets of `write_form`). The statement is Demand2 of
-- specs. Assumes nothing.
use mathlib.Core.Path.{◌≡◌, sym, subst, ap, ◌∙◌}
use mathlib.Core.List.{List}
use Prim.Native.Nat.{ℕ, ◌*◌, ◌/◌, ◌^◌, ◌≤◌, ◌<◌}
use native.Mathlib.Omega.{arith}
use lib.ListN.{length}
use Rattle.common.specs.Got.{got}
use Rattle.common.specs.Refusals.{taken}
use Rattle.common.specs.declared.times.Bases.{Bases}
use Rattle.data_items.specs.declared.Item.{Item}
use Rattle.data_contents.specs.Contents.{Widths, widths_of, Contents, contents_at, listed, contents_of}
use Rattle.list_call.specs.Records.{records_of}
use Rattle.list_call.proofs.Loops.{length_records_of}
use Rattle.write_form.specs.Views.{show_contents}
use Rattle.write_form.specs.Fits.{Bounded, AllFit}
use Rattle.write_form.specs.Whole.{contents_bytes}
use Rattle.write_form.proofs.Laws.{rereads, read_fits, rewritten, form_same}
use Rattle.write_form.proofs.Octets.{view_count, view_counted, contents_short, form_within}
use Rattle.write_accept.specs.Entries.{taken_at}
use Rattle.write_accept.specs.Listings.{items_of, show_items, Proper}
use Rattle.write_accept.specs.Writes.{fitting, write_of}
use Rattle.write_accept.proofs.Again.{AllWide, records_back}
use Rattle.write_accept.proofs.Exactly.{items_length, shows_length, lists_taken}
use Rattle.write_accept.proofs.Fitting.{taken_fits}
use Rattle.write_accept.proofs.Laws.{lists_alike, taken_lists}
use Rattle.write_accept.proofs.Listed.{taken_listed, taken_proper}
use Rattle.write_accept.proofs.Lying.{read_lies, taken_lies}
use Rattle.write_accept.proofs.Schemas.{schema_bounded, schema_wides}
use Rattle.write_accept.proofs.Shows.{shows_same}
use Rattle.demands.specs.Demand2.{limit, Octets, Usable, Alike, held_by, Rereads, RoundTrip, Taken, Listable, Demand2}
use Rattle.demands.proofs.Answers.{same_got, desk_given, accept, held_is, same_counts, Read, read_of, read_is, Accepted, accepted_by, writes_fitting, short_fitting, answer_of_lem, takes_of, Wrote, wrote_by}

items_count : (s : List ℕ) → length (items_of s) ≡ length s / 64
unfolding items_of
items_count s = items_length s 0 (length s / 64)

alike_length : (d e : List ℕ) (l m : List Item) → show_items d l ≡ show_items e m → length l ≡ length m
alike_length d e l m h = sym (shows_length d l) ∙ ap length h ∙ shows_length e m

module _ (c : List ℕ) (b : Bases) (u : Usable c b) where
  abbrev t : Widths
  t = widths_of c u.counts

  few : Bounded t
  few = schema_bounded c u.counts u.schema

  wide : AllWide t
  wide = schema_wides c u.counts u.schema

  -- ---- the writer's form of contents in `bytes` is of bytes, and shorter than 2^64
  module _ (bytes : List ℕ) (octets : Octets bytes) (lent : length bytes ≤ limit) where
    form_octets : (ps : List Contents) → AllFit b t (show_contents bytes ps) → 64 * length (listed ps) ≤ limit
        → Octets (contents_bytes b t bytes ps) × (length (contents_bytes b t bytes ps) < 2 ^ 64)
    form_octets ps fit h =
        let n = view_counted bytes ps in
        let g = form_within b t few (show_contents bytes ps) fit (contents_short bytes (record { most = omega arith; bytes = octets }) ps) (omega arith) in
        (g.bytes, omega (arith, g.most))

    -- ---- record tables
    module _ (s : List ℕ) (table : length s ≤ limit) where
      -- what is taken of one has as many items as it has records
      taken_count : (qs : List Contents) (n : ℕ) → taken_at t b bytes s 0 (length s) ≡ got qs n → 64 * length (listed qs) ≤ limit
      taken_count qs n e =
          let same = alike_length bytes bytes (listed qs) (items_of s) (shows_same bytes (listed qs) (items_of s) ((taken_listed t b bytes s).given qs n e).0) in
          omega (arith, items_count s)

      taken_form : (qs : List Contents) (n : ℕ) → taken_at t b bytes s 0 (length s) ≡ got qs n
          → Octets (contents_bytes b t bytes qs) × (length (contents_bytes b t bytes qs) < 2 ^ 64)
      taken_form qs n e = form_octets qs ((taken_fits t b bytes (omega arith) s 0 (length s)).given qs n e) (taken_count qs n e)

      taken_listable : Taken c b s bytes → Proper bytes s × Listable c b u s bytes
      taken_listable x =
          let y = takes_of c b s bytes u.counts 0 x.written (desk_given c b u s bytes 0 table lent (omega arith)) (x.answers 0 (omega arith)) in
          let w = contents_bytes b t bytes y.contents in
          let g = taken_form y.contents y.place y.is in
          let r = taken_lists t b few bytes s (omega arith) y.contents y.place y.is g.1 in (
            (taken_proper t b bytes s).given y.contents y.place y.is,
            record {
              «data» = w;
              octets = g.0;
              counted = g.1;
              items = listed r.value;
              reads = read_is c u.counts b w r.value (length w) r.is;
              alike = r.holds;
            },
          )

      taken_back : (qs : List Contents) (n : ℕ) → taken_at t b bytes s 0 (length s) ≡ got qs n → length (contents_bytes b t bytes qs) ≤ limit
          → Octets (contents_bytes b t bytes qs) × Rereads c b bytes (items_of s) (contents_bytes b t bytes qs)
      taken_back qs n e h =
          let w = contents_bytes b t bytes qs in
          let g = taken_form qs n e in
          let r = taken_lists t b few bytes s (omega arith) qs n e g.1 in (
            g.0,
            record { items = listed r.value; accepted = accept c b u w 0 (listed r.value) h (omega arith) (read_is c u.counts b w r.value (length w) r.is); alike = sym r.holds },
          )

      listable_taken : Proper bytes s → Listable c b u s bytes → Taken c b s bytes
      listable_taken g x =
          let d = x.«data» in
          let r = read_of c u.counts b d x.items x.reads in
          let v = lists_taken t few wide b d x.counted x.octets r.contents r.place r.is bytes s g (ap (show_items d) r.items ∙ x.alike) in
          record {
            written = contents_bytes b t bytes v.value;
            answers = λ room h. answer_of_lem c b s bytes u.counts room v.value (length s) (desk_given c b u s bytes room table lent h) v.is;
          }

  -- ---- Data d that was read as ps
  module _ (d : List ℕ) (octets : Octets d) (short : length d ≤ limit) (ps : List Contents) (n : ℕ) (e : contents_at t b d 0 (length d) ≡ got ps n) where
    listed_answer : 64 * length (listed ps) ≤ limit → (room : ℕ) → room ≤ limit → write_of c b (records_of (listed ps)) d room ≡ fitting room (contents_bytes b t d ps)
    listed_answer h room j =
        let s = records_of (listed ps) in
        let r = records_back t few wide b d (omega arith) octets ps n e in
        answer_of_lem c b s d u.counts room r.value (length s) (desk_given c b u s d room (omega (arith, length_records_of (listed ps))) short j) r.is
        ∙ ap (fitting room) (form_same b t d d r.value ps r.holds)

    written_back : 64 * length (listed ps) ≤ limit → RoundTrip c b d (listed ps)
    written_back h =
        let w = contents_bytes b t d ps in
        let g = form_octets d octets short ps (read_fits b t d (omega arith) octets ps n e) h in
        let r = rewritten b t d (omega arith) octets few ps n e g.1 in
        record {
          written = w;
          octets = g.0;
          writes = λ room j k. listed_answer h room j ∙ writes_fitting room w (omega arith);
          short = λ room j k. listed_answer h room j ∙ short_fitting room w (omega arith);
          rereads = λ k. record {
            items = listed r.value;
            accepted = accept c b u w 0 (listed r.value) k (omega arith) (read_is c u.counts b w r.value (length w) r.is);
            alike = lists_alike t b d w ps r.value (read_lies t b d ps n e) (read_lies t b w r.value (length w) r.is) (sym r.holds);
          };
        }

    -- what was written of the contents qs in `bytes`
    written_again : (bytes s : List ℕ) → Octets bytes → length bytes ≤ limit → length s ≤ limit → (qs : List Contents) (k : ℕ) → taken_at t b bytes s 0 (length s) ≡ got qs k → contents_bytes b t bytes qs ≡ d
        → (room : ℕ) → room ≤ limit → length d ≤ room → write_of c b (records_of (listed ps)) d room ≡ taken d
    written_again bytes s o lent table qs k f is room j fits =
        let r = rereads b t few bytes qs ((taken_fits t b bytes (omega arith) s 0 (length s)).given qs k f) d (sym is) (omega arith) in
        let same : show_contents d ps ≡ show_contents bytes qs = ap (show_contents d) (same_got (sym e ∙ r.is)) ∙ r.holds in
        let count : length (listed ps) ≡ length (listed qs) = sym (view_counted d ps) ∙ ap view_count same ∙ view_counted bytes qs in
        let h = taken_count bytes o lent s table qs k f in
        listed_answer (omega arith) room j ∙ ap (fitting room) (form_same b t d bytes ps qs same ∙ is) ∙ writes_fitting room d fits

    -- ---- other Data, e', that was read as qs
    module _ (e' : List ℕ) (octets' : Octets e') (short' : length e' ≤ limit) (qs : List Contents) (k : ℕ) (f : contents_at t b e' 0 (length e') ≡ got qs k) where
      alike_same : Alike d (listed ps) e' (listed qs) → show_contents d ps ≡ show_contents e' qs
      alike_same h =
          let s = records_of (listed qs) in
          let x = records_back t few wide b e' (omega arith) octets' qs k f in
          let own = lists_alike t b e' e' x.value qs ((taken_lies t b e' s 0 (length s)).given x.value (length s) x.is) (read_lies t b e' qs k f) x.holds in
          let as_table = shows_same e' (listed x.value) (items_of s) ((taken_listed t b e' s).given x.value (length s) x.is).0 in
          let v = lists_taken t few wide b d (omega arith) octets ps n e e' s ((taken_proper t b e' s).given x.value (length s) x.is) (h ∙ sym own ∙ as_table) in
          sym v.holds ∙ ap (show_contents e') (same_got (sym v.is ∙ x.is)) ∙ x.holds

      same_alike : show_contents d ps ≡ show_contents e' qs → Alike d (listed ps) e' (listed qs)
      same_alike h = lists_alike t b d e' ps qs (read_lies t b d ps n e) (read_lies t b e' qs k f) h

-- ---- the same, of what is accepted
module _ (c : List ℕ) (b : Bases) (d : List ℕ) (l : List Item) (octets : Octets d) (a : Accepted c b d 0 l) where
  rounds : 64 * length l ≤ limit → RoundTrip c b d l
  rounds h =
      let u = a.usable in
      let r = read_of c u.counts b d l a.reads in
      let n = ap length r.items in
      subst (RoundTrip c b d) r.items (written_back c b u d octets a.short r.contents r.place r.is (omega arith))

  -- other Data, accepted under the same schema and bases
  module _ (e : List ℕ) (m : List Item) (octets' : Octets e) (a' : Accepted c b e 0 m) where
    abbrev u : Usable c b
    u = a.usable

    first : Read (widths_of c u.counts) b d l
    first = read_of c u.counts b d l a.reads

    second : Read (widths_of c u.counts) b e m
    second = read_of c u.counts b e m (subst (λ k. contents_of c k b e ≡ taken m) (same_counts c b u a'.usable) a'.reads)

    held_first : held_by c b d ≡ show_contents d first.contents
    held_first = held_is c b u d first.contents first.place a.short first.is

    held_second : held_by c b e ≡ show_contents e second.contents
    held_second = held_is c b u e second.contents second.place a'.short second.is

    as_listed : Alike d l e m → Alike d (listed first.contents) e (listed second.contents)
    as_listed h = ap (show_items d) first.items ∙ h ∙ sym (ap (show_items e) second.items)

    same : Alike d l e m → show_contents d first.contents ≡ show_contents e second.contents
    same h = alike_same c b u d octets a.short first.contents first.place first.is e octets' a'.short second.contents second.place second.is (as_listed h)

    alike_held : Alike d l e m → held_by c b d ≡ held_by c b e
    alike_held h = held_first ∙ same h ∙ sym held_second

    held_alike : held_by c b d ≡ held_by c b e → Alike d l e m
    held_alike h =
        sym (ap (show_items d) first.items)
        ∙ same_alike c b u d octets a.short first.contents first.place first.is e octets' a'.short second.contents second.place second.is (sym held_first ∙ h ∙ held_second)
        ∙ ap (show_items e) second.items

    alike_written : Alike d l e m → 64 * length l ≤ limit → (room : ℕ) → room ≤ limit → write_of c b (records_of l) d room ≡ write_of c b (records_of m) e room
    alike_written h k room j =
        let x : length (listed first.contents) ≡ length l = ap length first.items in
        let y : length (listed second.contents) ≡ length m = ap length second.items in
        let z = alike_length d e l m h in
        ap (λ l. write_of c b (records_of l) d room) (sym first.items)
        ∙ listed_answer c b u d octets a.short first.contents first.place first.is (omega arith) room j
        ∙ ap (fitting room) (form_same b (widths_of c u.counts) d e first.contents second.contents (same h))
        ∙ sym (listed_answer c b u e octets' a'.short second.contents second.place second.is (omega arith) room j)
        ∙ ap (λ l. write_of c b (records_of l) e room) second.items

reread : (c : List ℕ) (b : Bases) (s bytes : List ℕ) (room : ℕ) (d : List ℕ) → Octets bytes → Wrote c b s bytes room d → Octets d × Rereads c b bytes (items_of s) d
reread c b s bytes room d octets w =
    let x = w.takes in
    subst (λ d. length d ≤ limit → Octets d × Rereads c b bytes (items_of s) d) w.is
    (taken_back c b w.usable bytes octets w.lent s w.records x.contents x.place x.is) (omega (arith, w.fits, w.output))

again : (c : List ℕ) (b : Bases) (s bytes : List ℕ) (room : ℕ) (d : List ℕ) (l : List Item) → Octets bytes → Wrote c b s bytes room d → Accepted c b d 0 l → write_of c b (records_of l) d room ≡ taken d
again c b s bytes room d l octets w a =
    let u = w.usable in
    let x = w.takes in
    let r = read_of c u.counts b d l (subst (λ k. contents_of c k b d ≡ taken l) (same_counts c b u a.usable) a.reads) in
    let o = taken_form c b u bytes octets w.lent s w.records x.contents x.place x.is in
    ap (λ l. write_of c b (records_of l) d room) (sym r.items)
    ∙ written_again c b u d (subst Octets w.is o.0) a.short r.contents r.place r.is bytes s octets w.lent w.records x.contents x.place x.is w.is room w.output w.fits

pub demand_2 : Demand2
demand_2 = record {
  accepts = λ c b d room l. (
    λ e. let a = accepted_by c b d room l e in (a.usable, (a.short, (a.output, a.reads))),
    λ u h i e. accept c b u d room l h i e,
  );
  round_trip = λ c b d l o e h. rounds c b d l o (accepted_by c b d 0 l e) h;
  exactly = λ c b u s bytes o h i. (taken_listable c b u bytes o i s h, listable_taken c b u bytes o i s h);
  stored = λ c b s bytes room d o e. reread c b s bytes room d o (wrote_by c b s bytes room d e);
  fixed = λ c b s bytes room d l o e f. again c b s bytes room d l o (wrote_by c b s bytes room d e) (accepted_by c b d 0 l f);
  complete = λ c b d e l m o p f g.
      let x = accepted_by c b d 0 l f in
      let y = accepted_by c b e 0 m g in
      (alike_held c b d l o x e m p y, (held_alike c b d l o x e m p y, alike_written c b d l o x e m p y));
}
