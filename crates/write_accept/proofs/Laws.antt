-- The writer against the listing. What is written of a record table is accepted again and lists as that table, places aside; what an accepted
-- Data lists is taken, and gives the writer's form of what that Data shows. Assumes nothing.
use mathlib.Core.Path.{◌≡◌, refl, sym, subst, ap, ◌∙◌}
use mathlib.Core.List.{List}
use Prim.Native.Nat.{ℕ, ◌^◌, ◌<◌}
use native.Mathlib.Omega.{arith}
use lib.ListN.{length, get_or}
use Rattle.common.specs.Got.{Got, got, bad, on, within}
use Rattle.common.specs.Refusals.{taken}
use Rattle.common.specs.declared.times.Bases.{Bases}
use Rattle.common.specs.declared.refusal.Slice.TheVariants.{Records}
use Rattle.common.proofs.RoundTrip.{Reads}
use Rattle.data_contents.specs.Contents.{Widths, Contents, contents_at, listed}
use Rattle.list_call.specs.Records.{records_of}
use Rattle.write_form.specs.Views.{show_contents}
use Rattle.write_form.specs.Fits.{Bounded}
use Rattle.write_form.specs.Whole.{contents_bytes, form_of}
use Rattle.write_form.proofs.Laws.{rereads}
use Rattle.write_accept.specs.Entries.{taken_at}
use Rattle.write_accept.specs.Writes.{written_as}
use Rattle.write_accept.specs.Listings.{items_of, ItemView, show_items}
use Rattle.write_accept.proofs.Fitting.{taken_fits}
use Rattle.write_accept.proofs.Again.{AllWide, records_back}
use Rattle.write_accept.proofs.Listed.{taken_listed}
use Rattle.write_accept.proofs.Shows.{AllLie, listed_view, shows_same, listed_shows}
use Rattle.write_accept.proofs.Lying.{read_lies, taken_lies}

module _ (t : Widths) (b : Bases) where
  -- Data is accepted, and lists as items that show xs
  abbrev pub ListsAs : List ℕ → List ItemView → Type 0
  ListsAs d xs = Reads (contents_at t b d 0 (length d)) (length d) (λ ps. show_items d (listed ps) ≡ xs)

  -- contents that show the same list alike, places aside
  pub lists_alike : (s d : List ℕ) (ps qs : List Contents) → AllLie s ps → AllLie d qs → show_contents s ps ≡ show_contents d qs → show_items s (listed ps) ≡ show_items d (listed qs)
  lists_alike s d ps qs g h e = listed_shows s ps g ∙ ap listed_view e ∙ sym (listed_shows d qs h)

  module _ (few : Bounded t) where
    -- what is taken from the records s is written so that it is accepted, and lists as the records, places aside
    pub taken_lists : (bytes s : List ℕ) → length bytes < 2 ^ 64 → (qs : List Contents) (n : ℕ) → taken_at t b bytes s 0 (length s) ≡ got qs n → length (contents_bytes b t bytes qs) < 2 ^ 64
        → ListsAs (contents_bytes b t bytes qs) (show_items bytes (items_of s))
    taken_lists bytes s short qs n e l =
        let d = contents_bytes b t bytes qs in
        let r = rereads b t few bytes qs ((taken_fits t b bytes short s 0 (length s)).given qs n e) d refl l in
        let same = lists_alike d bytes r.value qs (read_lies t b d r.value (length d) r.is) ((taken_lies t b bytes s 0 (length s)).given qs n e) r.holds in
        record {
          value = r.value;
          is = r.is;
          holds = same ∙ shows_same bytes (listed qs) (items_of s) ((taken_listed t b bytes s).given qs n e).0;
        }

    -- the same of the writer's answer
    pub written_lists : (bytes s : List ℕ) → length bytes < 2 ^ 64 → (d : List ℕ) → length d < 2 ^ 64 → written_as t b s bytes ≡ taken d → ListsAs d (show_items bytes (items_of s))
    unfolding written_as within on
    written_lists bytes s short d l e = go (taken_at t b bytes s 0 (length s)) refl e
      where
        go : (x : Got (List Contents)) → taken_at t b bytes s 0 (length s) ≡ x → within Records (on x (λ ps n. got (contents_bytes b t bytes ps) n)) ≡ taken d → ListsAs d (show_items bytes (items_of s))
        go (got qs n) f g =
            let z : contents_bytes b t bytes qs ≡ d = cc in
            subst (λ d. ListsAs d (show_items bytes (items_of s))) z (taken_lists bytes s short qs n f (subst (λ d. length d < 2 ^ 64) (sym z) l))
        go (bad f p) g h = let z : ◌≡◌ {A = ℕ} 0 1 = cc in absurd (omega arith)

    -- what an accepted Data lists is written as the writer's form of what it shows
    pub listed_written : AllWide t → (d : List ℕ) → length d < 2 ^ 64 → ((k : ℕ) → get_or d k 0 < 256) → (ps : List Contents) (n : ℕ) → contents_at t b d 0 (length d) ≡ got ps n
        → written_as t b (records_of (listed ps)) d ≡ taken (contents_bytes b t d ps)
    unfolding written_as within on
    listed_written wide d short octets ps n e =
        let r = records_back t few wide b d short octets ps n e in
        rw r.is (ap taken (ap (form_of b t) r.holds))
