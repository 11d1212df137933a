-- The writer's form of Data, and reading it: what can be written is read back and shows the same; what is read can be written; and the form
-- is of what is shown alone, so that writing again gives the same bytes. Assumes nothing.
use mathlib.Core.Path.{◌≡◌, sym, ap, ◌∙◌, subst}
use mathlib.Core.List.{List}
use Prim.Native.Nat.{ℕ, ◌+◌, ◌*◌, ◌^◌, ◌<◌}
use native.Mathlib.Omega.{arith}
use lib.ListN.{length, get_or}
use Rattle.common.proofs.Gives.{got_value}
use Rattle.common.specs.Got.{got}
use Rattle.common.specs.declared.times.Bases.{Bases}
use Rattle.common.proofs.RoundTrip.{Reads}
use Rattle.common.proofs.Stands.{Stands}
use Rattle.schema_check.specs.declared.records.Counts.{Counts}
use Rattle.call_check.specs.Tables.{Table}
use Rattle.data_contents.specs.Contents.{Widths, widths_of, Contents, contents_at}
use Rattle.data_contents.proofs.Values.{widths_length}
use Rattle.write_form.specs.Views.{PartitionView, show_contents}
use Rattle.write_form.specs.Whole.{form_of, contents_bytes}
use Rattle.write_form.specs.Fits.{Bounded, AllFit}
use Rattle.write_form.proofs.Whole.{all_back}
use Rattle.write_form.proofs.Fits.{contents_fit}

-- the columns of a schema that is not refused
pub table_bounded : (c : List ℕ) (k : Counts) → Table (length c) k → Bounded (widths_of c k)
unfolding widths_of
table_bounded c k h = record {
  clustering = omega (arith, widths_length c 16 k.clustering, h.clustering);
  statics = omega (arith, widths_length c (16 + 16 * k.clustering) k.statics, h.statics);
  regulars = omega (arith, widths_length c (16 + 16 * (k.clustering + k.statics)) k.regulars, h.regulars);
}

-- a slice stands in itself
itself : (s : List ℕ) → Stands s (length s) 0 (length s) s
itself s = record { stop = omega arith; within = omega arith; inside = omega arith; bytes = λ i l. ap (λ k. get_or s k 0) (omega arith) }

module _ (b : Bases) (t : Widths) where
  -- Data is accepted and shows xs
  abbrev pub Shows : List ℕ → List PartitionView → Type 0
  Shows s xs = Reads (contents_at t b s 0 (length s)) (length s) (λ ps. show_contents s ps ≡ xs)

  -- what can be written is accepted, and shows what was written
  pub form_back : Bounded t → (xs : List PartitionView) → AllFit b t xs → length (form_of b t xs) < 2 ^ 64 → Shows (form_of b t xs) xs
  form_back few xs i short = all_back (form_of b t xs) short t few b (length (form_of b t xs)) xs 0 (omega arith) i (itself (form_of b t xs))

  -- the same of what was read, its values lying in bytes
  pub rereads : Bounded t → (bytes : List ℕ) (ps : List Contents) → AllFit b t (show_contents bytes ps) → (s : List ℕ) → s ≡ contents_bytes b t bytes ps → length s < 2 ^ 64
      → Shows s (show_contents bytes ps)
  rereads few bytes ps i s e short = all_back s short t few b (length s) (show_contents bytes ps) 0 (omega arith) i (subst (Stands s (length s) 0 (length s)) e (itself s))

  module _ (s : List ℕ) (short : length s < 2 ^ 64) (octets : (k : ℕ) → get_or s k 0 < 256) where
    -- what is accepted can be written
    pub read_fits : (ps : List Contents) (n : ℕ) → contents_at t b s 0 (length s) ≡ got ps n → AllFit b t (show_contents s ps)
    read_fits ps n e = (contents_fit s short t b octets 0 (length s)).given ps n e

    pub shows_fits : (xs : List PartitionView) → Shows s xs → AllFit b t xs
    shows_fits xs h = subst (AllFit b t) h.holds (read_fits h.value (length s) h.is)

    -- writing what was read is accepted again, and shows the same
    pub rewritten : Bounded t → (ps : List Contents) (n : ℕ) → contents_at t b s 0 (length s) ≡ got ps n → length (contents_bytes b t s ps) < 2 ^ 64
        → Shows (contents_bytes b t s ps) (show_contents s ps)
    rewritten few ps n e l = form_back few (show_contents s ps) (read_fits ps n e) l

  -- the form depends on what is shown alone
  pub form_same : (s v : List ℕ) (ps qs : List Contents) → show_contents s ps ≡ show_contents v qs → contents_bytes b t s ps ≡ contents_bytes b t v qs
  form_same s v ps qs e = ap (form_of b t) e

  -- writing what is read of the writer's bytes gives the same bytes
  pub form_fixed : Bounded t → (xs : List PartitionView) → AllFit b t xs → length (form_of b t xs) < 2 ^ 64 → (qs : List Contents) (n : ℕ)
      → contents_at t b (form_of b t xs) 0 (length (form_of b t xs)) ≡ got qs n → contents_bytes b t (form_of b t xs) qs ≡ form_of b t xs
  form_fixed few xs i short qs n e =
      let h = form_back few xs i short in
      let same : h.value ≡ qs = got_value (sym h.is ∙ e) in
      ap (form_of b t) (subst (λ q. show_contents (form_of b t xs) q ≡ xs) same h.holds)
