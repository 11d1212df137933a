-- Schema records are accepted exactly where some Statistics gives them, the places of names aside. Document 01: they are refused
-- "where roles, counts, lines, marks, widths or zeros are none that Statistics gives; a name's place is tested only where names are
-- read". Assumes nothing.
use mathlib.Core.Path.{◌≡◌, sym, ap, ◌∙◌}
use mathlib.Core.List.{List}
use Prim.Native.Nat.{ℕ, ◌/◌, ◌≤◌, ◌<◌}
use native.Mathlib.Omega.{arith}
use lib.ListN.{length, get_or}
use Rattle.common.specs.Got.{got}
use Rattle.common.proofs.Gives.{gives_is}
use Rattle.schema_check.specs.Records.{schema_at, anywhere}
use Rattle.schema_check.specs.declared.records.Counts.{Counts}
use Rattle.stats_file.specs.Buffer.{columns_from}
use Rattle.stats_file.specs.Header.{records_of}
use Rattle.stats_file.specs.Statistics.{File, file_at}
use Rattle.schema_exact.specs.Schemas.{counts_of, Source}
use Rattle.schema_exact.specs.Canonical.{statistics_bytes}
use Rattle.schema_exact.proofs.Records.{schema_back, every_map}
use Rattle.schema_exact.proofs.Filled.{Taken, file_gives, taken_some, in_fit, lows, low_records, length_lows, low_turns, low_fits}
use Rattle.schema_exact.proofs.Columns.{bares, counted_alike}
use Rattle.schema_exact.proofs.Whole.{file_back}
use Rattle.schema_exact.proofs.Checked.{zeros_of, schema_gives}
use Rattle.schema_exact.proofs.Split.{schema_of_lem}
use Rattle.schema_exact.proofs.Alike.{length_from, alike}
use Rattle.schema_exact.proofs.Bytes.{file_within}
use Rattle.schema_exact.proofs.Agree.{accepted_alike}

-- ---- what Statistics fills is accepted: one key, and as many clustering, static and regular columns as the header has
module _ (s : List ℕ) (x : File) (n : ℕ) (e : file_at s ≡ got x n) where
  taken : Taken s (counts_of x.header.sizes) x.header.columns
  taken = gives_is {n = n} (file_gives s) e

  some : length x.header.columns ≡ 0 → ⊥
  some = taken_some s x.header.sizes.clustering x.header.sizes.statics x.header.sizes.regulars x.header.columns taken

  -- where names are not read
  pub filled_is_accepted : schema_at anywhere (records_of x.header.columns) ≡ got (counts_of x.header.sizes) (length (records_of x.header.columns))
  filled_is_accepted =
      let cs = x.header.columns in
      rw (← low_records cs) (schema_back anywhere (counts_of x.header.sizes) (lows cs) (λ z. some (sym (length_lows cs) ∙ z)) (low_turns taken.turns) (low_fits s cs taken.fits))

  -- where names are read in the file, at most 2^30 bytes: every name lies in it
  pub filled_names_inside : length s ≤ 1073741824 → schema_at (length s) (records_of x.header.columns) ≡ got (counts_of x.header.sizes) (length (records_of x.header.columns))
  filled_names_inside small = schema_back (length s) (counts_of x.header.sizes) x.header.columns some taken.turns (every_map (in_fit (length s) s small (omega arith)) taken.fits)

-- ---- every accepted schema is one that some Statistics gives, the places of names aside
pub accepted_is_given : (v : List ℕ) (c : Counts) (m : ℕ) → schema_at anywhere v ≡ got c m → Source v c
accepted_is_given v c m e =
    let h = gives_is {n = m} (schema_gives anywhere v) e in
    let k = length v / 16 in
    let cs = columns_from v 0 k in
    let x = schema_of_lem cs c (λ z. h.some (omega (arith, h.size, length_from v 0 k))) h.checked.turns h.checked.kinds in
    let w = file_within x.key x.ks x.ms x.rs x.keyed x.ks_are x.ms_are x.rs_are x.ks_few x.ms_few x.rs_few in
    let r = file_back x.key x.ks x.ms x.rs x.keyed x.ks_are x.ms_are x.rs_are x.ks_few x.ms_few x.rs_few in
    let s = statistics_bytes x.key x.ks x.ms x.rs in
    let same : bares r.value.header.columns ≡ bares cs = r.holds ∙ ap bares (sym x.whole) in
    let given = taken s r.value (length s) r.is in
    record {
      file = s;
      small = w.most;
      bytes = w.bytes;
      content = r.value;
      end = length s;
      read = r.is;
      gives = alike r.value.header.columns v k h.size same (every_map (λ y i. i.nameless) given.fits) (every_map (λ y o. o.nameless) h.checked.kinds) (λ q l. zeros_of anywhere v (length v) _ (h.checked.passes q l));
      counted = counted_alike r.value.header.columns cs _ _ c same given.turns h.checked.turns;
    }

-- ---- and no other: bytes that are what some Statistics gives but for the places of names are accepted
pub given_is_accepted : (v : List ℕ) (c : Counts) → ((i : ℕ) → get_or v i 0 < 256) → Source v c → schema_at anywhere v ≡ got c (length v)
given_is_accepted v c small s =
    let e : schema_at anywhere v ≡ got (counts_of s.content.header.sizes) (length (records_of s.content.header.columns)) =
    accepted_alike v _ _ _ small s.gives (filled_is_accepted s.file s.content s.end s.read) in
    e ∙ cc (s.counted, s.gives.lengths)
