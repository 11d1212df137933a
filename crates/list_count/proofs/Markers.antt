-- A marker counted: its values, which reading it has shown to be there. Assumes nothing.
use Rattle.common.specs.declared.reading.Bad.{Bad}
use Rattle.std.proofs.Common.{Err, Ok}
use mathlib.Core.Path.{◌≡◌, refl, sym, ap, ◌∙◌}
use mathlib.Core.List.{List, [], ◌∷◌}
use Prim.Native.Nat.{ℕ, zero, suc, ◌+◌, ◌≤◌, ◌<◌}
use native.Mathlib.Omega.{arith}
use lib.ListN.{length, take}
use Rattle.common.specs.Got.{bad, Got, got, on, Reading, said}
use Rattle.common.specs.declared.times.Bases.{Bases}
use Rattle.common.proofs.Gives.{gives_is}
use Rattle.data_field.specs.declared.fields.Deletion.{Deletion}
use Rattle.data_clustering.specs.Prefixes.{values_at, widths_at}
use Rattle.data_clustering.proofs.Loops.{widths_count}
use Rattle.data_marker.specs.Markers.{marker_at, open_after}
use Rattle.data_marker.specs.declared.markers.Marker.{Marker}
use Rattle.data_marker.proofs.Gives.{MarkerOk, marker_gives}
use Rattle.schema_check.specs.declared.records.Counts.{Counts}
use Rattle.call_check.specs.Tables.{Table}
use Rattle.data_contents.specs.Contents.{widths_of, Entry, marker_entry, marker_entry_at, entry_listed}
use Rattle.list_count.specs.Counted.{marker_counted}
use Rattle.list_count.proofs.Follows.{on_got, on_bad}
use Rattle.list_count.proofs.Many.{many_values, values_count}
use Rattle.common.proofs.Said.{said_got}

length_first : (i : ℕ) (ws : List ℕ) → i ≤ length ws → length (take i ws) ≡ i
length_first zero ws h = refl
length_first (suc i) [] h = absurd (omega arith)
length_first (suc i) (w ∷ ws) h = ap suc (length_first i ws (omega arith))

module _ (c s : List ℕ) (k : Counts) (b : Bases) (opened : Deletion) (at : ℕ) (q : Reading Marker) (found : said q ≡ marker_at b (widths_at c 16 k.clustering) opened s at (length s)) where
  abbrev pub Values : Marker → ℕ → Got Entry
  Values m n = on (values_at (take m.count (widths_at c 16 k.clustering)) m.prefix.header s m.prefix.values (length s)) (λ vs p. got (marker_entry m n vs) n)

  pub entry_as : marker_entry_at (widths_of c k) b opened s at (length s) ≡ on (marker_at b (widths_at c 16 k.clustering) opened s at (length s)) Values
  unfolding marker_entry_at widths_of
  entry_as = refl

  module _ (x : Marker) (m : ℕ) (f : q ≡ Ok (x, m)) where
    pub ok : MarkerOk b (widths_at c 16 k.clustering) opened s at (length s) x m
    ok = gives_is (marker_gives b (widths_at c 16 k.clustering) opened s at (length s)) (said_got q _ x m found f)

    pub entry_is : marker_entry_at (widths_of c k) b opened s at (length s) ≡ got (marker_entry x m ok.rest.prefix.read) m
    entry_is =
        let u = ok.rest.prefix in
        entry_as ∙ on_got _ x m Values (said_got q _ x m found f) ∙ on_got _ u.read ok.rest.sizes _ u.is

    pub marker_counted_lem : (n : ℕ) (o : Deletion) → o ≡ open_after x.kind x.deletions
        → said (Ok ((o, (n + 1 + x.count)), m)) ≡ marker_counted n opened (marker_entry_at (widths_of c k) b opened s at (length s))
    unfolding said marker_counted
    marker_counted_lem n o d =
        let u = ok.rest.prefix in
        let l : length u.read ≡ x.count = values_count s (take x.count (widths_at c 16 k.clustering)) u.read u.values ∙ length_first x.count (widths_at c 16 k.clustering) ok.rest.count in
        let e : n + 1 + x.count ≡ n + length (entry_listed (marker_entry x m u.read)) = omega (arith, l, many_values 0 u.read) in
        rw (d, e) (ap (marker_counted n opened) (sym entry_is))

    pub marker_fits : Table (length c) k → (n : ℕ) → n ≤ 274877906944 → n + 1 + x.count < 18446744073709551616
    marker_fits table n l = omega (arith, ok.rest.count, widths_count c 16 k.clustering, table.clustering)

  pub marker_bad : (n : ℕ) (err : Bad) → q ≡ Err err → bad err.fault err.place ≡ marker_counted n opened (marker_entry_at (widths_of c k) b opened s at (length s))
  unfolding said marker_counted
  marker_bad n err e = ap (marker_counted n opened) (sym (entry_as ∙ on_bad _ err.fault err.place Values (sym found ∙ rw e refl)))

pub ruleset markers = (marker_counted_lem, marker_fits, marker_bad, refl)
