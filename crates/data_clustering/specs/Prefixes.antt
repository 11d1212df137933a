-- The clustering of a row, or of a marker: a header and values. Assumes nothing.
use Rattle.std.specs.Prelude.{ℕ, zero, suc, ◌+◌, ◌/◌, ◌%◌, Bool, true, List, [], ◌∷◌, ltb, eqb, length, get_or}
use Rattle.common.specs.Choose.{pick}
use Rattle.common.specs.Got.{Got, got, bad, on, Reader, ◌>>=◌, ret, when}
use Rattle.number_varint.specs.Varints.{varint_at}
use Rattle.common.specs.declared.refusal.Fault.TheVariants.{BadFlags}
use Rattle.data_field.specs.Fields.{span, value_at}
use Rattle.data_field.specs.declared.fields.Span.{Span}
use Rattle.data_clustering.specs.declared.prefixes.Prefix.{Prefix}

-- "two bits a column from the lowest, empty then null; null is refused (a marker's count gives its prefix), as are bits above the
-- columns": whether the header h of k columns is refused
unfoldable pub bad_header : ℕ → ℕ → Bool
bad_header zero h = ltb 0 h
bad_header (suc k) h = pick (eqb (h / 2 % 2) 1) true (bad_header k (h / 4))

-- "Clustering header (none for no columns)": 4 at it
unfoldable pub header_at : ℕ → Reader ℕ
header_at k s at end =
    pick (eqb k 0) (got 0 at)
    (on (varint_at s at end) (λ h n. pick (bad_header k h) (bad BadFlags at) (got h n)))

-- the value of a column of width w, whose bits are the lowest of h: none where it is empty
unfoldable pub clustering_at : ℕ → ℕ → Reader Span
clustering_at w h = when (eqb (h % 2) 1) (ret (span 0 0)) (value_at w)

-- the values of the columns whose widths are ws
unfoldable pub values_at : List ℕ → ℕ → Reader (List Span)
values_at [] h = ret []
values_at (w ∷ ws) h = clustering_at w h >>= (λ v. values_at ws (h / 4) >>= (λ vs. ret (v ∷ vs)))

-- what is left of a reading whose value is not kept
unfoldable pub skipped : {A : Type 0} → Got A → Got Unit
skipped (got a n) = got tt n
skipped (bad f p) = bad f p

-- header and values: where they are, for one who reads them one by one
unfoldable pub prefix_at : List ℕ → Reader Prefix
prefix_at ws s at end =
    on (header_at (length ws) s at end) (λ h n.
    on (skipped (values_at ws h s n end)) (λ u m.
    got (record { header = h; values = n }) m))

-- the widths of the k columns whose records stand in the schema from place at on
unfoldable pub widths_at : List ℕ → ℕ → ℕ → List ℕ
widths_at c at zero = []
widths_at c at (suc k) = get_or c (at + 3) 0 ∷ widths_at c (at + 16) k
