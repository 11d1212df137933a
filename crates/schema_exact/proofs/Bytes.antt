-- The Statistics that is made for a schema is a list of bytes, and short. Assumes nothing.
use mathlib.Core.Bool.{Bool, true, false}
use mathlib.Core.List.{List, [], ◌∷◌}
use Prim.Native.Nat.{ℕ, zero, suc, ◌+◌, ◌*◌, ◌≤◌, ◌<◌}
use native.Mathlib.Omega.{arith}
use lib.Dec.{T, ltb, leb, leb→le, ltb→lt}
use lib.ListN.{length, get_or}
use Rattle.common.specs.Choose.{pick, bind}
use Rattle.number_fixed.specs.BigEndian.{bytes_of}
use Rattle.number_varint.specs.Varints.{shortest}
use Rattle.common.proofs.Choose.{pick_ind}
use Rattle.common.proofs.Finite.{all_below, below_at}
use Rattle.number_varint.proofs.Within.{Within, append, wider, nothing, cons_byte, fixed_within, shortest_within}
use Rattle.type_table.specs.Table.{table, no_line, nth, line_of}
use Rattle.text.proofs.Texts.{first_passes, then_passes}
use Rattle.type_string.specs.declared.Kind.{Kind}
use Rattle.type_spelling.proofs.Carried.{Carried}
use Rattle.type_spelling.proofs.Spelled.{spelled, type_bytes}
use Rattle.schema_column.specs.declared.Column.{Column}
use Rattle.schema_exact.specs.Canonical.{letters, letters_of, kind_of, column_bytes, columns_bytes, group_bytes, bases_bytes, groups_bytes, header_bytes, contents_bytes, validation_bytes, statistics_bytes}
use Rattle.schema_exact.proofs.Records.{Every, empty, each}
use Rattle.schema_exact.proofs.Columns.{Kinded}

-- ---- names
letters_within : (n : ℕ) → Within n (letters n)
unfolding letters
letters_within zero = nothing
letters_within (suc n) =
    let h = letters_within n in
    record { most = omega (arith, h.most); bytes = cons_byte 97 (letters n) (omega arith) h.bytes }

-- ---- types
all_bytes : List ℕ → Bool
all_bytes [] = true
all_bytes (x ∷ w) = pick (ltb x 256) (all_bytes w) false

all_bytes_lem : (w : List ℕ) → T (all_bytes w) → (i : ℕ) → get_or w i 0 < 256
unfolding all_bytes
all_bytes_lem [] t i = omega arith
all_bytes_lem (x ∷ w) t i = cons_byte x w (ltb→lt _ _ (first_passes (ltb x 256) (all_bytes w) t)) (all_bytes_lem w (then_passes (ltb x 256) (all_bytes w) t)) i

fits_test : ℕ → ℕ → Bool
fits_test l r = bind (spelled (record { line = l; reversed = r })) (λ w. pick (leb (length w) 64) (all_bytes w) false)

-- computed at each line and mark
tests : T (all_below 35 (λ l. all_below 2 (fits_test l)))
unfolding fits_test all_bytes spelled table no_line nth line_of pick bind
tests = tt

spelled_within : (k : Kind) → Carried false k → Within 64 (spelled k)
unfolding fits_test bind
spelled_within k c =
    let t = below_at 2 (fits_test k.line) (below_at 35 (λ l. all_below 2 (fits_test l)) tests k.line (omega (arith, c.most))) k.reversed (omega (arith, c.mark)) in
    let w = spelled k in
    record { most = leb→le _ _ (first_passes (leb (length w) 64) (all_bytes w) t); bytes = all_bytes_lem w (then_passes (leb (length w) 64) (all_bytes w) t) }

type_within : (k : Kind) → Carried false k → Within 73 (type_bytes k)
unfolding type_bytes
type_within k c =
    let h = spelled_within k c in
    append 9 64 (shortest (length (spelled k))) (spelled k) (shortest_within _ (omega (arith, h.most))) h

-- ---- columns
column_within : (i role : ℕ) (c : Column) → i ≤ 200 → Kinded role c → Within 300 (column_bytes i c)
unfolding column_bytes
column_within i role c l k =
    let t = type_within (kind_of c) k.typed in
    let n = letters_of i in
    pick_ind (Within 300) _ _ _ (λ e. wider 73 300 _ (omega arith) t) (λ e.
    wider (9 + (n + 73)) 300 _ (omega arith) (append 9 (n + 73) (shortest n) _ (shortest_within n (omega arith)) (append n 73 (letters n) _ (letters_within n) t)))

columns_within : (i role : ℕ) (cs : List Column) → i + length cs ≤ 200 → Every (Kinded role) cs → Within (300 * length cs) (columns_bytes i cs)
unfolding columns_bytes
columns_within i role [] l empty = nothing
columns_within i role (c ∷ cs) l (each k e) =
    wider (300 + 300 * length cs) (300 * suc (length cs)) _ (omega arith) (append 300 (300 * length cs) (column_bytes i c) _ (column_within i role c (omega arith) k) (columns_within (suc i) role cs (omega arith) e))

group_within : (i role : ℕ) (cs : List Column) → i + length cs ≤ 200 → Every (Kinded role) cs → Within (9 + 300 * length cs) (group_bytes i cs)
unfolding group_bytes
group_within i role cs l e = append 9 (300 * length cs) (shortest (length cs)) _ (shortest_within _ (omega arith)) (columns_within i role cs l e)

-- ---- the file
bases_within : Within 27 bases_bytes
unfolding bases_bytes
bases_within =
    let z = shortest_within 0 (omega arith) in
    append 9 18 (shortest 0) _ z (append 9 9 (shortest 0) (shortest 0) z z)

contents_within : Within 20 contents_bytes
unfolding contents_bytes
contents_within =
    append 4 16 (bytes_of 2 4) _ (fixed_within 2 4) (append 4 12 (bytes_of 0 4) _ (fixed_within 0 4)
    (append 4 8 (bytes_of 20 4) _ (fixed_within 20 4) (append 4 4 (bytes_of 3 4) _ (fixed_within 3 4) (fixed_within 30 4))))

validation_within : Within 10 validation_bytes
unfolding validation_bytes
validation_within = append 2 8 (bytes_of 0 2) _ (fixed_within 0 2) (fixed_within 0 8)

module _ (key : Column) (ks ms rs : List Column) (keyed : Kinded 0 key) (ks_are : Every (Kinded 1) ks) (ms_are : Every (Kinded 2) ms) (rs_are : Every (Kinded 3) rs)
    (ks_few : length ks ≤ 32) (ms_few : length ms ≤ 63) (rs_few : length rs ≤ 63) where
  header_within : Within 50000 (header_bytes key ks ms rs)
  unfolding header_bytes groups_bytes
  header_within =
      let k = 9 + 300 * length ks in
      let m = 9 + 300 * length ms in
      let r = 9 + 300 * length rs in
      let i = 1 + length ks in
      let j = 1 + length ks + length ms in
      wider (27 + (300 + (k + (m + r)))) 50000 _ (omega arith)
      (append 27 (300 + (k + (m + r))) bases_bytes _ bases_within
      (append 300 (k + (m + r)) (columns_bytes 0 (key ∷ [])) _ (columns_within 0 0 (key ∷ []) (omega arith) (each keyed empty))
      (append k (m + r) (group_bytes 1 ks) _ (group_within 1 1 ks (omega arith) ks_are)
      (append m r (group_bytes i ms) (group_bytes j rs) (group_within i 2 ms (omega arith) ms_are) (group_within j 3 rs (omega arith) rs_are)))))

  pub file_within : Within 1073741824 (statistics_bytes key ks ms rs)
  unfolding statistics_bytes
  file_within =
      wider (20 + (10 + 50000)) 1073741824 _ (omega arith)
      (append 20 (10 + 50000) contents_bytes _ contents_within (append 10 50000 validation_bytes (header_bytes key ks ms rs) validation_within header_within))
