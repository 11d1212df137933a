-- What reading Statistics gives: the base times, and the schema records at the start of the buffer. Assumes nothing.
use Rattle.std.proofs.Common.{Result, Ok, Err}
use mathlib.Core.Path.{◌≡◌, refl, ap}
use mathlib.Core.Bool.{Bool, true, false}
use mathlib.Core.List.{List, [], ◌∷◌, ◌++◌}
use Prim.Native.Nat.{ℕ, zero, suc, ◌+◌, ◌*◌, ◌≤◌}
use native.Mathlib.Omega.{arith}
use borrow.Author.Tests.{ltb-false, le-ltb}
use lib.Dec.{ltb}
use lib.ListN.{length, take, drop, length-append}
use lib.Seq.{take_at}
use Rattle.common.specs.Choose.{pick, bind}
use Rattle.common.specs.Got.{Got, got, bad, within}
use Rattle.common.specs.Refusals.{Outcome, taken, refused, said_refusal, outcome}
use Rattle.common.specs.Store.{splice}
use Rattle.common.specs.declared.refusal.Fault.{Fault}
use Rattle.common.specs.declared.refusal.Slice.{Slice}
use Rattle.common.specs.declared.refusal.Fault.TheVariants.{OverLimit}
use Rattle.common.specs.declared.refusal.Refusal.{Refusal}
use Rattle.common.specs.declared.refusal.Slice.TheVariants.{Statistics}
use Rattle.common.proofs.Gives.{Gives, gives_got, gives_bad, gives_on, gives_pick, gives_is}
use Rattle.stats_contents.specs.declared.contents.Contents.{Contents}
use Rattle.schema_column.specs.declared.Column.{Column}
use Rattle.stats_file.specs.Buffer.{column_count}
use Rattle.stats_file.specs.Header.{of_clustering, of_static, of_regular, count_at, columns_at, group_at, groups_at, header_at, records_of}
use Rattle.stats_file.specs.Statistics.{File, file_at, entries_at, forward_at, backward_at, entry3_at, table_of, answered, filled_in, statistics_of, schema_in, Reads}
use Rattle.stats_file.specs.declared.Table.{Table}
use Rattle.stats_file.specs.declared.columns.Sizes.{Sizes}
use Rattle.schema_check.specs.Records.{most_of}
use Rattle.stats_file.proofs.Records.{length_records}
use Rattle.print_line.specs.Reports.{statistics_at}

-- ---- there are as many columns as the header counts
any : {A : Type 0} (x : Got A) → Gives x (λ a n. Unit)
any x = record { given = λ a n e. tt }

columns_length : (n role : ℕ) (cs : List Column) (s : List ℕ) (at end : ℕ) → Gives (columns_at n role cs s at end) (λ ds m. length ds ≡ length cs + n)
unfolding columns_at
columns_length zero role cs s at end = gives_got _ _ (omega arith)
columns_length (suc n) role cs s at end =
    gives_on _ (any _) (λ c m u. record {
      given = λ ds k e. let z = (columns_length n role (cs ++ (c ∷ [])) s m end).given ds k e in omega (arith, z, length-append cs (c ∷ []));
    })

-- as many columns as are counted, and at most 159
pub record Sized (cs : List Column) (z : Sizes) : Type 0 where
  pub size : length cs ≡ column_count z
  pub most : column_count z ≤ 159

module _ (s : List ℕ) (end : ℕ) where
  count_most : (role : ℕ) (at : ℕ) → Gives (count_at role s at end) (λ n m. n ≤ most_of role)
  unfolding count_at bind
  count_most role at = gives_on _ (any _) (λ n m u. gives_pick (ltb (most_of role) n) (λ t. gives_bad _ _) (λ t. gives_got _ _ (ltb-false _ _ t)))

  group_length : (role : ℕ) (cs : List Column) (at : ℕ) → Gives (group_at role cs s at end) (λ g m. (length g.columns ≡ length cs + g.count) × (g.count ≤ most_of role))
  unfolding group_at
  group_length role cs at = gives_on _ (count_most role at) (λ n m u. gives_on _ (columns_length n role cs s m end) (λ ds k h. gives_got _ _ (h, u)))

  groups_length : (key : List Column) (at : ℕ) → length key ≡ 1 → Gives (groups_at key s at end) (λ g m. Sized g.columns g.sizes)
  unfolding groups_at most_of pick
  groups_length key at h =
      gives_on _ (group_length of_clustering key at) (λ k m e.
      gives_on _ (group_length of_static k.columns m) (λ l n f.
      gives_on _ (group_length of_regular l.columns n) (λ r o g.
      gives_got _ _ (record { size = omega (arith, e.0, f.0, g.0); most = omega (arith, e.1, f.1, g.1) }))))

  header_length : (at : ℕ) → Gives (header_at s at end) (λ h m. Sized h.columns h.sizes)
  unfolding header_at
  header_length at =
      gives_on _ (any _) (λ b m u.
      gives_on _ (columns_length 1 _ [] s m end) (λ key n e.
      gives_on _ (groups_length key n e) (λ g o f.
      gives_pick (ltb o end) (λ t. gives_bad _ _) (λ t. gives_got _ _ f))))

module _ (s : List ℕ) where
  Counted : File → ℕ → Type 0
  Counted x m = Sized x.header.columns x.header.sizes

  entries_length : (c : Contents) → Gives (entries_at s c) Counted
  unfolding entries_at forward_at backward_at entry3_at Counted
  entries_length c =
      gives_pick (ltb c.validation c.header)
      (λ t. gives_on _ (any _) (λ v n u. gives_on _ (header_length s _ c.header) (λ h m e. gives_got _ _ e)))
      (λ t. gives_on _ (header_length s _ c.header) (λ h m e. gives_on _ (any _) (λ v n u. gives_got _ _ e)))

  file_length : Gives (file_at s) Counted
  unfolding file_at
  file_length = gives_on _ (any _) (λ c n u. entries_length c)

  counted_file : (x : File) (n : ℕ) → file_at s ≡ got x n → Sized x.header.columns x.header.sizes
  unfolding Counted
  counted_file x n e = gives_is {n = n} file_length e

-- ---- what the answer tells
-- the file that is read: its table is t, and its schema records stand at the start of d
pub record Whole (s d : List ℕ) (t : Table) : Type 0 where
  pub file : File
  pub is : statistics_at s ≡ taken file
  pub table : table_of file ≡ t
  pub most : 16 * column_count t.sizes ≤ 2544
  pub records : take (16 * column_count t.sizes) d ≡ records_of file.header.columns

first_of : (d w : List ℕ) (n : ℕ) → length w ≡ n → take n (splice d 0 w) ≡ w
unfolding splice
first_of d w n e = take_at w (drop (0 + length w) d) n e

module _ (s d d' : List ℕ) (l : length d ≡ 2544) where
  -- the schema records of a file have room
  records_fit : (x : File) (n : ℕ) → file_at s ≡ got x n → ltb (length d) (length (records_of x.header.columns)) ≡ false
  records_fit x n e =
      let h = counted_file s x n e in
      le-ltb (length d) (length (records_of x.header.columns)) (omega (arith, length_records x.header.columns, h.size, h.most))

  small : ltb 1073741824 (length d) ≡ false
  small = le-ltb 1073741824 (length d) (omega arith)

  whole_of : (x : File) (n : ℕ) (t : Table) → file_at s ≡ got x n → ltb 1073741824 (length s) ≡ false → table_of x ≡ t → d' ≡ splice d 0 (records_of x.header.columns) → Whole s d' t
  unfolding statistics_at pick within
  whole_of x n t e a f g =
      let h = counted_file s x n e in
      let y : x.header.sizes ≡ t.sizes = ap (λ (q : Table). q.sizes) f in
      let z : length (records_of x.header.columns) ≡ 16 * column_count t.sizes = rw (← y) (omega (arith, length_records x.header.columns, h.size)) in
      record {
        file = x;
        is = rw (a, e) refl;
        table = f;
        most = rw (← y) (omega (arith, h.most));
        records = rw g (first_of d (records_of x.header.columns) (16 * column_count t.sizes) z);
      }

  module _ (a : Result Table Refusal) (r : Reads s d d' a) where
    pub read_whole : (t : Table) → a ≡ Ok t → Whole s d' t
    unfolding statistics_of schema_in outcome pick answered filled_in
    read_whole t e = go (ltb 1073741824 (length s)) (file_at s) refl refl (rw (small, e) at r.answer) (rw small at r.buffer)
      where
        no : {C : Type 0} {f : _} {z : _} {p : ℕ} → taken t ≡ refused f z p → C
        no q = let z : ◌≡◌ {A = ℕ} 0 1 = cc in absurd (omega arith)

        same : (u : Table) → taken t ≡ taken u → u ≡ t
        same u q = cc

        go : (b : Bool) (x : Got File) → ltb 1073741824 (length s) ≡ b → file_at s ≡ x
            → taken t ≡ pick b (refused OverLimit Statistics 0) (answered x (length d)) → d' ≡ pick b d (filled_in x d) → Whole s d' t
        go true x p q f g = no f
        go false (bad y z) p q f g = no f
        go false (got x n) p q f g = whole_of x n t q p (same (table_of x) (rw (records_fit x n q) at f)) (rw (records_fit x n q) at g)

    pub read_refused : (q : Refusal) → a ≡ Err q → statistics_at s ≡ said_refusal q
    unfolding statistics_of outcome pick answered statistics_at within
    read_refused q e = go (ltb 1073741824 (length s)) (file_at s) refl refl (rw (small, e) at r.answer)
      where
        no : {C : Type 0} {t : Table} → said_refusal {A = Table} q ≡ taken t → C
        no f = let z : ◌≡◌ {A = ℕ} 0 1 = cc in absurd (omega arith)

        over : (f : Fault) (z : Slice) (p : ℕ) → said_refusal {A = Table} q ≡ refused f z p → ◌≡◌ {A = Outcome File} (refused f z p) (said_refusal q)
        over f z p g = let h : q.fault ≡ f = cc in let i : q.slice ≡ z = cc in let j : q.place ≡ p = cc in rw (h, i, j) refl

        go : (b : Bool) (x : Got File) → ltb 1073741824 (length s) ≡ b → file_at s ≡ x
            → said_refusal {A = Table} q ≡ pick b (refused OverLimit Statistics 0) (answered x (length d)) → pick b (refused OverLimit Statistics 0) (within Statistics x) ≡ said_refusal q
        go true x p y f = over _ _ _ f
        go false (bad u z) p y f = over _ _ _ f
        go false (got x n) p y f = no (rw (records_fit x n y) at f)
