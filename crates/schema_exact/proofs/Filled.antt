-- What the header of Statistics gives: columns whose records are accepted. Assumes nothing.
use mathlib.Core.Path.{◌≡◌, refl, sym, ap}
use mathlib.Core.Bool.{Bool, true, false}
use mathlib.Core.List.{List, [], ◌∷◌, ◌++◌}
use Prim.Native.Nat.{ℕ, zero, suc, ◌+◌, ◌-◌, ◌/◌, ◌%◌, ◌^◌, ◌≤◌, ◌<◌}
use native.Mathlib.Nat.{add-zero}
use native.Mathlib.Omega.{arith}
use borrow.Author.Tests.{lt-ltb, le-ltb, le-leb, ne_eqb, eq-eqb, ltb-true, ltb-false}
use lib.Dec.{ltb}
use lib.ListN.{length}
use Rattle.common.specs.Choose.{pick, bind}
use Rattle.common.specs.Got.{Got}
use Rattle.common.specs.Store.{shown}
use Rattle.number_fixed.specs.BigEndian.{bytes_of}
use Rattle.common.proofs.Choose.{pick_yes, pick_no, pick_ind, bind_self}
use Rattle.common.proofs.Gives.{Gives, gives_on, gives_got, gives_bad, gives_pick, gives_bind}
use Rattle.number_varint.proofs.Varints.{varint_ends}
use Rattle.type_table.specs.Table.{line_of}
use Rattle.type_string.specs.declared.Kind.{Kind}
use Rattle.type_spelling.proofs.Carried.{Carried, carried_line, type_gives}
use Rattle.schema_check.specs.Records.{is_line_of, is_name_of, is_kind_of, none, anywhere, count_of, most_of, is_passed, is_first, in_turn, with_one}
use Rattle.schema_column.specs.declared.Column.{Column}
use Rattle.schema_check.specs.declared.records.Counts.{Counts}
use Rattle.stats_contents.specs.declared.contents.Contents.{Contents}
use Rattle.stats_file.specs.Header.{column, count_at, is_named, name_at, typed_at, named_at, column_at, columns_at, group_at, groups_at, header_at, head_of, place_of, tail_of, record_of, records_of}
use Rattle.stats_file.specs.Statistics.{File, entry3_at, forward_at, backward_at, entries_at, file_at}
use Rattle.schema_exact.specs.Schemas.{counts, counts_of}
use Rattle.schema_exact.proofs.Columns.{Nameless}
use Rattle.schema_exact.proofs.Records.{Every, empty, each, every_append, Turns, done, turn, turns_more, Fit}

any : {A : Type 0} (x : Got A) → Gives x (λ a n. Unit)
any x = record { given = λ a n e. tt }

-- ---- one column
line_fits : (role : ℕ) (column : Bool) (k : Kind) → Carried column k → (2 ≤ role → column ≡ true) → true ≡ is_line_of role k.line
unfolding is_line_of
line_fits role column k c h =
    pick_no _ _ _ _ (ne_eqb k.line 24 c.plain)
    (pick_ind (λ (b : Bool). true ≡ b) _ _ (ltb role 2) (λ e. carried_line column k c) (λ e. sym (c.allowed (h (ltb-false role 2 e)))))

kind_fits : (role : ℕ) (column : Bool) (k : Kind) → role ≤ 3 → Carried column k → (2 ≤ role → column ≡ true) → is_kind_of role k.line k.reversed (line_of k.line).width ≡ true
unfolding is_kind_of
kind_fits role column k l c h =
    sym (pick_no _ _ _ _ (le-ltb 3 role l)
    (pick_yes _ _ _ _ (sym (line_fits role column k c h))
    (pick_no _ _ _ _ (le-ltb 1 k.reversed c.mark) (bind_self _ _ _ (sym (eq-eqb (line_of k.line).width (line_of k.line).width refl))))))

-- a column of the file s: its name lies in it, and only static and regular columns have one
pub record In (s : List ℕ) (c : Column) : Type 0 where
  pub kind : is_kind_of c.role c.line c.reversed c.width ≡ true
  pub nameless : Nameless c
  pub inside : c.name + c.len ≤ length s

record Of (s : List ℕ) (role : ℕ) (c : Column) : Type 0 where
  is : c.role ≡ role
  fits : In s c

name_inside : (cs : List Column) (s : List ℕ) (at end : ℕ) → Gives (name_at cs s at end) (λ name n. name.start + name.len ≤ length s)
unfolding name_at
name_inside cs s at end =
    gives_on _ (varint_ends s at end) (λ len n h.
    gives_pick (ltb (end - n) len) (λ e. gives_bad _ _) (λ e.
    gives_pick (is_named s (shown s n len) cs) (λ f. gives_bad _ _) (λ f.
    gives_got _ _ (omega (arith, h.within, h.inside, ltb-false (end - n) len e)))))

-- ---- the columns
-- the columns are in turn, and d counts them
pub record Taken (s : List ℕ) (d : Counts) (cs : List Column) : Type 0 where
  pub turns : Turns none d cs
  pub fits : Every (In s) cs

module _ (s : List ℕ) (stop : ℕ) where
  typed_fits : (role : ℕ) (k : Kind) → role < 2 → Carried false k → In s (column role k 0 0)
  typed_fits role k l c = record { kind = kind_fits role false k (omega arith) c (λ m. absurd (omega arith)); nameless = record { name = λ m. refl; len = λ m. refl }; inside = omega arith }

  named_fits : (role : ℕ) (k : Kind) (name len : ℕ) → 2 ≤ role → role ≤ 3 → Carried true k → name + len ≤ length s → In s (column role k name len)
  named_fits role k name len l m c h = record { kind = kind_fits role true k m c (λ o. refl); nameless = record { name = λ o. absurd (omega arith); len = λ o. absurd (omega arith) }; inside = h }

  column_gives : (role : ℕ) → role ≤ 3 → (cs : List Column) (at : ℕ) → Gives (column_at role cs s at stop) (λ c n. Of s role c)
  unfolding column_at typed_at named_at
  column_gives role l cs at =
      gives_pick (ltb role 2)
      (λ e. gives_on _ (type_gives false s at stop) (λ k n h. gives_got _ _ (record { is = refl; fits = typed_fits role k (ltb-true role 2 e) h.carried })))
      (λ e. gives_on _ (name_inside cs s at stop) (λ name n h. gives_on _ (type_gives true s n stop) (λ k m g.
      gives_got _ _ (record { is = refl; fits = named_fits role k name.start name.len (ltb-false role 2 e) l g.carried h }))))

  -- columns of one role: f i counts the columns where there are i of it
  module _ (role : ℕ) (l : role ≤ 3) (f : ℕ → Counts) (more : (i : ℕ) → with_one role (f i) ≡ f (suc i)) (turned : (i : ℕ) → i < most_of role → in_turn role (f i) ≡ true) where
    next : (i : ℕ) (c : Column) (cs : List Column) → i < most_of role → Of s role c → Taken s (f i) cs → Taken s (f (suc i)) (cs ++ (c ∷ []))
    next i c cs m o t = record {
      turns = rw (← more i, ← o.is) (turns_more c t.turns (rw o.is (turned i m)));
      fits = every_append t.fits (each o.fits empty);
    }

    columns_give : (n i : ℕ) (cs : List Column) (at : ℕ) → i + n ≤ most_of role → Taken s (f i) cs → Gives (columns_at n role cs s at stop) (λ ds m. Taken s (f (i + n)) ds)
    unfolding columns_at
    columns_give zero i cs at m t = rw (add-zero i) (gives_got cs at t)
    columns_give (suc n) i cs at m t =
        let e : i + suc n ≡ suc i + n = omega arith in
        rw e (gives_on _ (column_gives role l cs at) (λ c p o. columns_give n (suc i) (cs ++ (c ∷ [])) p (omega arith) (next i c cs (omega arith) o t)))

    count_gives : (at : ℕ) → Gives (count_at role s at stop) (λ n m. n ≤ most_of role)
    unfolding count_at
    count_gives at = gives_on _ (any _) (λ x m u. gives_bind _ _ (gives_pick (ltb (most_of role) x) (λ g. gives_bad _ _) (λ g. gives_got _ _ (ltb-false (most_of role) x g))))

    group_gives : (cs : List Column) (at : ℕ) → Taken s (f 0) cs → Gives (group_at role cs s at stop) (λ g m. Taken s (f g.count) g.columns)
    unfolding group_at
    group_gives cs at t =
        gives_on _ (count_gives at) (λ n m h.
        gives_on _ (columns_give n 0 cs m (omega arith) t) (λ ds p u.
        gives_got _ _ (rw (zero_add n) at u)))
      where
        zero_add : (x : ℕ) → 0 + x ≡ x
        zero_add x = omega arith

  -- ---- role by role
  keyed : ℕ → Counts
  keyed i = record { keys = i; clustering = 0; statics = 0; regulars = 0 }

  key_gives : (at : ℕ) → Gives (columns_at 1 0 [] s at stop) (λ cs m. Taken s (counts 0 0 0) cs)
  unfolding keyed in_turn is_first is_passed count_of most_of with_one pick bind
  key_gives at =
      columns_give 0 (omega arith) keyed (λ i. ap keyed (omega arith)) (λ i h. lt-ltb i 1 h) 1 0 [] at (omega arith) (record { turns = done; fits = empty })

  clustering_gives : (cs : List Column) (at : ℕ) → Taken s (counts 0 0 0) cs → Gives (group_at 1 cs s at stop) (λ g m. Taken s (counts g.count 0 0) g.columns)
  unfolding in_turn is_first is_passed count_of most_of with_one pick bind
  clustering_gives cs at t =
      group_gives 1 (omega arith) (λ i. counts i 0 0) (λ i. ap (λ (x : ℕ). counts x 0 0) (omega arith)) (λ i h. lt-ltb i 32 h) cs at t

  static_gives : (k : ℕ) (cs : List Column) (at : ℕ) → Taken s (counts k 0 0) cs → Gives (group_at 2 cs s at stop) (λ g m. Taken s (counts k g.count 0) g.columns)
  unfolding in_turn is_first is_passed count_of most_of with_one pick bind
  static_gives k cs at t =
      group_gives 2 (omega arith) (λ i. counts k i 0) (λ i. ap (λ (x : ℕ). counts k x 0) (omega arith)) (λ i h. lt-ltb i 63 h) cs at t

  regular_gives : (k m : ℕ) (cs : List Column) (at : ℕ) → Taken s (counts k m 0) cs → Gives (group_at 3 cs s at stop) (λ g n. Taken s (counts k m g.count) g.columns)
  unfolding in_turn is_first is_passed count_of most_of with_one pick bind
  regular_gives k m cs at t =
      group_gives 3 (omega arith) (λ i. counts k m i) (λ i. ap (λ (x : ℕ). counts k m x) (omega arith)) (λ i h. lt-ltb i 63 h) cs at t

  groups_give : (key : List Column) (at : ℕ) → Taken s (counts 0 0 0) key → Gives (groups_at key s at stop) (λ g n. Taken s (counts_of g.sizes) g.columns)
  unfolding groups_at
  groups_give key at t =
      gives_on _ (clustering_gives key at t) (λ k a u.
      gives_on _ (static_gives k.count k.columns a u) (λ m b v.
      gives_on _ (regular_gives k.count m.count m.columns b v) (λ r c w.
      gives_got _ _ w)))

  pub header_gives : (at : ℕ) → Gives (header_at s at stop) (λ h n. Taken s (counts_of h.sizes) h.columns)
  unfolding header_at
  header_gives at =
      gives_on _ (any _) (λ b m u.
      gives_on _ (key_gives m) (λ key a t.
      gives_on _ (groups_give key a t) (λ g p v.
      gives_pick (ltb p stop) (λ e. gives_bad _ _) (λ e. gives_got _ _ v))))

-- ---- the file
module _ (s : List ℕ) where
  abbrev Whole : File → ℕ → Type 0
  Whole x n = Taken s (counts_of x.header.sizes) x.header.columns

  entries_give : (c : Contents) → Gives (entries_at s c) Whole
  unfolding entries_at forward_at backward_at entry3_at
  entries_give c =
      gives_pick (ltb c.validation c.header)
      (λ e. gives_on _ (any _) (λ v n u. gives_on _ (header_gives s _ _) (λ h m t. gives_got _ _ t)))
      (λ e. gives_on _ (header_gives s _ _) (λ h m t. gives_on _ (any _) (λ v n u. gives_got _ _ t)))

  pub file_gives : Gives (file_at s) Whole
  unfolding file_at
  file_gives = gives_on _ (any _) (λ c n u. entries_give c)

-- where there is a key there is a column
pub taken_some : (s : List ℕ) (k m r : ℕ) (cs : List Column) → Taken s (counts k m r) cs → length cs ≡ 0 → ⊥
taken_some s k m r cs t = go t.turns refl refl
  where
    go : {c d : Counts} {xs : List Column} → Turns c d xs → c.keys ≡ 0 → d.keys ≡ 1 → length xs ≡ 0 → ⊥
    go done e f z = omega arith
    go (turn g h) e f z = omega arith

-- ---- their records pass
place_passes : (limit : ℕ) (c : Column) → Nameless c → c.name + c.len ≤ limit → is_name_of limit c.role c.name c.len ≡ true
unfolding is_name_of
place_passes limit c f h =
    pick_ind (λ (b : Bool). b ≡ true) _ _ (ltb c.role 2)
    (λ e.
    let l = ltb-true c.role 2 e in
    sym (pick_yes _ _ _ _ (eq-eqb c.name 0 (f.name l)) (sym (eq-eqb c.len 0 (f.len l)))))
    (λ e. le-leb (c.name + c.len) limit h)

-- in a file of at most 2^30 bytes, which lies before the limit
pub in_fit : (limit : ℕ) (s : List ℕ) → length s ≤ 1073741824 → length s ≤ limit → (c : Column) → In s c → Fit limit c
in_fit limit s small l c h = record {
  kind = h.kind;
  place = place_passes limit c h.nameless (omega (arith, h.inside));
  name = omega (arith, h.inside);
  len = omega (arith, h.inside);
}

-- ---- in any file: a record holds the lowest 32 bits of a name's place
unfoldable pub low : Column → Column
low c = record { role = c.role; line = c.line; reversed = c.reversed; width = c.width; name = c.name % 2 ^ 32; len = c.len % 2 ^ 32 }

unfoldable pub lows : List Column → List Column
lows [] = []
lows (c ∷ cs) = low c ∷ lows cs

low_bytes : (x : ℕ) → bytes_of (x % 2 ^ 32) 4 ≡ bytes_of x 4
unfolding bytes_of
low_bytes x =
    let a : x % 2 ^ 32 / 256 ^ 3 % 256 ≡ x / 256 ^ 3 % 256 = omega arith in
    let b : x % 2 ^ 32 / 256 ^ 2 % 256 ≡ x / 256 ^ 2 % 256 = omega arith in
    let c : x % 2 ^ 32 / 256 ^ 1 % 256 ≡ x / 256 ^ 1 % 256 = omega arith in
    let d : x % 2 ^ 32 / 256 ^ 0 % 256 ≡ x / 256 ^ 0 % 256 = omega arith in
    cc

low_record : (c : Column) → record_of (low c) ≡ record_of c
unfolding low record_of head_of tail_of place_of
low_record c = rw (low_bytes c.name, low_bytes c.len) refl

pub low_records : (cs : List Column) → records_of (lows cs) ≡ records_of cs
unfolding lows records_of
low_records [] = refl
low_records (c ∷ cs) = rw (low_record c, low_records cs) refl

pub length_lows : (cs : List Column) → length (lows cs) ≡ length cs
unfolding lows
length_lows [] = refl
length_lows (c ∷ cs) = ap suc (length_lows cs)

pub low_turns : {c d : Counts} {cs : List Column} → Turns c d cs → Turns c d (lows cs)
unfolding low lows
low_turns done = done
low_turns {c} (turn {x = x} e g) = turn {c = c} {x = low x} e (low_turns g)

low_fit : (s : List ℕ) (c : Column) → In s c → Fit anywhere (low c)
unfolding low
low_fit s c h = record {
  kind = h.kind;
  place = place_passes anywhere (low c) (record { name = λ l. ap (λ (x : ℕ). x % 2 ^ 32) (h.nameless.name l); len = λ l. ap (λ (x : ℕ). x % 2 ^ 32) (h.nameless.len l) }) (omega arith);
  name = omega arith;
  len = omega arith;
}

pub low_fits : (s : List ℕ) (cs : List Column) → Every (In s) cs → Every (Fit anywhere) (lows cs)
unfolding lows
low_fits s [] empty = empty
low_fits s (c ∷ cs) (each h e) = each (low_fit s c h) (low_fits s cs e)
