-- What a type string gives: a line of the table that is no Reversed, one that a column may have where it is a column's. Assumes nothing.
use mathlib.Core.Path.{◌≡◌, refl}
use mathlib.Core.Bool.{Bool, true}
use mathlib.Core.List.{List, [], ◌∷◌}
use Prim.Native.Nat.{ℕ, ◌+◌, ◌-◌, ◌≤◌, ◌<◌}
use native.Mathlib.Omega.{arith}
use borrow.Author.Tests.{eqb-false, ltb-false}
use lib.Dec.{eqb, ltb}
use lib.ListN.{drop}
use Rattle.common.specs.Choose.{pick}
use Rattle.common.specs.Got.{Got, got, bad}
use Rattle.common.specs.Store.{part}
use Rattle.common.specs.declared.refusal.Fault.TheVariants.{NotCarried}
use Rattle.common.proofs.Choose.{pick_ind}
use Rattle.common.proofs.Gives.{Gives, gives_got, gives_bad, gives_pick, gives_bind, gives_on}
use Rattle.text.specs.Text.{same, among}
use Rattle.type_table.specs.Table.{line_of, is_line}
use Rattle.type_table.proofs.Rows.{line_most, line_yes, line_range}
use Rattle.type_string.specs.declared.Kind.{Kind}
use Rattle.type_name.specs.Names.{blank, of_name, past, up_to, named, Closed, closed, faulty}
use Rattle.type_string.specs.Strings.{opened, tail, typed, behind, plain, line_with, string_with, held, type_of, string_at, type_at}
use Rattle.type_name.specs.Parts.{line_named}
use Rattle.number_varint.proofs.Varints.{varint_ends}

-- a type that a column, key or clustering column may have: column where it is that of a static or regular column
pub record Carried (column : Bool) (k : Kind) : Type 0 where
  pub least : 1 ≤ k.line
  pub most : k.line ≤ 34
  pub plain : k.line ≡ 24 → ⊥
  pub mark : k.reversed ≤ 1
  pub allowed : column ≡ true → (line_of k.line).column ≡ true

-- by the tests that code makes of a record
pub carried_is : (column : Bool) (l r : ℕ) → is_line l ≡ true → (l ≡ 24 → ⊥) → r ≤ 1 → (column ≡ true → (line_of l).column ≡ true) → Carried column (record { line = l; reversed = r })
carried_is column l r e n m a =
    let h = line_range l e in
    record { least = h.0; most = h.1; plain = n; mark = m; allowed = a }

pub carried_line : (column : Bool) (k : Kind) → Carried column k → true ≡ is_line k.line
carried_line column k c = line_yes k.line c.least c.most

Said : Bool → Kind → ℕ → Type 0
Said column k n = Carried column k

line_named_lem : (name : List ℕ) → line_named name ≤ 34
unfolding line_named named
line_named_lem name =
    pick_ind (λ (x : ℕ). x ≤ 34) _ _ (same name []) (λ e. omega arith) (λ e.
    pick_ind (λ (x : ℕ). x ≤ 34) _ _ (among 46 name) (λ f. pick_ind (λ (x : ℕ). x ≤ 34) _ _ _ (λ g. line_most (drop 32 name)) (λ g. omega arith)) (λ f.
    line_most name))

module _ (under : ℕ) (column : Bool) (l : ℕ) (h : Carried column (record { line = l; reversed = under })) where
  typed_gives : (cs : List ℕ) → Gives (typed under l cs) (Said column)
  unfolding typed Said
  typed_gives cs = gives_pick (same cs (tail under)) (λ e. gives_got _ _ h) (λ e. gives_bad _ _)

  behind_gives : (x : Closed) → Gives (behind under l x) (Said column)
  unfolding behind
  behind_gives (closed cs) = typed_gives cs
  behind_gives (faulty f) = gives_bad f 0

  plain_gives : (cs : List ℕ) → Gives (plain under l cs) (Said column)
  unfolding plain
  plain_gives cs = gives_pick (line_of l).parameters (λ e. behind_gives _) (λ e. typed_gives cs)

allowed_is : (column b : Bool) → pick column b true ≡ true → column ≡ true → b ≡ true
unfolding pick
allowed_is column b e f = rw f at e

module _ (under : ℕ) (column : Bool) (mark : under ≤ 1) (rev : List ℕ → Got Kind) (h : (cs : List ℕ) → Gives (rev cs) (Said column)) where
  line_gives : (l : ℕ) (cs : List ℕ) → l ≤ 34 → Gives (line_with under column rev l cs) (Said column)
  unfolding line_with
  line_gives l cs m =
      gives_pick (eqb l 0) (λ e. gives_bad _ _) (λ e.
      gives_pick (pick column (line_of l).column true) (λ f.
      gives_pick (eqb l 24) (λ g. h cs) (λ g.
      let n = eqb-false l 0 e in
      plain_gives under column l (record {
        least = omega arith;
        most = m;
        plain = eqb-false l 24 g;
        mark = mark;
        allowed = allowed_is column (line_of l).column f;
      }) cs))
      (λ f. gives_bad _ _))

  string_gives : (cs : List ℕ) → Gives (string_with under column rev cs) (Said column)
  unfolding string_with line_named
  string_gives cs = gives_bind _ _ (gives_bind _ _ (line_gives _ _ (line_named_lem (up_to of_name (past blank cs)))))

held_gives : (column : Bool) (cs : List ℕ) → Gives (held column cs) (Said column)
unfolding held
held_gives column = string_gives 1 column (omega arith) _ (λ cs. gives_bad _ _)

opened_gives : (column : Bool) (cs : List ℕ) → Gives (opened (bad NotCarried 0) (held column) cs) (Said column)
unfolding opened
opened_gives column [] = gives_bad _ _
opened_gives column (c ∷ cs) = gives_pick (eqb c 40) (λ e. held_gives column cs) (λ e. gives_bad _ _)

whole_gives : (column : Bool) (cs : List ℕ) → Gives (type_of column cs) (Said column)
unfolding type_of
whole_gives column = string_gives 0 column (omega arith) _ (opened_gives column)

-- ---- in Statistics
-- the type, and the place after it: past its first byte, not past the end
pub record Given (column : Bool) (at end : ℕ) (k : Kind) (n : ℕ) : Type 0 where
  pub carried : Carried column k
  pub past : at < n
  pub within : n ≤ end

at_gives : (column : Bool) (at end n m : ℕ) (x : Got Kind) → at < m → m ≤ end → Gives x (Said column) → Gives (string_at n m x) (Given column at end)
unfolding string_at Said
at_gives column at end n m (got k p) h l g = gives_got k m (record { carried = g.given k p refl; past = h; within = l })
at_gives column at end n m (bad f p) h l g = gives_bad f n

pub type_gives : (column : Bool) (s : List ℕ) (at end : ℕ) → Gives (type_at column s at end) (Given column at end)
unfolding type_at
type_gives column s at end =
    gives_on _ (varint_ends s at end) (λ len n e.
    gives_pick (ltb (end - n) len) (λ f. gives_bad _ _) (λ f.
    at_gives column at end n (n + len) (type_of column (part s n len)) (omega (arith, e.past)) (omega (arith, e.within, ltb-false (end - n) len f))
    (whole_gives column (part s n len))))
