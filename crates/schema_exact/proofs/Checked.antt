-- What the check of a schema accepts: its columns' types, and their turns. Assumes nothing.
use mathlib.Core.Path.{◌≡◌, refl, sym, ap, ◌∙◌}
use mathlib.Core.Bool.{Bool, true, false}
use mathlib.Core.List.{List}
use Prim.Native.Nat.{ℕ, zero, suc, ◌+◌, ◌-◌, ◌*◌, ◌/◌, ◌≤◌, ◌<◌}
use native.Mathlib.Omega.{arith}
use native.Mathlib.Decide.{dec_lt}
use borrow.Author.Tests.{lt-ltb, le-ltb, ltb-false, eqb-true, eqb-false}
use lib.Dec.{ltb, eqb}
use lib.ListN.{length}
use Rattle.common.specs.Choose.{pick, bind}
use Rattle.common.proofs.Gives.{Gives, gives_on, gives_got, gives_bad, gives_pick}
use Rattle.type_table.specs.Table.{Line, line_of, no_line, is_line}
use Rattle.type_table.proofs.Rows.{line_yes, none_at}
use Rattle.type_spelling.proofs.Carried.{carried_is}
use Rattle.schema_check.specs.Records.{role_at, line_at, mark_at, width_at, name_at, name_len_at, zeros_at, is_line_of, is_name_of, is_kind_of, given, none, in_turn, with_one, record_at, records_at, schema_at}
use Rattle.schema_column.specs.Columns.{column_at}
use Rattle.schema_column.specs.declared.Column.{Column}
use Rattle.schema_check.specs.declared.records.Counts.{Counts}
use Rattle.stats_file.specs.Buffer.{columns_from}
use Rattle.schema_exact.proofs.Records.{Every, empty, each, Turns, done, turn}
use Rattle.schema_exact.proofs.Columns.{Kinded, Nameless}

-- ---- tests one after the other
pub left : (a b : Bool) → pick a b false ≡ true → a ≡ true
unfolding pick
left true b e = refl
left false b e = e

pub right : (a b : Bool) → pick a b false ≡ true → b ≡ true
unfolding pick
right true b e = e
right false b e = cc

pub passed : (a b : Bool) → pick a false b ≡ true → a ≡ false
unfolding pick
passed true b e = sym e
passed false b e = refl

pub then : (a b : Bool) → pick a false b ≡ true → b ≡ true
unfolding pick
then true b e = cc
then false b e = e

pub yes_is : (t a b : Bool) → pick t a b ≡ true → t ≡ true → a ≡ true
unfolding pick
yes_is t a b e f = rw f at e

no_is : (t a b : Bool) → pick t a b ≡ true → t ≡ false → b ≡ true
unfolding pick
no_is t a b e f = rw f at e

-- ---- a line that a column may have is a line
no_zero : (line_of 0).column ≡ false
unfolding line_of no_line
no_zero = refl

column_line : (l : ℕ) → (line_of l).column ≡ true → is_line l ≡ true
unfolding no_line
column_line zero e = let z : true ≡ false = sym e ∙ no_zero in cc
column_line (suc l) e = go (dec_lt 34 (suc l))
  where
    go : Dec (34 < suc l) → is_line (suc l) ≡ true
    go (yes h) = let z : false ≡ true = ap (λ (x : Line). x.column) (none_at (suc l) h) ∙ e in cc
    go (no h) = sym (line_yes (suc l) (omega arith) (omega arith))

-- ---- the type of a record
module _ (c : Column) (e : is_kind_of c.role c.line c.reversed c.width ≡ true) where
  role_most : c.role ≤ 3
  unfolding is_kind_of
  role_most = ltb-false 3 c.role (passed _ _ e)

  rest : pick (is_line_of c.role c.line) (pick (ltb 1 c.reversed) false (eqb c.width (line_of c.line).width)) false ≡ true
  unfolding is_kind_of bind
  rest = then (ltb 3 c.role) _ e

  line : is_line_of c.role c.line ≡ true
  line = left _ _ rest

  tests : pick (ltb 1 c.reversed) false (eqb c.width (line_of c.line).width) ≡ true
  tests = right (is_line_of c.role c.line) _ rest

  mark : c.reversed ≤ 1
  mark = ltb-false 1 c.reversed (passed _ _ tests)

  width : c.width ≡ (line_of c.line).width
  width = eqb-true _ _ (then (ltb 1 c.reversed) _ tests)

  plain : c.line ≡ 24 → ⊥
  unfolding is_line_of
  plain = eqb-false c.line 24 (passed _ _ line)

  lines : pick (ltb c.role 2) (is_line c.line) (line_of c.line).column ≡ true
  unfolding is_line_of
  lines = then (eqb c.line 24) _ line

  is_line_lem : is_line c.line ≡ true
  is_line_lem = go (ltb c.role 2) refl
    where
      go : (b : Bool) → ltb c.role 2 ≡ b → is_line c.line ≡ true
      go true f = yes_is _ _ _ lines f
      go false f = column_line c.line (no_is _ _ _ lines f)

  pub kinded : Kinded c.role c
  kinded = record {
    is = refl;
    typed = carried_is false _ _ is_line_lem plain (omega (arith, mark)) (λ z. let w : ◌≡◌ {A = ℕ} 0 1 = cc in absurd (omega arith));
    named = λ h. carried_is true _ _ is_line_lem plain (omega (arith, mark)) (λ z. no_is _ _ _ lines (le-ltb c.role 2 h));
    width = width;
  }

-- ---- the records
-- a column of a role from 0 to 3 whose type some string spells
pub record ColumnOk (c : Column) : Type 0 where
  pub most : c.role ≤ 3
  pub kinded : Kinded c.role c
  pub nameless : Nameless c

-- k records from at on are accepted behind those counted in c, and with them d are counted
pub record Checked (limit : ℕ) (v : List ℕ) (stop : ℕ) (c d : Counts) (at k : ℕ) : Type 0 where
  pub turns : Turns c d (columns_from v at k)
  pub kinds : Every ColumnOk (columns_from v at k)
  pub within : at + 16 * k ≤ stop
  pub passes : (q : ℕ) → q < k → given limit v (at + 16 * q) ≡ true

module _ (limit : ℕ) (v : List ℕ) (stop : ℕ) where
  pub record One (c : Counts) (at : ℕ) (d : Counts) (n : ℕ) : Type 0 where
    counted : d ≡ with_one (role_at v at) c
    pub next : n ≡ at + 16
    fits : 16 ≤ stop - at
    gives : given limit v at ≡ true
    turned : in_turn (role_at v at) c ≡ true

  pub one_gives : (c : Counts) (at : ℕ) → Gives (record_at limit c v at stop) (One c at)
  unfolding record_at
  one_gives c at =
      gives_pick (ltb (stop - at) 16) (λ e. gives_bad _ _) (λ e.
      gives_pick (given limit v at) (λ f.
      gives_pick (in_turn (role_at v at) c) (λ g. gives_got _ _ (record { counted = refl; next = refl; fits = ltb-false (stop - at) 16 e; gives = f; turned = g })) (λ g. gives_bad _ _))
      (λ f. gives_bad _ _))

  pub kind_of_lem : (at : ℕ) → given limit v at ≡ true → is_kind_of (role_at v at) (line_at v at) (mark_at v at) (width_at v at) ≡ true
  unfolding given
  kind_of_lem at e = left _ _ e

  pub zeros_of : (at : ℕ) → given limit v at ≡ true → zeros_at v at ≡ 0
  unfolding given
  zeros_of at e = eqb-true _ _ (right (is_name_of limit (role_at v at) (name_at v at) (name_len_at v at)) _ (right (is_kind_of (role_at v at) (line_at v at) (mark_at v at) (width_at v at)) _ e))

  pub name_of : (at : ℕ) → given limit v at ≡ true → is_name_of limit (role_at v at) (name_at v at) (name_len_at v at) ≡ true
  unfolding given
  name_of at e = left _ _ (right (is_kind_of (role_at v at) (line_at v at) (mark_at v at) (width_at v at)) _ e)

  places_of : (at : ℕ) → given limit v at ≡ true → role_at v at < 2 → pick (eqb (name_at v at) 0) (eqb (name_len_at v at) 0) false ≡ true
  unfolding is_name_of
  places_of at e l = yes_is _ _ _ (name_of at e) (lt-ltb (role_at v at) 2 l)

  no_name : (at : ℕ) → given limit v at ≡ true → Nameless (column_at v at)
  unfolding column_at
  no_name at e = record {
    name = λ l. eqb-true _ _ (left _ _ (places_of at e l));
    len = λ l. eqb-true _ _ (right (eqb (name_at v at) 0) _ (places_of at e l));
  }

  column_ok : (at : ℕ) → given limit v at ≡ true → ColumnOk (column_at v at)
  unfolding column_at
  column_ok at e = record { most = role_most (column_at v at) (kind_of_lem at e); kinded = kinded (column_at v at) (kind_of_lem at e); nameless = no_name at e }

  role_is : (at : ℕ) → (column_at v at).role ≡ role_at v at
  unfolding column_at
  role_is at = refl

  more : (c e d : Counts) (at n k : ℕ) → One c at e n → Checked limit v stop e d n k → Checked limit v stop c d at (suc k)
  unfolding columns_from
  more c e d at n k o h =
      let g : Checked limit v stop (with_one (role_at v at) c) d (at + 16) k = rw (o.counted, o.next) at h in
      record {
        turns = turn {c = c} {d = d} {x = column_at v at} {xs = columns_from v (at + 16) k} (rw (role_is at) o.turned) (rw (role_is at) g.turns);
        kinds = each (column_ok at o.gives) g.kinds;
        within = omega (arith, g.within);
        passes = λ q l. go q l g;
      }
    where
      go : (q : ℕ) → q < suc k → Checked limit v stop (with_one (role_at v at) c) d (at + 16) k → given limit v (at + 16 * q) ≡ true
      go zero l g = ap (given limit v) (omega arith) ∙ o.gives
      go (suc q) l g = ap (given limit v) (omega arith) ∙ g.passes q (omega arith)

  records_give : (k : ℕ) (c : Counts) (at : ℕ) → at ≤ stop → Gives (records_at limit k c v at stop) (λ d n. Checked limit v stop c d at k)
  unfolding records_at columns_from
  records_give zero c at l = gives_got c at (record { turns = done; kinds = empty; within = omega arith; passes = λ q m. absurd (omega arith) })
  records_give (suc k) c at l =
      gives_on _ (one_gives c at) (λ e n o.
      record { given = λ d m p. more c e d at n k o ((records_give k e n (omega (arith, o.next, o.fits))).given d m p) })

-- the whole schema
pub record Schema (limit : ℕ) (v : List ℕ) (d : Counts) : Type 0 where
  pub some : length v ≡ 0 → ⊥
  pub size : length v ≡ 16 * (length v / 16)
  pub checked : Checked limit v (length v) none d 0 (length v / 16)

pub schema_gives : (limit : ℕ) (v : List ℕ) → Gives (schema_at limit v) (λ d n. Schema limit v d)
unfolding schema_at
schema_gives limit v =
    gives_pick (eqb (length v) 0) (λ e. gives_bad _ _) (λ e.
    record {
      given = λ d n p.
          let h : Checked limit v (length v) none d 0 ((length v + 15) / 16) = (records_give limit v (length v) _ none 0 (omega arith)).given d n p in
          let k : (length v + 15) / 16 ≡ length v / 16 = omega (arith, h.within) in
          record { some = eqb-false (length v) 0 e; size = omega (arith, h.within); checked = rw k at h };
    })
