-- Columns in turn are a key, then clustering, static and regular columns, none more than there may be. Assumes nothing.
use mathlib.Core.Path.{◌≡◌, refl, ap, subst, ◌∙◌}
use mathlib.Core.Bool.{Bool, true, false}
use mathlib.Core.List.{List, [], ◌∷◌, ◌++◌}
use Prim.Native.Nat.{ℕ, zero, suc, ◌+◌, ◌≤◌, ◌<◌}
use native.Mathlib.Omega.{arith}
use borrow.Author.Tests.{ltb-true, ltb-false, eqb-true}
use lib.Dec.{ltb}
use lib.ListN.{length}
use Rattle.common.specs.Choose.{pick, bind}
use Rattle.schema_check.specs.Records.{none, count_of, most_of, is_passed, is_first, in_turn, with_one}
use Rattle.schema_column.specs.declared.Column.{Column}
use Rattle.schema_check.specs.declared.records.Counts.{Counts}
use Rattle.schema_exact.specs.Schemas.{counts}
use Rattle.schema_exact.proofs.Records.{Every, empty, each, Turns, done, turn}
use Rattle.schema_exact.proofs.Columns.{Kinded}
use Rattle.schema_exact.proofs.Checked.{left, passed, then, ColumnOk}

-- ---- which role is in turn behind a key, k clustering, m static and r regular columns
data Turn (k m r : ℕ) : ℕ → Type 0 where
  clustering : m ≡ 0 → r ≡ 0 → k < 32 → Turn k m r 1
  static : r ≡ 0 → m < 63 → Turn k m r 2
  regular : r < 63 → Turn k m r 3

neither : (a b : Bool) → pick a true b ≡ false → (a ≡ false) × (b ≡ false)
unfolding pick
neither true b e = let z : ◌≡◌ {A = ℕ} 0 1 = cc in absurd (omega arith)
neither false b e = (refl, e)

turn_of : (k m r role : ℕ) → role ≤ 3 → in_turn role (counts k m r) ≡ true → Turn k m r role
unfolding in_turn is_first is_passed count_of most_of pick bind
turn_of k m r zero l e = let z : ◌≡◌ {A = ℕ} 0 1 = cc in absurd (omega arith)
turn_of k m r (suc zero) l e =
    let f = neither (ltb 0 m) (ltb 0 r) (passed _ (ltb k 32) e) in
    clustering (omega (arith, ltb-false 0 m f.0)) (omega (arith, ltb-false 0 r f.1)) (ltb-true k 32 (then (pick (ltb 0 m) true (ltb 0 r)) _ e))
turn_of k m r (suc (suc zero)) l e = static (omega (arith, ltb-false 0 r (passed _ (ltb m 63) e))) (ltb-true m 63 (then (ltb 0 r) _ e))
turn_of k m r (suc (suc (suc zero))) l e = regular (ltb-true r 63 e)
turn_of k m r (suc (suc (suc (suc role)))) l e = absurd (omega arith)

-- ---- the columns behind the key
record Split (k m r : ℕ) (xs : List Column) : Type 0 where
  ks : List Column
  ms : List Column
  rs : List Column
  whole : xs ≡ ks ++ (ms ++ rs)
  ks_are : Every (Kinded 1) ks
  ms_are : Every (Kinded 2) ms
  rs_are : Every (Kinded 3) rs
  ks_few : k + length ks ≤ 32
  ms_few : m + length ms ≤ 63
  rs_few : r + length rs ≤ 63
  no_ks : 0 < m + r → ks ≡ []
  no_ms : 0 < r → ms ≡ []

of_role : (x : Column) (role : ℕ) → ColumnOk x → x.role ≡ role → Kinded role x
of_role x role o e = subst (λ (i : ℕ). Kinded i x) e o.kinded

module _ (x : Column) (xs : List Column) (o : ColumnOk x) (k m r : ℕ) where
  with_clustering : x.role ≡ 1 → m ≡ 0 → r ≡ 0 → Split (k + 1) m r xs → Split k m r (x ∷ xs)
  with_clustering e a b h = record {
    ks = x ∷ h.ks;
    ms = h.ms;
    rs = h.rs;
    whole = ap (λ (ys : List Column). x ∷ ys) h.whole;
    ks_are = each (of_role x 1 o e) h.ks_are;
    ms_are = h.ms_are;
    rs_are = h.rs_are;
    ks_few = omega (arith, h.ks_few);
    ms_few = h.ms_few;
    rs_few = h.rs_few;
    no_ks = λ l. absurd (omega arith);
    no_ms = h.no_ms;
  }

  with_static : x.role ≡ 2 → r ≡ 0 → k ≤ 32 → Split k (m + 1) r xs → Split k m r (x ∷ xs)
  with_static e b l h = record {
    ks = [];
    ms = x ∷ h.ms;
    rs = h.rs;
    whole = ap (λ (ys : List Column). x ∷ ys) (h.whole ∙ ap (λ (ys : List Column). ys ++ (h.ms ++ h.rs)) (h.no_ks (omega arith)));
    ks_are = empty;
    ms_are = each (of_role x 2 o e) h.ms_are;
    rs_are = h.rs_are;
    ks_few = omega arith;
    ms_few = omega (arith, h.ms_few);
    rs_few = h.rs_few;
    no_ks = λ l. refl;
    no_ms = λ l. absurd (omega arith);
  }

  with_regular : x.role ≡ 3 → k ≤ 32 → m ≤ 63 → Split k m (r + 1) xs → Split k m r (x ∷ xs)
  with_regular e l n h = record {
    ks = [];
    ms = [];
    rs = x ∷ h.rs;
    whole = ap (λ (ys : List Column). x ∷ ys) (h.whole ∙ cc (h.no_ks (omega arith), h.no_ms (omega arith)));
    ks_are = empty;
    ms_are = empty;
    rs_are = each (of_role x 3 o e) h.rs_are;
    ks_few = omega arith;
    ms_few = omega arith;
    rs_few = omega (arith, h.rs_few);
    no_ks = λ l. refl;
    no_ms = λ l. refl;
  }

next : (x : Column) (xs : List Column) (k m r : ℕ) (d : Counts) → k ≤ 32 → m ≤ 63 → r ≤ 63 → ColumnOk x → (role : ℕ) → x.role ≡ role → Turn k m r role
    → Turns (with_one role (counts k m r)) d xs → ((k m r : ℕ) → k ≤ 32 → m ≤ 63 → r ≤ 63 → Turns (counts k m r) d xs → Split k m r xs) → Split k m r (x ∷ xs)
unfolding with_one pick
next x xs k m r d l n p o role q (clustering a b c) t rest = with_clustering x xs o k m r q a b (rest (k + 1) m r (omega arith) n p t)
next x xs k m r d l n p o role q (static b c) t rest = with_static x xs o k m r q b l (rest k (m + 1) r l (omega arith) p t)
next x xs k m r d l n p o role q (regular c) t rest = with_regular x xs o k m r q l n (rest k m (r + 1) l n (omega arith) t)

split : (xs : List Column) (k m r : ℕ) (d : Counts) → k ≤ 32 → m ≤ 63 → r ≤ 63 → Turns (counts k m r) d xs → Every ColumnOk xs → Split k m r xs
split [] k m r d l n p done empty = record {
  ks = [];
  ms = [];
  rs = [];
  whole = refl;
  ks_are = empty;
  ms_are = empty;
  rs_are = empty;
  ks_few = omega arith;
  ms_few = omega arith;
  rs_few = omega arith;
  no_ks = λ u. refl;
  no_ms = λ u. refl;
}
split (x ∷ xs) k m r d l n p (turn t g) (each o e) = next x xs k m r d l n p o x.role refl (turn_of k m r x.role o.most t) g (λ k' m' r' l' n' p' h. split xs k' m' r' d l' n' p' h e)

-- ---- all columns
pub record SchemaOf (cs : List Column) : Type 0 where
  pub key : Column
  pub ks : List Column
  pub ms : List Column
  pub rs : List Column
  pub whole : cs ≡ key ∷ (ks ++ (ms ++ rs))
  pub keyed : Kinded 0 key
  pub ks_are : Every (Kinded 1) ks
  pub ms_are : Every (Kinded 2) ms
  pub rs_are : Every (Kinded 3) rs
  pub ks_few : length ks ≤ 32
  pub ms_few : length ms ≤ 63
  pub rs_few : length rs ≤ 63

only : (b : Bool) → pick b true false ≡ true → b ≡ true
unfolding pick
only true e = refl
only false e = e

first_key : (role : ℕ) → in_turn role none ≡ true → role ≡ 0
unfolding in_turn is_first
first_key role e = eqb-true role 0 (only _ (left _ _ e))

one_key : (role : ℕ) → role ≡ 0 → with_one role none ≡ counts 0 0 0
unfolding with_one pick
one_key role e = rw e refl

pub schema_of_lem : (cs : List Column) (d : Counts) → (length cs ≡ 0 → ⊥) → Turns none d cs → Every ColumnOk cs → SchemaOf cs
schema_of_lem [] d s t e = absurd (s refl)
schema_of_lem (x ∷ xs) d s (turn t g) (each o e) =
    let q = first_key x.role t in
    let h = split xs 0 0 0 d (omega arith) (omega arith) (omega arith) (subst (λ (c : Counts). Turns c d xs) (one_key x.role q) g) e in
    record {
      key = x;
      ks = h.ks;
      ms = h.ms;
      rs = h.rs;
      whole = ap (λ (ys : List Column). x ∷ ys) h.whole;
      keyed = of_role x 0 o q;
      ks_are = h.ks_are;
      ms_are = h.ms_are;
      rs_are = h.rs_are;
      ks_few = omega (arith, h.ks_few);
      ms_few = omega (arith, h.ms_few);
      rs_few = omega (arith, h.rs_few);
    }
