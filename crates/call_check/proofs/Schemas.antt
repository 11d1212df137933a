-- The counts of a schema that is not refused: its records fill it. Assumes nothing.
use mathlib.Core.Path.{◌≡◌, refl, sym, ap, ◌∙◌, subst}
use mathlib.Core.Bool.{Bool, true, false}
use mathlib.Core.List.{List}
use Prim.Native.Nat.{ℕ, zero, suc, ◌+◌, ◌-◌, ◌*◌, ◌/◌, ◌≤◌, ◌<◌}
use native.Mathlib.Omega.{arith}
use borrow.Author.Tests.{ltb-true, ltb-false, eqb-false}
use lib.Dec.{ltb, eqb}
use lib.ListN.{length}
use Rattle.std.proofs.Common.{Result, Ok, Continue}
use Rattle.std.specs.Result.{result_from_control_flow}
use Rattle.common.specs.Choose.{pick, bind}
use Rattle.common.specs.Got.{Got, got, bad, within}
use Rattle.common.specs.Refusals.{taken, refused, outcome}
use Rattle.common.specs.declared.refusal.Fault.TheVariants.{OverLimit, OutOfRange}
use Rattle.common.specs.declared.refusal.Refusal.{Refusal}
use Rattle.common.specs.declared.refusal.Slice.TheVariants.{Schema, Data, Output, Bases as bases-slice}
use Rattle.common.specs.declared.times.Bases.{Bases}
use Rattle.common.proofs.Said.{tried}
use Rattle.common.proofs.Gives.{Gives, gives_got, gives_bad, gives_on, gives_pick}
use Rattle.schema_check.specs.Records.{role_at, none, given, is_first, count_of, most_of, in_turn, with_one, record_at, records_at, schema_at, schema_of, anywhere}
use Rattle.schema_check.specs.declared.records.Counts.{Counts}
use Rattle.call_check.specs.Tables.{Table, bad_bases, table_at}

-- the records before at, in len bytes, are counted in c
record Fills (len at : ℕ) (c : Counts) : Type 0 where
  placed : at ≡ 16 * (c.keys + c.clustering + c.statics + c.regulars)
  inside : at ≤ len
  keyed : 0 < at → 0 < c.keys
  clustering : c.clustering ≤ 32
  statics : c.statics ≤ 63
  regulars : c.regulars ≤ 63

fills : (len at keys clustering statics regulars : ℕ) → at ≡ 16 * (keys + clustering + statics + regulars) → at ≤ len → (0 < at → 0 < keys) → clustering ≤ 32 → statics ≤ 63 → regulars ≤ 63
    → Fills len at (record { keys = keys; clustering = clustering; statics = statics; regulars = regulars })
fills len at keys clustering statics regulars a b d e f g = record { placed = a; inside = b; keyed = d; clustering = e; statics = f; regulars = g }

one_more : (len at : ℕ) (c : Counts) (a b d : Bool) → Fills len at c → 16 ≤ len - at
    → pick a true (ltb 0 c.keys) ≡ true
    → ltb (pick a c.keys (pick b c.clustering (pick d c.statics c.regulars))) (pick a 1 (pick b 32 63)) ≡ true
    → Fills len (at + 16) (pick a (record { keys = c.keys + 1; clustering = c.clustering; statics = c.statics; regulars = c.regulars })
    (pick b (record { keys = c.keys; clustering = c.clustering + 1; statics = c.statics; regulars = c.regulars })
    (pick d (record { keys = c.keys; clustering = c.clustering; statics = c.statics + 1; regulars = c.regulars })
    (record { keys = c.keys; clustering = c.clustering; statics = c.statics; regulars = c.regulars + 1 }))))
unfolding pick
one_more len at c true b d h l f e =
    let i : c.keys < 1 = ltb-true _ _ e in
    fills len (at + 16) (c.keys + 1) c.clustering c.statics c.regulars (omega arith) (omega arith) (λ z. omega arith) (omega arith) (omega arith) (omega arith)
one_more len at c false true d h l f e =
    let i : c.clustering < 32 = ltb-true _ _ e in
    let j : 0 < c.keys = ltb-true _ _ f in
    fills len (at + 16) c.keys (c.clustering + 1) c.statics c.regulars (omega arith) (omega arith) (λ z. j) (omega arith) (omega arith) (omega arith)
one_more len at c false false true h l f e =
    let i : c.statics < 63 = ltb-true _ _ e in
    let j : 0 < c.keys = ltb-true _ _ f in
    fills len (at + 16) c.keys c.clustering (c.statics + 1) c.regulars (omega arith) (omega arith) (λ z. j) (omega arith) (omega arith) (omega arith)
one_more len at c false false false h l f e =
    let i : c.regulars < 63 = ltb-true _ _ e in
    let j : 0 < c.keys = ltb-true _ _ f in
    fills len (at + 16) c.keys c.clustering c.statics (c.regulars + 1) (omega arith) (omega arith) (λ z. j) (omega arith) (omega arith) (omega arith)

yes_left : (t y : Bool) → pick t y false ≡ true → t ≡ true
unfolding pick
yes_left true y e = refl
yes_left false y e = e

yes_right : (t y : Bool) → pick t y false ≡ true → y ≡ true
unfolding pick
yes_right true y e = e
yes_right false y e = cc

not_right : (t y : Bool) → pick t false y ≡ true → y ≡ true
unfolding pick
not_right true y e = cc
not_right false y e = e

in_turn_lem : (len at role : ℕ) (c : Counts) → Fills len at c → 16 ≤ len - at → in_turn role c ≡ true → Fills len (at + 16) (with_one role c)
unfolding in_turn bind is_first count_of most_of with_one
in_turn_lem len at role c h l e = one_more len at c (eqb role 0) (eqb role 1) (eqb role 2) h l (yes_left _ _ e) (not_right _ _ (yes_right _ _ e))

module _ (limit : ℕ) (s : List ℕ) where
  record_gives : (c : Counts) (at : ℕ) → Fills (length s) at c → Gives (record_at limit c s at (length s)) (λ d n. Fills (length s) n d × (n ≡ at + 16))
  unfolding record_at
  record_gives c at h =
      gives_pick (ltb (length s - at) 16) (λ e. gives_bad _ _) (λ e.
      gives_pick (given limit s at)
      (λ f. gives_pick (in_turn (role_at s at) c) (λ g. gives_got _ _ (in_turn_lem (length s) at (role_at s at) c h (ltb-false _ _ e) g, refl)) (λ g. gives_bad _ _))
      (λ f. gives_bad _ _))

  records_give : (j : ℕ) (c : Counts) (at : ℕ) → Fills (length s) at c → Gives (records_at limit j c s at (length s)) (λ d n. Fills (length s) n d × (n ≡ at + 16 * j))
  unfolding records_at
  records_give zero c at h = gives_got _ _ (h, omega arith)
  records_give (suc j) c at h =
      gives_on _ (record_gives c at h) (λ d n g.
      record { given = λ x m e. let z = (records_give j d n g.0).given x m e in (z.0, (let y = z.1 in let w = g.1 in omega arith)) })

module _ (limit : ℕ) (s : List ℕ) where
  schema_gives : Gives (schema_at limit s) (λ k n. Table (length s) k)
  unfolding schema_at
  schema_gives =
      gives_pick (eqb (length s) 0) (λ e. gives_bad _ _) (λ e.
      record {
        given = λ k n f.
            let z = (records_give limit s ((length s + 15) / 16) none 0 start).given k n f in
            table k n z.0 z.1 (eqb-false _ _ e);
      })
    where
      start : Fills (length s) 0 none
      start = record { placed = refl; inside = omega arith; keyed = λ z. absurd (omega arith); clustering = omega arith; statics = omega arith; regulars = omega arith }

      table : (k : Counts) (n : ℕ) → Fills (length s) n k → n ≡ 0 + 16 * ((length s + 15) / 16) → (length s ≡ 0 → ⊥) → Table (length s) k
      table k n h e f =
          let p : 0 < k.keys = h.keyed (omega arith) in
          record { filled = omega arith; clustering = h.clustering; statics = h.statics; regulars = h.regulars }

  pub schema_table : (k : Counts) → schema_of limit s ≡ taken k → Table (length s) k
  unfolding schema_of pick within
  schema_table k e = go (ltb 1073741824 (length s)) (schema_at limit s) refl e
    where
      go : (t : Bool) (x : Got Counts) → schema_at limit s ≡ x → pick t (refused OverLimit Schema 0) (within Schema x) ≡ taken k → Table (length s) k
      go true x d f = let z : ◌≡◌ {A = ℕ} 0 1 = cc in absurd (omega arith)
      go false (got a n) d f = let z : a ≡ k = cc in subst (Table (length s)) z (schema_gives.given a n d)
      go false (bad y p) d f = let z : ◌≡◌ {A = ℕ} 0 1 = cc in absurd (omega arith)

-- ---- what a call that was not refused knows of its table
module _ (c : List ℕ) (bases : Bases) (s : List ℕ) (room : ℕ) (k : Counts) where
  tested : table_at c bases s room ≡ taken k → (length s ≤ 1073741824) × (schema_of anywhere c ≡ taken k)
  unfolding table_at pick
  tested e = go (ltb 1073741824 (length c)) (ltb 1073741824 (length s)) (ltb 1073741824 room) (bad_bases bases) refl e
    where
      go : (x y z w : Bool) → ltb 1073741824 (length s) ≡ y
          → pick x (refused OverLimit Schema 0) (pick y (refused OverLimit Data 0) (pick z (refused OverLimit Output 0) (pick w (refused OutOfRange bases-slice 0) (schema_of anywhere c)))) ≡ taken k
          → (length s ≤ 1073741824) × (schema_of anywhere c ≡ taken k)
      go true y z w d f = let q : ◌≡◌ {A = ℕ} 0 1 = cc in absurd (omega arith)
      go false true z w d f = let q : ◌≡◌ {A = ℕ} 0 1 = cc in absurd (omega arith)
      go false false true w d f = let q : ◌≡◌ {A = ℕ} 0 1 = cc in absurd (omega arith)
      go false false false true d f = let q : ◌≡◌ {A = ℕ} 0 1 = cc in absurd (omega arith)
      go false false false false d f = (ltb-false _ _ d, f)

  pub table_taken : table_at c bases s room ≡ taken k → Table (length c) k
  table_taken e = schema_table anywhere c k (tested e).1

  module _ (r : Result Counts Refusal) (e : outcome r ≡ table_at c bases s room) (f : r ≡ Ok k) where
    taken_as : table_at c bases s room ≡ taken k
    unfolding outcome
    taken_as = sym e ∙ rw f refl

    pub told_table : Table (length c) k
    told_table = table_taken taken_as

    pub told_length : length s ≤ 1073741824
    told_length = (tested taken_as).0

  -- the same behind `?`
  module _ (r : Result Counts Refusal) (b : _) (e : outcome r ≡ table_at c bases s room) (f : r ≡ result_from_control_flow b) (g : b ≡ Continue k) where
    pub tried_table : Table (length c) k
    tried_table = told_table r e (tried r b k f g)

    pub tried_length : length s ≤ 1073741824
    tried_length = told_length r e (tried r b k f g)

-- what that tells of the columns
module _ (len : ℕ) (k : Counts) (t : Table len k) where
  pub table_filled : (x y z : ℕ) → x ≡ k.clustering → y ≡ k.statics → z ≡ k.regulars → 16 + 16 * (x + y + z) ≤ len
  table_filled x y z a b d = omega (arith, t.filled)

  pub table_rows : (x : ℕ) → x ≡ k.clustering → 16 + 16 * x ≤ len
  table_rows x a = omega (arith, t.filled)

  pub table_statics_in : (base x : ℕ) → base ≡ 16 + 16 * k.clustering → x ≡ k.statics → base + 16 * x ≤ len
  table_statics_in base x a e = omega (arith, t.filled)

  pub table_regulars_in : (base x : ℕ) → base ≡ 16 + 16 * (k.clustering + k.statics) → x ≡ k.regulars → base + 16 * x ≤ len
  table_regulars_in base x a e = omega (arith, t.filled)

  pub table_clustering : (x : ℕ) → x ≡ k.clustering → x ≤ 32
  table_clustering x a = omega (arith, t.clustering)

  pub table_statics : (x : ℕ) → x ≡ k.statics → x ≤ 63
  table_statics x a = omega (arith, t.statics)

  pub table_regulars : (x : ℕ) → x ≡ k.regulars → x ≤ 63
  table_regulars x a = omega (arith, t.regulars)

pub ruleset tables = (table_filled, table_rows, table_statics_in, table_regulars_in, table_clustering, table_statics, table_regulars, told_table, told_length, tried_table, tried_length, refl)
