-- The columns of a schema that is not refused: not too many, and each has a width. Assumes nothing.
use mathlib.Core.Path.{◌≡◌, refl, sym, ap, subst, ◌∙◌}
use mathlib.Core.Bool.{Bool, true, false}
use mathlib.Core.List.{List, []}
use Prim.Native.Nat.{ℕ, zero, suc, ◌+◌, ◌-◌, ◌*◌, ◌/◌, ◌≤◌, ◌<◌}
use native.Mathlib.Decide.{dec_lt}
use native.Mathlib.Omega.{arith}
use borrow.Author.Tests.{eqb-true, leb-true}
use lib.Dec.{T, ltb, leb, eqb}
use lib.ListN.{length, get_or}
use Rattle.common.specs.Choose.{pick, bind}
use Rattle.common.specs.Got.{Got, got, bad, within}
use Rattle.common.specs.Refusals.{taken, refused}
use Rattle.common.specs.declared.refusal.Fault.{Fault}
use Rattle.common.specs.declared.refusal.Fault.TheVariants.{OverLimit}
use Rattle.common.specs.declared.refusal.Slice.TheVariants.{Schema}
use Rattle.common.proofs.Choose.{pick_no}
use Rattle.common.proofs.Finite.{below_at}
use Rattle.common.proofs.Gives.{Gives, gives_got, gives_bad, gives_on, gives_pick}
use Rattle.type_table.specs.Table.{Line, table, no_line, nth, line_of, is_line}
use Rattle.type_table.proofs.Rows.{none_at, line_range}
use Rattle.schema_check.specs.Records.{role_at, line_at, mark_at, width_at, is_line_of, is_kind_of, given, in_turn, record_at, records_at, none, schema_at, schema_of, anywhere}
use Rattle.schema_check.specs.declared.records.Counts.{Counts}
use Rattle.data_clustering.specs.Prefixes.{widths_at}
use Rattle.call_check.specs.Tables.{Table, bad_bases, table_at}
use Rattle.call_check.proofs.Schemas.{table_taken}
use Rattle.data_contents.specs.Contents.{widths_of}
use Rattle.data_contents.proofs.Values.{widths_length}
use Rattle.write_form.specs.Fits.{Bounded}
use Rattle.write_accept.specs.Entries.{baseless}
use Rattle.write_accept.proofs.Goods.{never}
use Rattle.write_accept.proofs.Back.{Wide}
use Rattle.write_accept.proofs.Again.{AllWide}

-- ---- tests that are passed
yes_first : (t y : Bool) → pick t y false ≡ true → t ≡ true
unfolding pick
yes_first true y e = refl
yes_first false y e = e

yes_second : (t y : Bool) → pick t y false ≡ true → y ≡ true
unfolding pick
yes_second true y e = e
yes_second false y e = never (sym e)

not_then : (t y : Bool) → pick t false y ≡ true → y ≡ true
unfolding pick
not_then true y e = never (sym e)
not_then false y e = e

-- ---- lines have a width
-- whether the line l, if it is one, has a width
wide_line : ℕ → Bool
wide_line l = pick (pick (is_line l) true (line_of l).column) (leb 1 (line_of l).width) true

lines_wide : (l : ℕ) → l < 35 → T (wide_line l)
unfolding wide_line is_line line_of nth table no_line pick
lines_wide l h = below_at 35 wide_line tt l h

either : (a c : Bool) (w : ℕ) → T (pick (pick a true c) (leb 1 w) true) → pick a true c ≡ true → 1 ≤ w
unfolding pick
either a c w t e = go (pick a true c) e t
  where
    go : (x : Bool) → x ≡ true → T (pick x (leb 1 w) true) → 1 ≤ w
    go true e t = le (leb 1 w) refl t
      where
        le : (y : Bool) → leb 1 w ≡ y → T y → 1 ≤ w
        le true f t = leb-true 1 w f
        le false f t = absurd t
    go false e t = never (sym e)

role_line : (role l : ℕ) → is_line_of role l ≡ true → pick (is_line l) true (line_of l).column ≡ true
unfolding is_line_of pick
role_line role l e = go (ltb role 2) (is_line l) (not_then (eqb l 24) _ e)
  where
    go : (t a : Bool) → pick t a (line_of l).column ≡ true → pick a true (line_of l).column ≡ true
    go true true f = refl
    go true false f = never (sym f)
    go false true f = refl
    go false false f = f

line_wide : (role l : ℕ) → is_line_of role l ≡ true → 1 ≤ (line_of l).width
unfolding wide_line no_line
line_wide role l e = go (dec_lt l 35)
  where
    out : (a : Bool) → is_line l ≡ a → 34 < l → pick a true (line_of l).column ≡ true → 1 ≤ (line_of l).width
    out true f h g = absurd (omega (arith, (line_range l f).1))
    out false f h g = never (sym (ap (λ (x : Line). x.column) (none_at l h) ∙ pick_no (line_of l).column true _ false refl refl ∙ g))

    go : Dec (l < 35) → 1 ≤ (line_of l).width
    go (yes h) = either (is_line l) (line_of l).column (line_of l).width (lines_wide l h) (role_line role l e)
    go (no h) = out (is_line l) refl (omega arith) (role_line role l e)

kind_wide : (role l mark width : ℕ) → is_kind_of role l mark width ≡ true → 1 ≤ width
unfolding is_kind_of bind
kind_wide role l mark width e =
    let f = not_then (ltb 3 role) _ e in
    let g = line_wide role l (yes_first (is_line_of role l) _ f) in
    omega (arith, eqb-true width (line_of l).width (not_then (ltb 1 mark) _ (yes_second (is_line_of role l) _ f)))

given_wide : (limit : ℕ) (s : List ℕ) (at : ℕ) → given limit s at ≡ true → 1 ≤ get_or s (at + 3) 0
unfolding given width_at
given_wide limit s at e = kind_wide (role_at s at) (line_at s at) (mark_at s at) (get_or s (at + 3) 0) (yes_first (is_kind_of (role_at s at) (line_at s at) (mark_at s at) (get_or s (at + 3) 0)) _ e)

-- ---- the records of a schema
module _ (limit : ℕ) (s : List ℕ) (end : ℕ) where
  record_wide : (c : Counts) (at : ℕ) → Gives (record_at limit c s at end) (λ d n. (n ≡ at + 16) × (1 ≤ get_or s (at + 3) 0))
  unfolding record_at
  record_wide c at =
      gives_pick (ltb (end - at) 16) (λ e. gives_bad _ _) (λ e.
      gives_pick (given limit s at)
      (λ f. gives_pick (in_turn (role_at s at) c) (λ g. gives_got _ _ (refl, given_wide limit s at f)) (λ g. gives_bad _ _))
      (λ f. gives_bad _ _))

  records_wide : (j : ℕ) (c : Counts) (at : ℕ) → Gives (records_at limit j c s at end) (λ d n. (i : ℕ) → i < j → 1 ≤ get_or s (at + 16 * i + 3) 0)
  unfolding records_at
  records_wide zero c at = gives_got _ _ (λ i l. absurd (omega arith))
  records_wide (suc j) c at =
      gives_on _ (record_wide c at) (λ d n g.
      record { given = λ x m e i l. go i l g.0 g.1 ((records_wide j d n).given x m e) })
    where
      go : {n : ℕ} (i : ℕ) → i < suc j → n ≡ at + 16 → 1 ≤ get_or s (at + 3) 0 → ((k : ℕ) → k < j → 1 ≤ get_or s (n + 16 * k + 3) 0) → 1 ≤ get_or s (at + 16 * i + 3) 0
      go zero l e f h = subst (λ z. 1 ≤ get_or s z 0) (omega arith) f
      go (suc k) l e f h = subst (λ z. 1 ≤ get_or s z 0) (omega arith) (h k (omega arith))

widths_wide : (s : List ℕ) (at n : ℕ) → ((i : ℕ) → i < n → 1 ≤ get_or s (at + 16 * i + 3) 0) → Wide (widths_at s at n)
unfolding widths_at
widths_wide s at zero h = tt
widths_wide s at (suc n) h =
    (subst (λ z. 1 ≤ get_or s z 0) (omega arith) (h 0 (omega arith)), widths_wide s (at + 16) n (λ i l. subst (λ z. 1 ≤ get_or s z 0) (omega arith) (h (suc i) (omega arith))))

-- ---- a schema that is not refused
untested : (c : List ℕ) → table_at c baseless [] 0 ≡ schema_of anywhere c
unfolding table_at schema_of bad_bases pick
untested c = go (ltb 1073741824 (length c))
  where
    go : (t : Bool) → pick t (refused OverLimit Schema 0) (pick t (refused OverLimit Schema 0) (within Schema (schema_at anywhere c))) ≡ pick t (refused OverLimit Schema 0) (within Schema (schema_at anywhere c))
    go true = refl
    go false = refl

schema_is : (c : List ℕ) → schema_of anywhere c ≡ pick (ltb 1073741824 (length c)) (refused OverLimit Schema 0) (within Schema (schema_at anywhere c))
unfolding schema_of
schema_is c = refl

refused_not : (t : Bool) (y : Fault) (p : ℕ) (k : Counts) → pick t (refused OverLimit Schema 0) (within Schema (bad y p)) ≡ taken k → ⊥
unfolding pick within
refused_not true y p k e = let z : ◌≡◌ {A = ℕ} 0 1 = cc in absurd (omega arith)
refused_not false y p k e = let z : ◌≡◌ {A = ℕ} 0 1 = cc in absurd (omega arith)

schema_records : (c : List ℕ) → Gives (schema_at anywhere c) (λ d n. (i : ℕ) → i < (length c + 15) / 16 → 1 ≤ get_or c (0 + 16 * i + 3) 0)
unfolding schema_at
schema_records c = gives_pick (eqb (length c) 0) (λ e. gives_bad _ _) (λ e. records_wide anywhere c (length c) ((length c + 15) / 16) none 0)

module _ (c : List ℕ) (k : Counts) (e : schema_of anywhere c ≡ taken k) where
  pub schema_table : Table (length c) k
  schema_table = table_taken c baseless [] 0 k (untested c ∙ e)

  wide_records : (i : ℕ) → i < (length c + 15) / 16 → 1 ≤ get_or c (0 + 16 * i + 3) 0
  wide_records = of (ltb 1073741824 (length c)) (schema_at anywhere c) refl (sym (schema_is c) ∙ e)
    where
      of : (t : Bool) (x : Got Counts) → schema_at anywhere c ≡ x → pick t (refused OverLimit Schema 0) (within Schema x) ≡ taken k → (i : ℕ) → i < (length c + 15) / 16 → 1 ≤ get_or c (0 + 16 * i + 3) 0
      of t (got a n) f g = (schema_records c).given a n f
      of t (bad y p) f g = absurd (refused_not t y p k g)

  pub schema_bounded : Bounded (widths_of c k)
  unfolding widths_of
  schema_bounded =
      let t = schema_table in
      record {
        clustering = omega (arith, widths_length c 16 k.clustering, t.clustering);
        statics = omega (arith, widths_length c (16 + 16 * k.clustering) k.statics, t.statics);
        regulars = omega (arith, widths_length c (16 + 16 * (k.clustering + k.statics)) k.regulars, t.regulars);
      }

  pub schema_wides : AllWide (widths_of c k)
  unfolding widths_of
  schema_wides =
      let t = schema_table in
      record {
        clustering = widths_wide c 16 k.clustering (λ i l. subst (λ z. 1 ≤ get_or c z 0) (omega arith) (wide_records (1 + i) (omega (arith, t.filled))));
        statics = widths_wide c (16 + 16 * k.clustering) k.statics (λ i l. subst (λ z. 1 ≤ get_or c z 0) (omega arith) (wide_records (1 + k.clustering + i) (omega (arith, t.filled))));
        regulars =
            widths_wide c (16 + 16 * (k.clustering + k.statics)) k.regulars (λ i l.
            subst (λ z. 1 ≤ get_or c z 0) (omega arith) (wide_records (1 + k.clustering + k.statics + i) (omega (arith, t.filled))));
      }
