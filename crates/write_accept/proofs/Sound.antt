-- What reading gives is listed as items that the writer takes, and they say the same again. Assumes nothing.
use mathlib.Core.Path.{◌≡◌, refl, sym, subst, ◌∙◌}
use mathlib.Core.Bool.{Bool, true, false}
use mathlib.Core.List.{List}
use Prim.Native.Nat.{ℕ, ◌+◌, ◌-◌, ◌/◌, ◌%◌, ◌^◌, ◌≤◌, ◌<◌}
use native.Mathlib.Omega.{arith}
use borrow.Author.Tests.{le-ltb, eq-eqb, ne_eqb, eqb-true, eqb-false}
use lib.Dec.{ltb, eqb}
use lib.ListN.{length}
use Rattle.common.specs.Choose.{pick, bind}
use Rattle.common.specs.declared.times.Bases.{Bases}
use Rattle.common.proofs.Choose.{pick_yes, pick_no, pick_ind}
use Rattle.data_cell.specs.Cells.{cell}
use Rattle.data_field.specs.declared.fields.Span.{Span}
use Rattle.data_cell.specs.declared.cells.Cell.{Cell}
use Rattle.data_field.proofs.Ranges.{ValueIn}
use Rattle.data_cell.proofs.Gives.{CellIn}
use Rattle.data_items.specs.Items.{item, zeroed, partition_flags, cell_flags, value_item, cell_item}
use Rattle.data_items.specs.declared.Item.{Item}
use Rattle.write_accept.specs.Fields.{has_time, has_expiry, has_local, has_mark, has_second, has_column, stray, stray_first, stray_last, stray_numbers}
use Rattle.write_accept.specs.Tests.{unlike, bad_place, bad_nowhere, bad_width, bad_value, bad_value_flags, bad_cell_flags, bad_clustering, bad_cell_place, bad_cell}
use Rattle.write_accept.specs.Entries.{value_of, cell_of}
use Rattle.write_accept.proofs.Goods.{never, yes_or_no, Ranged}
use Rattle.write_accept.proofs.Spelled.{Sized, Sound}

-- ---- tests
pub not_either : (a b : Bool) → a ≡ false → b ≡ false → pick a true b ≡ false
unfolding pick
not_either a b e f = rw e f

pub like : (x : ℕ) → unlike x x ≡ false
unfolding unlike pick
like x = rw (eq-eqb x x refl) refl

pub like_is : (x y : ℕ) → x ≡ y → unlike x y ≡ false
like_is x y e = rw e (like y)

-- ---- numbers that are not used
pub stray_not : (used : Bool) (none v : ℕ) → (used ≡ false → v ≡ none) → stray used none v ≡ false
unfolding stray pick
stray_not true none v e = refl
stray_not false none v e = rw (e refl, eq-eqb none none refl) refl

pub record Unused (i : Item) : Type 0 where
  pub column : has_column i ≡ false → i.column ≡ 0
  pub ttl : has_expiry i ≡ false → i.ttl ≡ 0
  pub timestamp : has_time i ≡ false → i.timestamp ≡ zeroed
  pub mark : has_mark i ≡ false → i.mark ≡ zeroed
  pub local : has_local i ≡ false → i.local ≡ 0
  pub expiry : has_expiry i ≡ false → i.expiry ≡ 0
  pub mark2 : has_second i ≡ false → i.mark2 ≡ zeroed
  pub local2 : has_second i ≡ false → i.local2 ≡ 0

pub unused : (i : Item) → Unused i → stray_numbers i ≡ false
unfolding stray_numbers stray_first stray_last
unused i u =
    not_either _ _
    (not_either _ _ (stray_not (has_column i) _ _ u.column)
    (not_either _ _ (stray_not (has_expiry i) _ _ u.ttl)
    (not_either _ _ (stray_not (has_time i) _ _ u.timestamp) (stray_not (has_mark i) _ _ u.mark))))
    (not_either _ _ (stray_not (has_local i) _ _ u.local)
    (not_either _ _ (stray_not (has_expiry i) _ _ u.expiry)
    (not_either _ _ (stray_not (has_second i) _ _ u.mark2) (stray_not (has_second i) _ _ u.local2))))

-- ---- places
module _ (d : List ℕ) (short : length d < 2 ^ 64) where
  pub place_good : (i : Item) → 1 ≤ i.length → i.offset + i.length ≤ length d → bad_place d i ≡ false
  unfolding bad_place
  place_good i l h =
      not_either _ _ (ne_eqb i.length 0 (λ e. omega arith))
      (not_either _ _ (le-ltb (length d) i.offset (omega arith)) (le-ltb (length d - i.offset) i.length (omega arith)))

  pub nowhere_good : (i : Item) → i.offset ≡ 0 → i.length ≡ 0 → bad_nowhere i ≡ false
  unfolding bad_nowhere
  nowhere_good i e f = not_either _ _ (like_is _ _ e) (like_is _ _ f)

  width_good : (w n : ℕ) → (eqb w 255 ≡ false → n ≡ w) → bad_width w n ≡ false
  unfolding bad_width
  width_good w n e = pick_ind (λ t. t ≡ false) _ _ (eqb w 255) (λ f. refl) (λ f. like_is n w (e f))

  value_good : (w : ℕ) (i : Item) → ValueIn d w (value_of i) → 1 ≤ i.length → bad_value d w i ≡ false
  unfolding bad_value
  value_good w i v l = not_either _ _ (place_good i l v.lies) (width_good w i.length (λ e. v.fills e l))

  -- ---- clustering values
  abbrev value_with : ℕ → ℕ → Span → Item
  value_with flags column v = item 5 flags column 0 zeroed zeroed 0 0 zeroed 0 v.start v.len

  value_flags : (n : ℕ) → partition_flags 0 n ≡ pick (eqb n 0) 8 0
  unfolding partition_flags pick
  value_flags n = refl

  value_cases : (P : Item → Type 0) (column : ℕ) (v : Span) → (eqb v.len 0 ≡ true → P (value_with 8 column v)) → (eqb v.len 0 ≡ false → P (value_with 0 column v)) → P (value_item column v)
  unfolding value_item bind
  value_cases P column v f g = rw (value_flags v.len) (pick_ind (λ k. P (value_with k column v)) 8 0 (eqb v.len 0) f g)

  value_sized : (flags column : ℕ) (v : Span) → flags < 256 → column < 256 → v.start + v.len ≤ length d → Sized (value_with flags column v)
  value_sized flags column v f c l = record {
    kind = omega arith;
    flags = f;
    column = c;
    ttl = omega arith;
    timestamp = omega arith;
    mark = omega arith;
    local = omega arith;
    expiry = omega arith;
    mark2 = omega arith;
    local2 = omega arith;
    offset = omega arith;
    length = omega arith;
  }

  plain_unused : (flags column : ℕ) (v : Span) → (flags ≡ 0 → stray_numbers (value_with flags column v) ≡ false) × (flags ≡ 8 → stray_numbers (value_with flags column v) ≡ false)
  unfolding stray_numbers stray_first stray_last stray has_column has_expiry has_time has_mark has_local has_second pick
  plain_unused flags column v = ((λ e. rw e refl), (λ e. rw e refl))

  plain_ranged : (b : Bases) (flags column : ℕ) (v : Span) → (flags ≡ 0 → Ranged b (value_with flags column v)) × (flags ≡ 8 → Ranged b (value_with flags column v))
  unfolding has_expiry has_time has_mark has_local has_second pick
  plain_ranged b flags column v = ((λ e. rw e none), (λ e. rw e some))
    where
      none : Ranged b (value_with 0 column v)
      none = record {
        ttl = λ e. never (sym e);
        timestamp = λ e. never (sym e);
        mark = λ e. never (sym e);
        local = λ e. never (sym e);
        expiry = λ e. never (sym e);
        mark2 = λ e. never (sym e);
        local2 = λ e. never (sym e);
      }

      some : Ranged b (value_with 8 column v)
      some = record {
        ttl = λ e. never (sym e);
        timestamp = λ e. never (sym e);
        mark = λ e. never (sym e);
        local = λ e. never (sym e);
        expiry = λ e. never (sym e);
        mark2 = λ e. never (sym e);
        local2 = λ e. never (sym e);
      }

  value_right_8 : (column w : ℕ) (v : Span) → v.start ≡ 0 → v.len ≡ 0 → bad_clustering d column w (value_with 8 column v) ≡ false
  unfolding bad_clustering bad_value_flags
  value_right_8 column w v e f = not_either _ _ (like 5) (not_either _ _ (sym (pick_no _ _ _ _ refl (sym (like 8)))) (not_either _ _ (like column) (sym (pick_yes _ _ _ _ refl (sym (nowhere_good (value_with 8 column v) e f))))))

  value_right_0 : (column w : ℕ) (v : Span) → ValueIn d w v → 1 ≤ v.len → bad_clustering d column w (value_with 0 column v) ≡ false
  unfolding bad_clustering bad_value_flags
  value_right_0 column w v g l = not_either _ _ (like 5) (not_either _ _ (sym (pick_yes _ _ _ _ refl refl)) (not_either _ _ (like column) (sym (pick_no _ _ _ _ refl (sym (value_good w (value_with 0 column v) g l))))))

  pub value_sound : (b : Bases) (column w : ℕ) (v : Span) → column < 256 → 1 ≤ w → ValueIn d w v → Sound b (bad_clustering d column w) (value_item column v)
  value_sound b column w v c l g =
      value_cases (Sound b (bad_clustering d column w)) column v
      (λ e. record {
        sized = value_sized 8 column v (omega arith) c g.lies;
        numbers = (plain_unused 8 column v).1 refl;
        right = value_right_8 column w v (g.empty l (eqb-true v.len 0 e)) (eqb-true v.len 0 e);
        ranged = (plain_ranged b 8 column v).1 refl;
      })
      (λ e.
      let k = eqb-false v.len 0 e in
      record {
        sized = value_sized 0 column v (omega arith) c g.lies;
        numbers = (plain_unused 0 column v).0 refl;
        right = value_right_0 column w v g (omega arith);
        ranged = (plain_ranged b 0 column v).0 refl;
      })

  pub value_same : (column : ℕ) (v : Span) → value_of (value_item column v) ≡ v
  value_same column v = value_cases (λ i. value_of i ≡ v) column v (λ e. refl) (λ e. refl)

  -- ---- cells
  abbrev tombstone : ℕ → Cell → Item
  tombstone column c = item 6 5 column 0 c.timestamp zeroed c.local 0 zeroed 0 0 0

  abbrev cell_with : ℕ → ℕ → Cell → Item
  cell_with flags column c = item 6 flags column c.ttl c.timestamp zeroed 0 c.local zeroed 0 c.value.start c.value.len

  flags_1 : (kind n : ℕ) → eqb kind 1 ≡ true → cell_flags kind n ≡ pick (eqb n 0) 11 3
  unfolding cell_flags pick
  flags_1 kind n e = rw e refl

  flags_0 : (kind n : ℕ) → eqb kind 1 ≡ false → cell_flags kind n ≡ pick (eqb n 0) 9 1
  unfolding cell_flags pick
  flags_0 kind n e = rw e refl

  cell_cases : (P : Item → Type 0) (column : ℕ) (c : Cell) → (c.kind ≡ 2 → P (tombstone column c))
      → (c.kind ≡ 1 → (c.value.len ≡ 0 → P (cell_with 11 column c)) × ((c.value.len ≡ 0 → ⊥) → P (cell_with 3 column c)))
      → ((c.kind ≡ 1 → ⊥) → (c.kind ≡ 2 → ⊥) → (c.value.len ≡ 0 → P (cell_with 9 column c)) × ((c.value.len ≡ 0 → ⊥) → P (cell_with 1 column c))) → P (cell_item column c)
  unfolding cell_item bind
  cell_cases P column c f g h =
      pick_ind P _ _ (eqb c.kind 2) (λ e. f (eqb-true c.kind 2 e)) (λ e.
      yes_or_no (eqb c.kind 1)
      (λ k.
      rw (flags_1 c.kind c.value.len k)
      (pick_ind (λ x. P (cell_with x column c)) 11 3 (eqb c.value.len 0) (λ z. (g (eqb-true c.kind 1 k)).0 (eqb-true _ 0 z)) (λ z. (g (eqb-true c.kind 1 k)).1 (eqb-false _ 0 z))))
      (λ k.
      rw (flags_0 c.kind c.value.len k)
      (pick_ind (λ x. P (cell_with x column c)) 9 1 (eqb c.value.len 0)
      (λ z. (h (eqb-false c.kind 1 k) (eqb-false c.kind 2 e)).0 (eqb-true _ 0 z))
      (λ z. (h (eqb-false c.kind 1 k) (eqb-false c.kind 2 e)).1 (eqb-false _ 0 z)))))

  cell_is : (x : Cell) (k l y : ℕ) → k ≡ x.kind → l ≡ x.local → y ≡ x.ttl → cell k x.timestamp l y x.value ≡ x
  cell_is x k l y e f g = rw (e, f, g) refl

  module _ (b : Bases) (column w : ℕ) (c : Cell) (small : column < 256) (g : CellIn b c) (v : ValueIn d w c.value) where
    -- the flags f of a cell that is no tombstone
    record Says (f : ℕ) : Type 0 where
      few : f < 256
      timed : eqb (f % 2) 1 ≡ true
      there : eqb (f / 4 % 2) 1 ≡ false
      good : bad_cell_flags f ≡ false
      expiring : eqb (f / 2 % 2) 1 ≡ true → c.kind ≡ 1
      lasting : eqb (f / 2 % 2) 1 ≡ false → c.kind ≡ 0
      empty : ltb 8 f ≡ true → (c.value.start ≡ 0) × (c.value.len ≡ 0)
      full : ltb 8 f ≡ false → 1 ≤ c.value.len

    with_sized : (f : ℕ) → Says f → Sized (cell_with f column c)
    with_sized f z =
        let t = g.timestamp in
        let k = g.kind in
        let l : c.local < 2 ^ 32 = yes_or_no (eqb c.kind 0) (λ e. omega (arith, (g.plain (eqb-true c.kind 0 e)).0)) (λ e. omega (arith, (g.local (omega (arith, eqb-false c.kind 0 e))).most)) in
        let y : c.ttl < 2 ^ 32 =
        yes_or_no (eqb c.kind 0) (λ e. omega (arith, (g.plain (eqb-true c.kind 0 e)).1)) (λ e.
        yes_or_no (eqb c.kind 1) (λ f. omega (arith, (g.ttl (eqb-true c.kind 1 f)).most)) (λ f. omega (arith, (g.tombstone (omega (arith, eqb-false c.kind 0 e, eqb-false c.kind 1 f))).0))) in
        record {
          kind = omega arith;
          flags = z.few;
          column = small;
          ttl = y;
          timestamp = omega (arith, t.most);
          mark = omega arith;
          local = omega arith;
          expiry = l;
          mark2 = omega arith;
          local2 = omega arith;
          offset = omega (arith, v.lies);
          length = omega (arith, v.lies);
        }

    with_unused : (f : ℕ) → Says f → Unused (cell_with f column c)
    unfolding has_column has_expiry has_time has_mark has_local has_second pick
    with_unused f z = record {
      column = λ e. never e;
      ttl = λ e. (g.plain (z.lasting e)).1;
      timestamp = λ e. never (sym z.timed ∙ e);
      mark = λ e. refl;
      local = λ e. refl;
      expiry = λ e. (g.plain (z.lasting e)).0;
      mark2 = λ e. refl;
      local2 = λ e. refl;
    }

    with_ranged : (f : ℕ) → Says f → Ranged b (cell_with f column c)
    unfolding has_expiry has_time has_mark has_local has_second pick
    with_ranged f z = record {
      ttl = λ e. g.ttl (z.expiring e);
      timestamp = λ e. g.timestamp;
      mark = λ e. never (sym e);
      local = λ e. never (sym e ∙ z.there);
      expiry = λ e. g.local (omega (arith, z.expiring e));
      mark2 = λ e. never (sym e);
      local2 = λ e. never (sym e);
    }

    with_place : (f : ℕ) → Says f → bad_cell_place d w (cell_with f column c) ≡ false
    unfolding bad_cell_place has_local
    with_place f z =
        sym (pick_no _ _ _ _ z.there (sym
        (pick_ind (λ t. t ≡ false) _ _ (ltb 8 f)
        (λ e. nowhere_good (cell_with f column c) (z.empty e).0 (z.empty e).1)
        (λ e. value_good w (cell_with f column c) v (z.full e)))))

    with_sound : (f : ℕ) → Says f → Sound b (bad_cell d column w) (cell_with f column c)
    unfolding bad_cell
    with_sound f z = record {
      sized = with_sized f z;
      numbers = unused _ (with_unused f z);
      right = not_either _ _ (like 6) (not_either _ _ z.good (not_either _ _ (like column) (with_place f z)));
      ranged = with_ranged f z;
    }

    with_same : (f : ℕ) → Says f → cell_of (cell_with f column c) ≡ c
    unfolding cell_of has_local has_expiry
    with_same f z =
        sym (pick_no _ _ _ _ z.there (sym
        (pick_ind (λ x. x ≡ c) _ _ (eqb (f / 2 % 2) 1)
        (λ e. cell_is c 1 _ _ (sym (z.expiring e)) refl refl)
        (λ e. cell_is c 0 0 0 (sym (z.lasting e)) (sym (g.plain (z.lasting e)).0) (sym (g.plain (z.lasting e)).1)))))

    tombstone_sound : c.kind ≡ 2 → Sound b (bad_cell d column w) (tombstone column c)
    unfolding bad_cell bad_cell_flags bad_cell_place has_column has_expiry has_time has_mark has_local has_second pick
    tombstone_sound e =
        let t = g.timestamp in
        let l = g.local (omega arith) in
        record {
          sized = record {
            kind = omega arith;
            flags = omega arith;
            column = small;
            ttl = omega arith;
            timestamp = omega (arith, t.most);
            mark = omega arith;
            local = omega (arith, l.most);
            expiry = omega arith;
            mark2 = omega arith;
            local2 = omega arith;
            offset = omega arith;
            length = omega arith;
          };
          numbers = unused _ (record {
            column = λ e. never e;
            ttl = λ e. refl;
            timestamp = λ e. never e;
            mark = λ e. refl;
            local = λ e. never e;
            expiry = λ e. refl;
            mark2 = λ e. refl;
            local2 = λ e. refl;
          });
          right = rw (like 6, like column) (nowhere_good (tombstone column c) refl refl);
          ranged = record {
            ttl = λ e. never (sym e);
            timestamp = λ e. t;
            mark = λ e. never (sym e);
            local = λ e. l;
            expiry = λ e. never (sym e);
            mark2 = λ e. never (sym e);
            local2 = λ e. never (sym e);
          };
        }

    tombstone_same : c.kind ≡ 2 → cell_of (tombstone column c) ≡ c
    unfolding cell_of has_local pick
    tombstone_same e = subst (λ z. cell 2 c.timestamp c.local 0 z ≡ c) (g.tombstone e).1 (cell_is c 2 _ 0 (sym e) refl (sym (g.tombstone e).0))

    says_11 : (1 ≤ w) → c.kind ≡ 1 → c.value.len ≡ 0 → Says 11
    unfolding bad_cell_flags pick
    says_11 l e f = record {
      few = omega arith;
      timed = refl;
      there = refl;
      good = refl;
      expiring = λ _. e;
      lasting = λ z. never z;
      empty = λ _. (v.empty l f, f);
      full = λ z. never z;
    }

    says_3 : c.kind ≡ 1 → (c.value.len ≡ 0 → ⊥) → Says 3
    unfolding bad_cell_flags pick
    says_3 e f = record {
      few = omega arith;
      timed = refl;
      there = refl;
      good = refl;
      expiring = λ _. e;
      lasting = λ z. never z;
      empty = λ z. never (sym z);
      full = λ _. omega arith;
    }

    says_9 : (1 ≤ w) → (c.kind ≡ 1 → ⊥) → (c.kind ≡ 2 → ⊥) → c.value.len ≡ 0 → Says 9
    unfolding bad_cell_flags pick
    says_9 l e h f = record {
      few = omega arith;
      timed = refl;
      there = refl;
      good = refl;
      expiring = λ z. never (sym z);
      lasting = λ _. omega (arith, g.kind);
      empty = λ _. (v.empty l f, f);
      full = λ z. never z;
    }

    says_1 : (c.kind ≡ 1 → ⊥) → (c.kind ≡ 2 → ⊥) → (c.value.len ≡ 0 → ⊥) → Says 1
    unfolding bad_cell_flags pick
    says_1 e h f = record {
      few = omega arith;
      timed = refl;
      there = refl;
      good = refl;
      expiring = λ z. never (sym z);
      lasting = λ _. omega (arith, g.kind);
      empty = λ z. never (sym z);
      full = λ _. omega arith;
    }

    pub cell_sound : 1 ≤ w → Sound b (bad_cell d column w) (cell_item column c)
    cell_sound l =
        cell_cases (Sound b (bad_cell d column w)) column c tombstone_sound
        (λ e. ((λ f. with_sound 11 (says_11 l e f)), (λ f. with_sound 3 (says_3 e f))))
        (λ e h. ((λ f. with_sound 9 (says_9 l e h f)), (λ f. with_sound 1 (says_1 e h f))))

    pub cell_same : 1 ≤ w → cell_of (cell_item column c) ≡ c
    cell_same l =
        cell_cases (λ i. cell_of i ≡ c) column c tombstone_same
        (λ e. ((λ f. with_same 11 (says_11 l e f)), (λ f. with_same 3 (says_3 e f))))
        (λ e h. ((λ f. with_same 9 (says_9 l e h f)), (λ f. with_same 1 (says_1 e h f))))

-- ---- the bytes that tell a value and a cell
pub value_kind : (column : ℕ) (v : Span) → (value_item column v).kind ≡ 5
unfolding value_item bind
value_kind column v = refl

pub cell_kind : (column : ℕ) (c : Cell) → (cell_item column c).kind ≡ 6
unfolding cell_item bind
cell_kind column c = pick_ind (λ (i : Item). i.kind ≡ 6) _ _ (eqb c.kind 2) (λ e. refl) (λ e. refl)

pub cell_column_lem : (column : ℕ) (c : Cell) → (cell_item column c).column ≡ column
unfolding cell_item bind
cell_column_lem column c = pick_ind (λ (i : Item). i.column ≡ column) _ _ (eqb c.kind 2) (λ e. refl) (λ e. refl)
