-- What reading gives of partitions, rows, markers and ends is listed as items that the writer takes, and they say the same again. Assumes
-- nothing.
use mathlib.Core.Path.{◌≡◌, refl, sym, subst, ap, ◌∙◌}
use mathlib.Core.Bool.{Bool, true, false}
use mathlib.Core.List.{List}
use Prim.Native.Nat.{ℕ, ◌+◌, ◌-◌, ◌*◌, ◌/◌, ◌%◌, ◌^◌, ◌≤◌, ◌<◌}
use native.Mathlib.Omega.{arith}
use borrow.Author.Tests.{le-ltb, ltb-false, eq-eqb, ne_eqb, eqb-true, eqb-false}
use lib.Dec.{ltb, eqb}
use lib.ListN.{length}
use Rattle.common.specs.Choose.{pick, bind}
use Rattle.common.specs.declared.times.Bases.{Bases}
use Rattle.common.proofs.Choose.{pick_yes, pick_no, pick_ind}
use Rattle.data_field.specs.Fields.{deletion}
use Rattle.data_field.specs.declared.fields.Deletion.{Deletion}
use Rattle.data_cell.specs.declared.cells.Times.{Times}
use Rattle.data_field.proofs.Ranges.{TimestampIn, LocalIn, DeletionIn}
use Rattle.data_cell.proofs.Gives.{TimesIn}
use Rattle.data_row.specs.Bodies.{times}
use Rattle.data_turns.specs.Turns.{may_stand}
use Rattle.data_row.specs.declared.rows.Row.{Row}
use Rattle.data_turns.specs.Turns.{bad_kind, is_start, is_boundary, out_of_turn}
use Rattle.data_turns.specs.Turns.{same_deletion}
use Rattle.data_marker.specs.declared.markers.Deletions.{Deletions}
use Rattle.data_marker.specs.declared.markers.Marker.{Marker}
use Rattle.data_marker.proofs.Gives.{DeletionsIn}
use Rattle.data_partition.specs.declared.partitions.Partition.{Partition}
use Rattle.data_partition.proofs.Gives.{DeletedIn}
use Rattle.data_items.specs.Items.{item, zeroed, mark_of, time_of, partition_flags, partition_item, row_item, marker_item, end_item}
use Rattle.data_items.specs.declared.Item.{Item}
use Rattle.write_accept.specs.Fields.{has_time, has_expiry, has_local, has_mark, has_second, has_column}
use Rattle.write_accept.specs.Tests.{bad_key, bad_partition_flags, bad_row_flags, bad_partition, bad_row, bad_static, bad_first, bad_marker, bad_end}
use Rattle.write_accept.specs.Entries.{value_of, deletion_of, second_of, times_of, deletions_of, baseless}
use Rattle.write_accept.proofs.Goods.{never, not_first, yes_or_no, Ranged}
use Rattle.write_accept.proofs.Spelled.{Sized, Sound}
use Rattle.write_accept.proofs.Sound.{not_either, like, like_is, Unused, unused, place_good, nowhere_good}

-- ---- marks and timestamps
pub mark_some : (x : Deletion) → x.deleted ≡ 1 → mark_of x ≡ x.mark
unfolding mark_of
mark_some x e = sym (pick_no _ _ _ (eqb x.deleted 0) (ne_eqb x.deleted 0 (λ f. omega arith)) refl)

pub mark_none : (x : Deletion) → x.deleted ≡ 0 → mark_of x ≡ zeroed
unfolding mark_of
mark_none x e = sym (pick_yes _ _ _ (eqb x.deleted 0) (eq-eqb x.deleted 0 e) refl)

pub time_some : (x : Times) → x.timed ≡ 1 → time_of x ≡ x.timestamp
unfolding time_of
time_some x e = sym (pick_no _ _ _ (eqb x.timed 0) (ne_eqb x.timed 0 (λ f. omega arith)) refl)

pub time_none : (x : Times) → x.timed ≡ 0 → time_of x ≡ zeroed
unfolding time_of
time_none x e = sym (pick_yes _ _ _ (eqb x.timed 0) (eq-eqb x.timed 0 e) refl)

deletion_is : (x : Deletion) (k m l : ℕ) → k ≡ x.deleted → m ≡ x.mark → l ≡ x.local → deletion k m l ≡ x
deletion_is x k m l e f g = rw (e, f, g) refl

times_is : (x : Times) (k t e l y : ℕ) → k ≡ x.timed → t ≡ x.timestamp → e ≡ x.expires → l ≡ x.local → y ≡ x.ttl → times k t e l y ≡ x
times_is x k t e l y a c f g h = rw (a, c, f, g, h) refl

one : (x y : ℕ) → x ≡ y → eqb x 1 ≡ true → y ≡ 1
one x y e f = sym e ∙ eqb-true x 1 f

none : (x y : ℕ) → x ≡ y → y ≤ 1 → eqb x 1 ≡ false → y ≡ 0
none x y e l f = let z = eqb-false x 1 f in omega arith

-- ---- partitions and rows: the flags f tell what of the times x and the deletion y is there
abbrev head_with : ℕ → ℕ → Times → Deletion → ℕ → ℕ → Item
head_with kind f x y start len = item kind f 0 x.ttl (time_of x) (mark_of y) y.local x.local zeroed 0 start len

pub record Flags (f : ℕ) (x : Times) (y : Deletion) : Type 0 where
  pub few : f < 16
  pub timed : f % 2 ≡ x.timed
  pub expires : f / 2 % 2 ≡ x.expires
  pub deleted : f / 4 % 2 ≡ y.deleted

module _ (b : Bases) (kind f : ℕ) (x : Times) (y : Deletion) (start len : ℕ) (z : Flags f x y) (g : TimesIn b x) (h : DeletionIn b y) where
  head_sized : kind < 256 → start < 2 ^ 64 → len < 2 ^ 64 → Sized (head_with kind f x y start len)
  head_sized k l m =
      let w = z.few in
      record {
        kind = k;
        flags = omega arith;
        column = omega arith;
        ttl =
            yes_or_no (eqb x.expires 0) (λ e. omega (arith, (g.lasting (eqb-true x.expires 0 e)).1))
            (λ e. omega (arith, (g.ttl (omega (arith, eqb-false x.expires 0 e))).most));
        timestamp =
            yes_or_no (eqb x.timed 0) (λ e. omega (arith, time_none x (eqb-true x.timed 0 e)))
            (λ e.
            let u : x.timed ≡ 1 = omega (arith, g.timed, eqb-false x.timed 0 e) in
            omega (arith, time_some x u, (g.timestamp (omega arith)).most));
        mark =
            yes_or_no (eqb y.deleted 0) (λ e. omega (arith, mark_none y (eqb-true y.deleted 0 e)))
            (λ e.
            let u : y.deleted ≡ 1 = omega (arith, h.deleted, eqb-false y.deleted 0 e) in
            omega (arith, mark_some y u, (h.mark (omega arith)).most));
        local =
            yes_or_no (eqb y.deleted 0) (λ e. omega (arith, (h.none (eqb-true y.deleted 0 e)).1))
            (λ e. omega (arith, (h.local (omega (arith, eqb-false y.deleted 0 e))).most));
        expiry =
            yes_or_no (eqb x.expires 0) (λ e. omega (arith, (g.lasting (eqb-true x.expires 0 e)).0))
            (λ e. omega (arith, (g.local (omega (arith, eqb-false x.expires 0 e))).most));
        mark2 = omega arith;
        local2 = omega arith;
        offset = l;
        length = m;
      }

  abbrev head : Item
  head = head_with kind f x y start len

  expires_one : x.expires ≤ 1
  expires_one = omega (arith, g.expires, g.timed)

  head_unused : eqb kind 6 ≡ false → Unused head
  unfolding has_expiry has_time has_mark has_local
  head_unused k = record {
    column = λ e. refl;
    ttl = λ e. (g.lasting (none _ _ z.expires expires_one e)).1;
    timestamp = λ e. time_none x (none _ _ z.timed g.timed e);
    mark = λ e. mark_none y (none _ _ z.deleted h.deleted (pick_no _ _ _ _ k refl ∙ e));
    local = λ e. (h.none (none _ _ z.deleted h.deleted e)).1;
    expiry = λ e. (g.lasting (none _ _ z.expires expires_one e)).0;
    mark2 = λ e. refl;
    local2 = λ e. refl;
  }

  no_second : eqb kind 4 ≡ false → has_second head ≡ false
  unfolding has_second
  no_second k = sym (pick_no _ _ _ _ k refl)

  head_ranged : eqb kind 6 ≡ false → eqb kind 4 ≡ false → Ranged b head
  unfolding has_expiry has_time has_mark has_local
  head_ranged k l = record {
    ttl = λ e. g.ttl (omega (arith, one _ _ z.expires e));
    timestamp = λ e. let u = one _ _ z.timed e in subst (TimestampIn b) (sym (time_some x u)) (g.timestamp (omega arith));
    mark = λ e. let u = one _ _ z.deleted (pick_no _ _ _ _ k refl ∙ e) in subst (TimestampIn b) (sym (mark_some y u)) (h.mark (omega arith));
    local = λ e. h.local (omega (arith, one _ _ z.deleted e));
    expiry = λ e. g.local (omega (arith, one _ _ z.expires e));
    mark2 = λ e. never (sym e ∙ no_second l);
    local2 = λ e. never (sym e ∙ no_second l);
  }

  pub head_deletion : deletion_of head ≡ y
  unfolding deletion_of has_local
  head_deletion =
      pick_ind (λ d. d ≡ y) _ _ (eqb (f / 4 % 2) 1)
      (λ e. let u = one _ _ z.deleted e in deletion_is y 1 _ _ (sym u) (mark_some y u) refl)
      (λ e. let u = none _ _ z.deleted h.deleted e in deletion_is y 0 0 0 (sym u) (sym (h.none u).0) (sym (h.none u).1))

  pub head_times : times_of head ≡ x
  unfolding times_of has_time has_expiry
  head_times =
      pick_ind (λ d. d ≡ x) _ _ (eqb (f % 2) 1)
      (λ e.
      let u = one _ _ z.timed e in
      pick_ind (λ d. d ≡ x) _ _ (eqb (f / 2 % 2) 1)
      (λ k. times_is x 1 _ 1 _ _ (sym u) (time_some x u) (sym (one _ _ z.expires k)) refl refl)
      (λ k. let v = none _ _ z.expires expires_one k in times_is x 1 _ 0 0 0 (sym u) (time_some x u) (sym v) (sym (g.lasting v).0) (sym (g.lasting v).1)))
      (λ e.
      let u = none _ _ z.timed g.timed e in
      let v : x.expires ≡ 0 = omega (arith, g.expires) in
      times_is x 0 0 0 0 0 (sym u) (sym (g.untimed u)) (sym v) (sym (g.lasting v).0) (sym (g.lasting v).1))

-- ---- rows: their flags 04, 08 and 10 tell their times and deletion
pub record Flagged (r : Row) : Type 0 where
  pub timed : r.flags / 4 % 2 ≡ r.body.times.timed
  pub expires : r.flags / 8 % 2 ≡ r.body.times.expires
  pub deleted : r.flags / 16 % 2 ≡ r.body.deletion.deleted

row_flags_lem : (r : Row) → Flagged r → Flags (r.flags / 4 % 8) r.body.times r.body.deletion
row_flags_lem r g = record {
  few = omega arith;
  timed = half r.flags ∙ g.timed;
  expires = quarter r.flags ∙ g.expires;
  deleted = eighth r.flags ∙ g.deleted;
}
  where
    half : (f : ℕ) → f / 4 % 8 % 2 ≡ f / 4 % 2
    half f = omega arith

    quarter : (f : ℕ) → f / 4 % 8 / 2 % 2 ≡ f / 8 % 2
    quarter f = omega arith

    eighth : (f : ℕ) → f / 4 % 8 / 4 % 2 ≡ f / 16 % 2
    eighth f = omega arith

module _ (b : Bases) (r : Row) (z : Flagged r) (g : TimesIn b r.body.times) (h : DeletionIn b r.body.deletion) where
  abbrev row_head : ℕ → Item
  row_head kind = head_with kind (r.flags / 4 % 8) r.body.times r.body.deletion r.start (r.body.stop - r.start)

  row_is : (kind : ℕ) → row_item kind r ≡ row_head kind
  unfolding row_item bind
  row_is kind = refl

  row_right : (kind : ℕ) → bad_row kind (row_head kind) ≡ false
  unfolding bad_row bad_row_flags
  row_right kind =
      let w = row_flags_lem r z in
      let e : r.flags / 4 % 8 % 4 ≡ 2 → ⊥ = λ e. two (r.flags / 4 % 8) e w.timed w.expires in
      not_either _ _ (like kind) (not_either _ _ (le-ltb 7 (r.flags / 4 % 8) (omega arith)) (ne_eqb (r.flags / 4 % 8 % 4) 2 e))
    where
      odd : (x q : ℕ) → x ≡ 2 * q + 1 → x % 2 ≡ 1
      odd x q e = omega arith

      two : (f : ℕ) → f % 4 ≡ 2 → f % 2 ≡ r.body.times.timed → f / 2 % 2 ≡ r.body.times.expires → ⊥
      two f e u v =
          let a : f % 2 ≡ 0 = omega arith in
          let c : f / 2 ≡ 2 * (f / 4) + 1 = omega arith in
          let k = odd (f / 2) (f / 4) c in
          omega (arith, g.expires)

  pub row_sound : (kind : ℕ) (wrong : Item → Bool) → kind < 4 → wrong (row_head kind) ≡ false → r.start < 2 ^ 64 → r.body.stop < 2 ^ 64 → Sound b wrong (row_item kind r)
  row_sound kind wrong k e l m =
      let w = row_flags_lem r z in
      subst (Sound b wrong) (sym (row_is kind)) (record {
        sized = head_sized b kind _ _ _ _ _ w g h (omega arith) l (omega arith);
        numbers = unused _ (head_unused b kind _ _ _ _ _ w g h (ne_eqb kind 6 (λ f. omega arith)));
        right = e;
        ranged = head_ranged b kind _ _ _ _ _ w g h (ne_eqb kind 6 (λ f. omega arith)) (ne_eqb kind 4 (λ f. omega arith));
      })

  pub plain_sound : r.start < 2 ^ 64 → r.body.stop < 2 ^ 64 → Sound b (bad_row 3) (row_item 3 r)
  plain_sound l m = row_sound 3 (bad_row 3) (omega arith) (row_right 3) l m

  pub static_sound : (first statics : ℕ) → may_stand first statics ≡ true → r.start < 2 ^ 64 → r.body.stop < 2 ^ 64 → Sound b (bad_static first statics) (row_item 2 r)
  unfolding bad_static
  static_sound first statics e l m = row_sound 2 (bad_static first statics) (omega arith) (sym (pick_yes _ _ _ _ e (sym (row_right 2)))) l m

  pub row_times : (kind : ℕ) → times_of (row_item kind r) ≡ r.body.times
  row_times kind = ap times_of (row_is kind) ∙ head_times b kind _ _ _ _ _ (row_flags_lem r z) g h

  pub row_deletion : (kind : ℕ) → deletion_of (row_item kind r) ≡ r.body.deletion
  row_deletion kind = ap deletion_of (row_is kind) ∙ head_deletion b kind _ _ _ _ _ (row_flags_lem r z) g h

-- ---- markers
deletions_are : (x : Deletions) (u v : Deletion) → u ≡ x.first → v ≡ x.second → ◌≡◌ {A = Deletions} (record { first = u; second = v }) x
deletions_are x u v e f = rw (e, f) refl

module _ (b : Bases) (opened : Deletion) (m : Marker) (stop : ℕ) (bound : bad_kind m.kind ≡ false) (g : DeletionsIn b m.kind m.deletions) where
  abbrev marker_head : Item
  marker_head = item 4 4 m.kind 0 zeroed m.deletions.first.mark m.deletions.first.local 0 (mark_of m.deletions.second) m.deletions.second.local m.start (stop - m.start)

  marker_is : marker_item m stop ≡ marker_head
  unfolding marker_item bind
  marker_is = refl

  kind_few : m.kind ≤ 7
  unfolding bad_kind
  kind_few = ltb-false 7 m.kind (not_first (ltb 7 m.kind) _ bound)

  mark_in : TimestampIn b m.deletions.first.mark
  mark_in = g.first.mark (omega (arith, g.deleted))

  local_in : LocalIn b m.deletions.first.local
  local_in = g.first.local (omega (arith, g.deleted))

  marker_sized : m.start < 2 ^ 64 → stop < 2 ^ 64 → Sized marker_head
  marker_sized l k =
      let a = kind_few in
      let c = mark_in in
      let e = local_in in
      let y = m.deletions.second in
      let h = g.second in
      record {
        kind = omega arith;
        flags = omega arith;
        column = omega arith;
        ttl = omega arith;
        timestamp = omega arith;
        mark = omega (arith, c.most);
        local = omega (arith, e.most);
        expiry = omega arith;
        mark2 =
            yes_or_no (eqb y.deleted 0) (λ e. omega (arith, mark_none y (eqb-true y.deleted 0 e)))
            (λ e.
            let u : y.deleted ≡ 1 = omega (arith, h.deleted, eqb-false y.deleted 0 e) in
            omega (arith, mark_some y u, (h.mark (omega arith)).most));
        local2 =
            yes_or_no (eqb y.deleted 0) (λ e. omega (arith, (h.none (eqb-true y.deleted 0 e)).1))
            (λ e. omega (arith, (h.local (omega (arith, eqb-false y.deleted 0 e))).most));
        offset = l;
        length = omega arith;
      }

  second_none : is_boundary m.kind ≡ false → m.deletions.second.deleted ≡ 0
  second_none e = ap (λ (x : Deletion). x.deleted) (g.bound e)

  marker_unused : Unused marker_head
  unfolding has_column has_expiry has_time has_mark has_local has_second pick
  marker_unused = record {
    column = λ e. never e;
    ttl = λ e. refl;
    timestamp = λ e. refl;
    mark = λ e. never e;
    local = λ e. never e;
    expiry = λ e. refl;
    mark2 = λ e. mark_none m.deletions.second (second_none e);
    local2 = λ e. ap (λ (x : Deletion). x.local) (g.bound e);
  }

  marker_ranged : Ranged b marker_head
  unfolding has_expiry has_time has_mark has_local has_second pick
  marker_ranged = record {
    ttl = λ e. never (sym e);
    timestamp = λ e. never (sym e);
    mark = λ e. mark_in;
    local = λ e. local_in;
    expiry = λ e. never (sym e);
    mark2 = λ e. let u = g.boundary e in subst (TimestampIn b) (sym (mark_some m.deletions.second u)) (g.second.mark (omega arith));
    local2 = λ e. g.second.local (omega (arith, g.boundary e));
  }

  module _ (turn : out_of_turn m.kind opened.deleted ≡ false) (same : is_start m.kind ≡ false → same_deletion opened m.deletions.first ≡ true) where
    first_right : bad_first opened marker_head ≡ false
    unfolding bad_first same_deletion
    first_right = pick_ind (λ t. t ≡ false) _ _ (is_start m.kind) (λ e. refl) (λ e. sym (pick_yes _ _ _ _ (same e) refl))

    marker_right : bad_marker opened marker_head ≡ false
    unfolding bad_marker
    marker_right = not_either _ _ (like 4) (not_either _ _ (like 4) (not_either _ _ bound (not_either _ _ turn first_right)))

    pub marker_sound : m.start < 2 ^ 64 → stop < 2 ^ 64 → Sound b (bad_marker opened) (marker_item m stop)
    marker_sound l k = subst (Sound b (bad_marker opened)) (sym marker_is) (record {
      sized = marker_sized l k;
      numbers = unused _ marker_unused;
      right = marker_right;
      ranged = marker_ranged;
    })

  second_same : second_of marker_head ≡ m.deletions.second
  unfolding second_of has_second pick
  second_same =
      let y = m.deletions.second in
      yes_or_no (is_boundary m.kind)
      (λ e. rw e (deletion_is y 1 _ _ (sym (g.boundary e)) (mark_some y (g.boundary e)) refl))
      (λ e. rw e (sym (g.bound e)))

  first_same : deletion 1 m.deletions.first.mark m.deletions.first.local ≡ m.deletions.first
  first_same = deletion_is m.deletions.first 1 _ _ (sym g.deleted) refl refl

  pub marker_deletions : deletions_of (marker_item m stop) ≡ m.deletions
  marker_deletions = ap deletions_of marker_is ∙ deletions_are m.deletions _ _ first_same second_same

  pub marker_column : (marker_item m stop).column ≡ m.kind
  marker_column = ap (λ (i : Item). i.column) marker_is

-- ---- ends
pub end_sound : (b : Bases) (opened : Deletion) (at : ℕ) → opened.deleted ≡ 0 → at < 2 ^ 64 → Sound b (bad_end opened) (end_item at)
unfolding end_item bad_end has_column has_expiry has_time has_mark has_local has_second pick
end_sound b opened at e l = record {
  sized = record {
    kind = omega arith;
    flags = omega arith;
    column = omega arith;
    ttl = omega arith;
    timestamp = omega arith;
    mark = omega arith;
    local = omega arith;
    expiry = omega arith;
    mark2 = omega arith;
    local2 = omega arith;
    offset = l;
    length = omega arith;
  };
  numbers = unused _ (record {
    column = λ e. refl;
    ttl = λ e. refl;
    timestamp = λ e. refl;
    mark = λ e. refl;
    local = λ e. refl;
    expiry = λ e. refl;
    mark2 = λ e. refl;
    local2 = λ e. refl;
  });
  right = rw (like 7, like 0) (like_is _ _ e);
  ranged = record {
    ttl = λ e. never (sym e);
    timestamp = λ e. never (sym e);
    mark = λ e. never (sym e);
    local = λ e. never (sym e);
    expiry = λ e. never (sym e);
    mark2 = λ e. never (sym e);
    local2 = λ e. never (sym e);
  };
}

-- ---- partitions
module _ (d : List ℕ) (short : length d < 2 ^ 64) (p : Partition) (lies : p.key.start + p.key.len ≤ length d) (few : p.key.len < 2 ^ 16) (empty : p.key.len ≡ 0 → p.key.start ≡ 0) (g : DeletedIn p.deletion) where
  partition_times : TimesIn baseless (times 0 0 0 0 0)
  partition_times = record {
    timed = omega arith;
    expires = omega arith;
    timestamp = λ z. absurd (omega arith);
    local = λ z. absurd (omega arith);
    ttl = λ z. absurd (omega arith);
    untimed = λ _. refl;
    lasting = λ _. (refl, refl);
  }

  partition_deleted : DeletionIn baseless p.deletion
  partition_deleted = record {
    deleted = g.deleted;
    mark = λ z. record { above = omega arith; least = g.least z; most = omega (arith, g.most) };
    local = λ z. record { above = omega arith; least = omega arith; most = g.local };
    none = g.none;
  }

  abbrev key_head : ℕ → Item
  key_head f = head_with 1 f (times 0 0 0 0 0) p.deletion p.key.start p.key.len

  partition_is : partition_item p ≡ key_head (partition_flags p.deletion.deleted p.key.len)
  unfolding partition_item bind time_of pick
  partition_is = refl

  -- the flags f of a partition's record
  record Keyed (f : ℕ) : Type 0 where
    flags : Flags f (times 0 0 0 0 0) p.deletion
    good : bad_partition_flags f ≡ false
    none : ltb 7 f ≡ true → p.key.len ≡ 0
    some : ltb 7 f ≡ false → 1 ≤ p.key.len

  flags_live : p.deletion.deleted ≡ 0 → partition_flags p.deletion.deleted p.key.len ≡ pick (eqb p.key.len 0) 8 0
  unfolding partition_flags
  flags_live e = sym (pick_yes _ _ _ _ (eq-eqb p.deletion.deleted 0 e) refl)

  flags_deleted : p.deletion.deleted ≡ 1 → partition_flags p.deletion.deleted p.key.len ≡ pick (eqb p.key.len 0) 12 4
  unfolding partition_flags
  flags_deleted e = sym (pick_no _ _ _ _ (ne_eqb p.deletion.deleted 0 (λ f. omega arith)) refl)

  keyed_live : p.deletion.deleted ≡ 0 → Keyed (pick (eqb p.key.len 0) 8 0)
  unfolding bad_partition_flags pick
  keyed_live e = go (eqb p.key.len 0) refl
    where
      go : (t : Bool) → eqb p.key.len 0 ≡ t → Keyed (pick t 8 0)
      go true f = record {
        flags = record { few = omega arith; timed = refl; expires = refl; deleted = sym e };
        good = refl;
        none = λ _. eqb-true p.key.len 0 f;
        some = λ z. never z;
      }
      go false f = record {
        flags = record { few = omega arith; timed = refl; expires = refl; deleted = sym e };
        good = refl;
        none = λ z. never (sym z);
        some = λ _. omega (arith, eqb-false p.key.len 0 f);
      }

  keyed_deleted : p.deletion.deleted ≡ 1 → Keyed (pick (eqb p.key.len 0) 12 4)
  unfolding bad_partition_flags pick
  keyed_deleted e = go (eqb p.key.len 0) refl
    where
      go : (t : Bool) → eqb p.key.len 0 ≡ t → Keyed (pick t 12 4)
      go true f = record {
        flags = record { few = omega arith; timed = refl; expires = refl; deleted = sym e };
        good = refl;
        none = λ _. eqb-true p.key.len 0 f;
        some = λ z. never z;
      }
      go false f = record {
        flags = record { few = omega arith; timed = refl; expires = refl; deleted = sym e };
        good = refl;
        none = λ z. never (sym z);
        some = λ _. omega (arith, eqb-false p.key.len 0 f);
      }

  keyed : Keyed (partition_flags p.deletion.deleted p.key.len)
  keyed =
      yes_or_no (eqb p.deletion.deleted 0)
      (λ e. let u = eqb-true p.deletion.deleted 0 e in subst Keyed (sym (flags_live u)) (keyed_live u))
      (λ e.
      let u : p.deletion.deleted ≡ 1 = omega (arith, g.deleted, eqb-false p.deletion.deleted 0 e) in
      subst Keyed (sym (flags_deleted u)) (keyed_deleted u))

  partition_right : (f : ℕ) → Keyed f → bad_partition d (key_head f) ≡ false
  unfolding bad_partition bad_key
  partition_right f k =
      not_either _ _ (like 1) (not_either _ _ k.good
      (pick_ind (λ t. t ≡ false) _ _ (ltb 7 f)
      (λ e. nowhere_good d short (key_head f) (empty (k.none e)) (k.none e))
      (λ e. not_either _ _ (place_good d short (key_head f) (k.some e) lies) (le-ltb 65535 p.key.len (omega arith)))))

  pub partition_sound : Sound baseless (bad_partition d) (partition_item p)
  partition_sound =
      let k = keyed in
      subst (Sound baseless (bad_partition d)) (sym partition_is) (record {
        sized = head_sized baseless 1 _ _ _ _ _ k.flags partition_times partition_deleted (omega arith) (omega arith) (omega arith);
        numbers = unused _ (head_unused baseless 1 _ _ _ _ _ k.flags partition_times partition_deleted refl);
        right = partition_right _ k;
        ranged = head_ranged baseless 1 _ _ _ _ _ k.flags partition_times partition_deleted refl refl;
      })

  pub partition_deletion : deletion_of (partition_item p) ≡ p.deletion
  partition_deletion = ap deletion_of partition_is ∙ head_deletion baseless 1 _ _ _ _ _ keyed.flags partition_times partition_deleted

  pub partition_key : value_of (partition_item p) ≡ p.key
  partition_key = ap value_of partition_is
