-- A cell in the writer's form is read back. Assumes nothing.
use mathlib.Core.Path.{◌≡◌, refl, sym, ap, ◌∙◌, subst}
use mathlib.Core.Bool.{true, false}
use mathlib.Core.List.{List, [], ◌∷◌, ◌++◌, append-nil}
use Prim.Native.Nat.{ℕ, zero, suc, ◌+◌, ◌-◌, ◌*◌, ◌/◌, ◌%◌, ◌≤◌}
use native.Mathlib.Omega.{arith}
use borrow.Author.Tests.{le-ltb, ne_eqb, eqb-true, eqb-false, ltb-false}
use lib.Dec.{ltb, eqb}
use lib.ListN.{length}
use Rattle.common.specs.Choose.{pick}
use Rattle.number_varint.specs.Varints.{shortest}
use Rattle.common.specs.declared.times.Bases.{Bases}
use Rattle.common.proofs.Choose.{pick_ind}
use Rattle.common.proofs.RoundTrip.{Reads, reads_got, reads_on, reads_at, reads_yes, reads_no, reads_to}
use Rattle.common.proofs.Stands.{Stands, stands_left, stands_right}
use Rattle.data_field.specs.Fields.{span}
use Rattle.data_cell.specs.Cells.{cell, bad_flags, flags_at, last_at, expiring_at, content_at, timed_at, cell_at}
use Rattle.data_cell.specs.declared.cells.Times.{Times}
use Rattle.data_cell.specs.declared.cells.Cell.{Cell}
use Rattle.data_field.proofs.Ranges.{TimestampIn, LocalIn, TTLIn}
use Rattle.write_form.specs.Views.{CellView, show_cell}
use Rattle.write_form.specs.Cells.{same_time, same_expiry, no_value, kind_bits, cell_flags, timestamp_bytes, ttl_bytes, expiry_bytes, field_bytes, value_bytes, last_bytes, tail_bytes, cell_bytes, cell_form}
use Rattle.write_form.specs.Fits.{ValueFits, CellFits}
use Rattle.write_form.proofs.Fields.{either, stands_none, shown_none, byte_back, timestamp_back, local_back, ttl_back, field_back, no_bytes}

-- ---- flags
record Facts (row : Times) (k v t e : ℕ) : Type 0 where
  kind : k ≤ 2
  value : v ≤ 1
  tomb : k % 2 ≤ v
  timed : t ≤ 1
  row_timed : t ≤ row.timed
  expires : e ≤ 1
  row_expires : e ≤ row.expires
  expiring : e ≤ k / 2

module _ (row : Times) (c : Cell) (n : ℕ) where
  kind_le : kind_bits c ≤ 2
  unfolding kind_bits
  kind_le = pick_ind (λ x. x ≤ 2) _ _ (eqb c.kind 0) (λ e. omega arith) λ e. pick_ind (λ x. x ≤ 2) _ _ (eqb c.kind 1) (λ e. omega arith) (λ e. omega arith)

  kind_even : c.kind ≤ 1 → kind_bits c % 2 ≡ 0
  unfolding kind_bits
  kind_even h =
      pick_ind (λ x. x % 2 ≡ 0) _ _ (eqb c.kind 0) (λ e. omega arith) λ e.
      pick_ind (λ x. x % 2 ≡ 0) _ _ (eqb c.kind 1) (λ f. omega arith) (λ f. absurd (eqb-false c.kind 0 e (let z = ne (eqb-false c.kind 1 f) in omega arith)))
    where
      ne : (c.kind ≡ 1 → ⊥) → ¬ (c.kind ≡ 1)
      ne f = f

  kind_two : c.kind ≡ 1 → kind_bits c ≡ 2
  unfolding kind_bits pick
  kind_two h = rw h

  value_le : (no_value c n ≤ 1) × (kind_bits c % 2 ≤ no_value c n)
  unfolding no_value
  value_le =
      pick_ind (λ x. (x ≤ 1) × (kind_bits c % 2 ≤ x)) _ _ (ltb 1 c.kind) (λ e. (omega arith, omega (arith, kind_le))) λ e.
      let z : kind_bits c % 2 ≡ 0 = kind_even (ltb-false 1 c.kind e) in
      pick_ind (λ x. (x ≤ 1) × (kind_bits c % 2 ≤ x)) _ _ (eqb n 0) (λ f. (omega arith, omega arith)) (λ f. (omega arith, omega arith))

  time_le : (same_time row c ≤ 1) × (same_time row c ≤ row.timed)
  unfolding same_time
  time_le =
      pick_ind (λ x. (x ≤ 1) × (x ≤ row.timed)) _ _ (eqb row.timed 1) (λ e. let z = eqb-true row.timed 1 e in
      pick_ind (λ x. (x ≤ 1) × (x ≤ row.timed)) _ _ (eqb row.timestamp c.timestamp) (λ f. (omega arith, omega arith)) (λ f. (omega arith, omega arith)))
      (λ e. (omega arith, omega arith))

  abbrev E : ℕ → Type 0
  E x = (x ≤ 1) × (x ≤ row.expires) × (x ≤ kind_bits c / 2)

  expiry_le : E (same_expiry row c)
  unfolding same_expiry
  expiry_le =
      pick_ind E _ _ (eqb c.kind 1) (λ d. let k = kind_two (eqb-true c.kind 1 d) in
      pick_ind E _ _ (eqb row.expires 1) (λ e. let z = eqb-true row.expires 1 e in
      pick_ind E _ _ (eqb row.local c.local) (λ f.
      pick_ind E _ _ (eqb row.ttl c.ttl) (λ g. (omega arith, omega arith, omega arith)) (λ g. (omega arith, omega arith, omega arith)))
      (λ f. (omega arith, omega arith, omega arith)))
      (λ e. (omega arith, omega arith, omega arith)))
      (λ d. (omega arith, omega arith, omega arith))

  facts : Facts row (kind_bits c) (no_value c n) (same_time row c) (same_expiry row c)
  facts = record {
    kind = kind_le;
    value = value_le.0;
    tomb = value_le.1;
    timed = time_le.0;
    row_timed = time_le.1;
    expires = expiry_le.0;
    row_expires = expiry_le.1;
    expiring = expiry_le.2;
  }

record Bits (f k v t e : ℕ) : Type 0 where
  tomb : f % 2 ≡ k % 2
  expiring : f / 2 % 2 ≡ k / 2
  empty : f / 4 % 2 ≡ v
  timed : f / 8 % 2 ≡ t
  expires : f / 16 % 2 ≡ e

module _ (row : Times) (k v t e : ℕ) (h : Facts row k v t e) where
  abbrev f : ℕ
  f = k + 4 * v + 8 * t + 16 * e

  bits : Bits f k v t e
  bits =
      let two : f / 2 ≡ k / 2 + 2 * (v + 2 * t + 4 * e) = omega (arith, h.kind, h.value, h.timed, h.expires) in
      let four : f / 4 ≡ v + 2 * (t + 2 * e) = omega (arith, h.kind, h.value, h.timed, h.expires) in
      let eight : f / 8 ≡ t + 2 * e = omega (arith, h.kind, h.value, h.timed, h.expires) in
      let sixteen : f / 16 ≡ e = omega (arith, h.kind, h.value, h.timed, h.expires) in
      record {
        tomb = omega arith;
        expiring = rw two (omega (arith, h.kind));
        empty = rw four (omega (arith, h.value));
        timed = rw eight (omega (arith, h.timed));
        expires = rw sixteen (omega (arith, h.expires));
      }

  odd : k + 4 * v ≡ 1 → ⊥
  odd z = let l : k ≡ 1 = omega (arith, h.kind) in let m : v ≡ 0 = omega arith in omega (arith, rw l at h.tomb)

  legal : bad_flags row.timed row.expires f ≡ false
  unfolding bad_flags pick
  legal =
      let i = bits in
      let r : f % 8 ≡ k + 4 * v = omega (arith, h.kind, h.value) in
      rw (le-ltb 31 f (omega (arith, h.kind, h.value, h.timed, h.expires)), ne_eqb (f % 4) 3 (λ z. omega (arith, h.kind)), ne_eqb (f % 8) 1 (λ z. odd (rw r at z)), le-ltb row.timed (f / 8 % 2) (rw i.timed h.row_timed), le-ltb row.expires (f / 16 % 2) (rw i.expires h.row_expires))
      (le-ltb (f / 2 % 2) (f / 16 % 2) (rw (i.expires, i.expiring) h.expiring))

flags_legal : (row : Times) (c : Cell) (n : ℕ) → bad_flags row.timed row.expires (cell_flags row c n) ≡ false
unfolding cell_flags
flags_legal row c n = legal row _ _ _ _ (facts row c n)

flags_bits : (row : Times) (c : Cell) (n : ℕ) → Bits (cell_flags row c n) (kind_bits c) (no_value c n) (same_time row c) (same_expiry row c)
unfolding cell_flags
flags_bits row c n = bits row _ _ _ _ (facts row c n)

no_value_yes : (c : Cell) (n : ℕ) → c.kind ≤ 1 → eqb n 0 ≡ true → eqb (no_value c n) 1 ≡ true
unfolding no_value pick
no_value_yes c n h e = rw (le-ltb 1 c.kind h, e)

no_value_no : (c : Cell) (n : ℕ) → c.kind ≤ 1 → eqb n 0 ≡ false → eqb (no_value c n) 1 ≡ false
unfolding no_value pick
no_value_no c n h e = rw (le-ltb 1 c.kind h, e)

-- ---- the row's own times
same_time_lem : (row : Times) (c : Cell) → eqb (same_time row c) 1 ≡ true → row.timestamp ≡ c.timestamp
unfolding same_time
same_time_lem row c =
    pick_ind P _ _ (eqb row.timed 1) (λ e. pick_ind P _ _ (eqb row.timestamp c.timestamp) (λ f g. eqb-true _ _ f) (λ f g. cc)) (λ e g. cc)
  where
    P : ℕ → Type 0
    P x = eqb x 1 ≡ true → row.timestamp ≡ c.timestamp

same_expiry_lem : (row : Times) (c : Cell) → eqb (same_expiry row c) 1 ≡ true → (row.local ≡ c.local) × (row.ttl ≡ c.ttl)
unfolding same_expiry
same_expiry_lem row c =
    pick_ind P _ _ (eqb c.kind 1) (λ d. pick_ind P _ _ (eqb row.expires 1) (λ e.
    pick_ind P _ _ (eqb row.local c.local) (λ f. pick_ind P _ _ (eqb row.ttl c.ttl) (λ g z. (eqb-true _ _ f, eqb-true _ _ g)) (λ g z. (cc, cc))) (λ f z. (cc, cc)))
    (λ e z. (cc, cc))) (λ d z. (cc, cc))
  where
    P : ℕ → Type 0
    P x = eqb x 1 ≡ true → (row.local ≡ c.local) × (row.ttl ≡ c.ttl)

-- ---- the bytes of each part, by its case
value_some : (w : ℕ) (c : Cell) (v : List ℕ) → eqb (no_value c (length v)) 1 ≡ false → value_bytes w c v ≡ field_bytes w v
unfolding value_bytes pick
value_some w c v e = rw e

value_none : (w : ℕ) (c : Cell) (v : List ℕ) → eqb (no_value c (length v)) 1 ≡ true → value_bytes w c v ≡ []
unfolding value_bytes pick
value_none w c v e = rw e

time_yes : (b : Bases) (row : Times) (c : Cell) → eqb (same_time row c) 1 ≡ true → timestamp_bytes b row c ≡ []
unfolding timestamp_bytes pick
time_yes b row c e = rw e

time_no : (b : Bases) (row : Times) (c : Cell) → eqb (same_time row c) 1 ≡ false → timestamp_bytes b row c ≡ shortest (c.timestamp - b.timestamp)
unfolding timestamp_bytes pick
time_no b row c e = rw e

module _ (b : Bases) (row : Times) (w t x y : ℕ) where
  plain_last : (v : List ℕ) → last_bytes b row w (cell 0 t x y (span 0 0)) v ≡ value_bytes w (cell 0 t x y (span 0 0)) v
  unfolding last_bytes expiry_bytes pick
  plain_last v = refl

  tomb_last : last_bytes b row w (cell 2 t x y (span 0 0)) [] ≡ shortest (x - b.local)
  unfolding last_bytes expiry_bytes same_expiry ttl_bytes value_bytes no_value pick
  tomb_last = rw (append-nil (shortest (x - b.local) ++ []), append-nil (shortest (x - b.local)))

  expiring_own : eqb (same_expiry row (cell 1 t x y (span 0 0))) 1 ≡ false → expiry_bytes b row (cell 1 t x y (span 0 0)) ≡ shortest (x - b.local) ++ shortest (y - b.ttl)
  unfolding expiry_bytes ttl_bytes pick
  expiring_own e = rw e

  expiring_row : eqb (same_expiry row (cell 1 t x y (span 0 0))) 1 ≡ true → expiry_bytes b row (cell 1 t x y (span 0 0)) ≡ []
  unfolding expiry_bytes pick
  expiring_row e = rw e

  plain_bits : kind_bits (cell 0 t x y (span 0 0)) ≡ 0
  unfolding kind_bits pick
  plain_bits = refl

  expiring_bits : kind_bits (cell 1 t x y (span 0 0)) ≡ 2
  unfolding kind_bits pick
  expiring_bits = refl

  tomb_bits : kind_bits (cell 2 t x y (span 0 0)) ≡ 1
  unfolding kind_bits pick
  tomb_bits = refl

abbrev view : ℕ → ℕ → ℕ → ℕ → List ℕ → CellView
view kind t x y v = record { kind = kind; timestamp = t; local = x; ttl = y; value = v }

-- ---- the value of a cell that is no tombstone; f are its flags
module _ (s : List ℕ) (end w f at n kind t x y : ℕ) (v : List ℕ) (e : f / 4 % 2 ≡ no_value (cell kind t x y (span 0 0)) (length v)) (h : Stands s end at n (value_bytes w (cell kind t x y (span 0 0)) v)) where
  last_back : kind ≤ 1 → ValueFits w v → Reads (last_at w f kind t x y s at end) n (λ c. show_cell s c ≡ view kind t x y v)
  unfolding last_at
  last_back k i = either (eqb (length v) 0)
      (λ z. let u : eqb (no_value c (length v)) 1 ≡ true = no_value_yes c (length v) k z in
      reads_yes _ _ (rw e u) (reads_to (stands_none s end at n (rw (value_none w c v u) at h)) (reads_got _ at (ap (view kind t x y) (shown_none s ∙ no_bytes v z)))))
      (λ z. let u : eqb (no_value c (length v)) 1 ≡ false = no_value_no c (length v) k z in
      reads_no _ _ (rw e u) (reads_on _ (field_back s end w at n v z i (rw (value_some w c v u) at h)) (λ p q. reads_got _ n (ap (view kind t x y) q))))
    where
      c : Cell
      c = cell kind t x y (span 0 0)

-- ---- what follows the timestamp of each kind of cell
module _ (s : List ℕ) (end : ℕ) (b : Bases) (row : Times) (w f t x y at n : ℕ) (v : List ℕ) where
  abbrev Shown : ℕ → Type 0
  Shown kind = Reads (content_at b row w f t s at end) n (λ c. show_cell s c ≡ view kind t x y v)

  abbrev Bitted : ℕ → Type 0
  Bitted kind = Bits f (kind_bits (cell kind t x y (span 0 0))) (no_value (cell kind t x y (span 0 0)) (length v)) (same_time row (cell kind t x y (span 0 0))) (same_expiry row (cell kind t x y (span 0 0)))

  abbrev Stood : ℕ → Type 0
  Stood kind = Stands s end at n (last_bytes b row w (cell kind t x y (span 0 0)) v)

  plain_back : x ≡ 0 → y ≡ 0 → ValueFits w v → Bitted 0 → Stood 0 → Shown 0
  unfolding content_at
  plain_back p q i k h =
      reads_no _ _ (rw (k.tomb, plain_bits b row w t x y)) (reads_no _ _ (rw (k.expiring, plain_bits b row w t x y))
      (subst (λ z. Reads (last_at w f 0 t z 0 s at end) n (λ c. show_cell s c ≡ view 0 t x y v)) p
      (subst (λ z. Reads (last_at w f 0 t x z s at end) n (λ c. show_cell s c ≡ view 0 t x y v)) q
      (last_back s end w f at n 0 t x y v k.empty (rw (plain_last b row w t x y v) at h) (omega arith) i))))

  tomb_back : y ≡ 0 → v ≡ [] → LocalIn b x → Bitted 2 → Stood 2 → Shown 2
  unfolding content_at
  tomb_back p q i k h =
      let here : Stands s end at n (last_bytes b row w (cell 2 t x y (span 0 0)) []) = subst (λ z. Stands s end at n (last_bytes b row w (cell 2 t x y (span 0 0)) z)) q h in
      reads_yes _ _ (rw (k.tomb, tomb_bits b row w t x y))
      (reads_at _ (local_back s end b at n x i (rw (tomb_last b row w t x y) at here)) (reads_got _ n (λ j. view 2 t x (sym p j) ((shown_none s ∙ sym q) j))))

  module _ (i : ValueFits w v) (p : LocalIn b x) (q : TTLIn b y) (k : Bitted 1) (last : Stood 1) where
    abbrev c : Cell
    c = cell 1 t x y (span 0 0)

    h : Stands s end at n (expiry_bytes b row c ++ value_bytes w c v)
    unfolding last_bytes
    h = last

    own_back : eqb (same_expiry row c) 1 ≡ false → Reads (expiring_at b row w f t s at end) n (λ z. show_cell s z ≡ view 1 t x y v)
    unfolding expiring_at
    own_back e =
        let here : Stands s end at n ((shortest (x - b.local) ++ shortest (y - b.ttl)) ++ value_bytes w c v) = rw (expiring_own b row w t x y e) at h in
        let both = stands_left s end at n (shortest (x - b.local) ++ shortest (y - b.ttl)) (value_bytes w c v) here in
        let rest = stands_right s end at n (shortest (x - b.local) ++ shortest (y - b.ttl)) (value_bytes w c v) here in
        reads_no _ _ (rw (k.expires, e))
        (reads_at _ (local_back s end b at _ x p (stands_left s end at _ (shortest (x - b.local)) (shortest (y - b.ttl)) both))
        (reads_at _ (ttl_back s end b _ _ y q (stands_right s end at _ (shortest (x - b.local)) (shortest (y - b.ttl)) both))
        (last_back s end w f _ n 1 t x y v k.empty rest (omega arith) i)))

    row_back : eqb (same_expiry row c) 1 ≡ true → Reads (expiring_at b row w f t s at end) n (λ z. show_cell s z ≡ view 1 t x y v)
    unfolding expiring_at
    row_back e =
        let g = same_expiry_lem row c e in
        reads_yes _ _ (rw (k.expires, e))
        (subst (λ z. Reads (last_at w f 1 t z row.ttl s at end) n (λ c. show_cell s c ≡ view 1 t x y v)) (sym g.0)
        (subst (λ z. Reads (last_at w f 1 t x z s at end) n (λ c. show_cell s c ≡ view 1 t x y v)) (sym g.1)
        (last_back s end w f at n 1 t x y v k.empty (rw (expiring_row b row w t x y e) at h) (omega arith) i)))

    expiring_back : Shown 1
    unfolding content_at
    expiring_back =
        reads_no _ _ (rw (k.tomb, expiring_bits b row w t x y)) (reads_yes _ _ (rw (k.expiring, expiring_bits b row w t x y))
        (either (eqb (same_expiry row c) 1) row_back own_back))

-- ---- the timestamp, and then the rest
timed_back : (s : List ℕ) (end : ℕ) (b : Bases) (row : Times) (w f at m n : ℕ) (c : Cell) {P : Cell → Type 0} → f / 8 % 2 ≡ same_time row c → TimestampIn b c.timestamp
    → Stands s end at m (timestamp_bytes b row c) → Reads (content_at b row w f c.timestamp s m end) n P → Reads (timed_at b row w f s at end) n P
unfolding timed_at
timed_back s end b row w f at m n c {P} k i h g = either (eqb (same_time row c) 1)
    (λ e. reads_yes _ _ (rw (k, e)) (subst (λ t. Reads (content_at b row w f t s at end) n P) (sym (same_time_lem row c e)) (rw (stands_none s end at m (rw (time_yes b row c e) at h)) g)))
    (λ e. reads_no _ _ (rw (k, e)) (reads_at _ (timestamp_back s end b at m c.timestamp i (rw (time_no b row c e) at h)) g))

flags_back : (s : List ℕ) (end at n : ℕ) (row : Times) (c : Cell) (k : ℕ) → Stands s end at n (cell_flags row c k ∷ []) → Reads (flags_at row s at end) n (λ f. f ≡ cell_flags row c k)
unfolding flags_at
flags_back s end at n row c k h = reads_at _ (byte_back s end at n (cell_flags row c k) h) (reads_no _ _ (flags_legal row c k) (reads_got _ n refl))

-- flags, timestamp, and what follows
whole_back : (s : List ℕ) (end : ℕ) (b : Bases) (row : Times) (w at n : ℕ) (c : Cell) (v : List ℕ) {P : Cell → Type 0} → TimestampIn b c.timestamp → Stands s end at n (cell_bytes b row w c v)
    → ((f m : ℕ) → Bits f (kind_bits c) (no_value c (length v)) (same_time row c) (same_expiry row c) → Stands s end m n (last_bytes b row w c v) → Reads (content_at b row w f c.timestamp s m end) n P)
    → Reads (cell_at b row w s at end) n P
unfolding cell_at cell_bytes tail_bytes
whole_back s end b row w at n c v i h g =
    let tail = stands_right s end at n (cell_flags row c (length v) ∷ []) (timestamp_bytes b row c ++ last_bytes b row w c v) h in
    let k = flags_bits row c (length v) in
    reads_at _ (flags_back s end at _ row c (length v) (stands_left s end at n (cell_flags row c (length v) ∷ []) (timestamp_bytes b row c ++ last_bytes b row w c v) h))
    (timed_back s end b row w (cell_flags row c (length v)) _ _ n c k.timed i (stands_left s end _ n (timestamp_bytes b row c) (last_bytes b row w c v) tail)
    (g (cell_flags row c (length v)) _ k (stands_right s end _ n (timestamp_bytes b row c) (last_bytes b row w c v) tail)))

-- a cell in the writer's form is read, and shows what was written
pub cell_back : (s : List ℕ) (end : ℕ) (b : Bases) (row : Times) (w at n : ℕ) (a : CellView) → CellFits b w a → Stands s end at n (cell_form b row w a) → Reads (cell_at b row w s at end) n (λ c. show_cell s c ≡ a)
cell_back s end b row w at n a i h = go a.kind a.timestamp a.local a.ttl a.value i h
  where
    go : (kind t x y : ℕ) (v : List ℕ) → CellFits b w (view kind t x y v) → Stands s end at n (cell_bytes b row w (cell kind t x y (span 0 0)) v) → Reads (cell_at b row w s at end) n (λ c. show_cell s c ≡ view kind t x y v)
    go zero t x y v i h = whole_back s end b row w at n (cell 0 t x y (span 0 0)) v i.timestamp h (λ f m g l. plain_back s end b row w f t x y m n v (i.plain refl).0 (i.plain refl).1 i.value g l)
    go (suc zero) t x y v i h = whole_back s end b row w at n (cell 1 t x y (span 0 0)) v i.timestamp h (λ f m g l. expiring_back s end b row w f t x y m n v i.value (i.local (omega arith)) (i.ttl refl) g l)
    go (suc (suc zero)) t x y v i h = whole_back s end b row w at n (cell 2 t x y (span 0 0)) v i.timestamp h (λ f m g l. tomb_back s end b row w f t x y m n v (i.tombstone refl).0 (i.tombstone refl).1 (i.local (omega arith)) g l)
    go (suc (suc (suc k))) t x y v i h = absurd (omega (arith, i.kind))
