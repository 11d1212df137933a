-- A schema that is equal to an accepted one but for the places of names is accepted. Assumes nothing.
use mathlib.Core.Path.{◌≡◌, refl, sym, ap, subst, ◌∙◌}
use mathlib.Core.Bool.{Bool, true, false}
use mathlib.Core.List.{List}
use Prim.Native.Nat.{ℕ, zero, suc, ◌+◌, ◌*◌, ◌/◌, ◌%◌, ◌≤◌, ◌<◌}
use native.Mathlib.Nat.{add-zero}
use native.Mathlib.Omega.{arith}
use native.Mathlib.Decide.{dec_lt}
use borrow.Author.Tests.{lt-ltb, le-ltb, le-leb, eq-eqb}
use lib.ListN.{length, get_or}
use Rattle.common.specs.Got.{Got, got, bad, on}
use Rattle.number_fixed.specs.BigEndian.{big_endian}
use Rattle.common.proofs.Choose.{pick_yes, pick_no, pick_ind}
use Rattle.common.proofs.Gives.{gives_is}
use Rattle.number_fixed.proofs.BigEndian.{be_lt}
use Rattle.schema_check.specs.Records.{role_at, line_at, mark_at, width_at, name_at, name_len_at, zeros_at, is_kind_of, is_name_of, given, none, record_at, records_at, schema_at, anywhere}
use Rattle.schema_check.specs.declared.records.Counts.{Counts}
use Rattle.schema_exact.specs.Schemas.{of_place, Alike}
use Rattle.schema_exact.proofs.Checked.{one_gives, kind_of_lem, zeros_of, name_of, schema_gives}

-- ---- bytes that are none of a name's place
spare_key : (role i : ℕ) → role < 2 → of_place role i ≡ false
spare_key role i l = sym (pick_yes _ _ _ _ (lt-ltb role _ (omega arith)) refl)

spare_head : (role i : ℕ) → i < 4 → of_place role i ≡ false
spare_head role i l = pick_ind (λ (b : Bool). b ≡ false) _ _ _ (λ e. refl) (λ e. sym (pick_yes _ _ _ _ (lt-ltb i _ (omega arith)) refl))

spare_tail : (role i : ℕ) → 12 ≤ i → of_place role i ≡ false
spare_tail role i l = pick_ind (λ (b : Bool). b ≡ false) _ _ _ (λ e. refl) (λ e. sym (pick_no _ _ _ _ (le-ltb i _ (omega arith)) (sym (le-ltb i _ (omega arith)))))

number_same : (v w : List ℕ) (at n : ℕ) → ((i : ℕ) → i < n → get_or v (at + i) 0 ≡ get_or w (at + i) 0) → big_endian 0 v at n ≡ big_endian 0 w at n
unfolding big_endian
number_same v w at zero h = refl
number_same v w at (suc n) h = rw (number_same v w at n (λ i l. h i (omega arith)), h n (omega arith)) refl

-- ---- one record
module _ (v w : List ℕ) (small : (i : ℕ) → get_or v i 0 < 256) (a : Alike v w) (q : ℕ) (inside : 16 * q + 16 ≤ length v) (passes : given anywhere w (16 * q) ≡ true) where
  abbrev at : ℕ
  at = 16 * q

  byte : (i : ℕ) → i < 16 → of_place (role_at v at) i ≡ false → get_or v (at + i) 0 ≡ get_or w (at + i) 0
  byte i l f =
      let p : 16 * ((at + i) / 16) ≡ at = omega arith in
      let r : (at + i) % 16 ≡ i = omega arith in
      a.bytes (at + i) (omega arith) (ap (λ (x : ℕ). of_place (role_at v x) ((at + i) % 16)) p ∙ ap (of_place (role_at v at)) r ∙ f)

  role_same : role_at v at ≡ role_at w at
  unfolding role_at
  role_same = rw (add-zero at) at (byte 0 (omega arith) (spare_head (role_at v at) 0 (omega arith)))

  line_same : line_at v at ≡ line_at w at
  unfolding line_at
  line_same = byte 1 (omega arith) (spare_head (role_at v at) 1 (omega arith))

  mark_same : mark_at v at ≡ mark_at w at
  unfolding mark_at
  mark_same = byte 2 (omega arith) (spare_head (role_at v at) 2 (omega arith))

  width_same : width_at v at ≡ width_at w at
  unfolding width_at
  width_same = byte 3 (omega arith) (spare_head (role_at v at) 3 (omega arith))

  further : (j i : ℕ) → i < 4 → j + i < 16 → of_place (role_at v at) (j + i) ≡ false → get_or v (at + j + i) 0 ≡ get_or w (at + j + i) 0
  further j i l m f =
      let p : at + (j + i) ≡ at + j + i = omega arith in
      subst (λ (x : ℕ). get_or v x 0 ≡ get_or w x 0) p (byte (j + i) m f)

  zeros_same : zeros_at v at ≡ zeros_at w at
  unfolding zeros_at
  zeros_same = number_same v w (at + 12) 4 (λ i l. further 12 i l (omega arith) (spare_tail (role_at v at) (12 + i) (omega arith)))

  name_same : role_at v at < 2 → name_at v at ≡ name_at w at
  unfolding name_at
  name_same l = number_same v w (at + 4) 4 (λ i m. further 4 i m (omega arith) (spare_key (role_at v at) (4 + i) l))

  len_same : role_at v at < 2 → name_len_at v at ≡ name_len_at w at
  unfolding name_len_at
  len_same l = number_same v w (at + 8) 4 (λ i m. further 8 i m (omega arith) (spare_key (role_at v at) (8 + i) l))

  places_small : name_at v at + name_len_at v at ≤ anywhere
  unfolding name_at name_len_at
  places_small = omega (arith, be_lt 0 v (at + 4) 4 small, be_lt 0 v (at + 8) 4 small)

  named_passes : 2 ≤ role_at v at → is_name_of anywhere (role_at v at) (name_at v at) (name_len_at v at) ≡ true
  unfolding is_name_of
  named_passes l = sym (pick_no _ _ _ _ (le-ltb (role_at v at) 2 l) (sym (le-leb (name_at v at + name_len_at v at) anywhere places_small)))

  name_passes : Dec (role_at v at < 2) → is_name_of anywhere (role_at v at) (name_at v at) (name_len_at v at) ≡ true
  name_passes (yes l) =
      ap (λ (x : ℕ). is_name_of anywhere x (name_at v at) (name_len_at v at)) role_same
      ∙ ap (λ (x : ℕ). is_name_of anywhere (role_at w at) x (name_len_at v at)) (name_same l)
      ∙ ap (λ (x : ℕ). is_name_of anywhere (role_at w at) (name_at w at) x) (len_same l)
      ∙ name_of anywhere w (length w) at passes
  name_passes (no l) = named_passes (omega arith)

  kind_passes : is_kind_of (role_at v at) (line_at v at) (mark_at v at) (width_at v at) ≡ true
  kind_passes = rw (role_same, line_same, mark_same, width_same) (kind_of_lem anywhere w (length w) at passes)

  given_same : given anywhere v at ≡ given anywhere w at
  unfolding given
  given_same =
      sym (pick_yes _ _ _ _ kind_passes (pick_yes _ _ _ _ (name_passes (dec_lt (role_at v at) 2)) (sym (eq-eqb _ _ (zeros_same ∙ zeros_of anywhere w (length w) at passes))))) ∙ sym passes

-- ---- the records
on_same : {A B : Type 0} (x : Got A) (f g : A → ℕ → Got B) → ((a : A) (n : ℕ) → x ≡ got a n → f a n ≡ g a n) → on x f ≡ on x g
unfolding on
on_same (got a n) f g h = h a n refl
on_same (bad z p) f g h = refl

module _ (limit : ℕ) (v w : List ℕ) (stop : ℕ) where
  record Same (at : ℕ) : Type 0 where
    role : role_at v at ≡ role_at w at
    gives : given limit v at ≡ given limit w at

  record_same : (c : Counts) (at : ℕ) → Same at → record_at limit c v at stop ≡ record_at limit c w at stop
  unfolding record_at
  record_same c at h = rw (h.role, h.gives) refl

  records_same : (k : ℕ) (c : Counts) (at : ℕ) → ((q : ℕ) → q < k → Same (at + 16 * q)) → records_at limit k c v at stop ≡ records_at limit k c w at stop
  unfolding records_at
  records_same zero c at h = refl
  records_same (suc k) c at h =
      let here : Same at = subst Same (omega arith) (h 0 (omega arith)) in
      ap (λ (x : Got Counts). on x (λ d n. records_at limit k d v n stop)) (record_same c at here)
      ∙ on_same (record_at limit c w at stop) _ _ (λ d n e.
      let p = (gives_is (one_gives limit w stop c at) e).next in
      records_same k d n (λ q l. subst Same (omega arith) (h (suc q) (omega arith))))

pub accepted_alike : (v w : List ℕ) (c : Counts) (m : ℕ) → ((i : ℕ) → get_or v i 0 < 256) → Alike v w → schema_at anywhere w ≡ got c m → schema_at anywhere v ≡ got c m
unfolding schema_at
accepted_alike v w c m small a e =
    let h = gives_is {n = m} (schema_gives anywhere w) e in
    let l = a.lengths in
    let k = (length w + 15) / 16 in
    let s : records_at anywhere k none v 0 (length w) ≡ records_at anywhere k none w 0 (length w) =
    records_same anywhere v w (length w) k none 0 (λ q u.
    let i : 16 * q + 16 ≤ length v = omega (arith, h.size) in
    let p : 16 * q ≡ 0 + 16 * q = omega arith in
    let g : given anywhere w (16 * q) ≡ true = ap (given anywhere w) p ∙ h.checked.passes q (omega (arith, h.size)) in
    subst (Same anywhere v w (length w)) p (record { role = role_same v w small a q i g; gives = given_same v w small a q i g })) in
    rw (l, s) e
