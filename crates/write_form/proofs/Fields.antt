-- Numbers and values in the writer's form are read back. Assumes nothing.
use mathlib.Core.Path.{◌≡◌, refl, sym, ap}
use mathlib.Core.Bool.{Bool, true, false}
use mathlib.Core.List.{List, [], ◌∷◌, ◌++◌}
use Prim.Native.Nat.{ℕ, zero, suc, ◌+◌, ◌-◌, ◌^◌, ◌≤◌, ◌<◌}
use native.Mathlib.Omega.{arith}
use borrow.Author.Tests.{le-ltb, lt-leb, eqb-true}
use lib.Dec.{eqb}
use lib.ListN.{length, get_or}
use Rattle.common.specs.Choose.{pick}
use Rattle.common.specs.Store.{part, shown}
use Rattle.number_varint.specs.Varints.{shortest}
use Rattle.common.specs.declared.times.Bases.{Bases}
use Rattle.common.proofs.RoundTrip.{Reads, reads_got, reads_at, reads_yes, reads_no, reads_to}
use Rattle.common.proofs.Stands.{Stands, stands_left, stands_right, stands_byte, stands_part}
use Rattle.number_varint.proofs.Varints.{varint_back}
use Rattle.data_field.specs.Fields.{span, deletion, byte_at, in_at, deletion_at, variable_at, value_at}
use Rattle.data_field.specs.declared.fields.Deletion.{Deletion}
use Rattle.data_field.proofs.Ranges.{In, TimestampIn, LocalIn, TTLIn, DeletionIn}
use Rattle.write_form.specs.Views.{show_value}
use Rattle.write_form.specs.Cells.{length_bytes, field_bytes}
use Rattle.write_form.specs.Rows.{deletion_bytes}
use Rattle.write_form.specs.Fits.{ValueFits}

pub either : {A : Type 0} (t : Bool) → (t ≡ true → A) → (t ≡ false → A) → A
either true f g = f refl
either false f g = g refl

pub stands_none : (s : List ℕ) (end at n : ℕ) → Stands s end at n [] → at ≡ n
stands_none s end at n h = omega (arith, h.stop)

-- the bytes that stand somewhere are shown there
pub stands_shown : (s : List ℕ) (end at n : ℕ) (w : List ℕ) → Stands s end at n w → shown s at (length w) ≡ w
unfolding shown pick
stands_shown s end at n w h =
    rw (le-ltb (length s) at (omega (arith, h.stop, h.within, h.inside)), le-ltb (length s - at) (length w) (omega (arith, h.stop, h.within, h.inside)))
    (stands_part s end at n w h)

pub shown_none : (s : List ℕ) → shown s 0 0 ≡ []
unfolding shown part pick
shown_none s = rw (le-ltb (length s) 0 (omega arith), le-ltb (length s - 0) 0 (omega arith)) refl

length_yes : (w n : ℕ) → eqb w 255 ≡ true → length_bytes w n ≡ shortest n
unfolding length_bytes pick
length_yes w n e = rw e

length_no : (w n : ℕ) → eqb w 255 ≡ false → length_bytes w n ≡ []
unfolding length_bytes pick
length_no w n e = rw e

module _ (s : List ℕ) (end : ℕ) where
  pub byte_back : (at n x : ℕ) → Stands s end at n (x ∷ []) → Reads (byte_at s at end) n (λ y. y ≡ x)
  unfolding byte_at
  byte_back at n x h =
      reads_no _ _ (le-ltb (length s) end h.inside) (reads_no _ _ (lt-leb end at (omega (arith, h.stop, h.within)))
      (reads_to (sym h.stop) (reads_got (get_or s at 0) (at + 1) (stands_byte s end at n x h))))

  pub in_back : (lo hi base at n t : ℕ) → hi < 2 ^ 64 → In lo hi base t → Stands s end at n (shortest (t - base)) → Reads (in_at lo hi base s at end) n (λ y. y ≡ t)
  unfolding in_at
  in_back lo hi base at n t l i h =
      let u = i.above in
      let v = i.least in
      let w = i.most in
      reads_at _ (varint_back s end at n (t - base) (omega arith) h)
      (reads_no _ _ (le-ltb hi (base + (t - base)) (omega arith))
      (reads_no _ _ (le-ltb (base + (t - base)) lo (omega arith))
      (reads_got (base + (t - base)) n (omega arith))))

  module _ (b : Bases) (at n t : ℕ) where
    pub timestamp_back : TimestampIn b t → Stands s end at n (shortest (t - b.timestamp)) → Reads (in_at 1 18446744073709551615 b.timestamp s at end) n (λ y. y ≡ t)
    timestamp_back i h = in_back 1 18446744073709551615 b.timestamp at n t (omega arith) i h

    pub local_back : LocalIn b t → Stands s end at n (shortest (t - b.local)) → Reads (in_at 0 2147483646 b.local s at end) n (λ y. y ≡ t)
    local_back i h = in_back 0 2147483646 b.local at n t (omega arith) i h

    pub ttl_back : TTLIn b t → Stands s end at n (shortest (t - b.ttl)) → Reads (in_at 1 2147483647 b.ttl s at end) n (λ y. y ≡ t)
    ttl_back i h = in_back 1 2147483647 b.ttl at n t (omega arith) i h

  -- a deletion that is there
  pub deletion_back : (b : Bases) (at n : ℕ) (d : Deletion) → d.deleted ≡ 1 → DeletionIn b d → Stands s end at n (deletion_bytes b d) → Reads (deletion_at b s at end) n (λ x. x ≡ d)
  unfolding deletion_at deletion_bytes
  deletion_back b at n d e i h =
      reads_at _ (timestamp_back b at _ d.mark (i.mark (omega arith)) (stands_left s end at n (shortest (d.mark - b.timestamp)) (shortest (d.local - b.local)) h))
      (reads_at _ (local_back b _ n d.local (i.local (omega arith)) (stands_right s end at n (shortest (d.mark - b.timestamp)) (shortest (d.local - b.local)) h))
      (reads_got _ n (ap (λ k. deletion k d.mark d.local) (sym e))))

  -- a value that is not empty
  module _ (w at n : ℕ) (v : List ℕ) (z : eqb (length v) 0 ≡ false) (i : ValueFits w v) where
    value_long : eqb w 255 ≡ true → Stands s end at n (shortest (length v) ++ v) → Reads (value_at w s at end) n (λ p. show_value s p ≡ v)
    unfolding value_at variable_at
    value_long e h =
        let m : ℕ = at + length (shortest (length v)) in
        let here : Stands s end m n v = stands_right s end at n (shortest (length v)) v h in
        reads_yes _ _ e
        (reads_at _ (varint_back s end at m (length v) i.short (stands_left s end at n (shortest (length v)) v h))
        (reads_no _ _ z
        (reads_no _ _ (le-ltb (end - m) (length v) (omega (arith, here.stop, here.within)))
        (reads_to (sym here.stop) (reads_got (span m (length v)) (m + length v) (stands_shown s end m n v here))))))

    value_fixed : eqb w 255 ≡ false → Stands s end at n v → Reads (value_at w s at end) n (λ p. show_value s p ≡ v)
    unfolding value_at
    value_fixed e h =
        let k : length v ≡ w = i.fills e (filled (length v) z) in
        reads_no _ _ e
        (reads_no _ _ (le-ltb end at (omega (arith, h.stop, h.within)))
        (reads_no _ _ (le-ltb (end - at) w (omega (arith, h.stop, h.within)))
        (reads_to (omega (arith, h.stop)) (reads_got (span at w) (at + w) (rw (← k) (stands_shown s end at n v h))))))
      where
        filled : (l : ℕ) → eqb l 0 ≡ false → 1 ≤ l
        filled zero e = let y : ◌≡◌ {A = ℕ} 0 1 = cc in absurd (omega arith)
        filled (suc l) e = omega arith

    pub field_back : Stands s end at n (field_bytes w v) → Reads (value_at w s at end) n (λ p. show_value s p ≡ v)
    unfolding field_bytes
    field_back h = either (eqb w 255) (λ e. value_long e (rw (length_yes w (length v) e) at h)) (λ e. value_fixed e (rw (length_no w (length v) e) at h))

pub no_bytes : (v : List ℕ) → eqb (length v) 0 ≡ true → [] ≡ v
no_bytes [] e = refl
no_bytes (x ∷ v) e = absurd (omega (arith, eqb-true (suc (length v)) 0 e))
