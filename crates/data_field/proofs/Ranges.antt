-- What is read of a field goes on, not past its end, and is in range. Assumes nothing.
use mathlib.Core.Path.{◌≡◌, refl, sym, ◌∙◌}
use mathlib.Core.Bool.{true, false}
use mathlib.Core.List.{List}
use Prim.Native.Nat.{ℕ, ◌+◌, ◌-◌, ◌≤◌, ◌<◌}
use native.Mathlib.Omega.{arith}
use borrow.Author.Tests.{ltb-false, leb-false, eqb-false}
use lib.Dec.{ltb, leb, eqb}
use lib.ListN.{length, get_or}
use Rattle.number_fixed.specs.BigEndian.{fixed_at}
use Rattle.number_varint.specs.Varints.{varint_at, leading}
use Rattle.common.proofs.Gives.{Gives, gives_got, gives_bad, gives_on, gives_pick, gives_bind}
use Rattle.data_field.specs.Fields.{span, live, byte_at, in_at, deletion_at, variable_at, value_at}
use Rattle.common.specs.declared.times.Bases.{Bases}
use Rattle.data_field.specs.declared.fields.Deletion.{Deletion}
use Rattle.data_field.specs.declared.fields.Span.{Span}

-- from at to n, before end
pub record Goes (at end n : ℕ) : Type 0 where
  pub on : at ≤ n
  pub within : n ≤ end

-- from at to a later n, before an end that is not past the slice
pub record Moves (s : List ℕ) (at end n : ℕ) : Type 0 where
  pub past : at < n
  pub within : n ≤ end
  pub inside : end ≤ length s

-- a field after another
pub goes_moves : {s : List ℕ} {at end m n : ℕ} → Goes at end m → Moves s m end n → Moves s at end n
goes_moves g h = record { past = omega (arith, g.on, h.past); within = h.within; inside = h.inside }

pub moves_goes : {s : List ℕ} {at end m n : ℕ} → Moves s at end m → Goes m end n → Moves s at end n
moves_goes g h = record { past = omega (arith, g.past, h.on); within = h.within; inside = g.inside }

pub moves_moves : {s : List ℕ} {at end m n : ℕ} → Moves s at end m → Moves s m end n → Moves s at end n
moves_moves g h = record { past = omega (arith, g.past, h.past); within = h.within; inside = g.inside }

pub goes_goes : {at end m n : ℕ} → Goes at end m → Goes m end n → Goes at end n
goes_goes g h = record { on = omega (arith, g.on, h.on); within = h.within }

pub moves_on : {s : List ℕ} {at end n : ℕ} → Moves s at end n → Goes at end n
moves_on g = record { on = omega (arith, g.past); within = g.within }

pub goes_none : {at end : ℕ} → at ≤ end → Goes at end at
goes_none l = record { on = omega arith; within = l }

-- ---- numbers
-- a number from lo to hi that is not below its base
pub record In (lo hi base v : ℕ) : Type 0 where
  pub above : base ≤ v
  pub least : lo ≤ v
  pub most : v ≤ hi

abbrev pub TimestampIn : Bases → ℕ → Type 0
TimestampIn b v = In 1 18446744073709551615 b.timestamp v

abbrev pub LocalIn : Bases → ℕ → Type 0
LocalIn b v = In 0 2147483646 b.local v

abbrev pub TTLIn : Bases → ℕ → Type 0
TTLIn b v = In 1 2147483647 b.ttl v

-- a deletion in range, or none
pub record DeletionIn (b : Bases) (d : Deletion) : Type 0 where
  pub deleted : d.deleted ≤ 1
  pub mark : 1 ≤ d.deleted → TimestampIn b d.mark
  pub local : 1 ≤ d.deleted → LocalIn b d.local
  pub none : d.deleted ≡ 0 → (d.mark ≡ 0) × (d.local ≡ 0)

pub deletion_none : (b : Bases) → DeletionIn b live
deletion_none b = record { deleted = omega arith; mark = λ d. absurd (omega arith); local = λ d. absurd (omega arith); none = λ d. (refl, refl) }

-- a value of a column of width w: it lies in the slice, and fills its width unless it is empty, which has no place
pub record ValueIn (s : List ℕ) (w : ℕ) (v : Span) : Type 0 where
  pub lies : v.start + v.len ≤ length s
  pub fills : eqb w 255 ≡ false → 1 ≤ v.len → v.len ≡ w
  pub empty : 1 ≤ w → v.len ≡ 0 → v.start ≡ 0

pub value_none : (s : List ℕ) (w : ℕ) → ValueIn s w (span 0 0)
value_none s w = record { lies = omega arith; fills = λ e l. absurd (omega arith); empty = λ l e. refl }

never : {C : Type 0} → true ≡ false → C
never e = let z : ◌≡◌ {A = ℕ} 0 1 = cc in absurd (omega arith)

module _ (s : List ℕ) (at end : ℕ) where
  pub byte_gives : Gives (byte_at s at end) (λ f n. (f ≡ get_or s at 0) × Moves s at end n)
  unfolding byte_at
  byte_gives =
      gives_pick (ltb (length s) end) (λ e. gives_bad _ _) (λ e.
      gives_pick (leb end at) (λ f. gives_bad _ _) (λ f.
      gives_got _ _ (refl, record { past = omega arith; within = omega (arith, leb-false end at f); inside = ltb-false (length s) end e })))

  pub varint_moves : Gives (varint_at s at end) (λ v n. Moves s at end n)
  unfolding varint_at
  varint_moves =
      gives_pick (ltb (length s) end) (λ e. gives_bad _ _) (λ e.
      gives_pick (leb end at) (λ f. gives_bad _ _) (λ f.
      gives_bind _ _
      (gives_pick (leb (end - at) (leading 8 (get_or s at 0))) (λ g. gives_bad _ _) (λ g.
      gives_got _ _ (record {
        past = omega arith;
        within = omega (arith, leb-false end at f, leb-false (end - at) (leading 8 (get_or s at 0)) g);
        inside = ltb-false (length s) end e;
      })))))

  pub fixed_moves : (w : ℕ) → 1 ≤ w → Gives (fixed_at w s at end) (λ v n. Moves s at end n)
  unfolding fixed_at
  fixed_moves w l =
      gives_pick (ltb 8 w) (λ d. gives_bad _ _) (λ d.
      gives_pick (ltb (length s) end) (λ e. gives_bad _ _) (λ e.
      gives_pick (ltb end at) (λ f. gives_bad _ _) (λ f.
      gives_pick (ltb (end - at) w) (λ g. gives_bad _ _) (λ g.
      gives_got _ _ (record {
        past = omega arith;
        within = omega (arith, ltb-false end at f, ltb-false (end - at) w g);
        inside = ltb-false (length s) end e;
      })))))

  pub in_gives : (lo hi base : ℕ) → Gives (in_at lo hi base s at end) (λ v n. In lo hi base v × Moves s at end n)
  unfolding in_at
  in_gives lo hi base =
      gives_on _ varint_moves (λ d n g.
      gives_pick (ltb hi (base + d)) (λ e. gives_bad _ _) (λ e.
      gives_pick (ltb (base + d) lo) (λ f. gives_bad _ _) (λ f.
      gives_got _ _ (record { above = omega arith; least = ltb-false (base + d) lo f; most = ltb-false hi (base + d) e }, g))))

  variable_gives : (w : ℕ) → eqb w 255 ≡ true → Gives (variable_at s at end) (λ v n. ValueIn s w v × Moves s at end n)
  unfolding variable_at
  variable_gives w e =
      gives_on _ varint_moves (λ len n g.
      gives_pick (eqb len 0) (λ z. gives_got _ _ (value_none s w, g)) (λ z.
      gives_pick (ltb (end - n) len) (λ y. gives_bad _ _) (λ y.
      let k = ltb-false (end - n) len y in
      gives_got _ _ (
        record {
          lies = omega (arith, g.within, g.inside);
          fills = λ f l. never (sym e ∙ f);
          empty = λ l f. absurd (eqb-false len 0 z f);
        },
        record { past = omega (arith, g.past); within = omega (arith, g.within); inside = g.inside },
      ))))

  pub value_gives : (w : ℕ) → end ≤ length s → at ≤ end → Gives (value_at w s at end) (λ v n. ValueIn s w v × Goes at end n)
  unfolding value_at
  value_gives w h l =
      gives_pick (eqb w 255)
      (λ e. let g = variable_gives w e in record { given = λ v n d. let z = g.given v n d in (z.0, moves_on z.1) })
      (λ e.
      gives_pick (ltb end at) (λ f. gives_bad _ _) (λ f.
      gives_pick (ltb (end - at) w) (λ y. gives_bad _ _) (λ y.
      let k = ltb-false (end - at) w y in
      gives_got _ _ (
        record {
          lies = omega arith;
          fills = λ _ _. refl;
          empty = λ m z. absurd (omega arith);
        },
        record { on = omega arith; within = omega arith },
      ))))

pub deletion_gives : (b : Bases) (s : List ℕ) (at end : ℕ) → Gives (deletion_at b s at end) (λ d n. (d.deleted ≡ 1) × DeletionIn b d × Moves s at end n)
unfolding deletion_at
deletion_gives b s at end =
    gives_on _ (in_gives s at end 1 18446744073709551615 b.timestamp) (λ t m g.
    gives_on _ (in_gives s m end 0 2147483646 b.local) (λ x n j.
    gives_got _ _ (
      refl,
      record {
        deleted = omega arith;
        mark = λ _. g.0;
        local = λ _. j.0;
        none = λ e. absurd (omega arith);
      },
      moves_moves g.1 j.1,
    )))
