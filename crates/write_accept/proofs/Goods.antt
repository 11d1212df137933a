-- What is known of a record that is taken, and of the key or value that it shows. Assumes nothing.
use mathlib.Core.Path.{◌≡◌, refl, sym, subst}
use mathlib.Core.Bool.{Bool, true, false}
use mathlib.Core.List.{List}
use Prim.Native.Nat.{ℕ, ◌+◌, ◌-◌, ◌≤◌}
use native.Mathlib.Omega.{arith}
use borrow.Author.Tests.{ltb-false, eqb-true, eqb-false}
use lib.Dec.{ltb, eqb}
use lib.ListN.{length, length-take, length-drop}
use Rattle.common.specs.Choose.{pick}
use Rattle.common.specs.Store.{part, shown}
use Rattle.common.specs.declared.times.Bases.{Bases}
use Rattle.common.proofs.Gives.{Gives, gives_got, gives_bad, gives_pick, gives_bind}
use Rattle.data_field.proofs.Ranges.{In, TimestampIn, LocalIn, TTLIn}
use Rattle.data_items.specs.declared.Item.{Item}
use Rattle.write_accept.specs.Fields.{item_of, stray_bytes, has_time, has_expiry, has_local, has_mark, has_second, stray_numbers}
use Rattle.write_accept.specs.Records.{outside, last_ranges_at, ranges_at, record_at}
use Rattle.write_accept.specs.Tests.{unlike, bad_place, bad_nowhere, bad_width}

-- ---- tests that a record passes
pub never : {C : Type 0} → true ≡ false → C
never e = let z : ◌≡◌ {A = ℕ} 0 1 = cc in absurd (omega arith)

pub not_first : (a b : Bool) → pick a true b ≡ false → a ≡ false
unfolding pick
not_first true b e = e
not_first false b e = refl

pub not_second : (a b : Bool) → pick a true b ≡ false → b ≡ false
unfolding pick
not_second true b e = never e
not_second false b e = e

pub not_else : (a b c : Bool) → pick a b c ≡ false → a ≡ false → c ≡ false
unfolding pick
not_else true b c e f = never f
not_else false b c e f = e

pub not_then : (a b c : Bool) → pick a b c ≡ false → a ≡ true → b ≡ false
unfolding pick
not_then true b c e f = e
not_then false b c e f = never (sym f)

pub alike : (x y : ℕ) → unlike x y ≡ false → x ≡ y
unfolding unlike pick
alike x y e = go (eqb x y) refl e
  where
    go : (t : Bool) → eqb x y ≡ t → pick t false true ≡ false → x ≡ y
    go true f g = eqb-true x y f
    go false f g = never g

pub yes_or_no : {A : Type 0} (t : Bool) → (t ≡ true → A) → (t ≡ false → A) → A
yes_or_no true f g = f refl
yes_or_no false f g = g refl

-- ---- ranges
pub outside_in : (used : Bool) (lo hi base v : ℕ) → outside used lo hi base v ≡ false → used ≡ true → In lo hi base v
unfolding outside
outside_in used lo hi base v e f =
    let g = not_then used _ false e f in
    let h = not_second (ltb v base) _ g in
    record {
      above = ltb-false v base (not_first (ltb v base) _ g);
      least = ltb-false v lo (not_first (ltb v lo) _ h);
      most = ltb-false hi v (not_second (ltb v lo) _ h);
    }

-- the numbers that an item uses are in range
pub record Ranged (b : Bases) (i : Item) : Type 0 where
  pub ttl : has_expiry i ≡ true → TTLIn b i.ttl
  pub timestamp : has_time i ≡ true → TimestampIn b i.timestamp
  pub mark : has_mark i ≡ true → TimestampIn b i.mark
  pub local : has_local i ≡ true → LocalIn b i.local
  pub expiry : has_expiry i ≡ true → LocalIn b i.expiry
  pub mark2 : has_second i ≡ true → TimestampIn b i.mark2
  pub local2 : has_second i ≡ true → LocalIn b i.local2

pub ranges_give : (b : Bases) (i : Item) (at : ℕ) → Gives (ranges_at b i at) (λ j n. (j ≡ i) × (n ≡ at + 64) × Ranged b i)
unfolding ranges_at last_ranges_at
ranges_give b i at =
    gives_pick _ (λ e. gives_bad _ _) (λ e.
    gives_pick _ (λ f. gives_bad _ _) (λ f.
    gives_pick _ (λ g. gives_bad _ _) (λ g.
    gives_pick _ (λ h. gives_bad _ _) (λ h.
    gives_pick _ (λ k. gives_bad _ _) (λ k.
    gives_pick _ (λ l. gives_bad _ _) (λ l.
    gives_pick _ (λ m. gives_bad _ _) (λ m.
    gives_got _ _ (
      refl,
      refl,
      record {
        ttl = outside_in (has_expiry i) _ _ _ _ e;
        timestamp = outside_in (has_time i) _ _ _ _ f;
        mark = outside_in (has_mark i) _ _ _ _ g;
        local = outside_in (has_local i) _ _ _ _ h;
        expiry = outside_in (has_expiry i) _ _ _ _ k;
        mark2 = outside_in (has_second i) _ _ _ _ l;
        local2 = outside_in (has_second i) _ _ _ _ m;
      },
    ))))))))

-- ---- a record that is taken: it is not wrong, and its numbers are in range
pub record Good (b : Bases) (wrong : Item → Bool) (s : List ℕ) (at end : ℕ) (i : Item) (n : ℕ) : Type 0 where
  pub is : i ≡ item_of s at
  pub bytes : stray_bytes s at ≡ false
  pub numbers : stray_numbers i ≡ false
  pub right : wrong i ≡ false
  pub ranged : Ranged b i
  pub next : n ≡ at + 64
  pub within : n ≤ end

pub record_gives : (b : Bases) (wrong : Item → Bool) (s : List ℕ) (at end : ℕ) → Gives (record_at b wrong s at end) (Good b wrong s at end)
unfolding record_at
record_gives b wrong s at end =
    gives_pick (ltb (end - at) 64) (λ d. gives_bad _ _) (λ d.
    gives_bind _ _
    (gives_pick (stray_bytes s at) (λ e. gives_bad _ _) (λ e.
    gives_pick (stray_numbers (item_of s at)) (λ f. gives_bad _ _) (λ f.
    gives_pick (wrong (item_of s at)) (λ g. gives_bad _ _) (λ g.
    record {
      given = λ i n h.
          let z = (ranges_give b (item_of s at) at).given i n h in
          subst (λ j. Good b wrong s at end j n) (sym z.0) (record {
            is = refl;
            bytes = e;
            numbers = f;
            right = g;
            ranged = z.2;
            next = z.1;
            within = omega (arith, ltb-false (end - at) 64 d, z.1);
          });
    })))))

-- ---- what is shown
pub shown_length : (s : List ℕ) (start len : ℕ) → ltb (length s) start ≡ false → ltb (length s - start) len ≡ false → length (shown s start len) ≡ len
unfolding shown part pick
shown_length s start len e f = rw (e, f) (simp (length-take, length-drop) (omega (arith, ltb-false (length s) start e, ltb-false (length s - start) len f)))

-- the length of what an item shows
pub place_length : (bytes : List ℕ) (i : Item) → bad_place bytes i ≡ false → length (shown bytes i.offset i.length) ≡ i.length
unfolding bad_place
place_length bytes i e =
    let f = not_second (eqb i.length 0) _ e in
    shown_length bytes i.offset i.length (not_first (ltb (length bytes) i.offset) _ f) (not_second (ltb (length bytes) i.offset) _ f)

pub place_some : (bytes : List ℕ) (i : Item) → bad_place bytes i ≡ false → 1 ≤ i.length
unfolding bad_place
place_some bytes i e = omega (arith, eqb-false i.length 0 (not_first (eqb i.length 0) _ e))

pub place_short : (bytes : List ℕ) (i : Item) → bad_place bytes i ≡ false → i.offset + i.length ≤ length bytes
unfolding bad_place
place_short bytes i e =
    let f = not_second (eqb i.length 0) _ e in
    omega (arith, ltb-false (length bytes) i.offset (not_first (ltb (length bytes) i.offset) _ f), ltb-false (length bytes - i.offset) i.length (not_second (ltb (length bytes) i.offset) _ f))

-- an item without a value
pub nowhere_offset : (i : Item) → bad_nowhere i ≡ false → i.offset ≡ 0
unfolding bad_nowhere
nowhere_offset i e = alike _ _ (not_first (unlike i.offset 0) _ e)

pub nowhere_length : (i : Item) → bad_nowhere i ≡ false → i.length ≡ 0
unfolding bad_nowhere
nowhere_length i e = alike _ _ (not_second (unlike i.offset 0) _ e)

pub width_fills : (w n : ℕ) → bad_width w n ≡ false → eqb w 255 ≡ false → n ≡ w
unfolding bad_width
width_fills w n e f = alike n w (not_else (eqb w 255) _ _ e f)
