-- What is read of a cell: it goes on, not past its end, its times are in range and its value lies in the slice. Assumes nothing.
use mathlib.Core.Path.{◌≡◌, refl}
use mathlib.Core.Bool.{Bool, true, false}
use mathlib.Core.List.{List}
use Prim.Native.Nat.{ℕ, ◌/◌, ◌%◌, ◌≤◌}
use native.Mathlib.Omega.{arith}
use borrow.Author.Tests.{ltb-false, eqb-true}
use lib.Dec.{eqb}
use lib.ListN.{length}
use Rattle.common.specs.Choose.{pick}
use Rattle.common.specs.Got.{Got}
use Rattle.common.proofs.Gives.{Gives, gives_got, gives_bad, gives_on, gives_pick}
use Rattle.data_field.specs.Fields.{span}
use Rattle.data_cell.specs.Cells.{cell, bad_flags, flags_at, last_at, expiring_at, content_at, timed_at, cell_at}
use Rattle.common.specs.declared.times.Bases.{Bases}
use Rattle.data_field.specs.declared.fields.Span.{Span}
use Rattle.data_cell.specs.declared.cells.Times.{Times}
use Rattle.data_cell.specs.declared.cells.Cell.{Cell}
use Rattle.data_field.proofs.Ranges.{Goes, Moves, goes_none, goes_goes, moves_on, moves_goes, TimestampIn, LocalIn, TTLIn, ValueIn, value_none, byte_gives, in_gives, value_gives}

-- a row's times in range: an expiry only with a timestamp, and what is absent is 0
pub record TimesIn (b : Bases) (row : Times) : Type 0 where
  pub timed : row.timed ≤ 1
  pub expires : row.expires ≤ row.timed
  pub timestamp : 1 ≤ row.timed → TimestampIn b row.timestamp
  pub local : 1 ≤ row.expires → LocalIn b row.local
  pub ttl : 1 ≤ row.expires → TTLIn b row.ttl
  pub untimed : row.timed ≡ 0 → row.timestamp ≡ 0
  pub lasting : row.expires ≡ 0 → (row.local ≡ 0) × (row.ttl ≡ 0)

-- a cell's kind and times in range, and what is absent is 0
pub record CellIn (b : Bases) (c : Cell) : Type 0 where
  pub kind : c.kind ≤ 2
  pub timestamp : TimestampIn b c.timestamp
  pub local : 1 ≤ c.kind → LocalIn b c.local
  pub ttl : c.kind ≡ 1 → TTLIn b c.ttl
  pub plain : c.kind ≡ 0 → (c.local ≡ 0) × (c.ttl ≡ 0)
  pub tombstone : c.kind ≡ 2 → (c.ttl ≡ 0) × (c.value ≡ span 0 0)

-- a cell of a column of width w that was read; what it takes from its row is in range where that is
pub record CellOk (s : List ℕ) (b : Bases) (row : Times) (w : ℕ) (c : Cell) : Type 0 where
  pub fits : TimesIn b row → CellIn b c
  pub value : ValueIn s w c.value

never : {C : Type 0} → true ≡ false → C
never e = let z : ◌≡◌ {A = ℕ} 0 1 = cc in absurd (omega arith)

-- what flags that are not refused ask of the row
abbrev Legal : Times → ℕ → Type 0
Legal row f = (f / 8 % 2 ≤ row.timed) × (f / 16 % 2 ≤ row.expires)

later : (t x : Bool) → pick t true x ≡ false → x ≡ false
unfolding pick
later true x e = never e
later false x e = e

first : (t x : Bool) → pick t true x ≡ false → t ≡ false
unfolding pick
first true x e = e
first false x e = refl

legal : (row : Times) (f : ℕ) → bad_flags row.timed row.expires f ≡ false → Legal row f
unfolding bad_flags
legal row f e =
    let k = later _ _ (later _ _ (later _ _ e)) in
    (ltb-false row.timed (f / 8 % 2) (first _ _ k), ltb-false row.expires (f / 16 % 2) (first _ _ (later _ _ k)))

flags_give : (row : Times) (s : List ℕ) (at end : ℕ) → Gives (flags_at row s at end) (λ f n. Legal row f × Moves s at end n)
unfolding flags_at
flags_give row s at end =
    gives_on _ (byte_gives s at end) (λ f n g.
    gives_pick (bad_flags row.timed row.expires f) (λ e. gives_bad _ _) (λ e. gives_got _ _ (legal row f e, g.1)))

module _ (b : Bases) (row : Times) (w : ℕ) (s : List ℕ) (end : ℕ) where
  abbrev From : ℕ → Cell → ℕ → Type 0
  From at c n = CellOk s b row w c × Goes at end n

module _ (b : Bases) (row : Times) (w : ℕ) (s : List ℕ) (end : ℕ) (h : end ≤ length s) where
  -- kind and times of a cell, whatever its value
  abbrev ContentOk : ℕ → ℕ → ℕ → ℕ → Type 0
  ContentOk kind t x y = (v : Span) → TimesIn b row → CellIn b (cell kind t x y v)

  on_from : (at m : ℕ) → Goes at end m → (x : Got Cell) → Gives x (From b row w s end m) → Gives x (From b row w s end at)
  on_from at m l x g = record { given = λ c n e. let z = g.given c n e in (z.0, goes_goes l z.1) }

  last_gives : (f kind t x y at : ℕ) → at ≤ end → ContentOk kind t x y → Gives (last_at w f kind t x y s at end) (From b row w s end at)
  unfolding last_at
  last_gives f kind t x y at l k =
      gives_pick (eqb (f / 4 % 2) 1)
      (λ e. gives_got _ _ (record { fits = k (span 0 0); value = value_none s w }, goes_none l))
      (λ e. gives_on _ (value_gives s at end w h l) (λ v n g. gives_got _ _ (record { fits = k v; value = g.0 }, g.1)))

  plain_ok : (t : ℕ) → (TimesIn b row → TimestampIn b t) → ContentOk 0 t 0 0
  plain_ok t i v r = record {
    kind = omega arith;
    timestamp = i r;
    local = λ e. absurd (omega arith);
    ttl = λ e. absurd (omega arith);
    plain = λ e. (refl, refl);
    tombstone = λ e. absurd (omega arith);
  }

  expiring_ok : (t x y : ℕ) → (TimesIn b row → TimestampIn b t) → (TimesIn b row → LocalIn b x) → (TimesIn b row → TTLIn b y) → ContentOk 1 t x y
  expiring_ok t x y i j k v r = record {
    kind = omega arith;
    timestamp = i r;
    local = λ e. j r;
    ttl = λ e. k r;
    plain = λ e. absurd (omega arith);
    tombstone = λ e. absurd (omega arith);
  }

  tombstone_ok : (t x : ℕ) → (TimesIn b row → TimestampIn b t) → LocalIn b x → CellOk s b row w (cell 2 t x 0 (span 0 0))
  tombstone_ok t x i j = record {
    fits = λ r. record {
      kind = omega arith;
      timestamp = i r;
      local = λ e. j;
      ttl = λ e. absurd (omega arith);
      plain = λ e. absurd (omega arith);
      tombstone = λ e. (refl, refl);
    };
    value = value_none s w;
  }

  expiring_gives : (f t at : ℕ) → at ≤ end → Legal row f → (TimesIn b row → TimestampIn b t) → Gives (expiring_at b row w f t s at end) (From b row w s end at)
  unfolding expiring_at
  expiring_gives f t at l k i =
      gives_pick (eqb (f / 16 % 2) 1)
      (λ e.
      let z = eqb-true (f / 16 % 2) 1 e in
      let o : 1 ≤ row.expires = omega (arith, k.1) in
      last_gives f 1 t row.local row.ttl at l (expiring_ok t _ _ i (λ r. r.local o) (λ r. r.ttl o)))
      (λ e.
      gives_on _ (in_gives s at end 0 2147483646 b.local) (λ x n g.
      gives_on _ (in_gives s n end 1 2147483647 b.ttl) (λ y m j.
      on_from at m (goes_goes (moves_on g.1) (moves_on j.1)) _ (last_gives f 1 t x y m j.1.within (expiring_ok t x y i (λ _. g.0) (λ _. j.0))))))

  content_gives : (f t at : ℕ) → at ≤ end → Legal row f → (TimesIn b row → TimestampIn b t) → Gives (content_at b row w f t s at end) (From b row w s end at)
  unfolding content_at
  content_gives f t at l k i =
      gives_pick (eqb (f % 2) 1)
      (λ e. gives_on _ (in_gives s at end 0 2147483646 b.local) (λ x n g. gives_got _ _ (tombstone_ok t x i g.0, moves_on g.1)))
      (λ e.
      gives_pick (eqb (f / 2 % 2) 1)
      (λ d. expiring_gives f t at l k i)
      (λ d. last_gives f 0 t 0 0 at l (plain_ok t i)))

  timed_gives : (f at : ℕ) → at ≤ end → Legal row f → Gives (timed_at b row w f s at end) (From b row w s end at)
  unfolding timed_at
  timed_gives f at l k =
      gives_pick (eqb (f / 8 % 2) 1)
      (λ e.
      let z = eqb-true (f / 8 % 2) 1 e in
      let o : 1 ≤ row.timed = omega (arith, k.0) in
      content_gives f row.timestamp at l k (λ r. r.timestamp o))
      (λ e.
      gives_on _ (in_gives s at end 1 18446744073709551615 b.timestamp) (λ t n g.
      on_from at n (moves_on g.1) _ (content_gives f t n g.1.within k (λ _. g.0))))

-- a cell that is read
pub cell_gives : (b : Bases) (row : Times) (w : ℕ) (s : List ℕ) (at end : ℕ) → Gives (cell_at b row w s at end) (λ c n. CellOk s b row w c × Moves s at end n)
unfolding cell_at
cell_gives b row w s at end =
    gives_on _ (flags_give row s at end) (λ f m g.
    forth m g.1 _ (timed_gives b row w s end g.1.inside f m g.1.within g.0))
  where
    forth : (m : ℕ) → Moves s at end m → (x : Got Cell) → Gives x (From b row w s end m) → Gives x (λ c n. CellOk s b row w c × Moves s at end n)
    forth m l x g = record { given = λ c n e. let z = g.given c n e in (z.0, moves_goes l z.1) }
