-- A row in the writer's form is read back. Assumes nothing.
use mathlib.Core.Path.{◌≡◌, refl, sym, ap, ◌∙◌, subst}
use mathlib.Core.Bool.{Bool, true, false}
use mathlib.Core.List.{List, [], ◌∷◌, ◌++◌, append-nil}
use mathlib.Core.Option.{Option, none, some}
use Prim.Native.Nat.{ℕ, zero, suc, ◌+◌, ◌-◌, ◌*◌, ◌/◌, ◌%◌, ◌^◌, ◌≤◌, ◌<◌}
use native.Mathlib.Nat.{pow-succ', pow-le-pow_right}
use native.Mathlib.Omega.{arith}
use borrow.Author.Tests.{le-ltb, ne_eqb, eqb-true}
use lib.Dec.{eqb, lit<}
use lib.ListN.{length}
use Rattle.common.specs.Choose.{pick, bind}
use Rattle.common.specs.Got.{got, on}
use Rattle.number_varint.specs.Varints.{shortest, varint_at}
use Rattle.common.specs.declared.times.Bases.{Bases}
use Rattle.common.proofs.Choose.{pick_ind}
use Rattle.common.proofs.RoundTrip.{Reads, reads_got, reads_on, reads_at, reads_yes, reads_no, reads_to}
use Rattle.common.proofs.Stands.{Stands, stands_left, stands_right, narrow}
use Rattle.number_varint.proofs.Varints.{varint_back}
use Rattle.data_field.specs.Fields.{deletion, live}
use Rattle.data_field.specs.declared.fields.Deletion.{Deletion}
use Rattle.data_cell.specs.declared.cells.Times.{Times}
use Rattle.data_field.proofs.Ranges.{DeletionIn}
use Rattle.data_cell.proofs.Gives.{TimesIn}
use Rattle.data_clustering.specs.Prefixes.{values_at}
use Rattle.data_clustering.specs.Sizes.{sizes_at}
use Rattle.data_row.specs.Flags.{bad_row_flags}
use Rattle.data_row.specs.Bodies.{times, body, expiry_at, liveness_at, row_deletion_at, columns, present_at, content_at, body_at}
use Rattle.data_row.specs.Rows.{rest_at}
use Rattle.data_row.specs.declared.bodies.Body.{Body}
use Rattle.data_row.specs.declared.rows.Row.{Row}
use Rattle.data_contents.specs.Contents.{cells_at, body_cells_at}
use Rattle.write_form.specs.Views.{CellView, RowView, show_cells, show_values}
use Rattle.write_form.specs.Cells.{cell_form}
use Rattle.write_form.specs.Clusterings.{prefix_bytes}
use Rattle.write_form.specs.Rows.{row_expiry_bytes, liveness_bytes, deletion_bytes, row_deletion_bytes, missing_of, missing_bytes, cells_bytes, row_flags, flags_of, content_bytes, sized_bytes}
use Rattle.write_form.specs.Fits.{CellsFit, RowFits, ValuesFit}
use Rattle.write_form.proofs.Fields.{either, stands_none, timestamp_back, local_back, ttl_back, deletion_back}
use Rattle.write_form.proofs.Cells.{cell_back}
use Rattle.write_form.proofs.Clusterings.{prefix_back}

-- ---- sizes
-- the body's size and the previous size, before w, which fills the body
module _ (s : List ℕ) (end at n previous : ℕ) (w : List ℕ) (short : length s < 2 ^ 64) (small : previous < 2 ^ 64) (h : Stands s end at n (sized_bytes previous w)) where
  abbrev sized : List ℕ
  sized = shortest previous ++ w

  -- where the previous size stands
  abbrev behind_size : ℕ
  behind_size = at + length (shortest (length sized))

  abbrev pub behind_sizes : ℕ
  behind_sizes = behind_size + length (shortest previous)

  parts : Stands s end at n (shortest (length sized) ++ sized)
  unfolding sized_bytes
  parts = h

  rest : Stands s end behind_size n sized
  rest = stands_right s end at n (shortest (length sized)) sized parts

  region : Stands s n behind_size n sized
  region = narrow s end behind_size n sized rest

  pub sized_rest : Stands s n behind_sizes n w
  sized_rest = stands_right s n behind_size n (shortest previous) w region

  pub sizes_back : Reads (sizes_at s at end) behind_sizes (λ stop. stop ≡ n)
  unfolding sizes_at
  sizes_back =
      reads_at _ (varint_back s end at behind_size (length sized) (omega (arith, rest.stop, rest.within, rest.inside)) (stands_left s end at n (shortest (length sized)) sized parts))
      (reads_no _ _ (le-ltb (end - behind_size) (length sized) (omega (arith, rest.stop, rest.within)))
      (subst (λ q. Reads (on (varint_at s behind_size q) (λ x m. got q m)) behind_sizes (λ stop. stop ≡ n)) rest.stop
      (reads_at _ (varint_back s n behind_size behind_sizes previous small (stands_left s n behind_size n (shortest previous) w region))
      (reads_got n behind_sizes refl))))

-- ---- which columns have a cell
unfoldable pub present_of : List (Option CellView) → ℕ
present_of [] = 0
present_of (none ∷ cs) = 2 * present_of cs
present_of (some c ∷ cs) = 1 + 2 * present_of cs

-- every column is missing or has a cell
all_columns : (cs : List (Option CellView)) → missing_of cs + present_of cs + 1 ≡ 2 ^ length cs
unfolding missing_of present_of
all_columns [] = refl
all_columns (none ∷ cs) = rw (pow-succ' 2 (length cs)) (omega (arith, all_columns cs))
all_columns (some c ∷ cs) = rw (pow-succ' 2 (length cs)) (omega (arith, all_columns cs))

pub cells_length : (b : Bases) (ws : List ℕ) (cs : List (Option CellView)) → CellsFit b ws cs → length ws ≡ length cs
cells_length b [] [] i = refl
cells_length b [] (c ∷ cs) i = absurd (omega arith)
cells_length b (w ∷ ws) [] i = absurd (omega arith)
cells_length b (w ∷ ws) (none ∷ cs) i = ap suc (cells_length b ws cs i)
cells_length b (w ∷ ws) (some c ∷ cs) i = ap suc (cells_length b ws cs i.1)

-- ---- the bytes of each part, by its case
module _ (b : Bases) (t x y : ℕ) where
  live_none : (e : ℕ) → liveness_bytes b (times 0 t e x y) ≡ []
  unfolding liveness_bytes pick
  live_none e = refl

  live_plain : liveness_bytes b (times 1 t 0 x y) ≡ shortest (t - b.timestamp)
  unfolding liveness_bytes row_expiry_bytes pick
  live_plain = append-nil (shortest (t - b.timestamp))

  live_expiring : liveness_bytes b (times 1 t 1 x y) ≡ shortest (t - b.timestamp) ++ (shortest (y - b.ttl) ++ shortest (x - b.local))
  unfolding liveness_bytes row_expiry_bytes pick
  live_expiring = refl

deleted_none : (b : Bases) (d : Deletion) → eqb d.deleted 1 ≡ false → row_deletion_bytes b d ≡ []
unfolding row_deletion_bytes pick
deleted_none b d e = rw e

deleted_some : (b : Bases) (d : Deletion) → eqb d.deleted 1 ≡ true → row_deletion_bytes b d ≡ deletion_bytes b d
unfolding row_deletion_bytes pick
deleted_some b d e = rw e

missing_none : (m : ℕ) → eqb m 0 ≡ true → missing_bytes m ≡ []
unfolding missing_bytes pick
missing_none m e = rw e

missing_some : (m : ℕ) → eqb m 0 ≡ false → missing_bytes m ≡ shortest m
unfolding missing_bytes pick
missing_some m e = rw e

pick_one : (t : Bool) → t ≡ true → pick {A = ℕ} t 1 0 ≡ 1
unfolding pick
pick_one t e = rw e

pick_other : (t : Bool) → t ≡ false → pick {A = ℕ} t 1 0 ≡ 0
unfolding pick
pick_other t e = rw e

-- no deletion
live_is : (b : Bases) (d : Deletion) → DeletionIn b d → d.deleted ≡ 0 → live ≡ d
live_is b d i e = let z = i.none e in λ j. deletion (sym e j) (sym z.0 j) (sym z.1 j)

not_one : (k : ℕ) → k ≤ 1 → eqb k 1 ≡ false → k ≡ 0
not_one zero l e = refl
not_one (suc zero) l e = let z : ◌≡◌ {A = ℕ} 0 1 = cc in absurd (omega arith)
not_one (suc (suc k)) l e = absurd (omega arith)

-- ---- the parts of a body; f are the row's flags
module _ (s : List ℕ) (end : ℕ) (b : Bases) (f at n : ℕ) where
  abbrev Lives : Times → Type 0
  Lives row = f / 4 % 2 ≡ row.timed → f / 8 % 2 ≡ row.expires → Stands s end at n (liveness_bytes b row) → Reads (liveness_at b f s at end) n (λ x. x ≡ row)

  untimed_back : (t e x y : ℕ) → TimesIn b (times 0 t e x y) → Lives (times 0 t e x y)
  unfolding liveness_at
  untimed_back t e x y i p q h =
      let z : e ≡ 0 = omega (arith, i.expires) in
      let u = i.untimed refl in
      let v = i.lasting z in
      reads_no _ _ (rw p) (reads_to (stands_none s end at n (rw (live_none b t x y e) at h)) (reads_got _ at (λ j. times 0 (sym u j) (sym z j) (sym v.0 j) (sym v.1 j))))

  lasting_back : (t x y : ℕ) → TimesIn b (times 1 t 0 x y) → Lives (times 1 t 0 x y)
  unfolding liveness_at
  lasting_back t x y i p q h =
      let v = i.lasting refl in
      reads_yes _ _ (rw p) (reads_at _ (timestamp_back s end b at n t (i.timestamp (omega arith)) (rw (live_plain b t x y) at h))
      (reads_no _ _ (rw q) (reads_got _ n (λ j. times 1 t 0 (sym v.0 j) (sym v.1 j)))))

  expiring_back : (t x y : ℕ) → TimesIn b (times 1 t 1 x y) → Lives (times 1 t 1 x y)
  unfolding liveness_at expiry_at
  expiring_back t x y i p q h =
      let here : Stands s end at n (shortest (t - b.timestamp) ++ (shortest (y - b.ttl) ++ shortest (x - b.local))) = rw (live_expiring b t x y) at h in
      let rest = stands_right s end at n (shortest (t - b.timestamp)) (shortest (y - b.ttl) ++ shortest (x - b.local)) here in
      reads_yes _ _ (rw p) (reads_at _ (timestamp_back s end b at _ t (i.timestamp (omega arith)) (stands_left s end at n (shortest (t - b.timestamp)) (shortest (y - b.ttl) ++ shortest (x - b.local)) here))
      (reads_yes _ _ (rw q)
      (reads_at _ (ttl_back s end b _ _ y (i.ttl (omega arith)) (stands_left s end _ n (shortest (y - b.ttl)) (shortest (x - b.local)) rest))
      (reads_at _ (local_back s end b _ n x (i.local (omega arith)) (stands_right s end _ n (shortest (y - b.ttl)) (shortest (x - b.local)) rest))
      (reads_got _ n refl)))))

  liveness_back : (row : Times) → TimesIn b row → Lives row
  liveness_back row i = go row.timed row.timestamp row.expires row.local row.ttl i
    where
      go : (k t e x y : ℕ) → TimesIn b (times k t e x y) → Lives (times k t e x y)
      go zero t e x y i = untimed_back t e x y i
      go (suc zero) t zero x y i = lasting_back t x y i
      go (suc zero) t (suc zero) x y i = expiring_back t x y i
      go (suc zero) t (suc (suc e)) x y i = absurd (omega (arith, i.expires))
      go (suc (suc k)) t e x y i = absurd (omega (arith, i.timed))

  row_deletion_back : (d : Deletion) → DeletionIn b d → f / 16 % 2 ≡ d.deleted → Stands s end at n (row_deletion_bytes b d) → Reads (row_deletion_at b f s at end) n (λ x. x ≡ d)
  unfolding row_deletion_at
  row_deletion_back d i p h = either (eqb d.deleted 1)
      (λ e. reads_yes _ _ (rw p e) (deletion_back s end b at n d (eqb-true d.deleted 1 e) i (rw (deleted_some b d e) at h)))
      (λ e.
      reads_no _ _ (rw p e)
      (reads_to (stands_none s end at n (rw (deleted_none b d e) at h)) (reads_got _ at (live_is b d i (not_one d.deleted i.deleted e)))))

  present_back : (k : ℕ) (cs : List (Option CellView)) → k ≡ length cs → k ≤ 63 → f / 32 % 2 ≡ pick (eqb (missing_of cs) 0) 1 0 → Stands s end at n (missing_bytes (missing_of cs))
      → Reads (present_at k f s at end) n (λ x. x ≡ present_of cs)
  unfolding present_at bind columns
  present_back k cs d l p h =
      let all : missing_of cs + present_of cs + 1 ≡ 2 ^ k = rw d (all_columns cs) in
      let most : 2 ^ k ≤ 2 ^ 63 = pow-le-pow_right (lit< tt) l in
      either (eqb (missing_of cs) 0)
      (λ e.
      let z = eqb-true (missing_of cs) 0 e in
      reads_yes _ _ (rw (p, pick_one _ e)) (reads_to (stands_none s end at n (rw (missing_none _ e) at h)) (reads_got _ at (omega arith))))
      (λ e.
      reads_no _ _ (rw (p, pick_other _ e)) (reads_at _ (varint_back s end at n (missing_of cs) (omega arith) (rw (missing_some _ e) at h))
      (reads_no _ _ (le-ltb (2 ^ k - 1) (missing_of cs) (omega arith)) (reads_got _ n (omega arith)))))

-- ---- the cells
module _ (s : List ℕ) (end : ℕ) (b : Bases) (row : Times) where
  cells_back : (ws : List ℕ) (cs : List (Option CellView)) → CellsFit b ws cs → (at n : ℕ) → Stands s end at n (cells_bytes b row ws cs)
      → Reads (cells_at b row ws (present_of cs) s at end) n (λ xs. show_cells s xs ≡ cs)
  unfolding cells_at cells_bytes present_of
  cells_back [] [] i at n h = reads_to (stands_none s end at n h) (reads_got [] at refl)
  cells_back [] (c ∷ cs) i at n h = absurd (omega arith)
  cells_back (w ∷ ws) [] i at n h = absurd (omega arith)
  cells_back (w ∷ ws) (none ∷ cs) i at n h =
      let even : 2 * present_of cs % 2 ≡ 0 = omega arith in
      let half : 2 * present_of cs / 2 ≡ present_of cs = omega arith in
      reads_no _ _ (rw even) (rw half (reads_on _ (cells_back ws cs i at n h) (λ xs g. reads_got (none ∷ xs) n (λ j. none ∷ g j))))
  cells_back (w ∷ ws) (some c ∷ cs) i at n h =
      let odd : (1 + 2 * present_of cs) % 2 ≡ 1 = omega arith in
      let half : (1 + 2 * present_of cs) / 2 ≡ present_of cs = omega arith in
      reads_yes _ _ (rw odd) (rw half (reads_on _ (cell_back s end b row w at _ c i.0 (stands_left s end at n (cell_form b row w c) (cells_bytes b row ws cs) h)) (λ y e.
      reads_on _ (cells_back ws cs i.1 _ n (stands_right s end at n (cell_form b row w c) (cells_bytes b row ws cs) h)) (λ xs g.
      reads_got (some y ∷ xs) n (λ j. some (e j) ∷ g j)))))

-- the cells of a body that ends at n, which they fill
pub body_cells_back : (s : List ℕ) (b : Bases) (ws : List ℕ) (row : Times) (d : Deletion) (cs : List (Option CellView)) (at n : ℕ) (y : Body) → y ≡ body n row d (present_of cs) → CellsFit b ws cs
    → Stands s n at n (cells_bytes b row ws cs) → Reads (body_cells_at b ws y s at) n (λ xs. show_cells s xs ≡ cs)
unfolding body_cells_at
body_cells_back s b ws row d cs at n y e i h =
    subst (λ z. Reads (body_cells_at b ws z s at) n (λ xs. show_cells s xs ≡ cs)) (sym e)
    (reads_on _ (cells_back s n b row ws cs i at n h) (λ xs g. reads_no _ _ (le-ltb n n (omega arith)) (reads_got xs n g)))

-- ---- the flags
pub record RowBits (f t e d a x : ℕ) : Type 0 where
  pub timed : f / 4 % 2 ≡ t
  pub expires : f / 8 % 2 ≡ e
  pub deleted : f / 16 % 2 ≡ d
  pub all : f / 32 % 2 ≡ a
  pub extended : f / 128 % 2 ≡ x
  pub good : bad_row_flags f ≡ false
  pub row : f % 4 ≡ 0

module _ (t e d a x : ℕ) (h : t ≤ 1) (i : e ≤ t) (j : d ≤ 1) (k : a ≤ 1) (l : x ≤ 1) where
  abbrev f : ℕ
  f = 4 * t + 8 * e + 16 * d + 32 * a + 128 * x

  not_two : t + 2 * e ≡ 2 → ⊥
  not_two z = omega arith

  legal : bad_row_flags f ≡ false
  unfolding bad_row_flags pick
  legal =
      let four : f / 4 ≡ t + 2 * e + 4 * (d + 2 * a + 8 * x) = omega arith in
      let two : f / 4 % 4 ≡ t + 2 * e = rw four (omega arith) in
      let sixty : f / 64 ≡ 2 * x = omega arith in
      let none : f / 64 % 2 ≡ 0 = rw sixty (omega arith) in
      rw (le-ltb 0 (f % 4) (omega arith), ne_eqb (f / 4 % 4) 2 (λ z. not_two (sym two ∙ z))) (ne_eqb (f / 64 % 2) 1 (λ z. omega arith))

  pub row_bits : RowBits f t e d a x
  row_bits =
      let four : f / 4 ≡ t + 2 * (e + 2 * d + 4 * a + 16 * x) = omega arith in
      let eight : f / 8 ≡ e + 2 * (d + 2 * a + 8 * x) = omega arith in
      let sixteen : f / 16 ≡ d + 2 * (a + 4 * x) = omega arith in
      let more : f / 32 ≡ a + 2 * (2 * x) = omega arith in
      let most : f / 128 ≡ x = omega arith in
      record {
        timed = rw four (omega arith);
        expires = rw eight (omega arith);
        deleted = rw sixteen (omega arith);
        all = rw more (omega arith);
        extended = rw most (omega arith);
        good = legal;
        row = omega arith;
      }

one_le : (m : ℕ) → pick {A = ℕ} (eqb m 0) 1 0 ≤ 1
one_le m = pick_ind (λ x. x ≤ 1) _ _ (eqb m 0) (λ e. omega arith) (λ e. omega arith)

pub flags_are : (b : Bases) (ws : List ℕ) (r : RowView) (x : ℕ) → x ≤ 1 → RowFits b ws r
    → RowBits (flags_of x r) r.times.timed r.times.expires r.deletion.deleted (pick (eqb (missing_of r.cells) 0) 1 0) x
unfolding row_flags
flags_are b ws r x l i = row_bits _ _ _ _ _ i.times.timed i.times.expires i.deletion.deleted (one_le (missing_of r.cells)) l

-- ---- the body, up to its first cell
module _ (s : List ℕ) (b : Bases) (ws : List ℕ) (r : RowView) (x f : ℕ) (few : length ws ≤ 63) (i : RowFits b ws r)
    (g : RowBits f r.times.timed r.times.expires r.deletion.deleted (pick (eqb (missing_of r.cells) 0) 1 0) x) where
  abbrev cells : List ℕ
  cells = cells_bytes b r.times ws r.cells

  abbrev pub body_is_lem : ℕ → Body
  body_is_lem stop = body stop r.times r.deletion (present_of r.cells)

  content_back : (end at n stop : ℕ) → Stands s end at n (content_bytes b ws r) → (m : ℕ) × (Reads (content_at b (length ws) f stop s at end) m (λ y. y ≡ body_is_lem stop) × Stands s end m n cells)
  unfolding content_at content_bytes
  content_back end at n stop h =
      let masked : List ℕ = missing_bytes (missing_of r.cells) ++ cells in
      let dead : List ℕ = row_deletion_bytes b r.deletion ++ masked in
      let h₁ = stands_right s end at n (liveness_bytes b r.times) dead h in
      let h₂ = stands_right s end _ n (row_deletion_bytes b r.deletion) masked h₁ in (
        _,
        (
          reads_at _ (liveness_back s end b f at _ r.times i.times g.timed g.expires (stands_left s end at n (liveness_bytes b r.times) dead h))
              (reads_at _ (row_deletion_back s end b f _ _ r.deletion i.deletion g.deleted (stands_left s end _ n (row_deletion_bytes b r.deletion) masked h₁))
              (reads_at _ (present_back s end b f _ _ (length ws) r.cells (cells_length b ws r.cells i.cells) few g.all (stands_left s end _ n (missing_bytes (missing_of r.cells)) cells h₂))
              (reads_got _ _ refl))),
          stands_right s end _ n (missing_bytes (missing_of r.cells)) cells h₂,
        ),
      )

  body_back : (end at n previous : ℕ) → length s < 2 ^ 64 → previous < 2 ^ 64 → Stands s end at n (sized_bytes previous (content_bytes b ws r))
      → (m : ℕ) × (Reads (body_at b (length ws) f s at end) m (λ y. y ≡ body_is_lem n) × Stands s n m n cells)
  unfolding body_at
  body_back end at n previous short small h =
      let w : List ℕ = content_bytes b ws r in
      let c = content_back n (behind_sizes s end at n previous w short small h) n n (sized_rest s end at n previous w short small h) in
      (c.0, (reads_at _ (sizes_back s end at n previous w short small h) c.1.0, c.1.1))

  -- what stands behind flags and extended byte, up to the first cell
  abbrev pub Shows : List ℕ → List (List ℕ) → ℕ → ℕ → ℕ → Row → Type 0
  Shows cs vs end q n y = (y.extended ≡ x) × (y.body ≡ body_is_lem n) × Reads (values_at cs y.prefix.header s y.prefix.values end) q (λ xs. show_values s xs ≡ vs)

  pub rest_back : (cs : List ℕ) (vs : List (List ℕ)) (end at n previous start : ℕ) → length cs ≤ 32 → ValuesFit cs vs → length s < 2 ^ 64 → previous < 2 ^ 64
      → Stands s end at n (prefix_bytes cs vs ++ sized_bytes previous (content_bytes b ws r))
      → (m : ℕ) × (Reads (rest_at b cs (length ws) start f x s at end) m (Shows cs vs end (at + length (prefix_bytes cs vs)) n) × Stands s n m n cells)
  unfolding rest_at
  rest_back cs vs end at n previous start l v short small h =
      let w : List ℕ = sized_bytes previous (content_bytes b ws r) in
      let c = body_back end _ n previous short small (stands_right s end at n (prefix_bytes cs vs) w h) in (
        c.0,
        (
          reads_on _ (prefix_back s end cs vs at _ l v (stands_left s end at n (prefix_bytes cs vs) w h)) (λ p q.
              reads_on _ c.1.0 (λ y e.
              reads_got _ _ (refl, e, q))),
          c.1.1,
        ),
      )
