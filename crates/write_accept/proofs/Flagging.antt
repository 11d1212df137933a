-- The flags of a row that was read tell its times and its deletion. Assumes nothing.
use mathlib.Core.Path.{◌≡◌, sym, ◌∙◌}
use mathlib.Core.Bool.{false}
use mathlib.Core.List.{List, [], ◌∷◌}
use Prim.Native.Nat.{ℕ, zero, suc, ◌-◌, ◌*◌, ◌/◌, ◌%◌}
use native.Mathlib.Omega.{arith}
use borrow.Author.Tests.{eqb-true, eqb-false}
use lib.Dec.{ltb, eqb}
use lib.ListN.{length}
use Rattle.common.specs.Got.{Got}
use Rattle.common.specs.declared.times.Bases.{Bases}
use Rattle.common.proofs.Gives.{Gives, gives_got, gives_bad, gives_on, gives_pick}
use Rattle.data_field.specs.Fields.{live}
use Rattle.data_field.specs.declared.fields.Deletion.{Deletion}
use Rattle.data_cell.specs.declared.cells.Times.{Times}
use Rattle.data_field.proofs.Ranges.{deletion_gives}
use Rattle.data_row.specs.Flags.{bad_row_flags}
use Rattle.data_row.specs.Bodies.{expiry_at, liveness_at, row_deletion_at, content_at, body_at}
use Rattle.data_row.specs.Rows.{rest_at, row_at}
use Rattle.data_row.specs.declared.bodies.Body.{Body}
use Rattle.data_row.proofs.Gives.{flags_give}
use Rattle.data_contents.specs.Contents.{Widths, Entry, static_entry, row_entry, marker_entry, Contents, open_behind, row_entry_at, marker_entry_at, entry_at, closed_at, entries_in, entries_at, whole_at, partitions_in, contents_at}
use Rattle.write_accept.proofs.Goods.{not_first, not_second}
use Rattle.write_accept.proofs.Heads.{Flagged}

any : {A : Type 0} (x : Got A) → Gives x (λ a n. Unit)
any x = record { given = λ a n e. tt }

-- ---- bits
bit : (x : ℕ) → eqb (x % 2) 1 ≡ false → x % 2 ≡ 0
bit x e = let z = eqb-false (x % 2) 1 e in omega arith

even_half : (g : ℕ) → g % 2 ≡ 0 → (g % 4 ≡ 2 → ⊥) → g / 2 % 2 ≡ 0
even_half g e f = even (g / 2) (g / 4) (halved (quarter g e f))
  where
    even : (x q : ℕ) → x ≡ 2 * q → x % 2 ≡ 0
    even x q e = omega arith

    quarter : (g : ℕ) → g % 2 ≡ 0 → (g % 4 ≡ 2 → ⊥) → g % 4 ≡ 0
    quarter g e f = omega arith

    halved : g % 4 ≡ 0 → g / 2 ≡ 2 * (g / 4)
    halved e = omega arith

eighths : (f : ℕ) → f / 4 / 2 ≡ f / 8
eighths f = omega arith

no_expiry : (f : ℕ) → bad_row_flags f ≡ false → f / 4 % 2 ≡ 0 → f / 8 % 2 ≡ 0
unfolding bad_row_flags
no_expiry f e g =
    let h = eqb-false (f / 4 % 4) 2 (not_first (eqb (f / 4 % 4) 2) _ (not_second (ltb 0 (f % 4)) _ e)) in
    rw (eighths f) at (even_half (f / 4) g h)

-- ---- bodies
module _ (b : Bases) (f : ℕ) (s : List ℕ) where
  abbrev Timed : Times → Type 0
  Timed x = (f / 4 % 2 ≡ x.timed) × (f / 8 % 2 ≡ x.expires)

  liveness_flagged : bad_row_flags f ≡ false → (at end : ℕ) → Gives (liveness_at b f s at end) (λ x n. Timed x)
  unfolding liveness_at expiry_at
  liveness_flagged h at end =
      gives_pick (eqb (f / 4 % 2) 1)
      (λ e.
      gives_on _ (any _) (λ t m _.
      gives_pick (eqb (f / 8 % 2) 1)
      (λ g. gives_on _ (any _) (λ y p _. gives_on _ (any _) (λ x n _. gives_got _ _ (eqb-true (f / 4 % 2) 1 e, eqb-true (f / 8 % 2) 1 g))))
      (λ g. gives_got _ _ (eqb-true (f / 4 % 2) 1 e, bit (f / 8) g))))
      (λ e. gives_got _ _ (bit (f / 4) e, no_expiry f h (bit (f / 4) e)))

  deletion_flagged : (at end : ℕ) → Gives (row_deletion_at b f s at end) (λ d n. f / 16 % 2 ≡ d.deleted)
  unfolding row_deletion_at
  deletion_flagged at end =
      gives_pick (eqb (f / 16 % 2) 1)
      (λ e. record { given = λ d n g. eqb-true (f / 16 % 2) 1 e ∙ sym ((deletion_gives b s at end).given d n g).0 })
      (λ e. gives_got _ _ (bit (f / 16) e))

  abbrev Bodied : Body → Type 0
  Bodied y = Timed y.times × (f / 16 % 2 ≡ y.deletion.deleted)

  content_flagged : bad_row_flags f ≡ false → (k stop at end : ℕ) → Gives (content_at b k f stop s at end) (λ y n. Bodied y)
  unfolding content_at
  content_flagged h k stop at end =
      gives_on _ (liveness_flagged h at end) (λ x m g.
      gives_on _ (deletion_flagged m end) (λ d p j.
      gives_on _ (any _) (λ present n _.
      gives_got _ _ (g, j))))

  body_flagged : bad_row_flags f ≡ false → (k at end : ℕ) → Gives (body_at b k f s at end) (λ y n. Bodied y)
  unfolding body_at
  body_flagged h k at end = gives_on _ (any _) (λ stop m _. content_flagged h k stop m stop)

  rest_flagged : bad_row_flags f ≡ false → (ws : List ℕ) (k start x at end : ℕ) → Gives (rest_at b ws k start f x s at end) (λ r n. Flagged r)
  unfolding rest_at
  rest_flagged h ws k start x at end =
      gives_on _ (any _) (λ p m _.
      gives_on _ (body_flagged h k m end) (λ y n g.
      gives_got _ _ (record { timed = g.0.0; expires = g.0.1; deleted = g.1 })))

row_flagged : (b : Bases) (ws : List ℕ) (statics regulars first : ℕ) (s : List ℕ) (at end : ℕ) → Gives (row_at b ws statics regulars first s at end) (λ r n. Flagged r)
unfolding row_at
row_flagged b ws statics regulars first s at end =
    gives_on _ (flags_give s at end) (λ f m g.
    gives_on _ (any _) (λ x p _.
    gives_pick (eqb x 1) (λ e. rest_flagged b f s g.0 [] statics at 1 p end) (λ e. rest_flagged b f s g.0 ws regulars at 0 p end)))

-- ---- entries
abbrev pub FlaggedEntry : Entry → Type 0
FlaggedEntry (static_entry r cs) = Flagged r
FlaggedEntry (row_entry r vs cs) = Flagged r
FlaggedEntry (marker_entry m n vs) = Unit

abbrev pub FlaggedEntries : List Entry → Type 0
FlaggedEntries [] = Unit
FlaggedEntries (e ∷ es) = FlaggedEntry e × FlaggedEntries es

abbrev pub FlaggedAll : List Contents → Type 0
FlaggedAll [] = Unit
FlaggedAll (p ∷ ps) = FlaggedEntries p.entries × FlaggedAll ps

module _ (t : Widths) (b : Bases) (s : List ℕ) where
  entry_flagged : (first : ℕ) (opened : Deletion) (f at end : ℕ) → Gives (entry_at t b first opened f s at end) (λ e n. FlaggedEntry e)
  unfolding entry_at row_entry_at marker_entry_at
  entry_flagged first opened f at end =
      gives_pick (eqb f 2)
      (λ e. gives_on _ (any _) (λ m n _. gives_on _ (any _) (λ vs q _. gives_got _ _ tt)))
      (λ e.
      gives_on _ (row_flagged b t.clustering (length t.statics) (length t.regulars) first s at end) (λ r n g.
      gives_pick (eqb r.extended 1)
      (λ h. gives_on _ (any _) (λ cs m _. gives_got _ _ g))
      (λ h. gives_on _ (any _) (λ vs q _. gives_on _ (any _) (λ cs m _. gives_got _ _ g)))))

  entries_flagged : (j first : ℕ) (opened : Deletion) (at end : ℕ) → Gives (entries_in j t b first opened s at end) (λ es p. FlaggedEntries es)
  unfolding entries_in closed_at
  entries_flagged zero first opened at end = gives_bad _ _
  entries_flagged (suc j) first opened at end =
      gives_on _ (any _) (λ f n _.
      gives_pick (eqb f 1)
      (λ e. gives_pick (eqb opened.deleted 0) (λ d. gives_got _ _ tt) (λ d. gives_bad _ _))
      (λ e.
      gives_on _ (entry_flagged first opened f at end) (λ x m h.
      gives_on _ (entries_flagged j 0 (open_behind opened x) m end) (λ es p k.
      gives_got _ _ (h, k)))))

  partitions_flagged : (j at end : ℕ) → Gives (partitions_in j t b s at end) (λ xs n. FlaggedAll xs)
  unfolding partitions_in whole_at entries_at
  partitions_flagged zero at end = gives_got _ _ tt
  partitions_flagged (suc j) at end =
      gives_pick (eqb at end) (λ e. gives_got _ _ tt) (λ e.
      gives_on _ (whole_flagged at end) (λ x m g.
      gives_on _ (partitions_flagged j m end) (λ xs n k.
      gives_got _ _ (g, k))))
    where
      whole_flagged : (at end : ℕ) → Gives (whole_at t b s at end) (λ x n. FlaggedEntries x.entries)
      whole_flagged at end = gives_on _ (any _) (λ h m _. gives_on _ (entries_flagged (end - m) 1 live m end) (λ es p k. gives_got _ _ k))

  pub contents_flagged : (at end : ℕ) → Gives (contents_at t b s at end) (λ xs n. FlaggedAll xs)
  unfolding contents_at
  contents_flagged at end = partitions_flagged (end - at) at end
