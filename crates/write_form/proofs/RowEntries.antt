-- A row with its cells, and a static one, in the writer's form is read back. Assumes nothing.
use mathlib.Core.Path.{◌≡◌, refl, sym, subst}
use mathlib.Core.Bool.{true, false}
use mathlib.Core.List.{List, [], ◌∷◌, ◌++◌}
use Prim.Native.Nat.{ℕ, ◌+◌, ◌/◌, ◌%◌, ◌^◌, ◌<◌}
use native.Mathlib.Omega.{arith}
use borrow.Author.Tests.{ne_eqb, eq-eqb}
use lib.Dec.{eqb}
use lib.ListN.{length}
use Rattle.common.specs.Choose.{pick}
use Rattle.common.specs.Got.{Got}
use Rattle.common.specs.declared.times.Bases.{Bases}
use Rattle.common.proofs.RoundTrip.{Reads, reads_got, reads_on, reads_at, reads_yes, reads_no}
use Rattle.common.proofs.Stands.{Stands, stands_left, stands_right}
use Rattle.data_row.specs.Flags.{bad_row_flags, row_flags_at, extended_of, extended_at}
use Rattle.data_turns.specs.Turns.{may_stand}
use Rattle.data_row.specs.Rows.{row_at}
use Rattle.data_row.specs.declared.rows.Row.{Row}
use Rattle.data_contents.specs.Contents.{Widths, static_entry, row_entry, row_entry_at}
use Rattle.write_form.specs.Views.{RowView, static_view, row_view, show_entry}
use Rattle.write_form.specs.Clusterings.{header_bytes, values_bytes, prefix_bytes}
use Rattle.write_form.specs.Rows.{missing_of, cells_bytes, flags_of, content_bytes, sized_bytes, static_bytes, row_bytes}
use Rattle.write_form.specs.Fits.{Bounded, RowFits, ValuesFit}
use Rattle.write_form.proofs.Fields.{byte_back}
use Rattle.write_form.proofs.Rows.{RowBits, flags_are, Shows, rest_back, body_cells_back}

flags_back : (s : List ℕ) (end at n f : ℕ) → bad_row_flags f ≡ false → Stands s end at n (f ∷ []) → Reads (row_flags_at s at end) n (λ y. y ≡ f)
unfolding row_flags_at
flags_back s end at n f e h = reads_at _ (byte_back s end at n f h) (reads_no _ _ e (reads_got f n refl))

static_back : (s : List ℕ) (end at n f first statics : ℕ) → f / 128 % 2 ≡ 1 → may_stand first statics ≡ true → Stands s end at n (1 ∷ []) → Reads (extended_at f first statics s at end) n (λ x. x ≡ 1)
unfolding extended_at extended_of
static_back s end at n f first statics e m h = reads_yes _ _ (rw e) (reads_at _ (byte_back s end at n 1 h) (reads_no _ _ refl (reads_yes _ _ refl (reads_yes _ _ m (reads_got 1 n refl)))))

plain_back : (s : List ℕ) (end at f first statics : ℕ) → f / 128 % 2 ≡ 0 → Reads (extended_at f first statics s at end) at (λ x. x ≡ 0)
unfolding extended_at
plain_back s end at f first statics e = reads_no _ _ (rw e) (reads_got 0 at refl)

-- a static row has no clustering
no_prefix : prefix_bytes [] [] ≡ []
unfolding prefix_bytes header_bytes values_bytes pick
no_prefix = refl

module _ (s : List ℕ) (short : length s < 2 ^ 64) (t : Widths) (few : Bounded t) (b : Bases) (first end at n : ℕ) (r : RowView) where
  abbrev row_read : Got Row
  row_read = row_at b t.clustering (length t.statics) (length t.regulars) first s at end

  module _ (may : may_stand first (length t.statics) ≡ true) (i : RowFits b t.statics r) (h : Stands s end at n (static_bytes b t.statics r)) where
    bits₁ : RowBits (flags_of 1 r) r.times.timed r.times.expires r.deletion.deleted (pick (eqb (missing_of r.cells) 0) 1 0) 1
    bits₁ = flags_are b t.statics r 1 (omega arith) i

    static_row_back : (m : ℕ) × (Reads row_read m (Shows s b t.statics r 1 (flags_of 1 r) few.statics i bits₁ [] [] end (at + 1 + 1 + length (prefix_bytes [] [])) n) × Stands s n m n (cells_bytes b r.times t.statics r.cells))
    unfolding row_at static_bytes
    static_row_back =
        let w : List ℕ = sized_bytes 0 (content_bytes b t.statics r) in
        let h₁ = stands_right s end at n (flags_of 1 r ∷ []) ((1 ∷ []) ++ w) h in
        let h₂ = stands_right s end _ n (1 ∷ []) w h₁ in
        let c = rest_back s b t.statics r 1 (flags_of 1 r) few.statics i bits₁ [] [] end _ n 0 at (omega arith) tt short (omega arith) (subst (λ z. Stands s end (at + 1 + 1) n (z ++ w)) (sym no_prefix) h₂) in (
          c.0,
          (
            reads_at _ (flags_back s end at _ (flags_of 1 r) bits₁.good (stands_left s end at n (flags_of 1 r ∷ []) ((1 ∷ []) ++ w) h))
                (reads_at _ (static_back s end _ _ (flags_of 1 r) first (length t.statics) bits₁.extended may (stands_left s end _ n (1 ∷ []) w h₁))
                (reads_yes _ _ refl c.1.0)),
            c.1.1,
          ),
        )

    pub static_entry_back : Reads (row_entry_at t b first s at end) n (λ e. show_entry s e ≡ static_view r)
    unfolding row_entry_at
    static_entry_back =
        let c = static_row_back in
        reads_on _ c.1.0 (λ y q.
        reads_yes _ _ (eq-eqb y.extended 1 q.0)
        (reads_on _ (body_cells_back s b t.statics r.times r.deletion r.cells _ n y.body q.1 i.cells c.1.1) (λ xs g.
        reads_got (static_entry y xs) n (λ j. static_view (record { times = (q.1 j).times; deletion = (q.1 j).deletion; cells = g j })))))

  module _ (vs : List (List ℕ)) (previous : ℕ) (small : previous < 2 ^ 64) (v : ValuesFit t.clustering vs) (i : RowFits b t.regulars r) (h : Stands s end at n (row_bytes b t.clustering t.regulars previous vs r)) where
    bits₀ : RowBits (flags_of 0 r) r.times.timed r.times.expires r.deletion.deleted (pick (eqb (missing_of r.cells) 0) 1 0) 0
    bits₀ = flags_are b t.regulars r 0 (omega arith) i

    row_back : (m : ℕ) × (Reads row_read m (Shows s b t.regulars r 0 (flags_of 0 r) few.regulars i bits₀ t.clustering vs end (at + 1 + length (prefix_bytes t.clustering vs)) n) × Stands s n m n (cells_bytes b r.times t.regulars r.cells))
    unfolding row_at row_bytes
    row_back =
        let w : List ℕ = prefix_bytes t.clustering vs ++ sized_bytes previous (content_bytes b t.regulars r) in
        let c = rest_back s b t.regulars r 0 (flags_of 0 r) few.regulars i bits₀ t.clustering vs end _ n previous at few.clustering v short small (stands_right s end at n (flags_of 0 r ∷ []) w h) in (
          c.0,
          (
            reads_at _ (flags_back s end at _ (flags_of 0 r) bits₀.good (stands_left s end at n (flags_of 0 r ∷ []) w h))
                (reads_at _ (plain_back s end _ (flags_of 0 r) first (length t.statics) bits₀.extended)
                (reads_no _ _ refl c.1.0)),
            c.1.1,
          ),
        )

    pub row_entry_back : Reads (row_entry_at t b first s at end) n (λ e. show_entry s e ≡ row_view vs r)
    unfolding row_entry_at
    row_entry_back =
        let c = row_back in
        reads_on _ c.1.0 (λ y q.
        reads_no _ _ (ne_eqb y.extended 1 (λ z. absurd (omega (arith, q.0))))
        (reads_on _ q.2 (λ us d.
        reads_on _ (body_cells_back s b t.regulars r.times r.deletion r.cells _ n y.body q.1 i.cells c.1.1) (λ xs g.
        reads_got (row_entry y us xs) n (λ j. row_view (d j) (record { times = (q.1 j).times; deletion = (q.1 j).deletion; cells = g j }))))))
