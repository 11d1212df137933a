-- A row counted: its values, which reading it has shown to be there, and its cells. Assumes nothing.
use Rattle.common.specs.declared.reading.Bad.{Bad}
use Rattle.std.proofs.Common.{Err, Ok}
use mathlib.Core.Path.{◌≡◌, refl, sym, ap, ◌∙◌}
use mathlib.Core.List.{List, []}
use mathlib.Core.Logic.{◌⊎◌, inl, inr}
use mathlib.Core.Option.{Option}
use Prim.Native.Nat.{ℕ, ◌+◌, ◌*◌, ◌≤◌}
use native.Mathlib.Omega.{arith}
use borrow.Author.Tests.{eq-eqb, ne_eqb}
use lib.Dec.{eqb}
use lib.ListN.{length, length-append}
use Rattle.common.specs.Choose.{pick}
use Rattle.common.specs.Got.{Got, got, bad, on, Reading, said}
use Rattle.common.specs.declared.times.Bases.{Bases}
use Rattle.common.proofs.Choose.{pick_yes, pick_no}
use Rattle.common.proofs.Gives.{gives_is}
use Rattle.data_field.specs.declared.fields.Span.{Span}
use Rattle.data_cell.specs.declared.cells.Cell.{Cell}
use Rattle.data_clustering.specs.Prefixes.{values_at, widths_at}
use Rattle.data_clustering.proofs.Loops.{widths_count}
use Rattle.data_row.specs.Bodies.{columns}
use Rattle.data_row.specs.Rows.{row_at}
use Rattle.data_row.specs.declared.rows.Row.{Row}
use Rattle.data_row.proofs.Gives.{RestOk, RowOk, row_gives}
use Rattle.schema_check.specs.declared.records.Counts.{Counts}
use Rattle.data_contents.specs.Contents.{widths_of, static_entry, row_entry, body_cells_at, row_entry_at, values_listed, cells_listed}
use Rattle.list_count.specs.Counted.{whole_cells_at, cells_counted, entry_counted}
use Rattle.list_count.proofs.Follows.{on_got}
use Rattle.list_count.proofs.Many.{many_values, values_count}
use Rattle.common.proofs.Said.{said_got}

static_counted : (n : ℕ) (r : Row) (x : Got (List (Option Cell))) → cells_counted (n + 1) x ≡ entry_counted n (on x (λ cs m. got (static_entry r cs) m))
unfolding cells_counted entry_counted on
static_counted n r (got cs m) = ap (λ (i : ℕ). got i m) (omega arith)
static_counted n r (bad f p) = refl

row_counted : (n k : ℕ) (r : Row) (vs : List Span) (x : Got (List (Option Cell))) → length vs ≡ k → cells_counted (n + 1 + k) x ≡ entry_counted n (on x (λ cs m. got (row_entry r vs cs) m))
unfolding cells_counted entry_counted on
row_counted n k r vs (got cs m) e = ap (λ (i : ℕ). got i m) (omega (arith, e, many_values 0 vs, length-append (values_listed 0 vs) (cells_listed 0 cs)))
row_counted n k r vs (bad f p) e = refl

module _ (c s : List ℕ) (k : Counts) (b : Bases) (first at : ℕ) (q : Reading Row) (told : said q ≡ row_at b (widths_at c 16 k.clustering) k.statics k.regulars first s at (length s)) where
  -- the columns' counts are those of the schema
  pub row_as : said q ≡ row_at b (widths_of c k).clustering (length (widths_of c k).statics) (length (widths_of c k).regulars) first s at (length s)
  unfolding widths_of
  row_as = rw (widths_count c (16 + 16 * k.clustering) k.statics, widths_count c (16 + 16 * (k.clustering + k.statics)) k.regulars) told

  module _ (r : Row) (m : ℕ) (f : q ≡ Ok (r, m)) where
    pub ok : RowOk b (widths_at c 16 k.clustering) k.statics k.regulars s at (length s) r m
    ok = gives_is (row_gives b (widths_at c 16 k.clustering) k.statics k.regulars first s at (length s)) (said_got q _ r m told f)

    pub entry_as : row_entry_at (widths_of c k) b first s at (length s)
        ≡ pick (eqb r.extended 1)
        (on (body_cells_at b (widths_of c k).statics r.body s m) (λ cs p. got (static_entry r cs) p))
        (on (values_at (widths_of c k).clustering r.prefix.header s r.prefix.values (length s)) (λ vs p.
        on (body_cells_at b (widths_of c k).regulars r.body s m) (λ cs p.
        got (row_entry r vs cs) p)))
    unfolding row_entry_at
    entry_as = on_got _ r m _ (said_got q _ r m row_as f)

    pub row_static : (n : ℕ) (x : Reading ℕ) → r.extended ≡ 1
        → said x ≡ cells_counted (n + 1) (whole_cells_at b r.body.times (widths_at c (16 + 16 * k.clustering) k.statics) r.body.present s m r.body.stop)
        → said x ≡ entry_counted n (row_entry_at (widths_of c k) b first s at (length s))
    unfolding body_cells_at whole_cells_at widths_of
    row_static n x e g = g ∙ static_counted n r _ ∙ ap (entry_counted n) (sym (entry_as ∙ sym (pick_yes _ _ _ _ (eq-eqb _ _ e) refl)))

    plain : (r.extended ≡ 1 → ⊥) → RestOk b (widths_at c 16 k.clustering) k.regulars s ok.clustering (length s) r m
    plain e = of ok.rest
      where
        of : ((r.extended ≡ 1) × RestOk b [] k.statics s ok.clustering (length s) r m) ⊎ ((r.extended ≡ 0) × RestOk b (widths_at c 16 k.clustering) k.regulars s ok.clustering (length s) r m)
            → RestOk b (widths_at c 16 k.clustering) k.regulars s ok.clustering (length s) r m
        of (inl z) = absurd (e z.0)
        of (inr z) = z.1

    static : r.extended ≡ 1 → RestOk b [] k.statics s ok.clustering (length s) r m
    static e = of ok.rest
      where
        of : ((r.extended ≡ 1) × RestOk b [] k.statics s ok.clustering (length s) r m) ⊎ ((r.extended ≡ 0) × RestOk b (widths_at c 16 k.clustering) k.regulars s ok.clustering (length s) r m)
            → RestOk b [] k.statics s ok.clustering (length s) r m
        of (inl z) = z.1
        of (inr z) = absurd (omega (arith, e, z.0))

    behind : (vs : List Span) (z : ℕ) → values_at (widths_at c 16 k.clustering) r.prefix.header s r.prefix.values (length s) ≡ got vs z
        → on (values_at (widths_of c k).clustering r.prefix.header s r.prefix.values (length s)) (λ vs p. on (body_cells_at b (widths_of c k).regulars r.body s m) (λ cs p. got (row_entry r vs cs) p))
        ≡ on (whole_cells_at b r.body.times (widths_at c (16 + 16 * (k.clustering + k.statics)) k.regulars) r.body.present s m r.body.stop) (λ cs p. got (row_entry r vs cs) p)
    unfolding body_cells_at whole_cells_at widths_of
    behind vs z e = on_got _ vs z _ e

    pub row_plain : (n : ℕ) (x : Reading ℕ) → (r.extended ≡ 1 → ⊥)
        → said x ≡ cells_counted (n + 1 + k.clustering) (whole_cells_at b r.body.times (widths_at c (16 + 16 * (k.clustering + k.statics)) k.regulars) r.body.present s m r.body.stop)
        → said x ≡ entry_counted n (row_entry_at (widths_of c k) b first s at (length s))
    row_plain n x e g =
        let p = (plain e).prefix in
        let h : length p.read ≡ k.clustering = values_count s (widths_at c 16 k.clustering) p.read p.values ∙ widths_count c 16 k.clustering in
        g ∙ row_counted n k.clustering r p.read (whole_cells_at b r.body.times (widths_at c (16 + 16 * (k.clustering + k.statics)) k.regulars) r.body.present s m r.body.stop) h
        ∙ ap (entry_counted n) (sym (entry_as ∙ sym (pick_no _ _ _ _ (ne_eqb _ _ e) refl) ∙ behind p.read (plain e).sizes p.is))

    pub present_statics : (x : ℕ) → r.extended ≡ 1 → x ≡ r.body.present → x ≤ columns k.statics
    present_statics x e f = rw f (static e).body.present

    pub present_regulars : (x : ℕ) → (r.extended ≡ 1 → ⊥) → x ≡ r.body.present → x ≤ columns k.regulars
    present_regulars x e f = rw f (plain e).body.present

  pub row_bad : (n : ℕ) (err : Bad) → q ≡ Err err → bad err.fault err.place ≡ entry_counted n (row_entry_at (widths_of c k) b first s at (length s))
  unfolding row_entry_at said entry_counted on
  row_bad n err e = rw (← row_as, e) refl

pub ruleset rows = (row_static, row_plain, present_statics, present_regulars, row_bad, refl)
