-- A row stored: its record, its values, its cells. Assumes nothing.
use Rattle.std.proofs.Common.{Ok}
use mathlib.Core.Path.{◌≡◌, refl, sym, ap, ◌∙◌}
use mathlib.Core.List.{List, [], ◌∷◌, ◌++◌, append_assoc}
use mathlib.Core.Option.{Option}
use Prim.Native.Nat.{ℕ, ◌+◌, ◌*◌, ◌≤◌}
use borrow.Author.Tests.{eq-eqb, ne_eqb}
use lib.ListN.{length}
use Rattle.common.specs.Got.{Got, got, on, Took, Reading, said}
use Rattle.common.specs.Store.{Room, Puts}
use Rattle.common.specs.declared.times.Bases.{Bases}
use Rattle.common.proofs.Choose.{pick_yes, pick_no}
use Rattle.common.proofs.Gives.{got_value, got_place}
use Rattle.common.proofs.Took.{took_first}
use Rattle.common.proofs.Puts.{room_left, room_right, puts_then}
use Rattle.data_cell.specs.declared.cells.Cell.{Cell}
use Rattle.data_clustering.specs.Prefixes.{values_at, widths_at}
use Rattle.data_clustering.proofs.Loops.{widths_count}
use Rattle.data_row.specs.Bodies.{columns}
use Rattle.data_row.specs.Rows.{row_at}
use Rattle.data_row.specs.declared.rows.Row.{Row}
use Rattle.schema_check.specs.declared.records.Counts.{Counts}
use Rattle.data_items.specs.Items.{row_item}
use Rattle.data_items.specs.declared.Item.{Item}
use Rattle.data_contents.specs.Contents.{widths_of, Entry, static_entry, row_entry, body_cells_at, row_entry_at, cells_listed, entry_listed}
use Rattle.data_contents.proofs.Follows.{Parted, parted}
use Rattle.data_contents.proofs.Gives.{body_cells_give, row_placed}
use Rattle.list_count.specs.Counted.{whole_cells_at}
use Rattle.list_count.proofs.Rows.{ok, entry_as, present_statics, present_regulars}
use Rattle.list_call.specs.Records.{record_of, records_of}
use Rattle.list_call.specs.Parts.{cells_of, values_of, entry_of, statics_at, regulars_at, clustering_of, Fitting, FittingStatic, FittingRow, PutsEntry}
use Rattle.list_call.proofs.PutCells.{cells_of_lem}
use Rattle.list_call.proofs.PutValues.{values_of_lem}

pub records_both : (l m : List Item) → records_of (l ++ m) ≡ records_of l ++ records_of m
unfolding records_of
records_both [] m = refl
records_both (i ∷ l) m = ap (λ (x : List ℕ). record_of i ++ x) (records_both l m) ∙ sym (append_assoc (record_of i) (records_of l) (records_of m))

records_head : (i : Item) (l : List Item) → records_of (i ∷ l) ≡ record_of i ++ records_of l
unfolding records_of
records_head i l = refl

-- ---- an item and others
module _ (d : List ℕ) (to : ℕ) (i : Item) (l : List Item) (room : Room d to (records_of (i ∷ l))) where
  parts : Room d to (record_of i ++ records_of l)
  parts = rw (← records_head i l) room

  pub head_room : Room d to (record_of i)
  head_room = room_left d to (record_of i) (records_of l) parts

  module _ (d₁ : List ℕ) (n : ℕ) (p : Puts d d₁ to (record_of i) n) where
    pub rest_room : Room d₁ n (records_of l)
    rest_room = room_right d d₁ to n (record_of i) (records_of l) parts p

    pub all_puts : (d₂ : List ℕ) (m : ℕ) → Puts d₁ d₂ n (records_of l) m → Puts d d₂ to (records_of (i ∷ l)) m
    all_puts d₂ m q = rw (records_head i l) (puts_then d d₁ d₂ to n m (record_of i) (records_of l) parts p q)

-- ---- a static row
module _ (c : List ℕ) (k : Counts) (b : Bases) (s : List ℕ) (r : Row) (n : ℕ) (d : List ℕ) (to : ℕ) (f : FittingStatic c k b s r n d to) (it : Item) (e : it ≡ row_item 2 r) where
  pub static_head : Room d to (record_of it)
  static_head = rw e (head_room d to (row_item 2 r) _ f.room)

  module _ (d₁ : List ℕ) (m : ℕ) (p : Puts d d₁ to (record_of it) m) where
    item_puts : Puts d d₁ to (record_of (row_item 2 r)) m
    item_puts = rw (← e) p

    pub static_cells : Fitting (whole_cells_at b r.body.times (widths_at c (16 + 16 * k.clustering) k.statics) r.body.present s n r.body.stop) (cells_of (whole_cells_at b r.body.times (widths_at c (16 + 16 * k.clustering) k.statics) r.body.present s n r.body.stop)) d₁ m
    unfolding statics_at
    static_cells = record { value = f.cells; place = f.place; is = f.is; room = rest_room d to (row_item 2 r) _ f.room d₁ m item_puts }

    pub static_puts : (d₂ : List ℕ) (q : ℕ) → Puts d₁ d₂ m (records_of (cells_of (whole_cells_at b r.body.times (widths_at c (16 + 16 * k.clustering) k.statics) r.body.present s n r.body.stop))) q
        → Puts d d₂ to (records_of (row_item 2 r ∷ cells_of (statics_at c k b s r n))) q
    unfolding statics_at
    static_puts d₂ q w = all_puts d to (row_item 2 r) _ f.room d₁ m item_puts d₂ q w

pub static_present : (c : List ℕ) (k : Counts) (b : Bases) (s : List ℕ) (r : Row) (n : ℕ) (d : List ℕ) (to : ℕ) → FittingStatic c k b s r n d to → r.body.present ≤ columns k.statics
static_present c k b s r n d to f = f.present

pub ruleset statics = (static_head, static_cells, static_puts, static_present)

-- ---- another row
module _ (c : List ℕ) (k : Counts) (b : Bases) (s : List ℕ) (r : Row) (n : ℕ) (d : List ℕ) (to : ℕ) (f : FittingRow c k b s r n d to) (it : Item) (e : it ≡ row_item 3 r) where
  pub plain_head : Room d to (record_of it)
  plain_head = rw e (head_room d to (row_item 3 r) _ f.room)

  module _ (d₁ : List ℕ) (m : ℕ) (p : Puts d d₁ to (record_of it) m) where
    by : Puts d d₁ to (record_of (row_item 3 r)) m
    by = rw (← e) p

    rest : Room d₁ m (records_of (values_of (clustering_of c k s r)) ++ records_of (cells_of (regulars_at c k b s r n)))
    rest = rw (← records_both (values_of (clustering_of c k s r)) (cells_of (regulars_at c k b s r n))) (rest_room d to (row_item 3 r) _ f.room d₁ m by)

    pub plain_values : Fitting (values_at (widths_at c 16 k.clustering) r.prefix.header s r.prefix.values (length s)) (values_of (values_at (widths_at c 16 k.clustering) r.prefix.header s r.prefix.values (length s))) d₁ m
    unfolding clustering_of
    plain_values = record { value = f.values; place = f.end; is = f.are; room = room_left d₁ m _ _ rest }

    module _ (d₂ : List ℕ) (q : ℕ) (g : Puts d₁ d₂ m (records_of (values_of (values_at (widths_at c 16 k.clustering) r.prefix.header s r.prefix.values (length s)))) q) where
      pub plain_cells : Fitting (whole_cells_at b r.body.times (widths_at c (16 + 16 * (k.clustering + k.statics)) k.regulars) r.body.present s n r.body.stop) (cells_of (whole_cells_at b r.body.times (widths_at c (16 + 16 * (k.clustering + k.statics)) k.regulars) r.body.present s n r.body.stop)) d₂ q
      unfolding regulars_at clustering_of
      plain_cells = record { value = f.cells; place = f.place; is = f.is; room = room_right d₁ d₂ m q _ _ rest g }

      pub plain_puts : (d₃ : List ℕ) (o : ℕ) → Puts d₂ d₃ q (records_of (cells_of (whole_cells_at b r.body.times (widths_at c (16 + 16 * (k.clustering + k.statics)) k.regulars) r.body.present s n r.body.stop))) o
          → Puts d d₃ to (records_of (row_item 3 r ∷ (values_of (clustering_of c k s r) ++ cells_of (regulars_at c k b s r n)))) o
      unfolding regulars_at clustering_of
      plain_puts d₃ o w =
          all_puts d to (row_item 3 r) _ f.room d₁ m by d₃ o
          (rw (records_both (values_of (clustering_of c k s r)) (cells_of (regulars_at c k b s r n))) (puts_then d₁ d₂ d₃ m q o _ _ rest g w))

pub plain_present : (c : List ℕ) (k : Counts) (b : Bases) (s : List ℕ) (r : Row) (n : ℕ) (d : List ℕ) (to : ℕ) → FittingRow c k b s r n d to → r.body.present ≤ columns k.regulars
plain_present c k b s r n d to f = f.present

pub ruleset plains = (plain_head, plain_values, plain_cells, plain_puts, plain_present)

-- ---- a row as an entry
pub entry_of_lem : (x : Got Entry) (e : Entry) (n : ℕ) → x ≡ got e n → entry_of x ≡ entry_listed e
unfolding entry_of
entry_of_lem x e n d = rw d refl

module _ (c s : List ℕ) (k : Counts) (b : Bases) (first at : ℕ) (d : List ℕ) (to : ℕ)
    (fit : Fitting (row_entry_at (widths_of c k) b first s at (length s)) (entry_of (row_entry_at (widths_of c k) b first s at (length s))) d to) where
  abbrev Entry₀ : Got Entry
  Entry₀ = row_entry_at (widths_of c k) b first s at (length s)

  pub row_took : Took (row_at b (widths_at c 16 k.clustering) k.statics k.regulars first s at (length s))
  unfolding row_entry_at widths_of
  row_took =
      let t : Took Entry₀ = record { value = fit.value; place = fit.place; is = fit.is } in
      rw (widths_count c (16 + 16 * k.clustering) k.statics, widths_count c (16 + 16 * (k.clustering + k.statics)) k.regulars) at (took_first _ _ t)

  module _ (r : Row) (m : ℕ) (g₀ : got r m ≡ row_at b (widths_at c 16 k.clustering) k.statics k.regulars first s at (length s)) where
    abbrev q : Reading Row
    q = Ok (r, m)

    told : said q ≡ row_at b (widths_at c 16 k.clustering) k.statics k.regulars first s at (length s)
    unfolding said
    told = g₀

    f : q ≡ Ok (r, m)
    f = refl

    within : m ≤ r.body.stop
    within = (row_placed b (widths_at c 16 k.clustering) k.statics k.regulars s at (length s) r m (ok c s k b first at q told r m f)).within

    -- where the entry ends, and its items
    record Ends (l : List Item) : Type 0 where
      stops : (e : Entry) (n : ℕ) → Entry₀ ≡ got e n → r.body.stop ≡ n
      items : entry_of Entry₀ ≡ l

    static_as : r.extended ≡ 1 → Entry₀ ≡ on (statics_at c k b s r m) (λ cs p. got (static_entry r cs) p)
    unfolding statics_at body_cells_at whole_cells_at widths_of
    static_as e = entry_as c s k b first at q told r m f ∙ sym (pick_yes _ _ _ _ (eq-eqb _ _ e) refl)

    plain_as : (r.extended ≡ 1 → ⊥) → Entry₀ ≡ on (clustering_of c k s r) (λ vs p. on (regulars_at c k b s r m) (λ cs p. got (row_entry r vs cs) p))
    unfolding clustering_of regulars_at body_cells_at whole_cells_at widths_of
    plain_as e = entry_as c s k b first at q told r m f ∙ sym (pick_no _ _ _ _ (ne_eqb _ _ e) refl)

    statics_end : (cs : List (Option Cell)) (n : ℕ) → statics_at c k b s r m ≡ got cs n → n ≡ r.body.stop
    unfolding statics_at body_cells_at whole_cells_at
    statics_end cs n e = ((body_cells_give b (widths_at c (16 + 16 * k.clustering) k.statics) r.body s m within).given cs n e).1

    regulars_end : (cs : List (Option Cell)) (n : ℕ) → regulars_at c k b s r m ≡ got cs n → n ≡ r.body.stop
    unfolding regulars_at body_cells_at whole_cells_at
    regulars_end cs n e = ((body_cells_give b (widths_at c (16 + 16 * (k.clustering + k.statics)) k.regulars) r.body s m within).given cs n e).1

    module _ (e : r.extended ≡ 1) where
      h : Parted (statics_at c k b s r m) (λ cs p. got (static_entry r cs) p) fit.value fit.place
      h = parted _ _ fit.value fit.place (sym (static_as e) ∙ fit.is)

      static_ends : Ends (row_item 2 r ∷ cells_of (statics_at c k b s r m))
      static_ends = record {
        stops = λ x n y. sym (statics_end h.value h.place h.is) ∙ got_place (h.rest ∙ sym fit.is ∙ y);
        items = entry_of_lem Entry₀ fit.value fit.place fit.is ∙ ap entry_listed (sym (got_value h.rest)) ∙ ap (λ (l : List Item). row_item 2 r ∷ l) (sym (cells_of_lem _ h.value h.place h.is));
      }

      pub row_static_fits : FittingStatic c k b s r m d to
      row_static_fits = record {
        present = present_statics c s k b first at q told r m f r.body.present e refl;
        cells = h.value;
        place = h.place;
        is = h.is;
        room = rw (← static_ends.items) fit.room;
      }

      pub row_static_puts : (d' : List ℕ) (o : ℕ) → Puts d d' to (records_of (row_item 2 r ∷ cells_of (statics_at c k b s r m))) o → PutsEntry Entry₀ d d' to (record { next = r.body.stop; out = o })
      row_static_puts d' o w = record { next = static_ends.stops; puts = rw static_ends.items w }

    module _ (e : r.extended ≡ 1 → ⊥) where
      v : Parted (clustering_of c k s r) (λ vs p. on (regulars_at c k b s r m) (λ cs p. got (row_entry r vs cs) p)) fit.value fit.place
      v = parted _ _ fit.value fit.place (sym (plain_as e) ∙ fit.is)

      g : Parted (regulars_at c k b s r m) (λ cs p. got (row_entry r v.value cs) p) fit.value fit.place
      g = parted _ _ fit.value fit.place v.rest

      plain_ends : Ends (row_item 3 r ∷ (values_of (clustering_of c k s r) ++ cells_of (regulars_at c k b s r m)))
      plain_ends = record {
        stops = λ x n y. sym (regulars_end g.value g.place g.is) ∙ got_place (g.rest ∙ sym fit.is ∙ y);
        items =
            entry_of_lem Entry₀ fit.value fit.place fit.is
            ∙ ap entry_listed (sym (got_value g.rest))
            ∙ ap (λ (l : List Item). row_item 3 r ∷ (l ++ cells_listed 0 g.value)) (sym (values_of_lem _ v.value v.place v.is))
            ∙ ap (λ (l : List Item). row_item 3 r ∷ (values_of (clustering_of c k s r) ++ l)) (sym (cells_of_lem _ g.value g.place g.is));
      }

      pub row_plain_fits : FittingRow c k b s r m d to
      row_plain_fits = record {
        present = present_regulars c s k b first at q told r m f r.body.present e refl;
        values = v.value;
        end = v.place;
        are = v.is;
        cells = g.value;
        place = g.place;
        is = g.is;
        room = rw (← plain_ends.items) fit.room;
      }

      pub row_plain_puts : (d' : List ℕ) (o : ℕ) → Puts d d' to (records_of (row_item 3 r ∷ (values_of (clustering_of c k s r) ++ cells_of (regulars_at c k b s r m)))) o → PutsEntry Entry₀ d d' to (record { next = r.body.stop; out = o })
      row_plain_puts d' o w = record { next = plain_ends.stops; puts = rw plain_ends.items w }

pub ruleset rows = (row_took, row_static_fits, row_static_puts, row_plain_fits, row_plain_puts)
