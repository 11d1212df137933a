-- Rows and markers stored: what is measured and read again makes up their bytes. Assumes nothing.
use mathlib.Core.Path.{◌≡◌, refl, sym, ap, ◌∙◌}
use mathlib.Core.Bool.{true, false}
use mathlib.Core.List.{List, [], ◌∷◌, ◌++◌}
use mathlib.Core.Option.{Option}
use Prim.Native.Nat.{ℕ, suc, ◌+◌, ◌-◌, ◌*◌, ◌/◌, ◌≤◌}
use native.Mathlib.Omega.{arith}
use lib.ListN.{length, take, length-append}
use Rattle.std.proofs.Common.{Ok, Err}
use Rattle.common.specs.Got.{Got, got, on, Reading, said}
use Rattle.common.specs.Store.{Room, Puts}
use Rattle.common.specs.declared.reading.Bad.{Bad}
use Rattle.common.specs.declared.times.Bases.{Bases}
use Rattle.common.proofs.Choose.{pick_ind}
use Rattle.data_field.specs.declared.fields.Deletion.{Deletion}
use Rattle.data_field.specs.declared.fields.Span.{Span}
use Rattle.data_cell.specs.declared.cells.Cell.{Cell}
use Rattle.data_cell.specs.declared.cells.Times.{Times}
use Rattle.data_clustering.specs.Prefixes.{widths_at}
use Rattle.data_marker.specs.declared.markers.Deletions.{Deletions}
use Rattle.schema_check.specs.declared.records.Counts.{Counts}
use Rattle.call_check.specs.Tables.{Table}
use Rattle.data_items.specs.declared.Item.{Item}
use Rattle.data_contents.specs.Contents.{Widths, widths_of, Entry, static_entry, row_entry, marker_entry}
use Rattle.data_contents.proofs.Follows.{Parted, parted}
use Rattle.data_contents.proofs.Values.{widths_take}
use Rattle.list_count.proofs.Follows.{on_got}
use Rattle.write_form.specs.Views.{show_values, show_cells, show_entry, MarkerView, show_marker}
use Rattle.write_form.specs.Clusterings.{header_of, values_bytes, prefix_bytes}
use Rattle.write_form.specs.Rows.{missing_of, cells_bytes, row_flags, content_bytes, sized_bytes, static_bytes, row_bytes}
use Rattle.write_form.specs.Markers.{deletions_bytes}
use Rattle.write_form.specs.Whole.{entry_bytes}
use Rattle.write_row_parts.specs.Parts.{head_form, sizes_form, header_form, bound_form}
use Rattle.write_row_parts.proofs.Laws.{content_form, sized_form, header_form_lem, marker_form}
use Rattle.write_accept.specs.Fields.{item_of, has_time, has_expiry, has_local}
use Rattle.write_accept.specs.Entries.{deletion_of, times_of, deletions_of, row_of, marker_of, taken_values, taken_prefix, taken_cells}
use Rattle.write_accept.proofs.Unfolds.{values_move}
use Rattle.common.proofs.Gives.{never, got_value, got_place}
use Rattle.write_measure_parts.specs.Lengths.{taken_clustering, clustering_measured, cells_measured, Known}
use Rattle.write_store_parts.specs.Again.{cells_again, prefix_again, content_again, body_again, plain_again, fixed_again, deletions_again, bound_again, ValuesThere, CellsThere, Bits}
use Rattle.write_store.specs.Parts.{head_of, bound_of, static_again, row_again, marker_again, row_view, plain_written, entry_written, Fitting, PutsTo}
use Rattle.write_store.specs.declared.entries.Behind.{Behind}
use Rattle.write_store.specs.declared.entries.Head.{Head}
use Rattle.write_store.specs.declared.entries.Bound.{Bound}
use Rattle.write_store.proofs.Taken.{Values, Cells, values_again_lem, prefix_again_lem, cells_again_lem}

-- ---- what a record says
module _ (s : List ℕ) (at : ℕ) (i : Item) (e : i ≡ item_of s at) where
  pub head_is : (x : Times) (y : Deletion) → x ≡ times_of i → y ≡ deletion_of i → ◌≡◌ {A = Head} (record { times = x; deletion = y }) (head_of (item_of s at))
  head_is x y f g = rw (f, g, e) refl

  pub bound_is : (k : ℕ) (x : Deletions) → k ≡ i.column → x ≡ deletions_of i → ◌≡◌ {A = Bound} (record { kind = k; deletions = x }) (bound_of (item_of s at))
  bound_is k x f g = rw (f, g, e) refl

pub ruleset records = (head_is, bound_is, refl)

-- the bits of its flags
timed_bit : (i : Item) → (times_of i).timed ≤ 1
unfolding times_of
timed_bit i = pick_ind (λ (x : Times). x.timed ≤ 1) _ _ (has_time i) (λ e. pick_ind (λ (x : Times). x.timed ≤ 1) _ _ (has_expiry i) (λ f. omega arith) (λ f. omega arith)) (λ e. omega arith)

expires_bit : (i : Item) → (times_of i).expires ≤ 1
unfolding times_of
expires_bit i = pick_ind (λ (x : Times). x.expires ≤ 1) _ _ (has_time i) (λ e. pick_ind (λ (x : Times). x.expires ≤ 1) _ _ (has_expiry i) (λ f. omega arith) (λ f. omega arith)) (λ e. omega arith)

deleted_bit : (i : Item) → (deletion_of i).deleted ≤ 1
unfolding deletion_of
deleted_bit i = pick_ind (λ (x : Deletion). x.deleted ≤ 1) _ _ (has_local i) (λ e. omega arith) (λ e. omega arith)

bits : (s : List ℕ) (at : ℕ) (h : Head) → h ≡ head_of (item_of s at) → Bits h.times h.deletion
bits s at h e = rw e (record { timed = timed_bit (item_of s at); expires = expires_bit (item_of s at); deleted = deleted_bit (item_of s at) })

-- ---- an entry's values and cells are taken
module _ (w d : List ℕ) (to : ℕ) where
  pub fitting_known : {A : Type 0} (x : Got A) → Fitting x w d to → Known x
  fitting_known x fit = record { value = fit.value; place = fit.place; is = fit.is }

  module _ (c : List ℕ) (k : Counts) (b : Bases) (bytes s : List ℕ) (at : ℕ) where
    pub static_known : Fitting (static_again (widths_of c k) b bytes s at (length s)) w d to → Known (taken_cells b bytes 0 (widths_at c (16 + 16 * k.clustering) k.statics) s (at + 64) (length s))
    unfolding static_again widths_of
    static_known fit = let y = parted _ _ fit.value fit.place fit.is in record { value = y.value; place = y.place; is = y.is }

    pub row_known : Fitting (row_again (widths_of c k) b bytes s at (length s)) w d to → Known (taken_clustering true b bytes 0 (widths_at c 16 k.clustering) s (at + 64) (length s))
    unfolding row_again widths_of taken_clustering
    row_known fit = let y = parted _ _ fit.value fit.place fit.is in record { value = y.value; place = y.place; is = y.is }

    pub marker_known : Fitting (marker_again (widths_of c k) b bytes s at (length s)) w d to → Known (taken_clustering false b bytes 0 (widths_at c 16 k.clustering) s (at + 64) (length s))
    unfolding marker_again widths_of taken_clustering
    marker_known fit = let y = parted _ _ fit.value fit.place fit.is in record { value = y.value; place = y.place; is = y.is }

pub ruleset knowns = (fitting_known, static_known, row_known, marker_known)

-- ---- cells that were measured
measured_cells : (b : Bases) (row : Times) (bytes ws : List ℕ) (x : Got (List (Option Cell))) (cs : List (Option Cell)) (n : ℕ) → x ≡ got cs n
    → cells_measured b row bytes ws x ≡ got (missing_of (show_cells bytes cs), length (cells_bytes b row ws (show_cells bytes cs))) n
unfolding cells_measured
measured_cells b row bytes ws x cs n e = rw e refl

-- of a row whose cells are cs
module _ (b : Bases) (c : List ℕ) (base k : ℕ) (bytes s : List ℕ) (at : ℕ) (row : Times) (x : Deletion) (inside : base + 16 * k ≤ length c) where
  abbrev Ws : List ℕ
  Ws = widths_at c base k

  abbrev Of : Got (List (Option Cell))
  Of = taken_cells b bytes 0 Ws s at (length s)

  module _ (cs : List (Option Cell)) (n : ℕ) (e : Of ≡ got cs n) where
    again : Cells b c base bytes s base k cs at n
    again = (cells_again_lem b c base bytes s 0 base k at (omega arith) inside).given cs n e

    many : (n - at) / 64 ≡ again.many
    many = omega (arith, again.place)

    there : CellsThere c base bytes s at ((n - at) / 64)
    there = rw many again.there

    least : at ≤ n
    least = omega (arith, again.place)

    abbrev H : List ℕ
    H = head_form b row x (missing_of (show_cells bytes cs))

    abbrev C : List ℕ
    C = cells_bytes b row Ws (show_cells bytes cs)

    body_is : (back : ℕ) → sized_bytes back (content_bytes b Ws (row_view row x bytes cs)) ≡ body_again back (length C) b row x (missing_of (show_cells bytes cs)) c base bytes s at ((n - at) / 64)
    unfolding body_again content_again
    body_is back =
        ap (sized_bytes back) (content_form b Ws (row_view row x bytes cs))
        ∙ sized_form back (H ++ C)
        ∙ ap (λ (z : ℕ). sizes_form back z ++ (H ++ C)) (length-append H C)
        ∙ ap (λ (z : List ℕ). sizes_form back (length H + length C) ++ (H ++ z)) (again.form row ∙ ap (cells_again b row c base bytes s at) (sym many))

    size_most : (back : ℕ) → length C ≤ length (sized_bytes back (content_bytes b Ws (row_view row x bytes cs)))
    size_most back =
        let e : sized_bytes back (content_bytes b Ws (row_view row x bytes cs)) ≡ sizes_form back (length (H ++ C)) ++ (H ++ C) = ap (sized_bytes back) (content_form b Ws (row_view row x bytes cs)) ∙ sized_form back (H ++ C) in
        rw e (omega (arith, length-append (sizes_form back (length (H ++ C))) (H ++ C), length-append H C))

  -- the answer of the measuring call
  module _ (q : Reading (ℕ × ℕ)) (told : said q ≡ cells_measured b row bytes Ws Of) (cs : List (Option Cell)) (n : ℕ) (e : Of ≡ got cs n) where
    says : said q ≡ got (missing_of (show_cells bytes cs), length (cells_bytes b row Ws (show_cells bytes cs))) n
    says = told ∙ measured_cells b row bytes Ws Of cs n e

    cells_never : {A : Type 0} (y : Bad) → q ≡ Err y → A
    unfolding said
    cells_never y g = never (rw g at says)

    module _ (m z p : ℕ) (g : q ≡ Ok ((m, z), p)) where
      equal : ◌≡◌ {A = Got (ℕ × ℕ)} (got (m, z) p) (got (missing_of (show_cells bytes cs), length (cells_bytes b row Ws (show_cells bytes cs))) n)
      unfolding said
      equal = rw g at says

      missing_as : m ≡ missing_of (show_cells bytes cs)
      missing_as = ap (λ (y : ℕ × ℕ). y.0) (got_value equal)

      size_as : z ≡ length (cells_bytes b row Ws (show_cells bytes cs))
      size_as = ap (λ (y : ℕ × ℕ). y.1) (got_value equal)

      place_as : p ≡ n
      place_as = got_place equal

-- ---- a row whose bytes are w: what stands before its body is F of the missing columns
module _ (b : Bases) (c : List ℕ) (base k : ℕ) (bytes s : List ℕ) (at : ℕ) (row : Times) (x : Deletion) (inside : base + 16 * k ≤ length c) (back : ℕ) (w : List ℕ) (F : ℕ → List ℕ → List ℕ)
    (form : (cs : List (Option Cell)) (n : ℕ) → taken_cells b bytes 0 (widths_at c base k) s at (length s) ≡ got cs n → w ≡ F (missing_of (show_cells bytes cs)) (sized_bytes back (content_bytes b (widths_at c base k) (row_view row x bytes cs))))
    (longer : (m : ℕ) (body : List ℕ) → length body ≤ length (F m body))
    (d : List ℕ) (to : ℕ) (fit : Fitting (taken_cells b bytes 0 (widths_at c base k) s at (length s)) w d to)
    (q : Reading (ℕ × ℕ)) (told : said q ≡ cells_measured b row bytes (widths_at c base k) (taken_cells b bytes 0 (widths_at c base k) s at (length s))) where
  abbrev X : Got (List (Option Cell))
  X = taken_cells b bytes 0 (widths_at c base k) s at (length s)

  front_never : {A : Type 0} (y : Bad) → q ≡ Err y → A
  front_never y g = cells_never b c base k bytes s at row x inside q told fit.value fit.place fit.is y g

  module _ (m z p : ℕ) (g : q ≡ Ok ((m, z), p)) where
    ms : m ≡ missing_of (show_cells bytes fit.value)
    ms = missing_as b c base k bytes s at row x inside q told fit.value fit.place fit.is m z p g

    zs : z ≡ length (cells_bytes b row (widths_at c base k) (show_cells bytes fit.value))
    zs = size_as b c base k bytes s at row x inside q told fit.value fit.place fit.is m z p g

    ps : p ≡ fit.place
    ps = place_as b c base k bytes s at row x inside q told fit.value fit.place fit.is m z p g

    front_least : at ≤ p
    front_least = rw ps (least b c base k bytes s at row x inside fit.value fit.place fit.is)

    front_there : CellsThere c base bytes s at ((p - at) / 64)
    front_there = rw ps (there b c base k bytes s at row x inside fit.value fit.place fit.is)

    whole : w ≡ F m (body_again back z b row x m c base bytes s at ((p - at) / 64))
    whole =
        form fit.value fit.place fit.is
        ∙ rw (ms, zs, ps) (ap (F (missing_of (show_cells bytes fit.value))) (body_is b c base k bytes s at row x inside fit.value fit.place fit.is back))

    front_room : Room d to (F m (body_again back z b row x m c base bytes s at ((p - at) / 64)))
    front_room = rw (← whole) fit.room

    front_size : z ≤ 1073741824
    front_size =
        omega (
          arith,
          zs,
          size_most b c base k bytes s at row x inside fit.value fit.place fit.is back,
          longer (missing_of (show_cells bytes fit.value)) (sized_bytes back (content_bytes b (widths_at c base k) (row_view row x bytes fit.value))),
          ap (λ (y : List ℕ). length y) (form fit.value fit.place fit.is),
          fit.room.fits,
          fit.small,
        )

    front_puts : (d' : List ℕ) (o : ℕ) → Puts d d' to (F m (body_again back z b row x m c base bytes s at ((p - at) / 64))) o → PutsTo X w d d' to (record { next = p; out = o })
    front_puts d' o v = record { next = λ a n e. ps ∙ got_place (sym fit.is ∙ e); puts = rw whole v }

-- ---- a row behind its clustering values
plain_of : (b : Bases) (ws bytes : List ℕ) (back : ℕ) (row : Times) (x : Deletion) (prefix : List ℕ) (y : Got (List (Option Cell))) (cs : List (Option Cell)) (n : ℕ) → y ≡ got cs n
    → plain_written b ws bytes back row x prefix y ≡ plain_again row x (missing_of (show_cells bytes cs)) prefix (sized_bytes back (content_bytes b ws (row_view row x bytes cs)))
unfolding plain_written
plain_of b ws bytes back row x prefix y cs n e = rw e refl

plain_longer : (row : Times) (x : Deletion) (prefix : List ℕ) (m : ℕ) (body : List ℕ) → length body ≤ length (plain_again row x m prefix body)
unfolding plain_again
plain_longer row x prefix m body = omega (arith, length-append (row_flags 0 row x m ∷ []) (prefix ++ body), length-append prefix body)

module _ (c : List ℕ) (k : Counts) (b : Bases) (bytes s : List ℕ) (at : ℕ) (row : Times) (x : Deletion) (back : ℕ) (prefix : List ℕ) (d : List ℕ) (to : ℕ)
    (fit : Fitting (taken_cells b bytes 0 (widths_at c (16 + 16 * (k.clustering + k.statics)) k.regulars) s at (length s)) (plain_written b (widths_at c (16 + 16 * (k.clustering + k.statics)) k.regulars) bytes back row x prefix (taken_cells b bytes 0 (widths_at c (16 + 16 * (k.clustering + k.statics)) k.regulars) s at (length s))) d to)
    (table : Table (length c) k) (q : Reading (ℕ × ℕ)) (told : said q ≡ cells_measured b row bytes (widths_at c (16 + 16 * (k.clustering + k.statics)) k.regulars) (taken_cells b bytes 0 (widths_at c (16 + 16 * (k.clustering + k.statics)) k.regulars) s at (length s))) where
  abbrev Y : Got (List (Option Cell))
  Y = taken_cells b bytes 0 (widths_at c (16 + 16 * (k.clustering + k.statics)) k.regulars) s at (length s)

  abbrev W : List ℕ
  W = plain_written b (widths_at c (16 + 16 * (k.clustering + k.statics)) k.regulars) bytes back row x prefix Y

  inside : 16 + 16 * (k.clustering + k.statics) + 16 * k.regulars ≤ length c
  inside = omega (arith, table.filled)

  form : (cs : List (Option Cell)) (n : ℕ) → Y ≡ got cs n → W ≡ plain_again row x (missing_of (show_cells bytes cs)) prefix (sized_bytes back (content_bytes b (widths_at c (16 + 16 * (k.clustering + k.statics)) k.regulars) (row_view row x bytes cs)))
  form cs n e = plain_of b (widths_at c (16 + 16 * (k.clustering + k.statics)) k.regulars) bytes back row x prefix Y cs n e

  abbrev F : ℕ → List ℕ → List ℕ
  F m body = plain_again row x m prefix body

  pub plain_never : (y : Bad) → q ≡ Err y → (r : Behind) → PutsTo Y W d d to r
  plain_never y g r = front_never b c (16 + 16 * (k.clustering + k.statics)) k.regulars bytes s at row x inside back W F form (plain_longer row x prefix) d to fit q told y g

  module _ (m z p : ℕ) (g : q ≡ Ok ((m, z), p)) where
    pub plain_least : at ≤ p
    plain_least = front_least b c (16 + 16 * (k.clustering + k.statics)) k.regulars bytes s at row x inside back W F form (plain_longer row x prefix) d to fit q told m z p g

    pub plain_there : CellsThere c (16 + 16 * (k.clustering + k.statics)) bytes s at ((p - at) / 64)
    plain_there = front_there b c (16 + 16 * (k.clustering + k.statics)) k.regulars bytes s at row x inside back W F form (plain_longer row x prefix) d to fit q told m z p g

    pub plain_room : Room d to (plain_again row x m prefix (body_again back z b row x m c (16 + 16 * (k.clustering + k.statics)) bytes s at ((p - at) / 64)))
    plain_room = front_room b c (16 + 16 * (k.clustering + k.statics)) k.regulars bytes s at row x inside back W F form (plain_longer row x prefix) d to fit q told m z p g

    pub plain_size : z ≤ 1073741824
    plain_size = front_size b c (16 + 16 * (k.clustering + k.statics)) k.regulars bytes s at row x inside back W F form (plain_longer row x prefix) d to fit q told m z p g

    pub plain_puts : (d' : List ℕ) (o : ℕ) → Puts d d' to (plain_again row x m prefix (body_again back z b row x m c (16 + 16 * (k.clustering + k.statics)) bytes s at ((p - at) / 64))) o → PutsTo Y W d d' to (record { next = p; out = o })
    plain_puts d' o v = front_puts b c (16 + 16 * (k.clustering + k.statics)) k.regulars bytes s at row x inside back W F form (plain_longer row x prefix) d to fit q told m z p g d' o v

pub ruleset plains = (plain_never, plain_least, plain_there, plain_room, plain_size, plain_puts)

-- ---- a static row
fixed_longer : (row : Times) (x : Deletion) (m : ℕ) (body : List ℕ) → length body ≤ length (fixed_again row x m body)
unfolding fixed_again
fixed_longer row x m body = omega (arith, length-append (row_flags 1 row x m ∷ []) ((1 ∷ []) ++ body), length-append (1 ∷ []) body)

pub entry_of_lem : (b : Bases) (t : Widths) (bytes : List ℕ) (back : ℕ) (x : Got Entry) (e : Entry) (n : ℕ) → x ≡ got e n → entry_written b t bytes back x ≡ entry_bytes b t back (show_entry bytes e)
unfolding entry_written
entry_of_lem b t bytes back x e n f = rw f refl

module _ (c : List ℕ) (k : Counts) (b : Bases) (bytes s : List ℕ) (at : ℕ) (d : List ℕ) (to : ℕ) (table : Table (length c) k)
    (fit : Fitting (static_again (widths_of c k) b bytes s at (length s)) (entry_written b (widths_of c k) bytes 0 (static_again (widths_of c k) b bytes s at (length s))) d to)
    (h : Head) (eh : h ≡ head_of (item_of s at))
    (q : Reading (ℕ × ℕ)) (told : said q ≡ cells_measured b h.times bytes (widths_at c (16 + 16 * k.clustering) k.statics) (taken_cells b bytes 0 (widths_at c (16 + 16 * k.clustering) k.statics) s (at + 64) (length s))) where
  abbrev Ew : List ℕ
  Ew = entry_written b (widths_of c k) bytes 0 (static_again (widths_of c k) b bytes s at (length s))

  abbrev Sw : List ℕ
  Sw = widths_at c (16 + 16 * k.clustering) k.statics

  abbrev Sy : Got (List (Option Cell))
  Sy = taken_cells b bytes 0 Sw s (at + 64) (length s)

  abbrev Se : Got Entry
  Se = static_again (widths_of c k) b bytes s at (length s)

  static_as : Se ≡ on Sy (λ cs n. got (static_entry (row_of 1 (item_of s at)) cs) n)
  unfolding static_again widths_of
  static_as = refl

  static_inside : 16 + 16 * k.clustering + 16 * k.statics ≤ length c
  static_inside = omega (arith, table.filled)

  static_parted : Parted Sy (λ cs n. got (static_entry (row_of 1 (item_of s at)) cs) n) fit.value fit.place
  static_parted = parted _ _ fit.value fit.place (sym static_as ∙ fit.is)

  static_form : (cs : List (Option Cell)) (n : ℕ) → Sy ≡ got cs n → Ew ≡ fixed_again h.times h.deletion (missing_of (show_cells bytes cs)) (sized_bytes 0 (content_bytes b Sw (row_view h.times h.deletion bytes cs)))
  unfolding entry_bytes static_bytes fixed_again widths_of
  static_form cs n e = entry_of_lem b (widths_of c k) bytes 0 Se (static_entry (row_of 1 (item_of s at)) cs) n (static_as ∙ on_got Sy cs n _ e) ∙ rw eh refl

  static_fit : Fitting Sy Ew d to
  static_fit = record { value = static_parted.value; place = static_parted.place; is = static_parted.is; room = fit.room; small = fit.small }

  abbrev Sf : ℕ → List ℕ → List ℕ
  Sf m body = fixed_again h.times h.deletion m body

  pub static_bits : Bits h.times h.deletion
  static_bits = bits s at h eh

  pub static_never : (y : Bad) → q ≡ Err y → (r : Behind) → PutsTo Se Ew d d to r
  static_never y g r =
      front_never b c (16 + 16 * k.clustering) k.statics bytes s (at + 64) h.times h.deletion static_inside 0 Ew Sf static_form (fixed_longer h.times h.deletion) d to static_fit q told y g

  module _ (m z p : ℕ) (g : q ≡ Ok ((m, z), p)) where
    pub static_least : at + 64 ≤ p
    static_least =
        front_least b c (16 + 16 * k.clustering) k.statics bytes s (at + 64) h.times h.deletion static_inside 0 Ew Sf static_form (fixed_longer h.times h.deletion) d to static_fit q told m z p g

    pub static_there : CellsThere c (16 + 16 * k.clustering) bytes s (at + 64) ((p - (at + 64)) / 64)
    static_there =
        front_there b c (16 + 16 * k.clustering) k.statics bytes s (at + 64) h.times h.deletion static_inside 0 Ew Sf static_form (fixed_longer h.times h.deletion) d to static_fit q told m z p g

    pub static_room : Room d to (fixed_again h.times h.deletion m (body_again 0 z b h.times h.deletion m c (16 + 16 * k.clustering) bytes s (at + 64) ((p - (at + 64)) / 64)))
    static_room =
        front_room b c (16 + 16 * k.clustering) k.statics bytes s (at + 64) h.times h.deletion static_inside 0 Ew Sf static_form (fixed_longer h.times h.deletion) d to static_fit q told m z p g

    pub static_size : z ≤ 1073741824
    static_size =
        front_size b c (16 + 16 * k.clustering) k.statics bytes s (at + 64) h.times h.deletion static_inside 0 Ew Sf static_form (fixed_longer h.times h.deletion) d to static_fit q told m z p g

    pub static_puts : (d' : List ℕ) (o : ℕ)
        → Puts d d' to (fixed_again h.times h.deletion m (body_again 0 z b h.times h.deletion m c (16 + 16 * k.clustering) bytes s (at + 64) ((p - (at + 64)) / 64))) o
        → PutsTo Se Ew d d' to (record { next = p; out = o })
    static_puts d' o v =
        let w = front_puts b c (16 + 16 * k.clustering) k.statics bytes s (at + 64) h.times h.deletion static_inside 0 Ew Sf static_form (fixed_longer h.times h.deletion) d to static_fit q told m z p g d' o v in
        record {
          next = λ a n e. let y = parted Sy _ a n (sym static_as ∙ e) in w.next y.value y.place y.is ∙ got_place y.rest;
          puts = w.puts;
        }

pub ruleset statics = (static_bits, static_never, static_least, static_there, static_room, static_size, static_puts)

-- ---- clustering values that were measured
shown_count : (bytes : List ℕ) (vs : List Span) → length (show_values bytes vs) ≡ length vs
shown_count bytes [] = refl
shown_count bytes (v ∷ vs) = ap suc (shown_count bytes vs)

prefix_is : (c bytes s : List ℕ) (vs : List Span) (at n : ℕ) → Values c bytes s 16 vs at n
    → prefix_bytes (widths_at c 16 (length vs)) (show_values bytes vs) ≡ prefix_again c (length vs) (header_of (show_values bytes vs)) bytes s at
unfolding prefix_bytes prefix_again
prefix_is c bytes s vs at n v =
    ap (λ (x : List ℕ). x ++ values_bytes (widths_at c 16 (length vs)) (show_values bytes vs)) (header_form_lem (show_values bytes vs) ∙ ap (λ (x : ℕ). header_form x (header_of (show_values bytes vs))) (shown_count bytes vs))
    ∙ ap (λ (x : List ℕ). header_form (length vs) (header_of (show_values bytes vs)) ++ x) v.form

prefix_as : (c bytes s : List ℕ) (vs : List Span) (at n k h : ℕ) → Values c bytes s 16 vs at n → k ≡ length vs → h ≡ header_of (show_values bytes vs)
    → prefix_bytes (widths_at c 16 k) (show_values bytes vs) ≡ prefix_again c k h bytes s at
prefix_as c bytes s vs at n k h v e f = rw (e, f) (prefix_is c bytes s vs at n v)

measured_values : (bytes ws : List ℕ) (x : Got (List Span)) (vs : List Span) (n : ℕ) → x ≡ got vs n
    → clustering_measured bytes ws x ≡ got (length vs, header_of (show_values bytes vs), length (values_bytes ws (show_values bytes vs))) n
unfolding clustering_measured
measured_values bytes ws x vs n e = rw e refl

module _ (bytes ws : List ℕ) (x : Got (List Span)) (q : Reading (ℕ × ℕ × ℕ)) (told : said q ≡ clustering_measured bytes ws x) (vs : List Span) (n : ℕ) (e : x ≡ got vs n) where
  values_say : said q ≡ got (length vs, header_of (show_values bytes vs), length (values_bytes ws (show_values bytes vs))) n
  values_say = told ∙ measured_values bytes ws x vs n e

  values_never : {A : Type 0} (y : Bad) → q ≡ Err y → A
  unfolding said
  values_never y g = never (rw g at values_say)

  module _ (o h z p : ℕ) (g : q ≡ Ok ((o, h, z), p)) where
    values_equal : ◌≡◌ {A = Got (ℕ × ℕ × ℕ)} (got (o, h, z) p) (got (length vs, header_of (show_values bytes vs), length (values_bytes ws (show_values bytes vs))) n)
    unfolding said
    values_equal = rw g at values_say

    count_as : o ≡ length vs
    count_as = ap (λ (y : ℕ × ℕ × ℕ). y.0) (got_value values_equal)

    header_as : h ≡ header_of (show_values bytes vs)
    header_as = ap (λ (y : ℕ × ℕ × ℕ). y.1) (got_value values_equal)

    next_as : p ≡ n
    next_as = got_place values_equal

-- ---- a row
row_form : (b : Bases) (t : Widths) (back : ℕ) (bytes : List ℕ) (h : Head) (i : Item) (vs : List Span) (cs : List (Option Cell)) (prefix : List ℕ) → h ≡ head_of i → prefix_bytes t.clustering (show_values bytes vs) ≡ prefix
    → entry_bytes b t back (show_entry bytes (row_entry (row_of 0 i) vs cs))
    ≡ plain_again h.times h.deletion (missing_of (show_cells bytes cs)) prefix (sized_bytes back (content_bytes b t.regulars (row_view h.times h.deletion bytes cs)))
unfolding entry_bytes row_bytes plain_again
row_form b t back bytes h i vs cs prefix e f = rw (e, ← f) refl

module _ (c : List ℕ) (k : Counts) (b : Bases) (back : ℕ) (bytes s : List ℕ) (at : ℕ) (d : List ℕ) (to : ℕ) (within : at + 64 ≤ length s)
    (fit : Fitting (row_again (widths_of c k) b bytes s at (length s)) (entry_written b (widths_of c k) bytes back (row_again (widths_of c k) b bytes s at (length s))) d to)
    (h : Head) (eh : h ≡ head_of (item_of s at))
    (q : Reading (ℕ × ℕ × ℕ)) (told : said q ≡ clustering_measured bytes (widths_at c 16 k.clustering) (taken_clustering true b bytes 0 (widths_at c 16 k.clustering) s (at + 64) (length s))) where
  abbrev Re : Got Entry
  Re = row_again (widths_of c k) b bytes s at (length s)

  abbrev Rv : Got (List Span)
  Rv = taken_values b bytes 0 (widths_at c 16 k.clustering) s (at + 64) (length s)

  abbrev Rw : List ℕ
  Rw = widths_at c (16 + 16 * (k.clustering + k.statics)) k.regulars

  abbrev Rc : ℕ → Got (List (Option Cell))
  Rc m = taken_cells b bytes 0 Rw s m (length s)

  row_told : said q ≡ clustering_measured bytes (widths_at c 16 k.clustering) Rv
  unfolding taken_clustering
  row_told = told

  row_as : Re ≡ on Rv (λ vs m. on (Rc m) (λ cs n. got (row_entry (row_of 0 (item_of s at)) vs cs) n))
  unfolding row_again widths_of
  row_as = refl

  one : Parted Rv (λ vs m. on (Rc m) (λ cs n. got (row_entry (row_of 0 (item_of s at)) vs cs) n)) fit.value fit.place
  one = parted _ _ fit.value fit.place (sym row_as ∙ fit.is)

  two : Parted (Rc one.place) (λ cs n. got (row_entry (row_of 0 (item_of s at)) one.value cs) n) fit.value fit.place
  two = parted _ _ fit.value fit.place one.rest

  pub row_never : (y : Bad) → q ≡ Err y → (r : Behind) → PutsTo Re (entry_written b (widths_of c k) bytes back Re) d d to r
  row_never y g r = values_never bytes (widths_at c 16 k.clustering) Rv q row_told one.value one.place one.is y g

  pub row_bits : Bits h.times h.deletion
  row_bits = bits s at h eh

  values : (length one.value ≡ k.clustering) × Values c bytes s 16 one.value (at + 64) one.place
  values = (values_again_lem c bytes s b 0 16 k.clustering (at + 64)).given one.value one.place one.is

  pub row_there : ValuesThere bytes s (at + 64) k.clustering
  row_there = rw values.0 at values.1.there

  module _ (o hd z p : ℕ) (g : q ≡ Ok ((o, hd, z), p)) where
    hs : hd ≡ header_of (show_values bytes one.value)
    hs = header_as bytes (widths_at c 16 k.clustering) Rv q row_told one.value one.place one.is o hd z p g

    ns : p ≡ one.place
    ns = next_as bytes (widths_at c 16 k.clustering) Rv q row_told one.value one.place one.is o hd z p g

    pub row_within : p ≤ length s
    row_within = rw ns (((values_move b bytes s (length s) 0 (widths_at c 16 k.clustering) (at + 64)).given one.value one.place one.is).within within)

    abbrev Rp : List ℕ
    Rp = prefix_again c k.clustering hd bytes s (at + 64)

    row_prefix : prefix_bytes (widths_at c 16 k.clustering) (show_values bytes one.value) ≡ Rp
    row_prefix = prefix_as c bytes s one.value (at + 64) one.place k.clustering hd values.1 (sym values.0) hs

    row_bytes_lem : entry_written b (widths_of c k) bytes back Re ≡ plain_written b Rw bytes back h.times h.deletion Rp (Rc p)
    unfolding widths_of
    row_bytes_lem =
        entry_of_lem b (widths_of c k) bytes back Re fit.value fit.place fit.is
        ∙ ap (λ (x : Entry). entry_bytes b (widths_of c k) back (show_entry bytes x)) (sym (got_value two.rest))
        ∙ row_form b (widths_of c k) back bytes h (item_of s at) one.value two.value Rp eh row_prefix
        ∙ sym (plain_of b Rw bytes back h.times h.deletion Rp (Rc p) two.value two.place (rw ns two.is))

    pub row_fits : Fitting (Rc p) (plain_written b Rw bytes back h.times h.deletion Rp (Rc p)) d to
    row_fits = record { value = two.value; place = two.place; is = rw ns two.is; room = rw (← row_bytes_lem) fit.room; small = fit.small }

    pub row_puts : (d' : List ℕ) (r : Behind) → PutsTo (Rc p) (plain_written b Rw bytes back h.times h.deletion Rp (Rc p)) d d' to r → PutsTo Re (entry_written b (widths_of c k) bytes back Re) d d' to r
    row_puts d' r w = record {
      next = λ a n e. w.next two.value two.place (rw ns two.is) ∙ got_place (two.rest ∙ sym fit.is ∙ e);
      puts = rw row_bytes_lem w.puts;
    }

pub ruleset rows = (row_never, row_bits, row_there, row_within, row_fits, row_puts)

-- ---- a marker
bound_form_lem : (b : Bases) (back o : ℕ) (h : Bound) (i : Item) (prefix : List ℕ) (n : ℕ) → h ≡ bound_of i → n ≡ o
    → bound_form i.column n ++ (prefix ++ sized_bytes back (deletions_bytes b i.column (deletions_of i))) ≡ bound_again b back h.kind o h.deletions prefix
unfolding bound_again deletions_again
bound_form_lem b back o h i prefix n e f = rw (e, f) (ap (λ (x : List ℕ). bound_form i.column o ++ (prefix ++ x)) (sized_form back (deletions_bytes b i.column (deletions_of i))))

bound_prefix : (c bytes s : List ℕ) (vs : List Span) (at n k o h : ℕ) → Values c bytes s 16 vs at n → length vs ≤ k → o ≡ length vs → h ≡ header_of (show_values bytes vs)
    → prefix_bytes (take (length (show_values bytes vs)) (widths_at c 16 k)) (show_values bytes vs) ≡ prefix_again c o h bytes s at
bound_prefix c bytes s vs at n k o h v l e f =
    let w : take (length (show_values bytes vs)) (widths_at c 16 k) ≡ widths_at c 16 o = rw (shown_count bytes vs, e) (widths_take c 16 (length vs) k l) in
    ap (λ (x : List ℕ). prefix_bytes x (show_values bytes vs)) w ∙ prefix_as c bytes s vs at n o h v e f

module _ (c : List ℕ) (k : Counts) (b : Bases) (back : ℕ) (bytes s : List ℕ) (at : ℕ) (d : List ℕ) (to : ℕ) (table : Table (length c) k) (kind : (item_of s at).column ≤ 7)
    (fit : Fitting (marker_again (widths_of c k) b bytes s at (length s)) (entry_written b (widths_of c k) bytes back (marker_again (widths_of c k) b bytes s at (length s))) d to)
    (h : Bound) (eh : h ≡ bound_of (item_of s at))
    (q : Reading (ℕ × ℕ × ℕ)) (told : said q ≡ clustering_measured bytes (widths_at c 16 k.clustering) (taken_clustering false b bytes 0 (widths_at c 16 k.clustering) s (at + 64) (length s))) where
  abbrev Me : Got Entry
  Me = marker_again (widths_of c k) b bytes s at (length s)

  abbrev Mv : Got (List Span)
  Mv = taken_prefix b bytes 0 (widths_at c 16 k.clustering) s (at + 64) (length s)

  marker_told : said q ≡ clustering_measured bytes (widths_at c 16 k.clustering) Mv
  unfolding taken_clustering
  marker_told = told

  marker_as : Me ≡ on Mv (λ vs n. got (marker_entry (marker_of (item_of s at) vs) 0 vs) n)
  unfolding marker_again widths_of
  marker_as = refl

  bound : Parted Mv (λ vs n. got (marker_entry (marker_of (item_of s at) vs) 0 vs) n) fit.value fit.place
  bound = parted _ _ fit.value fit.place (sym marker_as ∙ fit.is)

  pub marker_never : (y : Bad) → q ≡ Err y → (r : Behind) → PutsTo Me (entry_written b (widths_of c k) bytes back Me) d d to r
  marker_never y g r = values_never bytes (widths_at c 16 k.clustering) Mv q marker_told bound.value bound.place bound.is y g

  pub marker_kind : h.kind ≤ 7
  marker_kind = rw eh kind

  bounds : (length bound.value ≤ k.clustering) × Values c bytes s 16 bound.value (at + 64) bound.place
  bounds = (prefix_again_lem c bytes s b 0 16 k.clustering (at + 64)).given bound.value bound.place bound.is

  module _ (o hd z p : ℕ) (g : q ≡ Ok ((o, hd, z), p)) where
    os : o ≡ length bound.value
    os = count_as bytes (widths_at c 16 k.clustering) Mv q marker_told bound.value bound.place bound.is o hd z p g

    bs : hd ≡ header_of (show_values bytes bound.value)
    bs = header_as bytes (widths_at c 16 k.clustering) Mv q marker_told bound.value bound.place bound.is o hd z p g

    es : p ≡ bound.place
    es = next_as bytes (widths_at c 16 k.clustering) Mv q marker_told bound.value bound.place bound.is o hd z p g

    pub marker_few : o ≤ 32
    marker_few = omega (arith, os, bounds.0, table.clustering)

    pub marker_inside : 16 + 16 * o ≤ length c
    marker_inside = omega (arith, os, bounds.0, table.filled)

    pub marker_there : ValuesThere bytes s (at + 64) o
    marker_there = rw os bounds.1.there

    marker_prefix : prefix_bytes (take (length (show_values bytes bound.value)) (widths_at c 16 k.clustering)) (show_values bytes bound.value) ≡ prefix_again c o hd bytes s (at + 64)
    marker_prefix = bound_prefix c bytes s bound.value (at + 64) bound.place k.clustering o hd bounds.1 bounds.0 os bs

    abbrev Mm : MarkerView
    Mm = show_marker bytes (marker_of (item_of s at) bound.value) bound.value

    marker_bytes_lem : entry_written b (widths_of c k) bytes back Me ≡ bound_again b back h.kind o h.deletions (prefix_again c o hd bytes s (at + 64))
    unfolding entry_bytes widths_of
    marker_bytes_lem =
        entry_of_lem b (widths_of c k) bytes back Me fit.value fit.place fit.is
        ∙ ap (λ (x : Entry). entry_bytes b (widths_of c k) back (show_entry bytes x)) (sym (got_value bound.rest))
        ∙ marker_form b (widths_at c 16 k.clustering) back Mm
        ∙ ap (λ (x : List ℕ). bound_form (item_of s at).column (length (show_values bytes bound.value)) ++ (x ++ sized_bytes back (deletions_bytes b (item_of s at).column (deletions_of (item_of s at))))) marker_prefix
        ∙ bound_form_lem b back o h (item_of s at) (prefix_again c o hd bytes s (at + 64)) (length (show_values bytes bound.value)) eh (shown_count bytes bound.value ∙ sym os)

    pub marker_room : Room d to (bound_again b back h.kind o h.deletions (prefix_again c o hd bytes s (at + 64)))
    marker_room = rw (← marker_bytes_lem) fit.room

    pub marker_puts : (d' : List ℕ) (n : ℕ) → Puts d d' to (bound_again b back h.kind o h.deletions (prefix_again c o hd bytes s (at + 64))) n
        → PutsTo Me (entry_written b (widths_of c k) bytes back Me) d d' to (record { next = p; out = n })
    marker_puts d' n w = record { next = λ a m e. es ∙ got_place (bound.rest ∙ sym fit.is ∙ e); puts = rw marker_bytes_lem w }

pub ruleset markers = (marker_never, marker_kind, marker_few, marker_inside, marker_there, marker_room, marker_puts)
