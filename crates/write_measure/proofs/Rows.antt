-- One entry measured: a static row, a row, a marker. Assumes nothing.
use mathlib.Core.Path.{◌≡◌, refl, sym, ap, ◌∙◌}
use mathlib.Core.Bool.{true, false}
use mathlib.Core.List.{List}
use mathlib.Core.Option.{Option}
use Prim.Native.Nat.{ℕ, ◌+◌, ◌*◌, ◌≤◌, ◌<◌}
use native.Mathlib.Omega.{arith}
use borrow.Author.Tests.{eq-eqb, ne_eqb}
use lib.Dec.{eqb}
use lib.ListN.{length}
use Rattle.std.proofs.Common.{Ok, Err}
use Rattle.common.specs.Choose.{pick}
use Rattle.common.specs.Got.{Got, got, bad, on, Reading, said}
use Rattle.common.specs.declared.reading.Bad.{Bad}
use Rattle.common.specs.declared.refusal.Fault.{Fault}
use Rattle.common.specs.declared.refusal.Fault.TheVariants.{BadRecord}
use Rattle.common.specs.declared.times.Bases.{Bases}
use Rattle.common.proofs.Choose.{pick_yes, pick_no}
use Rattle.common.proofs.Said.{said_err, said_got, said_not}
use Rattle.data_field.specs.declared.fields.Deletion.{Deletion}
use Rattle.data_field.specs.declared.fields.Span.{Span}
use Rattle.data_cell.specs.declared.cells.Times.{Times}
use Rattle.data_cell.specs.declared.cells.Cell.{Cell}
use Rattle.data_clustering.specs.Prefixes.{widths_at}
use Rattle.data_clustering.proofs.Loops.{widths_count}
use Rattle.data_marker.specs.Markers.{open_after}
use Rattle.data_marker.specs.declared.markers.Deletions.{Deletions}
use Rattle.schema_check.specs.declared.records.Counts.{Counts}
use Rattle.data_items.specs.declared.Item.{Item}
use Rattle.data_contents.specs.Contents.{Widths, widths_of, Entry, static_entry, row_entry, marker_entry}
use Rattle.write_form.specs.Views.{show_values, show_cells, show_entry}
use Rattle.write_form.specs.Clusterings.{header_of, values_bytes}
use Rattle.write_form.specs.Rows.{missing_of, cells_bytes}
use Rattle.write_form.specs.Markers.{deletions_bytes}
use Rattle.write_form.specs.Whole.{entry_bytes, back_behind}
use Rattle.write_accept.specs.Records.{record_at}
use Rattle.write_accept.specs.Tests.{bad_row, bad_static, bad_marker}
use Rattle.write_accept.specs.Entries.{times_of, row_of, deletions_of, marker_of, taken_cells, taken_static, taken_row, taken_marker, taken_entry}
use Rattle.write_accept.proofs.Goods.{record_gives}
use Rattle.write_record.specs.Records.{wrong_in}
use Rattle.write_record.specs.declared.tests.Turn.TheVariants.{Static, Marker}
use Rattle.list_count.proofs.Follows.{on_got, on_bad}
use Rattle.write_row_parts.specs.Parts.{sizes_form, header_form}
use Rattle.write_measure_parts.specs.Lengths.{taken_clustering, clustering_measured, cells_measured}
use Rattle.write_measure.specs.Measured.{body_length, sized_length, static_length, row_length, marker_length, static_behind, row_behind, entry_measured}
use Rattle.write_measure.proofs.Lengths.{body_most, static_length_lem, row_length_lem, marker_length_lem}
use Rattle.write_measure.proofs.Most.{clustering_grown, cells_grown}

-- ---- what was measured
-- cells
record CelledOf (b : Bases) (row : Times) (bytes ws : List ℕ) (x : Got (List (Option Cell))) (m n p : ℕ) : Type 0 where
  cells : List (Option Cell)
  is : x ≡ got cells p
  missing : m ≡ missing_of (show_cells bytes cells)
  size : n ≡ length (cells_bytes b row ws (show_cells bytes cells))

module _ (b : Bases) (row : Times) (bytes ws : List ℕ) where
  celled_got : (x : Got (List (Option Cell))) (m n p : ℕ) → got (m, n) p ≡ cells_measured b row bytes ws x → CelledOf b row bytes ws x m n p
  unfolding cells_measured
  celled_got (got cs q) m n p e =
      let f : q ≡ p = cc in
      let g : ◌≡◌ {A = ℕ × ℕ} (m, n) (missing_of (show_cells bytes cs), length (cells_bytes b row ws (show_cells bytes cs))) = cc in
      record { cells = cs; is = ap (got cs) f; missing = ap (λ (x : ℕ × ℕ). x.0) g; size = ap (λ (x : ℕ × ℕ). x.1) g }
  celled_got (bad f q) m n p e = let z : ◌≡◌ {A = ℕ} 0 1 = cc in absurd (omega arith)

  celled_bad : (x : Got (List (Option Cell))) (f : Fault) (p : ℕ) → bad f p ≡ cells_measured b row bytes ws x → x ≡ bad f p
  unfolding cells_measured
  celled_bad (got cs q) f p e = let z : ◌≡◌ {A = ℕ} 0 1 = cc in absurd (omega arith)
  celled_bad (bad y q) f p e =
      let g : y ≡ f = cc in
      let h : q ≡ p = cc in
      rw (g, h) refl

  module _ (x : Got (List (Option Cell))) (r : Reading (ℕ × ℕ)) (told : said r ≡ cells_measured b row bytes ws x) where
    celled_of : (m n p : ℕ) → r ≡ Ok ((m, n), p) → CelledOf b row bytes ws x m n p
    unfolding said
    celled_of m n p e = celled_got x m n p (rw e at told)

    celled_not : (u : Bad) → r ≡ Err u → x ≡ bad u.fault u.place
    unfolding said
    celled_not u e = celled_bad x u.fault u.place (rw e at told)

-- clustering values
record ClusteredOf (bytes ws : List ℕ) (x : Got (List Span)) (k h n p : ℕ) : Type 0 where
  values : List Span
  is : x ≡ got values p
  count : k ≡ length values
  header : h ≡ header_of (show_values bytes values)
  size : n ≡ length (values_bytes ws (show_values bytes values))

module _ (bytes ws : List ℕ) where
  clustered_got : (x : Got (List Span)) (k h n p : ℕ) → got (k, h, n) p ≡ clustering_measured bytes ws x → ClusteredOf bytes ws x k h n p
  unfolding clustering_measured
  clustered_got (got vs q) k h n p e =
      let f : q ≡ p = cc in
      let g : ◌≡◌ {A = ℕ × ℕ × ℕ} (k, h, n) (length vs, header_of (show_values bytes vs), length (values_bytes ws (show_values bytes vs))) = cc in
      record {
        values = vs;
        is = ap (got vs) f;
        count = ap (λ (x : ℕ × ℕ × ℕ). x.0) g;
        header = ap (λ (x : ℕ × ℕ × ℕ). x.1) g;
        size = ap (λ (x : ℕ × ℕ × ℕ). x.2) g;
      }
  clustered_got (bad f q) k h n p e = let z : ◌≡◌ {A = ℕ} 0 1 = cc in absurd (omega arith)

  clustered_bad : (x : Got (List Span)) (f : Fault) (p : ℕ) → bad f p ≡ clustering_measured bytes ws x → x ≡ bad f p
  unfolding clustering_measured
  clustered_bad (got vs q) f p e = let z : ◌≡◌ {A = ℕ} 0 1 = cc in absurd (omega arith)
  clustered_bad (bad y q) f p e =
      let g : y ≡ f = cc in
      let h : q ≡ p = cc in
      rw (g, h) refl

  module _ (x : Got (List Span)) (r : Reading (ℕ × ℕ × ℕ)) (told : said r ≡ clustering_measured bytes ws x) where
    clustered_of : (k h n p : ℕ) → r ≡ Ok ((k, h, n), p) → ClusteredOf bytes ws x k h n p
    unfolding said
    clustered_of k h n p e = clustered_got x k h n p (rw e at told)

    clustered_not : (u : Bad) → r ≡ Err u → x ≡ bad u.fault u.place
    unfolding said
    clustered_not u e = clustered_bad x u.fault u.place (rw e at told)

-- ---- an entry's answer
module _ (b : Bases) (t : Widths) (bytes : List ℕ) (opened : Deletion) (back : ℕ) where
  refused_is : (x : Got Entry) (f : Fault) (p : ℕ) → x ≡ bad f p → bad f p ≡ entry_measured b t bytes opened back x
  unfolding entry_measured
  refused_is x f p e = rw e refl

  same : (o u : Deletion) (h k m n q : ℕ) → o ≡ u → h ≡ k → m ≡ n → ◌≡◌ {A = Got (Deletion × ℕ × ℕ)} (got (o, h, m) q) (got (u, k, n) q)
  same o u h k m n q d e f = rw (d, e, f) refl

  static_is : (x : Got Entry) (i : Item) (cs : List (Option Cell)) (n p : ℕ) → x ≡ got (static_entry (row_of 1 i) cs) p → n ≡ length (entry_bytes b t back (show_entry bytes (static_entry (row_of 1 i) cs)))
      → said (Ok ((opened, back + n, n), p)) ≡ entry_measured b t bytes opened back x
  unfolding said entry_measured back_behind
  static_is x i cs n p e f = rw e (same _ _ _ _ _ _ p refl (ap (λ (k : ℕ). back + k) f) f)

  row_is : (x : Got Entry) (i : Item) (vs : List Span) (cs : List (Option Cell)) (n p : ℕ) → x ≡ got (row_entry (row_of 0 i) vs cs) p → n ≡ length (entry_bytes b t back (show_entry bytes (row_entry (row_of 0 i) vs cs)))
      → said (Ok ((opened, n, n), p)) ≡ entry_measured b t bytes opened back x
  unfolding said entry_measured back_behind
  row_is x i vs cs n p e f = rw e (same _ _ _ _ _ _ p refl f f)

  marker_is : (x : Got Entry) (i : Item) (vs : List Span) (o : Deletion) (n p : ℕ) → x ≡ got (marker_entry (marker_of i vs) 0 vs) p → o ≡ open_after i.column (deletions_of i)
      → n ≡ length (entry_bytes b t back (show_entry bytes (marker_entry (marker_of i vs) 0 vs))) → said (Ok ((o, n, n), p)) ≡ entry_measured b t bytes opened back x
  unfolding said entry_measured back_behind
  marker_is x i vs o n p e d f = rw e (same _ _ _ _ _ _ p d f f)

-- ---- sums are not too large
pub body_fits : (b : Bases) (i : Item) (missing n x : ℕ) → n ≤ 36028797018963968 → x ≡ body_length b i missing n → x ≤ 288230376151711744
body_fits b i missing n x h e = omega (arith, e, body_most b i missing n)

pub cells_fit : (n : ℕ) → n ≤ 36028797018963968 → n ≤ 144115188075855872
cells_fit n h = omega arith

pub deletions_fit : (n : ℕ) → n ≤ 36 → n ≤ 288230376151711744
deletions_fit n h = omega arith

pub back_fits : (back z : ℕ) → back ≤ 36028797018963968 → z ≤ 288230376151711764 → back + z < 18446744073709551616
back_fits back z h l = omega arith

-- what the code adds up
pub sized_added : (previous n x : ℕ) → x ≡ length (sizes_form previous n) → x + n ≡ sized_length previous n
unfolding sized_length
sized_added previous n x e = rw e refl

pub row_added : (b : Bases) (i : Item) (back count header v missing n x z w : ℕ) → x ≡ body_length b i missing n → z ≡ sized_length back x → w ≡ length (header_form count header)
    → 1 + w + v + z ≡ row_length b i back count header v missing n
unfolding row_length
row_added b i back count header v missing n x z w e f g = rw (f, e, g) refl

pub marker_added : (b : Bases) (kind : ℕ) (d : Deletions) (back count header v x z w : ℕ) → x ≡ length (deletions_bytes b kind d) → z ≡ sized_length back x → w ≡ length (header_form count header)
    → 4 + w + v + z ≡ marker_length b kind d back count header v
unfolding marker_length
marker_added b kind d back count header v x z w e f g = rw (f, e, g) refl

pub static_added : (b : Bases) (i : Item) (missing n x z : ℕ) → x ≡ body_length b i missing n → z ≡ sized_length 0 x → 2 + z ≡ static_length b i missing n
unfolding static_length
static_added b i missing n x z e f = rw (f, e) refl

pub ruleset sums = (body_fits, cells_fit, deletions_fit, row_added, marker_added, static_added)

-- ---- sums by their parts
body_sum : (b : Bases) (i : Item) (back m m' n n' : ℕ) → m ≡ m' → n ≡ n' → sized_length back (body_length b i m n) ≡ sized_length back (body_length b i m' n')
body_sum b i back m m' n n' e f = rw (e, f) refl

header_sum : (k k' h h' : ℕ) → k ≡ k' → h ≡ h' → length (header_form k h) ≡ length (header_form k' h')
header_sum k k' h h' e f = rw (e, f) refl

times_sum : (b : Bases) (row row' : Times) (bytes ws : List ℕ) (cs : List (Option Cell)) (n : ℕ) → row ≡ row' → n ≡ length (cells_bytes b row ws (show_cells bytes cs)) → n ≡ length (cells_bytes b row' ws (show_cells bytes cs))
times_sum b row row' bytes ws cs n e f = rw (f, e) refl

deletions_sum : (b : Bases) (kind back : ℕ) (d d' : Deletions) → d ≡ d' → sized_length back (length (deletions_bytes b kind d)) ≡ sized_length back (length (deletions_bytes b kind d'))
deletions_sum b kind back d d' e = rw e refl

sum : (a w w' v v' z z' n : ℕ) → n ≡ a + w' + v' + z' → w ≡ w' → v ≡ v' → z ≡ z' → a + w + v + z ≡ n
sum a w w' v v' z z' n e f g h = rw (e, f, g, h) refl

-- ---- a static row
module _ (c : List ℕ) (k : Counts) (b : Bases) (s bytes : List ℕ) (opened : Deletion) (back : ℕ) where
  abbrev SW : List ℕ
  SW = widths_at c (16 + 16 * k.clustering) k.statics

  module _ (i : Item) (at : ℕ) (row : Times) (g : row ≡ times_of i) (r : Reading (ℕ × ℕ))
      (told : said r ≡ cells_measured b row bytes (widths_at c (16 + 16 * k.clustering) k.statics) (taken_cells b bytes 0 (widths_at c (16 + 16 * k.clustering) k.statics) s at (length s))) where
    cells_as : static_behind (widths_of c k) b bytes i s at (length s) ≡ on (taken_cells b bytes 0 SW s at (length s)) (λ cs m. got (static_entry (row_of 1 i) cs) m)
    unfolding static_behind widths_of
    cells_as = refl

    pub static_cells_bad : (u : Bad) → r ≡ Err u → bad u.fault u.place ≡ entry_measured b (widths_of c k) bytes opened back (static_behind (widths_of c k) b bytes i s at (length s))
    static_cells_bad u h = refused_is b (widths_of c k) bytes opened back _ u.fault u.place (cells_as ∙ on_bad _ u.fault u.place _ (celled_not b row bytes SW _ r told u h))

    module _ (missing n p : ℕ) (h : r ≡ Ok ((missing, n), p)) where
      static_of : CelledOf b row bytes SW (taken_cells b bytes 0 SW s at (length s)) missing n p
      static_of = celled_of b row bytes SW _ r told missing n p h

      pub static_fits : length s ≤ 1073741824 → length bytes ≤ 1073741824 → at ≤ length s → n ≤ 36028797018963968
      static_fits l a w =
          let u = (cells_grown b bytes s (length s) a row 0 SW at).given static_of.cells p static_of.is in
          omega (arith, u.most, u.within w, static_of.size)

      pub static_to : (z : ℕ) → z ≡ static_length b i missing n
          → said (Ok ((opened, back + z, z), p)) ≡ entry_measured b (widths_of c k) bytes opened back (static_behind (widths_of c k) b bytes i s at (length s))
      unfolding widths_of static_length
      static_to z v =
          let o = static_of in
          static_is b (widths_of c k) bytes opened back _ i o.cells z p (cells_as ∙ on_got _ o.cells p _ o.is)
          (v ∙ ap (λ (x : ℕ). 2 + x) (body_sum b i 0 missing _ n _ o.missing (times_sum b row (times_of i) bytes SW o.cells n g o.size)) ∙ sym (static_length_lem b (widths_of c k) bytes back i o.cells))

  module _ (first at : ℕ) (q : Reading Item) (told : said q ≡ record_at b (wrong_in bytes (Static first k.statics)) s at (length s)) where
    abbrev Standing : Item → ℕ → Got Entry
    Standing i n = static_behind (widths_of c k) b bytes i s n (length s)

    static_as : taken_static (widths_of c k) b bytes first s at (length s) ≡ on (record_at b (bad_static first k.statics) s at (length s)) Standing
    unfolding taken_static static_behind widths_of
    static_as = rw (widths_count c (16 + 16 * k.clustering) k.statics) refl

    static_told : said q ≡ record_at b (bad_static first k.statics) s at (length s)
    unfolding wrong_in
    static_told = told

    pub static_bad : (u : Bad) → q ≡ Err u → bad u.fault u.place ≡ entry_measured b (widths_of c k) bytes opened back (taken_static (widths_of c k) b bytes first s at (length s))
    static_bad u e = refused_is b (widths_of c k) bytes opened back _ u.fault u.place (static_as ∙ on_bad _ u.fault u.place Standing (said_not q _ u static_told e))

    module _ (y : Item) (m : ℕ) (e : q ≡ Ok (y, m)) where
      pub static_within : m ≤ length s
      static_within = ((record_gives b _ s at (length s)).given y m (said_got q _ y m static_told e)).within

      pub static_rest : (r : Reading (Deletion × ℕ × ℕ)) → said r ≡ entry_measured b (widths_of c k) bytes opened back (static_behind (widths_of c k) b bytes y s m (length s))
          → said r ≡ entry_measured b (widths_of c k) bytes opened back (taken_static (widths_of c k) b bytes first s at (length s))
      static_rest r h = h ∙ ap (entry_measured b (widths_of c k) bytes opened back) (sym (static_as ∙ on_got _ y m Standing (said_got q _ y m static_told e)))

-- ---- a row
module _ (c : List ℕ) (k : Counts) (b : Bases) (s bytes : List ℕ) (opened : Deletion) (back : ℕ) where
  abbrev RV : List ℕ
  RV = widths_at c 16 k.clustering

  abbrev RW : List ℕ
  RW = widths_at c (16 + 16 * (k.clustering + k.statics)) k.regulars

  module _ (i : Item) (at : ℕ) (q : Reading (ℕ × ℕ × ℕ)) (told : said q ≡ clustering_measured bytes (widths_at c 16 k.clustering) (taken_clustering true b bytes 0 (widths_at c 16 k.clustering) s at (length s))) where
    abbrev RMore : List Span → ℕ → Got Entry
    RMore vs n = on (taken_cells b bytes 0 RW s n (length s)) (λ cs m. got (row_entry (row_of 0 i) vs cs) m)

    rest_as : row_behind (widths_of c k) b bytes i s at (length s) ≡ on (taken_clustering true b bytes 0 RV s at (length s)) RMore
    unfolding row_behind widths_of taken_clustering
    rest_as = refl

    pub rest_bad : (u : Bad) → q ≡ Err u → bad u.fault u.place ≡ entry_measured b (widths_of c k) bytes opened back (row_behind (widths_of c k) b bytes i s at (length s))
    rest_bad u e = refused_is b (widths_of c k) bytes opened back _ u.fault u.place (rest_as ∙ on_bad _ u.fault u.place RMore (clustered_not bytes RV _ q told u e))

    module _ (count header values m : ℕ) (e : q ≡ Ok ((count, header, values), m)) where
      rest_of : ClusteredOf bytes RV (taken_clustering true b bytes 0 RV s at (length s)) count header values m
      rest_of = clustered_of bytes RV _ q told count header values m e

      module _ (a : length bytes ≤ 1073741824) (l : at ≤ length s) where
        pub rest_within : m ≤ length s
        rest_within = ((clustering_grown b bytes s (length s) a true 0 RV at).given rest_of.values m rest_of.is).within l

        pub rest_values : length s ≤ 1073741824 → values ≤ 36028797018963968
        rest_values h =
            let u = (clustering_grown b bytes s (length s) a true 0 RV at).given rest_of.values m rest_of.is in
            omega (arith, u.most, u.within l, rest_of.size)

      module _ (row : Times) (g : row ≡ times_of i) (r : Reading (ℕ × ℕ)) (cells : said r ≡ cells_measured b row bytes (widths_at c (16 + 16 * (k.clustering + k.statics)) k.regulars) (taken_cells b bytes 0 (widths_at c (16 + 16 * (k.clustering + k.statics)) k.regulars) s m (length s))) where
        pub rest_cells_bad : (u : Bad) → r ≡ Err u → bad u.fault u.place ≡ entry_measured b (widths_of c k) bytes opened back (row_behind (widths_of c k) b bytes i s at (length s))
        rest_cells_bad u h =
            refused_is b (widths_of c k) bytes opened back _ u.fault u.place (rest_as ∙ on_got _ rest_of.values m RMore rest_of.is ∙ on_bad _ u.fault u.place _ (celled_not b row bytes RW _ r cells u h))

        module _ (missing n p : ℕ) (h : r ≡ Ok ((missing, n), p)) where
          rest_celled : CelledOf b row bytes RW (taken_cells b bytes 0 RW s m (length s)) missing n p
          rest_celled = celled_of b row bytes RW _ r cells missing n p h

          pub rest_fits : length s ≤ 1073741824 → length bytes ≤ 1073741824 → at ≤ length s → n ≤ 36028797018963968
          rest_fits l a w =
              let u = (cells_grown b bytes s (length s) a row 0 RW m).given rest_celled.cells p rest_celled.is in
              omega (arith, u.most, u.within (rest_within a w), rest_celled.size)

          pub rest_to : (z : ℕ) → z ≡ row_length b i back count header values missing n
              → said (Ok ((opened, z, z), p)) ≡ entry_measured b (widths_of c k) bytes opened back (row_behind (widths_of c k) b bytes i s at (length s))
          unfolding widths_of row_length
          rest_to z v =
              let o = rest_of in
              let d = rest_celled in
              row_is b (widths_of c k) bytes opened back _ i o.values d.cells z p
              (rest_as ∙ on_got _ o.values m RMore o.is ∙ on_got _ d.cells p _ d.is)
              (v ∙ sum 1 _ _ values _ _ _ _ (row_length_lem b (widths_of c k) bytes back i o.values d.cells)
              (header_sum count _ header _ o.count o.header)
              o.size
              (body_sum b i back missing _ n _ d.missing (times_sum b row (times_of i) bytes RW d.cells n g d.size)))

  module _ (at : ℕ) (q : Reading Item) (told : said q ≡ record_at b (bad_row 3) s at (length s)) where
    abbrev Behind : Item → ℕ → Got Entry
    Behind i n = row_behind (widths_of c k) b bytes i s n (length s)

    row_as : taken_row (widths_of c k) b bytes s at (length s) ≡ on (record_at b (bad_row 3) s at (length s)) Behind
    unfolding taken_row row_behind
    row_as = refl

    pub row_bad : (u : Bad) → q ≡ Err u → bad u.fault u.place ≡ entry_measured b (widths_of c k) bytes opened back (taken_row (widths_of c k) b bytes s at (length s))
    row_bad u e = refused_is b (widths_of c k) bytes opened back _ u.fault u.place (row_as ∙ on_bad _ u.fault u.place Behind (said_not q _ u told e))

    module _ (y : Item) (m : ℕ) (e : q ≡ Ok (y, m)) where
      pub row_within : m ≤ length s
      row_within = ((record_gives b _ s at (length s)).given y m (said_got q _ y m told e)).within

      pub row_to : (r : Reading (Deletion × ℕ × ℕ)) → said r ≡ entry_measured b (widths_of c k) bytes opened back (row_behind (widths_of c k) b bytes y s m (length s))
          → said r ≡ entry_measured b (widths_of c k) bytes opened back (taken_row (widths_of c k) b bytes s at (length s))
      row_to r h = h ∙ ap (entry_measured b (widths_of c k) bytes opened back) (sym (row_as ∙ on_got _ y m Behind (said_got q _ y m told e)))

  -- ---- a marker
  module _ (at : ℕ) (q : Reading Item) (told : said q ≡ record_at b (wrong_in bytes (Marker opened)) s at (length s)) where
    abbrev MMore : Item → ℕ → Got Entry
    MMore i n = on (taken_clustering false b bytes 0 RV s n (length s)) (λ vs m. got (marker_entry (marker_of i vs) 0 vs) m)

    marker_as : taken_marker (widths_of c k) b bytes opened s at (length s) ≡ on (record_at b (bad_marker opened) s at (length s)) MMore
    unfolding taken_marker widths_of taken_clustering
    marker_as = refl

    marker_told : said q ≡ record_at b (bad_marker opened) s at (length s)
    unfolding wrong_in
    marker_told = told

    pub marker_bad : (u : Bad) → q ≡ Err u → bad u.fault u.place ≡ entry_measured b (widths_of c k) bytes opened back (taken_marker (widths_of c k) b bytes opened s at (length s))
    marker_bad u e = refused_is b (widths_of c k) bytes opened back _ u.fault u.place (marker_as ∙ on_bad _ u.fault u.place MMore (said_not q _ u marker_told e))

    module _ (y : Item) (m : ℕ) (e : q ≡ Ok (y, m)) where
      marker_got : record_at b (bad_marker opened) s at (length s) ≡ got y m
      marker_got = said_got q _ y m marker_told e

      module _ (r : Reading (ℕ × ℕ × ℕ)) (vals : said r ≡ clustering_measured bytes (widths_at c 16 k.clustering) (taken_clustering false b bytes 0 (widths_at c 16 k.clustering) s m (length s))) where
        pub marker_values_bad : (u : Bad) → r ≡ Err u → bad u.fault u.place ≡ entry_measured b (widths_of c k) bytes opened back (taken_marker (widths_of c k) b bytes opened s at (length s))
        marker_values_bad u h =
            refused_is b (widths_of c k) bytes opened back _ u.fault u.place (marker_as ∙ on_got _ y m MMore marker_got ∙ on_bad _ u.fault u.place _ (clustered_not bytes RV _ r vals u h))

        module _ (count header values p : ℕ) (h : r ≡ Ok ((count, header, values), p)) where
          marker_of_lem : ClusteredOf bytes RV (taken_clustering false b bytes 0 RV s m (length s)) count header values p
          marker_of_lem = clustered_of bytes RV _ r vals count header values p h

          pub marker_values : length s ≤ 1073741824 → length bytes ≤ 1073741824 → values ≤ 36028797018963968
          marker_values l a =
              let u = (clustering_grown b bytes s (length s) a false 0 RV m).given marker_of_lem.values p marker_of_lem.is in
              let w = (record_gives b _ s at (length s)).given y m marker_got in
              omega (arith, u.most, u.within w.within, marker_of_lem.size)

          pub marker_to : (d : Deletions) (o : Deletion) (z : ℕ) → d ≡ deletions_of y → o ≡ open_after y.column d → z ≡ marker_length b y.column d back count header values
              → said (Ok ((o, z, z), p)) ≡ entry_measured b (widths_of c k) bytes opened back (taken_marker (widths_of c k) b bytes opened s at (length s))
          unfolding widths_of marker_length
          marker_to d o z g j v =
              let a = marker_of_lem in
              marker_is b (widths_of c k) bytes opened back _ y a.values o z p
              (marker_as ∙ on_got _ y m MMore marker_got ∙ on_got _ a.values p _ a.is)
              (j ∙ ap (open_after y.column) g)
              (v ∙ sum 4 _ _ values _ _ _ _ (marker_length_lem b (widths_of c k) bytes back y a.values)
              (header_sum count _ header _ a.count a.header)
              a.size
              (deletions_sum b y.column back d (deletions_of y) g))

pub ruleset rows = (back_fits, static_bad, static_within, static_cells_bad, static_fits, static_to, static_rest, rest_bad, rest_within, rest_values, rest_cells_bad, rest_fits, rest_to, row_bad, row_within, row_to, marker_bad, marker_values_bad, marker_values, marker_to, refl)

-- ---- which entry it is
module _ (t : Widths) (b : Bases) (s bytes : List ℕ) (first : ℕ) (opened : Deletion) (back kind at : ℕ) where
  abbrev A : Got Entry → Got (Deletion × ℕ × ℕ)
  A = entry_measured b t bytes opened back

  entry_as : taken_entry t b bytes first opened kind s at (length s) ≡ pick (eqb kind 2) (taken_static t b bytes first s at (length s)) (pick (eqb kind 3) (taken_row t b bytes s at (length s)) (pick (eqb kind 4) (taken_marker t b bytes opened s at (length s)) (bad BadRecord at)))
  unfolding taken_entry
  entry_as = refl

  module _ (r : Reading (Deletion × ℕ × ℕ)) where
    pub kind_static : kind ≡ 2 → said r ≡ entry_measured b t bytes opened back (taken_static t b bytes first s at (length s)) → said r ≡ entry_measured b t bytes opened back (taken_entry t b bytes first opened kind s at (length s))
    kind_static e h = h ∙ ap A (sym (entry_as ∙ sym (pick_yes _ _ _ _ (eq-eqb kind 2 e) refl)))

    pub kind_row : (kind ≡ 2 → ⊥) → kind ≡ 3 → said r ≡ entry_measured b t bytes opened back (taken_row t b bytes s at (length s)) → said r ≡ entry_measured b t bytes opened back (taken_entry t b bytes first opened kind s at (length s))
    kind_row d e h = h ∙ ap A (sym (entry_as ∙ sym (pick_no _ _ _ _ (ne_eqb kind 2 d) (pick_yes _ _ _ _ (eq-eqb kind 3 e) refl))))

    pub kind_marker : (kind ≡ 2 → ⊥) → (kind ≡ 3 → ⊥) → kind ≡ 4 → said r ≡ entry_measured b t bytes opened back (taken_marker t b bytes opened s at (length s)) → said r ≡ entry_measured b t bytes opened back (taken_entry t b bytes first opened kind s at (length s))
    kind_marker d f e h = h ∙ ap A (sym (entry_as ∙ sym (pick_no _ _ _ _ (ne_eqb kind 2 d) (pick_no _ _ _ _ (ne_eqb kind 3 f) (pick_yes _ _ _ _ (eq-eqb kind 4 e) refl)))))

  pub kind_none : (kind ≡ 2 → ⊥) → (kind ≡ 3 → ⊥) → (kind ≡ 4 → ⊥) → bad BadRecord at ≡ entry_measured b t bytes opened back (taken_entry t b bytes first opened kind s at (length s))
  kind_none d f e = refused_is b t bytes opened back _ BadRecord at (entry_as ∙ sym (pick_no _ _ _ _ (ne_eqb kind 2 d) (pick_no _ _ _ _ (ne_eqb kind 3 f) (pick_no _ _ _ _ (ne_eqb kind 4 e) refl))))

pub ruleset kinds = (kind_static, kind_row, kind_marker, kind_none, said_err)
