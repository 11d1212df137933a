-- The loops over the columns of the header. Assumes nothing.
use Rattle.std.proofs.Common.{◌≡◌, ℕ, suc, ◌+◌, ◌-◌, ◌*◌, ◌^◌, ◌<◌, ◌≤◌, Bool, true, false, ltb, List, [], ◌∷◌, ◌++◌, length, get_or, sym, refl, ap, ◌∙◌, add-zero, arith, ltb-false, le-ltb, lt-ltb, Result, Ok, Err}
use Rattle.common.specs.Choose.{pick}
use Rattle.common.specs.Got.{Got, got, bad, on, Reading, said, said_place}
use Rattle.number_fixed.specs.BigEndian.{big_endian}
use Rattle.common.specs.Store.{Room, Puts, shown}
use Rattle.common.specs.declared.reading.Bad.{Bad}
use Rattle.common.proofs.Choose.{pick_yes, pick_no}
use Rattle.common.proofs.Gives.{Gives, never, got_place, gives_on, gives_got, gives_bad, gives_pick, gives_bind, gives_is}
use Rattle.common.proofs.RoundTrip.{Reads}
use Rattle.common.proofs.Puts.{puts_same}
use Rattle.number_varint.proofs.Varints.{varint_ends}
use Rattle.common.proofs.Said.{on_ok, on_err, said_got}
use Rattle.text.specs.Text.{same}
use Rattle.schema_check.specs.Records.{role_at, name_at, name_len_at, most_of}
use Rattle.schema_column.specs.Columns as schema
use Rattle.schema_column.specs.declared.Column.{Column}
use Rattle.stats_file.specs.Header.{count_at, is_named, name_at as nameOfAt, typed_at, named_at, column_at, columns_at, group, group_at, record_of}
use Rattle.stats_file.specs.Buffer.{columns_from, Kept, Holds, place_after, count_in, Adds, Fills, FillsGroup}
use Rattle.stats_file.proofs.Records.{length_record}
use Rattle.stats_file.proofs.Buffers.{holds_more}

-- ---- names: none of the first i columns that d holds has the name
pub record Seeking (s w d : List ℕ) (k i : ℕ) : Type 0 where
  pub within : i ≤ k
  pub rest : is_named s w (columns_from d (16 * i) (k - i)) ≡ is_named s w (columns_from d 0 k)

module _ (s w d : List ℕ) (k : ℕ) where
  pub seeking_none : Seeking s w d k 0
  seeking_none = record { within = omega arith; rest = ap (λ (x : ℕ). is_named s w (columns_from d 0 x)) (omega arith) }

  module _ (i : ℕ) (h : Seeking s w d k i) where
    pub seeking_end : k ≤ i → false ≡ is_named s w (columns_from d 0 k)
    unfolding columns_from is_named
    seeking_end l =
        let e : k - i ≡ 0 = omega arith in
        rw e at h.rest

    module _ (l : i < k) where
      seek : pick (ltb (get_or d (16 * i) 0) 2) (is_named s w (columns_from d (16 * i + 16) (k - (i + 1))))
          (pick (same (shown s (big_endian 0 d (16 * i + 4) 4) (big_endian 0 d (16 * i + 8) 4)) w) true (is_named s w (columns_from d (16 * i + 16) (k - (i + 1)))))
          ≡ is_named s w (columns_from d 0 k)
      unfolding columns_from is_named schema.column_at role_at name_at name_len_at
      seek =
          let e : k - i ≡ suc (k - (i + 1)) = omega arith in
          ap (λ (x : ℕ). is_named s w (columns_from d (16 * i) x)) (sym e) ∙ h.rest

      next : 16 * i + 16 ≡ 16 * (i + 1)
      next = omega arith

      pub seeking_key : get_or d (16 * i) 0 < 2 → Seeking s w d k (i + 1)
      seeking_key m = record { within = omega arith; rest = rw (← next) (pick_yes _ _ _ _ (lt-ltb _ _ m) refl ∙ seek) }

      module _ (m : 2 ≤ get_or d (16 * i) 0) (r : Bool) (j : r ≡ same (schema.name_of s d (16 * i)) w) where
        tested : r ≡ same (shown s (big_endian 0 d (16 * i + 4) 4) (big_endian 0 d (16 * i + 8) 4)) w
        unfolding schema.name_of name_at name_len_at
        tested = j

        pub seeking_found : r ≡ true → true ≡ is_named s w (columns_from d 0 k)
        seeking_found o = pick_no _ _ _ _ (le-ltb _ _ m) (pick_yes _ _ _ _ (sym tested ∙ o) refl) ∙ seek

        pub seeking_other : r ≡ false → Seeking s w d k (i + 1)
        seeking_other o = record { within = omega arith; rest = rw (← next) (pick_no _ _ _ _ (le-ltb _ _ m) (pick_no _ _ _ _ (sym tested ∙ o) refl) ∙ seek) }

-- one column's name
pub name_same : (s d : List ℕ) (at from size : ℕ) (v u w : List ℕ) (r : Bool) → from ≡ big_endian 0 d (at + 4) 4 → size ≡ big_endian 0 d (at + 8) 4 → v ≡ shown s from size → u ≡ w → r ≡ same v u
    → r ≡ same (schema.name_of s d at) w
unfolding schema.name_of name_at name_len_at
name_same s d at from size v u w r e f g h j = j ∙ rw (g, h, e, f)

pub ruleset seeking = (seeking_none, seeking_end, seeking_key, seeking_found, seeking_other)

-- ---- what an answer that says only the place tells
pub placed : {A : Type 0} (x : Got A) (r : Result ℕ Bad) → said_place r ≡ place_after x → (m : ℕ) → r ≡ Ok m → Reads x m (λ a. Unit)
unfolding said_place place_after
placed (got a k) r e m f =
    let o : got tt m ≡ got tt k = rw f at e in
    record { value = a; is = ap (got a) (sym (got_place o)); holds = tt }
placed (bad g k) r e m f =
    let o : ◌≡◌ {A = Got Unit} (got tt m) (bad g k) = rw f at e in
    never (sym o)

pub unplaced : {A : Type 0} (x : Got A) (r : Result ℕ Bad) → said_place r ≡ place_after x → (y : Bad) → r ≡ Err y → x ≡ bad y.fault y.place
unfolding said_place place_after
unplaced (got a k) r e y f =
    let o : bad y.fault y.place ≡ got tt k = rw f at e in
    never o
unplaced (bad g k) r e y f =
    let o : ◌≡◌ {A = Got Unit} (bad y.fault y.place) (bad g k) = rw f at e in
    cc

-- ---- columns: i of n are read and stored behind the first
pub record Filling (n role : ℕ) (s : List ℕ) (at end : ℕ) (d₀ : List ℕ) (first : ℕ) (d : List ℕ) (p i : ℕ) : Type 0 where
  pub within : i ≤ n
  pub same : length d ≡ length d₀
  pub kept : Kept d (first + i)
  pub rest : columns_at (n - i) role (columns_from d 0 (first + i)) s p end ≡ columns_at n role (columns_from d₀ 0 first) s at end

-- where a column's name stands fits 32 bits
pub record Small (c : Column) : Type 0 where
  pub name : c.name < 2 ^ 32
  pub len : c.len < 2 ^ 32

any : {A : Type 0} (x : Got A) → Gives x (λ a n. Unit)
any x = record { given = λ a n e. tt }

name_inside : (cs : List Column) (s : List ℕ) (at end : ℕ) → Gives (nameOfAt cs s at end) (λ name n. name.start + name.len ≤ length s)
unfolding nameOfAt
name_inside cs s at end =
    gives_on _ (varint_ends s at end) (λ len n h.
    gives_pick (ltb (end - n) len) (λ e. gives_bad _ _) (λ e.
    gives_pick (is_named s (shown s n len) cs) (λ f. gives_bad _ _) (λ f.
    gives_got _ _ (omega (arith, h.within, h.inside, ltb-false (end - n) len e)))))

small_gives : (role : ℕ) (cs : List Column) (s : List ℕ) (at end : ℕ) → length s ≤ 1073741824 → Gives (column_at role cs s at end) (λ c n. Small c)
unfolding column_at typed_at named_at
small_gives role cs s at end l =
    gives_pick (ltb role 2)
    (λ e. gives_on _ (any _) (λ k n u. gives_got _ _ (record { name = omega arith; len = omega arith })))
    (λ e. gives_on _ (name_inside cs s at end) (λ name n h. gives_on _ (any _) (λ k m u. gives_got _ _ (record { name = omega arith; len = omega arith }))))

pub column_small : (r : Reading Column) (role : ℕ) (cs : List Column) (s : List ℕ) (at end : ℕ) (c : Column) (n : ℕ) → length s ≤ 1073741824 → said r ≡ column_at role cs s at end → r ≡ Ok (c, n) → Small c
unfolding said
column_small r role cs s at end c n l e f = gives_is {n = n} (small_gives role cs s at end l) (sym e ∙ rw f refl)

module _ (n role : ℕ) (s : List ℕ) (at end : ℕ) (d₀ : List ℕ) (first : ℕ) where
  all : Got (List Column)
  all = columns_at n role (columns_from d₀ 0 first) s at end

  pub filling_none : Kept d₀ first → Filling n role s at end d₀ first d₀ at 0
  filling_none h = record {
    within = omega arith;
    same = refl;
    kept = rw (add-zero first) h;
    rest = rw (add-zero first) (ap (λ (x : ℕ). columns_at x role (columns_from d₀ 0 first) s at end) (omega arith));
  }

  module _ (d : List ℕ) (p i : ℕ) (h : Filling n role s at end d₀ first d p i) where
    pub filling_room : i < n → 16 * (first + n) ≤ length d₀ → 16 * (first + i + 1) ≤ length d
    filling_room l m = omega (arith, h.same)

    pub filling_kept : Kept d (first + i)
    filling_kept = h.kept

    pub filling_same : length d ≡ length d₀
    filling_same = h.same

    pub filling_end : n ≤ i → Fills (columns_at n role (columns_from d₀ 0 first) s at end) (first + n) d₀ d (Ok p)
    unfolding columns_at said_place place_after
    filling_end l =
        let e : n - i ≡ 0 = omega arith in
        let f : i ≡ n = omega (arith, h.within) in
        let g : got (columns_from d 0 (first + n)) p ≡ columns_at n role (columns_from d₀ 0 first) s at end = rw (e, f) at h.rest in
        record {
          answer = rw (← g);
          same = h.same;
          holds = λ cs m j. record { columns = gives_is {P = λ x y. columns_from d 0 (first + n) ≡ x} (gives_got _ _ refl) (g ∙ j); kept = rw f at h.kept };
        }

    module _ (l : i < n) (d' : List ℕ) (r : Result ℕ Bad) (e : Adds (column_at role (columns_from d 0 (first + i)) s p end) (first + i) d d' r) where
      onward : on (column_at role (columns_from d 0 (first + i)) s p end) (λ c m. columns_at (n - (i + 1)) role (columns_from d 0 (first + i) ++ (c ∷ [])) s m end)
          ≡ columns_at n role (columns_from d₀ 0 first) s at end
      unfolding columns_at
      onward =
          let f : n - i ≡ suc (n - (i + 1)) = omega arith in
          ap (λ (x : ℕ). columns_at x role (columns_from d 0 (first + i)) s p end) (sym f) ∙ h.rest

      pub filling_more : (m : ℕ) → r ≡ Ok m → Filling n role s at end d₀ first d' m (i + 1)
      unfolding on
      filling_more m f =
          let read = placed _ r e.answer m f in
          let more = e.holds read.value m read.is in
          let k : first + (i + 1) ≡ first + i + 1 = omega arith in
          record {
            within = omega arith;
            same = e.same ∙ h.same;
            kept = rw k more.kept;
            rest = rw (k, more.columns) (rw read.is at onward);
          }

      pub filling_bad : (y : Bad) → r ≡ Err y → Fills (columns_at n role (columns_from d₀ 0 first) s at end) (first + n) d₀ d' (Err y)
      unfolding said_place place_after on
      filling_bad y f =
          let q : bad y.fault y.place ≡ columns_at n role (columns_from d₀ 0 first) s at end = rw (unplaced (column_at role (columns_from d 0 (first + i)) s p end) r e.answer y f) at onward in
          record { answer = rw (← q); same = e.same ∙ h.same; holds = λ cs m j. never (q ∙ j) }

pub ruleset filling = (filling_none, filling_room, filling_kept, filling_same, filling_end, filling_more, filling_bad)

-- ---- one column
-- it is made of what was read
pub column_made : (c d : Column) (n : ℕ) (q : Got Column) → c ≡ d → got d n ≡ q → said (Ok (c, n)) ≡ q
unfolding said
column_made c d n q e f = rw e f

module _ (role : ℕ) (s : List ℕ) (at end : ℕ) (d : List ℕ) (k : ℕ) (r : Reading Column) (e : said r ≡ column_at role (columns_from d 0 k) s at end) where
  pub adding_room : (c : Column) → 16 * (k + 1) ≤ length d → Room d (16 * k) (record_of c)
  adding_room c m = record { fits = omega (arith, length_record c) }

  pub adding_is : (c : Column) (n : ℕ) (d' : List ℕ) (z : ℕ) → r ≡ Ok (c, n) → length s ≤ 1073741824 → Kept d k → 16 * (k + 1) ≤ length d → Puts d d' (16 * k) (record_of c) z
      → Adds (column_at role (columns_from d 0 k) s at end) k d d' (Ok n)
  unfolding said said_place place_after
  adding_is c n d' z f l kept b q =
      let o : got c n ≡ column_at role (columns_from d 0 k) s at end = rw f at e in
      let small = column_small r role (columns_from d 0 k) s at end c n l e f in
      let room = adding_room c b in
      record {
        answer = rw (← o);
        same = puts_same d d' (16 * k) (record_of c) z room q;
        holds = λ y m j. gives_is {P = λ x w. Holds d' (k + 1) (columns_from d 0 k ++ (x ∷ []))} (gives_got c n (holds_more d d' k z c kept room q small.name small.len)) (o ∙ j);
      }

  pub adding_bad : (y : Bad) → r ≡ Err y → Adds (column_at role (columns_from d 0 k) s at end) k d d (Err y)
  unfolding said said_place place_after
  adding_bad y f =
      let o : bad y.fault y.place ≡ column_at role (columns_from d 0 k) s at end = rw f at e in
      record { answer = rw (← o); same = refl; holds = λ c n j. never (o ∙ j) }

pub ruleset adding = (adding_room, adding_is, adding_bad)

-- ---- a count, and so many columns
module _ (role : ℕ) (s : List ℕ) (at end : ℕ) (d : List ℕ) (first : ℕ) where
  pub count_most : (r : Reading ℕ) (v n : ℕ) → said r ≡ count_at role s at end → r ≡ Ok (v, n) → v ≤ most_of role
  unfolding count_at
  count_most r v n e f =
      gives_is
      {P = λ x m. x ≤ most_of role}
      (gives_on _ (any _) (λ x m u. gives_bind _ _ (gives_pick (ltb (most_of role) x) (λ g. gives_bad _ _) (λ g. gives_got _ _ (ltb-false (most_of role) x g)))))
      (said_got r _ v n e f)

  pub group_room : (r : Reading ℕ) (v n : ℕ) → said r ≡ count_at role s at end → r ≡ Ok (v, n) → 16 * (first + most_of role) ≤ length d → 16 * (first + v) ≤ length d
  group_room r v n e f h = omega (arith, count_most r v n e f)

  pub group_none : (r : Reading ℕ) (y : Bad) → said r ≡ count_at role s at end → r ≡ Err y
      → FillsGroup (group_at role (columns_from d 0 first) s at end) first d d (Err y)
  unfolding group_at said count_in
  group_none r y e f =
      let q : bad y.fault y.place ≡ group_at role (columns_from d 0 first) s at end = on_err _ _ r _ y e f refl in
      record { answer = rw (← q); same = refl; holds = λ g n j. never (q ∙ j) }

  module _ (r : Reading ℕ) (v n : ℕ) (e : said r ≡ count_at role s at end) (f : r ≡ Ok (v, n)) (d' : List ℕ) (q : Result ℕ Bad)
      (h : Fills (columns_at v role (columns_from d 0 first) s n end) (first + v) d d' q) where
    grouped : on (columns_at v role (columns_from d 0 first) s n end) (λ cs m. got (group v cs) m) ≡ group_at role (columns_from d 0 first) s at end
    unfolding group_at
    grouped = on_ok _ _ r _ (v, n) e f refl

    pub group_got : (m : ℕ) → q ≡ Ok m → FillsGroup (group_at role (columns_from d 0 first) s at end) first d d' (Ok (v, m))
    unfolding said count_in on
    group_got m j =
        let read = placed _ q h.answer m j in
        let o : got (group v read.value) m ≡ group_at role (columns_from d 0 first) s at end = rw read.is at grouped in
        record {
          answer = rw (← o);
          same = h.same;
          holds = λ g k i. gives_is {P = λ y w. Holds d' (first + y.count) y.columns} (gives_got (group v read.value) m (h.holds read.value m read.is)) (o ∙ i);
        }

    pub group_bad : (y : Bad) → q ≡ Err y → FillsGroup (group_at role (columns_from d 0 first) s at end) first d d' (Err y)
    unfolding said count_in on
    group_bad y j =
        let o : bad y.fault y.place ≡ group_at role (columns_from d 0 first) s at end = rw (unplaced (columns_at v role (columns_from d 0 first) s n end) q h.answer y j) at grouped in
        record { answer = rw (← o); same = h.same; holds = λ g k i. never (o ∙ i) }

pub ruleset grouping = (group_room, group_none, group_got, group_bad)

-- a count is at most the role's
pub group_count : (role : ℕ) (cs : List Column) (s : List ℕ) (at end : ℕ) → Gives (group_at role cs s at end) (λ g n. g.count ≤ most_of role)
unfolding group_at count_at
group_count role cs s at end =
    gives_on
    {P = λ x m. x ≤ most_of role}
    _
    (gives_on _ (any _) (λ x m u. gives_bind _ _ (gives_pick (ltb (most_of role) x) (λ g. gives_bad _ _) (λ g. gives_got _ _ (ltb-false (most_of role) x g)))))
    (λ x m h. gives_on _ (any _) (λ ds n u. gives_got _ _ h))
