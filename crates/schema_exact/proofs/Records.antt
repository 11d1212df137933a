-- The records of columns, as the check of a schema reads them. Assumes nothing.
use mathlib.Core.Path.{◌≡◌, refl, sym, ap, ◌∙◌}
use mathlib.Core.Bool.{true}
use mathlib.Core.List.{List, [], ◌∷◌, ◌++◌}
use Prim.Native.Nat.{ℕ, ◌+◌, ◌-◌, ◌/◌, ◌^◌, ◌<◌}
use native.Mathlib.Omega.{arith}
use borrow.Author.Tests.{le-ltb, ne_eqb}
use lib.ListN.{length, get_or}
use Rattle.common.specs.Got.{got, on}
use Rattle.number_fixed.specs.BigEndian.{bytes_of}
use Rattle.common.proofs.Choose.{pick_yes, pick_no}
use Rattle.number_fixed.proofs.BigEndian.{spelled_back}
use Rattle.common.proofs.Stands.{Stands, stands_left, stands_right}
use Rattle.schema_check.specs.Records.{role_at, line_at, mark_at, width_at, name_at, name_len_at, zeros_at, is_kind_of, is_name_of, given, in_turn, with_one, none, record_at, records_at, schema_at}
use Rattle.schema_column.specs.Columns.{column_at}
use Rattle.schema_column.specs.declared.Column.{Column}
use Rattle.schema_check.specs.declared.records.Counts.{Counts}
use Rattle.stats_file.specs.Header.{head_of, place_of, tail_of, record_of, records_of}
use Rattle.stats_file.proofs.Records.{length_head, length_place, length_record, length_records}
use Rattle.stats_file.proofs.Buffers.{column_back}

-- P holds of each column
pub data Every (P : Column → Type 0) : List Column → Type 0 where
  empty : Every P []
  each : {x : Column} {xs : List Column} → P x → Every P xs → Every P (x ∷ xs)

pub every_append : {P : Column → Type 0} {xs ys : List Column} → Every P xs → Every P ys → Every P (xs ++ ys)
every_append empty h = h
every_append (each p g) h = each p (every_append g h)

pub every_map : {P Q : Column → Type 0} {xs : List Column} → ((x : Column) → P x → Q x) → Every P xs → Every Q xs
every_map f empty = empty
every_map f (each p h) = each (f _ p) (every_map f h)

-- the columns' roles are in turn behind those counted in c, and with them d are counted
pub data Turns : Counts → Counts → List Column → Type 0 where
  done : {c : Counts} → Turns c c []
  turn : {c d : Counts} {x : Column} {xs : List Column} → in_turn x.role c ≡ true → Turns (with_one x.role c) d xs → Turns c d (x ∷ xs)

pub turns_more : {c d : Counts} {xs : List Column} (x : Column) → Turns c d xs → in_turn x.role d ≡ true → Turns c (with_one x.role d) (xs ++ (x ∷ []))
turns_more x done h = turn h done
turns_more x (turn e g) h = turn e (turns_more x g h)

-- a column whose record passes by itself
pub record Fit (limit : ℕ) (c : Column) : Type 0 where
  pub kind : is_kind_of c.role c.line c.reversed c.width ≡ true
  pub place : is_name_of limit c.role c.name c.len ≡ true
  pub name : c.name < 2 ^ 32
  pub len : c.len < 2 ^ 32

module _ (limit : ℕ) (x : Column) (f : Fit limit x) (s : List ℕ) (end at n : ℕ) (h : Stands s end at n (record_of x)) where
  back : column_at s at ≡ x
  back = column_back s end at n x h f.name f.len

  role_back : role_at s at ≡ x.role
  unfolding column_at
  role_back = ap (λ (y : Column). y.role) back

  kind_back : is_kind_of (role_at s at) (line_at s at) (mark_at s at) (width_at s at) ≡ true
  unfolding column_at
  kind_back = ap (λ (y : Column). is_kind_of y.role y.line y.reversed y.width) back ∙ f.kind

  place_back : is_name_of limit (role_at s at) (name_at s at) (name_len_at s at) ≡ true
  unfolding column_at
  place_back = ap (λ (y : Column). is_name_of limit y.role y.name y.len) back ∙ f.place

  zeros_stand : Stands s end (at + 12) n (bytes_of 0 4)
  unfolding record_of tail_of
  zeros_stand =
      let g = stands_right s end _ n (place_of x) (bytes_of 0 4) (stands_right s end at n (head_of x) (tail_of x) h) in
      let e : at + length (head_of x) + length (place_of x) ≡ at + 12 = omega (arith, length_head x, length_place x) in
      rw e at g

  zeros_back : zeros_at s at ≡ 0
  unfolding zeros_at
  zeros_back = spelled_back 4 s end (at + 12) n 0 (omega arith) zeros_stand

  given_back : given limit s at ≡ true
  unfolding given
  given_back = sym (pick_yes _ _ _ _ kind_back (pick_yes _ _ _ _ place_back (rw zeros_back refl)))

  record_back : (c : Counts) → in_turn x.role c ≡ true → record_at limit c s at end ≡ got (with_one x.role c) (at + 16)
  unfolding record_at
  record_back c t =
      sym (pick_no _ _ _ _ (le-ltb (end - at) 16 (omega (arith, h.stop, h.within, length_record x)))
      (pick_yes _ _ _ _ given_back (pick_yes _ _ _ _ (rw role_back t) (rw role_back refl))))

pub records_back : (limit : ℕ) (c d : Counts) (cs : List Column) → Turns c d cs → Every (Fit limit) cs → (s : List ℕ) (end at n : ℕ) → Stands s end at n (records_of cs)
    → records_at limit (length cs) c s at end ≡ got d n
unfolding records_at records_of on
records_back limit c d [] done e s stop at n h = ap (got c) (omega (arith, h.stop))
records_back limit c d (x ∷ xs) (turn t g) (each f e) s stop at n h =
    let first = stands_left s stop at n (record_of x) (records_of xs) h in
    let rest = stands_right s stop at n (record_of x) (records_of xs) h in
    let p : at + length (record_of x) ≡ at + 16 = omega (arith, length_record x) in
    rw (record_back limit x f s stop at _ first c t) (records_back limit (with_one x.role c) d xs g e s stop (at + 16) n (rw p at rest))

-- a list of bytes stands in itself
pub stands_whole : (s : List ℕ) → Stands s (length s) 0 (length s) s
stands_whole s = record { stop = omega arith; within = omega arith; inside = omega arith; bytes = λ i l. ap (λ (x : ℕ). get_or s x 0) (omega arith) }

pub schema_back : (limit : ℕ) (d : Counts) (cs : List Column) → (length cs ≡ 0 → ⊥) → Turns none d cs → Every (Fit limit) cs → schema_at limit (records_of cs) ≡ got d (length (records_of cs))
unfolding schema_at
schema_back limit d cs m t e =
    let s = records_of cs in
    let l = length_records cs in
    let k : (length s + 15) / 16 ≡ length cs = omega arith in
    let r = records_back limit none d cs t e s (length s) 0 (length s) (stands_whole s) in
    sym (pick_no _ _ _ _ (ne_eqb (length s) 0 (λ z. m (omega arith))) (rw k (sym r)))
