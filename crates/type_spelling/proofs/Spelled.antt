-- Round trip: each type that may be carried has a type string that is read as it. Assumes nothing.
use mathlib.Core.Path.{◌≡◌, refl, sym, ap, subst}
use mathlib.Core.Bool.{Bool, true, false}
use mathlib.Core.List.{List, [], ◌++◌}
use Prim.Native.Nat.{ℕ, suc, ◌+◌, ◌-◌, ◌≤◌}
use native.Mathlib.Omega.{arith}
use borrow.Author.Tests.{le-ltb, ne_eqb}
use lib.Dec.{T, eqb, leb, eqb→eq, leb→le}
use lib.ListN.{length}
use Rattle.common.specs.Choose.{pick, bind}
use Rattle.common.specs.Got.{Got, got, bad}
use Rattle.number_varint.specs.Varints.{shortest}
use Rattle.common.specs.Store.{part}
use Rattle.common.proofs.Choose.{pick_no}
use Rattle.common.proofs.Finite.{implies, all_below, below_at}
use Rattle.common.proofs.RoundTrip.{Reads, reads_at, reads_no}
use Rattle.common.proofs.Stands.{Stands, stands_left, stands_right, stands_part}
use Rattle.number_varint.proofs.Varints.{varint_back}
use Rattle.text.specs.Text.{text, same, among}
use Rattle.type_table.specs.Table.{table, line_in, nth, line_of}
use Rattle.text.proofs.Texts.{first_passes, then_passes}
use Rattle.type_string.specs.declared.Kind.{Kind}
use Rattle.type_name.specs.Names.{blank, alphanumeric, of_name, of_parameters, past, up_to, named, counted, inside}
use Rattle.type_string.specs.Strings.{opened, tail, typed, behind, plain, line_with, string_with, held, type_of, string_at, type_at}
use Rattle.type_spelling.proofs.Carried.{Carried}

-- a type's string: the name, with empty parameters where it takes some; inside Reversed where it is reversed
unfoldable pub spelled : Kind → List ℕ
spelled k =
    bind ((line_of k.line).name ++ pick (line_of k.line).parameters (text "()") []) (λ w.
    pick (eqb k.reversed 1) (text "ReversedType(" ++ w ++ text ")") w)

-- a type in Statistics: the length of its string, and the string
unfoldable pub type_bytes : Kind → List ℕ
type_bytes k = shortest (length (spelled k)) ++ spelled k

-- ---- read back
-- whether x is that type, at place 0
is_kind : ℕ → ℕ → Got Kind → Bool
is_kind l r (got k n) = pick (eqb k.line l) (pick (eqb k.reversed r) (eqb n 0) false) false
is_kind l r (bad f p) = false

kind_is : (l r : ℕ) (x : Got Kind) → T (is_kind l r x) → x ≡ got (record { line = l; reversed = r }) 0
unfolding is_kind
kind_is l r (got k n) t =
    let b = eqb k.reversed r in
    let e : k.line ≡ l = eqb→eq _ _ (first_passes (eqb k.line l) (pick b (eqb n 0) false) t) in
    let u = then_passes (eqb k.line l) (pick b (eqb n 0) false) t in
    let f : k.reversed ≡ r = eqb→eq _ _ (first_passes b (eqb n 0) u) in
    let g : n ≡ 0 = eqb→eq _ _ (then_passes b (eqb n 0) u) in
    rw (← e, ← f, ← g)
kind_is l r (bad f p) t = absurd t

-- a type's string is at most 64 bytes long, and is read as that type
back_test : Bool → ℕ → ℕ → Bool
back_test column l r =
    implies (pick (eqb l 24) false (pick column (line_of l).column true))
    (bind (spelled (record { line = l; reversed = r })) (λ w. pick (leb (length w) 64) (is_kind l r (type_of column w)) false))

-- computed at each line and mark
tests : (column : Bool) → T (all_below 34 (λ l. all_below 2 (back_test column (suc l))))
unfolding back_test is_kind spelled table line_in nth line_of same among blank alphanumeric of_name of_parameters past up_to named counted inside opened tail typed behind plain line_with string_with held type_of pick bind
tests true = tt
tests false = tt

implied : (a b : Bool) → a ≡ true → T (implies a b) → T b
implied a b e t = rw e at t

allowed_yes : (column b : Bool) → (column ≡ true → b ≡ true) → true ≡ pick column b true
unfolding pick
allowed_yes true b h = sym (h refl)
allowed_yes false b h = refl

module _ (column : Bool) (k : Kind) (c : Carried column k) where
  test : T (back_test column k.line k.reversed)
  test =
      let e : suc (k.line - 1) ≡ k.line = omega (arith, c.least) in
      subst (λ (l : ℕ). T (back_test column l k.reversed)) e
      (below_at 2 (back_test column (suc (k.line - 1)))
      (below_at 34 (λ l. all_below 2 (back_test column (suc l))) (tests column) (k.line - 1) (omega (arith, c.least, c.most)))
      k.reversed (omega (arith, c.mark)))

  passes : T (pick (leb (length (spelled k)) 64) (is_kind k.line k.reversed (type_of column (spelled k))) false)
  unfolding back_test bind
  passes =
      let a : true ≡ pick column (line_of k.line).column true = allowed_yes column (line_of k.line).column c.allowed in
      implied _ _ (sym (pick_no _ _ _ _ (ne_eqb _ _ c.plain) a)) test

  short : length (spelled k) ≤ 64
  short = leb→le _ _ (first_passes (leb (length (spelled k)) 64) (is_kind k.line k.reversed (type_of column (spelled k))) passes)

  pub spelled_back : type_of column (spelled k) ≡ got k 0
  spelled_back = kind_is _ _ _ (then_passes (leb (length (spelled k)) 64) (is_kind k.line k.reversed (type_of column (spelled k))) passes)

  -- what is put is read back
  pub type_back : (s : List ℕ) (end at n : ℕ) → Stands s end at n (type_bytes k) → Reads (type_at column s at end) n (λ j. j ≡ k)
  unfolding type_at type_bytes string_at
  type_back s end at n h =
      let w = spelled k in
      let v = shortest (length w) in
      let m = at + length v in
      let right : Stands s end m n w = stands_right s end at n v w h in
      let e : part s m (length w) ≡ w = stands_part s end m n w right in
      reads_at _ (varint_back s end at m (length w) (omega (arith, short)) (stands_left s end at n v w h))
      (reads_no _ _ (le-ltb (end - m) (length w) (omega (arith, right.stop, right.within)))
      (record { value = k; is = rw (e, spelled_back) (ap (got k) (sym right.stop)); holds = refl }))
