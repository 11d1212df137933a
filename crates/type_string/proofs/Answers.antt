-- What the answers about type strings say, in the direction of a contract. Assumes nothing.
use Rattle.std.proofs.Common.{Result, Ok, Err}
use Rattle.std.specs.Result.{IsErr, IsErrAnd}
use mathlib.Core.Path.{◌≡◌, refl, ◌∙◌}
use mathlib.Core.Bool.{Bool, true, false}
use mathlib.Core.List.{List, [], ◌∷◌}
use Prim.Native.Nat.{ℕ, zero, suc, ◌+◌, ◌-◌, ◌≤◌, ◌<◌}
use native.Mathlib.Omega.{arith}
use borrow.Author.Tests.{eq-eqb, ne_eqb, leb-true, leb-false}
use lib.Dec.{eqb, leb, eqb-suc-zero}
use lib.ListN.{length, get_or, take, drop}
use Rattle.common.specs.Choose.{pick}
use Rattle.common.specs.Got.{Got, got, bad, Reading, said}
use Rattle.common.specs.Store.{part}
use Rattle.number_varint.specs.Varints.{varint_at}
use Rattle.common.specs.declared.refusal.Fault.{Fault}
use Rattle.common.proofs.Choose.{pick_yes, pick_no, bind_self}
use Rattle.number_varint.proofs.Varints.{varint_within, varint_inside}
use Rattle.type_string.specs.declared.Kind.{Kind}
use Rattle.type_name.specs.declared.Name.{Name}
use Rattle.text.specs.Text.{rest, same}
use Rattle.type_name.specs.Names.{Closed, faulty}
use Rattle.type_string.specs.Strings.{opened, tail, typed, behind, line_with, string_with, type_of, string_at}
use Rattle.type_name.specs.Parts.{line_named, NameAt, said_skip}
use Rattle.type_string.specs.Parts.{said_parsed}
use Rattle.text.proofs.Rest.{rest_all, rest_none, rest_some}

-- ---- where a type string ends
same_none : (s : List ℕ) (i : ℕ) (b : Bool) → leb (length s) i ≡ b → b ≡ same (rest s i) []
unfolding same
same_none s i true e = rw (rest_none s i (leb-true _ _ e)) refl
same_none s i false e = rw (rest_some s i (leb-false _ _ e)) refl

module _ (s : List ℕ) (at : ℕ) where
  pub tail_end : (under : ℕ) → length s ≤ at → eqb under 0 ≡ same (rest s at) (tail under)
  unfolding same tail
  tail_end zero h = rw (rest_none s at h) refl
  tail_end (suc n) h = rw (rest_none s at h) (eqb-suc-zero n)

  pub tail_left : (under : ℕ) → at < length s → under ≡ 0 → false ≡ same (rest s at) (tail under)
  unfolding same tail
  tail_left under h e = rw (e, rest_some s at h) refl

  pub tail_other : (under : ℕ) → at < length s → (under ≡ 0 → ⊥) → (get_or s at 0 ≡ 41 → ⊥) → false ≡ same (rest s at) (tail under)
  unfolding same tail
  tail_other zero h z n = absurd (z refl)
  tail_other (suc u) h z n = rw (rest_some s at h) (pick_no _ _ _ _ (ne_eqb _ _ n) refl)

  pub tail_closed : (under : ℕ) → at < length s → (under ≡ 0 → ⊥) → get_or s at 0 ≡ 41 → leb (length s) (at + 1) ≡ same (rest s at) (tail under)
  unfolding same tail
  tail_closed zero h z e = absurd (z refl)
  tail_closed (suc u) h z e = rw (rest_some s at h) (pick_yes _ _ _ _ (eq-eqb _ _ e) (same_none s (at + 1) _ refl))

pub ruleset tails = (tail_end, tail_left, tail_other, tail_closed)

-- ---- answers
pub parsed_known : (k : Kind) (q : Got Kind) → got k 0 ≡ q → said_parsed (Ok k) ≡ q
unfolding said_parsed
parsed_known k q e = e

-- what `?` returns says what it was handed
pub parsed_again : (w : Result Kind Fault) (f : Fault) (q : Got Kind) → IsErr w × IsErrAnd w (λ z. z ≡ f) → bad f 0 ≡ q → said_parsed w ≡ q
unfolding said_parsed
parsed_again (Ok k) f q d e = absurd d.1
parsed_again (Err g) f q d e = rw d.1 e

pub parsed_refused : (f : Fault) (q : Got Kind) → bad f 0 ≡ q → said_parsed (Err f) ≡ q
unfolding said_parsed
parsed_refused f q e = e

-- what stands behind an opening parenthesis
module _ {A : Type 0} (q none : A) (f : List ℕ → A) (s : List ℕ) (at : ℕ) where
  pub opened_end : length s ≤ at → q ≡ none → q ≡ opened none f (rest s at)
  unfolding opened
  opened_end h e = rw (rest_none s at h) e

  pub opened_other : at < length s → (get_or s at 0 ≡ 40 → ⊥) → q ≡ none → q ≡ opened none f (rest s at)
  unfolding opened
  opened_other h n e = rw (rest_some s at h) (pick_no _ _ _ _ (ne_eqb _ _ n) e)

  pub opened_yes : at < length s → get_or s at 0 ≡ 40 → q ≡ f (rest s (at + 1)) → q ≡ opened none f (rest s at)
  unfolding opened
  opened_yes h n e = rw (rest_some s at h) (pick_yes _ _ _ _ (eq-eqb _ _ n) e)

opened_out : (under l : ℕ) (none : Closed) (f : List ℕ → Closed) (cs : List ℕ)
    → opened (behind under l none) (λ ds. behind under l (f ds)) cs ≡ behind under l (opened none f cs)
unfolding opened pick
opened_out under l none f [] = refl
opened_out under l none f (c ∷ cs) = go (eqb c 40)
  where
    go : (b : Bool) → pick b (behind under l (f cs)) (behind under l none) ≡ behind under l (pick b (f cs) none)
    go true = refl
    go false = refl

module _ (q : Got Kind) (under l : ℕ) where
  pub behind_opened : (none : Closed) (f : List ℕ → Closed) (cs : List ℕ)
      → q ≡ opened (behind under l none) (λ ds. behind under l (f ds)) cs → q ≡ behind under l (opened none f cs)
  behind_opened none f cs e = e ∙ opened_out under l none f cs

  pub behind_none : (f : Fault) → q ≡ bad f 0 → q ≡ behind under l (faulty f)
  unfolding behind
  behind_none f e = e

  pub behind_closed : (s : List ℕ) (r : Result ℕ Fault) (x : Closed) (n : ℕ) → said_skip s r ≡ x → r ≡ Ok n → q ≡ typed under l (rest s n) → q ≡ behind under l x
  unfolding behind said_skip
  behind_closed s r x n e f g = rw (← e, f) g

  pub behind_faulty : (s : List ℕ) (r : Result ℕ Fault) (x : Closed) (y : Fault) → said_skip s r ≡ x → r ≡ Err y → q ≡ bad y 0 → q ≡ behind under l x
  unfolding behind said_skip
  behind_faulty s r x y e f g = rw (← e, f) g

-- the name and what follows it
pub string_at_lem : (q : Got Kind) (under : ℕ) (column : Bool) (rev : List ℕ → Got Kind) (s : List ℕ) (at : ℕ) (r : Name) → NameAt s at r
    → q ≡ line_with under column rev r.line (rest s r.next) → q ≡ string_with under column rev (rest s at)
unfolding string_with line_named
string_at_lem q under column rev s at r n e = bind_self _ _ _ (bind_self _ _ _ (rw (n.line, n.left) at e))

pub whole : (q : Got Kind) (column : Bool) (s : List ℕ) → q ≡ type_of column (rest s 0) → q ≡ type_of column s
whole q column s e = rw (rest_all s) at e

pub ruleset answers = (parsed_known, parsed_refused, opened_end, opened_other, opened_yes, behind_opened, behind_none, behind_closed, behind_faulty, string_at_lem, whole)

-- ---- in Statistics
module _ (q : Got Kind) (column : Bool) (s : List ℕ) (n len : ℕ) (r : Result Kind Fault) (e : said_parsed r ≡ type_of column (take (n + len - n) (drop n s))) where
  whole_part : said_parsed r ≡ type_of column (part s n len)
  unfolding part
  whole_part =
      let d : n + len - n ≡ len = omega arith in
      rw d at e

  pub string_known : (k : Kind) → r ≡ Ok k → q ≡ got k (n + len) → q ≡ string_at n (n + len) (type_of column (part s n len))
  unfolding string_at said_parsed
  string_known k f g = rw (← whole_part, f) g

  pub string_refused : (f : Fault) → r ≡ Err f → q ≡ bad f n → q ≡ string_at n (n + len) (type_of column (part s n len))
  unfolding string_at said_parsed
  string_refused f h g = rw (← whole_part, h) g

pub ruleset strings = (string_known, string_refused)

-- the string that a varint announces lies in the slice
pub string_inside : (s : List ℕ) (at end : ℕ) (r : Reading ℕ) (v n : ℕ) → said r ≡ varint_at s at end → r ≡ Ok (v, n) → v ≤ end - n → n + v ≤ length s
string_inside s at end r v n e f h = omega (arith, varint_within r s at end v n e f, varint_inside r s at end v n e f)
