-- Balanced parentheses: what stands inside an inner pair is scanned by itself, and then what follows it. Assumes nothing.
use Rattle.std.proofs.Common.{Result, Ok, Err}
use Rattle.std.specs.Result.{IsErr, IsErrAnd}
use mathlib.Core.Path.{◌≡◌, refl, sym, ap, subst, ◌∙◌}
use mathlib.Core.Bool.{Bool, true, false}
use mathlib.Core.List.{List, [], ◌∷◌}
use Prim.Native.Nat.{ℕ, zero, suc, ◌+◌, ◌-◌, ◌≤◌, ◌<◌}
use native.Mathlib.Omega.{arith}
use borrow.Author.Tests.{eq-eqb, ne_eqb}
use lib.Dec.{eqb}
use lib.ListN.{length, get_or}
use Rattle.common.specs.Choose.{pick}
use Rattle.common.specs.declared.refusal.Fault.{Fault}
use Rattle.common.specs.declared.refusal.Fault.TheVariants.{NotCarried, TooMany}
use Rattle.common.proofs.Choose.{pick_yes, pick_no, pick_ind}
use Rattle.type_name.specs.Names.{of_parameters, Closed, closed, faulty, counted, inside}
use Rattle.type_name.specs.Parts.{said_skip}
use Rattle.text.specs.Text.{rest}
use Rattle.text.proofs.Rest.{rest_none, rest_some, length_rest}

-- ---- an inner pair
-- what is read behind a part in parentheses
unfoldable then : Closed → (List ℕ → Closed) → Closed
then (closed cs) f = f cs
then (faulty e) f = faulty e

pick_then : (t : Bool) (a b c d : Closed) (f : List ℕ → Closed) → (t ≡ true → a ≡ then c f) → (t ≡ false → b ≡ then d f) → pick t a b ≡ then (pick t c d) f
unfolding pick
pick_then true a b c d f g h = g refl
pick_then false a b c d f g h = h refl

-- with one more open than `more` are, cs is scanned as with `more`, and what follows that as inside the outer pair
Nested : List ℕ → Type 0
Nested cs = (left more : ℕ) → inside left (suc more) cs ≡ then (inside left more cs) (inside (suc (left + more)) 0)

opens : (cs : List ℕ) → Nested cs → (left more : ℕ)
    → counted left (faulty TooMany) (λ less. inside less (suc (suc more)) cs)
    ≡ then (counted left (faulty TooMany) (λ less. inside less (suc more) cs)) (inside (suc (left + more)) 0)
unfolding Nested counted then
opens cs n zero more = refl
opens cs n (suc left) more = n left (suc more) ∙ ap (λ (k : ℕ). then (inside left (suc more) cs) (inside k 0)) (omega arith)

closes : (cs : List ℕ) → Nested cs → (left more : ℕ)
    → inside (suc left) more cs ≡ then (counted more (closed cs) (λ fewer. inside (suc left) fewer cs)) (inside (suc (left + more)) 0)
unfolding Nested counted then
closes cs n left zero = ap (λ (k : ℕ). inside k 0 cs) (omega arith)
closes cs n left (suc more) = n (suc left) more ∙ ap (λ (k : ℕ). then (inside (suc left) more cs) (inside k 0)) (omega arith)

nested : (cs : List ℕ) → Nested cs
unfolding Nested inside counted then
nested [] left more = refl
nested (c ∷ cs) left more =
    pick_then (eqb c 40) _ _ _ _ _ (λ e. opens cs (nested cs) left more) (λ e.
    pick_then (eqb c 41) _ _ _ _ _ (λ g. closes cs (nested cs) left more) (λ g.
    pick_then (of_parameters c) _ _ _ _ _ (λ h. nested cs left more) (λ h. refl)))

-- what follows a part in parentheses is shorter
Shorter : List ℕ → Closed → Type 0
Shorter cs (closed ds) = length ds < length cs
Shorter cs (faulty e) = Unit

shorter_more : (c : ℕ) (cs : List ℕ) (x : Closed) → Shorter cs x → Shorter (c ∷ cs) x
unfolding Shorter
shorter_more c cs (closed ds) h = omega arith
shorter_more c cs (faulty e) h = tt

shorter_counted : (cs : List ℕ) (n : ℕ) (x : Closed) (f : ℕ → Closed) → Shorter cs x → ((k : ℕ) → Shorter cs (f k)) → Shorter cs (counted n x f)
unfolding counted
shorter_counted cs zero x f h g = h
shorter_counted cs (suc n) x f h g = g n

inside_shorter : (cs : List ℕ) (left more : ℕ) → Shorter cs (inside left more cs)
unfolding inside Shorter
inside_shorter [] left more = tt
inside_shorter (c ∷ cs) left more =
    let on : (l m : ℕ) → Shorter (c ∷ cs) (inside l m cs) = λ l m. shorter_more c cs (inside l m cs) (inside_shorter cs l m) in
    pick_ind (Shorter (c ∷ cs)) _ _ (eqb c 40) (λ e. shorter_counted (c ∷ cs) left _ _ tt (λ less. on less (suc more))) (λ e.
    pick_ind (Shorter (c ∷ cs)) _ _ (eqb c 41) (λ g. shorter_counted (c ∷ cs) more _ _ (omega arith) (λ fewer. on (suc left) fewer)) (λ g.
    pick_ind (Shorter (c ∷ cs)) _ _ (of_parameters c) (λ h. on left more) (λ h. tt)))

-- ---- the loop: from place at on, with all that opened before place i closed again
pub record Balancing (s : List ℕ) (at left i : ℕ) : Type 0 where
  pub same : inside left 0 (rest s i) ≡ inside left 0 (rest s at)

pub balancing_none : (s : List ℕ) (at left : ℕ) → Balancing s at left at
balancing_none s at left = record { same = refl }

module _ (s : List ℕ) (at left i : ℕ) (c : Balancing s at left i) where
  pub balancing_end : length s ≤ i → said_skip s (Err NotCarried) ≡ inside left 0 (rest s at)
  unfolding inside said_skip
  balancing_end h = sym (rw (rest_none s i h) refl) ∙ c.same

  module _ (h : i < length s) where
    step : inside left 0 (rest s i)
        ≡ pick (eqb (get_or s i 0) 40) (counted left (faulty TooMany) (λ less. inside less 1 (rest s (i + 1))))
        (pick (eqb (get_or s i 0) 41) (closed (rest s (i + 1)))
        (pick (of_parameters (get_or s i 0)) (inside left 0 (rest s (i + 1))) (faulty NotCarried)))
    unfolding inside counted
    step = rw (rest_some s i h)

    pub balancing_deep : get_or s i 0 ≡ 40 → left ≡ 0 → said_skip s (Err TooMany) ≡ inside left 0 (rest s at)
    unfolding said_skip counted
    balancing_deep e z = pick_yes _ _ _ _ (eq-eqb _ _ e) (rw z refl) ∙ sym step ∙ c.same

    module _ (n : get_or s i 0 ≡ 40 → ⊥) where
      pub balancing_close : get_or s i 0 ≡ 41 → said_skip s (Ok (i + 1)) ≡ inside left 0 (rest s at)
      unfolding said_skip
      balancing_close e = pick_no _ _ _ _ (ne_eqb _ _ n) (pick_yes _ _ _ _ (eq-eqb _ _ e) refl) ∙ sym step ∙ c.same

      module _ (m : get_or s i 0 ≡ 41 → ⊥) (b : Bool) (e : b ≡ of_parameters (get_or s i 0)) where
        pub balancing_more : b ≡ true → Balancing s at left (i + 1)
        balancing_more t = record {
          same = pick_no _ _ _ _ (ne_eqb _ _ n) (pick_no _ _ _ _ (ne_eqb _ _ m) (pick_yes _ _ _ _ (sym e ∙ t) refl)) ∙ sym step ∙ c.same;
        }

        pub balancing_bad : b ≡ false → said_skip s (Err NotCarried) ≡ inside left 0 (rest s at)
        unfolding said_skip
        balancing_bad t = pick_no _ _ _ _ (ne_eqb _ _ n) (pick_no _ _ _ _ (ne_eqb _ _ m) (pick_no _ _ _ _ (sym e ∙ t) refl)) ∙ sym step ∙ c.same

-- an inner pair, scanned by a call
counted_some : {A : Type 0} (n : ℕ) (a : A) (f : ℕ → A) → (n ≡ 0 → ⊥) → counted n a f ≡ f (n - 1)
unfolding counted
counted_some zero a f h = absurd (h refl)
counted_some (suc n) a f h = ap f (omega arith)

module _ (s : List ℕ) (at left i : ℕ) (c : Balancing s at left i) (h : i < length s) (e : get_or s i 0 ≡ 40) (z : left ≡ 0 → ⊥)
    (r : Result ℕ Fault) (g : said_skip s r ≡ inside (left - 1) 0 (rest s (i + 1))) where
  inner : inside left 0 (rest s at) ≡ then (said_skip s r) (inside left 0)
  unfolding Nested
  inner =
      let k : suc (left - 1 + 0) ≡ left = omega arith in
      sym c.same ∙ step s at left i c h ∙ sym (pick_yes _ _ _ _ (eq-eqb _ _ e) refl)
      ∙ counted_some left _ _ z ∙ nested (rest s (i + 1)) (left - 1) 0 ∙ rw (g, k) refl

  pub inner_behind : (n : ℕ) → r ≡ Ok n → Balancing s at left n
  unfolding then said_skip
  inner_behind n f = record { same = sym (inner ∙ rw f refl) }

  pub inner_faulty : (x : Fault) (w : Result ℕ Fault) → r ≡ Err x → IsErr w × IsErrAnd w (λ z. z ≡ x) → said_skip s w ≡ inside left 0 (rest s at)
  unfolding then said_skip
  inner_faulty x (Ok n) f d = absurd d.1
  inner_faulty x (Err y) f d = rw d.1 (sym (inner ∙ rw f refl))

  pub inner_less : (n : ℕ) → r ≡ Ok n → length s - n < length s - i
  unfolding said_skip Shorter
  inner_less n f =
      let d : closed (rest s n) ≡ inside (left - 1) 0 (rest s (i + 1)) = rw f at g in
      let k : Shorter (rest s (i + 1)) (closed (rest s n)) = subst (Shorter (rest s (i + 1))) (sym d) (inside_shorter (rest s (i + 1)) (left - 1) 0) in
      omega (arith, length_rest s n, length_rest s (i + 1))

pub ruleset balancing = (balancing_none, balancing_end, balancing_deep, balancing_close, balancing_more, balancing_bad, inner_behind, inner_faulty, inner_less)
