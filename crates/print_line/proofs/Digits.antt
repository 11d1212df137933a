-- The digits of a number: how many there are at most, and that those of n are those of n / 10 and one more. Assumes nothing.
use mathlib.Core.Path.{◌≡◌, refl, sym, ap, ◌∙◌}
use mathlib.Core.List.{List, [], ◌∷◌, ◌++◌}
use Prim.Native.Nat.{ℕ, zero, suc, ◌+◌, ◌/◌, ◌%◌, ◌^◌, ◌≤◌, ◌<◌}
use native.Mathlib.Omega.{arith}
use borrow.Author.Tests.{lt-ltb, le-ltb}
use lib.Dec.{ltb}
use Rattle.common.specs.Choose.{pick}
use Rattle.common.proofs.Choose.{pick_ind, pick_yes, pick_no}
use Rattle.print_line.specs.Numbers.{digits, decimal}

-- more digits than there are make no difference
digits_same : (k n : ℕ) → n < 10 ^ suc k → digits (suc k) n ≡ digits (suc (suc k)) n
unfolding digits
digits_same zero n h = sym (pick_yes _ _ _ _ (lt-ltb n 10 h) refl) ∙ pick_yes _ _ _ _ (lt-ltb n 10 h) refl
digits_same (suc k) n h =
    pick_ind (λ (w : List ℕ). w ≡ pick (ltb n 10) ((48 + n) ∷ []) (digits (suc (suc k)) (n / 10) ++ ((48 + n % 10) ∷ []))) _ _ (ltb n 10)
    (λ e. pick_yes _ _ _ _ e refl)
    (λ e. pick_no _ _ _ _ e (ap (λ (w : List ℕ). w ++ ((48 + n % 10) ∷ [])) (digits_same k (n / 10) (omega (arith, h)))))

pub decimal_one : (n : ℕ) → n < 10 → decimal n ≡ (48 + n) ∷ []
unfolding decimal digits
decimal_one n h = sym (pick_yes _ _ _ _ (lt-ltb n 10 h) refl)

pub decimal_more : (n : ℕ) → 10 ≤ n → n < 2 ^ 64 → decimal n ≡ decimal (n / 10) ++ ((48 + n % 10) ∷ [])
unfolding decimal digits
decimal_more n h l = sym (pick_no _ _ _ _ (le-ltb n 10 h) (ap (λ (w : List ℕ). w ++ ((48 + n % 10) ∷ [])) (sym (digits_same 18 (n / 10) (omega arith)))))
