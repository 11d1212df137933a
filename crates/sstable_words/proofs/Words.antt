-- The laws of an answer's words. Assumes nothing.
use mathlib.Core.Path.{◌≡◌, refl}
use mathlib.Core.List.{List, ◌∷◌}
use Prim.Native.Nat.{ℕ}
use Rattle.common.specs.Refusals.{fault_number, slice_number, Outcome, taken, refused}
use Rattle.common.specs.declared.refusal.Fault.{Fault}
use Rattle.common.specs.declared.refusal.Slice.{Slice}
use Rattle.sstable_words.specs.Words.{words, mapped}

pub words_taken : (zs ws : List ℕ) (x : Outcome (List ℕ)) → taken ws ≡ x → 0 ∷ 0 ∷ 0 ∷ ws ≡ words zs x
unfolding words
words_taken zs ws x e = rw (← e)

pub words_refused : (zs : List ℕ) (x : Outcome (List ℕ)) (f : Fault) (z : Slice) (m n p : ℕ) → refused f z p ≡ x → m ≡ fault_number f → n ≡ slice_number z
    → m ∷ n ∷ p ∷ zs ≡ words zs x
unfolding words
words_refused zs x f z m n p e g h = rw (← e, g, h)

pub ruleset answers = (words_taken, words_refused)

-- ---- what a call gives, as words
pub mapped_taken : {A : Type 0} (f : A → List ℕ) (a : A) (x : Outcome A) → taken a ≡ x → taken (f a) ≡ mapped f x
unfolding mapped
mapped_taken f a x e = rw (← e) refl

pub mapped_refused : {A : Type 0} (f : A → List ℕ) (y : Fault) (z : Slice) (p : ℕ) (x : Outcome A) → refused y z p ≡ x → refused y z p ≡ mapped f x
unfolding mapped
mapped_refused f y z p x e = rw (← e) refl
