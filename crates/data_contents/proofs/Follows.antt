-- What follows a reading, in a list of items: the walk's steps and the readers of specs/Contents are both brought to this form. Assumes
-- nothing.
use mathlib.Core.Path.{◌≡◌, refl, sym, ap}
use mathlib.Core.Bool.{Bool, true, false}
use mathlib.Core.List.{List, [], ◌∷◌, ◌++◌, append_assoc}
use Prim.Native.Nat.{ℕ}
use native.Mathlib.Omega.{arith}
use Rattle.common.specs.Choose.{pick}
use Rattle.common.specs.Got.{Got, got, bad, on}
use Rattle.common.specs.Refusals.{Outcome, taken, refused}
use Rattle.common.specs.declared.refusal.Fault.{Fault}
use Rattle.common.specs.declared.refusal.Slice.TheVariants.{Data}
use Rattle.data_walk.specs.Steps.{Handed, handed}
use Rattle.data_walk.specs.Walks.{add, follow}
use Rattle.data_items.specs.declared.Item.{Item}
use Rattle.data_walk.specs.declared.cursors.Cursor.{Cursor}

-- a walk's items, or its refusal
abbrev pub Walked : Type 0
Walked = Outcome (List Item)

-- items before others
unfoldable pub adds : List Item → Walked → Walked
adds l (taken m) = taken (l ++ m)
adds l (refused f z p) = refused f z p

-- what follows a reading: nothing where it is refused
unfoldable pub run : {A : Type 0} → Got A → (A → ℕ → Walked) → Walked
run (got a n) g = g a n
run (bad f p) g = refused f Data p

-- ---- items before others
pub adds_none : (o : Walked) → adds [] o ≡ o
unfolding adds
adds_none (taken m) = refl
adds_none (refused f z p) = refl

pub add_adds : (i : Item) (l : List Item) (o : Walked) → add i (adds l o) ≡ adds (i ∷ l) o
unfolding adds add
add_adds i l (taken m) = refl
add_adds i l (refused f z p) = refl

pub add_one : (i : Item) (o : Walked) → add i o ≡ adds (i ∷ []) o
unfolding adds add
add_one i (taken m) = refl
add_one i (refused f z p) = refl

pub adds_adds : (l m : List Item) (o : Walked) → adds l (adds m o) ≡ adds (l ++ m) o
unfolding adds
adds_adds l m (taken n) = ap taken (sym (append_assoc l m n))
adds_adds l m (refused f z p) = refl

pub adds_pick : (l : List Item) (t : Bool) (f : Fault) (p : ℕ) (o : Walked) → adds l (pick t (refused f Data p) o) ≡ pick t (refused f Data p) (adds l o)
unfolding adds pick
adds_pick l true f p o = refl
adds_pick l false f p o = refl

-- ---- readings
module _ {A : Type 0} where
  pub run_got : (x : Got A) (a : A) (n : ℕ) (g : A → ℕ → Walked) → x ≡ got a n → run x g ≡ g a n
  unfolding run
  run_got x a n g e = rw e

  pub run_bad : (x : Got A) (f : Fault) (p : ℕ) (g : A → ℕ → Walked) → x ≡ bad f p → run x g ≡ refused f Data p
  unfolding run
  run_bad x f p g e = rw e

  pub run_pick : (t : Bool) (x y : Got A) (g : A → ℕ → Walked) → run (pick t x y) g ≡ pick t (run x g) (run y g)
  unfolding pick
  run_pick true x y g = refl
  run_pick false x y g = refl

  -- what follows is looked at only for what is read
  pub run_same : (x : Got A) (g h : A → ℕ → Walked) → ((a : A) (n : ℕ) → x ≡ got a n → g a n ≡ h a n) → run x g ≡ run x h
  unfolding run
  run_same (got a n) g h e = e a n refl
  run_same (bad f p) g h e = refl

  pub adds_run : (l : List Item) (x : Got A) (g : A → ℕ → Walked) → adds l (run x g) ≡ run x (λ a n. adds l (g a n))
  unfolding run adds
  adds_run l (got a n) g = refl
  adds_run l (bad f p) g = refl

  pub add_run : (i : Item) (x : Got A) (g : A → ℕ → Walked) → add i (run x g) ≡ run x (λ a n. add i (g a n))
  unfolding run add
  add_run i (got a n) g = refl
  add_run i (bad f p) g = refl

pub run_on : {A B : Type 0} (x : Got A) (k : A → ℕ → Got B) (g : B → ℕ → Walked) → run (on x k) g ≡ run x (λ a n. run (k a n) g)
unfolding run on
run_on (got a n) k g = refl
run_on (bad f p) k g = refl

-- a step's answer
pub run_handed : (x : Got Handed) (w : Cursor → Walked) → follow (handed x) w ≡ run x (λ h n. add h.0 (w h.1))
unfolding run handed follow
run_handed (got h n) w = refl
run_handed (bad f p) w = refl

-- ---- a reading behind another that gave its value
pub record Parted {A B : Type 0} (x : Got A) (k : A → ℕ → Got B) (b : B) (n : ℕ) : Type 0 where
  pub value : A
  pub place : ℕ
  pub is : x ≡ got value place
  pub rest : k value place ≡ got b n

pub parted : {A B : Type 0} (x : Got A) (k : A → ℕ → Got B) (b : B) (n : ℕ) → on x k ≡ got b n → Parted x k b n
unfolding on
parted (got a m) k b n e = record { value = a; place = m; is = refl; rest = e }
parted (bad f p) k b n e = let z : ◌≡◌ {A = ℕ} 0 1 = cc in absurd (omega arith)
