-- The name that a type string begins with, as the code reads it. Assumes nothing.
use mathlib.Core.Path.{◌≡◌, refl, sym, ◌∙◌}
use mathlib.Core.Bool.{Bool, true, false}
use mathlib.Core.List.{List, []}
use Prim.Native.Nat.{ℕ, ◌-◌, ◌≤◌}
use native.Mathlib.Nat.{sub_self}
use native.Mathlib.Omega.{arith}
use lib.ListN.{length, take, drop, length-drop}
use lib.Seq.{take_all}
use Rattle.common.specs.Store.{part}
use Rattle.common.proofs.Choose.{pick_yes, pick_no}
use Rattle.common.proofs.Puts.{length_part}
use Rattle.text.specs.Text.{rest, same, among, starts_with}
use Rattle.text.proofs.Texts.{same_lengths, starts_fits}
use Rattle.type_table.specs.Table.{table, line_in}
use Rattle.type_name.specs.Names.{blank, of_name, past, up_to, marshal, named}
use Rattle.type_name.specs.Parts.{Passed, line_named, NameAt}

module _ (name : List ℕ) (b : Bool) (e : b ≡ among 46 name) where
  pub named_short : (r : ℕ) → b ≡ false → r ≡ line_in 1 table name → r ≡ named name
  unfolding named
  named_short r f g = pick_no _ _ _ _ (sym e ∙ f) g

  module _ (f : b ≡ true) (d : Bool) (h : d ≡ starts_with name marshal) where
    pub named_other : d ≡ false → 0 ≡ named name
    unfolding named starts_with
    named_other g = pick_yes _ _ _ _ (sym e ∙ f) (pick_no _ _ _ _ (sym h ∙ g) refl)

    pub named_full : (r : ℕ) → d ≡ true → r ≡ line_in 1 table (take (length name - 32) (drop 32 name)) → r ≡ named name
    unfolding named starts_with
    named_full r g k =
        let t : take (length name - 32) (drop 32 name) ≡ drop 32 name = take_all (length name - 32) (drop 32 name) (omega (arith, length-drop 32 name)) in
        pick_yes _ _ _ _ (sym e ∙ f) (pick_yes _ _ _ _ (sym h ∙ g) (rw t at k))

pub marshal_fits : (name : List ℕ) (d : Bool) → d ≡ starts_with name marshal → d ≡ true → 32 ≤ length name
marshal_fits name d e t = starts_fits name marshal d e t

pub ruleset names = (named_short, named_other, named_full, marshal_fits)

module _ (s : List ℕ) (at from to next : ℕ) (p : Passed blank s at from) (q : Passed of_name s from to) (r : Passed blank s to next) where
  left : rest s next ≡ past blank (past of_name (past blank (rest s at)))
  left = r.left ∙ rw (q.left, p.left) refl

  run : part s from (to - from) ≡ up_to of_name (past blank (rest s at))
  run = q.run ∙ rw p.left refl

  pub name_none : to ≡ from → NameAt s at (record { line = 3; next = next })
  unfolding line_named same part
  name_none e = record {
    most = r.most;
    line = rw (← run, e, sub_self from) (pick_yes _ _ _ _ refl refl);
    left = left;
  }

  pub name_some : (l : ℕ) → (to ≡ from → ⊥) → l ≡ named (take (to - from) (drop from s)) → NameAt s at (record { line = l; next = next })
  unfolding line_named part
  name_some l n e =
      let k : false ≡ same (part s from (to - from)) [] = same_lengths _ [] (λ z. n (omega (arith, q.least, q.most, length_part s from (to - from) (omega (arith, q.least, q.most))))) in
      record { most = r.most; line = rw (← run) (pick_no _ _ _ _ (sym k) e); left = left }
