-- The laws of the call for Scylla.db. Assumes nothing.
use mathlib.Core.Path.{◌≡◌}
use mathlib.Core.List.{List, [], ◌∷◌}
use Prim.Native.Nat.{ℕ}
use Rattle.std.proofs.Common.{Result, Ok, Err}
use Rattle.common.specs.Refusals.{fault_number, slice_number, outcome}
use Rattle.common.specs.declared.refusal.Refusal.{Refusal}
use Rattle.scylla_file.specs.Components.{scylla_of}
use Rattle.scylla_file.specs.declared.component.Components.{Components}
use Rattle.sstable.specs.Scylla.{component_words, scylla_read}
use Rattle.sstable_words.proofs.Words.{words_taken, words_refused, mapped_taken, mapped_refused}

module _ (s : List ℕ) (r : Result Components Refusal) (e : outcome r ≡ scylla_of s) where
  pub scylla_is : (c : Components) → r ≡ Ok c → 0 ∷ 0 ∷ 0 ∷ component_words c ≡ scylla_read s
  unfolding scylla_read outcome
  scylla_is c f = words_taken _ _ _ (mapped_taken component_words c _ (rw f at e))

  pub scylla_bad : (x : Refusal) (m n : ℕ) → r ≡ Err x → m ≡ fault_number x.fault → n ≡ slice_number x.slice
      → m ∷ n ∷ x.place ∷ 0 ∷ 0 ∷ 0 ∷ 0 ∷ 0 ∷ 0 ∷ 0 ∷ 0 ∷ 0 ∷ 0 ∷ 0 ∷ [] ≡ scylla_read s
  unfolding scylla_read outcome
  scylla_bad x m n f g h = words_refused _ _ x.fault x.slice _ _ _ (mapped_refused component_words x.fault x.slice x.place _ (rw f at e)) g h

pub ruleset reads_scylla = (scylla_is, scylla_bad)
