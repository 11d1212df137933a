-- The laws of the varint calls. Assumes nothing.
use mathlib.Core.Path.{◌≡◌, refl, ap}
use mathlib.Core.List.{List, [], ◌∷◌}
use Prim.Native.Nat.{ℕ, ◌≤◌, ◌<◌}
use native.Mathlib.Omega.{arith}
use borrow.Author.Tests.{lt-ltb, le-ltb}
use lib.ListN.{length}
use Rattle.std.proofs.Common.{Ok, Err}
use Rattle.common.specs.Got.{Reading, said}
use Rattle.common.specs.Refusals.{fault_number, taken, refused, bad_at}
use Rattle.common.specs.Store.{Room, Puts}
use Rattle.number_varint.specs.Varints.{shortest, varint_at}
use Rattle.common.specs.declared.refusal.Fault.{Fault}
use Rattle.common.specs.declared.refusal.Fault.TheVariants.{OverLimit, NoRoom}
use Rattle.common.specs.declared.refusal.Slice.TheVariants.{Data, Output}
use Rattle.common.proofs.Choose.{pick_yes, pick_no}
use Rattle.sstable.specs.Varints.{number_in, varint_read, varint_put, varint_stored, VarintPut}
use Rattle.sstable_words.proofs.Words.{words_taken, words_refused}

-- ---- reading
module _ (s : List ℕ) (at end : ℕ) where
  pub read_over : 1073741824 < length s → 1 ∷ 3 ∷ 0 ∷ 0 ∷ 0 ∷ [] ≡ varint_read s at end
  unfolding varint_read
  read_over h = words_refused _ _ OverLimit Data _ _ _ (pick_yes _ _ _ _ (lt-ltb _ _ h) refl) refl refl

  pub read_is : (r : Reading ℕ) (v n : ℕ) → length s ≤ 1073741824 → said r ≡ varint_at s at end → r ≡ Ok (v, n) → 0 ∷ 0 ∷ 0 ∷ v ∷ n ∷ [] ≡ varint_read s at end
  unfolding varint_read said number_in
  read_is r v n h e f = words_taken _ _ _ (pick_no _ _ _ _ (le-ltb _ _ h) (rw (← e, f)))

  pub read_bad : (r : Reading ℕ) (f : Fault) (m p : ℕ) → length s ≤ 1073741824 → said r ≡ varint_at s at end → r ≡ Err (bad_at f p) → m ≡ fault_number f
      → m ∷ 3 ∷ p ∷ 0 ∷ 0 ∷ [] ≡ varint_read s at end
  unfolding varint_read said number_in
  read_bad r f m p h e g k = words_refused _ _ f Data _ _ _ (pick_no _ _ _ _ (le-ltb _ _ h) (rw (← e, g))) k refl

pub ruleset reads_varint = (read_over, read_is, read_bad)

-- ---- storing
module _ (d : List ℕ) (x : ℕ) where
  pub put_over : 1073741824 < length d → VarintPut d d x (1 ∷ 7 ∷ 0 ∷ 0 ∷ [])
  unfolding varint_put varint_stored
  put_over h = record {
    answer = words_refused _ _ OverLimit Output _ _ _ (pick_yes _ _ _ _ (lt-ltb _ _ h) refl) refl refl;
    buffer = pick_yes _ _ _ _ (lt-ltb _ _ h) refl;
  }

  pub put_long : (n : ℕ) → length d ≤ 1073741824 → n ≡ length (shortest x) → length d < n → VarintPut d d x (13 ∷ 7 ∷ n ∷ 0 ∷ [])
  unfolding varint_put varint_stored
  put_long n h e k =
      let l = lt-ltb (length d) (length (shortest x)) (omega arith) in
      record {
        answer = words_refused _ _ NoRoom Output _ _ _ (pick_no _ _ _ _ (le-ltb _ _ h) (pick_yes _ _ _ _ l (ap (refused NoRoom Output) e))) refl refl;
        buffer = pick_no _ _ _ _ (le-ltb _ _ h) (pick_yes _ _ _ _ l refl);
      }

  pub put_room : (n : ℕ) → n ≡ length (shortest x) → n ≤ length d → Room d 0 (shortest x)
  put_room n e h = record { fits = omega arith }

  pub put_fits : (d' : List ℕ) (n m : ℕ) → length d ≤ 1073741824 → n ≡ length (shortest x) → n ≤ length d → Puts d d' 0 (shortest x) m → VarintPut d d' x (0 ∷ 0 ∷ 0 ∷ m ∷ [])
  unfolding varint_put varint_stored
  put_fits d' n m h e k p =
      let l = le-ltb (length d) (length (shortest x)) (omega arith) in
      record {
        answer = words_taken _ _ _ (pick_no _ _ _ _ (le-ltb _ _ h) (pick_no _ _ _ _ l (ap (λ (y : ℕ). taken (y ∷ [])) (omega (arith, p.next)))));
        buffer = pick_no _ _ _ _ (le-ltb _ _ h) (pick_no _ _ _ _ l p.stores);
      }

pub ruleset puts_varint = (put_over, put_long, put_room, put_fits)
