-- The laws of the calls for Data. Assumes nothing.
use Rattle.std.proofs.Common.{Result, Ok, Err, Option, Some, None}
use mathlib.Core.Path.{◌≡◌, refl, sym, ap, ◌∙◌}
use mathlib.Core.List.{List, [], ◌∷◌}
use Prim.Native.Nat.{ℕ, ◌-◌, ◌<◌}
use native.Mathlib.Omega.{arith}
use borrow.Author.Tests.{lt-ltb, eq-eqb, ne_eqb, ltb-false}
use lib.ListN.{length, get_or}
use Rattle.common.specs.Choose.{pick, bind}
use Rattle.common.specs.Refusals.{fault_number, slice_number, said_refusal, outcome}
use Rattle.common.specs.Store.{part, shown}
use Rattle.common.specs.Times.{biased}
use Rattle.common.proofs.Choose.{pick_yes, pick_no, pick_ind, bind_self}
use Rattle.common.proofs.Puts.{length_part}
use Rattle.data_items.specs.Items.{value_of}
use Rattle.common.specs.declared.refusal.Refusal.{Refusal}
use Rattle.common.specs.declared.times.Bases.{Bases}
use Rattle.data_walk.specs.Cursors.{at_items}
use Rattle.data_walk.specs.Steps.{bad_state, partition_answer, step_in, step_at, said_step}
use Rattle.call_check.specs.Tables.{after, table_at}
use Rattle.data_walk.specs.Walks.{start}
use Rattle.data_items.specs.declared.Item.{Item}
use Rattle.data_walk.specs.declared.cursors.Cursor.{Cursor}
use Rattle.data_walk.specs.declared.cursors.Phase.TheVariants.{Partition}
use Rattle.list_call.specs.Lists.{list_at, counted, Lists}
use Rattle.write_accept.specs.Writes.{write_of}
use Rattle.write_call.specs.Written.{Writes}
use Rattle.sstable_words.specs.Words.{words, mapped}
use Rattle.sstable_data.specs.Data.{bases_in, phase_of, position_in, cursor_in, state_words, item_words, no_item, answer_words, state_after, step_of, Told, value_words, Shows, items_of, number_words, Listing, data_of, Writing}

-- ---- words
pub item_is : (i : Item) (t m n : ℕ) → t ≡ biased i.timestamp → m ≡ biased i.mark → n ≡ biased i.mark2
    → 0 ∷ 0 ∷ 0 ∷ i.kind ∷ i.flags ∷ i.column ∷ i.ttl ∷ t ∷ m ∷ i.local ∷ i.expiry ∷ n ∷ i.local2 ∷ i.offset ∷ i.length ∷ [] ≡ 0 ∷ 0 ∷ 0 ∷ item_words i
unfolding item_words bind
item_is i t m n e f g = rw (e, f, g) refl

pub refusal_is : (r : Refusal) (m n : ℕ) → m ≡ fault_number r.fault → n ≡ slice_number r.slice
    → m ∷ n ∷ r.place ∷ 0 ∷ 0 ∷ 0 ∷ 0 ∷ 0 ∷ 0 ∷ 0 ∷ 0 ∷ 0 ∷ 0 ∷ 0 ∷ 0 ∷ [] ≡ words no_item (said_refusal r)
unfolding words
refusal_is r m n e f = rw (e, f) refl

-- ---- a step
module _ (c b s w : List ℕ) (k : Bases) (x : Cursor) (r : Result (Option (Item × Cursor)) Refusal) (e : k ≡ bases_in b) (f : x ≡ cursor_in w) (g : said_step r ≡ step_at c k x s) where
  of_step : step_of c b s w ≡ said_step r
  unfolding step_of bind
  of_step = rw (← e, ← f) (sym g)

  pub told_next : (i : Item) (y : Cursor) (o : Option (Item × Cursor)) (a w' : List ℕ) → r ≡ Ok o → o ≡ Some (i, y) → w' ≡ state_words y → a ≡ 0 ∷ 0 ∷ 0 ∷ item_words i → Told (step_of c b s w) w w' a
  unfolding answer_words state_after words mapped said_step
  told_next i y o a w' d u h j = rw (of_step, d, u) record { answer = j; state = h }

  pub told_done : (o : Option (Item × Cursor)) → r ≡ Ok o → o ≡ None → Told (step_of c b s w) w w (0 ∷ 0 ∷ 0 ∷ no_item)
  unfolding answer_words state_after words mapped said_step
  told_done o d u = rw (of_step, d, u) record { answer = refl; state = refl }

  pub told_refused : (y : Refusal) (a : List ℕ) → r ≡ Err y → a ≡ words no_item (said_refusal y) → Told (step_of c b s w) w w a
  unfolding answer_words state_after words mapped said_step
  told_refused y a d j = rw (of_step, d) record { answer = j; state = refl }

pub ruleset tells = (told_next, told_done, told_refused)

-- sixteen zeros are the start of Data
pub zeros_start : (c s : List ℕ) (b : Bases) → step_at c b (cursor_in (0 ∷ 0 ∷ 0 ∷ 0 ∷ 0 ∷ 0 ∷ 0 ∷ 0 ∷ 0 ∷ 0 ∷ 0 ∷ 0 ∷ 0 ∷ 0 ∷ 0 ∷ 0 ∷ [])) s ≡ step_at c b start s
unfolding step_at step_in partition_answer cursor_in position_in phase_of start at_items bind pick
zeros_start c s b = refl

-- a number that is no phase is refused where the state is tested: 10 at 0
outside_position : (w : List ℕ) → 6 < get_or w 0 0 → position_in w ≡ 18446744073709551615
unfolding position_in
outside_position w h = sym (pick_yes _ _ _ _ (lt-ltb 6 (get_or w 0 0) h) refl)

outside_phase : (n : ℕ) → 6 < n → phase_of n ≡ Partition
unfolding phase_of
outside_phase n h =
    sym
    (pick_no _ _ _ _ (ne_eqb n 1 (λ e. absurd (omega (arith, e))))
    (pick_no _ _ _ _ (ne_eqb n 2 (λ e. absurd (omega (arith, e))))
    (pick_no _ _ _ _ (ne_eqb n 3 (λ e. absurd (omega (arith, e))))
    (pick_no _ _ _ _ (ne_eqb n 4 (λ e. absurd (omega (arith, e))))
    (pick_no _ _ _ _ (ne_eqb n 5 (λ e. absurd (omega (arith, e))))
    (pick_no _ _ _ _ (ne_eqb n 6 (λ e. absurd (omega (arith, e)))) refl))))))

pub no_phase : (c s w : List ℕ) (b : Bases) → 6 < get_or w 0 0 → length s < 18446744073709551615 → step_at c b (cursor_in w) s ≡ after (table_at c b s 0) (λ _. bad_state)
unfolding step_at step_in partition_answer cursor_in bind
no_phase c s w b h k =
    rw (outside_phase (get_or w 0 0) h, outside_position w h)
    (ap (after (table_at c b s 0)) (ap (λ x _. x) (sym (pick_yes _ _ _ _ (lt-ltb (length s) 18446744073709551615 k) refl))))

-- ---- a value
-- what is shown is there, from its offset on
part_none : (s : List ℕ) (offset : ℕ) → part s offset (length {A = ℕ} []) ≡ []
unfolding part
part_none s offset = refl

part_shown : (s : List ℕ) (offset len : ℕ) → part s offset (length (shown s offset len)) ≡ shown s offset len
unfolding shown
part_shown s offset len =
    pick_ind (λ v. part s offset (length v) ≡ v) _ _ _ (λ _. part_none s offset) (λ e.
    pick_ind (λ v. part s offset (length v) ≡ v) _ _ _ (λ _. part_none s offset) (λ f.
    ap (part s offset) (length_part s offset len (omega (arith, ltb-false (length s) offset e, ltb-false (length s - offset) len f)))))

part_value : (s : List ℕ) (i : Item) → part s i.offset (length (value_of s i)) ≡ value_of s i
unfolding value_of
part_value s i = pick_ind (λ v. part s i.offset (length v) ≡ v) _ _ _ (λ _. part_shown s i.offset i.length) (λ _. part_none s i.offset)

empty : (v : List ℕ) → length v ≡ 0 → v ≡ []
empty [] e = refl
empty (x ∷ v) e = absurd (omega (arith, e))

module _ (s : List ℕ) (i : Item) (v : List ℕ) (e : v ≡ value_of s i) where
  pub shows_none : length v ≡ 0 → Shows s i (0 ∷ 0 ∷ [])
  unfolding value_words part
  shows_none h = record {
    place = bind_self _ _ _ (pick_yes _ _ _ _ (eq-eqb _ _ (ap length (sym e) ∙ h)) refl);
    bytes = sym (sym e ∙ empty v h);
  }

  pub shows_there : (m n : ℕ) → m ≡ i.offset → n ≡ length v → ¬ (n ≡ 0) → Shows s i (m ∷ n ∷ [])
  unfolding value_words
  shows_there m n f g h = rw (f, g, e) record {
    place = bind_self _ _ _ (pick_no _ _ _ _ (ne_eqb _ _ (λ k. h (g ∙ ap length e ∙ k))) refl);
    bytes = part_value s i;
  }

pub ruleset shows = (shows_none, shows_there)

-- ---- a number
module _ (l : Result ℕ Refusal) where
  pub number_is : (n : ℕ) → l ≡ Ok n → 0 ∷ 0 ∷ 0 ∷ n ∷ [] ≡ number_words (outcome l)
  unfolding number_words outcome words mapped
  number_is n e = rw e refl

  pub number_bad : (x : Refusal) (m n : ℕ) → l ≡ Err x → m ≡ fault_number x.fault → n ≡ slice_number x.slice → m ∷ n ∷ x.place ∷ 0 ∷ [] ≡ number_words (outcome l)
  unfolding number_words outcome words mapped
  number_bad x m n e f g = rw (e, f, g) refl

pub ruleset numbers = (number_is, number_bad)

-- ---- the listing
module _ (c b s : List ℕ) (k : Bases) (l : Result ℕ Refusal) (e : k ≡ bases_in b) where
  pub counts_items : (a : List ℕ) → outcome l ≡ counted 0 (list_at c k s 0) → a ≡ number_words (outcome l) → a ≡ number_words (counted 0 (items_of c b s 0))
  unfolding items_of bind
  counts_items a f g = rw (← e, ← f) g

  pub lists_items : (d d' a : List ℕ) → Lists (list_at c k s (length d)) d d' l → a ≡ number_words (outcome l) → Listing (items_of c b s (length d)) d d' a
  unfolding items_of bind
  lists_items d d' a h g = rw (← e) record { answer = rw (← h.answer) g; buffer = h.buffer }

-- ---- the writer
pub writes_data : (c b s bytes : List ℕ) (k : Bases) (l : Result ℕ Refusal) → k ≡ bases_in b → (d d' a : List ℕ) → Writes (write_of c k s bytes (length d)) d d' l → a ≡ number_words (outcome l)
    → Writing (data_of c b s bytes (length d)) d d' a
unfolding data_of bind
writes_data c b s bytes k l e d d' a h g = rw (← e) record { answer = rw (← h.answer) g; buffer = h.buffer }
