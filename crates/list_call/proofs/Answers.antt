-- The cases of the listing's answer. Assumes nothing.
use Rattle.std.proofs.Common.{Err, Ok, Result}
use mathlib.Core.Path.{◌≡◌, refl, sym, ap, ◌∙◌}
use mathlib.Core.List.{List, [], ◌∷◌}
use mathlib.Core.Option.{none, some}
use Prim.Native.Nat.{ℕ, zero, suc, ◌+◌, ◌*◌, ◌/◌, ◌≤◌, ◌<◌}
use native.Mathlib.Omega.{arith}
use borrow.Author.Tests.{lt-ltb, le-ltb}
use lib.Dec.{ltb}
use lib.ListN.{length}
use Rattle.common.specs.Choose.{pick, bind}
use Rattle.common.specs.Refusals.{Outcome, taken, refused, outcome}
use Rattle.common.specs.Store.{splice}
use Rattle.common.specs.declared.refusal.Fault.{Fault}
use Rattle.common.specs.declared.refusal.Fault.TheVariants.{NoRoom}
use Rattle.common.specs.declared.refusal.Refusal.{Refusal}
use Rattle.common.specs.declared.refusal.Slice.{Slice}
use Rattle.common.specs.declared.refusal.Slice.TheVariants.{Output}
use Rattle.common.specs.declared.times.Bases.{Bases}
use Rattle.common.proofs.Choose.{pick_yes, pick_no}
use Rattle.schema_check.specs.declared.records.Counts.{Counts}
use Rattle.data_walk.specs.Cursors.{at_items}
use Rattle.data_walk.specs.Steps.{Answer, step_in}
use Rattle.call_check.specs.Tables.{after, table_at}
use Rattle.data_walk.specs.Walks.{start, remaining, add, follow, walk_in, walk_from}
use Rattle.data_items.specs.declared.Item.{Item}
use Rattle.data_walk.specs.declared.cursors.Cursor.{Cursor}
use Rattle.call_check.proofs.Schemas.{told_table}
use Rattle.data_contents.specs.Contents.{contents_of}
use Rattle.data_contents.proofs.Lists.{walk_lists}
use Rattle.list_call.specs.Lists.{list_at, counted, fitted, record_bytes, kept, Ready, Lists}

-- ---- the length of a walk
-- x has at most n items
record Short (x : Outcome (List Item)) (n : ℕ) : Type 0 where
  below : (l : List Item) → x ≡ taken l → length l ≤ n

short_none : (n : ℕ) → Short (taken []) n
short_none n = record { below = λ l e. let f : [] ≡ l = cc in rw (← f) (omega arith) }

short_refused : (f : Fault) (z : Slice) (p n : ℕ) → Short (refused f z p) n
short_refused f z p n = record { below = λ l e. let q : ◌≡◌ {A = ℕ} 0 1 = cc in absurd (omega arith) }

short_add : (i : Item) (x : Outcome (List Item)) (n : ℕ) → Short x n → Short (add i x) (suc n)
unfolding add
short_add i (taken m) n h = record { below = λ l e. let f : i ∷ m ≡ l = cc in rw (← f) (omega (arith, h.below m refl)) }
short_add i (refused f z p) n h = short_refused f z p (suc n)

short_follow : (a : Answer) (g : Cursor → Outcome (List Item)) (n : ℕ) → ((y : Cursor) → Short (g y) n) → Short (follow a g) (suc n)
unfolding follow
short_follow (taken none) g n h = short_none (suc n)
short_follow (taken (some z)) g n h = short_add z.0 (g z.1) n (h z.1)
short_follow (refused f z p) g n h = short_refused f z p (suc n)

module _ (c : List ℕ) (k : Counts) (b : Bases) (s : List ℕ) where
  walk_short : (n : ℕ) (x : Cursor) → Short (walk_in n c k b s x) n
  unfolding walk_in
  walk_short zero x = short_none 0
  walk_short (suc n) x = short_follow (step_in x.phase c k b s x) (walk_in n c k b s) n (walk_short n)

  from_short : Short (walk_from c k b s start) (128 * length s + 1)
  unfolding walk_from remaining start at_items bind
  from_short = record { below = λ l e. omega (arith, (walk_short (suc (remaining (length s) start)) start).below l e) }

-- ---- what the count tells
module _ (x : Outcome (List Item)) (n : ℕ) where
  record CountsTo : Type 0 where
    items : List Item
    are : x ≡ taken items
    many : length items ≡ n

  counts_to : outcome (Ok n) ≡ counted 0 x → CountsTo
  unfolding outcome counted
  counts_to e = go x refl e
    where
      go : (y : Outcome (List Item)) → x ≡ y → taken n ≡ counted 0 y → CountsTo
      go (taken l) f g = let q : n ≡ 0 + length l = cc in record { items = l; are = f; many = omega arith }
      go (refused y z p) f g = let q : ◌≡◌ {A = ℕ} 0 1 = cc in absurd (omega arith)

module _ (x : Outcome (List Item)) (r : Result ℕ Refusal) (e : outcome r ≡ counted 0 x) where
  module _ (n : ℕ) (f : r ≡ Ok n) where
    that : outcome (Ok n) ≡ counted 0 x
    that = rw f at e

    pub ready : (d : List ℕ) → n ≤ length d / 64 → Ready x (length d)
    ready d l = let h = counts_to x n that in record { items = h.items; are = h.are; fits = omega (arith, h.many) }

    pub lists_full : (d : List ℕ) (q : Result ℕ Refusal) → length d / 64 < n → outcome q ≡ refused NoRoom Output (64 * n) → Lists x d d q
    unfolding outcome fitted kept
    lists_full d q l g =
        let t : pick (ltb (length d) (64 * n)) (refused NoRoom Output (64 * n)) (taken n) ≡ refused NoRoom Output (64 * n) = sym (pick_yes _ _ _ _ (lt-ltb (length d) (64 * n) (omega arith)) refl) in
        record { answer = rw (← that, t) g; buffer = rw (← that, t) refl }

    pub lists_whole : (d d' : List ℕ) → n ≤ length d / 64 → d' ≡ splice d 0 (record_bytes x) → Lists x d d' (Ok n)
    unfolding outcome fitted kept
    lists_whole d d' l g =
        let t : pick (ltb (length d) (64 * n)) (refused NoRoom Output (64 * n)) (taken n) ≡ taken n = sym (pick_no _ _ _ _ (le-ltb (length d) (64 * n) (omega arith)) refl) in
        record { answer = rw (← that, t) refl; buffer = rw (← that, t) g }

  pub lists_refused : (d : List ℕ) (q : Refusal) → r ≡ Err q → Lists x d d (Err q)
  unfolding outcome fitted kept
  lists_refused d q f = record { answer = rw (← e, f) refl; buffer = rw (← e, f) refl }

pub count_fits : (c : List ℕ) (k : Counts) (b : Bases) (s : List ℕ) (r : Result ℕ Refusal) (n : ℕ) → outcome r ≡ counted 0 (walk_from c k b s start) → r ≡ Ok n
    → length s ≤ 1073741824 → n ≤ 274877906944
count_fits c k b s r n e f l =
    let h = counts_to (walk_from c k b s start) n (rw f at e) in
    omega (arith, h.many, (from_short c k b s).below h.items h.are)

-- ---- behind what a call tests first
module _ (c : List ℕ) (b : Bases) (s : List ℕ) (room : ℕ) (r : Result Counts Refusal) (e : outcome r ≡ table_at c b s room) where
  module _ (k : Counts) (f : r ≡ Ok k) where
    -- the walk lists what Data holds
    list_is : list_at c b s room ≡ walk_from c k b s start
    unfolding list_at after outcome
    list_is = contents_is ∙ sym (walk_lists c k b s (told_table c b s room k r e f))
      where
        contents_is : list_at c b s room ≡ contents_of c k b s
        contents_is = rw (← e, f) refl

    pub counts_table : (q : Result ℕ Refusal) → outcome q ≡ counted 0 (walk_from c k b s start) → outcome q ≡ counted 0 (list_at c b s room)
    counts_table q g = rw list_is g

    pub lists_table : (d d' : List ℕ) (q : Result ℕ Refusal) → Lists (walk_from c k b s start) d d' q → Lists (list_at c b s room) d d' q
    lists_table d d' q g = rw list_is g

  module _ (q : Refusal) (f : r ≡ Err q) where
    pub counts_no_table : outcome (Err q) ≡ counted 0 (list_at c b s room)
    unfolding list_at after outcome counted
    counts_no_table = rw (← e, f) refl

    pub lists_no_table : (d : List ℕ) → Lists (list_at c b s room) d d (Err q)
    lists_no_table d = lists_refused (list_at c b s room) (Err q) counts_no_table d q refl

pub ruleset lists = (ready, lists_full, lists_whole, lists_refused, count_fits, counts_table, lists_table, counts_no_table, lists_no_table, refl)
