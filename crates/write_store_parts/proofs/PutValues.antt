-- Clustering values stored one by one. Assumes nothing.
use mathlib.Core.Path.{◌≡◌, refl, ap, ◌∙◌}
use mathlib.Core.List.{List, [], ◌++◌}
use Prim.Native.Nat.{ℕ, suc, ◌+◌, ◌-◌, ◌*◌, ◌^◌, ◌≤◌, ◌<◌}
use native.Mathlib.Omega.{arith}
use lib.ListN.{length, get_or}
use Rattle.common.specs.Store.{Room, Puts, shown}
use Rattle.data_field.specs.declared.fields.Span.{Span}
use Rattle.write_form.specs.Clusterings.{clustering_bytes}
use Rattle.write_accept.specs.Fields.{item_of}
use Rattle.write_accept.specs.Entries.{value_of}
use Rattle.list_call.proofs.Writing.{Writing, writing_none, writing_same, writing_end, writing_room, writing_more}
use Rattle.write_store_parts.specs.Again.{value_again, values_again, ValuesThere}

values_last : (c : List ℕ) (column : ℕ) (bytes s : List ℕ) (at : ℕ) → values_again c column bytes s at 0 ≡ []
unfolding values_again
values_last c column bytes s at = refl

values_next : (c : List ℕ) (column : ℕ) (bytes s : List ℕ) (at k : ℕ) → values_again c column bytes s at (suc k) ≡ value_again c column bytes s at ++ values_again c (column + 16) bytes s (at + 64) k
unfolding values_again
values_next c column bytes s at k = refl

-- ---- one value
module _ (c : List ℕ) (column : ℕ) (bytes s : List ℕ) (at : ℕ) (h : ValuesThere bytes s at 1) where
  pub one_record : at + 64 ≤ length s
  one_record = omega (arith, h.within 0 (omega arith))

  module _ (v : Span) (e : v ≡ value_of (item_of s at)) where
    pub one_lies : v.start + v.len ≤ length bytes
    one_lies = let f : at + 64 * 0 ≡ at = omega arith in rw e (rw f at (h.lie 0 (omega arith)))

    pub one_room : (d : List ℕ) (to : ℕ) → Room d to (value_again c column bytes s at) → Room d to (clustering_bytes (get_or c (column + 3) 0) (shown bytes v.start v.len))
    unfolding value_again
    one_room d to r = rw e r

    pub one_puts : (d d' : List ℕ) (to n : ℕ) → Puts d d' to (clustering_bytes (get_or c (column + 3) 0) (shown bytes v.start v.len)) n → Puts d d' to (value_again c column bytes s at) n
    unfolding value_again
    one_puts d d' to n p = rw e at p

pub ruleset one_value = (one_record, one_lies, one_room, one_puts)

-- ---- one after the other
there_first : (bytes s : List ℕ) (at k : ℕ) → ValuesThere bytes s at (suc k) → ValuesThere bytes s at 1
there_first bytes s at k h = record { within = λ i l. h.within i (omega arith); lie = λ i l. h.lie i (omega arith) }

there_rest : (bytes s : List ℕ) (at k : ℕ) → ValuesThere bytes s at (suc k) → ValuesThere bytes s (at + 64) k
there_rest bytes s at k h = record {
  within = λ i l. omega (arith, h.within (suc i) (omega arith));
  lie = λ i l. let e : at + 64 * suc i ≡ at + 64 + 64 * i = omega arith in rw e at (h.lie (suc i) (omega arith));
}

-- the values from column i on; R is what all of them are
pub record Valuing (R : List ℕ) (c : List ℕ) (bytes s : List ℕ) (k : ℕ) (d₀ d : List ℕ) (to column i p out : ℕ) : Type 0 where
  pub inside : column + 16 * (k - i) ≤ length c
  pub few : k ≤ 32
  pub there : ValuesThere bytes s p (k - i)
  pub writing : Writing R d₀ d to out (values_again c column bytes s p (k - i))

module _ (c : List ℕ) (bytes s : List ℕ) (k at : ℕ) (d : List ℕ) (to : ℕ) where
  pub valuing_none : 16 + 16 * k ≤ length c → k ≤ 32 → ValuesThere bytes s at k → Room d to (values_again c 16 bytes s at k)
      → Valuing (values_again c 16 bytes s at k) c bytes s k d d to 16 0 at to
  valuing_none h l t r =
      let e : k - 0 ≡ k = omega arith in
      record {
        inside = omega arith;
        few = l;
        there = rw e t;
        writing = rw e (writing_none (values_again c 16 bytes s at k) d to r);
      }

module _ (R : List ℕ) (c : List ℕ) (bytes s : List ℕ) (k : ℕ) (d₀ d : List ℕ) (to column i p out : ℕ) (v : Valuing R c bytes s k d₀ d to column i p out) where
  pub valuing_same : length d ≡ length d₀
  valuing_same = writing_same R d₀ d to out _ v.writing

  pub valuing_end : k ≤ i → Puts d₀ d to R out
  valuing_end l =
      let e : k - i ≡ 0 = omega arith in
      writing_end R d₀ d to out _ v.writing (ap (values_again c column bytes s p) e ∙ values_last c column bytes s p)

  module _ (l : i < k) where
    more : k - i ≡ suc (k - (i + 1))
    more = omega arith

    pub valuing_there : ValuesThere bytes s p 1
    valuing_there = there_first bytes s p (k - (i + 1)) (rw (← more) v.there)

    valuing_record : p + 64 ≤ length s
    valuing_record = one_record c column bytes s p valuing_there

    pub valuing_index : column + 3 < length c
    valuing_index = omega (arith, v.inside)

    module _ (m : length s < 2 ^ 64) where
      pub valuing_next : p + 64 < 18446744073709551616
      valuing_next = omega (arith, valuing_record)

    module _ (m : length c < 2 ^ 64) where
      pub valuing_column : column + 16 < 18446744073709551616
      valuing_column = omega (arith, v.inside)

    parts : values_again c column bytes s p (k - i) ≡ value_again c column bytes s p ++ values_again c (column + 16) bytes s (p + 64) (k - (i + 1))
    parts = ap (values_again c column bytes s p) more ∙ values_next c column bytes s p (k - (i + 1))

    pub valuing_room : Room d out (value_again c column bytes s p)
    valuing_room = writing_room R d₀ d to out _ v.writing _ _ parts

    pub valuing_more : (d' : List ℕ) (n : ℕ) → Puts d d' out (value_again c column bytes s p) n → Valuing R c bytes s k d₀ d' to (column + 16) (i + 1) (p + 64) n
    valuing_more d' n w = record {
      inside = omega (arith, v.inside);
      few = v.few;
      there = there_rest bytes s p (k - (i + 1)) (rw (← more) v.there);
      writing = writing_more R d₀ d to out _ v.writing _ _ parts d' n w;
    }

pub ruleset valuing = (valuing_none, valuing_same, valuing_end, valuing_there, valuing_index, valuing_next, valuing_column, valuing_room, valuing_more)
