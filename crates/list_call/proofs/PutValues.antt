-- The records of clustering values, stored one by one. Assumes nothing.
use mathlib.Core.Path.{◌≡◌, refl, sym, ap, ◌∙◌}
use mathlib.Core.List.{List, [], ◌∷◌, ◌++◌}
use Prim.Native.Nat.{ℕ, suc, ◌+◌, ◌-◌, ◌*◌, ◌/◌, ◌^◌, ◌≤◌, ◌<◌}
use native.Mathlib.Omega.{arith}
use lib.ListN.{length, get_or}
use Rattle.common.specs.Got.{Got, got, on, Took}
use Rattle.common.specs.Store.{Room, Puts}
use Rattle.common.proofs.Gives.{got_value, got_place}
use Rattle.data_field.specs.declared.fields.Span.{Span}
use Rattle.data_clustering.specs.Prefixes.{clustering_at, values_at, widths_at}
use Rattle.data_items.specs.Items.{value_item}
use Rattle.data_items.specs.declared.Item.{Item}
use Rattle.data_contents.specs.Contents.{values_listed}
use Rattle.data_contents.proofs.Follows.{Parted, parted}
use Rattle.list_call.specs.Records.{record_of, records_of}
use Rattle.list_call.specs.Parts.{values_of, Fitting}
use Rattle.list_call.proofs.Writing.{Writing, writing_none, writing_same, writing_end, writing_room, writing_more}

pub values_of_lem : (x : Got (List Span)) (vs : List Span) (n : ℕ) → x ≡ got vs n → values_of x ≡ values_listed 0 vs
unfolding values_of
values_of_lem x vs n e = rw e refl

module _ (c s : List ℕ) (end : ℕ) where
  values_last : (a h p : ℕ) → values_at (widths_at c a 0) h s p end ≡ got [] p
  unfolding values_at widths_at
  values_last a h p = refl

  values_next : (a j h p : ℕ) → values_at (widths_at c a (suc j)) h s p end ≡ on (clustering_at (get_or c (a + 3) 0) h s p end) (λ v q. on (values_at (widths_at c (a + 16) j) (h / 4) s q end) (λ vs r. got (v ∷ vs) r))
  unfolding values_at widths_at
  values_next a j h p = refl

-- the values from column i on, and their records
pub record Valuing (R : List ℕ) (c s : List ℕ) (k : ℕ) (d₀ d : List ℕ) (to column i h p out : ℕ) : Type 0 where
  pub inside : column + 16 * (k - i) ≤ length c
  pub values : List Span
  pub place : ℕ
  pub is : values_at (widths_at c column (k - i)) h s p (length s) ≡ got values place
  pub writing : Writing R d₀ d to out (records_of (values_listed i values))

module _ (c s : List ℕ) (k header at : ℕ) (d : List ℕ) (to : ℕ) where
  pub valuing_none : 16 + 16 * k ≤ length c
      → Fitting (values_at (widths_at c 16 k) header s at (length s)) (values_of (values_at (widths_at c 16 k) header s at (length s))) d to
      → Valuing (records_of (values_of (values_at (widths_at c 16 k) header s at (length s)))) c s k d d to 16 0 header at to
  valuing_none h f =
      let e : k - 0 ≡ k = omega arith in
      record {
        inside = omega arith;
        values = f.value;
        place = f.place;
        is = rw e f.is;
        writing = rw (values_of_lem _ f.value f.place f.is) (writing_none (records_of (values_listed 0 f.value)) d to (rw (values_of_lem _ f.value f.place f.is) at f.room));
      }

module _ (R : List ℕ) (c s : List ℕ) (k : ℕ) (d₀ d : List ℕ) (to column i h p out : ℕ) (v : Valuing R c s k d₀ d to column i h p out) where
  pub valuing_same : length d ≡ length d₀
  valuing_same = writing_same R d₀ d to out _ v.writing

  pub valuing_end : k ≤ i → Puts d₀ d to R out
  unfolding records_of
  valuing_end l =
      let e : k - i ≡ 0 = omega arith in
      let g : [] ≡ v.values = got_value (sym (values_last c s (length s) column h p) ∙ rw e at v.is) in
      writing_end R d₀ d to out _ v.writing (ap (λ (x : List Span). records_of (values_listed i x)) (sym g))

  module _ (l : i < k) where
    pub valuing_index : column + 3 < length c
    valuing_index = omega (arith, v.inside)

    module _ (m : length c < 2 ^ 64) where
      pub valuing_width : column + 3 < 18446744073709551616
      valuing_width = omega (arith, v.inside)

      pub valuing_column : column + 16 < 18446744073709551616
      valuing_column = omega (arith, v.inside)

    more : k - i ≡ suc (k - (i + 1))
    more = omega arith

    next : Parted (clustering_at (get_or c (column + 3) 0) h s p (length s)) (λ x q. on (values_at (widths_at c (column + 16) (k - (i + 1))) (h / 4) s q (length s)) (λ vs r. got (x ∷ vs) r)) v.values v.place
    next = parted _ _ v.values v.place (sym (values_next c s (length s) column (k - (i + 1)) h p) ∙ rw (← more) v.is)

    behind : Parted (values_at (widths_at c (column + 16) (k - (i + 1))) (h / 4) s next.place (length s)) (λ vs r. got (next.value ∷ vs) r) v.values v.place
    behind = parted _ _ v.values v.place next.rest

    pub valuing_took : Took (clustering_at (get_or c (column + 3) 0) h s p (length s))
    valuing_took = record { value = next.value; place = next.place; is = next.is }

    module _ (x : Span) (q : ℕ) (e : got x q ≡ clustering_at (get_or c (column + 3) 0) h s p (length s)) where
      module _ (it : Item) (g : it ≡ value_item i x) where
        same_value : next.value ≡ x
        same_value = got_value (sym next.is ∙ sym e)

        same_next : next.place ≡ q
        same_next = got_place (sym next.is ∙ sym e)

        records : records_of (values_listed i v.values) ≡ record_of it ++ records_of (values_listed (i + 1) behind.value)
        unfolding records_of
        records =
            ap (λ (y : List Span). records_of (values_listed i y)) (sym (got_value behind.rest))
            ∙ ap (λ (y : Item). record_of y ++ records_of (values_listed (i + 1) behind.value)) (ap (value_item i) same_value ∙ sym g)

        pub valuing_room : Room d out (record_of it)
        valuing_room = writing_room R d₀ d to out _ v.writing _ _ records

        pub valuing_more : (d' : List ℕ) (n : ℕ) → Puts d d' out (record_of it) n → Valuing R c s k d₀ d' to (column + 16) (i + 1) (h / 4) q n
        valuing_more d' n w = record {
          inside = omega (arith, v.inside);
          values = behind.value;
          place = v.place;
          is = rw (← same_next) (behind.is ∙ ap (got behind.value) (got_place behind.rest));
          writing = writing_more R d₀ d to out _ v.writing _ _ records d' n w;
        }

pub ruleset valuing = (valuing_none, valuing_same, valuing_end, valuing_index, valuing_width, valuing_column, valuing_took, valuing_room, valuing_more)
