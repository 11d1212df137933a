-- What is read of clustering and sizes goes on, not past its end, and the values lie in the slice. Assumes nothing.
use mathlib.Core.Path.{◌≡◌, refl}
use mathlib.Core.Bool.{false}
use mathlib.Core.List.{List, [], ◌∷◌}
use Prim.Native.Nat.{ℕ, ◌+◌, ◌-◌, ◌/◌, ◌%◌, ◌≤◌, ◌<◌}
use native.Mathlib.Omega.{arith}
use borrow.Author.Tests.{ltb-false, eqb-true}
use lib.Dec.{ltb, eqb}
use lib.ListN.{length}
use Rattle.common.specs.Got.{Got, got, bad}
use Rattle.common.proofs.Gives.{Gives, gives_got, gives_bad, gives_on, gives_pick}
use Rattle.common.proofs.RoundTrip.{Reads}
use Rattle.data_field.specs.declared.fields.Span.{Span}
use Rattle.data_field.proofs.Ranges.{Goes, goes_none, goes_goes, moves_on, ValueIn, value_none, value_gives, varint_moves}
use Rattle.data_clustering.specs.Prefixes.{bad_header, header_at, clustering_at, values_at, skipped, prefix_at}
use Rattle.data_clustering.specs.Sizes.{sizes_at}
use Rattle.data_clustering.specs.declared.prefixes.Prefix.{Prefix}

-- the values lie in the slice, each as its column's width asks
abbrev pub ValuesIn : List ℕ → List ℕ → List Span → Type 0
ValuesIn s [] [] = Unit
ValuesIn s [] (v ∷ vs) = ◌≡◌ {A = ℕ} 0 1
ValuesIn s (w ∷ ws) [] = ◌≡◌ {A = ℕ} 0 1
ValuesIn s (w ∷ ws) (v ∷ vs) = ValueIn s w v × ValuesIn s ws vs

-- a clustering that was read from at up to n: its header is not refused, and the values stand behind it
pub record PrefixOk (s ws : List ℕ) (at end : ℕ) (x : Prefix) (n : ℕ) : Type 0 where
  pub header : bad_header (length ws) x.header ≡ false
  pub begins : Goes at end x.values
  pub goes : Goes x.values end n
  pub read : List Span
  pub is : values_at ws x.header s x.values end ≡ got read n
  pub values : ValuesIn s ws read

-- sizes that were read from at up to n: the body's end is not before n, and not past the end
pub record Sized (s : List ℕ) (at end stop n : ℕ) : Type 0 where
  pub past : at < n
  pub within : n ≤ stop
  pub stops : stop ≤ end
  pub inside : end ≤ length s

-- a reading whose value is not kept
pub gives_skipped : {A : Type 0} {P : A → ℕ → Type 0} {x : Got A} → Gives x P → Gives (skipped x) (λ u n. Reads x n (λ a. P a n))
unfolding skipped
gives_skipped {A} {P} {x} h = go x refl
  where
    go : (y : Got A) → x ≡ y → Gives (skipped y) (λ u n. Reads x n (λ a. P a n))
    go (got a n) e = gives_got _ _ (record { value = a; is = e; holds = h.given a n e })
    go (bad f p) e = gives_bad _ _

-- no column, no header
none_left : (k : ℕ) → k ≡ 0 → bad_header k 0 ≡ false
unfolding bad_header
none_left k e = rw e refl

module _ (s : List ℕ) (end : ℕ) where
  pub header_gives : (k at : ℕ) → at ≤ end → Gives (header_at k s at end) (λ h n. (bad_header k h ≡ false) × Goes at end n)
  unfolding header_at
  header_gives k at l =
      gives_pick (eqb k 0) (λ e. gives_got _ _ (none_left k (eqb-true k 0 e), goes_none l)) (λ e.
      gives_on _ (varint_moves s at end) (λ h n g.
      gives_pick (bad_header k h) (λ f. gives_bad _ _) (λ f. gives_got _ _ (f, moves_on g))))

  module _ (inside : end ≤ length s) where
    pub clustering_gives : (w h at : ℕ) → at ≤ end → Gives (clustering_at w h s at end) (λ v n. ValueIn s w v × Goes at end n)
    unfolding clustering_at
    clustering_gives w h at l = gives_pick (eqb (h % 2) 1) (λ e. gives_got _ _ (value_none s w, goes_none l)) (λ e. value_gives s at end w inside l)

    pub values_give : (ws : List ℕ) (h at : ℕ) → at ≤ end → Gives (values_at ws h s at end) (λ vs n. ValuesIn s ws vs × Goes at end n)
    unfolding values_at
    values_give [] h at l = gives_got _ _ (tt, goes_none l)
    values_give (w ∷ ws) h at l =
        gives_on _ (clustering_gives w h at l) (λ v m g.
        gives_on _ (values_give ws (h / 4) m g.1.within) (λ vs n j.
        gives_got _ _ ((g.0, j.0), goes_goes g.1 j.1)))

    pub prefix_gives : (ws : List ℕ) (at : ℕ) → at ≤ end → Gives (prefix_at ws s at end) (PrefixOk s ws at end)
    unfolding prefix_at
    prefix_gives ws at l =
        gives_on _ (header_gives (length ws) at l) (λ h m g.
        gives_on _ (gives_skipped (values_give ws h m g.1.within)) (λ u n j.
        gives_got _ _ (record { header = g.0; begins = g.1; goes = j.holds.1; read = j.value; is = j.is; values = j.holds.0 })))

  pub sizes_give : (at : ℕ) → Gives (sizes_at s at end) (Sized s at end)
  unfolding sizes_at
  sizes_give at =
      gives_on _ (varint_moves s at end) (λ size m g.
      gives_pick (ltb (end - m) size) (λ e. gives_bad _ _) (λ e.
      gives_on _ (varint_moves s m (m + size)) (λ previous n j.
      gives_got _ _ (record {
        past = omega (arith, g.past, j.past);
        within = j.within;
        stops = omega (arith, g.within, ltb-false (end - m) size e);
        inside = g.inside;
      }))))
