-- A list that is stored into a slice: from a place on, one part after the other, element by element. Assumes nothing.
use Rattle.std.proofs.Common.{◌≡◌, ℕ, suc, ◌+◌, ◌<◌, ◌≤◌, List, [], ◌∷◌, ◌++◌, length, get_or, take, drop, set, sym, refl, ap, ◌∙◌, append_assoc, append-nil, add_assoc, add-one, arith, length-append, length-drop, take-append-drop, length-take, length-take-le, get_or-take, drop-drop, take-suc-set, take_at, get_or-append-add, drop-set-lt, take-add, drop_at}
use lib.ListN.{get_or-append}
use lib.Seq.{paste, paste-zero, paste-suc, take-length, append_snoc, drop-append-add}
use Rattle.common.specs.Store.{splice}

-- d with the first n of vs stored from place at on
pub filled : List ℕ → ℕ → List ℕ → ℕ → List ℕ
filled d at vs n = paste d at vs n

pub filled_none : (d : List ℕ) (at : ℕ) (vs : List ℕ) → d ≡ filled d at vs 0
unfolding filled
filled_none d at vs = paste-zero d at vs

pub filled_more : (d : List ℕ) (at : ℕ) (vs : List ℕ) (i v : ℕ) → at + i < length d → i < length vs → v ≡ get_or vs i 0
    → set (filled d at vs i) (at + i) v ≡ filled d at vs (i + 1)
unfolding filled
filled_more d at vs i v h k e = rw (e, add-one i) (paste-suc d at vs i 0 h k)

pub filled_all : (d : List ℕ) (at : ℕ) (vs : List ℕ) (n : ℕ) → n ≡ length vs → filled d at vs n ≡ splice d at vs
unfolding filled splice
filled_all d at vs n e = rw (e, take-length vs)

pub length_splice : (d : List ℕ) (at : ℕ) (vs : List ℕ) → at + length vs ≤ length d → length (splice d at vs) ≡ length d
unfolding splice
length_splice d at vs h = rw (length-append, length-append, length-take, length-drop) (omega arith)

-- one element stored, and then the rest
pub splice_cons : (d : List ℕ) (at v : ℕ) (vs : List ℕ) → at < length d → splice (set d at v) (at + 1) vs ≡ splice d at (v ∷ vs)
unfolding splice
splice_cons d at v vs h =
    let e : at + suc (length vs) ≡ suc at + length vs = omega arith in
    rw (add-one at, e, take-suc-set d at v h, drop-set-lt (suc at + length vs) d at v (omega arith)) (ap (λ (l : List ℕ). l ++ drop (suc at + length vs) d) (append_snoc (take at d) v vs))

-- ---- a buffer that is filled by parts: R is all that is stored, from the buffer's first byte on

pub splice_none : (d : List ℕ) → d ≡ splice d 0 []
unfolding splice
splice_none d = refl

-- one part stored, and then the next
pub splice_splice : (d : List ℕ) (at k : ℕ) (xs ys : List ℕ) → k ≡ at + length xs → at + length xs + length ys ≤ length d
    → splice (splice d at xs) k ys ≡ splice d at (xs ++ ys)
unfolding splice
splice_splice d at k xs ys e h =
    let l : length (take at d ++ xs) ≡ k = rw (length-append, length-take-le at d (omega arith)) (sym e) in
    rw (
      take_at (take at d ++ xs) (drop (at + length xs) d) k l,
      ← l,
      drop-append-add (take at d ++ xs) (drop (at + length xs) d) (length ys),
      drop-drop (length ys) (at + length xs) d,
      append_assoc (take at d) xs ys,
      length-append xs ys,
      ← add_assoc at (length xs) (length ys),
    )

module _ (R v r : List ℕ) (m n : ℕ) (e : drop m R ≡ v ++ r) (l : length v ≡ n) where
  pub part_fits : 0 < n → m + n ≤ length R
  part_fits p = omega (arith, simp (length-drop, length-append) at (ap length e))

  pub drop_part : drop (m + n) R ≡ r
  drop_part = rw (← drop-drop n m R, e) (drop_at v r n l)

  pub take_part : take (m + n) R ≡ take m R ++ v
  take_part = rw (take-add m n R, e, take_at v r n l)

  pub splice_part : (d : List ℕ) → 0 < n → length R ≤ length d → splice (splice d 0 (take m R)) m v ≡ splice d 0 (take (m + n) R)
  splice_part d p h =
      let k : m + n ≤ length R = part_fits p in
      let t : length (take m R) ≡ m = length-take-le m R (omega arith) in
      rw take_part (splice_splice d 0 m (take m R) v (omega arith) (omega arith))

pub take_rest : (R : List ℕ) (m : ℕ) → drop m R ≡ [] → take m R ≡ R
take_rest R m e = sym (append-nil (take m R)) ∙ rw (← e) (take-append-drop m R)

-- a loop that fills a buffer by parts: of all that is to be stored, R, the first at bytes stand in d, which was d₀, and rest is left
pub record Filling (R d₀ d : List ℕ) (at : ℕ) (rest : List ℕ) : Type 0 where
  pub same : length d ≡ length d₀
  pub left : drop at R ≡ rest
  pub stores : d ≡ splice d₀ 0 (take at R)

pub filling_none : (R d : List ℕ) → Filling R d d 0 R
filling_none R d = record { same = refl; left = refl; stores = splice_none d }

pub filling_all : (R d₀ d : List ℕ) (at : ℕ) (rest : List ℕ) → Filling R d₀ d at rest → rest ≡ [] → d ≡ splice d₀ 0 R
filling_all R d₀ d at rest f e = f.stores ∙ ap (splice d₀ 0) (take_rest R at (f.left ∙ e))

module _ (R d₀ d : List ℕ) (at : ℕ) (rest v r : List ℕ) (n : ℕ) (f : Filling R d₀ d at rest) (e : rest ≡ v ++ r) (l : length v ≡ n) (p : 0 < n) where
  pub filling_fits : at + n ≤ length R
  filling_fits = part_fits R v r at n (f.left ∙ e) l p

  pub filling_more : (d' : List ℕ) → length R ≤ length d₀ → d' ≡ splice d at v → Filling R d₀ d' (at + n) r
  filling_more d' h g =
      let k : d' ≡ splice d₀ 0 (take (at + n) R) = g ∙ rw f.stores (splice_part R v r at n (f.left ∙ e) l d₀ p h) in
      let m : at + n ≤ length R = filling_fits in
      record {
        same = rw (k, length_splice d₀ 0 (take (at + n) R) (rw (length-take-le (at + n) R m) (omega arith)));
        left = drop_part R v r at n (f.left ∙ e) l;
        stores = k;
      }

-- three and four parts, one after the other
pub splice_three : (d : List ℕ) (at j k : ℕ) (a b c : List ℕ) → j ≡ at + length a → k ≡ j + length b → k + length c ≤ length d
    → splice (splice (splice d at a) j b) k c ≡ splice d at (a ++ b ++ c)
splice_three d at j k a b c e f h =
    rw (splice_splice d at j a b e (omega arith)) (splice_splice d at k (a ++ b) c (rw length-append (omega arith)) (rw length-append (omega arith)))

pub splice_four : (d : List ℕ) (at i j k : ℕ) (a b c e : List ℕ) → i ≡ at + length a → j ≡ i + length b → k ≡ j + length c → k + length e ≤ length d
    → splice (splice (splice (splice d at a) i b) j c) k e ≡ splice d at (a ++ b ++ c ++ e)
splice_four d at i j k a b c e p q r h =
    rw (splice_three d at i j a b c p q (omega arith))
    (splice_splice d at k (a ++ b ++ c) e (rw (length-append, length-append) (omega arith)) (rw (length-append, length-append) (omega arith)))

-- what stands in a list that was stored
get_d_mid : (p vs r : List ℕ) (i k : ℕ) → k ≡ length p + i → i < length vs → get_or (p ++ vs ++ r) k 0 ≡ get_or vs i 0
get_d_mid p vs r i k e h = rw e (get_or-append (p ++ vs) r 0 (length p + i) (rw length-append (omega arith)) ∙ get_or-append-add p vs i 0)

pub get_d_splice : (d : List ℕ) (at : ℕ) (vs : List ℕ) (i k : ℕ) → at ≤ length d → i < length vs → k ≡ at + i → get_or (splice d at vs) k 0 ≡ get_or vs i 0
unfolding splice
get_d_splice d at vs i k h l e = get_d_mid (take at d) vs _ i k (rw (length-take-le at d h) e) l

-- before the place of a store nothing changes
pub get_d_before : (d : List ℕ) (at : ℕ) (vs : List ℕ) (i : ℕ) → at ≤ length d → i < at → get_or (splice d at vs) i 0 ≡ get_or d i 0
unfolding splice
get_d_before d at vs i h l =
    let e : length (take at d) ≡ at = length-take-le at d h in
    rw append_assoc (get_or-append (take at d) (vs ++ drop (at + length vs) d) 0 i (omega arith) ∙ get_or-take at d i 0 l)
