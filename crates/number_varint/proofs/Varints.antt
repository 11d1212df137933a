-- The laws of varints: what is read of one in every case, that what stands is read back in every form, and that no form is shorter than
-- the shortest. Assumes nothing.
use Rattle.std.proofs.Common.{Ok}
use mathlib.Core.Path.{◌≡◌, refl, sym, ap, ◌∙◌}
use mathlib.Core.Bool.{Bool, true}
use mathlib.Core.List.{List}
use Prim.Native.Nat.{ℕ, suc, ◌+◌, ◌-◌, ◌*◌, ◌/◌, ◌%◌, ◌^◌, ◌≤◌, ◌<◌}
use native.Mathlib.Nat.{sub_self, div-one, lt_of_lt_of_le, add-zero, mul-le-mul_right}
use native.Mathlib.Omega.{arith}
use borrow.Author.Tests.{lt-ltb, ltb-false, leb-false}
use lib.Dec.{ltb, leb, eqb, T, eqb→eq}
use lib.ListN.{length, get_or, set, length-set}
use lib.Pow.{pow_mono}
use Rattle.common.specs.Choose.{pick, bind}
use Rattle.common.specs.Got.{got, bad, Took, Reading, said}
use Rattle.number_fixed.specs.BigEndian.{big_endian, bytes_of}
use Rattle.number_varint.specs.Varints.{leading, low, varint_at, form, extra, shortest}
use Rattle.common.specs.Store.{Room, Puts}
use Rattle.common.specs.declared.refusal.Fault.TheVariants.{PastEnd}
use Rattle.common.proofs.Choose.{cases}
use Rattle.common.proofs.Finite.{below_at, all_below, implies}
use Rattle.number_fixed.proofs.BigEndian.{be_lt, be_bytes, get_d_bytes_of, length_bytes_of}
use Rattle.number_varint.proofs.Cuts.{cut_out}
use Rattle.number_varint.proofs.Marker.{leading_small, low_small, leading_le, low_lt, low_fits}
use Rattle.number_varint.proofs.Shortest.{extra_le, extra_fewest, top_lt, length_form, length_shortest}
use Rattle.common.proofs.Gives.{Gives, gives_got, gives_bad, gives_pick, gives_bind, gives_is}
use Rattle.common.proofs.Said.{said_got}
use Rattle.common.proofs.Took.{past, took_past}
use Rattle.common.proofs.RoundTrip.{Reads}
use Rattle.common.proofs.Splices.{splice_cons}
use Rattle.common.proofs.Puts.{puts_same}
use Rattle.common.proofs.Stands.{Stands}

-- ---- reading, as the code reads
pub whole : (s : List ℕ) (at end n w v : ℕ) → end ≤ length s → at < end → n ≡ leading 8 (get_or s at 0) → n < end - at
    → w ≡ low (get_or s at 0) → v ≡ big_endian w s (at + 1) n → got v (at + 1 + n) ≡ varint_at s at end
unfolding varint_at
whole s at end n w v h k e l f g = rw (g, f) (search cases depth 12)

pub one_byte : (s : List ℕ) (at end : ℕ) → end ≤ length s → at < end → get_or s at 0 < 128 → got (get_or s at 0) (at + 1) ≡ varint_at s at end
unfolding big_endian
one_byte s at end h k l =
    rw (add-zero (at + 1)) at (whole s at end 0 _ (get_or s at 0) h k (sym (leading_small _ l)) (omega arith) (sym (low_small _ l)) refl)

-- a varint whose bytes are there is not refused
pub stands_whole : (s : List ℕ) (at end n : ℕ) → end ≤ length s → at < end → n ≡ leading 8 (get_or s at 0) → n < end - at → Took (varint_at s at end)
stands_whole s at end n h k e l = record { value = _; place = _; is = sym (whole s at end n _ _ h k e l refl refl) }

pub cut_off : (s : List ℕ) (at end n : ℕ) → end ≤ length s → at < end → n ≡ leading 8 (get_or s at 0) → end - at ≤ n → bad PastEnd at ≡ varint_at s at end
unfolding varint_at
cut_off s at end n h k e l = search cases depth 12

pub ruleset varint_cases = (one_byte, stands_whole, cut_off)

-- ---- a varint that is known to stand
module _ (s : List ℕ) (at end : ℕ) (t : Took (varint_at s at end)) where
  inside : end ≤ length s
  unfolding varint_at
  inside = ltb-false (length s) end (past _ _ _ _ t)

  begins : at < end
  unfolding varint_at
  begins = leb-false end at (past _ _ _ _ (took_past _ _ _ _ t))

  stands : leading 8 (get_or s at 0) < end - at
  unfolding varint_at bind
  stands = leb-false (end - at) (leading 8 (get_or s at 0)) (past _ _ _ _ (took_past _ _ _ _ (took_past _ _ _ _ t)))

  pub known_index : at < length s
  known_index = omega (arith, inside, begins)

  pub known_more : length s < 2 ^ 64 → at + 1 < 18446744073709551616
  known_more l = omega (arith, inside, begins)

  pub known_one : get_or s at 0 < 128 → got (get_or s at 0) (at + 1) ≡ varint_at s at end
  known_one l = one_byte s at end inside begins l

  module _ (n : ℕ) (e : n ≡ leading 8 (get_or s at 0)) where
    pub known_last : at + n / 8 ≤ length s
    known_last = omega (arith, inside, stands)

    pub known_place : length s < 2 ^ 64 → at + n / 8 < 18446744073709551616
    known_place l = omega (arith, inside, stands)

    pub known_end : length s < 2 ^ 64 → at + 1 + n < 18446744073709551616
    known_end l = omega (arith, inside, stands)

    -- several bytes, cut out of eight
    pub known_several : ((k : ℕ) → get_or s k 0 < 256) → 128 ≤ get_or s at 0 → (w : ℕ) → w ≡ big_endian 0 s (at + n / 8) 8
        → got (w * 2 ^ (n % 8) % 2 ^ 64 / 2 ^ (56 - 7 * n)) (at + 1 + n) ≡ varint_at s at end
    known_several b l w f = whole s at end n (low (get_or s at 0)) _ inside begins e (rw e stands) refl (cut_out s b at n w l e f)

pub ruleset known = (known_index, known_more, known_one, known_last, known_place, known_end)

-- ---- what is read: its number fits 64 bits, it ends past its place and not past the end, and takes no fewer bytes than the shortest
pub record Varint (at end x n : ℕ) : Type 0 where
  pub past : at < n
  pub within : n ≤ end
  pub small : x < 2 ^ 64
  pub fewest : length (shortest x) ≤ n - at

varint_fits : (s : List ℕ) (at end n : ℕ) → ((k : ℕ) → get_or s k 0 < 256) → n ≡ leading 8 (get_or s at 0) → n < end - at
    → Varint at end (big_endian (low (get_or s at 0)) s (at + 1) n) (at + 1 + n)
varint_fits s at end n b e l =
    let x = big_endian (low (get_or s at 0)) s (at + 1) n in
    let m : n ≤ 8 = rw e (leading_le _ (b at)) in
    let top : low (get_or s at 0) + 1 ≤ 2 ^ (7 - n) = rw e (omega (arith, low_lt (get_or s at 0) (b at))) in
    let under : x < 2 ^ (7 - n) * 256 ^ n = lt_of_lt_of_le (be_lt _ s (at + 1) n b) (mul-le-mul_right (256 ^ n) top) in
    record {
      past = omega arith;
      within = omega arith;
      small = lt_of_lt_of_le (be_lt _ s (at + 1) n b) (rw e (low_fits _ (b at)));
      fewest = omega (arith, length_shortest x, extra_fewest x n m under);
    }

pub varint_gives : (s : List ℕ) (at end : ℕ) → ((k : ℕ) → get_or s k 0 < 256) → Gives (varint_at s at end) (Varint at end)
unfolding varint_at
varint_gives s at end b =
    gives_pick (ltb (length s) end) (λ e. gives_bad _ _) (λ e.
    gives_pick (leb end at) (λ f. gives_bad _ _) (λ f.
    gives_bind _ _
    (gives_pick (leb (end - at) (leading 8 (get_or s at 0))) (λ g. gives_bad _ _) (λ g.
    gives_got _ _ (varint_fits s at end _ b refl (leb-false _ _ g))))))

-- a varint ends before the end, which is not past the slice, whatever its bytes are
pub record Ends (s : List ℕ) (at end n : ℕ) : Type 0 where
  pub past : at < n
  pub within : n ≤ end
  pub inside : end ≤ length s

pub varint_ends : (s : List ℕ) (at end : ℕ) → Gives (varint_at s at end) (λ v n. Ends s at end n)
unfolding varint_at
varint_ends s at end =
    gives_pick (ltb (length s) end) (λ d. gives_bad _ _) (λ d.
    gives_pick (leb end at) (λ g. gives_bad _ _) (λ g.
    gives_bind _ _
    (gives_pick (leb (end - at) (leading 8 (get_or s at 0))) (λ h. gives_bad _ _) (λ h.
    gives_got _ _ (record {
      past = omega arith;
      within = omega (arith, leb-false end at g, leb-false (end - at) (leading 8 (get_or s at 0)) h);
      inside = ltb-false (length s) end d;
    })))))

-- the same of a varint that the code has read
module _ (r : Reading ℕ) (s : List ℕ) (at end v n : ℕ) (e : said r ≡ varint_at s at end) (f : r ≡ Ok (v, n)) where
  ends : Ends s at end n
  ends = gives_is (varint_ends s at end) (said_got r _ v n e f)

  pub varint_within : n ≤ end
  varint_within = ends.within

  pub varint_inside : end ≤ length s
  varint_inside = ends.inside

-- ---- round trip: the number x in the form of which n bytes follow the first, at least as many as it needs, is read
implied : (a b : Bool) → a ≡ true → T (implies a b) → T b
implied a b e t = rw e at t

first : ℕ → ℕ → ℕ
first n t = 256 - 2 ^ (8 - n) + t

-- a test at each count of bytes and each number that has room beside the marker
abbrev first_test : (ℕ → ℕ → Bool) → ℕ → ℕ → Bool
first_test f n t = implies (ltb t (2 ^ (7 - n))) (f n t)

first_at_lem : (f : ℕ → ℕ → Bool) → T (all_below 9 (λ n. all_below 128 (first_test f n))) → (n t : ℕ) → n ≤ 8 → t < 2 ^ (7 - n) → T (f n t)
first_at_lem f k n t h m =
    implied (ltb t (2 ^ (7 - n))) (f n t) (lt-ltb t (2 ^ (7 - n)) m)
    (below_at 128 (first_test f n) (below_at 9 (λ n. all_below 128 (first_test f n)) k n (omega arith)) t
    (lt_of_lt_of_le m (pow_mono {i = 7 - n} {j = 7} (omega arith))))

leading_first : (n t : ℕ) → n ≤ 8 → t < 2 ^ (7 - n) → leading 8 (first n t) ≡ n
unfolding leading first pick
leading_first n t h m = eqb→eq _ _ (first_at_lem (λ n t. eqb (leading 8 (first n t)) n) tt n t h m)

low_first : (n t : ℕ) → n ≤ 8 → t < 2 ^ (7 - n) → low (first n t) ≡ t
unfolding leading low first pick
low_first n t h m = eqb→eq _ _ (first_at_lem (λ n t. eqb (low (first n t)) t) tt n t h m)

module _ (s : List ℕ) (end at stop x n : ℕ) (small : x < 2 ^ 64) (least : extra 8 x ≤ n) (most : n ≤ 8) (h : Stands s end at stop (form n x)) where
  top : x / 256 ^ n < 2 ^ (7 - n)
  top = top_lt x n small least most

  first_back : get_or s at 0 ≡ first n (x / 256 ^ n)
  unfolding form first
  first_back = rw (add-zero at) at (h.bytes 0 (omega (arith, length_form n x)))

  marker_back : leading 8 (get_or s at 0) ≡ n
  marker_back = rw first_back (leading_first _ _ most top)

  byte_back : (i : ℕ) → i < n → get_or s (at + 1 + i) 0 ≡ x / 256 ^ (n - suc i) % 256
  unfolding form
  byte_back i p =
      let e : at + 1 + i ≡ at + suc i = omega arith in
      rw e (h.bytes (suc i) (omega (arith, length_form n x)) ∙ get_d_bytes_of x n i p)

  value_back : big_endian (low (get_or s at 0)) s (at + 1) n ≡ x
  value_back = rw (first_back, low_first _ _ most top, be_bytes s (at + 1) n x n (omega arith) byte_back, sub_self) (div-one x)

  pub form_back : varint_at s at end ≡ got x stop
  form_back =
      let e = length_form n x in
      sym (whole s at end n _ x h.inside (omega (arith, h.stop, h.within)) (sym marker_back) (omega (arith, h.stop, h.within)) refl (sym value_back))
      ∙ ap (got x) (omega (arith, h.stop))

-- what the writer puts is read back
pub varint_back : (s : List ℕ) (end at n x : ℕ) → x < 2 ^ 64 → Stands s end at n (shortest x) → Reads (varint_at s at end) n (λ y. y ≡ x)
unfolding shortest
varint_back s end at n x small h = record { value = x; is = form_back s end at n x (extra 8 x) small (omega arith) (extra_le 8 x) h; holds = refl }

-- ---- storing a varint: its first byte, and then the others
module _ (d : List ℕ) (at x n : ℕ) (r : Room d at (shortest x)) (e : n ≡ extra 8 x) where
  pub first_fits : at < length d
  first_fits = omega (arith, r.fits, length_shortest x)

  pub rest_room : (b : ℕ) → Room (set d at b) (at + 1) (bytes_of x n)
  rest_room b = record { fits = simp (length-set, length_bytes_of) (omega (arith, r.fits, length_shortest x)) }

  pub put_all : (d' : List ℕ) (b m : ℕ) → b ≡ 256 - 2 ^ (8 - n) + x / 256 ^ n → Puts (set d at b) d' (at + 1) (bytes_of x n) m → Puts d d' at (shortest x) m
  unfolding shortest form
  put_all d' b m f p = record {
    next = omega (arith, length_shortest x, length_bytes_of x n, p.next);
    stores = p.stores ∙ rw (f, e) (splice_cons d at _ _ first_fits);
  }

  pub put_same : (d' : List ℕ) (b m : ℕ) → Puts (set d at b) d' (at + 1) (bytes_of x n) m → length d' ≡ length d
  put_same d' b m p = puts_same (set d at b) d' (at + 1) (bytes_of x n) m (rest_room b) p ∙ simp length-set

pub ruleset put_varint = (first_fits, rest_room, put_all, put_same)
