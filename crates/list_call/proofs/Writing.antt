-- Parts that are stored one after the other, in a loop. Assumes nothing.
use mathlib.Core.Path.{◌≡◌, refl, sym, ap, ◌∙◌}
use mathlib.Core.List.{List, [], ◌++◌, append_assoc, append-nil}
use Prim.Native.Nat.{ℕ}
use lib.ListN.{length}
use Rattle.common.specs.Store.{Room, Puts}
use Rattle.common.proofs.Puts.{room_left, room_right, puts_same, puts_none, puts_then}

-- of all that is to be stored from place to on, R, the parts before place out stand in d, which was d₀, and rest is left
pub record Writing (R d₀ d : List ℕ) (to out : ℕ) (rest : List ℕ) : Type 0 where
  pub room : Room d₀ to R
  pub done : List ℕ
  pub parts : R ≡ done ++ rest
  pub puts : Puts d₀ d to done out

pub writing_none : (R d : List ℕ) (to : ℕ) → Room d to R → Writing R d d to to R
writing_none R d to r = record { room = r; done = []; parts = refl; puts = puts_none d to }

module _ (R d₀ d : List ℕ) (to out : ℕ) (rest : List ℕ) (w : Writing R d₀ d to out rest) where
  whole : Room d₀ to (w.done ++ rest)
  whole = rw (← w.parts) w.room

  pub writing_same : length d ≡ length d₀
  writing_same = puts_same d₀ d to w.done out (room_left d₀ to w.done rest whole) w.puts

  pub writing_end : rest ≡ [] → Puts d₀ d to R out
  writing_end e = rw (w.parts, e, append-nil w.done) w.puts

  module _ (v r : List ℕ) (e : rest ≡ v ++ r) where
    pub writing_room : Room d out v
    writing_room = room_left d out v r (room_right d₀ d to out w.done (v ++ r) (rw (← e) whole) w.puts)

    pub writing_more : (d' : List ℕ) (n : ℕ) → Puts d d' out v n → Writing R d₀ d' to n r
    writing_more d' n p =
        let s : R ≡ w.done ++ v ++ r = w.parts ∙ ap (λ (x : List ℕ). w.done ++ x) e ∙ sym (append_assoc w.done v r) in
        record {
          room = w.room;
          done = w.done ++ v;
          parts = s;
          puts = puts_then d₀ d d' to out n w.done v (room_left d₀ to (w.done ++ v) r (rw (← s) w.room)) w.puts p;
        }
