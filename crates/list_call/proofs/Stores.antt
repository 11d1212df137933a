-- A signed number stored as its bits. Assumes nothing.
use mathlib.Core.Path.{◌≡◌}
use mathlib.Core.List.{List}
use Prim.Native.Nat.{ℕ}
use Rattle.number_fixed.specs.BigEndian.{bytes_of}
use Rattle.common.specs.Times.{biased}
use Rattle.common.specs.Store.{Room, Puts}
use Rattle.list_call.specs.Records.{signed_bytes}

-- the bits of a signed number, given as the code's value
module _ (x y : ℕ) (e : y ≡ biased x) where
  pub signed_room : (d : List ℕ) (at : ℕ) → Room d at (signed_bytes x) → Room d at (bytes_of y 8)
  unfolding signed_bytes
  signed_room d at r = rw e r

  pub signed_puts : (d d' : List ℕ) (at n : ℕ) → Puts d d' at (bytes_of y 8) n → Puts d d' at (signed_bytes x) n
  unfolding signed_bytes
  signed_puts d d' at n p = rw e at p
