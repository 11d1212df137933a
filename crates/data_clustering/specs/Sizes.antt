-- "Body size counts the bytes after its own varint, the previous-size varint included. Previous size is read and not checked": 2 at the
-- body size where the body passes the end. The body's end, from the place behind the previous size. Assumes nothing.
use Rattle.std.specs.Prelude.{ℕ, ◌+◌, ◌-◌, ltb}
use Rattle.common.specs.Choose.{pick}
use Rattle.common.specs.Got.{got, bad, on, Reader}
use Rattle.number_varint.specs.Varints.{varint_at}
use Rattle.common.specs.declared.refusal.Fault.TheVariants.{PastEnd}

unfoldable pub sizes_at : Reader ℕ
sizes_at s at end =
    on (varint_at s at end) (λ size n.
    pick (ltb (end - n) size) (bad PastEnd at)
    (on (varint_at s n (n + size)) (λ previous m.
    got (n + size) m)))
