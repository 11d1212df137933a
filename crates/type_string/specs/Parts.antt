-- What the answer of the code that reads a string says. Assumes nothing.
use Rattle.std.specs.Prelude.{Result, Ok, Err}
use Rattle.common.specs.Got.{Got, got, bad}
use Rattle.common.specs.declared.refusal.Fault.{Fault}
use Rattle.type_string.specs.declared.Kind.{Kind}

unfoldable pub said_parsed : Result Kind Fault → Got Kind
said_parsed (Ok k) = got k 0
said_parsed (Err f) = bad f 0
