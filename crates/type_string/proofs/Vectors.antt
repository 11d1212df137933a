-- Type strings of the decisions, as one statement. Assumes nothing.
use mathlib.Core.Path.{◌≡◌, refl}
use mathlib.Core.Bool.{true, false}
use Prim.Native.Nat.{ℕ}
use Prim.Native.String.{String}
use Rattle.common.specs.Choose.{pick, bind}
use Rattle.common.specs.Got.{got, bad}
use Rattle.common.specs.declared.refusal.Fault.TheVariants.{NotCarried, TooMany}
use Rattle.text.specs.Text.{text, same, among}
use Rattle.type_table.specs.Table.{table, line_in, nth, line_of}
use Rattle.type_name.specs.Names.{blank, alphanumeric, of_name, of_parameters, past, up_to, named, counted, inside}
use Rattle.type_string.specs.Strings.{opened, tail, typed, behind, plain, line_with, string_with, held, type_of}

-- the string is taken as a key's or clustering column's type: its line, and whether it is reversed
abbrev Is : String → ℕ → ℕ → Type 0
Is t l r = type_of false (text t) ≡ got (record { line = l; reversed = r }) 0

abbrev IsNot : String → Type 0
IsNot t = type_of false (text t) ≡ bad NotCarried 0

abbrev TooDeep : String → Type 0
TooDeep t = type_of false (text t) ≡ bad TooMany 0

-- as a static or regular column's
abbrev NoColumn : String → Type 0
NoColumn t = type_of true (text t) ≡ bad NotCarried 0

names : Is "Int32Type" 17 0
    × Is "org.apache.cassandra.db.marshal.Int32Type" 17 0
    × Is "" 3 0
    × Is " \t\n" 3 0
    × IsNot "marshal.Int32Type"
    × IsNot "("
    × IsNot "Int32Type\r"
unfolding table line_in nth line_of same among blank alphanumeric of_name of_parameters past up_to named counted inside opened tail typed behind plain line_with string_with held type_of pick bind
names = (refl, refl, refl, refl, refl, refl, refl)

reversed : Is "ReversedType( Int32Type )" 17 1
    × IsNot "ListType(a) "
    × IsNot "ReversedType(FrozenType(a) )"
    × Is "ReversedType()" 3 1
    × IsNot "ReversedType(Int32Type,)"
    × IsNot "ReversedType(ReversedType(a))"
    × Is "ReversedType(FrozenType(ReversedType(a)))" 15 1
unfolding table line_in nth line_of same among blank alphanumeric of_name of_parameters past up_to named counted inside opened tail typed behind plain line_with string_with held type_of pick bind
reversed = (refl, refl, refl, refl, refl, refl, refl)

parameters : Is "TupleType()" 31 0
    × IsNot "TupleType"
    × IsNot "PartitionerDefinedOrder"
    × IsNot "ReversedType"
    × IsNot "Int32Type()"
    × IsNot "TupleType(\t)"
unfolding table line_in nth line_of same among blank alphanumeric of_name of_parameters past up_to named counted inside opened tail typed behind plain line_with string_with held type_of pick bind
parameters = (refl, refl, refl, refl, refl, refl)

depth : Is "TupleType((((((((((((((((a))))))))))))))))" 31 0
    × TooDeep "TupleType(((((((((((((((((a)))))))))))))))))"
    × TooDeep "ReversedType(FrozenType(((((((((((((((("
    × TooDeep "FrozenType(((((((((((((((((!"
unfolding table line_in nth line_of same among blank alphanumeric of_name of_parameters past up_to named counted inside opened tail typed behind plain line_with string_with held type_of pick bind
depth = (refl, refl, refl, refl)

leftmost : IsNot "ListType(!((((((((((((((((("
    × IsNot "FrozenType(((((((((((((((("
    × NoColumn "ListType((((((((((((((((("
    × NoColumn "ReversedType(MapType(a,b))"
unfolding table line_in nth line_of same among blank alphanumeric of_name of_parameters past up_to named counted inside opened tail typed behind plain line_with string_with held type_of pick bind
leftmost = (refl, refl, refl, refl)

-- all of them
pub vectors : (Is "Int32Type" 17 0 × Is "org.apache.cassandra.db.marshal.Int32Type" 17 0 × Is "" 3 0 × Is " \t\n" 3 0 × IsNot "marshal.Int32Type" × IsNot "(" × IsNot "Int32Type\r")
    × (Is "ReversedType( Int32Type )" 17 1 × IsNot "ListType(a) " × IsNot "ReversedType(FrozenType(a) )" × Is "ReversedType()" 3 1 × IsNot "ReversedType(Int32Type,)" × IsNot "ReversedType(ReversedType(a))" × Is "ReversedType(FrozenType(ReversedType(a)))" 15 1)
    × (Is "TupleType()" 31 0 × IsNot "TupleType" × IsNot "PartitionerDefinedOrder" × IsNot "ReversedType" × IsNot "Int32Type()" × IsNot "TupleType(\t)")
    × (Is "TupleType((((((((((((((((a))))))))))))))))" 31 0 × TooDeep "TupleType(((((((((((((((((a)))))))))))))))))" × TooDeep "ReversedType(FrozenType((((((((((((((((" × TooDeep "FrozenType(((((((((((((((((!")
    × (IsNot "ListType(!(((((((((((((((((" × IsNot "FrozenType((((((((((((((((" × NoColumn "ListType(((((((((((((((((" × NoColumn "ReversedType(MapType(a,b))")
vectors = (names, reversed, parameters, depth, leftmost)
