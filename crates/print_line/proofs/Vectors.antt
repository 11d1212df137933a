-- Document 01's output, byte for byte; numbers at their ends; refusals. Assumes nothing.
use mathlib.Core.Path.{◌≡◌, refl}
use mathlib.Core.List.{List, [], ◌∷◌, ◌++◌}
use Prim.Native.Nat.{ℕ, ◌-◌, ◌^◌}
use Rattle.text.specs.Text.{text}
use Rattle.common.specs.Choose.{pick}
use Rattle.common.specs.declared.refusal.Fault.TheVariants.{PastEnd, LeftOver, NoRoom}
use Rattle.common.specs.declared.refusal.Slice.TheVariants.{Statistics, Data, Output}
use Rattle.data_items.specs.Items.{item, zeroed}
use Rattle.print_line.specs.Numbers.{digits, decimal, signed}
use Rattle.print_line.specs.Lines.{spaced, ended, line_of, lines_of, refusal_line}

-- a text and the line's end
abbrev line : List ℕ → List ℕ
line w = w ++ (10 ∷ [])

pub five_lines : lines_of (
    item 1 0 0 0 zeroed zeroed 0 0 zeroed 0 2 1
    ∷ item 3 1 0 0 9224814916854775813 zeroed 0 0 zeroed 0 15 14
    ∷ item 5 0 0 0 zeroed zeroed 0 0 zeroed 0 17 4
    ∷ item 6 1 0 0 9224814916854775813 zeroed 0 0 zeroed 0 25 4
    ∷ item 7 0 0 0 zeroed zeroed 0 0 zeroed 0 29 1
    ∷ []
    )
    ≡ line (text "1 0 0 0 0 0 0 0 0 0 2 1")
    ++ line (text "3 1 0 0 1442880000000005 0 0 0 0 0 15 14")
    ++ line (text "5 0 0 0 0 0 0 0 0 0 17 4")
    ++ line (text "6 1 0 0 1442880000000005 0 0 0 0 0 25 4")
    ++ line (text "7 0 0 0 0 0 0 0 0 0 29 1")
unfolding pick digits decimal signed spaced ended line_of lines_of
five_lines = refl

pub vectors : (decimal 0 ≡ text "0")
    × (decimal 10 ≡ text "10")
    × (decimal (2 ^ 64 - 1) ≡ text "18446744073709551615")
    × (signed zeroed ≡ text "0")
    × (signed (zeroed - 5) ≡ text "-5")
    × (signed 0 ≡ text "-9223372036854775808")
    × (signed (2 ^ 64 - 1) ≡ text "9223372036854775807")
    × (refusal_line LeftOver Data 29 ≡ line (text "refused 3 data 29"))
    × (refusal_line PastEnd Statistics 0 ≡ line (text "refused 2 statistics 0"))
    × (refusal_line NoRoom Output 320 ≡ line (text "refused 13 output 320"))
unfolding pick digits decimal signed spaced ended refusal_line
vectors = (refl, refl, refl, refl, refl, refl, refl, refl, refl, refl)
