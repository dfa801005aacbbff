-- "A program prints 2,080 numbers: for a = 1 to 64 and s = 1 to a, in that order, s × 64 / a rounded up, one a line."
use Rattle.std.specs.Prelude.{ℕ, ◌+◌, ◌*◌, ◌≡◌, List, [], ◌∷◌, ◌++◌}
use Rattle.multiplexer.specs.Choose.{rounded_up}
use Rattle.multiplexer.specs.Deadlines.{table_frame, TableRule}
use Rattle.console.specs.Text.{decimal_of}
use Rattle.console.specs.TextBelow.{text_below}
use Rattle.console.specs.Refused.{line_end}

-- "one a line"
abbrev pub line_of : ℕ → List ℕ
line_of value = decimal_of value ++ line_end

-- "s = 1 to a"
unfoldable pub rate_lines_of : ℕ → List ℕ
rate_lines_of a = text_below (λ k. line_of (rounded_up ((k + 1) * table_frame) a)) a

-- "a = 1 to 64"
unfoldable pub printout_of : List ℕ
printout_of = text_below (λ b. rate_lines_of (b + 1)) table_frame

-- "That output is the constant table in the code": the numbers of a table, one a line
unfoldable pub lines_of : List ℕ → List ℕ
lines_of [] = []
lines_of (x ∷ xs) = line_of x ++ lines_of xs

-- What is printed are the numbers of the table, in its order. The constant in the code is such a table: the function that hands
-- it out ensures so.
abbrev pub PrintsTable : Type 0
PrintsTable = (table : List ℕ) → TableRule table → printout_of ≡ lines_of table

-- Room for the printout: a number has 20 digits at most, and LF stands behind it; no rate has more lines than the highest one.
abbrev pub line_room : ℕ
line_room = 20 + 1

abbrev pub printout_room : ℕ
printout_room = table_frame * (table_frame * line_room)
