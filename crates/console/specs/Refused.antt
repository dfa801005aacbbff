-- The line of a refusal: "prints "refused", a space and its number", and "each line ends in LF".
use Rattle.std.specs.Prelude.{ℕ, ◌+◌, List, ◌++◌, codes}
use Rattle.refusal.specs.Number.{verdict_number_of}
use Rattle.refusal.specs.Verdict.{Verdict}
use Rattle.console.specs.Text.{decimal_of}

-- LF
abbrev pub line_end : List ℕ
line_end = codes "\n"

unfoldable pub refusal_line_of : Verdict → List ℕ
refusal_line_of v = codes "refused " ++ decimal_of (verdict_number_of v) ++ line_end

-- room for every such line: the word and a space, a number of 64 bits, LF
abbrev pub refusal_room : ℕ
refusal_room = 8 + 20 + 1
