-- The bytes of a plan's text, in ASCII: decimal digits, and the marks beside them.
use Rattle.std.specs.Prelude.{ℕ, ◌+◌, ◌-◌, Bool, ◌&&◌, List, [], ◌∷◌, leb}

-- the byte of a digit below 10
abbrev pub digit : ℕ → ℕ
digit d = 48 + d

-- whether a byte is that of a digit, and of which one
unfoldable pub is_digit : ℕ → Bool
is_digit byte = leb 48 byte && leb byte 57

abbrev pub digit_of : ℕ → ℕ
digit_of byte = byte - 48

-- a comma
abbrev pub comma : List ℕ
comma = 44 ∷ []

-- a double quote
abbrev pub quote : List ℕ
quote = 34 ∷ []

-- CR LF
abbrev pub line_end : List ℕ
line_end = 13 ∷ 10 ∷ []
