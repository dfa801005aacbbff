-- The program's arguments: a number is one or more decimal digits and nothing else.
use Rattle.std.specs.Prelude.{ℕ, ◌+◌, ◌*◌, min, cond, List, [], ◌∷◌, Option, None, Some}
use Rattle.plantext.specs.Bytes.{is_digit, digit_of}

-- the largest number of 32 bits: a larger one counts as this one, which is outside every range, too
abbrev pub largest_number : ℕ
largest_number = 4294967295

-- the number that digits write behind those that make up the value
unfoldable pub number_from : ℕ → List ℕ → Option ℕ
number_from value [] = Some value
number_from value (b ∷ text) = cond (is_digit b) (number_from (min (value * 10 + digit_of b) largest_number) text) None

unfoldable pub argument_of : List ℕ → Option ℕ
argument_of [] = None
argument_of (b ∷ text) = number_from 0 (b ∷ text)
