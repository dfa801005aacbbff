-- The rules of a plan's text as a function: the text is read from its beginning, rule by rule, and each rule takes what it can
-- from what is left. specs/Grammar.antt says what the rules are; `SameRules`, below, that the two agree.
use Rattle.std.specs.Prelude.{ℕ, zero, suc, ◌+◌, ◌*◌, ◌≤◌, Bool, true, false, cond, ◌&&◌, ◌||◌, List, [], ◌∷◌, ◌++◌, ◌↔◌, ◌≡◌, leb, eqb, Option, None, Some}
use Rattle.plantext.specs.Bytes.{is_digit, digit_of, comma, quote, line_end}
use Rattle.plantext.specs.Grammar.{Text}

-- what a rule makes of a text: the values that it took from its beginning and what is left behind them, or nothing
abbrev pub Parsed : Type 0
Parsed = Option (List ℕ × List ℕ)

abbrev pub parsed : (values rest : List ℕ) → Parsed
parsed values rest = Some (values, rest)

-- the values before those of a rule that goes on
abbrev pub prefixed : List ℕ → Parsed → Parsed
prefixed values None = None
prefixed values (Some (more, rest)) = parsed (values ++ more) rest

-- one rule, and then another on what is left
abbrev pub followed_by : Parsed → (List ℕ → Parsed) → Parsed
followed_by None rule = None
followed_by (Some (values, rest)) rule = prefixed values (rule rest)

-- a mark, which stands for no value
unfoldable pub skip : List ℕ → List ℕ → Parsed
skip [] text = parsed [] text
skip (m ∷ mark) [] = None
skip (m ∷ mark) (b ∷ text) = cond (eqb b m) (skip mark text) None

-- the digits at the beginning of a text, up to a limit: how many there are, the number that they write, and what is left
pub record Run : Type 0 where
  pub count : ℕ
  pub value : ℕ
  pub rest : List ℕ

-- `room` more digits, behind those that were counted and make up the value
unfoldable pub digits_from : ℕ → ℕ → ℕ → List ℕ → Run
digits_from zero count value text = record { count = count; value = value; rest = text }
digits_from (suc room) count value [] = record { count = count; value = value; rest = [] }
digits_from (suc room) count value (b ∷ text) =
    cond (is_digit b) (digits_from room (suc count) (value * 10 + digit_of b) text) (record { count = count; value = value; rest = b ∷ text })

-- for the code: the number and what is left, where there is a digit
abbrev pub some_digit : Run → Option (ℕ × List ℕ)
some_digit run = cond (leb 1 run.count) (Some (run.value, run.rest)) None

-- "one to five decimal digits", and no "value above 65,535"
abbrev pub checked_run : Run → Parsed
checked_run run = cond (leb 1 run.count && leb run.value 65535) (parsed (run.value ∷ []) run.rest) None

unfoldable pub number : List ℕ → Parsed
number text = checked_run (digits_from 5 0 0 text)

-- "plain or in double quotes"
abbrev pub field_behind : Parsed → List ℕ → Parsed
field_behind None text = number text
field_behind (Some (values, inside)) text = followed_by (number inside) (skip quote)

unfoldable pub field : List ℕ → Parsed
field text = field_behind (skip quote text) text

-- what stands before item number k, counted from 0: a mark, but for the first item
abbrev pub before : List ℕ → ℕ → List ℕ
before mark zero = []
before mark (suc k) = mark

-- so many items with a mark between each two
unfoldable pub series : (List ℕ → Parsed) → List ℕ → ℕ → List ℕ → Parsed
series item mark zero text = parsed [] text
series item mark (suc k) text = followed_by (followed_by (series item mark k text) (skip (before mark k))) item

-- "Each record is one input", with n fields
abbrev pub record_of : ℕ → List ℕ → Parsed
record_of n = series field comma n

abbrev pub records_of : ℕ → List ℕ → Parsed
records_of n = series (record_of n) line_end n

-- whether nothing is left
abbrev pub at_end : Parsed → Bool
at_end None = false
at_end (Some (values, [])) = true
at_end (Some (values, b ∷ rest)) = false

-- "lines end in CR LF, the last one with or without": nothing is left, or one CR LF
unfoldable pub ends : List ℕ → Bool
ends rest = at_end (parsed [] rest) || at_end (skip line_end rest)

abbrev pub whole : Parsed → Option (List ℕ)
whole None = None
whole (Some (values, rest)) = cond (ends rest) (Some values) None

-- the values of a text for N ports, row by row, if it keeps to the rules
unfoldable pub values_of : ℕ → List ℕ → Option (List ℕ)
values_of n text = whole (records_of n text)

-- The function yields these values exactly if the text is in the grammar with these values (proofs/TextLaws.antt,
-- same_rules). A plan has at least one port.
abbrev pub SameRules : Type 0
SameRules = (n : ℕ) (text values : List ℕ) → 1 ≤ n → (values_of n text ≡ Some values) ↔ Text n text values

-- so a text has one reading (one_reading)
abbrev pub OneReading : Type 0
OneReading = (n : ℕ) (text values other : List ℕ) → Text n text values → Text n text other → values ≡ other
