-- The rules of a plan's text as a grammar: "Each record is one input; each field is one to five decimal digits, plain or in
-- double quotes; lines end in CR LF, the last one with or without. A value above 65,535, any other byte, or a record count or
-- field count other than N is refused". RFC 4180, but for its header line, has the same three levels:
--     file = record *(CRLF record) [CRLF]
--     record = field *(COMMA field)
--     field = escaped / non-escaped
-- Each rule relates a piece of text to the values that stand in it, in order. That specs/Values.antt has the same texts with
-- the same values is the theorem `SameRules` there.
use Rattle.std.specs.Prelude.{ℕ, suc, ◌+◌, ◌*◌, ◌<◌, ◌≤◌, List, [], ◌∷◌, ◌++◌, length}
use Rattle.plantext.specs.Bytes.{digit, comma, quote, line_end}

-- decimal digits, and the number that they write; none write 0
pub data Digits : List ℕ → ℕ → Type 0 where
  none : Digits [] 0
  next : {text : List ℕ} {value d : ℕ} → Digits text value → d < 10 → Digits (text ++ (digit d ∷ [])) (value * 10 + d)

-- "one to five decimal digits", and no "value above 65,535"
pub data Number : List ℕ → List ℕ → Type 0 where
  number : {text : List ℕ} {value : ℕ} → Digits text value → 1 ≤ length text → length text ≤ 5 → value ≤ 65535 → Number text (value ∷ [])

-- "plain or in double quotes"
pub data Field : List ℕ → List ℕ → Type 0 where
  plain : {text values : List ℕ} → Number text values → Field text values
  quoted : {text values : List ℕ} → Number text values → Field (quote ++ text ++ quote) values

-- so many items with a mark between each two: item *(mark item)
pub data Series (Item : List ℕ → List ℕ → Type 0) (mark : List ℕ) : ℕ → List ℕ → List ℕ → Type 0 where
  one : {text values : List ℕ} → Item text values → Series Item mark 1 text values
  more : {k : ℕ} {text values last new : List ℕ} → Series Item mark k text values → Item last new
      → Series Item mark (suc k) (text ++ mark ++ last) (values ++ new)

-- one input's rates, "field count .. N"
abbrev pub Record : ℕ → List ℕ → List ℕ → Type 0
Record n = Series Field comma n

-- "record count .. N"
abbrev pub Records : ℕ → List ℕ → List ℕ → Type 0
Records n = Series (Record n) line_end n

-- "lines end in CR LF, the last one with or without"
pub data Text (n : ℕ) : List ℕ → List ℕ → Type 0 where
  unended : {text values : List ℕ} → Records n text values → Text n text values
  ended : {text values : List ℕ} → Records n text values → Text n (text ++ line_end) values
