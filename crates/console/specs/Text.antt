-- Numbers as text, and text that is written into a lent buffer.
use Rattle.std.specs.Prelude.{ℕ, zero, suc, ◌+◌, ◌/◌, ◌%◌, ◌≤◌, cond, List, [], ◌∷◌, ◌++◌, ◌≡◌, ltb, length, take, drop}

-- the ASCII code of a digit
abbrev digit : ℕ → ℕ
digit d = 48 + d

-- the decimal digits of a number that has at most `most` of them
unfoldable pub digits_of : ℕ → ℕ → List ℕ
digits_of zero n = []
digits_of (suc most) n = cond (ltb n 10) (digit n ∷ []) (digits_of most (n / 10) ++ (digit (n % 10) ∷ []))

-- the decimal digits of a number of 64 bits
abbrev pub decimal_of : ℕ → List ℕ
decimal_of n = digits_of 20 n

-- a number with the space that parts it from the field before
abbrev pub field_of : ℕ → List ℕ
field_of value = 32 ∷ decimal_of value

-- For the code: a buffer has room for a text behind its first `at` bytes.
pub record HasRoom (buffer : List ℕ) (at : ℕ) (text : List ℕ) : Type 0 where
  pub enough : at + length text ≤ length buffer

-- For the code: `text` was written into a buffer behind its first `at` bytes, r is the place behind it, and from there on
-- the buffer is as it was.
pub record Written (before : List ℕ) (at : ℕ) (text after : List ℕ) (r : ℕ) : Type 0 where
  pub place : r ≡ at + length text
  pub bytes : take r after ≡ take at before ++ text
  pub kept : drop r after ≡ drop r before
