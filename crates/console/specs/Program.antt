-- What a program prints of its input.
use Rattle.std.specs.Prelude.{ℕ, List, take, ⊤, Option, None, Some}
use Rattle.std.specs.Io.KnownBytes.{Appends}

module _ {T : Type 0} (IsTextOf : List ℕ → T → Type 0) where
  -- a text of a file's first bytes, `most` of them, is a text of the file
  abbrev pub IsEnough : ℕ → Type 0
  IsEnough most = (file : List ℕ) (text : T) → IsTextOf (take most file) text → IsTextOf file text

  -- what an output has grown by is a text of all that the input had, where that is known
  abbrev pub PrintsOf : (T → List ℕ) → Option (List ℕ) → Option (List ℕ) → Option (List ℕ) → Type 0
  PrintsOf bytes_of None old new = ⊤
  PrintsOf bytes_of (Some file) old new = (text : T) × IsTextOf file text × Appends old new (bytes_of text)
