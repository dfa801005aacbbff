-- What came of reading an input into a buffer.
use Rattle.std.specs.Prelude.{◌<◌, ℕ, List, length, take}
use Rattle.std.specs.Io.KnownBytes.{Consumes, IsAtEnd}
use Rattle.std.specs.declared.option.Option.{Option}

-- For the code: of an input whose bytes are known, those before and those after are told apart by the n bytes that were read, and
-- none are left where the buffer has room for more.
abbrev pub ReadsOn : Option (List ℕ) → Option (List ℕ) → List ℕ → ℕ → Type 0
ReadsOn before after buffer n = Consumes before after (take n buffer) × (n < length buffer → IsAtEnd after)
