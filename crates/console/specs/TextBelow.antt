-- A text for each number below n.
use Rattle.std.specs.Prelude.{ℕ, zero, suc, List, [], ◌++◌}

-- the texts of 0, .., n - 1
unfoldable pub text_below : (ℕ → List ℕ) → ℕ → List ℕ
text_below text zero = []
text_below text (suc p) = text_below text p ++ text p
