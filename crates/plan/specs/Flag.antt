-- A yes or no as a number, which a caller in C can hand over with any value: 0 is no, every other number yes.
use Rattle.std.specs.Prelude.{ℕ, Bool, not, eqb}

abbrev pub is_set : ℕ → Bool
is_set number = not (eqb number 0)
