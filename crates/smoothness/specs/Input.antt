-- What is read of a plan file.
use Rattle.std.specs.Prelude.{ℕ, ◌+◌}
use Rattle.planfile.specs.Layout.{longest_file}

-- The bytes of a file past these don't change its printout (proofs/PrintoutLaws.antt).
abbrev pub most_input : ℕ
most_input = longest_file + 1
