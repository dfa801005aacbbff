-- The version of the interface, 0.15.0. The header has the same number, so that a host can compare the two.
use Rattle.std.specs.Prelude.{ℕ, ◌+◌, ◌*◌}

-- a version's parts as one number, of which the larger is the later
abbrev pub version_of : ℕ → ℕ → ℕ → ℕ
version_of major minor patch = major * 10000 + minor * 100 + patch

abbrev pub version_number : ℕ
version_number = version_of 0 15 0
