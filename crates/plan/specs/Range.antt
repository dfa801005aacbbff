-- The limits of N and T. Only this file and src/range.rt have their numbers; all others use the names.
use Rattle.std.specs.Prelude.{ℕ, ◌*◌, Bool, ◌&&◌, not, leb, Ok}
use Rattle.refusal.specs.Chain.{refuse_if}
use Rattle.refusal.specs.declared.Refusal.TheVariants.{PortsOutOfRange, FrameOutOfRange}
use Rattle.refusal.specs.Verdict.{Verdict}

-- "N is 1 to" this
abbrev pub most_ports : ℕ
most_ports = 16

-- the flows between that many inputs and outputs
abbrev pub most_flows : ℕ
most_flows = most_ports * most_ports

-- "The frame length T is 1 to" so many "slots"; request L8 says how many
abbrev pub most_slots : ℕ
most_slots = 1024

unfoldable pub ports_in_range : ℕ → Bool
ports_in_range n = leb 1 n && leb n most_ports

unfoldable pub frame_in_range : ℕ → Bool
frame_in_range t = leb 1 t && leb t most_slots

-- N first, then T: so they stand in the order of each call that has both
unfoldable pub range_of : ℕ → ℕ → Verdict
range_of n t = refuse_if (not (ports_in_range n)) PortsOutOfRange (refuse_if (not (frame_in_range t)) FrameOutOfRange (Ok tt))
