-- What scale and boost answer and write: "Both read one lent list and write another, each N × N numbers long." The record of the
-- verdict and the written list is that of every call that writes one.
use Rattle.std.specs.Prelude.{ℕ, ◌*◌, ◌≤◌, not, ◌&&◌, ◌≡◌, eqb, Ok}
use Rattle.refusal.specs.Chain.{refuse_if}
pub use Rattle.refusal.specs.Outcome.{Outcome, outcome, written}
use Rattle.refusal.specs.declared.Refusal.TheVariants.{PortsOutOfRange, FrameOutOfRange, ListLength}
use Rattle.refusal.specs.Verdict.{Verdict}
use Rattle.plan.specs.Range.{most_ports, most_slots, ports_in_range, frame_in_range}

-- The order of both begins with N, T and the lengths of the two lists: `from` of the one that is read, and
-- `to` of the one that is written. ListLength stands for "a rate, demand or output list isn't N × N long".
unfoldable pub lists_of : ℕ → ℕ → ℕ → ℕ → Verdict
lists_of n t from to =
    refuse_if (not (ports_in_range n)) PortsOutOfRange
    (refuse_if (not (frame_in_range t)) FrameOutOfRange
    (refuse_if (not (eqb from (n * n) && eqb to (n * n))) ListLength
    (Ok tt)))

-- What is known where these checks pass. proofs/OutcomeLaws.antt has that they pass then, and only then.
pub record Checked (n t from to : ℕ) : Type 0 where
  pub some_port : 1 ≤ n
  pub few_ports : n ≤ most_ports
  pub some_slot : 1 ≤ t
  pub few_slots : t ≤ most_slots
  pub from_square : from ≡ n * n
  pub to_square : to ≡ n * n
