-- What the range tests of N and T say.
use Prim.Native.Nat.{ℕ, ◌≤◌}
use mathlib.Core.Path.{◌≡◌, refl}
use mathlib.Core.Bool.{Bool, true, false, not}
use lib.Dec.{leb}
use borrow.Author.Tests.{leb-true, le-leb, not-false}
use Rattle.std.specs.Prelude.{Ok}
use Rattle.refusal.specs.Chain.{refuse_if, and_then}
use Rattle.refusal.specs.declared.Refusal.TheVariants.{PortsOutOfRange, FrameOutOfRange}
use Rattle.refusal.specs.Verdict.{Verdict}
use Rattle.refusal.proofs.ChainLaws.{refuse_passed}
use Rattle.plan.specs.Range.{most_ports, most_slots, ports_in_range, frame_in_range, range_of}
use Rattle.plan.proofs.BelowLaws.{and_true}

pub ports_range : (n : ℕ) → ports_in_range n ≡ true → (1 ≤ n) × (n ≤ most_ports)
unfolding ports_in_range
ports_range n e = let both = and_true (leb 1 n) (leb n most_ports) e in (leb-true 1 n both.0, leb-true n most_ports both.1)

pub frame_range : (t : ℕ) → frame_in_range t ≡ true → (1 ≤ t) × (t ≤ most_slots)
unfolding frame_in_range
frame_range t e = let both = and_true (leb 1 t) (leb t most_slots) e in (leb-true 1 t both.0, leb-true t most_slots both.1)

pub ports_in_lem : (n : ℕ) → 1 ≤ n → n ≤ most_ports → ports_in_range n ≡ true
unfolding ports_in_range
ports_in_lem n lo hi = simp (le-leb 1 n lo, le-leb n most_ports hi)

pub frame_in_lem : (t : ℕ) → 1 ≤ t → t ≤ most_slots → frame_in_range t ≡ true
unfolding frame_in_range
frame_in_lem t lo hi = simp (le-leb 1 t lo, le-leb t most_slots hi)

-- what is looked at behind the two
pub range_first : (n t : ℕ) (rest : Verdict)
    → refuse_if (not (ports_in_range n)) PortsOutOfRange (refuse_if (not (frame_in_range t)) FrameOutOfRange rest) ≡ and_then (range_of n t) rest
unfolding range_of
range_first n t rest = go (ports_in_range n) (frame_in_range t)
  where
    go : (ports frame : Bool)
        → refuse_if (not ports) PortsOutOfRange (refuse_if (not frame) FrameOutOfRange rest)
        ≡ and_then (refuse_if (not ports) PortsOutOfRange (refuse_if (not frame) FrameOutOfRange (Ok tt))) rest
    go false frame = refl
    go true false = refl
    go true true = refl

pub range_ports : (n t : ℕ) → range_of n t ≡ Ok tt → (1 ≤ n) × (n ≤ most_ports)
unfolding range_of
range_ports n t e = ports_range n (not-false _ (refuse_passed (not (ports_in_range n)) _ _ e).0)
