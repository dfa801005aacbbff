use Rattle.std.proofs.Common.{List, arith, length, length-append, ℕ, ◌++◌, ◌+◌, ◌<◌, ◌≡◌, ◌≤◌, refl}
use Rattle.console.specs.Text.{decimal_of}
use Rattle.frame.specs.Printout.{names_of}
use Rattle.console.proofs.TextLaws.{put_on}
use Rattle.console.proofs.TextBelowLaws.{below_step, below_room}
use Rattle.frame.proofs.line.names.Goals as goal

-- the name of one port
abbrev name : List ℕ → ℕ → List ℕ
name side p = side ++ decimal_of p

-- room for the name of the next port
room : (side before : List ℕ) {now : List ℕ} {p n : ℕ} → now ≡ before ++ names_of side p → p < n
    → length now + (length side + length (decimal_of p)) ≤ length before + length (names_of side n)
room side before {p = p} so_far l = omega (arith, length-append side (decimal_of p), below_room (name side) before so_far l)

pub push_str-requires : goal.push_str-requires
push_str-requires c = omega (arith, room _ _ c.loop-port.invariant c.loop-port-test.true, c.requires)

pub number-requires : goal.number-requires
number-requires c = omega (arith, c.push_str.ensures.len, room _ _ c.loop-port.invariant c.loop-port-test.true, c.requires)

pub loop-port-preserved : goal.loop-port-preserved
loop-port-preserved c = below_step (name c.args.side.now) _ c.loop-port.invariant refl (put_on _ _ _ c.push_str.ensures.bytes c.number.ensures)
