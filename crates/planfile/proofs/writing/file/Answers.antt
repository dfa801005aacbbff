use Rattle.std.proofs.Common.{rules}
use mathlib.Core.List.{◌++◌, append-nil}
use mathlib.Core.Path.{◌≡◌, sym, ◌∙◌}
use native.Mathlib.Numerals.{add-one}
use native.Mathlib.Omega.{arith}
use lib.ListN.{length}
use Rattle.planfile.specs.Write.{head_of, rate_bytes, file_of}
use Rattle.planfile.proofs.WriteLaws.{file_next, file_room}
use Rattle.planfile.proofs.writing.file.Goals as goal

pub loop-rate-init : goal.loop-rate-init
unfolding rate_bytes
loop-rate-init c =
    let written : c.try_extend_from_slice.new.self.items ≡ head_of c.args.n c.args.t = search rules in
    written ∙ sym (append-nil _)

pub unwrap-requires-in-loop-rate : goal.unwrap-requires-in-loop-rate
unwrap-requires-in-loop-rate c =
    let a = c.args in
    let room = file_room a.n a.t a.rates.now c.loop-rate.rate-index (omega arith) in
    c.try_extend_from_slice-in-loop-rate.ensures.variant.1 (rw (c.loop-rate.invariant, c.to_le_bytes.ensures) (omega (arith, room)))

pub loop-rate-preserved : goal.loop-rate-preserved
loop-rate-preserved c =
    let a = c.args in
    let written : c.try_extend_from_slice-in-loop-rate.new.self.items ≡ c.loop-rate.file.items ++ c.to_le_bytes.result = search rules in
    rw (written, c.loop-rate.invariant, c.to_le_bytes.ensures, add-one) (file_next a.n a.t a.rates.now c.loop-rate.rate-index (search rules))

pub returns : goal.returns
unfolding file_of
returns c = let all : c.loop-rate.rate-index ≡ length c.args.rates.now = omega arith in rw (sym all) c.loop-rate.invariant
