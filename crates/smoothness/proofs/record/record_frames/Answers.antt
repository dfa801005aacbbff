use Rattle.std.proofs.Common.{◌≡◌, ◌∙◌, ◌*◌, arith, length, length-take, sym}
use Rattle.std.proofs.lemmas.List.{take-append-le}
use Rattle.side.proofs.NameLaws.{choose_names}
use Rattle.smoothness.proofs.RecordLaws.{record_start, record_step, record_end}
use Rattle.smoothness.proofs.record.record_frames.Goals as goal

pub loop-place-init : goal.loop-place-init
loop-place-init c = ((λ some. some), record_start _ _)

pub entry-requires : goal.entry-requires
entry-requires c = rw c.serve-served.ensures (choose_names _ _ _ _)

pub loop-place-preserved : goal.loop-place-preserved
loop-place-preserved c =
    let l = c.loop-place in
    let a = c.args in
    let next = c.next_slot-slot.ensures in
    let all = length-take (3 * a.frame) a.recorded.now in
    let step = record_step l.place-items l.place-index l.port a.rates.now a.frame l.slot _ _ _ (omega arith) (omega (arith, all)) c.serve-served.ensures c.entry.ensures next.0 in
    ((λ _. next.1), step ∙ l.invariant.1)

pub returns : goal.returns
returns c =
    let l = c.loop-place in
    let T = c.args.frame in
    let all : length l.place-items ≡ 3 * T = omega (arith, l.auto.place-items, length-take (3 * T) c.args.recorded.now, c.requires) in
    take-append-le (3 * T) l.place-items _ (omega arith)
    ∙ sym (record_end l.place-items l.place-index l.port _ _ l.slot (omega (arith, l.auto.place-items, l.auto.place-index-end)))
    ∙ l.invariant.1
