use Rattle.fabric.proofs.FlowLaws.{cell_below, oldest_cell}
use Rattle.fabric.proofs.flow.Queue.oldest_place.Goals as goal

pub returns : goal.returns
returns c =
    let r = c.requires in
    rw c.from.ensures (record { is = oldest_cell _ _ c.args.self r.3; below = cell_below c.args.k _ _ _ r.2 r.3 })
