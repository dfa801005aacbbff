use Rattle.std.proofs.Common.{◌≡◌, refl, ap, arith, length, replicate}
use Rattle.plan.specs.Range.{most_flows}
use Rattle.planpair.specs.Rates.{plan_rates}
use Rattle.multiplexer.specs.Window.{column_of}
use Rattle.multiplexer.proofs.PortLaws.{column_length}
use Rattle.console.proofs.TextBelowLaws.{below_room, below_step}
use Rattle.smoothness.specs.Printout.{head_lines_of}
use Rattle.smoothness.proofs.PrintoutLaws.{head_by_rates, head_column}
use Rattle.smoothness.proofs.printout.heads_lines.Goals as goal
use Rattle.smoothness.proofs.printout.heads_lines.Goals.{After-desk_view-column}

-- what the desk view shows is the head's column
column : (c : After-desk_view-column) →
    let plan = c.args.plan in
    c.desk_view-column.result.now ≡ column_of (plan_rates plan) plan.ports c.loop-j.j
column c =
    head_column c.args.plan c.loop-j.j (replicate most_flows 0) _ _ c.requires.0 c.loop-j-test.true refl c.transpose.ensures c.desk_view-column.ensures

pub head_lines-requires : goal.head_lines-requires
head_lines-requires c =
    let plan = c.args.plan in
    let l = c.loop-j in
    let is = column (goal.at.head_lines-requires c).After-desk_view-column in
    let room = below_room (head_lines_of plan) _ l.invariant c.loop-j-test.true in (
      c.requires.2,
      omega (arith, ap length is, column_length (plan_rates plan) plan.ports l.j),
      omega (arith, ap length (head_by_rates plan l.j _ is), room, c.requires.3),
    )

pub loop-j-preserved : goal.loop-j-preserved
loop-j-preserved c =
    let is = column (goal.at.loop-j-preserved c).After-desk_view-column in
    below_step _ _ c.loop-j.invariant (head_by_rates _ _ _ is) c.head_lines.ensures
