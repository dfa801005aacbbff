use Rattle.std.proofs.Common.{◌∙◌, ◌*◌, arith, rules, tests}
use Rattle.std.proofs.lemmas.Iterator.{YieldsList-from_slice, YieldsList-from_zip, YieldsList-from_take}
use Rattle.std.proofs.lemmas.Iterator.Search.{all_from_yields_List}
use Rattle.plan.proofs.LineLaws.{square_small}
use Rattle.fabric.specs.Valid.{flow_valid}
use Rattle.fabric.proofs.ValidLaws.{pairs_valid}
use Rattle.fabric.proofs.valid.flows_valid.Goals as goal

pub returns : goal.returns
returns c =
    let a = c.args in
    all_from_yields_List (λ x. flow_valid a.depth x.0 x.1) c.all.new.self _ _ c.all.ensures.ran
    (YieldsList-from_take {s = c.take.result} (a.n * a.n) (YieldsList-from_zip (YieldsList-from_slice a.queues cc) (YieldsList-from_slice a.points cc)) cc)
    (λ x b q k. search (rules, tests))
    ∙ pairs_valid a.queues a.points a.n a.depth (omega (arith, square_small a.n c.requires, c.well_formed)) (omega (arith, square_small a.n c.requires, c.well_formed))
