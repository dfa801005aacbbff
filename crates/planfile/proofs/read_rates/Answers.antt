use Rattle.std.proofs.Common.{rules, Err}
use mathlib.Core.Path.{◌≡◌, sym, ap, ◌∙◌}
use Rattle.plan.specs.Accept.{accept_of}
use Rattle.planfile.specs.Layout.{rates_of}
use Rattle.planfile.proofs.LayoutLaws.{rates_length, padded_take}
use Rattle.planfile.proofs.read_rates.Goals as goal
use Rattle.planfile.proofs.read_rates.Goals.{After-accept}

-- the rates that are judged are the file's
verdict : (c : After-accept) → let a = c.args in c.accept.result ≡ accept_of a.n a.t (rates_of a.bytes.now a.count)
verdict c =
    let a = c.args in
    let rates = rates_of a.bytes.now a.count in
    c.accept.ensures ∙ ap (accept_of a.n a.t) (rw c.rates_of-rates.ensures (padded_take rates a.count (rates_length a.bytes.now a.count)))

pub returns-in_err-accept : goal.returns-in_err-accept
returns-in_err-accept c =
    let refused : c.from_residual.result ≡ Err c.in_err-accept.field-0.0 = search rules in
    simp (sym (verdict (goal.at.returns-in_err-accept c).After-accept) ∙ c.in_err-accept.was) refused

pub returns : goal.returns
returns c = simp (sym (verdict (goal.at.returns c).After-accept) ∙ c.in_ok-accept.was, sym c.rates_of-rates.ensures)
