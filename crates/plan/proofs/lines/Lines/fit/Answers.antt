use Rattle.std.proofs.Common.{◌≡◌, ℕ, true, false, leb, refl, rules, tests, arith}
use Rattle.std.proofs.lemmas.Iterator.{cases_from_all, YieldsList-from_range}
use Rattle.plan.specs.Lines.{line_sum}
use Rattle.plan.proofs.BelowLaws.{all_by_range}
use Rattle.plan.proofs.lines.Lines.fit.Goals as goal

pub returns : goal.returns
returns c =
    let a = c.args.self.now in
    let fits = λ (k : ℕ). leb (line_sum a.list.now a.n a.across a.along k) c.args.t in
    all_by_range fits a.n _ (cases_from_all _ _ _ (λ k. fits k ≡ true) (λ k. fits k ≡ false) c.all.ensures.ran (YieldsList-from_range 0 a.n a.n refl (omega arith))
    (λ k q r. search (rules, tests)) (λ k q r. search (rules, tests)))
