use Rattle.std.proofs.Common.{◌≡◌, ℕ, true, false, leb, take, get_or, rules, tests}
use lib.Seq.{get_or-take}
use Rattle.std.proofs.lemmas.Iterator.{cases_from_all, YieldsList-from_slice}
use Rattle.plan.proofs.BelowLaws.{all_by_list}
use Rattle.regulator.proofs.boost.sums_fit.Goals as goal

pub returns : goal.returns
returns c =
    let sums = c.args.sums.now in
    let n = c.args.n in
    let fits = λ (x : ℕ). leb x c.args.t in
    all_by_list fits (λ k. get_or sums k 0) (take n sums) n _ (search rules) (λ k l. get_or-take n sums k 0 l)
    (cases_from_all _ _ _ (λ x. fits x ≡ true) (λ x. fits x ≡ false) c.all.ensures.ran (YieldsList-from_slice (take n sums) cc)
    (λ k q r. search (rules, tests)) (λ k q r. search (rules, tests)))
