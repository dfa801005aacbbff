use Rattle.std.proofs.Common.{◌≡◌, ◌∙◌, ℕ, Bool, true, List, not, get_or, sym}
use Rattle.refusal.specs.Chain.{refuse_if}
use Rattle.refusal.specs.Verdict.{Verdict}
use Rattle.refusal.specs.declared.Refusal.TheVariants.{RowAboveFrame, ColumnAboveFrame}
use Rattle.std.specs.Prelude.{Ok}
use Rattle.plan.specs.Accept.{within_frame}
use Rattle.plan.proofs.TestLaws.{failed, passed}
use Rattle.plan.proofs.AcceptLaws.{accepted}
use Rattle.regulator.specs.Boost.{boost_verdict, boost_of}
use Rattle.regulator.proofs.OutcomeLaws.{refused_outcome, done_outcome}
use Rattle.regulator.proofs.VerdictLaws.{sums_verdict, boost_taken}
use Rattle.regulator.proofs.boost.boost.Goals.{After-of-sums}
use Rattle.regulator.proofs.boost.boost.Goals as goal

-- the verdict, by the kept sums
by_sums : (c : After-of-sums) → let a = c.args in let fit = λ (sums : List ℕ). within_frame (λ k. get_or sums k 0) a.n a.t in
    boost_verdict a.n a.t a.given.now a.rates.now
    ≡ refuse_if (not (fit c.of-sums.result.rows)) RowAboveFrame (refuse_if (not (fit c.of-sums.result.columns)) ColumnAboveFrame (Ok tt))
by_sums c = sums_verdict _ _ _ c.args.rates.now _ _ (sym c.check_lists.ensures ∙ c.in_ok-check_lists.was) c.of-sums.ensures

both_fit : {v : Verdict} {rows columns : Bool} → v ≡ refuse_if (not rows) RowAboveFrame (refuse_if (not columns) ColumnAboveFrame (Ok tt)) → rows ≡ true → columns ≡ true
    → v ≡ Ok tt
both_fit e r c = e ∙ simp (r, c)

pub returns-then-not-sums_fit : goal.returns-then-not-sums_fit
unfolding boost_of
returns-then-not-sums_fit c =
    refused_outcome _ RowAboveFrame _ _ (by_sums (goal.at.returns-then-not-sums_fit c).After-of-sums ∙ simp (failed c.sums_fit.ensures c.if-not-sums_fit.true))

pub returns-then-not-sums_fit-2 : goal.returns-then-not-sums_fit-2
unfolding boost_of
returns-then-not-sums_fit-2 c =
    refused_outcome _ ColumnAboveFrame _ _
    (by_sums (goal.at.returns-then-not-sums_fit-2 c).After-of-sums ∙ simp (passed c.sums_fit.ensures c.if-not-sums_fit.false, failed c.sums_fit-2.ensures c.if-not-sums_fit-2.true))

pub boost_diagonals-requires : goal.boost_diagonals-requires
boost_diagonals-requires c =
    let pass = both_fit (by_sums (goal.at.boost_diagonals-requires c).After-of-sums) (passed c.sums_fit.ensures c.if-not-sums_fit.false) (passed c.sums_fit-2.ensures c.if-not-sums_fit-2.false) in
    rw c.copy.ensures (accepted _ _ _ (boost_taken _ _ _ _ pass).0, c.of-sums.ensures)

pub returns : goal.returns
unfolding boost_of
returns c =
    let pass = both_fit (by_sums (goal.at.returns c).After-of-sums) (passed c.sums_fit.ensures c.if-not-sums_fit.false) (passed c.sums_fit-2.ensures c.if-not-sums_fit-2.false) in
    rw (c.boost_diagonals.ensures, c.copy.ensures) (done_outcome _ _ _ pass)
