use Rattle.std.proofs.Common.{◌≡◌, ◌∙◌, length, ap, sym, arith, length-append, rules, Err}
use lib.Seq.{take_at}
use Rattle.sheet.proofs.SheetLaws.{lent_within, lent_length, sheet_written, sheet_refused}
use Rattle.sheet.proofs.plan_file.plan_file.Goals as goal
use Rattle.sheet.proofs.plan_file.plan_file.Goals.{In_ok-read_text}

-- the part of the array that was lent to the reader, as it came back
rates_size : (c : In_ok-read_text) → length c.read_text.new.rates ≡ c.flows-count.result
rates_size c = c.read_text.auto.rates ∙ lent_length c.args.n c.flows-count.ensures

pub slice_bounds-rates-end : goal.slice_bounds-rates-end
slice_bounds-rates-end c = rw c.flows-count.ensures (lent_within c.args.n)

pub slice_bounds-read_text-end : goal.slice_bounds-read_text-end
slice_bounds-read_text-end c = sym (lent_length c.args.n c.flows-count.ensures)

pub slice_bounds-rates-end-2 : goal.slice_bounds-rates-end-2
slice_bounds-rates-end-2 c = simp length-append (omega (arith, rates_size c))

pub slice_bounds-write-end : goal.slice_bounds-write-end
slice_bounds-write-end c =
    let size = rates_size (goal.at.slice_bounds-write-end c).In_ok-read_text in
    sym (ap length (take_at c.read_text.new.rates _ _ size) ∙ size)

pub returns : goal.returns
returns c =
    let size = rates_size (goal.at.returns c).In_ok-read_text in
    rw (take_at c.read_text.new.rates _ _ size) at c.write.ensures
    ∙ sheet_written _ _ _ _ _ (rw c.flows-count.ensures at c.read_text.ensures) c.in_ok-read_text.was

pub returns-in_err-read_text : goal.returns-in_err-read_text
returns-in_err-read_text c =
    let refused : c.from_residual.result ≡ Err c.in_err-read_text.field-0.0 = search rules in
    refused ∙ sheet_refused _ _ _ _ _ (rw c.flows-count.ensures at c.read_text.ensures) _ c.in_err-read_text.was
