use Rattle.std.proofs.Common.{◌∙◌, rules, arith}
use Rattle.plan.proofs.LineLaws.{row_line, column_line}
use Rattle.regulator.proofs.sums.Sums.of.Goals as goal

pub returns : goal.returns
returns c =
    let n = c.args.n in
    let list = c.args.list.now in
    let rows = c.rows.ensures in
    let columns = c.columns.ensures in
    record {
      room_for_rows = search (rules, arith);
      room_for_columns = search (rules, arith);
      row = λ k h. rw (rows.0, rows.1, rows.2, rows.3) at (c.sums_of.ensures k (omega (arith, rows.1))) ∙ row_line list n k;
      column = λ k h. rw (columns.0, columns.1, columns.2, columns.3) at (c.sums_of-2.ensures k (omega (arith, columns.1))) ∙ column_line list n k;
    }
