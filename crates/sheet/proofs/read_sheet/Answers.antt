use Rattle.std.proofs.Common.{◌≡◌, ◌∙◌, length, rules}
use Rattle.arrayvec.specs.ArrayVec.{ArrayVec}
use Rattle.refusal.specs.declared.Refusal.{Refusal}
use Rattle.std.specs.Prelude.{Result, ℕ}
use Rattle.console.proofs.ProgramLaws.{read_whole}
use Rattle.sheet.specs.Sheet.{sheet_of, most_input}
use Rattle.sheet.proofs.SheetLaws.{sheet_cut}
use Rattle.sheet.proofs.read_sheet.Goals as goal

pub returns : goal.returns
returns g c =
    let n = c.args.n in
    let t = c.args.t in
    let read = c.in_ok-len.ensures in
    let room : length c.read_input.new.buffer ≡ most_input = search rules in
    read_whole (λ text (w : Result (ArrayVec ℕ) Refusal). w ≡ sheet_of n t text) c.read_input.new.buffer c.in_ok-len.len c.plan_file.result read.within
    (λ text w front. front ∙ rw room (sheet_cut n t text))
    c.plan_file.ensures (g.R.Read.remaining c.args.input.now) (g.R.Read.remaining c.read_input.new.input) read.bytes
