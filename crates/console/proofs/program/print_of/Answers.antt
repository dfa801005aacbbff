use Rattle.std.proofs.Common.{◌≡◌, length, rules, refl}
use Rattle.console.proofs.ProgramLaws.{printed}
use Rattle.console.proofs.program.print_of.Goals as goal

pub returns : goal.returns
returns g c =
    let same : length c.read_input.new.buffer ≡ length c.args.room.now = c.read_input.auto.buffer in
    printed _ c.read_input.new.buffer c.in_ok-len.len c.text_of-text.result (search rules) (rw same c.requires.enough)
    (_, c.text_of-text.ensures, refl)
    g.T.AsStr.text (g.R.Read.remaining c.args.input.now) (g.R.Read.remaining c.read_input.new.input) _ _ (search rules) (search rules)
