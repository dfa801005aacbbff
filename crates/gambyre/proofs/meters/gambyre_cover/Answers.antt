use Rattle.std.proofs.Common.{ap, ◌∙◌}
use Rattle.records.specs.Records.{cover_record}
use Rattle.meter.proofs.AnswerLaws.{cover_only}
use Rattle.gambyre.proofs.meters.gambyre_cover.Goals as goal

pub returns : goal.returns
returns c = c.from.ensures ∙ ap cover_record (cover_only _ _ _ _ c.cover.ensures)
