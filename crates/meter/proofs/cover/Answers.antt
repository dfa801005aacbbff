use Rattle.std.proofs.Common.{Ok, Err}
use mathlib.Core.Path.{refl, sym}
use Rattle.refusal.specs.declared.Refusal.TheVariants.{RecordLength}
use Rattle.meter.proofs.AnswerLaws.{record_accepted, record_refused, covers_as}
use Rattle.meter.proofs.cover.Goals as goal

pub returns-then-recorded-l : goal.returns-then-recorded-l
returns-then-recorded-l c = covers_as _ _ _ (Err RecordLength) _ (sym (record_refused _ _ c.then-recorded-l.either)) refl

pub returns : goal.returns
returns c = covers_as _ _ _ (Ok tt) _ (sym (record_accepted _ _ c.if-recorded-l.false c.if-recorded-gt-MOST_RECORD.false)) c.measure.ensures
