use Rattle.std.proofs.Common.{◌≡◌, ◌<◌, ◌≤◌}
use Rattle.smoothness.specs.Printout.{three_frames_of}
use Rattle.smoothness.proofs.RecordLaws.{recorded_by}
use Rattle.smoothness.proofs.record.record_frames.Given as goal

abbrev pub invariant-loop-place : goal.invariant-loop-place
invariant-loop-place l =
    (1 ≤ l.frame → l.slot < l.frame) × (recorded_by l.place-items l.place-index l.port l.rates l.frame l.slot ≡ three_frames_of l.rates l.frame)
