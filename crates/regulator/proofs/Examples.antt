-- Demands of 0, computed.
use mathlib.Core.Path.{◌≡◌, refl}
use lib.ListN.{replicate}
use Rattle.std.specs.Prelude.{Ok}
use Rattle.plan.specs.Below.{list_below}
use Rattle.plan.specs.Range.{ports_in_range, frame_in_range}
use Rattle.plan.specs.Lines.{row_sum, column_sum}
use Rattle.regulator.specs.Outcome.{outcome, lists_of}
use Rattle.regulator.specs.Scale.{scaled_of, scale_of}

-- demands of 0, whose sums are 0 too
idle : scale_of 2 4 (replicate 4 0) (replicate 4 9) ≡ outcome (Ok tt) (replicate 4 0)
unfolding scale_of lists_of ports_in_range frame_in_range scaled_of list_below row_sum column_sum
idle = refl
