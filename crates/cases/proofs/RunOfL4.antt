-- The run of L4 is one in the sense of the promise. So the promise speaks of runs that there are, and its bound of two cells
-- is reached: by the table, the crossing of flow (0, 0) holds two after slot 6.
use mathlib.Core.Path.{◌≡◌, refl}
use Rattle.std.specs.Prelude.{Ok}
use Rattle.plan.specs.Lines.{row_sum, column_sum}
use Rattle.plan.specs.Range.{ports_in_range, frame_in_range}
use Rattle.plan.specs.Accept.{accept_of}
use Rattle.crossbar.specs.State.{depth_in_range, store_fits}
use Rattle.crossbar.specs.Start.{start_verdict, start_of}
use Rattle.runs.specs.Run.{Run}
use Rattle.cases.specs.Look.{started}
use Rattle.cases.specs.Table.{fed_frame, l4_rates}
use Rattle.cases.proofs.OwnRuns.{own_run}

start_accepted : (started 2 9 l4_rates).verdict ≡ Ok tt
unfolding start_of start_verdict accept_of ports_in_range frame_in_range row_sum column_sum depth_in_range store_fits
start_accepted = refl

pub run_of_l4 : Run
run_of_l4 = own_run 2 9 l4_rates (fed_frame 0 0 9) start_accepted refl
