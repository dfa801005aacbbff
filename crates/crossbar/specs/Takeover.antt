-- "In slot 0, a waiting plan becomes the running plan; then none waits, and the waiting plan's N, T and its rates for
-- ports below N in the state are 0."
use Rattle.std.specs.Prelude.{Bool, cond, ◌&&◌, eqb}
use Rattle.planpair.specs.Takeover.{replaced, cleared}
use Rattle.crossbar.specs.State.{has_waiting}
use Rattle.crossbar.specs.Load.{with_plans}
use Rattle.crossbar.specs.declared.state.Switch.{Switch}

abbrev pub takes_over : Switch → Bool
takes_over s = eqb s.slot 0 && has_waiting s

unfoldable pub takeover_of : Switch → Switch
takeover_of s = cond (takes_over s) (with_plans s (replaced s.running s.waiting) (cleared s.waiting) 0) s
