-- What owning a state tells of its arrays: they have their lengths.
use mathlib.Core.List.{List}
use mathlib.Core.Path.{◌≡◌}
use lib.ListN.{length}
use mir.Val.{Val}
use denote.Laws.{Is}
use denote.Struct.Declared.{row}
use Rattle.plan.specs.Range.{most_flows}
use Rattle.planpair.proofs.OwnedLaws.{rates_full}
use Rattle.crossbar.specs.declared.state.Switch.{Switch}
use Rattle.crossbar.specs.contracts.state.Switch as switch

-- the arrays of a state have their lengths
pub record Sized (s : Switch) : Type 0 where
  pub running : length s.running.rates ≡ most_flows
  pub waiting : length s.waiting.rates ≡ most_flows
  pub queues : length s.fabric.queues ≡ most_flows
  pub points : length s.fabric.crosspoints ≡ most_flows

-- those of every state in the code do; `owned` has the fields in the order of the struct
pub owned_sized : (s : Switch) (vs : List Val) → Is (row switch.the_type) s vs → Sized s
owned_sized s vs owned =
    record {
      running = rates_full s.running _ owned.1.1.0;
      waiting = rates_full s.waiting _ owned.1.1.1.0;
      queues = owned.1.1.1.1.1.1.1.0.1.1.0.1.0.1;
      points = owned.1.1.1.1.1.1.1.0.1.1.1.0.1.0.1;
    }
