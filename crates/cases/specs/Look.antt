-- What a case looks at: one port's choices, or a run of the switch, slot by slot.
use Rattle.std.specs.Prelude.{ℕ, suc, ◌*◌, Bool, cond, List, [], ◌∷◌, map, eqb, get_or, replicate, Option, Some, None}
use Rattle.refusal.specs.Chain.{if_accepted}
use Rattle.refusal.specs.Verdict.{Verdict}
use Rattle.plan.specs.Range.{most_ports}
use Rattle.plan.specs.Lines.{flow_of}
use Rattle.planpair.specs.Rates.{rate_at}
use Rattle.multiplexer.specs.Count.{services_of}
use Rattle.multiplexer.specs.Frame.{frame_of}
use Rattle.fabric.specs.Answer.{answer_of, empty_with}
use Rattle.fabric.specs.declared.flow.Answer.{Answer}
use Rattle.fabric.specs.declared.flow.Answer.TheVariants as answer
use Rattle.crossbar.specs.State.{queue_at, point_at}
use Rattle.crossbar.specs.Start.{start_of}
use Rattle.crossbar.specs.declared.state.Reply.{Reply}
use Rattle.crossbar.specs.declared.state.SlotReply.{SlotReply}
use Rattle.runs.specs.Event.{Call, Event}
use Rattle.runs.specs.Event.Event.{stepped, arrived, loaded}
use Rattle.runs.specs.Run.{defined_run}

-- the choices of one port with these rates, slot by slot, in a frame of t slots that begins with counts 0
abbrev pub flows_by_slot : ℕ → List ℕ → List (Option ℕ)
flows_by_slot t rates = frame_of rates (replicate most_ports 0) t

-- The cases leave Q and the store free: queues of 4 cells, and a store of 0.
abbrev pub depth : ℕ
depth = 4

abbrev pub store_of : ℕ → List ℕ
store_of n = replicate (n * n * depth) 0

abbrev pub started : ℕ → ℕ → List ℕ → Reply
started n t rates = start_of n t rates depth (store_of n)

-- what the definitions make of these calls after a start with this plan
unfoldable pub run_of : ℕ → ℕ → List ℕ → List Call → List Event
run_of n t rates calls = defined_run (started n t rates).state (store_of n) calls

-- the answers of the slots: "its slots are the steps that weren't refused"
unfoldable pub slots_of : List Event → List SlotReply
slots_of [] = []
slots_of (stepped lent r ∷ es) = if_accepted r.verdict (r ∷ slots_of es) (slots_of es)
slots_of (arrived lent i j cell r left ∷ es) = slots_of es
slots_of (loaded n t rates r ∷ es) = slots_of es

-- the verdicts of the loads
unfoldable pub load_verdicts : List Event → List Verdict
load_verdicts [] = []
load_verdicts (stepped lent r ∷ es) = load_verdicts es
load_verdicts (arrived lent i j cell r left ∷ es) = load_verdicts es
load_verdicts (loaded n t rates r ∷ es) = r.verdict ∷ load_verdicts es

-- the rate of flow (i, j) in the plan that runs, slot by slot
abbrev pub rate_by_slot : ℕ → ℕ → List Event → List ℕ
rate_by_slot i j es = map (λ (r : SlotReply). rate_at r.state.running i j) (slots_of es)

-- whom a port served, as a choice
abbrev pub served_by : Answer → Option ℕ
served_by answer.Idle = None
served_by (answer.Empty other) = Some other
served_by (answer.Moved other cell) = Some other

abbrev pub input_answer : ℕ → SlotReply → Answer
input_answer i r = answer_of r.moves i

abbrev pub output_answer : ℕ → SlotReply → Answer
output_answer j r = answer_of r.sends j

-- whom input i served, and whom output j, slot by slot
abbrev pub input_by_slot : ℕ → List Event → List (Option ℕ)
input_by_slot i es = map (λ r. served_by (input_answer i r)) (slots_of es)

abbrev pub output_by_slot : ℕ → List Event → List (Option ℕ)
output_by_slot j es = map (λ r. served_by (output_answer j r)) (slots_of es)

-- the slots in which a test comes out true, the first one being t
unfoldable pub slots_from : ℕ → (SlotReply → Bool) → List SlotReply → List ℕ
slots_from t test [] = []
slots_from t test (r ∷ rs) = cond (test r) (t ∷ slots_from (suc t) test rs) (slots_from (suc t) test rs)

abbrev pub slots_where : (SlotReply → Bool) → List Event → List ℕ
slots_where test es = slots_from 0 test (slots_of es)

-- the slots in which input i serves flow (i, j), and output j
abbrev pub input_serves : ℕ → ℕ → List Event → List ℕ
input_serves i j es = slots_where (λ r. eqb (services_of (served_by (input_answer i r)) j) 1) es

abbrev pub output_serves : ℕ → ℕ → List Event → List ℕ
output_serves i j es = slots_where (λ r. eqb (services_of (served_by (output_answer j r)) i) 1) es

-- those of output j in which the crosspoint has no cell
abbrev pub output_empty : ℕ → ℕ → List Event → List ℕ
output_empty i j es = slots_where (λ r. empty_with i (output_answer j r)) es

-- the slots after which no cell waits in the queue of flow (i, j)
abbrev pub none_waits : ℕ → ℕ → List Event → List ℕ
none_waits i j es = slots_where (λ (r : SlotReply). eqb (queue_at r.state (flow_of r.state.running.ports i j)).count 0) es

-- the cells in the crosspoint of flow (i, j) after each slot
abbrev pub held_by_slot : ℕ → ℕ → List Event → List ℕ
held_by_slot i j es = map (λ (r : SlotReply). (point_at r.state (flow_of r.state.running.ports i j)).count) (slots_of es)

-- the same after slot t
abbrev pub held_after : ℕ → ℕ → ℕ → List Event → ℕ
held_after i j t es = get_or (held_by_slot i j es) t 0
