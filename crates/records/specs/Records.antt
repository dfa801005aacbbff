-- The operations' answers as plain records: numbers stand in the place of cases. A verdict is its number by
-- `verdict_number_of`, a port's kind its number by `kind_of`.
use Rattle.std.specs.Prelude.{ℕ, zero, suc, cond, List, eqb, set, replicate, Option, Some, None, Result, Ok, Err}
use Rattle.refusal.specs.Number.{verdict_number_of}
use Rattle.plan.specs.Range.{most_ports}
use Rattle.plan.specs.NoPlan.{no_plan}
use Rattle.plan.specs.declared.Plan.{Plan}
use Rattle.refusal.specs.declared.Refusal.{Refusal}
use Rattle.meter.specs.declared.Stretch.{Stretch}
use Rattle.meter.specs.declared.Measured.{Measured}
use Rattle.fabric.specs.Answer.{kind_of, answer_of}
use Rattle.fabric.specs.declared.flow.Answer.{Answer}
use Rattle.fabric.specs.declared.flow.Answer.TheVariants as answer
use Rattle.crossbar.specs.declared.state.Reply.{Reply}
use Rattle.crossbar.specs.declared.state.SlotReply.{SlotReply}
use Rattle.records.specs.declared.PortRecord.{PortRecord}
use Rattle.records.specs.declared.ChoiceRecord.{ChoiceRecord}
use Rattle.records.specs.declared.ReplyRecord.{ReplyRecord}
use Rattle.records.specs.declared.SlotRecord.{SlotRecord}
use Rattle.records.specs.declared.ReadingRecord.{ReadingRecord}
use Rattle.records.specs.declared.CoverRecord.{CoverRecord}

-- "idle; empty (served, nothing to move), with the other port; moved, with the other port and the cell": the other port,
-- 0 where an answer has none
abbrev pub other_of : Answer → ℕ
other_of answer.Idle = 0
other_of (answer.Empty other) = other
other_of (answer.Moved other cell) = other

-- the cell, 0 where an answer has none
abbrev pub cell_of : Answer → ℕ
cell_of answer.Idle = 0
cell_of (answer.Empty other) = 0
cell_of (answer.Moved other cell) = cell

abbrev pub answer_record : Answer → PortRecord
answer_record a = record { kind = kind_of a; other = other_of a; cell = cell_of a }

-- the records of the ports below m; those from m up are idle
unfoldable pub records_below : List Answer → ℕ → List PortRecord
records_below answers zero = replicate most_ports (answer_record answer.Idle)
records_below answers (suc m) = set (records_below answers m) m (answer_record (answer_of answers m))

abbrev pub port_records : List Answer → List PortRecord
port_records answers = records_below answers most_ports

-- "With none eligible the port idles": the number of each case of a choice
abbrev pub choice_kind_of : Option ℕ → ℕ
choice_kind_of None = 0
choice_kind_of (Some f) = 1

-- the flow, 0 where a choice has none
abbrev pub flow_in : Option ℕ → ℕ
flow_in None = 0
flow_in (Some f) = f

abbrev pub choice_record : Option ℕ → ChoiceRecord
choice_record c = record { kind = choice_kind_of c; flow = flow_in c }

-- the choice that a caller hands over: every kind but that of `None` is a flow
abbrev pub choice_in : ChoiceRecord → Option ℕ
choice_in c = cond (eqb c.kind (choice_kind_of None)) None (Some c.flow)

abbrev pub reply_record : Reply → ReplyRecord
reply_record r = record { verdict = verdict_number_of r.verdict; state = r.state }

abbrev pub slot_record : SlotReply → SlotRecord
slot_record r =
    record {
      verdict = verdict_number_of r.verdict;
      state = r.state;
      moves = port_records r.moves;
      sends = port_records r.sends;
    }

-- "Where an operation was handed no state or plan and would answer one, the refusal's is all 0": the plan of a file that is refused
abbrev pub reading_record : Result Plan Refusal → ReadingRecord
reading_record (Ok plan) = record { verdict = verdict_number_of (Ok tt); plan = plan }
reading_record (Err why) = record { verdict = verdict_number_of (Err why); plan = no_plan }

-- "the other numbers of a refused answer are 0": the stretches of a record that is refused
abbrev pub no_stretch : Stretch
no_stretch = record { services = 0; place = 0 }

abbrev pub cover_record : Result Measured Refusal → CoverRecord
cover_record (Ok measured) = record { verdict = verdict_number_of (Ok tt); least = measured.least; most = measured.most }
cover_record (Err why) = record { verdict = verdict_number_of (Err why); least = no_stretch; most = no_stretch }
