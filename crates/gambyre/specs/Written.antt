-- The answers of calls that write a lent list, together with that list as the call leaves it.
use Rattle.std.specs.Prelude.{ℕ, min, List, length}
use Rattle.refusal.specs.Number.{verdict_number_of}
use Rattle.refusal.specs.Outcome.{Outcome}
use Rattle.crossbar.specs.Arrive.{Arrival}
use Rattle.planpair.specs.Rates.{overlaid}
use Rattle.records.specs.Records.{reply_record}
use Rattle.records.specs.declared.ReplyRecord.{ReplyRecord}

pub record Numbered : Type 0 where
  pub number : ℕ
  pub list : List ℕ

abbrev pub numbered : ℕ → List ℕ → Numbered
numbered number list = record { number = number; list = list }

-- what scale, boost and the text's reader answer and write
abbrev pub outcome_record : Outcome → Numbered
outcome_record o = numbered (verdict_number_of o.verdict) o.list

-- The desk view in C: the row's length, and the row in the first places of `out` as far as it fits. The other places
-- stay.
abbrev pub view_record : List ℕ → List ℕ → Numbered
view_record row out = numbered (length row) (overlaid out row (min (length row) (length out)))

pub record ArrivalRecord : Type 0 where
  pub reply : ReplyRecord
  pub store : List ℕ

abbrev pub arrived : ReplyRecord → List ℕ → ArrivalRecord
arrived reply store = record { reply = reply; store = store }

abbrev pub arrival_record : Arrival → ArrivalRecord
arrival_record a = arrived (reply_record a.reply) a.store
