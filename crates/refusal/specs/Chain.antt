-- How a call arrives at its verdict: conditions are looked at in a fixed order, and the first one
-- that holds decides.
use Rattle.std.specs.Prelude.{Bool, true, false, Result, Ok, Err}
use Rattle.refusal.specs.declared.Refusal.{Refusal}
use Rattle.refusal.specs.Verdict.{Verdict}

-- refused under a condition, and otherwise as the rest of the order says
abbrev pub refuse_if : Bool → Refusal → Verdict → Verdict
refuse_if true r rest = Err r
refuse_if false r rest = rest

-- the first verdict, if it is a refusal, and otherwise the second
abbrev pub and_then : Verdict → Verdict → Verdict
and_then (Ok _) rest = rest
and_then (Err r) rest = Err r

-- the first value where the call was accepted, and the second where it was refused
abbrev pub if_accepted : {A : Type 0} → Verdict → A → A → A
if_accepted (Ok _) x y = x
if_accepted (Err r) x y = y

-- what the call gives: the value where it was accepted, and the refusal where it was not
abbrev pub when_accepted : {A : Type 0} → Verdict → A → Result A Refusal
when_accepted (Ok _) x = Ok x
when_accepted (Err r) x = Err r
