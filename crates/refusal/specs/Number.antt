-- The number of each refusal, from the scope's table "What is sent back" and, from 16 on, from the change requests. Only
-- this file and the function `number` have these numbers; all others use the names.
use Rattle.std.specs.Prelude.{ℕ, Ok, Err}
use Rattle.refusal.specs.declared.Refusal.{Refusal}
use Rattle.refusal.specs.declared.Refusal.TheVariants.{PortsOutOfRange, FrameOutOfRange, ListLength, RowAboveFrame, ColumnAboveFrame, DepthOutOfRange, StoreLength, PlanMismatch, NoSuchPort, QueueFull, StateInvalid, CrosspointFull, NotPlanFile, FileLength, NotPlanText, RecordLength}
use Rattle.refusal.specs.Verdict.{Verdict}

abbrev pub number_of : Refusal → ℕ
number_of PortsOutOfRange = 1
number_of FrameOutOfRange = 2
number_of ListLength = 3
number_of RowAboveFrame = 4
number_of ColumnAboveFrame = 5
number_of DepthOutOfRange = 6
number_of StoreLength = 7
number_of PlanMismatch = 8
number_of NoSuchPort = 10
number_of QueueFull = 11
number_of StateInvalid = 12
number_of CrosspointFull = 13
number_of NotPlanFile = 14
number_of FileLength = 15
number_of NotPlanText = 16
number_of RecordLength = 17

-- "Number 9 is then never given" (L5): a load while a plan waits had it until then. No refusal gets it again.
abbrev pub retired : ℕ
retired = 9

-- A verdict's number is its refusal's; 0, which the table leaves free, stands for "accepted".
abbrev pub verdict_number_of : Verdict → ℕ
verdict_number_of (Ok _) = 0
verdict_number_of (Err r) = number_of r
