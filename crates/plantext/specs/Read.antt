-- Reading a plan's text: "Given N, T and that text, the switch must yield the plan, its rates in a lent list." "16 for text
-- that breaks these rules, after 1 to 3, before 4."
use Rattle.std.specs.Prelude.{ℕ, ◌+◌, ◌*◌, ◌-◌, Bool, not, List, [], is_some, unwrap_or}
use Rattle.refusal.specs.Chain.{refuse_if}
use Rattle.refusal.specs.Outcome.{Outcome, written}
use Rattle.refusal.specs.declared.Refusal.TheVariants.{PortsOutOfRange, FrameOutOfRange, ListLength, NotPlanText}
use Rattle.refusal.specs.Verdict.{Verdict}
use Rattle.plan.specs.Range.{most_ports, ports_in_range, frame_in_range}
use Rattle.plan.specs.Lines.{is_square}
use Rattle.plan.specs.Accept.{accept_of}
use Rattle.plantext.specs.Values.{values_of}

-- whether a text keeps to the rules
abbrev pub is_text : ℕ → List ℕ → Bool
is_text n text = is_some (values_of n text)

-- its values; of a text that doesn't, none
abbrev pub values_in : ℕ → List ℕ → List ℕ
values_in n text = unwrap_or (values_of n text) []

-- the text's rules, then what makes a plan acceptable
abbrev pub judged_of : ℕ → ℕ → List ℕ → Verdict
judged_of n t text = refuse_if (not (is_text n text)) NotPlanText (accept_of n t (values_in n text))

unfoldable pub verdict_of : ℕ → ℕ → List ℕ → List ℕ → Verdict
verdict_of n t text rates =
    refuse_if (not (ports_in_range n)) PortsOutOfRange
    (refuse_if (not (frame_in_range t)) FrameOutOfRange
    (refuse_if (not (is_square n rates)) ListLength
    (judged_of n t text)))

-- the values of an accepted text are written, and a refused call writes nothing
unfoldable pub read_text_of : ℕ → ℕ → List ℕ → List ℕ → Outcome
read_text_of n t text rates = written (verdict_of n t text rates) (values_in n text) rates

-- The bytes of the longest text for N ports: N × N quoted fields of five digits, N − 1 commas in each of N records, and N
-- times CR LF. No text of the grammar is longer (proofs/LengthLaws.antt).
abbrev pub longest_text : ℕ → ℕ
longest_text n = n * n * 7 + n * (n - 1) + n * 2

abbrev pub most_text : ℕ
most_text = longest_text most_ports
