-- The printout of a plan file: "for each flow with a rate above 0, the least and the most services of its head in l slots of
-- three frames, for l = 1, T / 4, T / 2 and T (those of 1 or more, each once), beside the promised bounds." One space parts the
-- fields and each line ends in LF. Of a file that is refused it is "refused", a space and the number.
use Rattle.std.specs.Prelude.{ℕ, ◌+◌, ◌*◌, ◌/◌, Bool, cond, not, ◌&&◌, List, [], ◌∷◌, ◌++◌, ltb, eqb, get_or, replicate, codes, Result, Ok, Err}
use Rattle.refusal.specs.declared.Refusal.{Refusal}
use Rattle.plan.specs.Range.{most_ports}
use Rattle.plan.specs.Below.{all_below}
use Rattle.plan.specs.declared.Plan.{Plan}
use Rattle.planfile.specs.Read.{read_of}
use Rattle.planpair.specs.Rates.{plan_rates}
use Rattle.multiplexer.specs.Window.{column_of}
use Rattle.multiplexer.specs.declared.Multiplexer.{Multiplexer}
use Rattle.meter.specs.Record.{record_from}
use Rattle.meter.specs.Search.{cover_of}
use Rattle.meter.specs.Bound.{least_bound, most_bound}
use Rattle.meter.specs.declared.Measured.{Measured}
use Rattle.meter.specs.declared.Stretch.{Stretch}
use Rattle.console.specs.Text.{decimal_of, field_of}
use Rattle.console.specs.TextBelow.{text_below}
use Rattle.console.specs.Refused.{line_end, refusal_line_of}

abbrev pub header_text : List ℕ
header_text = codes "out in rate slots least promised most promised\n"

-- the line of flow (i, j) with rate a, measured in l slots
unfoldable pub line_of : ℕ → ℕ → ℕ → ℕ → ℕ → Measured → List ℕ
line_of j i a l T measured =
    decimal_of j ++ field_of i ++ field_of a ++ field_of l
    ++ field_of measured.least.services ++ field_of (least_bound l a T)
    ++ field_of measured.most.services ++ field_of (most_bound l a T) ++ line_end

-- what a measurement has; of a refused one all is 0
abbrev pub measured_in : Result Measured Refusal → Measured
measured_in (Ok measured) = measured
measured_in (Err r) = let none : Stretch = record { services = 0; place = 0 } in record { least = none; most = none }

-- "l = 1, T / 4, T / 2 and T"
abbrev pub stretches : ℕ
stretches = 4

abbrev pub stretches_of : ℕ → List ℕ
stretches_of T = 1 ∷ T / 4 ∷ T / 2 ∷ T ∷ []

-- "those of 1 or more, each once": the length at place k of a list is 1 or more, and stands at no place before
unfoldable pub counts : List ℕ → ℕ → Bool
counts lengths k = ltb 0 (get_or lengths k 0) && all_below (λ m. not (eqb (get_or lengths m 0) (get_or lengths k 0))) k

-- the lines of a flow whose head has this record
unfoldable pub flow_lines_of : List ℕ → ℕ → ℕ → ℕ → ℕ → List ℕ
flow_lines_of recorded j i a T =
    let lengths = stretches_of T in
    text_below (λ k. let l = get_or lengths k 0 in cond (counts lengths k) (line_of j i a l T (measured_in (cover_of recorded i l))) []) stretches

-- a port that served nobody in this frame
abbrev pub fresh : Multiplexer
fresh = record { served = replicate most_ports 0 }

-- what a head with these rates serves in "three frames"
unfoldable pub three_frames_of : List ℕ → ℕ → List ℕ
three_frames_of rs T = record_from fresh rs T 0 (3 * T)

-- the lines of the flows of head j "with a rate above 0"
unfoldable pub head_lines_of : Plan → ℕ → List ℕ
head_lines_of plan j =
    let n = plan.ports in
    let T = plan.frame in
    let rs = column_of (plan_rates plan) n j in
    text_below (λ i. let a = get_or rs i 0 in cond (ltb 0 a) (flow_lines_of (three_frames_of rs T) j i a T) []) n

-- what is printed of a file's plan, or of its refusal
abbrev pub printed_of : Result Plan Refusal → List ℕ
printed_of (Ok plan) = header_text ++ text_below (head_lines_of plan) plan.ports
printed_of (Err r) = refusal_line_of (Err r)

-- what the program prints of the file with these bytes
unfoldable pub printout_of : List ℕ → List ℕ
printout_of file = printed_of (read_of file)

-- Room for every printout: a number has 20 digits at most, and a space or LF stands behind it.
abbrev pub header_room : ℕ
header_room = 47

abbrev pub line_room : ℕ
line_room = 8 * 21

abbrev pub printout_room : ℕ
printout_room = header_room + most_ports * (most_ports * (stretches * line_room))
