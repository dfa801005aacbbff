-- "Cases with a star make up one table, proved of the specification by a single theorem". Each line has what the
-- definitions compute, and what the scope or a request (L3 to L5) says; its text of the case stands over it. Two runs more show
-- that the shares of demand 3 are reached.
use Rattle.std.specs.Prelude.{ℕ, ◌≡◌, List, [], ◌∷◌, ◌++◌, length, take, drop, replicate, Some, None, Ok}
use Rattle.refusal.specs.Number.{verdict_number_of}
use Rattle.plan.specs.Below.{list_below}
use Rattle.plan.specs.Accept.{accept_of}
use Rattle.regulator.specs.Outcome.{Outcome, outcome}
use Rattle.regulator.specs.Scale.{scale_of}
use Rattle.regulator.specs.Boost.{diagonal_in, boost_of}
use Rattle.runs.specs.Event.{Call, Event}
use Rattle.runs.specs.Event.Lent.{own}
use Rattle.runs.specs.Event.Call.{step, arrive, load}
use Rattle.runs.specs.Run.{final_state}
use Rattle.cases.specs.Look.{flows_by_slot, started, run_of, load_verdicts, rate_by_slot, input_by_slot, output_by_slot, input_serves, output_serves, output_empty, none_waits, held_after}

infix 20 ◌is◌
-- two values of one type; the lines' types differ
pub record Line : Type 1 where
  pub kind : Type 0
  pub computed : kind
  pub stated : kind

abbrev pub ◌is◌ : {A : Type 0} → A → A → Line
◌is◌ {A} computed stated = record { kind = A; computed = computed; stated = stated }

-- each line's two sides are the same
abbrev pub Hold : List Line → Type 0
Hold [] = Unit {0}
Hold (l ∷ ls) = (l.computed ≡ l.stated) × Hold ls

-- rows of a plan
abbrev row2 : ℕ → ℕ → List ℕ
row2 a b = a ∷ b ∷ []

abbrev row3 : ℕ → ℕ → ℕ → List ℕ
row3 a b c = a ∷ b ∷ c ∷ []

abbrev row7 : ℕ → ℕ → ℕ → ℕ → ℕ → ℕ → ℕ → List ℕ
row7 a b c d e f g = a ∷ b ∷ c ∷ d ∷ e ∷ f ∷ g ∷ []

-- Below, `Some f` is the scope's f in a list of choices, and `None` its "-".

-- C1* T = 8, rates 5 2: flows by slot 0 1 0 - 0 0 1 0.
abbrev pub c1 : List Line
c1 = (flows_by_slot 8 (5 ∷ 2 ∷ []) is (Some 0 ∷ Some 1 ∷ Some 0 ∷ None ∷ Some 0 ∷ Some 0 ∷ Some 1 ∷ Some 0 ∷ [])) ∷ []

-- C2* T = 6, rates 2 3 1: 1 0 1 0 1 2.
abbrev pub c2 : List Line
c2 = (flows_by_slot 6 (2 ∷ 3 ∷ 1 ∷ []) is (Some 1 ∷ Some 0 ∷ Some 1 ∷ Some 0 ∷ Some 1 ∷ Some 2 ∷ [])) ∷ []

-- four cells for flow (i, j)
abbrev pub four_cells : ℕ → ℕ → List Call
four_cells i j = arrive own i j 70 ∷ arrive own i j 71 ∷ arrive own i j 72 ∷ arrive own i j 73 ∷ []

-- then a frame of t slots, in which it has three services
abbrev pub fed_frame : ℕ → ℕ → ℕ → List Call
fed_frame i j t = four_cells i j ++ replicate t (step own)

-- C3* T = 15, rows 13 2 0, 1 10 4, 1 3 11, flow (2, 1) always waiting. Input 2 serves it in slots 1, 8, 12; slot 7 is
-- empty. By L4 "output 1 then serves flow (2, 1) in slots 1, 7 and 10, and the crosspoint is at one cell after slot 12".
abbrev c3_run : List Event
c3_run = run_of 3 15 (row3 13 2 0 ++ row3 1 10 4 ++ row3 1 3 11) (fed_frame 2 1 15)

abbrev pub c3 : List Line
c3 =
    (none_waits 2 1 c3_run is [])
    ∷ (input_serves 2 1 c3_run is (1 ∷ 8 ∷ 12 ∷ []))
    ∷ (output_serves 2 1 c3_run is (1 ∷ 7 ∷ 10 ∷ []))
    ∷ (output_empty 2 1 c3_run is (7 ∷ []))
    ∷ (held_after 2 1 12 c3_run is 1)
    ∷ []

-- L4, the rule by itself: T = 4, rates 1 1 2: 2 0 2 1. In slot 1 flows 0 and 1 have the same deadline and rate, and 0 is
-- the lower number; in slot 2 flows 1 and 2 have the same deadline, and 2 has the larger rate.
abbrev pub l4_ties : List Line
l4_ties = (flows_by_slot 4 (row3 1 1 2) is (Some 2 ∷ Some 0 ∷ Some 2 ∷ Some 1 ∷ [])) ∷ []

-- L4, two cells are needed: N = 2, T = 9, rows 3 4, 5 2, flow (0, 0) always waiting. Input 0 serves it in slots 1, 4, 6,
-- output 0 in 1, 3, 7. Slot 3 is empty; after slot 6 the crosspoint holds 2.
abbrev pub l4_rates : List ℕ
l4_rates = row2 3 4 ++ row2 5 2

abbrev pub l4_run : List Event
l4_run = run_of 2 9 l4_rates (fed_frame 0 0 9)

abbrev pub l4 : List Line
l4 =
    (none_waits 0 0 l4_run is [])
    ∷ (input_serves 0 0 l4_run is (1 ∷ 4 ∷ 6 ∷ []))
    ∷ (output_serves 0 0 l4_run is (1 ∷ 3 ∷ 7 ∷ []))
    ∷ (output_empty 0 0 l4_run is (3 ∷ []))
    ∷ (held_after 0 0 6 l4_run is 2)
    ∷ []

-- L5, a plan that is replaced: N = 2, T = 4, rows 1 1, 1 1. After slot 0 rows 4 0, 0 4 are loaded, and after slot 1 rows
-- 3 1, 1 3. Flow (0, 0) has rate 1 through this frame and 3 through the next one, never 4. It is served in slot 0, and in
-- slots 0, 2, 3 of the second frame, in place of all four.
abbrev pub l5_rates : List ℕ
l5_rates = row2 1 1 ++ row2 1 1

abbrev pub l5_first : List ℕ
l5_first = row2 4 0 ++ row2 0 4

abbrev pub l5_second : List ℕ
l5_second = row2 3 1 ++ row2 1 3

abbrev pub l5_before : List Call
l5_before = four_cells 0 0 ++ (step own ∷ [])

-- the calls of the first frame, and those of the second
abbrev pub l5_frame : List Call
l5_frame = l5_before ++ (load 2 4 l5_first ∷ step own ∷ load 2 4 l5_second ∷ step own ∷ step own ∷ [])

abbrev pub l5_next : List Call
l5_next = replicate 4 (step own)

abbrev pub l5_run : List Event
l5_run = run_of 2 4 l5_rates (l5_frame ++ l5_next)

-- the events of the first frame, and those of the second
abbrev pub l5_early : List Event
l5_early = take (length l5_frame) l5_run

abbrev pub l5_late : List Event
l5_late = drop (length l5_frame) l5_run

abbrev pub l5 : List Line
l5 =
    (load_verdicts l5_run is (Ok tt ∷ Ok tt ∷ []))
    ∷ (rate_by_slot 0 0 l5_early is (1 ∷ 1 ∷ 1 ∷ 1 ∷ []))
    ∷ (rate_by_slot 0 0 l5_late is (3 ∷ 3 ∷ 3 ∷ 3 ∷ []))
    ∷ (input_serves 0 0 l5_run is (0 ∷ 4 ∷ 6 ∷ 7 ∷ []))
    ∷ (output_serves 0 0 l5_run is (0 ∷ 4 ∷ 6 ∷ 7 ∷ []))
    ∷ []

-- The lower share is reached, so that 2 can't be 1: N = 2, T = 10, rows 4 6, 5 0, flow (0, 0) always waiting. In slots 4 to 8 no
-- cell is sent, and 5 × 4 / 10 is 2.
abbrev pub lower_rates : List ℕ
lower_rates = row2 4 6 ++ row2 5 0

-- the calls before these slots, in them, and behind them; a fifth cell comes so that one waits to the frame's end
abbrev pub lower_before : List Call
lower_before = four_cells 0 0 ++ replicate 4 (step own) ++ (arrive own 0 0 74 ∷ [])

abbrev pub lower_stretch : List Call
lower_stretch = replicate 5 (step own)

abbrev pub lower_after : List Call
lower_after = step own ∷ []

abbrev pub lower_run : List Event
lower_run = run_of 2 10 lower_rates (lower_before ++ lower_stretch ++ lower_after)

abbrev pub lower : List Line
lower =
    (none_waits 0 0 lower_run is [])
    ∷ (input_serves 0 0 lower_run is (1 ∷ 3 ∷ 6 ∷ 8 ∷ []))
    ∷ (output_serves 0 0 lower_run is (1 ∷ 3 ∷ 5 ∷ 9 ∷ []))
    ∷ (output_empty 0 0 lower_run is (5 ∷ []))
    ∷ []

-- The upper share is reached: N = 2, T = 6, rows 2 0, 3 0, flow (0, 0) always waiting. In slots 1 to 3 two cells are sent, and
-- 3 × 2 / 6 is 1.
abbrev pub upper_rates : List ℕ
upper_rates = row2 2 0 ++ row2 3 0

abbrev pub upper_before : List Call
upper_before = four_cells 0 0 ++ (step own ∷ [])

abbrev pub upper_stretch : List Call
upper_stretch = replicate 3 (step own)

abbrev pub upper_after : List Call
upper_after = replicate 2 (step own)

abbrev pub upper_run : List Event
upper_run = run_of 2 6 upper_rates (upper_before ++ upper_stretch ++ upper_after)

abbrev pub upper : List Line
upper =
    (none_waits 0 0 upper_run is [])
    ∷ (input_serves 0 0 upper_run is (0 ∷ 3 ∷ []))
    ∷ (output_serves 0 0 upper_run is (1 ∷ 3 ∷ []))
    ∷ (output_empty 0 0 upper_run is [])
    ∷ []

-- C4* T = 10, demands 4 5 6, 3 5 5, 2 1 6: scaled 2 3 3, 2 3 2, 2 0 3.
abbrev scaled : Outcome
scaled = scale_of 3 10 (row3 4 5 6 ++ row3 3 5 5 ++ row3 2 1 6) (replicate 9 0)

abbrev pub c4 : List Line
c4 = (scaled is outcome (Ok tt) (row3 2 3 3 ++ row3 2 3 2 ++ row3 2 0 3)) ∷ []

-- C5* boosted: 4 3 3, 2 6 2, 4 1 5. "C5 is period 0."
abbrev boosted_in : ℕ → Outcome
boosted_in p = boost_of 3 10 p scaled.list (replicate 9 0)

abbrev pub c5 : List Line
c5 = (boosted_in 0 is outcome (Ok tt) (row3 4 3 3 ++ row3 2 6 2 ++ row3 4 1 5)) ∷ []

-- L3. C4's plan boosted, rows after one another: period 1: 2 5 3, 2 4 4, 6 1 3; period 2: 2 3 5, 5 3 2, 3 4 3; period 3 as
-- period 0.
abbrev pub l3 : List Line
l3 =
    (boosted_in 1 is outcome (Ok tt) (row3 2 5 3 ++ row3 2 4 4 ++ row3 6 1 3))
    ∷ (boosted_in 2 is outcome (Ok tt) (row3 2 3 5 ++ row3 5 3 2 ++ row3 3 4 3))
    ∷ (boosted_in 3 is boosted_in 0)
    ∷ []

-- L3, "p + k must not wrap (4,294,967,290 and 4,294,967,295 with N = 7 are cases to compute)". In 32 bits the first would end
-- on diagonal 0 in place of 4, and the second would go from 3 to 0. In both, each diagonal of this plan of T = 6 grows.
abbrev seven : List ℕ
seven =
    row7 0 0 1 0 0 0 0
    ++ row7 0 2 0 0 1 2 0
    ++ row7 0 0 0 1 1 0 1
    ++ row7 0 1 0 1 2 2 0
    ++ row7 0 1 0 2 1 2 0
    ++ row7 0 1 0 0 1 0 0
    ++ row7 0 0 2 0 0 0 0

abbrev five_first : List ℕ
five_first =
    row7 1 0 1 0 0 0 4
    ++ row7 0 2 0 0 1 2 1
    ++ row7 3 0 0 1 1 0 1
    ++ row7 0 1 0 1 2 2 0
    ++ row7 0 1 0 2 1 2 0
    ++ row7 0 1 2 2 1 0 0
    ++ row7 2 1 3 0 0 0 0

abbrev three_first : List ℕ
three_first =
    row7 2 0 1 2 0 0 1
    ++ row7 0 2 0 0 1 2 1
    ++ row7 0 0 0 1 1 0 4
    ++ row7 0 1 0 1 2 2 0
    ++ row7 0 1 0 2 1 2 0
    ++ row7 3 2 0 0 1 0 0
    ++ row7 1 0 5 0 0 0 0

abbrev pub l3_last : List Line
l3_last =
    (list_below (diagonal_in 7 4294967290) 7 is (5 ∷ 6 ∷ 0 ∷ 1 ∷ 2 ∷ 3 ∷ 4 ∷ []))
    ∷ (list_below (diagonal_in 7 4294967295) 7 is (3 ∷ 4 ∷ 5 ∷ 6 ∷ 0 ∷ 1 ∷ 2 ∷ []))
    ∷ (boost_of 7 6 4294967290 seven (replicate 49 0) is outcome (Ok tt) five_first)
    ∷ (boost_of 7 6 4294967295 seven (replicate 49 0) is outcome (Ok tt) three_first)
    ∷ []

-- C6* N = 1, T = 1, rate 1: served every slot.
abbrev c6_run : List Event
c6_run = run_of 1 1 (1 ∷ []) (replicate 3 (step own))

-- three slots, each a frame; the state is then the one that they began with, so it goes on like that
abbrev pub c6 : List Line
c6 =
    (input_by_slot 0 c6_run is (Some 0 ∷ Some 0 ∷ Some 0 ∷ []))
    ∷ (output_by_slot 0 c6_run is (Some 0 ∷ Some 0 ∷ Some 0 ∷ []))
    ∷ (final_state (started 1 1 (1 ∷ [])).state c6_run is (started 1 1 (1 ∷ [])).state)
    ∷ []

-- C7* N = 2, T = 4, all rates 0: accepted, all idle.
abbrev c7_run : List Event
c7_run = run_of 2 4 (row2 0 0 ++ row2 0 0) (replicate 4 (step own))

abbrev pub c7 : List Line
c7 =
    (accept_of 2 4 (row2 0 0 ++ row2 0 0) is Ok tt)
    ∷ (input_by_slot 0 c7_run is (None ∷ None ∷ None ∷ None ∷ []))
    ∷ (input_by_slot 1 c7_run is (None ∷ None ∷ None ∷ None ∷ []))
    ∷ (output_by_slot 0 c7_run is (None ∷ None ∷ None ∷ None ∷ []))
    ∷ (output_by_slot 1 c7_run is (None ∷ None ∷ None ∷ None ∷ []))
    ∷ []

-- C8* T = 3: row 1 2 within, row 2 2 refused 4.
abbrev pub c8 : List Line
c8 =
    (accept_of 2 3 (row2 1 2 ++ row2 0 0) is Ok tt)
    ∷ (verdict_number_of (accept_of 2 3 (row2 2 2 ++ row2 0 0)) is 4)
    ∷ []

-- C9* T = 3, rows 2 0, 2 0: 5. Rows 3 1, 1 0: 4, not 5.
abbrev pub c9 : List Line
c9 =
    (verdict_number_of (accept_of 2 3 (row2 2 0 ++ row2 2 0)) is 5)
    ∷ (verdict_number_of (accept_of 2 3 (row2 3 1 ++ row2 1 0)) is 4)
    ∷ []

abbrev pub table : List Line
table = c1 ++ c2 ++ c3 ++ l4_ties ++ l4 ++ l5 ++ lower ++ upper ++ c4 ++ c5 ++ l3 ++ l3_last ++ c6 ++ c7 ++ c8 ++ c9
