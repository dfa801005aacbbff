-- For the code, which hands a head's rates and record on as lists.
use Rattle.std.specs.Prelude.{ℕ, cond, List, [], ltb, length, get_or}
use Rattle.console.specs.TextBelow.{text_below}
use Rattle.smoothness.specs.Printout.{flow_lines_of, three_frames_of}

-- the lines of the flow from board i, if it has a rate above 0
abbrev pub board_lines_of : List ℕ → List ℕ → ℕ → ℕ → ℕ → List ℕ
board_lines_of recorded rs j T i = cond (ltb 0 (get_or rs i 0)) (flow_lines_of recorded j i (get_or rs i 0) T) []

-- the lines of all flows of head j, which has this record
abbrev pub flows_lines_of : List ℕ → List ℕ → ℕ → ℕ → List ℕ
flows_lines_of recorded rs j T = text_below (board_lines_of recorded rs j T) (length rs)

-- the same, with the record that its rates make
abbrev pub rates_lines_of : List ℕ → ℕ → ℕ → List ℕ
rates_lines_of rs j T = flows_lines_of (three_frames_of rs T) rs j T
