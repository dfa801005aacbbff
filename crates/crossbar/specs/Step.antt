-- One slot: takeover, choices, moves, sends, end of slot. Order: 12, 7, 13; "number 13 looks at the running plan after a
-- takeover". "state, store and written lists are unchanged" by a refusal; "every port of a refused step reads idle".
use Rattle.std.specs.Prelude.{ℕ, ◌+◌, ◌<◌, ◌≡◌, Bool, false, not, cond, ◌&&◌, List, eqb, length, get_or, Option, Ok}
use Rattle.refusal.specs.Chain.{refuse_if, if_accepted}
use Rattle.refusal.specs.declared.Refusal.TheVariants.{StateInvalid, StoreLength, CrosspointFull}
use Rattle.refusal.specs.Verdict.{Verdict}
use Rattle.plan.specs.Desk.{row_of}
use Rattle.multiplexer.specs.Choose.{eligible_at}
use Rattle.multiplexer.specs.Window.{column_of}
use Rattle.fabric.specs.declared.flow.Answer.TheVariants.{Idle}
use Rattle.multiplexer.specs.declared.Multiplexer.{Multiplexer}
use Rattle.plan.specs.declared.Plan.{Plan}
use Rattle.planpair.specs.Rates.{plan_rates}
use Rattle.crossbar.specs.State.{store_fits}
use Rattle.fabric.specs.Answer.{answer_of, all_idle}
use Rattle.crossbar.specs.Valid.{valid_of}
use Rattle.crossbar.specs.Takeover.{takeover_of}
use Rattle.side.specs.Choices.{no_multiplexer, choices_of}
use Rattle.fabric.specs.Moves.{Moves, moves_of, room_for_all}
use Rattle.fabric.specs.Sends.{Sends, sends_of}
use Rattle.side.specs.Counts.{counts_of}
use Rattle.crossbar.specs.declared.state.Switch.{Switch}
use Rattle.crossbar.specs.declared.state.SlotReply.{SlotReply}

-- In what follows s is the state after a takeover.

-- "All 2N ports choose": boards by the rows of a plan for n ports, heads by its columns.
abbrev pub choices_by_rows : Plan → ℕ → List Multiplexer → ℕ → ℕ → List (Option ℕ)
choices_by_rows plan n boards t slot = choices_of (row_of (plan_rates plan) n) boards t slot n

abbrev pub choices_by_columns : Plan → List Multiplexer → ℕ → List (Option ℕ)
choices_by_columns plan heads slot = choices_of (column_of (plan_rates plan) plan.ports) heads plan.frame slot plan.ports

unfoldable pub board_choices : Switch → List (Option ℕ)
board_choices s = choices_by_rows s.running s.running.ports s.fabric.boards s.running.frame s.slot

unfoldable pub head_choices : Switch → List (Option ℕ)
head_choices s = choices_by_columns s.running s.fabric.heads s.slot

abbrev pub slot_moves : Switch → List ℕ → Moves
slot_moves s store = moves_of s.running.ports s.depth store (board_choices s) s.fabric.queues s.fabric.crosspoints s.running.ports

abbrev pub slot_sends : Switch → List ℕ → Sends
slot_sends s store = sends_of s.running.ports (head_choices s) (slot_moves s store).crosspoints s.running.ports

-- "Each crosspoint holds two cells"
abbrev pub has_room : Switch → Bool
has_room s = room_for_all s.running.ports (board_choices s) s.fabric.queues s.fabric.crosspoints

abbrev pub ends_frame : Switch → Bool
ends_frame s = eqb (s.slot + 1) s.running.frame

unfoldable pub after_slot : Switch → List ℕ → Switch
after_slot s store =
    let n = s.running.ports in
    record {
      running = s.running;
      waiting = s.waiting;
      waits = s.waits;
      depth = s.depth;
      slot = cond (ends_frame s) 0 (s.slot + 1);
      fabric =
          record {
            queues = (slot_moves s store).queues;
            crosspoints = (slot_sends s store).crosspoints;
            boards = counts_of n (ends_frame s) (board_choices s) s.fabric.boards n;
            heads = counts_of n (ends_frame s) (head_choices s) s.fabric.heads n;
          };
    }

-- what an accepted step answers
abbrev pub slot_reply : Switch → List ℕ → SlotReply
slot_reply s store = record { verdict = Ok tt; state = after_slot s store; moves = (slot_moves s store).answers; sends = (slot_sends s store).answers }

-- what a refused step answers
abbrev pub refused_reply : Switch → Verdict → SlotReply
refused_reply s v = record { verdict = v; state = s; moves = all_idle; sends = all_idle }

-- "Step: 12, 7, 13": whether the state is valid, the store has its length, and no crosspoint gets a third cell
abbrev pub verdict_by : Bool → Bool → Bool → Verdict
verdict_by valid fits room =
    refuse_if (not valid) StateInvalid
    (refuse_if (not fits) StoreLength
    (refuse_if (not room) CrosspointFull
    (Ok tt)))

unfoldable pub step_verdict : Switch → ℕ → Verdict
step_verdict s len = verdict_by (valid_of s) (store_fits s.running.ports s.depth len) (has_room (takeover_of s))

unfoldable pub step_of : Switch → List ℕ → SlotReply
step_of s store =
    let v = step_verdict s (length store) in
    let u = takeover_of s in
    record {
      verdict = v;
      state = if_accepted v (after_slot u store) s;
      moves = if_accepted v (slot_moves u store).answers all_idle;
      sends = if_accepted v (slot_sends u store).answers all_idle;
    }

-- what `step` ensures
abbrev pub Steps : Switch → List ℕ → SlotReply → Type 0
Steps s store r = r ≡ step_of s store

-- "With none eligible the port idles", and in no other case: where a port of an accepted step reads idle, no flow of it is
-- eligible. u is the state after the takeover.
pub record IdlesOnly (u : Switch) (r : SlotReply) : Type 0 where
  pub boards : (i f : ℕ) → i < u.running.ports → f < u.running.ports → answer_of r.moves i ≡ Idle
      → eligible_at (row_of (plan_rates u.running) u.running.ports i) (get_or u.fabric.boards i no_multiplexer).served u.running.frame u.slot f ≡ false
  pub heads : (j f : ℕ) → j < u.running.ports → f < u.running.ports → answer_of r.sends j ≡ Idle
      → eligible_at (column_of (plan_rates u.running) u.running.ports j) (get_or u.fabric.heads j no_multiplexer).served u.running.frame u.slot f ≡ false

-- For the code: what is known once 12 and 7 are judged, and how many ports choose.
pub record Judged (s : Switch) (len n : ℕ) (valid fits : Bool) : Type 0 where
  pub valid_is : valid ≡ valid_of s
  pub fits_is : fits ≡ (valid && store_fits s.running.ports s.depth len)
  pub choosing : n ≡ cond fits s.running.ports 0
