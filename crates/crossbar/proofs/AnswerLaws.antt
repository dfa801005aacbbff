-- For those who show the answers of a step: each names a port that a switch can have, whatever the state.
use Prim.Native.Nat.{ℕ}
use mathlib.Core.List.{List}
use lib.ListN.{length}
use Rattle.refusal.specs.Chain.{if_accepted}
use Rattle.refusal.specs.Verdict.{Verdict}
use Rattle.std.specs.Prelude.{Ok, Err}
use Rattle.fabric.specs.Answer.{answer_of, all_idle}
use Rattle.side.specs.Choices.{choice_at, ChoosesPort}
use Rattle.fabric.specs.declared.flow.Answer.{Answer}
use Rattle.side.proofs.NameLaws.{choices_name}
use Rattle.fabric.proofs.NameLaws.{NamesPort, idle_names, moves_name, sends_name}
use Rattle.crossbar.specs.Takeover.{takeover_of}
use Rattle.crossbar.specs.Step.{board_choices, head_choices, slot_moves, slot_sends, step_verdict, step_of}
use Rattle.crossbar.specs.declared.state.Switch.{Switch}

boards_choose : (s : Switch) (p : ℕ) → ChoosesPort (choice_at (board_choices s) p)
unfolding board_choices
boards_choose s p = choices_name _ s.fabric.boards s.running.frame s.slot s.running.ports p

heads_choose : (s : Switch) (p : ℕ) → ChoosesPort (choice_at (head_choices s) p)
unfolding head_choices
heads_choose s p = choices_name _ s.fabric.heads s.running.frame s.slot s.running.ports p

-- the answers of an accepted step, and of a refused one, where all ports idle
replied : (v : Verdict) (answers : List Answer) (p : ℕ) → NamesPort (answer_of answers p) → NamesPort (answer_of (if_accepted v answers all_idle) p)
replied (Ok _) answers p h = h
replied (Err r) answers p h = idle_names p

module _ (s : Switch) (store : List ℕ) (p : ℕ) where
  pub step_moves_name : NamesPort (answer_of (step_of s store).moves p)
  unfolding step_of
  step_moves_name =
      let u = takeover_of s in
      replied (step_verdict s (length store)) (slot_moves u store).answers p
      (moves_name (board_choices u) (boards_choose u) u.running.ports u.depth store u.fabric.queues u.fabric.crosspoints u.running.ports p)

  pub step_sends_name : NamesPort (answer_of (step_of s store).sends p)
  unfolding step_of
  step_sends_name =
      let u = takeover_of s in
      replied (step_verdict s (length store)) (slot_sends u store).answers p
      (sends_name (head_choices u) (heads_choose u) u.running.ports (slot_moves u store).crosspoints u.running.ports p)
