-- Which ports the answers of a slot can name: those that a switch can have, whatever stands in the lists that the slot is
-- made of, if the choices name such ports.
use Prim.Native.Nat.{ℕ, zero, suc, ◌<◌}
use mathlib.Core.List.{List}
use Rattle.std.specs.Prelude.{Option, Some, None}
use Rattle.plan.specs.Range.{most_ports}
use Rattle.fabric.specs.Answer.{answer_of, all_idle}
use Rattle.side.specs.Choices.{choice_at, ChoosesPort}
use Rattle.fabric.specs.Moves.{Moves, board_moves, moves_of}
use Rattle.fabric.specs.Sends.{Sends, head_sends, sends_of}
use Rattle.fabric.specs.declared.flow.Answer.{Answer}
use Rattle.fabric.specs.declared.flow.Answer.TheVariants as answer
use Rattle.fabric.specs.declared.flow.Crosspoint.{Crosspoint}
use Rattle.fabric.specs.declared.flow.Queue.{Queue}
use Rattle.side.proofs.NameLaws.{set_keeps, repeated_is}
use Rattle.fabric.proofs.MoveLaws.{move_case}
use Rattle.fabric.proofs.SendLaws.{send_case}

-- an answer names a port that a switch can have, if it names one
abbrev pub NamesPort : Answer → Type 0
NamesPort answer.Idle = Unit {0}
NamesPort (answer.Empty other) = other < most_ports
NamesPort (answer.Moved other cell) = other < most_ports

pub idle_names : (p : ℕ) → NamesPort (answer_of all_idle p)
idle_names p = repeated_is NamesPort most_ports p answer.Idle tt

module _ (choices : List (Option ℕ)) (named : (p : ℕ) → ChoosesPort (choice_at choices p)) where
  pub moves_name : (n depth : ℕ) (store : List ℕ) (queues : List Queue) (points : List Crosspoint) (m p : ℕ)
      → NamesPort (answer_of (moves_of n depth store choices queues points m).answers p)
  unfolding moves_of board_moves
  moves_name n depth store queues points zero p = idle_names p
  moves_name n depth store queues points (suc m) p =
      go (choice_at choices m) (named m) (moves_of n depth store choices queues points m) (moves_name n depth store queues points m p)
    where
      go : (c : Option ℕ) → ChoosesPort c → (f : Moves) → NamesPort (answer_of f.answers p) → NamesPort (answer_of (board_moves n depth store m c f).answers p)
      go None h f was = was
      go (Some j) h f was =
          set_keeps NamesPort f.answers m p _ answer.Idle (move_case (λ r. NamesPort r.answer) depth j _ _ _ (λ _. h) (λ _. h)) was

  pub sends_name : (n : ℕ) (points : List Crosspoint) (m p : ℕ) → NamesPort (answer_of (sends_of n choices points m).answers p)
  unfolding sends_of head_sends
  sends_name n points zero p = idle_names p
  sends_name n points (suc m) p =
      go (choice_at choices m) (named m) (sends_of n choices points m) (sends_name n points m p)
    where
      go : (c : Option ℕ) → ChoosesPort c → (f : Sends) → NamesPort (answer_of f.answers p) → NamesPort (answer_of (head_sends n m c f).answers p)
      go None h f was = was
      go (Some i) h f was =
          set_keeps NamesPort f.answers m p _ answer.Idle (send_case (λ r. NamesPort r.answer) i _ (λ _. h) (λ _. h)) was
