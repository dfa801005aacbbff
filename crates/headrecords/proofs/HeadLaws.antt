-- One slot of one head, in a sound switch after any takeover: it answers what its multiplexer chose.
use Prim.Native.Nat.{ℕ, ◌<◌}
use mathlib.Core.Path.{◌≡◌, refl, ap, ◌∙◌}
use mathlib.Core.List.{List}
use native.Mathlib.Omega.{arith}
use lib.ListN.{length, get_or}
use Rattle.std.specs.Prelude.{Option, Some, None}
use Rattle.plan.specs.Range.{most_flows}
use Rattle.plan.specs.Lines.{flow_of}
use Rattle.planpair.specs.Rates.{plan_rates}
use Rattle.multiplexer.specs.Choose.{choose_of}
use Rattle.multiplexer.specs.Serve.{serve_of}
use Rattle.multiplexer.specs.Window.{column_of}
use Rattle.multiplexer.specs.declared.Multiplexer.{Multiplexer}
use Rattle.multiplexer.proofs.PortLaws.{column_length}
use Rattle.meter.specs.Record.{entry_of, next_slot}
use Rattle.side.specs.Choices.{no_multiplexer, choice_at}
use Rattle.side.proofs.ChoiceLaws.{choices_at}
use Rattle.side.proofs.CountLaws.{counts_at_lem}
use Rattle.fabric.specs.Flow.{no_point}
use Rattle.fabric.specs.Answer.{answer_of}
use Rattle.fabric.proofs.MoveLaws.{moves_length}
use Rattle.fabric.proofs.SendLaws.{send_case, sends_answer_idle, sends_served}
use Rattle.crossbar.specs.Step.{board_choices, head_choices, slot_moves, slot_sends, ends_frame, after_slot}
use Rattle.crossbar.specs.declared.state.Switch.{Switch}
use Rattle.runs.proofs.SoundLaws.{Sound}
use Rattle.runs.proofs.StepLaws.{heads_can}
use Rattle.headrecords.specs.HeadRecord.{entry_for}

abbrev pub head_at : Switch → ℕ → Multiplexer
head_at s j = get_or s.fabric.heads j no_multiplexer

module _ {u : Switch} {store : List ℕ} (ok : Sound u store) (lent : List ℕ) (j : ℕ) (hj : j < u.running.ports) where
  abbrev n : ℕ
  n = u.running.ports

  -- the head's slot, by itself
  abbrev column : List ℕ
  column = column_of (plan_rates u.running) n j

  chooses : choice_at (head_choices u) j ≡ choose_of column (head_at u j).served u.running.frame u.slot
  unfolding head_choices
  chooses = choices_at _ u.fabric.heads u.running.frame u.slot n j hj ok.plan.few_ports

  points_full : length (slot_moves u lent).crosspoints ≡ most_flows
  points_full = (moves_length n u.depth lent (board_choices u) u.fabric.queues u.fabric.crosspoints n).points_kept ∙ ok.points_size

  answers : entry_for (answer_of (slot_sends u lent).answers j) ≡ entry_of (choice_at (head_choices u) j)
  answers = go (choice_at (head_choices u) j) refl
    where
      go : (c : Option ℕ) → choice_at (head_choices u) j ≡ c → entry_for (answer_of (slot_sends u lent).answers j) ≡ entry_of c
      go None e = ap entry_for (sends_answer_idle n (head_choices u) (slot_moves u lent).crosspoints j hj e)
      go (Some i) e =
          ap entry_for (sends_served n (head_choices u) (slot_moves u lent).crosspoints (heads_can ok) points_full i j hj e).answer
          ∙ send_case (λ r. entry_for r.answer ≡ i) i (get_or (slot_moves u lent).crosspoints (flow_of n i j) no_point) (λ _. refl) (λ _. refl)

  pub head_answers : entry_for (answer_of (slot_sends u lent).answers j) ≡ entry_of (serve_of (head_at u j) column u.running.frame u.slot).choice
  head_answers = answers ∙ ap entry_of chooses

  pub head_after_lem : head_at (after_slot u lent) j ≡ (serve_of (head_at u j) column u.running.frame u.slot).port
  unfolding after_slot
  head_after_lem =
      counts_at_lem n (ends_frame u) (head_choices u) u.fabric.heads n j hj (omega (arith, ok.plan.few_ports, ok.heads_size))
      ∙ rw (chooses, column_length (plan_rates u.running) n j) refl

  pub slot_after : (after_slot u lent).slot ≡ next_slot u.running.frame u.slot
  unfolding after_slot
  slot_after = refl
