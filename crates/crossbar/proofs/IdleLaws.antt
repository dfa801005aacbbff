-- In a slot that isn't refused, a port idles only if no flow of it is eligible.
use Prim.Native.Nat.{ℕ, ◌*◌, ◌<◌, ◌≤◌}
use mathlib.Core.Path.{◌≡◌, refl, ap, sym, subst, ◌∙◌}
use mathlib.Core.Bool.{not}
use mathlib.Core.List.{List}
use native.Mathlib.Omega.{arith}
use lib.ListN.{length}
use borrow.Author.Tests.{not-false}
use Rattle.std.specs.Prelude.{Option, Some, None, Ok}
use Rattle.refusal.proofs.ChainLaws.{refuse_passed}
use Rattle.plan.specs.Range.{most_ports, most_flows}
use Rattle.plan.specs.Desk.{row_of}
use Rattle.multiplexer.specs.Window.{column_of}
use Rattle.multiplexer.proofs.ChoiceLaws.{idle_none}
use Rattle.multiplexer.proofs.PortLaws.{row_length, column_length}
use Rattle.fabric.specs.Answer.{answer_of}
use Rattle.side.specs.Choices.{choice_at, CanChoose}
use Rattle.fabric.specs.declared.flow.Answer.TheVariants.{Idle}
use Rattle.side.proofs.ChoiceLaws.{choices_at, choices_named}
use Rattle.fabric.proofs.MoveLaws.{move_serves, moves_served, moves_length}
use Rattle.fabric.proofs.SendLaws.{send_serves, sends_served}
use Rattle.planpair.specs.Rates.{plan_rates}
use Rattle.crossbar.specs.Valid.{valid_of, IsValid}
use Rattle.crossbar.specs.Takeover.{takeover_of}
use Rattle.crossbar.specs.Step.{board_choices, head_choices, slot_moves, slot_sends, slot_reply, step_verdict, step_of, IdlesOnly}
use Rattle.crossbar.specs.declared.state.Switch.{Switch}
use Rattle.crossbar.specs.declared.state.SlotReply.{SlotReply}
use Rattle.crossbar.proofs.ValidLaws.{valid}
use Rattle.crossbar.proofs.OwnedLaws.{Sized}
use Rattle.crossbar.proofs.TakeoverLaws.{Ruled, ruled}
use Rattle.crossbar.proofs.StepLaws.{ruling_part}

module _
    (u : Switch) (store : List ℕ)
    (few : u.running.ports ≤ most_ports)
    (square : length (plan_rates u.running) ≡ u.running.ports * u.running.ports)
    (queues-full : length u.fabric.queues ≡ most_flows)
    (points_full : length u.fabric.crosspoints ≡ most_flows)
  where
    abbrev n : ℕ
    n = u.running.ports

    rows_long : (i : ℕ) → i < n → length (row_of (plan_rates u.running) n i) ≡ n
    rows_long i l = row_length (plan_rates u.running) n i square l

    boards_can : CanChoose n (board_choices u)
    unfolding board_choices
    boards_can = choices_named (row_of (plan_rates u.running) n) u.fabric.boards u.running.frame u.slot n few rows_long

    heads_can : CanChoose n (head_choices u)
    unfolding head_choices
    heads_can = choices_named (column_of (plan_rates u.running) n) u.fabric.heads u.running.frame u.slot n few (λ j _. column_length (plan_rates u.running) n j)

    board_idle : (i : ℕ) → i < n → answer_of (slot_moves u store).answers i ≡ Idle → choice_at (board_choices u) i ≡ None
    board_idle i l h = go (choice_at (board_choices u) i) refl
      where
        go : (c : Option ℕ) → choice_at (board_choices u) i ≡ c → choice_at (board_choices u) i ≡ None
        go None e = e
        go (Some j) e =
            absurd (move_serves _ _ _ _ _ (sym (moves_served n u.depth store (board_choices u) u.fabric.queues u.fabric.crosspoints boards_can queues-full points_full i j l e).answer ∙ h))

    filled_full : length (slot_moves u store).crosspoints ≡ most_flows
    filled_full = (moves_length n u.depth store (board_choices u) u.fabric.queues u.fabric.crosspoints n).points_kept ∙ points_full

    head_idle : (j : ℕ) → j < n → answer_of (slot_sends u store).answers j ≡ Idle → choice_at (head_choices u) j ≡ None
    head_idle j l h = go (choice_at (head_choices u) j) refl
      where
        go : (c : Option ℕ) → choice_at (head_choices u) j ≡ c → choice_at (head_choices u) j ≡ None
        go None e = e
        go (Some i) e =
            absurd (send_serves _ _ (sym (sends_served n (head_choices u) (slot_moves u store).crosspoints heads_can filled_full i j l e).answer ∙ h))

    slot_idles : IdlesOnly u (slot_reply u store)
    unfolding board_choices head_choices
    slot_idles =
        record {
          boards = λ i f hi hf h.
              idle_none _ _ _ _ (sym (choices_at (row_of (plan_rates u.running) n) u.fabric.boards u.running.frame u.slot n i hi few) ∙ board_idle i hi h) f
              (omega (arith, rows_long i hi, few));
          heads = λ j f hj hf h.
              idle_none _ _ _ _ (sym (choices_at (column_of (plan_rates u.running) n) u.fabric.heads u.running.frame u.slot n j hj few) ∙ head_idle j hj h) f
              (omega (arith, column_length (plan_rates u.running) n j, few));
        }

-- of a step that is answered as defined
pub idles_only : (s : Switch) (store : List ℕ) (r : SlotReply) → Sized s → r ≡ step_of s store → r.verdict ≡ Ok tt → IdlesOnly (takeover_of s) r
unfolding step_of step_verdict
idles_only s store r size is accepted =
    subst (IdlesOnly (takeover_of s)) (sym done)
    (slot_idles (takeover_of s) store
    (rw after.ports rules.running.few_ports)
    (ap length after.rates ∙ ruling_part s size s.running.ports rules.running.few_ports ∙ (rw after.ports refl))
    (rw after.fabric size.queues) (rw after.fabric size.points))
  where
    verdict : step_verdict s (length store) ≡ Ok tt
    verdict = sym (ap (λ (a : SlotReply). a.verdict) is) ∙ accepted

    rules : IsValid s
    rules = valid s (not-false _ (refuse_passed (not (valid_of s)) _ _ verdict).0)

    after : Ruled s (takeover_of s)
    after = ruled s size rules

    done : r ≡ slot_reply (takeover_of s) store
    done = is ∙ rw verdict refl
