-- A step as an event of a run: it is accepted on the run's own store, and keeps each flow's books.
use Prim.Native.Nat.{ℕ, ◌*◌, ◌<◌}
use mathlib.Core.Path.{◌≡◌, refl, ap, sym, subst, subst₂, ◌∙◌}
use mathlib.Core.Bool.{Bool, true, false, not}
use mathlib.Core.Logic.{inr}
use mathlib.Core.List.{List, [], ◌∷◌, append-nil}
use native.Mathlib.Omega.{arith}
use lib.Dec.{eqb}
use lib.ListN.{length}
use borrow.Author.Tests.{eq-eqb, eqb-true, not-false}
use Rattle.refusal.specs.Verdict.{Verdict}
use Rattle.std.specs.Prelude.{Ok, Err}
use Rattle.refusal.proofs.ChainLaws.{refuse_passed}
use Rattle.plan.specs.declared.Plan.{Plan}
use Rattle.crossbar.specs.State.{store_fits}
use Rattle.crossbar.specs.Valid.{valid_of}
use Rattle.crossbar.specs.Load.{with_plans}
use Rattle.planpair.specs.Takeover.{replaced, cleared}
use Rattle.crossbar.specs.Takeover.{takes_over, takeover_of}
use Rattle.crossbar.specs.Step.{slot_moves, slot_sends, after_slot, step_verdict, step_of}
use Rattle.crossbar.specs.declared.state.Switch.{Switch}
use Rattle.crossbar.proofs.TakeoverLaws.{taken, not_taken}
use Rattle.runs.specs.Event.{Lent, Event, state_after}
use Rattle.runs.specs.Event.Lent.{own, other}
use Rattle.runs.specs.Event.Call.{step}
use Rattle.runs.specs.Event.Event.{stepped}
use Rattle.runs.specs.Run.{OtherLength, answered}
use Rattle.runs.specs.Flow.{collect, total, left, moved, left_in, moved_in}
use Rattle.runs.proofs.LedgerLaws.{Ledger}
use Rattle.runs.proofs.SoundLaws.{Sound, board_near, head_near}
use Rattle.runs.proofs.SlotLaws.{slot_room, slot_cells, slot_crossing, slot_empties, slot_share, slot_near}
use Rattle.runs.proofs.StepLaws.{flow_slot, slot_sound, has_room_lem}
use Rattle.runs.proofs.TakeoverLaws.{OtherPlan, takeover_sound}
use Rattle.runs.proofs.FlowPromiseLaws.{EventLaw}
use Rattle.runs.proofs.QuietLaws.{refused_law, refused_step}

-- an accepted step of a state that no plan takes over any more
abbrev slot_event : Lent → Switch → List ℕ → Event
slot_event lent u store = stepped lent (record { verdict = Ok tt; state = after_slot u store; moves = (slot_moves u store).answers; sends = (slot_sends u store).answers })

module _ {u : Switch} {store : List ℕ} (ok : Sound u store) (lent : Lent) (i j : ℕ) (hi : i < u.running.ports) (hj : j < u.running.ports) where
  abbrev e : Event
  e = slot_event lent u store

  out : length (left i j (e ∷ [])) ≡ length (left_in i j e)
  unfolding collect
  out = ap length (append-nil (left_in i j e))

  into : length (moved i j (e ∷ [])) ≡ length (moved_in i j e)
  unfolding collect
  into = ap length (append-nil (moved_in i j e))

  slot_ledger : Ledger u.running.ports u.running.frame i j u (after_slot u store) (e ∷ [])
  unfolding total after_slot
  slot_ledger =
      let f = flow_slot ok i j hi hj in
      record {
        cells = omega (arith, out, into, slot_cells f);
        empties = omega (arith, slot_empties f);
        share = λ a rate. rw (out, sym (rate.0 refl)) (omega (arith, slot_share f));
        edges = λ a rate. rw (sym (rate.0 refl)) (inr (head_near ok i j hi hj, slot_near f, omega (arith, (board_near ok i j hi hj).early)));
      }

  slot_law : EventLaw u.running.ports u.running.frame i j u store e
  unfolding after_slot
  slot_law =
      let f = flow_slot ok i j hi hj in
      record {
        ledger = slot_ledger;
        room = slot_room f;
        crossing = slot_crossing f;
        queue = append-nil _ ∙ f.board.from_queue;
      }

-- the plans of the state before a step don't stand in its law
other_plans : {s : Switch} {store : List ℕ} {n T i j : ℕ} (running waiting : Plan) (waits : ℕ) {e : Event}
    → EventLaw n T i j (with_plans s running waiting waits) store e → EventLaw n T i j s store e
other_plans running waiting waits l =
    let b = l.ledger in
    record {
      ledger = record { cells = b.cells; empties = b.empties; share = b.share; edges = b.edges };
      room = l.room;
      crossing = l.crossing;
      queue = l.queue;
    }

module _ {s : Switch} {store : List ℕ} (ok : Sound s store) (valid : valid_of s ≡ true) where
  accepted_own : step_verdict s (length store) ≡ Ok tt
  unfolding step_verdict store_fits
  accepted_own = simp (valid, eq-eqb (length store) _ ok.store_size, has_room_lem (takeover_sound ok).0)

  refused_other : (l : List ℕ) → OtherLength l store → step_verdict s (length l) ≡ Ok tt → ⊥
  unfolding step_verdict store_fits
  refused_other l ne e =
      let n = s.running.ports in
      let first = refuse_passed (not (valid_of s)) _ _ e in
      let second = refuse_passed (not (eqb (length l) (n * n * s.depth))) _ _ first.1 in
      ne (eqb-true (length l) (n * n * s.depth) (not-false _ second.0) ∙ sym ok.store_size)

  own_event : answered s store (step own) ≡ slot_event own (takeover_of s) store
  unfolding step_of
  own_event = rw accepted_own refl

  pub step_own_keeps : Sound (state_after (answered s store (step own))) store
  step_own_keeps = rw own_event (slot_sound (takeover_sound ok).0)

  pub step_other_keeps : (l : List ℕ) → OtherLength l store → Sound (state_after (answered s store (step (other l)))) store
  unfolding step_of
  step_other_keeps l ne = go (step_verdict s (length l)) refl
    where
      go : (v : Verdict) → step_verdict s (length l) ≡ v → Sound (state_after (answered s store (step (other l)))) store
      go (Ok tt) e = absurd (refused_other l ne e)
      go (Err r) e = rw e ok

  module _ (i j : ℕ) (hi : i < s.running.ports) (hj : j < s.running.ports) where
    abbrev Law : Event → Type 0
    Law e = EventLaw s.running.ports s.running.frame i j s store e

    abbrev ruling : Switch
    ruling = with_plans s (replaced s.running s.waiting) (cleared s.waiting) 0

    -- with the plan that rules the slot
    ruled : Law (slot_event own (takeover_of s) store)
    ruled = go (takes_over s) refl
      where
        go : (b : Bool) → takes_over s ≡ b → Law (slot_event own (takeover_of s) store)
        go true h =
            let ok_now : Sound ruling store = subst (λ (u : Switch). Sound u store) (taken s h) (takeover_sound ok).0 in
            let same : OtherPlan s ruling = subst (OtherPlan s) (taken s h) (takeover_sound ok).1 in
            rw (taken s h)
            (subst₂ (λ (n T : ℕ). EventLaw n T i j s store (slot_event own ruling store)) same.ports same.frame
            (other_plans (replaced s.running s.waiting) (cleared s.waiting) 0
            (slot_law ok_now own i j (omega (arith, same.ports)) (omega (arith, same.ports)))))
        go false h = rw (not_taken s h) (slot_law ok own i j hi hj)

    pub step_own_law : Law (answered s store (step own))
    step_own_law = rw own_event ruled

    pub step_other_law : (l : List ℕ) → OtherLength l store → Law (answered s store (step (other l)))
    unfolding step_of
    step_other_law l ne = go (step_verdict s (length l)) refl
      where
        go : (v : Verdict) → step_verdict s (length l) ≡ v → Law (answered s store (step (other l)))
        go (Ok tt) e = absurd (refused_other l ne e)
        go (Err r) e = rw e (refused_law ok i j hi hj _ refl refl (refused_step i j (other l) r s))
