-- A load keeps the switch sound, and touches no flow.
use Prim.Native.Nat.{ℕ, ◌*◌, ◌<◌}
use mathlib.Core.Path.{◌≡◌, refl, sym, ◌∙◌}
use mathlib.Core.List.{List}
use native.Mathlib.Omega.{arith}
use Rattle.refusal.specs.Verdict.{Verdict}
use Rattle.std.specs.Prelude.{Ok, Err}
use Rattle.plan.specs.declared.Plan.{Plan}
use Rattle.plan.proofs.LineLaws.{square_small}
use Rattle.planpair.specs.Rates.{overlaid}
use Rattle.crossbar.specs.Load.{with_plans, load_verdict, load_of, CanLoad}
use Rattle.crossbar.proofs.LoadLaws.{can_load}
use Rattle.crossbar.specs.declared.state.Switch.{Switch}
use Rattle.planpair.proofs.RateLaws.{overlaid_length, take_overlaid}
use Rattle.runs.specs.Event.{Event, state_after, store_after}
use Rattle.runs.specs.Event.Call.{load}
use Rattle.runs.specs.Run.{answered}
use Rattle.runs.proofs.SoundLaws.{Sound, PlanIn}
use Rattle.runs.proofs.FlowPromiseLaws.{EventLaw}
use Rattle.runs.proofs.QuietLaws.{quiet_law, any_load}

module _ {s : Switch} {store : List ℕ} (ok : Sound s store) (n t : ℕ) (rates : List ℕ) where
  abbrev loaded_plan : Plan
  loaded_plan = record { ports = n; frame = t; rates = overlaid s.waiting.rates rates (n * n) }

  plan_in : CanLoad s n t rates → PlanIn s.running.ports s.running.frame loaded_plan
  plan_in l =
      let same = take_overlaid s.waiting.rates rates (n * n) l.plan.square (omega (arith, square_small n l.plan.few_ports, ok.waiting_size)) in
      record { ports = l.ports; frame = l.frame; plan = rw (same, sym l.ports, sym l.frame) l.plan }

  pub sound_load : CanLoad s n t rates → Sound (with_plans s s.running loaded_plan 1) store
  sound_load l =
      record {
        plan = ok.plan;
        waiting = λ _. plan_in l;
        some_depth = ok.some_depth;
        few_cells = ok.few_cells;
        in_frame = ok.in_frame;
        running_size = ok.running_size;
        waiting_size = overlaid_length s.waiting.rates rates (n * n) ∙ ok.waiting_size;
        queues_size = ok.queues_size;
        points_size = ok.points_size;
        boards_size = ok.boards_size;
        heads_size = ok.heads_size;
        store_size = ok.store_size;
        place = ok.place;
        queued = ok.queued;
        two_places = ok.two_places;
        boards = ok.boards;
        heads = ok.heads;
        balanced = ok.balanced;
      }

  abbrev Kept : Event → Type 0
  Kept e = Sound (state_after e) (store_after store e)

  pub load_keeps : Kept (answered s store (load n t rates))
  unfolding load_of
  load_keeps = go (load_verdict s n t rates) refl
    where
      go : (v : Verdict) → load_verdict s n t rates ≡ v → Kept (answered s store (load n t rates))
      go (Ok _) e = rw e (sound_load (can_load s n t rates e))
      go (Err r) e = rw e ok

  module _ (i j : ℕ) (hi : i < s.running.ports) (hj : j < s.running.ports) where
    abbrev Law : Event → Type 0
    Law e = EventLaw s.running.ports s.running.frame i j s store e

    pub load_law : Law (answered s store (load n t rates))
    unfolding load_of
    load_law = go (load_verdict s n t rates) refl
      where
        go : (v : Verdict) → load_verdict s n t rates ≡ v → Law (answered s store (load n t rates))
        go (Ok _) e = rw e (quiet_law ok i j hi hj _ s.running loaded_plan 1 refl refl (any_load i j n t rates _))
        go (Err r) e = rw e (quiet_law ok i j hi hj _ s.running s.waiting s.waits refl refl (any_load i j n t rates _))
