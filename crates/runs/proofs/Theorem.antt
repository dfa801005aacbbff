-- Every run has the promise.
use Prim.Native.Nat.{ℕ, ◌+◌, ◌<◌, ◌≤◌}
use mathlib.Core.Path.{◌≡◌, refl, ap, sym, subst, subst₂, ◌∙◌}
use mathlib.Core.List.{List, [], ◌∷◌, ◌++◌}
use native.Mathlib.Omega.{arith}
use lib.ListN.{length, take}
use Rattle.refusal.specs.Chain.{if_accepted}
use Rattle.refusal.specs.Verdict.{Verdict}
use Rattle.std.specs.Prelude.{Ok}
use Rattle.plan.specs.Lines.{flow_of}
use Rattle.plan.specs.Below.{list_below}
use Rattle.crossbar.specs.State.{queue_at, point_at}
use Rattle.plan.specs.NoPlan.{no_plan}
use Rattle.crossbar.specs.Start.{empty_point, empty_queue, fresh_with, plan_of, start_verdict, start_of, CanStart}
use Rattle.fabric.specs.declared.flow.Crosspoint.{Crosspoint}
use Rattle.fabric.specs.declared.flow.Queue.{Queue}
use Rattle.crossbar.specs.declared.state.Reply.{Reply}
use Rattle.crossbar.specs.declared.state.Switch.{Switch}
use Rattle.crossbar.proofs.StartLaws.{can_start}
use Rattle.runs.specs.Event.{Event, state_after, store_after}
use Rattle.runs.specs.Run.{Run, Happens, Follow, final_state, final_store, defined_run, calls_of}
use Rattle.runs.specs.Flow.{accepted, moved, left, slots, board_empty_in, NeverEmpty, HasRate, share_up, share_down}
use Rattle.runs.specs.Promise.{point_cells, queue_cells, FlowPromise, Promise}
use Rattle.runs.proofs.RunLaws.{total_append, follow_defined, follow_append}
use Rattle.runs.proofs.SoundLaws.{Sound, ahead_between, two_between}
use Rattle.runs.proofs.StartLaws.{sound_start, point_is, queue_is}
use Rattle.runs.proofs.CallLaws.{Keeps, event_keeps}
use Rattle.runs.proofs.FlowPromiseLaws.{EventLaw, FlowState, holds_between, holds_midway, crossing_run, queue_run, at_most, at_least}

module _ (run : Run) where
  abbrev n : ℕ
  n = run.ports

  abbrev T : ℕ
  T = run.frame

  abbrev s₀ : Switch
  s₀ = run.reply.state

  verdict_is : start_verdict n T run.rates run.depth (length run.store) ≡ Ok tt
  unfolding start_of
  verdict_is = sym (ap (λ (r : Reply). r.verdict) run.starts) ∙ run.accepted

  pub start_facts : CanStart n T run.rates run.depth (length run.store)
  start_facts = can_start n T run.rates run.depth (length run.store) verdict_is

  pub begins : s₀ ≡ fresh_with (plan_of n T run.rates) run.depth
  unfolding start_of
  begins = ap (λ (r : Reply). r.state) run.starts
      ∙ ap (λ (v : Verdict). if_accepted v (fresh_with (plan_of n T run.rates) run.depth) (fresh_with no_plan 0)) verdict_is

  -- what is known between two calls: the switch is sound, and N and T are those of the start
  pub record Known (s : Switch) (store : List ℕ) : Type 0 where
    pub sound : Sound s store
    pub ports : s.running.ports ≡ run.ports
    pub frame : s.running.frame ≡ run.frame

  pub known_start : Known s₀ run.store
  unfolding fresh_with
  known_start =
      subst (λ (s : Switch). Known s run.store) (sym begins)
      (record { sound = sound_start n T run.rates run.depth run.store start_facts; ports = refl; frame = refl })

  keeps : (s : Switch) (store : List ℕ) (e : Event) → Known s store → Happens s store e → Known (state_after e) (store_after store e)
  keeps s store e k h =
      let r = event_keeps s store e k.sound h in
      record { sound = r.sound; ports = r.ports ∙ k.ports; frame = r.frame ∙ k.frame }

  pub known_run : (s : Switch) (store : List ℕ) (es : List Event) → Known s store → Follow s store es → Known (final_state s es) (final_store store es)
  known_run s store [] k h = k
  known_run s store (e ∷ es) k h = known_run (state_after e) (store_after store e) es (keeps s store e k h.0) h.1

  -- each event of the run happens in a state that is known
  module _ (before : List Event) (e : Event) (after : List Event) (cut : run.events ≡ before ++ (e ∷ after)) where
    event_there : Keeps (final_state s₀ before) (final_store run.store before) e
    event_there =
        let f = follow_append s₀ run.store before (e ∷ after) (subst (Follow s₀ run.store) cut run.follow) in
        let k = known_run s₀ run.store before known_start f.0 in
        event_keeps _ _ e k.sound f.1.0

  module _ (i j : ℕ) (hi : i < n) (hj : j < n) where
    knows : (s : Switch) (store : List ℕ) → Known s store → FlowState n T i j s
    knows s store k =
        let hi' : i < s.running.ports = omega (arith, k.ports) in
        let hj' : j < s.running.ports = omega (arith, k.ports) in
        subst (λ (m : ℕ). FlowState m T i j s) k.ports
        (record {
          balanced = k.sound.balanced i j hi' hj';
          board_ahead = ahead_between k.sound i j hi' hj';
          room = two_between k.sound i j hi' hj';
        })

    law : (s : Switch) (store : List ℕ) (e : Event) → Known s store → Happens s store e → EventLaw n T i j s store e
    law s store e k h =
        subst₂ (λ (m t : ℕ). EventLaw m t i j s store e) k.ports k.frame
        ((event_keeps s store e k.sound h).flows i j (omega (arith, k.ports)) (omega (arith, k.ports)))

    -- the flow at the start
    no_cell : point_at s₀ (flow_of n i j) ≡ empty_point
    no_cell = subst (λ (s : Switch). point_at s (flow_of n i j) ≡ empty_point) (sym begins) (point_is n T run.rates run.depth run.store start_facts i j hi hj)

    no_queue_lem : queue_at s₀ (flow_of n i j) ≡ empty_queue
    no_queue_lem = subst (λ (s : Switch). queue_at s (flow_of n i j) ≡ empty_queue) (sym begins) (queue_is n T run.rates run.depth run.store start_facts i j hi hj)

    some_slot : 1 ≤ T
    some_slot = start_facts.plan.some_slot

    none_held : (point_at s₀ (flow_of n i j)).count ≡ 0
    none_held = ap (λ (x : Crosspoint). x.count) no_cell

    no_point_cells : point_cells s₀ (flow_of n i j) ≡ []
    no_point_cells = ap (λ (x : Crosspoint). take x.count x.cells) no_cell

    no_queue_cells : queue_cells s₀ run.store (flow_of n i j) ≡ []
    unfolding list_below
    no_queue_cells = ap (list_below _) (ap (λ (q : Queue). q.count) no_queue_lem)

    -- Both shares of a stretch, from which the promise's fields follow by arithmetic.
    module _ (before stretch after : List Event) (a : ℕ) (cut : run.events ≡ before ++ (stretch ++ after)) (rate : HasRate i j a stretch) where
      upper : length (left i j stretch) ≤ share_up (slots stretch) a T + 1
      upper = at_most n T i j some_slot Known keeps knows law s₀ run.store known_start none_held run.events run.follow before stretch after a cut rate

      lower : NeverEmpty i j stretch → share_down (slots stretch) a T ≤ length (left i j stretch) + 2
      lower = at_least n T i j some_slot Known keeps knows law s₀ run.store known_start none_held run.events run.follow before stretch after a cut rate

    flow_promise : FlowPromise run i j
    flow_promise =
        record {
          midway = holds_midway n T i j some_slot Known keeps knows law s₀ run.store known_start none_held run.events run.follow;
          between = holds_between n T i j some_slot Known keeps knows law s₀ run.store known_start none_held run.events run.follow;
          crossing =
              subst (λ (l : List ℕ). l ++ moved i j run.events ≡ left i j run.events ++ point_cells (final_state s₀ run.events) (flow_of n i j)) no_point_cells
              (crossing_run n T i j some_slot Known keeps knows law s₀ run.store run.events known_start run.follow);
          queue =
              subst (λ (l : List ℕ). l ++ accepted i j run.events ≡ moved i j run.events ++ queue_cells (final_state s₀ run.events) (final_store run.store run.events) (flow_of n i j)) no_queue_cells
              (queue_run n T i j some_slot Known keeps knows law s₀ run.store run.events known_start run.follow);
          at_most = λ before stretch after a cut rate. omega (arith, upper before stretch after a cut rate);
          at_least = λ before stretch after a cut rate never. omega (arith, lower before stretch after a cut rate never);
          at_least_since_start = λ before stretch after a cut rate never.
              omega (arith, lower before stretch after a cut rate (omega (arith, never, total_append (board_empty_in i j) before stretch)));
          two_short_at_most = λ before stretch after a cut rate never. omega (arith, lower before stretch after a cut rate never);
        }

pub every_run : (run : Run) → Promise run
every_run run =
    record {
      as_defined =
          follow_defined run.reply.state run.store run.events run.follow
          ∙ ap (λ (r : Reply). defined_run r.state run.store (calls_of run.events)) run.starts;
      valid_throughout = λ before e after cut. (event_there run before e after cut).fine.valid;
      never_a_third = λ before e after cut. (event_there run before e after cut).fine.room;
      flows = flow_promise run;
    }
