-- Every run runs the plan accepted last, and never one that was replaced.
use Prim.Native.Nat.{ℕ}
use mathlib.Core.Path.{◌≡◌, refl, ap, sym, subst, ◌∙◌}
use mathlib.Core.List.{List, [], ◌∷◌, ◌++◌}
use Rattle.std.specs.Prelude.{Ok}
use Rattle.planpair.specs.Rates.{plan_rates}
use Rattle.crossbar.specs.Start.{fresh_with}
use Rattle.crossbar.specs.Load.{load_of}
use Rattle.crossbar.specs.declared.state.Switch.{Switch}
use Rattle.crossbar.specs.declared.state.Reply.{Reply}
use Rattle.crossbar.proofs.StartLaws.{started_rates}
use Rattle.crossbar.proofs.LoadLaws.{can_load, loads, load_told, load_state, load_twice}
use Rattle.runs.specs.Event.{Event, call_of, state_after, store_after}
use Rattle.runs.specs.Event.Event.{loaded}
use Rattle.runs.specs.Run.{Run, Happens, Follow, final_state, final_store, answered, defined_run, calls_of}
use Rattle.runs.specs.Plans.{accepted_after, last_accepted, BeginsFrame, StillWaits, NeverRan, PlanPromise}
use Rattle.runs.proofs.RunLaws.{happens_answered, follow_append}
use Rattle.runs.proofs.SoundLaws.{Sound}
use Rattle.runs.proofs.CallLaws.{event_keeps}
use Rattle.runs.proofs.PlanLaws.{standing, call_runs, call_standing, call_stays}
use Rattle.runs.proofs.ReplacedLaws.{unseen}
use Rattle.runs.proofs.Theorem.{start_facts, begins, known_start, known_run}

event_standing : (s : Switch) (store : List ℕ) (e : Event) → Sound s store → Happens s store e → standing (state_after e) ≡ accepted_after (standing s) e
event_standing s store e ok h =
    subst (λ (x : Event). standing (state_after x) ≡ accepted_after (standing s) x) (sym (happens_answered s store e h)) (call_standing ok (call_of e))

-- the state has the plan that the calls so far accepted last
standing_run : (s : Switch) (store : List ℕ) (es : List Event) → Sound s store → Follow s store es → standing (final_state s es) ≡ last_accepted (standing s) es
standing_run s store [] ok h = refl
standing_run s store (e ∷ es) ok h =
    standing_run (state_after e) (store_after store e) es (event_keeps s store e ok h.0).sound h.1
    ∙ ap (λ (rates : List ℕ). last_accepted rates es) (event_standing s store e ok h.0)

module _ (run : Run) where
  abbrev s₀ : Switch
  s₀ = run.reply.state

  standing_start : standing s₀ ≡ run.rates
  unfolding fresh_with
  standing_start = subst (λ (s : Switch). standing s ≡ run.rates) (sym (begins run)) (started_rates run.ports run.frame run.rates (start_facts run).plan)

  -- where the run is cut, the switch is sound and the rest follows
  module _ (before after : List Event) (cut : run.events ≡ before ++ after) where
    abbrev s : Switch
    s = final_state s₀ before

    abbrev store : List ℕ
    store = final_store run.store before

    parts : Follow s₀ run.store before × Follow s store after
    parts = follow_append s₀ run.store before after (subst (Follow s₀ run.store) cut run.follow)

    sound_there : Sound s store
    sound_there = (known_run run s₀ run.store before (known_start run) parts.0).sound

    rest_follows : Follow s store after
    rest_follows = parts.1

    standing_there : standing s ≡ last_accepted run.rates before
    standing_there = standing_run s₀ run.store before (known_start run).sound parts.0 ∙ ap (λ (rates : List ℕ). last_accepted rates before) standing_start

  module _ (before : List Event) (e : Event) (after : List Event) (cut : run.events ≡ before ++ (e ∷ after)) where
    abbrev at : Switch
    at = final_state s₀ before

    is : e ≡ answered at (final_store run.store before) (call_of e)
    is = happens_answered at _ e (rest_follows before (e ∷ after) cut).0

    takes_over_lem : BeginsFrame at e → plan_rates (state_after e).running ≡ last_accepted run.rates before
    takes_over_lem b =
        ap (λ (x : Event). plan_rates (state_after x).running) is
        ∙ call_runs (sound_there before (e ∷ after) cut) (call_of e) (subst (BeginsFrame at) is b)
        ∙ standing_there before (e ∷ after) cut

    stays : (BeginsFrame at e → ⊥) → (state_after e).running ≡ at.running
    stays h = ap (λ (x : Event). (state_after x).running) is ∙ call_stays at _ (call_of e) (λ b. h (subst (BeginsFrame at) (sym is) b))

  module _ (before : List Event) (n t : ℕ) (first : List ℕ) (r : Reply) (between : List Event) (m u : ℕ) (second : List ℕ) (q : Reply) (after : List Event)
      (cut : run.events ≡ before ++ (loaded n t first r ∷ (between ++ (loaded m u second q ∷ after)))) where
    abbrev found : Switch
    found = final_state s₀ before

    abbrev left : List ℕ
    left = final_store run.store before

    -- the state that the second load finds in a run without the first
    abbrev without : Switch
    without = final_state found (defined_run found left (calls_of between))

    rest : Follow found left (loaded n t first r ∷ (between ++ (loaded m u second q ∷ after)))
    rest = rest_follows before (loaded n t first r ∷ (between ++ (loaded m u second q ∷ after))) cut

    parts_between : Follow r.state left between × Follow (final_state r.state between) (final_store left between) (loaded m u second q ∷ after)
    parts_between = follow_append r.state left between (loaded m u second q ∷ after) rest.1

    never_ran : r.verdict ≡ Ok tt → StillWaits r.state between → q.verdict ≡ Ok tt → NeverRan found left n t first between m u second q
    never_ran e still f =
        let accepted = load_told found n t first rest.0 e in
        let can = can_load found n t first accepted in
        let waits = ap (λ (x : Reply). x.state) rest.0 ∙ load_state found n t first accepted in
        let hidden = unseen n t first found left between (sound_there before _ cut) can (subst (λ (x : Switch). Follow x left between) waits parts_between.0) (subst (λ (x : Switch). StillWaits x between) waits still) in
        let first-there = loads without n t first hidden.can in
        let reached = ap (λ (x : Switch). final_state x between) waits ∙ hidden.state ∙ sym (load_state without n t first first-there) in
        let second_there : q ≡ load_of (load_of without n t first).state m u second = parts_between.1.0 ∙ ap (λ (x : Switch). load_of x m u second) reached in
        record {
          same_between = hidden.events;
          same_store = hidden.left;
          same_after = second_there ∙ load_twice without n t m u first second first-there (load_told _ m u second second_there f);
        }

pub plans_of_every_run : (run : Run) → PlanPromise run
plans_of_every_run run = record { last_takes_over = takes_over_lem run; stays = stays run; replaced_never_ran = never_ran run }
