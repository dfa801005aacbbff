-- In a run in which no load is accepted the plan of its start runs throughout, so all that a head answers is one record.
use Prim.Native.Nat.{ℕ}
use mathlib.Core.Path.{◌≡◌, refl, ap, sym, subst, ◌∙◌}
use mathlib.Core.List.{List, [], ◌∷◌, ◌++◌, append_assoc, append-nil}
use native.Mathlib.Decide.{ℕ_discrete}
use native.Mathlib.Omega.{arith}
use Rattle.refusal.specs.Verdict.{Verdict}
use Rattle.std.specs.Prelude.{Ok, Err}
use Rattle.refusal.proofs.ChainLaws.{refused_not_accepted}
use Rattle.planpair.specs.Rates.{plan_rates}
use Rattle.crossbar.specs.Start.{fresh_with}
use Rattle.crossbar.specs.declared.state.Switch.{Switch}
use Rattle.crossbar.proofs.StartLaws.{started_rates}
use Rattle.runs.specs.Event.{Event, state_after}
use Rattle.runs.specs.Event.Event.{stepped, arrived, loaded}
use Rattle.runs.specs.Run.{Run, final_state}
use Rattle.runs.specs.Plans.{accepted_after, last_accepted, BeginsFrame, PutsInWaiting}
use Rattle.runs.proofs.RunLaws.{final_state_append}
use Rattle.runs.proofs.Theorem.{start_facts, begins}
use Rattle.runs.proofs.PlanTheorem.{plans_of_every_run}
use Rattle.headrecords.specs.HeadRecord.{RunsIn, OnePlan, NoLoad, UndisturbedPromise}
use Rattle.headrecords.proofs.Theorem.{records_of_every_run}

none_before : (before rest : List Event) → NoLoad (before ++ rest) → NoLoad before × NoLoad rest
none_before [] rest none = (tt, none)
none_before (e ∷ es) rest none = let more = none_before es rest none.1 in ((none.0, more.0), more.1)

-- the plan accepted last is the first one
kept_one : (rates : List ℕ) (e : Event) → (PutsInWaiting e → ⊥) → accepted_after rates e ≡ rates
kept_one rates (stepped lent r) none = refl
kept_one rates (arrived lent i j cell r left) none = refl
kept_one rates (loaded n t new r) none = go r.verdict refl
  where
    go : (v : Verdict) → r.verdict ≡ v → accepted_after rates (loaded n t new r) ≡ rates
    go (Ok _) e = absurd (none e)
    go (Err why) e = rw e refl

kept : (rates : List ℕ) (es : List Event) → NoLoad es → last_accepted rates es ≡ rates
kept rates [] none = refl
kept rates (e ∷ es) none = ap (λ (l : List ℕ). last_accepted l es) (kept_one rates e none.0) ∙ kept rates es none.1

-- an event begins a frame, or does not
begins_or_not : (s : Switch) (e : Event) → Dec (BeginsFrame s e)
begins_or_not s (arrived lent i j cell r left) = no (λ b. b)
begins_or_not s (loaded n t rates r) = no (λ b. b)
begins_or_not s (stepped lent r) = go r.verdict refl (ℕ_discrete s.slot 0)
  where
    go : (v : Verdict) → r.verdict ≡ v → Dec (s.slot ≡ 0) → Dec (BeginsFrame s (stepped lent r))
    go (Ok _) e (yes z) = yes (e, z)
    go (Ok _) e (no ne) = no (λ b. ne b.1)
    go (Err why) e d = no (λ b. refused_not_accepted why (sym e ∙ b.0))

module _ (run : Run) (none : NoLoad run.events) where
  abbrev s₀ : Switch
  s₀ = run.reply.state

  first_runs : plan_rates s₀.running ≡ run.rates
  unfolding fresh_with
  first_runs = subst (λ (s : Switch). plan_rates s.running ≡ run.rates) (sym (begins run)) (started_rates run.ports run.frame run.rates (start_facts run).plan)

  -- after each event it still runs
  still_runs : (before : List Event) (e : Event) (after : List Event) → run.events ≡ before ++ (e ∷ after)
      → plan_rates (final_state s₀ before).running ≡ run.rates → plan_rates (state_after e).running ≡ run.rates
  still_runs before e after cut runs = go (begins_or_not (final_state s₀ before) e)
    where
      go : Dec (BeginsFrame (final_state s₀ before) e) → plan_rates (state_after e).running ≡ run.rates
      go (yes b) =
          (plans_of_every_run run).last_takes_over before e after cut b
          ∙ kept run.rates before (none_before before (e ∷ after) (subst NoLoad cut none)).0
      go (no ne) = ap plan_rates ((plans_of_every_run run).stays before e after cut ne) ∙ runs

  -- a step hands the state back with the plan that ran
  runs_in : (e : Event) → plan_rates (state_after e).running ≡ run.rates → RunsIn run.rates e
  runs_in (stepped lent r) is = λ _. is
  runs_in (arrived lent i j cell r left) is = tt
  runs_in (loaded n t rates r) is = tt

  one_plan : (before rest : List Event) → run.events ≡ before ++ rest → plan_rates (final_state s₀ before).running ≡ run.rates → OnePlan run.rates rest
  one_plan before [] cut runs = tt
  one_plan before (e ∷ es) cut runs =
      let after = still_runs before e es cut runs in
      let there : plan_rates (final_state s₀ (before ++ (e ∷ []))).running ≡ run.rates =
      ap (λ (s : Switch). plan_rates s.running) (final_state_append s₀ before (e ∷ [])) ∙ after in
      (runs_in e after, one_plan (before ++ (e ∷ [])) es (cut ∙ sym (append_assoc before (e ∷ []) es)) there)

  starts_a_frame : s₀.slot ≡ 0
  unfolding fresh_with
  starts_a_frame = ap (λ (s : Switch). s.slot) (begins run)

pub undisturbed_runs : (run : Run) → UndisturbedPromise run
undisturbed_runs run none j hj =
    records_of_every_run run [] run.events [] (sym (append-nil run.events)) (omega (arith, starts_a_frame run none)) run.rates
    (one_plan run none [] run.events refl (first_runs run none))
    j hj
