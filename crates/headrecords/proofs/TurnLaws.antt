-- What one event of a run does to the record of one head: a slot adds the head's choice, and all else leaves the head as it is.
use Prim.Native.Nat.{ℕ, ◌<◌}
use mathlib.Core.Path.{◌≡◌, refl, ap, sym, subst, ◌∙◌}
use mathlib.Core.Bool.{Bool, true, false}
use mathlib.Core.List.{List, [], ◌∷◌}
use native.Mathlib.Omega.{arith}
use lib.ListN.{length, get_or}
use Rattle.refusal.specs.Verdict.{Verdict}
use Rattle.std.specs.Prelude.{Ok, Err}
use Rattle.planpair.specs.Rates.{plan_rates}
use Rattle.multiplexer.specs.Serve.{serve_of}
use Rattle.multiplexer.specs.Window.{column_of}
use Rattle.multiplexer.specs.declared.Multiplexer.{Multiplexer}
use Rattle.meter.specs.Record.{entry_of, next_slot}
use Rattle.side.specs.Choices.{no_multiplexer}
use Rattle.fabric.specs.declared.Fabric.{Fabric}
use Rattle.crossbar.specs.Arrive.{arrive_verdict, arrive_of}
use Rattle.crossbar.specs.Load.{load_verdict, load_of}
use Rattle.crossbar.specs.Takeover.{takes_over, takeover_of}
use Rattle.crossbar.specs.Step.{slot_reply, after_slot, step_verdict, step_of}
use Rattle.crossbar.specs.declared.state.Switch.{Switch}
use Rattle.crossbar.proofs.TakeoverLaws.{taken, not_taken}
use Rattle.runs.specs.Event.{Lent, Call, Event, call_of, state_after}
use Rattle.runs.specs.Event.Lent.{own, other}
use Rattle.runs.specs.Event.Call.{step, arrive, load}
use Rattle.runs.specs.Event.Event.{stepped, arrived, loaded}
use Rattle.runs.specs.Run.{Happens, answered}
use Rattle.runs.specs.Flow.{slots_in}
use Rattle.runs.proofs.RunLaws.{happens_answered}
use Rattle.runs.proofs.SoundLaws.{Sound}
use Rattle.runs.proofs.TakeoverLaws.{takeover_sound}
use Rattle.headrecords.specs.HeadRecord.{entries_in, RunsIn}
use Rattle.headrecords.proofs.HeadLaws.{head_at, head_answers, head_after_lem, slot_after}

-- an event, for head j that has the rates rs of T slots and comes to slot t with the counts of m
pub data Turn (rs : List ℕ) (T j : ℕ) (m : Multiplexer) (t : ℕ) (e : Event) : Type 0 where
  quiet : entries_in j e ≡ [] → slots_in e ≡ 0 → head_at (state_after e) j ≡ m → (state_after e).slot ≡ t → Turn rs T j m t e
  slot : entries_in j e ≡ entry_of (serve_of m rs T t).choice ∷ [] → slots_in e ≡ 1
      → head_at (state_after e) j ≡ (serve_of m rs T t).port → (state_after e).slot ≡ next_slot T t
      → Turn rs T j m t e

turn_as : {rs rs' : List ℕ} {T T' j : ℕ} {m m' : Multiplexer} {t t' : ℕ} {e : Event}
    → rs ≡ rs' → T ≡ T' → m ≡ m' → t ≡ t' → Turn rs T j m t e → Turn rs' T' j m' t' e
turn_as a b c d turn = rw (sym a, sym b, sym c, sym d) turn

-- an accepted step of a state that no plan takes over any more
slot_turn : {u : Switch} {store : List ℕ} → Sound u store → (lent : Lent) (list : List ℕ) (j : ℕ) → j < u.running.ports
    → Turn (column_of (plan_rates u.running) u.running.ports j) u.running.frame j (head_at u j) u.slot (stepped lent (slot_reply u list))
slot_turn ok lent list j hj =
    slot (ap (λ (x : ℕ). x ∷ []) (head_answers ok list j hj)) refl (head_after_lem ok list j hj) (slot_after ok list j hj)

-- a takeover leaves the slot and the heads
takeover_leaves : (s : Switch) → ((takeover_of s).slot ≡ s.slot) × ((takeover_of s).fabric ≡ s.fabric)
takeover_leaves s = go (takes_over s) refl
  where
    go : (b : Bool) → takes_over s ≡ b → ((takeover_of s).slot ≡ s.slot) × ((takeover_of s).fabric ≡ s.fabric)
    go true e = rw (taken s e) (refl, refl)
    go false e = rw (not_taken s e) (refl, refl)

module _ {s : Switch} {store : List ℕ} (ok : Sound s store) (rates : List ℕ) (j : ℕ) (hj : j < s.running.ports) where
  abbrev Here : Event → Type 0
  Here e = Turn (column_of rates s.running.ports j) s.running.frame j (head_at s j) s.slot e

  -- an accepted step, by the plan that rules it
  ruled_turn : (lent : Lent) (list : List ℕ) → plan_rates (takeover_of s).running ≡ rates → Here (stepped lent (slot_reply (takeover_of s) list))
  ruled_turn lent list is =
      let u = takeover_of s in
      let same = (takeover_sound ok).1 in
      let left = takeover_leaves s in
      turn_as (ap (λ (l : List ℕ). column_of l u.running.ports j) is ∙ ap (λ (n : ℕ). column_of rates n j) same.ports) same.frame
      (ap (λ (f : Fabric). get_or f.heads j no_multiplexer) left.1) left.0
      (slot_turn (takeover_sound ok).0 lent list j (omega (arith, same.ports)))

  step_turn : (lent : Lent) (list : List ℕ) → RunsIn rates (stepped lent (step_of s list)) → Here (stepped lent (step_of s list))
  unfolding step_of after_slot
  step_turn lent list runs = go (step_verdict s (length list)) refl runs
    where
      go : (v : Verdict) → step_verdict s (length list) ≡ v → RunsIn rates (stepped lent (step_of s list)) → Here (stepped lent (step_of s list))
      go (Ok _) e runs = rw e (ruled_turn lent list (rw e at (runs e)))
      go (Err r) e runs = rw e (quiet refl refl refl refl)

  arrive_turn : (lent : Lent) (list : List ℕ) (p q cell : ℕ) → let a = arrive_of s list p q cell in Here (arrived lent p q cell a.reply a.store)
  unfolding arrive_of
  arrive_turn lent list p q cell = go (arrive_verdict s (length list) p q) refl
    where
      go : (v : Verdict) → arrive_verdict s (length list) p q ≡ v → let a = arrive_of s list p q cell in Here (arrived lent p q cell a.reply a.store)
      go (Ok _) e = quiet refl refl (rw e refl) (rw e refl)
      go (Err r) e = quiet refl refl (rw e refl) (rw e refl)

  load_turn : (n t : ℕ) (new : List ℕ) → Here (loaded n t new (load_of s n t new))
  unfolding load_of
  load_turn n t new = go (load_verdict s n t new) refl
    where
      go : (v : Verdict) → load_verdict s n t new ≡ v → Here (loaded n t new (load_of s n t new))
      go (Ok _) e = quiet refl refl (rw e refl) (rw e refl)
      go (Err r) e = quiet refl refl (rw e refl) (rw e refl)

  call_turn : (c : Call) → RunsIn rates (answered s store c) → Here (answered s store c)
  call_turn (step own) runs = step_turn own store runs
  call_turn (step (other l)) runs = step_turn (other l) l runs
  call_turn (arrive own p q cell) runs = arrive_turn own store p q cell
  call_turn (arrive (other l) p q cell) runs = arrive_turn (other l) l p q cell
  call_turn (load n t new) runs = load_turn n t new

  pub event_turn : (e : Event) → Happens s store e → RunsIn rates e → Here e
  event_turn e h runs =
      let is = happens_answered s store e h in
      subst Here (sym is) (call_turn (call_of e) (subst (RunsIn rates) is runs))
