-- A plan that waits is not seen: until it takes over, every call answers as it would without it.
use Prim.Native.Nat.{ℕ}
use mathlib.Core.Path.{◌≡◌, refl, ap, sym, subst, subst₂, ◌∙◌}
use mathlib.Core.Bool.{false}
use mathlib.Core.List.{List, [], ◌∷◌, map}
use lib.ListN.{length}
use borrow.Author.Tests.{ne_eqb}
use Rattle.refusal.specs.Verdict.{Verdict}
use Rattle.std.specs.Prelude.{Ok, Err}
use Rattle.crossbar.specs.Arrive.{Arrival, arrive_verdict, arrive_of}
use Rattle.crossbar.specs.Load.{with_waiting, load_verdict, CanLoad, load_of}
use Rattle.crossbar.specs.Takeover.{takes_over}
use Rattle.crossbar.specs.Step.{board_choices, head_choices, after_slot, step_verdict, step_of}
use Rattle.crossbar.specs.declared.state.Switch.{Switch}
use Rattle.crossbar.specs.declared.state.Reply.{Reply}
use Rattle.crossbar.specs.declared.state.SlotReply.{SlotReply}
use Rattle.crossbar.proofs.TakeoverLaws.{not_taken}
use Rattle.runs.specs.Event.{Call, Event, call_of, state_after, store_after}
use Rattle.runs.specs.Event.Lent.{own, other}
use Rattle.runs.specs.Event.Call.{step, arrive, load}
use Rattle.runs.specs.Event.Event.{stepped, arrived, loaded}
use Rattle.runs.specs.Run.{Happens, Follow, final_state, final_store, answered, defined_run, calls_of}
use Rattle.runs.specs.Plans.{BeginsFrame, PutsInWaiting, StillWaits, while_waiting}
use Rattle.runs.proofs.RunLaws.{happens_answered}
use Rattle.runs.proofs.SoundLaws.{Sound}
use Rattle.runs.proofs.ValidityLaws.{sound_valid}
use Rattle.runs.proofs.LoadLaws.{sound_load}
use Rattle.runs.proofs.StepLaws.{has_room_lem}
use Rattle.runs.proofs.TakeoverLaws.{takeover_sound}
use Rattle.runs.proofs.CallLaws.{call_keeps, allowed}

module _ (n t : ℕ) (rates : List ℕ) where
  -- the state with the plan in waiting
  abbrev with : Switch → Switch
  with s = with_waiting s n t rates

  abbrev reply_with : Reply → Reply
  reply_with r = record { verdict = r.verdict; state = with r.state }

  abbrev slot_with : SlotReply → SlotReply
  slot_with r = record { verdict = r.verdict; state = with r.state; moves = r.moves; sends = r.sends }

  -- One call.
  module _ {s : Switch} {store : List ℕ} (ok : Sound s store) (can : CanLoad s n t rates) where
    sound_with : Sound (with s) store
    sound_with = sound_load ok n t rates can

    arrive_verdict_lem : (len i j : ℕ) → arrive_verdict (with s) len i j ≡ arrive_verdict s len i j
    unfolding arrive_verdict
    arrive_verdict_lem len i j = rw (sound_valid ok, sound_valid sound_with) refl

    arrive_with : (lent : List ℕ) (i j cell : ℕ) → let a = arrive_of s lent i j cell in
        arrive_of (with s) lent i j cell ≡ record { reply = reply_with a.reply; store = a.store }
    unfolding arrive_of
    arrive_with lent i j cell = go (arrive_verdict s (length lent) i j) refl
      where
        go : (v : Verdict) → arrive_verdict s (length lent) i j ≡ v → let a = arrive_of s lent i j cell in
            arrive_of (with s) lent i j cell ≡ record { reply = reply_with a.reply; store = a.store }
        go (Ok _) e = rw (arrive_verdict_lem (length lent) i j, e) refl
        go (Err r) e = rw (arrive_verdict_lem (length lent) i j, e) refl

    load_verdict_lem : (m u : ℕ) (new : List ℕ) → load_verdict (with s) m u new ≡ load_verdict s m u new
    unfolding load_verdict
    load_verdict_lem m u new = rw (sound_valid ok, sound_valid sound_with) refl

    load_with : (m u : ℕ) (new : List ℕ) → ((load_of (with s) m u new).verdict ≡ Ok tt → ⊥) → load_of (with s) m u new ≡ reply_with (load_of s m u new)
    unfolding load_of
    load_with m u new h = go (load_verdict s m u new) refl
      where
        go : (v : Verdict) → load_verdict s m u new ≡ v → load_of (with s) m u new ≡ reply_with (load_of s m u new)
        go (Ok _) e = absurd (h (load_verdict_lem m u new ∙ e))
        go (Err r) e = rw (load_verdict_lem m u new, e) refl

    step_verdict_lem : (len : ℕ) → step_verdict (with s) len ≡ step_verdict s len
    unfolding step_verdict
    step_verdict_lem len = rw (sound_valid ok, sound_valid sound_with, has_room_lem (takeover_sound ok).0, has_room_lem (takeover_sound sound_with).0) refl

    step_with : (lent : List ℕ) → ((step_of (with s) lent).verdict ≡ Ok tt → s.slot ≡ 0 → ⊥) → step_of (with s) lent ≡ slot_with (step_of s lent)
    unfolding step_of after_slot board_choices head_choices
    step_with lent h = go (step_verdict s (length lent)) refl
      where
        go : (v : Verdict) → step_verdict s (length lent) ≡ v → step_of (with s) lent ≡ slot_with (step_of s lent)
        go (Ok _) e =
            let same = step_verdict_lem (length lent) in
            let later = ne_eqb s.slot 0 (h (same ∙ e)) in
            let mine : takes_over s ≡ false = rw later refl in
            let its : takes_over (with s) ≡ false = rw later refl in
            rw (same, e, not_taken s mine, not_taken (with s) its) refl
        go (Err r) e = rw (step_verdict_lem (length lent), e) refl

    call_with : (c : Call) → (BeginsFrame (with s) (answered (with s) store c) → ⊥) → (PutsInWaiting (answered (with s) store c) → ⊥)
        → answered (with s) store c ≡ while_waiting n t rates (answered s store c)
    call_with (step own) b p = ap (stepped own) (step_with store (λ e z. b (e, z)))
    call_with (step (other l)) b p = ap (stepped (other l)) (step_with l (λ e z. b (e, z)))
    call_with (arrive own i j cell) b p = ap (λ (a : Arrival). arrived own i j cell a.reply a.store) (arrive_with store i j cell)
    call_with (arrive (other l) i j cell) b p = ap (λ (a : Arrival). arrived (other l) i j cell a.reply a.store) (arrive_with l i j cell)
    call_with (load m u new) b p = ap (loaded m u new) (load_with m u new p)

  state_with : (e : Event) → state_after (while_waiting n t rates e) ≡ with (state_after e)
  state_with (stepped lent r) = refl
  state_with (arrived lent i j cell r left) = refl
  state_with (loaded m u new r) = refl

  store_with : (store : List ℕ) (e : Event) → store_after store (while_waiting n t rates e) ≡ store_after store e
  store_with store (stepped lent r) = refl
  store_with store (arrived own i j cell r left) = refl
  store_with store (arrived (other l) i j cell r left) = refl
  store_with store (loaded m u new r) = refl

  -- an event in the state with the plan in waiting, and the same call's without it
  record Beside (s : Switch) (store : List ℕ) (e without : Event) : Type 0 where
    same : e ≡ while_waiting n t rates without
    state : state_after e ≡ with (state_after without)
    left : store_after store e ≡ store_after store without
    sound : Sound (state_after without) (store_after store without)
    can : CanLoad (state_after without) n t rates

  beside : {s : Switch} {store : List ℕ} → Sound s store → CanLoad s n t rates → (e : Event) → Happens (with s) store e → (BeginsFrame (with s) e → ⊥)
      → (PutsInWaiting e → ⊥) → Beside s store e (answered s store (call_of e))
  beside {s} {store} ok can e h b p =
      let without = answered s store (call_of e) in
      let is = happens_answered (with s) store e h in
      let same : e ≡ while_waiting n t rates without = is ∙ call_with ok can (call_of e) (subst (λ (x : Event). BeginsFrame (with s) x → ⊥) is b) (subst (λ (x : Event). PutsInWaiting x → ⊥) is p) in
      let kept = call_keeps s store ok (call_of e) (allowed (with s) store e h) in
      record {
        same = same;
        state = ap state_after same ∙ state_with without;
        left = ap (store_after store) same ∙ store_with store without;
        sound = kept.sound;
        can = record { valid = sound_valid kept.sound; plan = can.plan; ports = can.ports ∙ sym kept.ports; frame = can.frame ∙ sym kept.frame };
      }

  -- What a list of calls comes to while the plan waits.
  pub record Unseen (s : Switch) (store : List ℕ) (es : List Event) : Type 0 where
    pub events : es ≡ map (while_waiting n t rates) (defined_run s store (calls_of es))
    pub state : final_state (with s) es ≡ with (final_state s (defined_run s store (calls_of es)))
    pub left : final_store store es ≡ final_store store (defined_run s store (calls_of es))
    pub can : CanLoad (final_state s (defined_run s store (calls_of es))) n t rates

  pub unseen : (s : Switch) (store : List ℕ) (es : List Event) → Sound s store → CanLoad s n t rates → Follow (with s) store es → StillWaits (with s) es → Unseen s store es
  unfolding defined_run calls_of
  unseen s store [] ok can h w = record { events = refl; state = refl; left = refl; can = can }
  unseen s store (e ∷ es) ok can h w =
      let one = beside ok can e h.0 w.0 w.1 in
      let without = answered s store (call_of e) in
      let follow = subst₂ (λ (u : Switch) (l : List ℕ). Follow u l es) one.state one.left h.1 in
      let rest = unseen (state_after without) (store_after store without) es one.sound one.can follow (subst (λ (u : Switch). StillWaits u es) one.state w.2) in
      record {
        events = rw (← one.same) (ap (λ (l : List Event). e ∷ l) rest.events);
        state = ap (λ (u : Switch). final_state u es) one.state ∙ rest.state;
        left = ap (λ (l : List ℕ). final_store l es) one.left ∙ rest.left;
        can = rest.can;
      }
