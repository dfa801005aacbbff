-- One call of a run, whichever it is: it keeps the switch sound, gives neither 12 nor 13, and keeps each flow's books.
use Prim.Native.Nat.{ℕ, ◌<◌}
use mathlib.Core.Path.{◌≡◌, refl, sym, subst}
use mathlib.Core.List.{List}
use lib.ListN.{length}
use Rattle.refusal.specs.Verdict.{Verdict}
use Rattle.std.specs.Prelude.{Ok, Err}
use Rattle.crossbar.specs.Arrive.{arrive_verdict, arrive_of}
use Rattle.crossbar.specs.Load.{load_verdict, load_of}
use Rattle.crossbar.specs.Step.{after_slot, step_verdict, step_of}
use Rattle.crossbar.specs.declared.state.Switch.{Switch}
use Rattle.runs.specs.Event.{Call, Event, call_of, state_after, store_after}
use Rattle.runs.specs.Event.Lent.{own, other}
use Rattle.runs.specs.Event.Call.{step, arrive, load}
use Rattle.runs.specs.Event.Event.{stepped, arrived, loaded}
use Rattle.runs.specs.Run.{Happens, answered}
use Rattle.runs.specs.Promise.{verdict_in}
use Rattle.runs.proofs.RunLaws.{Allowed, happens_answered}
use Rattle.runs.proofs.SoundLaws.{Sound}
use Rattle.runs.proofs.ValidityLaws.{sound_valid}
use Rattle.runs.proofs.FlowPromiseLaws.{EventLaw}
use Rattle.runs.proofs.ArriveLaws.{arrive_own_keeps, arrive_other_keeps, arrive_own_law, arrive_other_law}
use Rattle.runs.proofs.LoadLaws.{load_keeps, load_law}
use Rattle.runs.proofs.StepLaws.{has_room_lem}
use Rattle.runs.proofs.StepEventLaws.{step_own_keeps, step_other_keeps, step_own_law, step_other_law}
use Rattle.runs.proofs.TakeoverLaws.{takeover_sound}
use Rattle.runs.proofs.VerdictLaws.{Fine, arrive_fine, load_fine, step_fine}

pub record Keeps (s : Switch) (store : List ℕ) (e : Event) : Type 0 where
  pub sound : Sound (state_after e) (store_after store e)
  pub ports : (state_after e).running.ports ≡ s.running.ports
  pub frame : (state_after e).running.frame ≡ s.running.frame
  pub fine : Fine (verdict_in e)
  pub flows : (i j : ℕ) → i < s.running.ports → j < s.running.ports → EventLaw s.running.ports s.running.frame i j s store e

-- N and T stay
module _ (s : Switch) (store : List ℕ) where
  abbrev SameFrame : Switch → Type 0
  SameFrame u = (u.running.ports ≡ s.running.ports) × (u.running.frame ≡ s.running.frame)

  arrive_same : (lent : List ℕ) (i j cell : ℕ) → SameFrame (arrive_of s lent i j cell).reply.state
  unfolding arrive_of
  arrive_same lent i j cell = go (arrive_verdict s (length lent) i j) refl
    where
      go : (v : Verdict) → arrive_verdict s (length lent) i j ≡ v → SameFrame (arrive_of s lent i j cell).reply.state
      go (Ok _) e = rw e (refl, refl)
      go (Err r) e = rw e (refl, refl)

  load_same : (n t : ℕ) (rates : List ℕ) → SameFrame (load_of s n t rates).state
  unfolding load_of
  load_same n t rates = go (load_verdict s n t rates) refl
    where
      go : (v : Verdict) → load_verdict s n t rates ≡ v → SameFrame (load_of s n t rates).state
      go (Ok _) e = rw e (refl, refl)
      go (Err r) e = rw e (refl, refl)

  step_same : Sound s store → (lent : List ℕ) → SameFrame (step_of s lent).state
  unfolding step_of after_slot
  step_same ok lent = go (step_verdict s (length lent)) refl
    where
      go : (v : Verdict) → step_verdict s (length lent) ≡ v → SameFrame (step_of s lent).state
      go (Ok _) e = rw e ((takeover_sound ok).1.ports, (takeover_sound ok).1.frame)
      go (Err r) e = rw e (refl, refl)

pub call_keeps : (s : Switch) (store : List ℕ) → Sound s store → (c : Call) → Allowed store c → Keeps s store (answered s store c)
unfolding step_of arrive_of load_of
call_keeps s store ok (step own) h =
    record {
      sound = step_own_keeps ok (sound_valid ok);
      ports = (step_same s store ok store).0;
      frame = (step_same s store ok store).1;
      fine = step_fine s (sound_valid ok) (has_room_lem (takeover_sound ok).0) (length store);
      flows = step_own_law ok (sound_valid ok);
    }
call_keeps s store ok (step (other l)) h =
    record {
      sound = step_other_keeps ok (sound_valid ok) l h;
      ports = (step_same s store ok l).0;
      frame = (step_same s store ok l).1;
      fine = step_fine s (sound_valid ok) (has_room_lem (takeover_sound ok).0) (length l);
      flows = λ i j hi hj. step_other_law ok (sound_valid ok) i j hi hj l h;
    }
call_keeps s store ok (arrive own i j cell) h =
    record {
      sound = arrive_own_keeps ok i j cell;
      ports = (arrive_same s store store i j cell).0;
      frame = (arrive_same s store store i j cell).1;
      fine = arrive_fine s (sound_valid ok) (length store) i j;
      flows = arrive_own_law ok i j cell;
    }
call_keeps s store ok (arrive (other l) i j cell) h =
    record {
      sound = arrive_other_keeps ok i j cell l h;
      ports = (arrive_same s store l i j cell).0;
      frame = (arrive_same s store l i j cell).1;
      fine = arrive_fine s (sound_valid ok) (length l) i j;
      flows = λ p q hp hq. arrive_other_law ok i j cell p q hp hq l h;
    }
call_keeps s store ok (load n t rates) h =
    record {
      sound = load_keeps ok n t rates;
      ports = (load_same s store n t rates).0;
      frame = (load_same s store n t rates).1;
      fine = load_fine s (sound_valid ok) n t rates;
      flows = load_law ok n t rates;
    }

pub allowed : (s : Switch) (store : List ℕ) (e : Event) → Happens s store e → Allowed store (call_of e)
allowed s store (stepped own r) h = tt
allowed s store (stepped (other l) r) h = h.0
allowed s store (arrived own i j cell r left) h = tt
allowed s store (arrived (other l) i j cell r left) h = h.0
allowed s store (loaded n t rates r) h = tt

pub event_keeps : (s : Switch) (store : List ℕ) (e : Event) → Sound s store → Happens s store e → Keeps s store e
event_keeps s store e ok h = subst (Keeps s store) (sym (happens_answered s store e h)) (call_keeps s store ok (call_of e) (allowed s store e h))
