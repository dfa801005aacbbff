-- Runs as lists: they are cut and joined, and each is what the definitions make of its calls.
use Prim.Native.Nat.{ℕ, ◌+◌}
use mathlib.Core.Path.{◌≡◌, refl, ap, sym}
use mathlib.Core.List.{List, [], ◌∷◌, ◌++◌, append_assoc}
use native.Mathlib.Omega.{arith}
use Rattle.crossbar.specs.Arrive.{Arrival}
use Rattle.crossbar.specs.declared.state.Switch.{Switch}
use Rattle.runs.specs.Event.{Call, Event, call_of, state_after, store_after}
use Rattle.runs.specs.Event.Lent.{own, other}
use Rattle.runs.specs.Event.Call.{step, arrive, load}
use Rattle.runs.specs.Event.Event.{stepped, arrived, loaded}
use Rattle.runs.specs.Run.{OtherLength, Happens, Follow, final_state, final_store, answered, defined_run, calls_of}
use Rattle.runs.specs.Flow.{collect, total}

pub collect_append : (f : Event → List ℕ) (a b : List Event) → collect f (a ++ b) ≡ collect f a ++ collect f b
unfolding collect
collect_append f [] b = refl
collect_append f (e ∷ a) b = rw (collect_append f a b, append_assoc)

pub total_append : (f : Event → ℕ) (a b : List Event) → total f (a ++ b) ≡ total f a + total f b
unfolding total
total_append f [] b = omega arith
total_append f (e ∷ a) b = omega (arith, total_append f a b)

pub final_state_append : (s : Switch) (a b : List Event) → final_state s (a ++ b) ≡ final_state (final_state s a) b
final_state_append s [] b = refl
final_state_append s (e ∷ a) b = final_state_append (state_after e) a b

final_store_append : (store : List ℕ) (a b : List Event) → final_store store (a ++ b) ≡ final_store (final_store store a) b
final_store_append store [] b = refl
final_store_append store (e ∷ a) b = final_store_append (store_after store e) a b

-- a run's first part, and its rest from where that ends
pub follow_append : (s : Switch) (store : List ℕ) (a b : List Event) → Follow s store (a ++ b) → Follow s store a × Follow (final_state s a) (final_store store a) b
follow_append s store [] b h = (tt, h)
follow_append s store (e ∷ a) b h = let rest = follow_append (state_after e) (store_after store e) a b h.1 in ((h.0, rest.0), rest.1)

pub happens_answered : (s : Switch) (store : List ℕ) (e : Event) → Happens s store e → e ≡ answered s store (call_of e)
happens_answered s store (stepped own r) h = ap (stepped own) h
happens_answered s store (stepped (other l) r) h = ap (stepped (other l)) h.1
happens_answered s store (arrived own i j cell r left) h = ap (λ (a : Arrival). arrived own i j cell a.reply a.store) h
happens_answered s store (arrived (other l) i j cell r left) h = ap (λ (a : Arrival). arrived (other l) i j cell a.reply a.store) h.1
happens_answered s store (loaded n t rates r) h = ap (loaded n t rates) h

pub follow_defined : (s : Switch) (store : List ℕ) (es : List Event) → Follow s store es → es ≡ defined_run s store (calls_of es)
unfolding defined_run calls_of
follow_defined s store [] h = refl
follow_defined s store (e ∷ es) h =
    let first = happens_answered s store e h.0 in
    rw (sym first) (ap (λ (rest : List Event). e ∷ rest) (follow_defined (state_after e) (store_after store e) es h.1))

-- a list lent in the store's place has another length
abbrev pub Allowed : List ℕ → Call → Type 0
Allowed store (step own) = Unit {0}
Allowed store (step (other l)) = OtherLength l store
Allowed store (arrive own i j cell) = Unit {0}
Allowed store (arrive (other l) i j cell) = OtherLength l store
Allowed store (load n t rates) = Unit {0}

-- Runs exist: whatever is called, what the definitions answer happens.
answered_happens : (s : Switch) (store : List ℕ) (c : Call) → Allowed store c → Happens s store (answered s store c)
answered_happens s store (step own) h = refl
answered_happens s store (step (other l)) h = (h, refl)
answered_happens s store (arrive own i j cell) h = refl
answered_happens s store (arrive (other l) i j cell) h = (h, refl)
answered_happens s store (load n t rates) h = refl

-- each call is lent the run's own store
abbrev pub AllOwn : List Call → Type 0
AllOwn [] = Unit {0}
AllOwn (c ∷ cs) = ((store : List ℕ) → Allowed store c) × AllOwn cs

pub defined_follows : (s : Switch) (store : List ℕ) (cs : List Call) → AllOwn cs → Follow s store (defined_run s store cs)
unfolding defined_run
defined_follows s store [] h = tt
defined_follows s store (c ∷ cs) h =
    let e = answered s store c in
    (answered_happens s store c (h.0 store), defined_follows (state_after e) (store_after store e) cs h.1)
