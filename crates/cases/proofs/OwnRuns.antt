-- Calls that are each lent the run's own store make a run in the sense of the promise.
use Prim.Native.Nat.{ℕ}
use mathlib.Core.Path.{◌≡◌, refl}
use mathlib.Core.Bool.{Bool, true, false, false≢true, ◌&&◌}
use mathlib.Core.List.{List, [], ◌∷◌}
use Rattle.std.specs.Prelude.{Ok}
use Rattle.plan.proofs.BelowLaws.{and_true}
use Rattle.runs.specs.Event.{Call}
use Rattle.runs.specs.Event.Lent.{own, other}
use Rattle.runs.specs.Event.Call.{step, arrive, load}
use Rattle.runs.specs.Run.{Run}
use Rattle.runs.proofs.RunLaws.{Allowed, AllOwn, defined_follows}
use Rattle.cases.specs.Look.{depth, store_of, started, run_of}

abbrev is_own : Call → Bool
is_own (step own) = true
is_own (step (other l)) = false
is_own (arrive own i j cell) = true
is_own (arrive (other l) i j cell) = false
is_own (load n t rates) = true

abbrev pub are_own : List Call → Bool
are_own [] = true
are_own (c ∷ cs) = is_own c && are_own cs

own_call : (c : Call) → is_own c ≡ true → (store : List ℕ) → Allowed store c
own_call (step own) e store = tt
own_call (step (other l)) e store = absurd (false≢true e)
own_call (arrive own i j cell) e store = tt
own_call (arrive (other l) i j cell) e store = absurd (false≢true e)
own_call (load n t rates) e store = tt

pub own_calls : (cs : List Call) → are_own cs ≡ true → AllOwn cs
own_calls [] e = tt
own_calls (c ∷ cs) e = let both = and_true (is_own c) (are_own cs) e in (own_call c both.0, own_calls cs both.1)

unfoldable pub own_run : (n t : ℕ) (rates : List ℕ) (calls : List Call) → (started n t rates).verdict ≡ Ok tt → are_own calls ≡ true → Run
unfolding run_of
own_run n t rates calls accepted all =
    record {
      ports = n;
      frame = t;
      rates = rates;
      depth = depth;
      store = store_of n;
      reply = started n t rates;
      starts = refl;
      accepted = accepted;
      events = run_of n t rates calls;
      follow = defined_follows _ _ calls (own_calls calls all);
    }
