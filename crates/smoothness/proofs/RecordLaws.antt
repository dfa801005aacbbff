-- The record of a head while it is written: the entries that stand there, and those of the slots that are left.
use Prim.Native.Nat.{ℕ, suc, ◌+◌, ◌-◌, ◌*◌, ◌<◌}
use mathlib.Core.List.{List, ◌∷◌, ◌++◌, append-nil}
use mathlib.Core.Path.{◌≡◌, refl, ap}
use native.Mathlib.Numerals.{add-one}
use native.Mathlib.Omega.{arith}
use lib.ListN.{length, take, set}
use lib.Seq.{take-suc-set, append_snoc}
use Rattle.multiplexer.specs.Serve.{serve_of}
use Rattle.multiplexer.specs.declared.Multiplexer.{Multiplexer}
use Rattle.multiplexer.specs.declared.Served.{Served}
use Rattle.meter.specs.Record.{entry_of, next_slot, record_from}
use Rattle.meter.proofs.RecordLaws.{record_none, record_next}
use Rattle.smoothness.specs.Printout.{fresh, three_frames_of}

-- the first entries, and behind them those of a port that has the slots from t on to go
abbrev pub recorded_by : List ℕ → ℕ → Multiplexer → List ℕ → ℕ → ℕ → List ℕ
recorded_by recorded place port rs T t = take place recorded ++ record_from port rs T t (3 * T - place)

pub record_start : (rs : List ℕ) (T : ℕ) → record_from fresh rs T 0 (3 * T - 0) ≡ three_frames_of rs T
unfolding three_frames_of
record_start rs T = ap (record_from fresh rs T 0) (omega arith)

pub record_step : (recorded : List ℕ) (place : ℕ) (port : Multiplexer) (rs : List ℕ) (T t next entry : ℕ) (served : Served)
    → place < length recorded → place < 3 * T → served ≡ serve_of port rs T t → entry ≡ entry_of served.choice → next ≡ next_slot T t
    → recorded_by (set recorded place entry) (place + 1) served.port rs T next ≡ recorded_by recorded place port rs T t
record_step recorded place port rs T t next entry served within left is e n =
    let rest = record_from served.port rs T next (3 * T - suc place) in
    let more : 3 * T - place ≡ suc (3 * T - suc place) = omega arith in
    let unfolded : record_from port rs T t (3 * T - place) ≡ entry ∷ rest = rw (more, record_next, e, n, is) refl in
    rw (add-one, take-suc-set recorded place entry within, unfolded) (append_snoc (take place recorded) entry rest)

pub record_end : (recorded : List ℕ) (place : ℕ) (port : Multiplexer) (rs : List ℕ) (T t : ℕ) → place ≡ 3 * T
    → recorded_by recorded place port rs T t ≡ take (3 * T) recorded
record_end recorded place port rs T t e =
    let none : 3 * T - 3 * T ≡ 0 = omega arith in
    rw (e, none, record_none) (append-nil (take (3 * T) recorded))
