-- What a head answers in a run is a record made under one plan.
use Prim.Native.Nat.{ℕ, suc, ◌+◌, ◌*◌, ◌<◌}
use mathlib.Core.Path.{◌≡◌, refl, ap, sym, subst, subst₂, ◌∙◌}
use mathlib.Core.Logic.{◌⊎◌, inl, inr, ⊎_elim}
use mathlib.Core.List.{List, [], ◌∷◌, ◌++◌}
use native.Mathlib.Nat.{lt_of_mul-lt-mul_right, zero-add}
use native.Mathlib.Omega.{arith}
use lib.ListN.{length, get_or}
use Rattle.refusal.specs.Verdict.{Verdict}
use Rattle.std.specs.Prelude.{Ok, Err}
use Rattle.plan.specs.Lines.{flow_of}
use Rattle.plan.specs.Accept.{IsPlan}
use Rattle.plan.proofs.AcceptLaws.{accepts}
use Rattle.planpair.specs.Rates.{plan_rates}
use Rattle.multiplexer.specs.Serve.{serve_of}
use Rattle.multiplexer.specs.Window.{column_of, FrameStart}
use Rattle.multiplexer.specs.declared.Multiplexer.{Multiplexer}
use Rattle.multiplexer.proofs.PacedLaws.{paced_full}
use Rattle.multiplexer.proofs.PortLaws.{column_length}
use Rattle.meter.specs.Record.{entry_of, record_from, UnderOnePlan}
use Rattle.meter.specs.Bound.{Smooth}
use Rattle.meter.proofs.AnswerLaws.{covers_measures}
use Rattle.meter.proofs.RecordLaws.{record_none, record_next, record_length}
use Rattle.meter.proofs.Theorem.{head_smooth}
use Rattle.crossbar.specs.declared.state.Switch.{Switch}
use Rattle.runs.specs.Event.{Event, state_after, store_after}
use Rattle.runs.specs.Event.Event.{stepped, arrived, loaded}
use Rattle.runs.specs.Run.{Run, Happens, Follow, final_state, final_store}
use Rattle.runs.specs.Flow.{total, slots, slots_in}
use Rattle.runs.proofs.RunLaws.{follow_append}
use Rattle.runs.proofs.SoundLaws.{Sound, head_near}
use Rattle.runs.proofs.Theorem.{Known, known_start, known_run}
use Rattle.headrecords.specs.HeadRecord.{head_record, RunsIn, OnePlan, RecordPromise}
use Rattle.headrecords.proofs.HeadLaws.{head_at}
use Rattle.headrecords.proofs.TurnLaws.{Turn, event_turn}
use Rattle.headrecords.proofs.TurnLaws.Turn.{quiet, slot}

-- a record of no slot keeps every bound
none_smooth : (flow a T : ℕ) → Smooth [] flow a T
none_smooth flow a T =
    record {
      everywhere = λ l t some inside. absurd (omega arith);
      measured = λ l r some covers. absurd (omega (arith, (covers_measures [] flow l r covers).least.inside));
    }

-- in slot 0 a head begins its frame
head_starts : {s : Switch} {store : List ℕ} → Sound s store → s.slot ≡ 0 → (j : ℕ) → j < s.running.ports → FrameStart (head_at s j).served s.running.ports
head_starts {s} ok zero-slot j hj =
    record {
      full = paced_full (ok.heads j hj);
      zeros = λ i hi.
          let t = s.running.frame in
          let close : get_or (head_at s j).served i 0 * t < 1 * t = omega (arith, rw zero-slot at (head_near ok i j hi hj).early) in
          omega (arith, lt_of_mul-lt-mul_right t {m = get_or (head_at s j).served i 0} {n = 1} close);
    }

module _ (run : Run) (rates : List ℕ) (j : ℕ) (hj : j < run.ports) where
  abbrev n : ℕ
  n = run.ports

  abbrev T : ℕ
  T = run.frame

  abbrev rs : List ℕ
  rs = column_of rates n j

  known_next : {s : Switch} {store : List ℕ} (e : Event) → Known run s store → Happens s store e → Known run (state_after e) (store_after store e)
  known_next {s} {store} e k h = known_run run s store (e ∷ []) k (h, tt)

  turn_there : {s : Switch} {store : List ℕ} (e : Event) → Known run s store → Happens s store e → RunsIn rates e → Turn rs T j (head_at s j) s.slot e
  turn_there {s} e k h runs =
      subst₂ (λ (m t : ℕ). Turn (column_of rates m j) t j (head_at s j) s.slot e) k.ports k.frame
      (event_turn k.sound rates j (omega (arith, k.ports)) e h runs)

  record_as : (es : List Event) {m m' : Multiplexer} {t t' : ℕ} → m ≡ m' → t ≡ t'
      → head_record j es ≡ record_from m rs T t (slots es) → head_record j es ≡ record_from m' rs T t' (slots es)
  record_as es a b rest = rw (sym a, sym b) rest

  -- one event's part of the record, and the rest
  turn_record : {m : Multiplexer} {t : ℕ} (e : Event) (es : List Event) → Turn rs T j m t e
      → head_record j es ≡ record_from (head_at (state_after e) j) rs T (state_after e).slot (slots es)
      → head_record j (e ∷ es) ≡ record_from m rs T t (slots (e ∷ es))
  unfolding total
  turn_record e es (quiet none no_slot head there) rest = rw (none, no_slot, zero-add) (record_as es head there rest)
  turn_record {m} {t} e es (slot entry one head there) rest =
      let longer : 1 + total slots_in es ≡ suc (total slots_in es) = omega arith in
      rw (entry, one, longer, record_next m rs T t (total slots_in es)) (ap (λ (l : List ℕ). entry_of (serve_of m rs T t).choice ∷ l) (record_as es head there rest))

  record_is : (s : Switch) (store : List ℕ) (es : List Event) → Known run s store → Follow s store es → OnePlan rates es
      → head_record j es ≡ record_from (head_at s j) rs T s.slot (slots es)
  unfolding total
  record_is s store [] k h one = sym (record_none (head_at s j) rs T s.slot)
  record_is s store (e ∷ es) k h one =
      turn_record e es (turn_there e k h.0 one.0)
      (record_is (state_after e) (store_after store e) es (known_next e k h.0) h.1 one.1)

  -- a stretch with a slot in it runs an accepted plan
  plan_there : (s : Switch) (store : List ℕ) (es : List Event) → Known run s store → Follow s store es → OnePlan rates es
      → (head_record j es ≡ []) ⊎ IsPlan n T rates
  plan_there s store [] k h one = inl refl
  plan_there s store (stepped lent r ∷ es) k h one =
      go r.verdict refl (plan_there _ _ es after h.1 one.1)
    where
      after : Known run r.state store
      after = known_next (stepped lent r) k h.0

      go : (v : Verdict) → r.verdict ≡ v → (head_record j es ≡ []) ⊎ IsPlan n T rates → (head_record j (stepped lent r ∷ es) ≡ []) ⊎ IsPlan n T rates
      go (Ok _) e rest =
          inr (subst (IsPlan n T) (one.0 e) (subst₂ (λ (m t : ℕ). IsPlan m t (plan_rates r.state.running)) after.ports after.frame after.sound.plan))
      go (Err why) e rest = ⊎_elim (λ (none : head_record j es ≡ []). inl (rw e none)) inr rest
  plan_there s store (arrived lent p q cell r left ∷ es) k h one = plan_there _ _ es (known_next (arrived lent p q cell r left) k h.0) h.1 one.1
  plan_there s store (loaded m t new r ∷ es) k h one = plan_there _ _ es (known_next (loaded m t new r) k h.0) h.1 one.1

  module _ (before stretch after : List Event) (cut : run.events ≡ before ++ (stretch ++ after)) where
    abbrev s : Switch
    s = final_state run.reply.state before

    abbrev store : List ℕ
    store = final_store run.store before

    parts : Follow run.reply.state run.store before × Follow s store (stretch ++ after)
    parts = follow_append run.reply.state run.store before (stretch ++ after) (subst (Follow run.reply.state run.store) cut run.follow)

    known_there : Known run s store
    known_there = known_run run run.reply.state run.store before (known_start run) parts.0

    follow_there : Follow s store stretch
    follow_there = (follow_append s store stretch after parts.1).0

    module _ (start : s.slot ≡ 0) (one : OnePlan rates stretch) where
      from_start : head_record j stretch ≡ record_from (head_at s j) rs T 0 (slots stretch)
      from_start = subst (λ (t : ℕ). head_record j stretch ≡ record_from (head_at s j) rs T t (slots stretch)) start (record_is s store stretch known_there follow_there one)

      whole : length (head_record j stretch) ≡ slots stretch
      whole = ap length from_start ∙ record_length (head_at s j) rs T 0 (slots stretch)

      made : UnderOnePlan rs T (head_record j stretch)
      made =
          record {
            port = head_at s j;
            starts = rw (column_length rates n j, sym known_there.ports) (head_starts known_there.sound start j (omega (arith, known_there.ports)));
            is = rw whole from_start;
          }

      smooth : (i : ℕ) → i < n → Smooth (head_record j stretch) i (get_or rates (flow_of n i j) 0) T
      smooth i hi =
          ⊎_elim
          (λ (none : head_record j stretch ≡ []). rw none (none_smooth i (get_or rates (flow_of n i j) 0) T))
          (λ (plan : IsPlan n T rates). head_smooth n T rates (accepts n T rates plan) i j hi hj (head_record j stretch) made)
          (plan_there s store stretch known_there follow_there one)

pub records_of_every_run : (run : Run) → RecordPromise run
records_of_every_run run before stretch after cut start rates one j hj =
    let begun : (final_state run.reply.state before).slot ≡ 0 = omega (arith, start) in
    record {
      whole = whole run rates j hj before stretch after cut begun one;
      made = made run rates j hj before stretch after cut begun one;
      smooth = smooth run rates j hj before stretch after cut begun one;
    }
