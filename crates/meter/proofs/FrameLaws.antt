-- Through the frames of a record: how many services of a flow are in its first p slots.
use Prim.Native.Nat.{ℕ, zero, suc, ◌+◌, ◌*◌, ◌<◌, ◌≤◌}
use mathlib.Core.Path.{◌≡◌, refl, ap, sym, subst, ◌∙◌}
use mathlib.Core.Bool.{Bool, true, false}
use mathlib.Core.List.{List}
use native.Mathlib.Numerals.{add-one}
use native.Mathlib.Omega.{arith}
use lib.Dec.{eqb}
use lib.ListN.{length, get_or}
use borrow.Author.Tests.{eqb-true, eqb-false, ne_eqb}
use Rattle.std.specs.Prelude.{Option, Some, None}
use Rattle.plan.specs.Range.{most_ports}
use Rattle.plan.specs.Below.{sum_below}
use Rattle.multiplexer.specs.Choose.{choose_of}
use Rattle.multiplexer.specs.Count.{services_of, counts_after}
use Rattle.multiplexer.specs.Frame.{counts_at, choice_at, services_before}
use Rattle.multiplexer.specs.Serve.{serve_of}
use Rattle.multiplexer.specs.Window.{Fits, FrameStart, WindowRule}
use Rattle.multiplexer.specs.declared.Multiplexer.{Multiplexer}
use Rattle.multiplexer.proofs.CountLaws.{count_length, cleared_starts}
use Rattle.multiplexer.proofs.FrameLaws.{counts_first, counts_next}
use Rattle.meter.specs.Cover.{idle_slot, service_in}
use Rattle.meter.specs.Record.{entry_of, next_slot, record_from, UnderOnePlan}
use Rattle.meter.proofs.CoverLaws.{at, cover_next}
use Rattle.meter.proofs.RecordLaws.{record_next}
use Rattle.meter.proofs.PaceLaws.{pace_early, pace_late}
use Rattle.meter.proofs.BoundLaws.{Near}

-- a flow's services in an entry are those of the choice
entry_services : (c : Option ℕ) (f : ℕ) → f < most_ports → service_in f (entry_of c) ≡ services_of c f
entry_services None f l = rw (ne_eqb idle_slot f (λ e. omega arith)) refl
entry_services (Some g) f l = refl

module _ (rs : List ℕ) (T : ℕ) (fits : Fits rs T) (rule : (ks : List ℕ) → FrameStart ks (length rs) → WindowRule rs ks T) (f : ℕ) (below : f < length rs) where
  abbrev a : ℕ
  a = get_or rs f 0

  -- port m has come to slot t of a frame that began with the counts ks
  record Begun (m : Multiplexer) (ks : List ℕ) (t : ℕ) : Type 0 where
    starts : FrameStart ks (length rs)
    counts : m.served ≡ counts_at rs ks T t
    full : length m.served ≡ most_ports
    in_frame : t < T

  -- after p slots from slot t of a frame on, q frames have ended and slot u of another has come; c services were given meanwhile
  record Gone (ks : List ℕ) (t p c : ℕ) : Type 0 where
    q : ℕ
    u : ℕ
    ks' : List ℕ
    starts : FrameStart ks' (length rs)
    in_frame : u ≤ T
    slots : t + p ≡ q * T + u
    services : c + services_before rs ks T f t ≡ q * a + services_before rs ks' T f u

  choice_is : (m : Multiplexer) (ks : List ℕ) (t : ℕ) → m.served ≡ counts_at rs ks T t → choose_of rs m.served T t ≡ choice_at rs ks T t
  choice_is m ks t e = ap (λ (l : List ℕ). choose_of rs l T t) e

  counted : (m : Multiplexer) (ks : List ℕ) (t : ℕ) → m.served ≡ counts_at rs ks T t → counts_after m.served (choose_of rs m.served T t) ≡ counts_at rs ks T (suc t)
  counted m ks t e = ap (λ (l : List ℕ). counts_after l (choose_of rs l T t)) e ∙ sym (counts_next rs ks T t)

  -- the port after the slot, if the frame goes on and if it ends
  begun_on : {m : Multiplexer} {ks : List ℕ} {t : ℕ} → Begun m ks t → eqb (t + 1) T ≡ false → Begun (serve_of m rs T t).port ks (suc t)
  begun_on {m} {ks} {t} b e =
      let goes_on = eqb-false (t + 1) T e in
      rw e
      record {
        starts = b.starts;
        counts = counted m ks t b.counts;
        full = count_length m.served (choose_of rs m.served T t) ∙ b.full;
        in_frame = omega (arith, b.in_frame);
      }

  begun_anew : {m : Multiplexer} {ks : List ℕ} {t : ℕ} → Begun m ks t → eqb (t + 1) T ≡ true → Begun (serve_of m rs T t).port (serve_of m rs T t).port.served 0
  begun_anew {m} {ks} {t} b e =
      let after = counts_after m.served (choose_of rs m.served T t) in
      let starts = cleared_starts after (length rs) (count_length m.served (choose_of rs m.served T t) ∙ b.full) fits.few_flows in
      rw e
      record { starts = starts; counts = sym (counts_first rs _ T); full = starts.full; in_frame = fits.some_slot }

  -- the services in a slot and in those that follow
  next_services : (m : Multiplexer) (ks : List ℕ) (t slots p : ℕ) → m.served ≡ counts_at rs ks T t
      → sum_below (at (record_from m rs T t (suc slots)) f) (suc p)
      ≡ services_of (choice_at rs ks T t) f + sum_below (at (record_from (serve_of m rs T t).port rs T (next_slot T t) slots) f) p
  next_services m ks t slots p e =
      let entry : service_in f (entry_of (choose_of rs m.served T t)) ≡ services_of (choice_at rs ks T t) f =
      ap (λ (c : Option ℕ). service_in f (entry_of c)) (choice_is m ks t e) ∙ entry_services (choice_at rs ks T t) f (omega (arith, fits.few_flows)) in
      ap (λ (l : List ℕ). sum_below (at l f) (suc p)) (record_next m rs T t slots)
      ∙ cover_next f (entry_of (choose_of rs m.served T t)) (record_from (serve_of m rs T t).port rs T (next_slot T t) slots) p
      ∙ ap (λ (x : ℕ). x + sum_below (at (record_from (serve_of m rs T t).port rs T (next_slot T t) slots) f) p) entry

  -- a slot before what has gone, in the same frame and as the last one of a frame
  gone_on : {ks : List ℕ} {t p c : ℕ} → Gone ks (suc t) p c → Gone ks t (suc p) (services_of (choice_at rs ks T t) f + c)
  gone_on g =
      record {
        q = g.q;
        u = g.u;
        ks' = g.ks';
        starts = g.starts;
        in_frame = g.in_frame;
        slots = omega (arith, g.slots);
        services = omega (arith, g.services);
      }

  gone_anew : {ks anew : List ℕ} {t p c : ℕ} → FrameStart ks (length rs) → suc t ≡ T → Gone anew 0 p c → Gone ks t (suc p) (services_of (choice_at rs ks T t) f + c)
  gone_anew {ks} {t = t} start last g =
      record {
        q = g.q + 1;
        u = g.u;
        ks' = g.ks';
        starts = g.starts;
        in_frame = g.in_frame;
        slots = omega (arith, g.slots);
        services = omega (arith, g.services, (rule ks start).exactly f below, ap (services_before rs ks T f) last);
      }

  gone : (slots : ℕ) (m : Multiplexer) (ks : List ℕ) (t : ℕ) → Begun m ks t → (p : ℕ) → p ≤ slots → Gone ks t p (sum_below (at (record_from m rs T t slots) f) p)
  gone slots m ks t b zero l =
      record { q = 0; u = t; ks' = ks; starts = b.starts; in_frame = omega (arith, b.in_frame); slots = omega arith; services = omega arith }
  gone zero m ks t b (suc p) l = absurd (omega arith)
  gone (suc slots) m ks t b (suc p) l = rw (next_services m ks t slots p b.counts) (go (λ m' ks' t' b'. gone slots m' ks' t' b' p (omega arith)) (eqb (t + 1) T) refl)
    where
      go : ((m' : Multiplexer) (ks' : List ℕ) (t' : ℕ) → Begun m' ks' t' → Gone ks' t' p (sum_below (at (record_from m' rs T t' slots) f) p))
          → (e : Bool) → eqb (t + 1) T ≡ e
          → Gone ks t (suc p) (services_of (choice_at rs ks T t) f + sum_below (at (record_from (serve_of m rs T t).port rs T (next_slot T t) slots) f) p)
      go rest false e =
          let slot : next_slot T t ≡ suc t = rw e (add-one t) in
          rw slot (gone_on (rest (serve_of m rs T t).port ks (suc t) (begun_on b e)))
      go rest true e =
          let slot : next_slot T t ≡ 0 = rw e refl in
          let last : suc t ≡ T = sym (add-one t) ∙ eqb-true (t + 1) T e in
          rw slot (gone_anew b.starts last (rest (serve_of m rs T t).port (serve_of m rs T t).port.served 0 (begun_anew b e)))

  -- the services in the first p slots of a record
  near : {c p : ℕ} {ks : List ℕ} → Gone ks 0 p c → Near T a c p
  near {c} {p} {ks} g =
      let held = rule g.ks' g.starts in
      let slots : p ≡ g.q * T + g.u = omega (arith, g.slots) in
      let services : c ≡ g.q * a + services_before rs g.ks' T f g.u = omega (arith, g.services) in
      rw (slots, services)
      record {
        early = omega (arith, pace_early rs g.ks' T f held below g.u g.in_frame);
        late = omega (arith, pace_late rs g.ks' T f held below g.u g.in_frame fits.some_slot);
      }

  module _ (recorded : List ℕ) (made : UnderOnePlan rs T recorded) where
    begun : Begun made.port made.port.served 0
    begun = record { starts = made.starts; counts = sym (counts_first rs _ T); full = made.starts.full; in_frame = fits.some_slot }

    -- the last of these services began its window before they ended, and the next one ends it after
    pub near_there : (p : ℕ) → p ≤ length recorded → Near T a (sum_below (at recorded f) p) p
    near_there p l =
        subst (λ (xs : List ℕ). Near T a (sum_below (at xs f) p) p) (sym made.is)
        (near (gone (length recorded) made.port made.port.served 0 begun p l))
