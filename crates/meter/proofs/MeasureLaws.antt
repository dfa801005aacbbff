-- What `measure` knows at a place p, before it looks at the next one: the services there, and the first best up to there.
use Prim.Native.Nat.{ℕ, suc, ◌+◌, ◌-◌, ◌<◌, ◌≤◌}
use mathlib.Core.Path.{◌≡◌, refl, ap, ◌∙◌}
use mathlib.Core.List.{List}
use native.Mathlib.Nat.{add_comm}
use native.Mathlib.Numerals.{add-one}
use native.Mathlib.Omega.{arith}
use lib.ListN.{length, get_or, take, drop}
use Rattle.std.proofs.lemmas.List.{get_or-take, get_or-drop, length-take-le, length-drop}
use Rattle.meter.specs.Cover.{service_in, cover_at}
use Rattle.meter.specs.Answer.{Measures}
use Rattle.meter.specs.Search.{fewer, more, or_better, kept_to, measured_of}
use Rattle.meter.specs.declared.Stretch.{Stretch}
use Rattle.meter.proofs.CoverLaws.{at, cover_slides}
use Rattle.meter.proofs.AnswerLaws.{kept_measures}

module _ (recorded : List ℕ) (flow l : ℕ) where
  abbrev c : ℕ → ℕ
  c = cover_at recorded flow l

  pub record Looked (p services : ℕ) (least most : Stretch) : Type 0 where
    pub here : services ≡ c p
    pub fewest : least ≡ kept_to fewer c p
    pub largest : most ≡ kept_to more c p

  pub looked_first : (services : ℕ) → services ≡ c 0 → Looked 0 services (record { services = services; place = 0 }) (record { services = services; place = 0 })
  unfolding kept_to
  looked_first services e = record { here = e; fewest = rw e refl; largest = rw e refl }

  -- the slots behind the first l
  abbrev pub behind : List ℕ
  behind = take (length recorded - l) (drop l recorded)

  pub behind_length : length behind ≡ length recorded - l
  behind_length = length-take-le (length recorded - l) (drop l recorded) (omega (arith, length-drop l recorded))

  -- the services at a place p, with the slot that enters, are those at the next one with the slot that leaves
  pub looked_slides : (p : ℕ) → p < length recorded - l → c (suc p) + at recorded flow p ≡ c p + at behind flow p
  looked_slides p h =
      let next : get_or behind p 0 ≡ get_or recorded (l + p) 0 = get_or-take (length recorded - l) (drop l recorded) p 0 h ∙ get_or-drop l recorded p 0 in
      omega (arith, cover_slides recorded flow l p, ap (service_in flow) next, ap (at recorded flow) (add_comm p l))

  pub looked_next : (p : ℕ) {services here : ℕ} {least most fewest largest : Stretch} → Looked p services least most
      → here ≡ c (suc p) → fewest ≡ or_better fewer least here (p + 1) → largest ≡ or_better more most here (p + 1) → Looked (p + 1) here fewest largest
  unfolding kept_to
  looked_next p k e f g = rw (add-one p) (record { here = e; fewest = rw (f, e, k.fewest, add-one p) refl; largest = rw (g, e, k.largest, add-one p) refl })

  pub looked_all : {p services : ℕ} {least most : Stretch} → Looked p services least most → l ≤ length recorded → p ≡ length recorded - l
      → Measures recorded flow l (record { least = least; most = most })
  unfolding measured_of
  looked_all k h e = rw (k.fewest, k.largest, e) (kept_measures recorded flow l h)
