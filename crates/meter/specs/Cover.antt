-- Minimum and maximum cover, as document 004 has them, of a record: "Service staff record which flow an output served, one
-- 16-bit number a slot, 65,535 for idle, up to 65,535 slots." A slot's place is its number in the record, from 0.
use Rattle.std.specs.Prelude.{ℕ, ◌+◌, ◌≤◌, ◌≡◌, cond, List, eqb, length, get_or}
use Rattle.plan.specs.Below.{sum_below}
use Rattle.meter.specs.declared.Stretch.{Stretch}

abbrev pub idle_slot : ℕ
idle_slot = 65535

abbrev pub most_record : ℕ
most_record = 65535

-- the services of a flow in a slot with this entry; "flow number 65,535 counts idle slots"
abbrev pub service_in : ℕ → ℕ → ℕ
service_in flow entry = cond (eqb entry flow) 1 0

-- "the number of cell services to flow f_i that are scheduled .. inside slot interval [t, t + l)"
unfoldable pub cover_at : List ℕ → ℕ → ℕ → ℕ → ℕ
cover_at recorded flow l t = sum_below (λ u. service_in flow (get_or recorded (t + u) 0)) l

-- "[t, t + l) ⊆ [t1, t2)": the l slots from place t on are slots of the record
abbrev pub Inside : List ℕ → ℕ → ℕ → Type 0
Inside recorded l t = t + l ≤ length recorded

-- Of the numbers c t at the places t that are In, `best` is one to which every other is NoBetter, at the first place that has it.
pub record FirstBest (NoBetter : ℕ → ℕ → Type 0) (In : ℕ → Type 0) (c : ℕ → ℕ) (best : Stretch) : Type 0 where
  pub inside : In best.place
  pub there : best.services ≡ c best.place
  pub none_better : (t : ℕ) → In t → NoBetter (c t) best.services
  pub none_earlier : (t : ℕ) → In t → c t ≡ best.services → best.place ≤ t

-- "min over t of Cover(t, l), [t, t + l) ⊆ [t1, t2)", with "the first place where" it occurs
abbrev pub MinimumCover : List ℕ → ℕ → ℕ → Stretch → Type 0
MinimumCover recorded flow l = FirstBest (λ x best. best ≤ x) (Inside recorded l) (cover_at recorded flow l)

-- "max over t of Cover(t, l), [t, t + l) ⊆ [t1, t2)"
abbrev pub MaximumCover : List ℕ → ℕ → ℕ → Stretch → Type 0
MaximumCover recorded flow l = FirstBest (λ x best. x ≤ best) (Inside recorded l) (cover_at recorded flow l)
