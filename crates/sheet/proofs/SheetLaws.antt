-- What the program makes of a text: by what reading and writing answer; that the first bytes are enough; and that it is read as
-- the text's plan.
use Prim.Native.Nat.{ℕ, ◌*◌, ◌≤◌}
use mathlib.Core.Path.{◌≡◌, refl, ap, sym, ◌∙◌}
use mathlib.Core.Bool.{Bool, true, false, cond}
use mathlib.Core.List.{List}
use native.Mathlib.Omega.{arith}
use lib.ListN.{length, take, replicate}
use lib.Seq.{length-take-le}
use Rattle.arrayvec.specs.ArrayVec.{ArrayVec}
use Rattle.refusal.specs.Chain.{when_accepted}
use Rattle.refusal.specs.Outcome.{Outcome, outcome}
use Rattle.refusal.specs.declared.Refusal.{Refusal}
use Rattle.refusal.specs.declared.Refusal.TheVariants.{PortsOutOfRange}
use Rattle.refusal.specs.Verdict.{Verdict}
use Rattle.std.specs.Prelude.{Ok, Err}
use Rattle.plan.specs.Range.{most_flows, ports_in_range}
use Rattle.plan.specs.Accept.{accept_of}
use Rattle.plan.proofs.LineLaws.{square_small}
use Rattle.plan.proofs.RangeLaws.{ports_range}
use Rattle.planfile.specs.Write.{file_of, write_of}
use Rattle.planfile.proofs.LayoutLaws.{zeros_taken}
use Rattle.planfile.proofs.WriteLaws.{reads_back, write_accepted}
use Rattle.plantext.specs.Read.{read_text_of}
use Rattle.plantext.proofs.ReadLaws.{ports_decide, accepted_text, read_cut}
use Rattle.sheet.specs.Sheet.{rates_read, sheet_of, most_input, SheetPlan}

-- how many places are lent to the reader
abbrev pub lent_count : ℕ → ℕ
lent_count n = cond (ports_in_range n) (n * n) 0

pub lent_within : (n : ℕ) → lent_count n ≤ most_flows
lent_within n = go (ports_in_range n) refl
  where
    go : (is : Bool) → ports_in_range n ≡ is → lent_count n ≤ most_flows
    go true e = rw e (square_small n (ports_range n e).1)
    go false e = rw e (omega arith)

-- and the part of an array of zeros that is lent has that many
pub lent_length : (n : ℕ) {count : ℕ} → count ≡ lent_count n → length (take count (replicate {A = ℕ} most_flows 0)) ≡ count
lent_length n e = length-take-le _ _ (rw e (lent_within n))

abbrev the_file : ℕ → ℕ → List ℕ → ArrayVec ℕ
the_file n t list = record { items = file_of n t list }

-- what the reader answers for a part of an array of zeros decides
module _ (n t : ℕ) (text : List ℕ) (verdict : Verdict) (list : List ℕ) (read : outcome verdict list ≡ read_text_of n t text (take (lent_count n) (replicate most_flows 0))) where
  sheet_by : sheet_of n t text ≡ when_accepted verdict (the_file n t list)
  unfolding sheet_of
  sheet_by = go (ports_in_range n) refl
    where
      go : (is : Bool) → ports_in_range n ≡ is → sheet_of n t text ≡ when_accepted verdict (the_file n t list)
      go true e =
          let zeros : take (lent_count n) (replicate {A = ℕ} most_flows 0) ≡ replicate (n * n) 0 = rw e (zeros_taken n (ports_range n e).1) in
          let same : rates_read n t text ≡ outcome verdict list = sym (read ∙ ap (read_text_of n t text) zeros) in
          rw same refl
      go false e =
          let refused : verdict ≡ Err PortsOutOfRange = ap (λ (o : Outcome). o.verdict) (read ∙ ports_decide n t text _ e) in
          rw (ports_decide n t text (replicate (n * n) 0) e, refused) refl

  -- an accepted text is written
  pub sheet_written : verdict ≡ Ok tt → write_of n t list ≡ sheet_of n t text
  sheet_written e =
      let outcome_verdict : (read_text_of n t text (take (lent_count n) (replicate most_flows 0))).verdict ≡ Ok tt = sym (ap (λ (o : Outcome). o.verdict) read) ∙ e in
      let plan : accept_of n t list ≡ Ok tt = ap (λ (o : Outcome). accept_of n t o.list) read ∙ (accepted_text n t text _ outcome_verdict).plan in
      write_accepted n t list plan ∙ ap (λ (v : Verdict). when_accepted v (the_file n t list)) (sym e) ∙ sym sheet_by

  pub sheet_refused : (r : Refusal) → verdict ≡ Err r → Err r ≡ sheet_of n t text
  sheet_refused r e = ap (λ (v : Verdict). when_accepted v (the_file n t list)) (sym e) ∙ sym sheet_by

-- what the program reads of a text is enough
pub sheet_cut : (n t : ℕ) (text : List ℕ) → sheet_of n t (take most_input text) ≡ sheet_of n t text
unfolding sheet_of
sheet_cut n t text = rw (read_cut n t most_input text (replicate (n * n) 0) (omega arith)) refl

pub sheet_plan : SheetPlan
sheet_plan n t text e = reads_back n t (rates_read n t text).list (accepted_text n t text _ e).plan
