-- For a reader that can't hold every file: the first bytes of a file, one more than the longest plan file has, are read as
-- the whole file is.
use Prim.Native.Nat.{ℕ, ◌<◌, ◌≤◌}
use mathlib.Core.Path.{◌≡◌, refl, ap, sym, ◌∙◌}
use mathlib.Core.Bool.{Bool, true, false, ◌&&◌, not}
use mathlib.Core.List.{List}
use mathlib.Core.Logic.{⊎_elim}
use native.Mathlib.Omega.{arith}
use lib.Dec.{eqb}
use lib.ListN.{length, take}
use lib.Seq.{get_or-take, length-take-le, take_all}
use borrow.Author.Tests.{le-ltb, ne_eqb, not-false}
use Rattle.refusal.specs.Chain.{refuse_if, when_accepted}
use Rattle.refusal.specs.declared.Refusal.{Refusal}
use Rattle.refusal.specs.declared.Refusal.TheVariants.{PortsOutOfRange, FrameOutOfRange, NotPlanFile, FileLength}
use Rattle.refusal.specs.Verdict.{Verdict}
use Rattle.std.specs.Prelude.{Result, Err}
use Rattle.refusal.proofs.ChainLaws.{refuse_ext}
use Rattle.plan.specs.declared.Plan.{Plan}
use Rattle.plan.specs.NoPlan.{no_plan}
use Rattle.plan.specs.Range.{ports_in_range, frame_in_range}
use Rattle.plan.proofs.BelowLaws.{lt_or_le}
use Rattle.plan.proofs.LineLaws.{square_small}
use Rattle.plan.proofs.RangeLaws.{ports_range}
use Rattle.planfile.specs.Layout.{byte_at, is_marked, version_in, ports_in, frame_in, file_length, longest_file}
use Rattle.planfile.specs.Read.{verdict_of, read_of}

-- the verdict on a file that is too long, by what its head holds: whether mark and version are right, N and T
abbrev too_long : Bool → ℕ → ℕ → Verdict
too_long marked n t =
    refuse_if (not marked) NotPlanFile
    (refuse_if (not (ports_in_range n)) PortsOutOfRange
    (refuse_if (not (frame_in_range t)) FrameOutOfRange
    (Err FileLength)))

abbrev marked_in : List ℕ → Bool
marked_in file = is_marked file && eqb (version_in file) 1

abbrev too_long_in : List ℕ → Verdict
too_long_in file = too_long (marked_in file) (ports_in file) (frame_in file)

-- a verdict that refuses gives no plan
abbrev refused_by : Verdict → Result Plan Refusal
refused_by v = when_accepted v no_plan

refuse_kept : (b : Bool) (r : Refusal) (v : Verdict) (p : Plan) → when_accepted v p ≡ refused_by v → when_accepted (refuse_if b r v) p ≡ refused_by (refuse_if b r v)
refuse_kept true r v p h = refl
refuse_kept false r v p h = h

no_plan_file : (file : List ℕ) → longest_file < length file → ports_in_range (ports_in file) ≡ true → eqb (length file) (file_length (ports_in file)) ≡ false
no_plan_file file h e = ne_eqb (length file) _ (λ same. omega (arith, same, square_small (ports_in file) (ports_range (ports_in file) e).1))

long_verdict : (file : List ℕ) → longest_file < length file → verdict_of file ≡ too_long_in file
unfolding verdict_of
long_verdict file h =
    simp (le-ltb (length file) 8 (omega arith))
    (refuse_ext (not (marked_in file)) NotPlanFile λ _.
    refuse_ext (not (ports_in_range (ports_in file))) PortsOutOfRange λ hn.
    refuse_ext (not (frame_in_range (frame_in file))) FrameOutOfRange λ _.
    simp (no_plan_file file h (not-false _ hn)))

long_read : (file : List ℕ) → longest_file < length file → read_of file ≡ refused_by (too_long_in file)
unfolding read_of
long_read file h =
    rw (long_verdict file h)
    (refuse_kept (not (marked_in file)) NotPlanFile _ _
    (refuse_kept (not (ports_in_range (ports_in file))) PortsOutOfRange _ _
    (refuse_kept (not (frame_in_range (frame_in file))) FrameOutOfRange _ _ refl)))

module _ (m : ℕ) (file : List ℕ) (enough : longest_file < m) where
  -- the head is within the first m bytes
  head_kept : too_long_in (take m file) ≡ too_long_in file
  unfolding is_marked
  head_kept =
      let at : (p : ℕ) → p < 8 → byte_at (take m file) p ≡ byte_at file p = λ p h. get_or-take m file p 0 (omega arith) in
      simp (
        at 0 (omega arith),
        at 1 (omega arith),
        at 2 (omega arith),
        at 3 (omega arith),
        at 4 (omega arith),
        at 5 (omega arith),
        at 6 (omega arith),
        at 7 (omega arith),
      )

  pub read_cut : read_of (take m file) ≡ read_of file
  read_cut =
      ⊎_elim
      (λ (h : m < length file).
      long_read (take m file) (omega (arith, length-take-le m file (omega arith)))
      ∙ ap refused_by head_kept
      ∙ sym (long_read file (omega arith)))
      (λ (h : length file ≤ m). ap read_of (take_all m file h))
      (lt_or_le m (length file))
