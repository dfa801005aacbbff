use Prim.Native.Nat.{◌-◌, ◌^◌, ◌<◌, ◌≤◌}
use mathlib.Core.Path.{◌≡◌}
use lib.ListN.{length, drop}
use Rattle.plantext.specs.Values.{digits_from}
use Rattle.plantext.proofs.scan.count_digits.Given as goal

-- what is taken from here on, with what was taken so far, is what is taken from the beginning
abbrev pub invariant-loop-count : goal.invariant-loop-count
invariant-loop-count l = record {
  within : l.count ≤ length l.text;
  small : l.value < 10 ^ l.count;
  taken : digits_from (5 - l.count) l.count l.value (drop l.count l.text) ≡ digits_from 5 0 0 l.text;
}
