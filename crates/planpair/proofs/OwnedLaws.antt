-- What owning a plan tells of its array: it has its length.
use mathlib.Core.List.{List}
use mathlib.Core.Path.{◌≡◌}
use lib.ListN.{length}
use mir.Syntax.{w16}
use mir.Val.{Val}
use denote.Laws.{Is}
use denote.Struct.Declared.{row}
use borrow.Kind.Array.{e_int, good_length}
use Rattle.plan.specs.Range.{most_flows}
use Rattle.plan.specs.declared.Plan.{Plan}
use Rattle.plan.specs.contracts.Plan.{the_type}

module _ (p : Plan) (vs : List Val) (owned : Is (row the_type) p vs) where
  -- `owned` has a part for each field of the struct, and the rates are the third
  pub rates_full : length p.rates ≡ most_flows
  rates_full = good_length (e_int w16) most_flows p.rates _ owned.1.1.1.1.0
