-- For the code: the columns of a list, one after the other, become the rows of an array.
use Rattle.std.specs.Prelude.{ℕ, zero, suc, List, get_or, set}
use Rattle.plan.specs.Lines.{flow_of}

unfoldable pub transposed_row : List ℕ → ℕ → ℕ → List ℕ → ℕ → List ℕ
transposed_row rates n j array zero = array
transposed_row rates n j array (suc m) = set (transposed_row rates n j array m) (flow_of n j m) (get_or rates (flow_of n m j) 0)

unfoldable pub transposed : List ℕ → ℕ → List ℕ → ℕ → List ℕ
transposed rates n array zero = array
transposed rates n array (suc m) = transposed_row rates n m (transposed rates n array m) n
