-- "Bytes: "LSP" in ASCII, version (16 bits, 1), N (8 bits), T (16 bits), N × N rates (16 bits each), low byte
-- first." Of a file that ends before one of these, that number means nothing: specs/Read.antt refuses such a
-- file before it looks there.
use Rattle.std.specs.Prelude.{ℕ, zero, suc, ◌+◌, ◌*◌, ◌-◌, Bool, ◌&&◌, List, [], ◌∷◌, ◌++◌, eqb, length, get_or, replicate}
use Rattle.plan.specs.Range.{most_ports, most_flows}

abbrev pub byte_at : List ℕ → ℕ → ℕ
byte_at file p = get_or file p 0

-- 16 bits, low byte first
abbrev pub word_at : List ℕ → ℕ → ℕ
word_at file p = byte_at file p + 256 * byte_at file (p + 1)

-- "LSP" in ASCII
unfoldable pub is_marked : List ℕ → Bool
is_marked file = eqb (byte_at file 0) 76 && eqb (byte_at file 1) 83 && eqb (byte_at file 2) 80

abbrev pub version_in : List ℕ → ℕ
version_in file = word_at file 3

abbrev pub ports_in : List ℕ → ℕ
ports_in file = byte_at file 5

abbrev pub frame_in : List ℕ → ℕ
frame_in file = word_at file 6

-- the bytes of a file for N ports
abbrev pub file_length : ℕ → ℕ
file_length n = 8 + 2 * (n * n)

abbrev pub longest_file : ℕ
longest_file = file_length most_ports

-- the first `count` rates
unfoldable pub rates_of : List ℕ → ℕ → List ℕ
rates_of file zero = []
rates_of file (suc p) = rates_of file p ++ (word_at file (8 + 2 * p) ∷ [])

-- a list in an array of `size` places, 0 in those that are left
unfoldable pub padded_to : ℕ → List ℕ → List ℕ
padded_to size list = list ++ replicate (size - length list) 0

-- rates in the array of a plan
abbrev pub padded : List ℕ → List ℕ
padded rates = padded_to most_flows rates
