-- Writing and reading undo one another: the bytes of a plan are read as that plan, and the plan of an accepted file is
-- written as that file.
use Prim.Native.Nat.{ℕ, zero, suc, ◌+◌, ◌*◌, ◌/◌, ◌%◌, ◌<◌, ◌≤◌}
use mathlib.Core.Path.{◌≡◌, refl, ap, sym, ◌∙◌}
use mathlib.Core.Bool.{true, ◌&&◌}
use mathlib.Core.List.{List, [], ◌∷◌, ◌++◌, append_assoc, append-nil}
use mathlib.Core.Logic.{⊎_elim}
use native.Mathlib.Numerals.{add-one}
use native.Mathlib.Omega.{arith}
use lib.Dec.{eqb}
use lib.ListN.{length, get_or, take, length-append, get_or-append}
use lib.Seq.{take-suc, get_or-append-add, get_or_at, take_all, ext_get_or}
use borrow.Author.Tests.{le-ltb, eqb-true, eq-eqb}
use Rattle.std.specs.Prelude.{Ok}
use Rattle.std.specs.Int.{w16, to_le_bytes}
use Rattle.plan.specs.Range.{most_flows}
use Rattle.plan.specs.Accept.{accept_of}
use Rattle.plan.proofs.AcceptLaws.{accepted}
use Rattle.plan.specs.Below.{list_below}
use Rattle.plan.proofs.BelowLaws.{and_true, below_or_last}
use Rattle.plan.proofs.LineLaws.{square_small}
use Rattle.plan.proofs.ListLaws.{length_list, get_d_list}
use Rattle.plan.proofs.RangeLaws.{ports_in_lem, frame_in_lem}
use Rattle.planfile.specs.Layout.{byte_at, word_at, is_marked, version_in, ports_in, frame_in, file_length, longest_file, rates_of}
use Rattle.planfile.specs.Read.{verdict_of, read_of}
use Rattle.planfile.specs.Write.{word_of, head_of, rate_bytes, file_of, write_of, ReadsBack, AreBytes, WritesBack}
use Rattle.planfile.proofs.LayoutLaws.{rates_length, padded_take}
use Rattle.planfile.proofs.ReadLaws.{accepted_file, read_accepted}

head_length : (n t : ℕ) → length (head_of n t) ≡ 8
unfolding head_of
head_length n t = refl

pub head_room_lem : (n t : ℕ) → length (head_of n t) ≤ longest_file
head_room_lem n t = omega (arith, head_length n t)

rate_bytes_length : (rates : List ℕ) (count : ℕ) → length (rate_bytes rates count) ≡ 2 * count
unfolding rate_bytes
rate_bytes_length rates zero = refl
rate_bytes_length rates (suc p) = simp length-append (omega (arith, rate_bytes_length rates p))

pub file_length_lem : (n t : ℕ) (rates : List ℕ) → length (file_of n t rates) ≡ 8 + 2 * length rates
unfolding file_of
file_length_lem n t rates = omega (arith, length-append (head_of n t) (rate_bytes rates (length rates)), head_length n t, rate_bytes_length rates (length rates))

-- byte j of rate p
rate_byte : (rates : List ℕ) (count p j : ℕ) → p < count → j < 2 → get_or (rate_bytes rates count) (2 * p + j) 0 ≡ get_or (word_of (get_or rates p 0)) j 0
unfolding rate_bytes
rate_byte rates zero p j l small = absurd (omega arith)
rate_byte rates (suc count) p j l small =
    ⊎_elim
    (λ (b : p < count). get_or-append (rate_bytes rates count) _ 0 (2 * p + j) (omega (arith, rate_bytes_length rates count)) ∙ rate_byte rates count p j b small)
    (λ (e : p ≡ count).
    let place : 2 * p + j ≡ length (rate_bytes rates count) + j = omega (arith, rate_bytes_length rates count) in
    rw (place, sym e) (get_or-append-add (rate_bytes rates p) (word_of (get_or rates p 0)) j 0))
    (below_or_last p count l)

-- the two bytes of a word joined
word_joined : (x : ℕ) → x % 256 + 256 * (x / 256) ≡ x
word_joined x = omega arith

-- What is read of a file that was written.
module _ (n t : ℕ) (rates : List ℕ) where
  marked_written : (is_marked (file_of n t rates) && eqb (version_in (file_of n t rates)) 1) ≡ true
  unfolding file_of head_of is_marked
  marked_written = refl

  ports_written : ports_in (file_of n t rates) ≡ n
  unfolding file_of head_of
  ports_written = refl

  frame_written : frame_in (file_of n t rates) ≡ t
  unfolding file_of head_of
  frame_written = word_joined t

  byte_written : (p j at : ℕ) → p < length rates → j < 2 → at ≡ 8 + (2 * p + j) → byte_at (file_of n t rates) at ≡ get_or (word_of (get_or rates p 0)) j 0
  unfolding file_of
  byte_written p j at l small e =
      let place : at ≡ length (head_of n t) + (2 * p + j) = omega (arith, head_length n t) in
      rw place (get_or-append-add (head_of n t) (rate_bytes rates (length rates)) (2 * p + j) 0 ∙ rate_byte rates (length rates) p j l small)

  word_written : (p : ℕ) → p < length rates → word_at (file_of n t rates) (8 + 2 * p) ≡ get_or rates p 0
  word_written p l =
      rw (byte_written p 0 (8 + 2 * p) l (omega arith) (omega arith), byte_written p 1 (8 + 2 * p + 1) l (omega arith) (omega arith))
      (word_joined (get_or rates p 0))

  rates_written : (count : ℕ) → count ≤ length rates → rates_of (file_of n t rates) count ≡ take count rates
  unfolding rates_of
  rates_written zero l = refl
  rates_written (suc p) l = rw (rates_written p (omega arith), word_written p l, take-suc rates p 0 l) refl

pub reads_back : ReadsBack
unfolding read_of verdict_of
reads_back n t rates e =
    let plan = accepted n t rates e in
    let file = file_of n t rates in
    let whole : length file ≡ file_length n = omega (arith, file_length_lem n t rates, plan.square) in
    let all : rates_of file (n * n) ≡ rates = rates_written n t rates (n * n) (omega (arith, plan.square)) ∙ take_all (n * n) rates (omega (arith, plan.square)) in
    rw (
      ports_written n t rates,
      frame_written n t rates,
      marked_written n t rates,
      le-ltb (length file) 8 (omega arith),
      ports_in_lem n plan.some_port plan.few_ports,
      frame_in_lem t plan.some_slot plan.few_slots,
      eq-eqb (length file) (file_length n) whole,
      all,
      e,
    )
    refl

-- the two bytes of a word, the lower one a byte
word_split : (low high : ℕ) → low < 256 → word_of (low + 256 * high) ≡ low ∷ high ∷ []
word_split low high l =
    let first : (low + 256 * high) % 256 ≡ low = omega arith in
    let second : (low + 256 * high) / 256 ≡ high = omega arith in
    rw (first, second) refl

rate_read : (file : List ℕ) (count p : ℕ) → p < count → get_or (rates_of file count) p 0 ≡ word_at file (8 + 2 * p)
unfolding rates_of
rate_read file zero p l = absurd (omega arith)
rate_read file (suc count) p l =
    ⊎_elim
    (λ (b : p < count). get_or-append (rates_of file count) _ 0 p (omega (arith, rates_length file count)) ∙ rate_read file count p b)
    (λ (e : p ≡ count). rw (sym e) (get_or_at (rates_of file p) (word_at file (8 + 2 * p)) [] 0 p (rates_length file p)))
    (below_or_last p count l)

all_bytes : (file : List ℕ) → list_below (byte_at file) (length file) ≡ file
all_bytes file =
    ext_get_or 0 (list_below (byte_at file) (length file)) file (length_list (byte_at file) (length file))
    (λ k h. get_d_list (byte_at file) (length file) k 0 (omega (arith, length_list (byte_at file) (length file))))

-- What is written of a file that was read.
module _ (file : List ℕ) (bytes : AreBytes file) (marked : (is_marked file && eqb (version_in file) 1) ≡ true) where
  head_read : head_of (ports_in file) (frame_in file) ≡ list_below (byte_at file) 8
  unfolding head_of is_marked list_below
  head_read =
      let all = and_true (is_marked file) (eqb (version_in file) 1) marked in
      let mark = and_true (eqb (byte_at file 0) 76 && eqb (byte_at file 1) 83) (eqb (byte_at file 2) 80) all.0 in
      let begin = and_true (eqb (byte_at file 0) 76) (eqb (byte_at file 1) 83) mark.0 in
      let version = eqb-true (version_in file) 1 all.1 in
      let version_low : byte_at file 3 ≡ 1 = omega (arith, bytes 3) in
      let version_high : byte_at file 4 ≡ 0 = omega (arith, bytes 3) in
      let frame_low : frame_in file % 256 ≡ byte_at file 6 = omega (arith, bytes 6) in
      let frame_high : frame_in file / 256 ≡ byte_at file 7 = omega (arith, bytes 6) in
      rw (
        eqb-true (byte_at file 0) 76 begin.0,
        eqb-true (byte_at file 1) 83 begin.1,
        eqb-true (byte_at file 2) 80 mark.1,
        version_low,
        version_high,
        frame_low,
        frame_high,
      )
      refl

  file_read : (count c : ℕ) → c ≤ count → head_of (ports_in file) (frame_in file) ++ rate_bytes (rates_of file count) c ≡ list_below (byte_at file) (8 + 2 * c)
  unfolding rate_bytes list_below
  file_read count zero l = append-nil (head_of (ports_in file) (frame_in file)) ∙ head_read
  file_read count (suc c) l =
      let next : 8 + 2 * suc c ≡ suc (suc (8 + 2 * c)) = omega arith in
      let word = word_split (byte_at file (8 + 2 * c)) (byte_at file (8 + 2 * c + 1)) (bytes (8 + 2 * c)) in
      rw (next, rate_read file count c l, word, ← append_assoc, file_read count c (omega arith), add-one) (simp append_assoc)

pub writes_back : WritesBack
unfolding file_of
writes_back file plan bytes e =
    let read = read_accepted file plan e in
    let known = accepted_file file read.0 in
    let n = ports_in file in
    let rates = rates_of file (n * n) in
    let count = rates_length file (n * n) in
    rw (sym read.1, padded_take rates (n * n) count, count)
    (file_read file bytes known.marked (n * n) (n * n) (omega arith)
    ∙ ap (list_below (byte_at file)) (sym known.whole)
    ∙ all_bytes file)

-- an accepted plan is written as its file
pub write_accepted : (n t : ℕ) (rates : List ℕ) → accept_of n t rates ≡ Ok tt → write_of n t rates ≡ Ok (record { items = file_of n t rates })
unfolding write_of
write_accepted n t rates e = rw e refl

-- no file of an accepted plan is longer than the longest
pub file_short : (n t : ℕ) (rates : List ℕ) → accept_of n t rates ≡ Ok tt → length (file_of n t rates) ≤ longest_file
file_short n t rates e =
    let plan = accepted n t rates e in
    omega (arith, file_length_lem n t rates, square_small n plan.few_ports, plan.square)

-- one rate more behind the head and the first p
pub file_next : (n t : ℕ) (rates : List ℕ) (p : ℕ) → get_or rates p 0 < 65536
    → (head_of n t ++ rate_bytes rates p) ++ to_le_bytes w16 (get_or rates p 0) ≡ head_of n t ++ rate_bytes rates (suc p)
unfolding rate_bytes
file_next n t rates p small =
    let high : get_or rates p 0 / 256 % 256 ≡ get_or rates p 0 / 256 = omega arith in
    rw (append_assoc, high) refl

pub file_room : (n t : ℕ) (rates : List ℕ) (p : ℕ) → p < most_flows → length (head_of n t ++ rate_bytes rates p) + 2 ≤ longest_file
file_room n t rates p h = simp length-append (omega (arith, head_length n t, rate_bytes_length rates p))
