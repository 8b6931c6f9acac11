-- Document 01, "What the proofs owe us": a text is said by one line only, so that the promise of each function that gives a line
-- allows one result.
use Rattle.std.specs.Prelude.{ℕ, ◌≡◌, List, ◌++◌, length, take, drop, replicate}
use Rattle.std.proofs.Common.{arith, sym, ◌∙◌, ap, take-append-drop, length-take-le}
use Rattle.rules.specs.Promises.{LinePromise}
use Rattle.line.specs.declared.Line.{Line}
use Rattle.line.specs.Lines.{line_room, Says, RunLinePromise}

-- the length and the bytes that a text leaves
module _ (said : List ℕ) (r : Line) (says : Says said r) where
  length_is : r.length ≡ length said
  length_is = sym (length-take-le r.length r.bytes (omega (arith, says.within, says.size))) ∙ ap (λ (l : List ℕ). length l) says.printed

  bytes_are : r.bytes ≡ said ++ drop (length said) (replicate line_room 0)
  bytes_are = sym (take-append-drop r.length r.bytes) ∙ rw (says.printed, says.behind, length_is)

-- Any two lines that say the same are equal.
pub one_line : (said : List ℕ) (r s : Line) → Says said r → Says said s → r ≡ s
one_line said r s p q =
    let bytes : r.bytes ≡ s.bytes = bytes_are said r p ∙ sym (bytes_are said s q) in
    let long : r.length ≡ s.length = length_is said r p ∙ sym (length_is said s q) in
    λ i. record { bytes = bytes i; length = long i }

-- What `run_line` says is the rules' line.
pub run_line_promised : (golden_file unit_file : List ℕ) (r : Line) → RunLinePromise golden_file unit_file r → LinePromise golden_file unit_file (take r.length r.bytes)
run_line_promised golden_file unit_file r says = says.printed
