-- Laws of the values of a refusal as words of a line.
use Prim.Native.Nat.{ℕ, zero, suc, ◌≤◌, ◌<◌, min}
use native.Mathlib.Decide.{dec_le}
use native.Mathlib.Omega.{arith}
use mathlib.Core.Path.{◌≡◌, refl, sym, ap, subst}
use mathlib.Core.List.{List, [], ◌∷◌, ◌++◌}
use lib.ListN.{length, take}
use lib.Seq.{length-take-le}
use Rattle.rules.specs.declared.Middle.{Middle}
use Rattle.rules.specs.declared.Refusal.{Refusal}
use Rattle.rules.specs.declared.Refusal.TheVariants.{Missing}
use Rattle.rules.specs.Words.{Word, Valid}
use Rattle.rules.specs.Answers.{number_of, refusing}
use Rattle.rules.specs.Line.{text, decimal, hex, line}
use Rattle.theory.specs.Bounds.{Fits}
use Rattle.line_writer.specs.Puts.{Puts, Closes}
use Rattle.line_writer.proofs.Lines.{next_closes, first_closes}
use Rattle.bureau_refusals.specs.Values.{spelled, five_inputs, middle_word, value_words, refused_line}

-- a word of inputs, by its length
pub spelled_none : (w : Word) → length w ≡ 0 → spelled w ≡ text "-"
spelled_none [] none = refl
spelled_none (i ∷ w) none = absurd (omega arith)

pub spelled_some : (w : Word) → 0 < length w → spelled w ≡ hex w
spelled_some [] some = absurd (omega arith)
spelled_some (i ∷ w) some = refl

-- the first inputs of a word
valid_take : (k n : ℕ) (w : Word) → Valid k w → Valid k (take n w)
valid_take k zero w valid = tt
valid_take k (suc n) [] valid = tt
valid_take k (suc n) (i ∷ w) (below, valid) = (below, valid_take k n w valid)

take_all : (n : ℕ) (w : Word) → length w ≤ n → take n w ≡ w
take_all zero [] all = refl
take_all zero (i ∷ w) all = absurd (omega arith)
take_all (suc n) [] all = refl
take_all (suc n) (i ∷ w) all = ap (λ (v : Word). i ∷ v) (take_all n w (omega arith))

-- the first n inputs of a middle, which stand in l
module _ (y : Middle) (n : ℕ) (short : n ≡ min y.len 5) (l : List ℕ) (five : l ≡ five_inputs y) (valid : Valid 16 (five_inputs y)) where
  pub part_middle : take n l ≡ middle_word y
  part_middle =
      rw five (elim (dec_le y.len 5) [
        | yes less ↦ let all : n ≡ y.len = omega arith in rw all
        | no more ↦ let all : n ≡ 5 = omega arith in rw all (sym (take_all y.len (five_inputs y) (omega arith)))
      ])

  pub part_valid : Valid 16 (take n l)
  part_valid = rw part_middle (valid_take 16 y.len (five_inputs y) valid)

  pub part_short : length (take n l) ≤ 5
  part_short = omega (arith, length-take-le n l (omega (arith, ap (λ (w : Word). length w) five)))

-- the inputs of a middle that a refusal has
pub middle_valid : (r : Refusal) (c : ℕ) (y : Middle) (s : ℕ) → Fits (refusing r) → r ≡ Missing c y s → Valid 16 (five_inputs y)
middle_valid r c y s fits is =
    let small = rw is at fits in
    let input = (small.missing refl).inputs in
    (input 0 (omega arith), (input 1 (omega arith), (input 2 (omega arith), (input 3 (omega arith), (input 4 (omega arith), tt)))))

-- `REFUSED`, its number and its values
pub refused_closes : {out said numbered last : List ℕ} {p q a b : ℕ} (r : Refusal) (n : ℕ) → n ≡ number_of r
    → Puts out p (text "REFUSED") said q → Puts said q (text " " ++ decimal n) numbered a → Closes numbered a (value_words r) last b → Puts out p (refused_line r) last b
unfolding refused_line
refused_closes {out} {said} {numbered} {last} {p} {q} {a} {b} r n number first second values =
    subst (λ (m : ℕ). Puts out p (line (text "REFUSED" ∷ decimal m ∷ value_words r)) last b) number (first_closes first (next_closes second values))
