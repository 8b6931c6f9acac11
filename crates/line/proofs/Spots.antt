-- Laws of the line of a refusal: only 1 to 6 have a place.
use Prim.Native.Nat.{ℕ}
use mathlib.Core.Path.{◌≡◌, refl, sym, ap, ◌∙◌, subst}
use mathlib.Core.List.{List, [], ◌∷◌, ◌++◌}
use Rattle.rules.specs.declared.File.{File}
use Rattle.rules.specs.declared.Fault.{Fault}
use Rattle.rules.specs.declared.Refusal.{Refusal}
use Rattle.rules.specs.declared.Refusal.TheVariants.{Malformed, NoEmptyWord, Unreached, NoSeparator, NotSeparated, Missing, Repeated, Foreign, Absent, OtherInputs, TooManyStates, NoRoom, NotReduced, BadLine, Contradiction, Incomplete}
use Rattle.rules.specs.Answers.{number_of}
use Rattle.rules.specs.Line.{text, decimal, letter, line, spot, refusal_line}
use Rattle.line_writer.specs.Puts.{Puts, Closes}
use Rattle.line_writer.proofs.Lines.{feed_closes, next_closes, first_closes}

pub no_spot : (r : Refusal) → ((fault : Fault) (f : File) (place : ℕ) → r ≡ Malformed fault f place → ⊥) → spot r ≡ []
no_spot (Malformed fault f p) other = absurd (other fault f p refl)
no_spot NoEmptyWord other = refl
no_spot (Unreached f q) other = refl
no_spot NoSeparator other = refl
no_spot (NotSeparated p q) other = refl
no_spot (Missing c y s) other = refl
no_spot (Repeated i) other = refl
no_spot (Foreign i) other = refl
no_spot (Absent i) other = refl
no_spot OtherInputs other = refl
no_spot TooManyStates other = refl
no_spot (NoRoom n) other = refl
no_spot (NotReduced p q) other = refl
no_spot (BadLine n) other = refl
no_spot (Contradiction n) other = refl
no_spot (Incomplete q i) other = refl

-- `REFUSED` and the number n have been written
module _ (r : Refusal) (n : ℕ) (number : n ≡ number_of r) (out said numbered last : List ℕ) (p q a b : ℕ)
    (first : Puts out p (text "REFUSED") said q) (second : Puts said q (text " " ++ decimal n) numbered a) where
  pub refused_at : (fault : Fault) (f : File) (place : ℕ) → r ≡ Malformed fault f place → Closes numbered a (letter f ∷ decimal place ∷ []) last b → Puts out p (refusal_line r) last b
  refused_at fault f place is rest = rw (is, ← number) (first_closes first (next_closes second rest))

  pub refused_only : spot r ≡ [] → Puts numbered a (text "\n") last b → Puts out p (refusal_line r) last b
  refused_only none feed =
      let words : refusal_line r ≡ line (text "REFUSED" ∷ decimal n ∷ []) =
      ap (λ (ws : List (List ℕ)). line (text "REFUSED" ∷ decimal (number_of r) ∷ ws)) none ∙ ap (λ (m : ℕ). line (text "REFUSED" ∷ decimal m ∷ [])) (sym number)
      in
      subst (λ (l : List ℕ). Puts out p l last b) (sym words) (first_closes first (next_closes second (feed_closes feed)))
