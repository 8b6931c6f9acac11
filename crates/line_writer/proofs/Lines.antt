-- Laws of writing a line word by word, each word but the first with the space before it.
use Prim.Native.Nat.{ℕ}
use mathlib.Core.Path.{◌≡◌, refl, ap, ◌∙◌}
use mathlib.Core.List.{List, [], ◌∷◌, ◌++◌, append_assoc}
use Rattle.rules.specs.Line.{text, line}
use Rattle.line_writer.specs.Puts.{Puts, closing, Closes}
use Rattle.line_writer.proofs.Writing.{puts_then}

-- a line is its first word and what closes it
line-closing : (w : List ℕ) (ws : List (List ℕ)) → line (w ∷ ws) ≡ w ++ closing ws
line-closing w [] = refl
line-closing w (v ∷ ws) = append_assoc w (text " ") (line (v ∷ ws)) ∙ ap (λ (l : List ℕ). w ++ (text " " ++ l)) (line-closing v ws)

-- nothing but the line feed
pub feed_closes : {out last : List ℕ} {p r : ℕ} → Puts out p (text "\n") last r → Closes out p [] last r
feed_closes a = record { puts = a }

module _ {out left last : List ℕ} {p q r : ℕ} {w : List ℕ} {ws : List (List ℕ)} where
  -- the next word of a line
  pub next_closes : Puts out p (text " " ++ w) left q → Closes left q ws last r → Closes out p (w ∷ ws) last r
  next_closes a b = record { puts = puts_then a b.puts }

  -- its first word
  pub first_closes : Puts out p w left q → Closes left q ws last r → Puts out p (line (w ∷ ws)) last r
  first_closes a b = rw (line-closing w ws) (puts_then a b.puts)
