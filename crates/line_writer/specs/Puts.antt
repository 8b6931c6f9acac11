-- What a writer leaves: the bytes that it wrote, at their place in the output.
use Rattle.std.specs.Prelude.{ℕ, ◌+◌, ◌≤◌, ◌≡◌, List, [], ◌∷◌, ◌++◌, length, take, drop}
use Rattle.rules.specs.Line.{text}

-- what an output holds after the bytes w were written from the place p on
unfoldable pub wrote : List ℕ → ℕ → List ℕ → List ℕ
wrote out p w = take p out ++ (w ++ drop (p + length w) out)

-- w was written to `out` from p on, which left `left`, and q is the place after it
pub record Puts (out : List ℕ) (p : ℕ) (w left : List ℕ) (q : ℕ) : Type 0 where
  pub after : q ≡ p + length w
  pub room : p + length w ≤ length out
  pub bytes : left ≡ wrote out p w

-- what follows a word of a line: the words after it, each behind a space, and the line feed
abbrev pub closing : List (List ℕ) → List ℕ
closing [] = text "\n"
closing (w ∷ ws) = (text " " ++ w) ++ closing ws

-- it was written to `out` from p on, which left `left`, and q is the place after it
pub record Closes (out : List ℕ) (p : ℕ) (ws : List (List ℕ)) (left : List ℕ) (q : ℕ) : Type 0 where
  pub puts : Puts out p (closing ws) left q

-- a number of 64 bits has no more decimal digits
abbrev pub most_digits : ℕ
most_digits = 20
