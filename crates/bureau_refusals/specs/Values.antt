-- Document 01, the table of refusals, with those of document 02: the line of a refusal, with every value that it returns.
use Rattle.std.specs.Prelude.{ℕ, List, [], ◌∷◌, take}
use Rattle.rules.specs.declared.Middle.{Middle}
use Rattle.rules.specs.declared.Refusal.{Refusal}
use Rattle.rules.specs.declared.Refusal.TheVariants.{Malformed, NoEmptyWord, Unreached, NoSeparator, NotSeparated, Missing, Repeated, Foreign, Absent, OtherInputs, TooManyStates, NoRoom, NotReduced, BadLine, Contradiction, Incomplete}
use Rattle.rules.specs.Words.{Word}
use Rattle.rules.specs.Answers.{number_of}
use Rattle.rules.specs.Line.{text, decimal, hex, line, letter}

-- a word of inputs; an empty one is a dash
abbrev pub spelled : Word → List ℕ
spelled [] = text "-"
spelled (i ∷ w) = hex (i ∷ w)

-- the inputs of a middle: so many of the five as it has
abbrev pub five_inputs : Middle → Word
five_inputs y = y.a.0 ∷ y.b.0 ∷ y.c.0 ∷ y.d.0 ∷ y.e.0 ∷ []

abbrev pub middle_word : Middle → Word
middle_word y = take y.len (five_inputs y)

-- what is also returned
abbrev pub value_words : Refusal → List (List ℕ)
value_words (Malformed fault f p) = letter f ∷ decimal p ∷ []
value_words NoEmptyWord = []
value_words (Unreached f q) = decimal q.0 ∷ []
value_words NoSeparator = []
value_words (NotSeparated p q) = decimal p.0 ∷ decimal q.0 ∷ []
value_words (Missing c y s) = decimal c ∷ spelled (middle_word y) ∷ decimal s ∷ []
value_words (Repeated r) = decimal r ∷ []
value_words (Foreign r) = decimal r ∷ []
value_words (Absent t) = decimal t ∷ []
value_words OtherInputs = []
value_words TooManyStates = []
value_words (NoRoom n) = decimal n ∷ []
value_words (NotReduced p q) = decimal p.0 ∷ decimal q.0 ∷ []
value_words (BadLine n) = decimal n ∷ []
value_words (Contradiction n) = decimal n ∷ []
value_words (Incomplete q i) = decimal q.0 ∷ decimal i.0 ∷ []

unfoldable pub refused_line : Refusal → List ℕ
refused_line r = line (text "REFUSED" ∷ decimal (number_of r) ∷ value_words r)
