-- What the program's steps answer of a reading: the place after it, with what was read where that matters; or the fault and its
-- place. And the names by which the program calls readers that the rules write out where they use them.
use Rattle.std.specs.Prelude.{◌≡◌, ℕ, zero, suc, ◌+◌, ◌<◌, List, ltb, leb, length, drop, Result, Ok, Err}
use Rattle.rules.specs.declared.Fault.{Fault}
use Rattle.rules.specs.declared.Fault.TheVariants.{BadWord}
use Rattle.rules.specs.Words.{Word}
use Rattle.rules.specs.Reading.{Got, got, faulty, Reader, byte, judged}
use Rattle.reader_steps.specs.declared.Stop.{Stop}
use Rattle.reader_steps.specs.declared.Section.{Section}

-- the bytes of a section's count
abbrev pub count_width : ℕ
count_width = 2

abbrev pub stop : Fault → ℕ → Stop
stop fault p = record { fault = fault; place = p }

-- what is answered of a reading, by what was read and the place after it
abbrev pub answered : {A B : Type 0} → (A → ℕ → B) → Got A → Result B Stop
answered seen (got a p l) = Ok (seen a p)
answered seen (faulty fault p) = Err (stop fault p)

-- only where it ended
abbrev pub step : {A : Type 0} → Got A → Result ℕ Stop
step = answered (λ a p. p)

-- the step of a reader over the bytes s, by the place that it starts from
abbrev pub stepping : {A : Type 0} → Reader A → List ℕ → ℕ → Result ℕ Stop
stepping read s p = step (read p (drop p s))

-- a byte or a count, and where it ended
abbrev pub number_read : Got ℕ → Result (ℕ × ℕ) Stop
number_read = answered (λ b p. (b, p))

-- a section of words that was read from p on
abbrev pub words_from : ℕ → List Word → ℕ → Section
words_from p ws q = record { first = p + count_width; count = length ws; next = q }

abbrev pub section : ℕ → Got (List Word) → Result Section Stop
section p = answered (words_from p)

-- calls of a closure with numbers below `end` give what f gives
abbrev pub Gives : {R : Type 0} → ℕ → (ℕ → R → Type 0) → (ℕ → R) → Type 0
Gives {R} end post f = (x : ℕ) (r : R) → x < end → post x r → r ≡ f x

-- a step, and what follows it
abbrev pub onward : (ℕ → Result ℕ Stop) → Result ℕ Stop → Result ℕ Stop
onward next (Ok p) = next p
onward next (Err e) = Err e

-- n steps, each from where the one before it ended
abbrev pub repeated : (ℕ → Result ℕ Stop) → ℕ → ℕ → Result ℕ Stop
repeated next zero p = Ok p
repeated next (suc n) p = onward (repeated next n) (next p)

abbrev pub word_length : ℕ → Reader ℕ
word_length most = judged (λ n. leb n most) BadWord byte

abbrev pub input : ℕ → Reader ℕ
input k = judged (λ i. ltb i k) BadWord byte
