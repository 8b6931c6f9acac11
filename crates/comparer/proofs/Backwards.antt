-- Laws of a word that is read back through the queue, and of what is answered of it.
use Prim.Native.Nat.{ℕ, suc, ◌+◌, ◌-◌, ◌≤◌, ◌<◌}
use native.Mathlib.Omega.{arith}
use native.Mathlib.Numerals.{add-one}
use mathlib.Core.Path.{◌≡◌, refl, sym, ap, ◌∙◌}
use mathlib.Core.List.{List, [], ◌∷◌, ◌++◌, append_assoc}
use mathlib.Core.Option.{some}
use borrow.Author.Tests.{le-leb, lt-leb}
use lib.ListN.{length, drop, set, length-append, length-set}
use lib.Seq.{drop-cons, get_or-set_same, drop-set-lt}
use Rattle.rules.specs.declared.Refusal.TheVariants.{NoRoom}
use Rattle.rules.specs.declared.Compared.TheVariants.{Differs, Refused}
use Rattle.rules.specs.Words.{Word}
use Rattle.rules.specs.Operations.{overwritten}
use Rattle.comparer_pairs.specs.Queue.{parent_at, input_at, word_to, Falls}
use Rattle.comparer.specs.Found.{Answers}
use Rattle.comparer_pairs.proofs.Spelled.{word_start, word_next, word_short}

-- writing a word is writing its last input, and then the others
pub overwritten_last : (v : Word) (i : ℕ) (out : List ℕ) → length v < length out → overwritten v (set out (length v) i) ≡ overwritten (v ++ (i ∷ [])) out
overwritten_last v i out inside =
    let long : length (v ++ (i ∷ [])) ≡ suc (length v) = length-append v (i ∷ []) ∙ add-one (length v) in
    let inside' : length v < length (set out (length v) i) = simp length-set inside in
    let rest : drop (length v) (set out (length v) i) ≡ i ∷ drop (suc (length v)) out =
    drop-cons (set out (length v) i) (length v) 0 inside' ∙ rw (get_or-set_same out (length v) i 0 inside, drop-set-lt (suc (length v)) out (length v) i (omega arith)) in
    rw (long, rest, append_assoc)

module _ (queue : List ℕ) (place : ℕ) (falls : Falls queue (place + 1)) where
  -- one step back
  module _ (at p : ℕ) (some' : 0 < at) (low : at ≤ place) (is : p ≡ parent_at queue at) where
    pub back_less : p < at
    back_less = rw is (falls.earlier at some' (omega arith))

    back_word : word_to queue at ≡ word_to queue p ++ (input_at queue at ∷ [])
    back_word = rw is (word_next queue (place + 1) falls at some' (omega arith))

    pub back_length : length (word_to queue at) ≡ length (word_to queue p) + 1
    back_length = ap length back_word ∙ length-append (word_to queue p) (input_at queue at ∷ [])

    pub back_written : (left i : ℕ) (out : List ℕ) → left ≡ length (word_to queue at) → left ≤ length out → i ≡ input_at queue at
        → overwritten (word_to queue p) (set out (left - 1) i) ≡ overwritten (word_to queue at) out
    back_written left i out long room is_i =
        let shorter : left - 1 ≡ length (word_to queue p) = omega (arith, back_length) in
        rw (shorter, is_i) (overwritten_last (word_to queue p) (input_at queue at) out (omega (arith, back_length)) ∙ ap (λ w. overwritten w out) (sym back_word))

  pub back_short : (at : ℕ) → at ≤ place → length (word_to queue at) ≤ at
  back_short at low = word_short queue (place + 1) falls at (omega arith)

  pub back_start : (at : ℕ) → at ≤ 0 → word_to queue at ≡ []
  back_start at z = let e : at ≡ 0 = omega arith in rw (e, word_start queue)

-- a word and one input more, where the word has n inputs
module _ (w : Word) (i n : ℕ) (out : List ℕ) (long : n ≡ length w) where
  whole_length : length (w ++ (i ∷ [])) ≡ n + 1
  whole_length = length-append w (i ∷ []) ∙ ap (λ m. m + 1) (sym long)

  pub answers_no_room : length out < n + 1 → Answers (some (w ++ (i ∷ []))) out (Refused (NoRoom (n + 1))) out
  answers_no_room short = rw (lt-leb (length (w ++ (i ∷ []))) (length out) (omega (arith, whole_length))) (ap (λ m. Refused (NoRoom m)) (sym whole_length), refl)

  pub answers_written : (left : List ℕ) (v : ℕ) → v ≡ i → n + 1 ≤ length out → left ≡ overwritten w (set out n v) → Answers (some (w ++ (i ∷ []))) out (Differs (n + 1)) left
  answers_written left v last room is =
      rw (le-leb (length (w ++ (i ∷ []))) (length out) (omega (arith, whole_length)))
      (ap Differs (sym whole_length), is ∙ rw (last, long) (overwritten_last w i out (omega arith)))
