-- Laws of words and sections of words: what the program's function for one answers, by what the steps in it answered.
use Rattle.std.proofs.Common.{Ok, ℕ, ◌+◌, ◌≡◌, List, arith, length, drop}
use lib.Dec.{ltb, leb}
use Rattle.rules.specs.declared.Fault.TheVariants.{BadWord}
use Rattle.rules.specs.Words.{Word}
use Rattle.rules.specs.Files.{count_bytes}
use Rattle.rules.specs.Reading.{got, count, many, word, words}
use Rattle.theory.specs.Readers.{reads_count, reads_many}
use Rattle.theory.specs.Sections.{reads_judged-byte, reads_word}
use Rattle.reader_steps.specs.Steps.{step, number_read, section, word_length, input}
use Rattle.reader_steps.proofs.Laws.{keeps, was_number, was_read}

-- a count that was read stood in two bytes
pub count_place : (p : ℕ) (l : List ℕ) (c q : ℕ) (t : List ℕ) → count p l ≡ got c q t → q ≡ p + 2
unfolding count_bytes
count_place p l c q t e = let y = reads_count.taken p l c q t e in omega (arith, y.place, y.spells.0)

-- n readings read n things
pub many-length : (k n p : ℕ) (l : List ℕ) (w : Word) (q : ℕ) (t : List ℕ) → many (input k) n p l ≡ got w q t → length w ≡ n
many-length k n p l w q t e = ((reads_many (reads_judged-byte (λ i. ltb i k) BadWord tt) n).taken p l w q t e).rule.0

pub words_length : (k most n p : ℕ) (l : List ℕ) (ws : List Word) (q : ℕ) (t : List ℕ) → many (word k most) n p l ≡ got ws q t → length ws ≡ n
words_length k most n p l ws q t e = ((reads_many (reads_word k most) n).taken p l ws q t e).rule.0

module _ (s : List ℕ) (p : ℕ) where
  pub the_length : (most n q : ℕ) → Ok (n, q) ≡ number_read (word_length most p (drop p s)) → word_length most p (drop p s) ≡ got n q (drop q s)
  the_length most n q is = was_number s (word_length most p (drop p s)) n q (keeps (reads_judged-byte (λ n. leb n most) BadWord tt) s p) is

  pub the_count : (c q : ℕ) → Ok (c, q) ≡ number_read (count p (drop p s)) → count p (drop p s) ≡ got c q (drop q s)
  the_count c q is = was_number s (count p (drop p s)) c q (keeps reads_count s p) is

  -- a section whose words were read too
  pub words_read : (k most c q q' : ℕ) → Ok (c, q) ≡ number_read (count p (drop p s)) → Ok q' ≡ step (many (word k most) c q (drop q s))
      → Ok (record { first = q; count = c; next = q' }) ≡ section p (words k most p (drop p s))
  unfolding words
  words_read k most c q q' is is' =
      let (ws, read) = was_read s (many (word k most) c q (drop q s)) q' (keeps (reads_many (reads_word k most) c) s q) is' in
      let long : length ws ≡ c = words_length k most c q (drop q s) ws q' (drop q' s) read in
      let place : q ≡ p + 2 = count_place p (drop p s) c q (drop q s) (the_count c q is) in
      rw (the_count c q is, read, long, ← place)

  -- a word whose inputs were read too
  pub the_word : (most k n q q' : ℕ) → Ok (n, q) ≡ number_read (word_length most p (drop p s)) → Ok q' ≡ step (many (input k) n q (drop q s))
      → (w : Word) × (length w ≡ n) × (word k most p (drop p s) ≡ got w q' (drop q' s))
  unfolding word
  the_word most k n q q' is is' =
      let (w, inputs) = was_read s (many (input k) n q (drop q s)) q' (keeps (reads_many (reads_judged-byte (λ i. ltb i k) BadWord tt) n) s q) is' in
      (w, many-length k n q (drop q s) w q' (drop q' s) inputs, rw (the_length most n q is) inputs)
