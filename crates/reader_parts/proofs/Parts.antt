-- Laws of the parts of a file: what the program's function for a part answers, by what the steps in it answered.
use Rattle.std.proofs.Common.{Ok, Err, Result, ℕ, ◌≡◌, refl, sym, List, drop}
use borrow.Author.Tests.{eq-eqb, ne_eqb}
use lib.Dec.{ltb, eqb}
use Rattle.rules.specs.declared.Fault.{Fault}
use Rattle.rules.specs.declared.Fault.TheVariants.{BadNumbers, BadTable}
use Rattle.rules.specs.Sizes.{most_inputs, most_states, counts}
use Rattle.rules.specs.Reading.{Got, got, faulty, Reader, ◌>>=◌, then, done, byte, judged, count}
use Rattle.theory.specs.Readers.{Seen}
use Rattle.theory.specs.Sections.{reads_judged-byte, reads_judged-count}
use Rattle.reader_steps.specs.declared.Stop.{Stop}
use Rattle.reader_steps.specs.Steps.{stop, step, number_read}
use Rattle.reader_steps.proofs.Laws.{keeps, was_number, was_read}
use Rattle.reader_steps.proofs.Sections.{the_count}
use Rattle.reader_parts.specs.declared.Sizes.{Sizes}
use Rattle.reader_parts.specs.Numbers.{number, sizes, sizes_are, sizes_read}

-- the two numbers behind the count
abbrev pub inputs_and_states : Reader (ℕ × ℕ)
inputs_and_states = do
  k ← number most_inputs
  n ← number most_states
  done (k, n)

-- what is made of a thing that was read does not change where it ended
pub step_map : {A B : Type 0} (x : Got A) (f : A → B) → step (then x (λ a q t. got (f a) q t)) ≡ step x
step_map (got a p l) f = refl
step_map (faulty fault p) f = refl

module _ (s : List ℕ) (p : ℕ) where
  -- a count that has to be x
  module _ (x : ℕ) (fault : Fault) (c q : ℕ) (is : Ok (c, q) ≡ number_read (count p (drop p s))) where
    pub count_good : c ≡ x → Ok q ≡ step (judged (eqb x) fault count p (drop p s))
    unfolding judged
    count_good same = rw (the_count s p c q is, eq-eqb x c (sym same))

    pub count_bad : (c ≡ x → ⊥) → Err (stop fault p) ≡ step (judged (eqb x) fault count p (drop p s))
    unfolding judged
    count_bad other = rw (the_count s p c q is, ne_eqb x c (λ same. other (sym same)))

  pub the_number : (most b q : ℕ) → Ok (b, q) ≡ number_read (number most p (drop p s)) → number most p (drop p s) ≡ got b q (drop q s)
  the_number most b q is = was_number s (number most p (drop p s)) b q (keeps (reads_judged-byte (counts most) BadNumbers tt) s p) is

  pub the_state : (n b q : ℕ) → Ok (b, q) ≡ number_read (judged (λ i. ltb i n) BadTable byte p (drop p s)) → judged (λ i. ltb i n) BadTable byte p (drop p s) ≡ got b q (drop q s)
  the_state n b q is = was_number s (judged (λ i. ltb i n) BadTable byte p (drop p s)) b q (keeps (reads_judged-byte (λ i. ltb i n) BadTable tt) s p) is

  -- of a count that had to be x it does not matter what it was
  pub the_expected : (x : ℕ) (fault : Fault) → Seen fault → (q : ℕ) → Ok q ≡ step (judged (eqb x) fault count p (drop p s)) → (c : ℕ) × (judged (eqb x) fault count p (drop p s) ≡ got c q (drop q s))
  the_expected x fault seen q is = was_read s (judged (eqb x) fault count p (drop p s)) q (keeps (reads_judged-count (eqb x) fault seen) s p) is

  -- behind a count that had to be x, the front of a file says what the two numbers say, whether they are read or stop
  pub sizes_counted : (x c q : ℕ) (z : Result Sizes Stop) → Ok (c, q) ≡ number_read (count p (drop p s)) → c ≡ x → z ≡ sizes_read (inputs_and_states q (drop q s)) → z ≡ sizes_read (sizes x p (drop p s))
  unfolding sizes judged
  sizes_counted x c q z is same both = rw (the_count s p c q is, eq-eqb x c (sym same)) both

  -- the front of a file with numbers: their count, then inputs and states
  pub sizes_read_lem : (x first k middle n q : ℕ) → Ok first ≡ step (judged (eqb x) BadNumbers count p (drop p s)) → Ok (k, middle) ≡ number_read (number most_inputs first (drop first s))
      → Ok (n, q) ≡ number_read (number most_states middle (drop middle s)) → Ok (sizes_are (k, n) q) ≡ sizes_read (sizes x p (drop p s))
  unfolding sizes
  sizes_read_lem x first k middle n q counted inputs states =
      let c = the_expected x BadNumbers tt first counted in
      rw (c.1, was_number s (number most_inputs first (drop first s)) k middle (keeps (reads_judged-byte (counts most_inputs) BadNumbers tt) s first) inputs, was_number s (number most_states middle (drop middle s)) n q (keeps (reads_judged-byte (counts most_states) BadNumbers tt) s middle) states)
