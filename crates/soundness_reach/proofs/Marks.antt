-- Laws of marks: after each word, the marks and the words that are left say together what all words say.
use Prim.Native.Nat.{ℕ, suc, ◌+◌, ◌-◌, ◌≤◌, ◌<◌}
use native.Mathlib.Nat.{sub-zero}
use native.Mathlib.Omega.{arith}
use native.Mathlib.Decide.{ℕ_discrete}
use mathlib.Core.Path.{◌≡◌, refl, sym, ◌∙◌, ap}
use mathlib.Core.List.{List, ◌∷◌}
use mathlib.Core.Bool.{Bool, true, false, ◌||◌}
use borrow.Author.Tests.{eq-eqb, ne_eqb}
use lib.Dec.{eqb}
use lib.ListN.{length, get_or, set, get_or-replicate, length-replicate}
use lib.Seq.{get_or-set_same, get_or-set_other}
use mathlib.Core.Option.{Option, none, some}
use native.Mathlib.Numerals.{add-one}
use Rattle.rules.specs.Lists.{any, first, numbers, numbers_from}
use Rattle.rules.specs.declared.GoldenState.{GoldenState}
use Rattle.rules.specs.Words.{Word}
use Rattle.rules.specs.Machines.{Machine, after}
use Rattle.reader.specs.Places.{machine_at, word_at, after_word, words_at, WordsAt}
use Rattle.walker.proofs.Turns.{turn, turns_end}
use Rattle.soundness_reach.specs.Reached.{unmarked, lit, reaches, lacks, state_found}
use Rattle.std.specs.Prelude.{Option as Found, Some, None}

-- the marks, and the words that are left
abbrev pub Marking : Machine → ℕ → List Word → List ℕ → List Word → Type 0
Marking M n all marks rest = (q : ℕ) → q < n → (lit marks q || any (reaches M q) rest) ≡ any (reaches M q) all

pub unmarked-length : length unmarked ≡ 64
unfolding unmarked
unmarked-length = length-replicate {A = ℕ} 64 0

unlit : (q : ℕ) → q < 64 → lit unmarked q ≡ false
unfolding unmarked
unlit q h = rw (get_or-replicate {A = ℕ} 64 q 0 0 h)

marking_step : (M : Machine) (n : ℕ) (all marks : _) (w : Word) (rest : List Word) (j : ℕ) → Marking M n all marks (w ∷ rest) → j ≡ after M 0 w → j < length marks → Marking M n all (set marks j 1) rest
marking_step M n all marks w rest j old is inside q h =
    elim (ℕ_discrete q j) [
      | yes e ↦
          let here : eqb (after M 0 w) q ≡ true = eq-eqb _ _ (sym (e ∙ is)) in
          let lit_now : lit (set marks j 1) q ≡ true = rw (e, get_or-set_same marks j 1 0 inside) in
          rw lit_now (sym (or_true_middle (lit marks q) (any (reaches M q) rest) (any (reaches M q) all) (rw here at (old q h))))
      | no ne ↦
          let elsewhere : eqb (after M 0 w) q ≡ false = ne_eqb _ _ (λ e. ne (sym (is ∙ e))) in
          rw (get_or-set_other marks j q 1 0 ne) (rw elsewhere at (old q h))
    ]
  where
    or_true_middle : (a b c : Bool) → (a || true) ≡ c → c ≡ true
    or_true_middle true b c e = sym e
    or_true_middle false b c e = sym e

module _ (s : List ℕ) (table k n cover covers : ℕ) where
  abbrev M : Machine
  M = machine_at s table k n

  abbrev all : List Word
  all = words_at s cover covers

  pub marking_start : (marks : List ℕ) → n ≤ 64 → marks ≡ unmarked → Marking M n all marks (words_at s cover (covers - 0))
  marking_start marks few e q h = rw (sub-zero covers, e, unlit q (omega arith))

  pub marking_next : (marks : List ℕ) (p c i j : ℕ) → i < c → WordsAt s p k (c - i) → j ≡ after M 0 (word_at s p) → j < length marks
      → Marking M n all marks (words_at s p (c - i)) → Marking M n all (set marks j 1) (words_at s (after_word s p) (c - (i + 1)))
  marking_next marks p c i j less stand is inside old =
      marking_step M n all marks (word_at s p) (words_at s (after_word s p) (c - (i + 1))) j (rw (turn s p k c i less stand).words at old) is inside

  pub marking_end : (marks : List ℕ) (p c i : ℕ) → c ≤ i → Marking M n all marks (words_at s p (c - i)) → (q : ℕ) → q < n → lit marks q ≡ any (reaches M q) all
  marking_end marks p c i done old q h = sym (or_false_right (lit marks q)) ∙ (rw (turns_end s p c i done) at old) q h
    where
      or_false_right : (a : Bool) → (a || false) ≡ a
      or_false_right true = refl
      or_false_right false = refl

-- the lowest number that passes a test, where the tests below q did not
pub lowest_here : (test : ℕ → Bool) (n q : ℕ) → q < n → test q ≡ true → first test (numbers_from q (n - q)) ≡ some q
lowest_here test n q h e = let more : n - q ≡ suc (n - suc q) = omega arith in rw (more, e)

pub lowest_next : (test : ℕ → Bool) (n q : ℕ) → q < n → test q ≡ false → first test (numbers_from q (n - q)) ≡ first test (numbers_from (q + 1) (n - (q + 1)))
lowest_next test n q h e =
    let more : n - q ≡ suc (n - (q + 1)) = omega arith in
    rw (more, e, ← add-one q)

pub lowest_none : (test : ℕ → Bool) (n q : ℕ) → n ≤ q → first test (numbers_from q (n - q)) ≡ none
lowest_none test n q h = let done : n - q ≡ 0 = omega arith in rw done

-- a state without a mark is one that the cover lacks
pub unlit_lacks : (M : Machine) (cover : List Word) (marks : List ℕ) (q : ℕ) → lit marks q ≡ any (reaches M q) cover → get_or marks q 0 ≡ 0 → lacks M cover q ≡ true
unlit_lacks M cover marks q e zero' = rw (← e, zero')

pub lit-lacks : (M : Machine) (cover : List Word) (marks : List ℕ) (q : ℕ) → lit marks q ≡ any (reaches M q) cover → (get_or marks q 0 ≡ 0 → ⊥) → lacks M cover q ≡ false
lit-lacks M cover marks q e other = rw (← e, ne_eqb (get_or marks q 0) 0 other)

pub lowest_start : (test : ℕ → Bool) (n : ℕ) → first test (numbers n) ≡ first test (numbers_from 0 (n - 0))
lowest_start test n = let same : n - 0 ≡ n = omega arith in rw same

pub state_found_lem : (x : GoldenState) (q : ℕ) (o : Option ℕ) → x.0 ≡ q → o ≡ some q → Some x ≡ state_found o
state_found_lem x q o e is = rw (is, ← e)

-- what a state that was found, or none, says of the search
pub state_at_lem : (o : Option ℕ) (found : Found GoldenState) (x : GoldenState) → found ≡ state_found o → found ≡ Some x → o ≡ some x.0
state_at_lem none found x e is = let z : ◌≡◌ {A = ℕ} 0 1 = cc in absurd (omega arith)
state_at_lem (some q) found x e is = let same : Some (record { 0 = q }) ≡ Some x = sym e ∙ is in ap (λ (y : GoldenState). some y.0) (cc)

pub state_nowhere : (o : Option ℕ) (found : Found GoldenState) → found ≡ state_found o → found ≡ None → o ≡ none
state_nowhere none found e is = refl
state_nowhere (some q) found e is = let z : ◌≡◌ {A = ℕ} 0 1 = cc in absurd (omega arith)
