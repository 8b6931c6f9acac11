-- Laws that tie what the searches answer over the bytes to the rules' 7 to 10.
use Prim.Native.Nat.{ℕ}
use native.Mathlib.Omega.{arith}
use Rattle.std.proofs.Common.{Some, None, Result, Ok, Err}
use Rattle.std.specs.Result.{IsErrAnd}
use Rattle.std.proofs.lemmas.Result.{err_from_is_err_and}
use mathlib.Core.Path.{◌≡◌, refl, sym, ◌∙◌, ap}
use mathlib.Core.List.{List, []}
use mathlib.Core.Bool.{Bool, true, false}
use mathlib.Core.Option.{Option, none, some}
use borrow.Author.Tests.{lt-ltb, le-ltb}
use lib.Dec.{ltb}
use lib.ListN.{length}
use Rattle.rules.specs.declared.GoldenState.{GoldenState}
use Rattle.rules.specs.declared.File.TheVariants.{Dossier}
use Rattle.rules.specs.declared.Refusal.{Refusal}
use Rattle.rules.specs.declared.Refusal.TheVariants.{NoEmptyWord, Unreached, NoSeparator, NotSeparated}
use Rattle.rules.specs.Lists.{first, numbers}
use Rattle.rules.specs.Words.{Word, is_in}
use Rattle.rules.specs.Machines.{machine_of}
use Rattle.rules.specs.Files.{DossierData, golden}
use Rattle.rules.specs.Needed.{unreached, pairs, unseparated}
use Rattle.rules.specs.Answers.{golden_state}
use Rattle.rules.specs.Operations.{Outcome, fine, refuse, ◌>>◌, read_dossier, sound}
use Rattle.reader.specs.declared.DossierShape.{DossierShape}
use Rattle.reader.specs.Places.{words_at}
use Rattle.reader.specs.Turns.{words_count}
use Rattle.reader.specs.Shapes.{dossier_read}
use Rattle.reader.proofs.Held.{dossier_held, dossier_not_held}
use Rattle.soundness.specs.Lent.{Lent, sound_of, sound_dossier, finding_of}
use Rattle.soundness_reach.specs.Reached.{lacks, state_found}
use Rattle.soundness_apart.specs.Separating.{pair_found, golden_at, separators_at, alike, SeparatingAt}
use Rattle.soundness_reach.proofs.Marks.{state_at_lem, state_nowhere}

pair_at_lem : (o : Option (ℕ × ℕ)) (x y : GoldenState) → Some (x, y) ≡ pair_found o → o ≡ some (x.0, y.0)
pair_at_lem none x y is = cc
pair_at_lem (some (p, q)) x y is =
    let both : ◌≡◌ {A = GoldenState × GoldenState} (golden_state p, golden_state q) (x, y) = cc in
    λ i. some ((both i).0.0, (both i).1.0)

pair_nowhere : (o : Option (ℕ × ℕ)) → None ≡ pair_found o → o ≡ none
pair_nowhere none is = refl
pair_nowhere (some (p, q)) is = cc

module _ (s : List ℕ) (x : DossierShape) (lent : Lent s x) where
  abbrev d : DossierData
  d = lent.held

  -- the machine that stands in the bytes is the golden
  pub golden_is : golden_at s x ≡ golden d
  golden_is = λ i. machine_of (lent.stands.inputs i) (lent.stands.states i) (lent.stands.entries i)

  pub separating_at : SeparatingAt s x
  separating_at =
      record {
        table = lent.stands.table;
        few = omega (arith, lent.stands.states, lent.stands.sized.golden.few_states);
        words = lent.stands.separating;
      }

  -- the searches over the bytes are the rules'
  unreached_is : first (lacks (golden_at s x) (words_at s x.cover x.covers)) (numbers x.states) ≡ unreached d
  unfolding unreached
  unreached_is = λ i. first (lacks (golden_is i) (lent.stands.cover_words i)) (numbers (lent.stands.states i))

  unseparated_is : first (λ (p, q). alike (golden_at s x) (separators_at s x) p q) (pairs x.states) ≡ unseparated d
  unfolding unseparated
  unseparated_is = λ i. first (λ (p, q). alike (golden_is i) (lent.stands.separating_words i) p q) (pairs (lent.stands.states i))

  separators_are : length d.separating ≡ x.separators
  separators_are = ap (λ (ws : List Word). length ws) (sym lent.stands.separating_words) ∙ words_count s x.separating x.separators

  -- each outcome, from what the searches answered
  pub finds_seven : (has : Bool) → has ≡ is_in [] (words_at s x.cover x.covers) → has ≡ false → Err NoEmptyWord ≡ finding_of (sound_of s)
  unfolding sound
  finds_seven has e no_word = let is : is_in [] d.cover ≡ false = ap (is_in []) (sym lent.stands.cover_words) ∙ sym e ∙ no_word in rw (lent.reads, is)

  module _ (has : Bool) (e : has ≡ is_in [] (words_at s x.cover x.covers)) (yes_word : has ≡ true) where
    empty_is : is_in [] d.cover ≡ true
    empty_is = ap (is_in []) (sym lent.stands.cover_words) ∙ sym e ∙ yes_word

    pub finds_eight : (q : GoldenState) → Some q ≡ state_found (first (lacks (golden_at s x) (words_at s x.cover x.covers)) (numbers x.states)) → Err (Unreached Dossier q) ≡ finding_of (sound_of s)
    unfolding sound
    finds_eight q is =
        let lowest : unreached d ≡ some q.0 = sym unreached_is ∙ state_at_lem _ (Some q) q is refl in
        rw (lent.reads, empty_is, lowest)

    module _ (nowhere : None ≡ state_found (first (lacks (golden_at s x) (words_at s x.cover x.covers)) (numbers x.states))) where
      all_reached : unreached d ≡ none
      all_reached = sym unreached_is ∙ state_nowhere _ None nowhere refl

      pub finds_nine : x.separators ≡ 0 → Err NoSeparator ≡ finding_of (sound_of s)
      unfolding sound
      finds_nine none_there =
          let few : ltb 0 (length d.separating) ≡ false = le-ltb 0 (length d.separating) (omega (arith, separators_are, none_there)) in
          rw (lent.reads, empty_is, all_reached, few)

      module _ (some_there : x.separators ≡ 0 → ⊥) where
        separator_there : ltb 0 (length d.separating) ≡ true
        separator_there = lt-ltb 0 (length d.separating) (omega (arith, separators_are, some_there))

        pub finds_ten : (p q : GoldenState) → Some (p, q) ≡ pair_found (first (λ (p, q). alike (golden_at s x) (separators_at s x) p q) (pairs x.states)) → Err (NotSeparated p q) ≡ finding_of (sound_of s)
        unfolding sound
        finds_ten p q is =
            let lowest : unseparated d ≡ some (p.0, q.0) = sym unseparated_is ∙ pair_at_lem _ p q is in
            rw (lent.reads, empty_is, all_reached, separator_there, lowest)

        pub finds_none : None ≡ pair_found (first (λ (p, q). alike (golden_at s x) (separators_at s x) p q) (pairs x.states)) → Ok tt ≡ finding_of (sound_of s)
        unfolding sound
        finds_none is =
            let all_told : unseparated d ≡ none = sym unseparated_is ∙ pair_nowhere _ is in
            rw (lent.reads, empty_is, all_reached, separator_there, all_told)

-- what was read is lent on
pub lent_of : (s : List ℕ) (r : Result DossierShape Refusal) (x : DossierShape) → r ≡ dossier_read (read_dossier s) → r ≡ Ok x → Lent s x
lent_of s r x e is = let (d, reads, stands) = dossier_held s r x e is in record { held = d; reads = reads; stands = stands }

-- `?` passes on what refuses the dossier
module _ (s : List ℕ) where
  pub sound_refused : (r : Result DossierShape Refusal) (f : Refusal) → IsErrAnd r (λ y. y ≡ f) → Err f ≡ dossier_read (read_dossier s) → r ≡ dossier_read (sound_dossier s)
  sound_refused r f passed is =
      let p = err_from_is_err_and r passed in
      rw (p.1, p.2, dossier_not_held s (Err f) f is refl)

  module _ (x : DossierShape) (e : Ok x ≡ dossier_read (read_dossier s)) where
    pub sound_found : (r : Result DossierShape Refusal) (f : Refusal) → IsErrAnd r (λ y. y ≡ f) → Err f ≡ finding_of (sound_of s) → r ≡ dossier_read (sound_dossier s)
    sound_found r f passed is =
        let p = err_from_is_err_and r passed in
        let (d, reads, stands) = dossier_held s (Ok x) x e refl in
        rw (p.1, p.2, reads) (go d (sound d) (rw reads at is))
      where
        go : (d : DossierData) (o : Outcome (Unit {0})) → Err f ≡ finding_of o → Err f ≡ dossier_read (◌>>◌ o (fine d))
        go d (fine y) is = cc
        go d (refuse g) is = let same : f ≡ g = cc in rw same

    pub sound_held : Ok tt ≡ finding_of (sound_of s) → Ok x ≡ dossier_read (sound_dossier s)
    sound_held is =
        let (d, reads, stands) = dossier_held s (Ok x) x e refl in
        rw reads (go d (sound d) (rw reads at is) (rw reads at e))
      where
        go : (d : DossierData) (o : Outcome (Unit {0})) → Ok tt ≡ finding_of o → Ok x ≡ dossier_read (fine d) → Ok x ≡ dossier_read (◌>>◌ o (fine d))
        go d (fine y) is held = held
        go d (refuse g) is held = cc
