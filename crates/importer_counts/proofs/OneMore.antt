-- Laws of what is counted: one line more.
use Prim.Native.Nat.{ℕ, suc, ◌+◌, ◌≤◌}
use native.Mathlib.Omega.{arith}
use mathlib.Core.Path.{◌≡◌, refl, sym, ap, ◌∙◌}
use mathlib.Core.Logic.{◌≢◌}
use mathlib.Core.List.{List, [], ◌∷◌, ◌++◌, flat_map, append-nil}
use mathlib.Core.Bool.{Bool, true, false, not, ◌||◌}
use lib.ListN.{length, length-append}
use borrow.Author.Tests.{eq-eqb, not-true, not-false}
use lib.Dec.{eqb, leb}
use Rattle.rules.specs.Lists.{any, all}
use Rattle.rules.specs.Line.{text}
use Rattle.rules.specs.Kiss2.{Field, Says, number, reset, term, end, Term, number_of, reset_of, term_of, is_end, numbers_in, resets_in, terms_in, names_in, ended, is_empty, is_whole}
use Rattle.theory.specs.Lists.{flat_map_last}
use Rattle.importer_counts.specs.declared.Counts.{Counts}
use Rattle.std.specs.Prelude.{None, Some, option_to_list}
use Rattle.importer_counts.specs.Counts.{CountsAt, Counted, term_fits, TermCounted}

any_last : {A : Type 0} (test : A → Bool) (l : List A) (x : A) → any test (l ++ (x ∷ [])) ≡ (any test l || test x)
any_last test [] x = or_false (test x)
  where
    or_false : (b : Bool) → (b || false) ≡ b
    or_false true = refl
    or_false false = refl
any_last test (y ∷ l) x = rw (any_last test l x) (or_assoc (test y) (any test l) (test x))
  where
    or_assoc : (a b c : Bool) → (a || (b || c)) ≡ ((a || b) || c)
    or_assoc true b c = refl
    or_assoc false b c = refl

last_some : (l : List Field) (w : Field) → is_empty (l ++ (w ∷ [])) ≡ false
last_some [] w = refl
last_some (v ∷ l) w = refl

or_true : (b : Bool) → (b || true) ≡ true
or_true true = refl
or_true false = refl

-- what a line does not say stays as it was
module _ (before : List Says) (s : Says) where
  pub same_number : (name : Field) → number_of name s ≡ [] → numbers_in name (before ++ (s ∷ [])) ≡ numbers_in name before
  same_number name none = flat_map_last (number_of name) before s ∙ rw none (append-nil _)

  pub same_resets : reset_of s ≡ [] → resets_in (before ++ (s ∷ [])) ≡ resets_in before
  same_resets none = flat_map_last reset_of before s ∙ rw none (append-nil _)

  pub same_terms : term_of s ≡ [] → terms_in (before ++ (s ∷ [])) ≡ terms_in before
  same_terms none = flat_map_last term_of before s ∙ rw none (append-nil _)

  pub same_end : is_end s ≡ false → ended (before ++ (s ∷ [])) ≡ ended before
  same_end quiet = any_last is_end before s ∙ rw quiet (or_false (ended before))
    where
      or_false : (b : Bool) → (b || false) ≡ b
      or_false true = refl
      or_false false = refl

-- a number that is said for the first time
pub new_number : (before : List Says) (name : Field) (n : ℕ) → number_of name (number name n) ≡ n ∷ [] → numbers_in name before ≡ [] → numbers_in name (before ++ (number name n ∷ [])) ≡ n ∷ []
new_number before name n is none = flat_map_last (number_of name) before (number name n) ∙ rw (none, is)

-- nothing, and something
pub empty_none : {A : Type 0} (l : List A) → length l ≡ 0 → is_empty l ≡ true
empty_none [] is = refl
empty_none (x ∷ l) is = absurd (omega arith)

pub empty_some : {A : Type 0} (l : List A) → length l ≢ 0 → is_empty l ≡ false
empty_some [] some = absurd (some refl)
empty_some (x ∷ l) some = refl

-- a number that was said is the same
any_one : (c : ℕ) → any (eqb c) (c ∷ []) ≡ true
any_one c = rw (eq-eqb c c refl)

module _ (before : List Says) (x : Counts) (at : CountsAt before x) where
  no_terms : x.terms ≡ 0 → is_empty (terms_in before) ≡ true
  no_terms none = empty_none (terms_in before) (at.terms ∙ none)

  some_terms : x.terms ≢ 0 → is_empty (terms_in before) ≡ false
  some_terms late = empty_some (terms_in before) (λ e. late (sym at.terms ∙ e))

  -- the reset state
  module _ (state : Field) where
    module _ (going : x.has_ended ≡ false) (early : x.terms ≡ 0) where
      pub reset_goes : x.has_reset ≡ false → Counted before (reset state) (Some (record {
        input_bits = x.input_bits;
        output_bits = x.output_bits;
        term_count = x.term_count;
        state_count = x.state_count;
        has_reset = true;
        has_ended = x.has_ended;
        terms = x.terms;
      }))
      reset_goes first =
          record {
            told = (
              rw (at.end-said, going, no_terms early, at.some_reset, first),
              record {
                input_bits = same_number before (reset state) (text ".i") refl ∙ at.input_bits;
                output_bits = same_number before (reset state) (text ".o") refl ∙ at.output_bits;
                term_count = same_number before (reset state) (text ".p") refl ∙ at.term_count;
                state_count = same_number before (reset state) (text ".s") refl ∙ at.state_count;
                few_inputs = at.few_inputs;
                few_outputs = at.few_outputs;
                some_reset = ap is_empty (flat_map_last reset_of before (reset state)) ∙ last_some (resets_in before) state;
                end-said = same_end before (reset state) refl ∙ at.end-said;
                terms = ap (λ (l : List Term). length l) (same_terms before (reset state) refl) ∙ at.terms;
              },
            );
          }

  -- the end
  pub end_goes : x.has_ended ≡ false → Counted before end (Some (record {
    input_bits = x.input_bits;
    output_bits = x.output_bits;
    term_count = x.term_count;
    state_count = x.state_count;
    has_reset = x.has_reset;
    has_ended = true;
    terms = x.terms;
  }))
  end_goes going =
      record {
        told = (
          rw (at.end-said, going),
          record {
            input_bits = same_number before end (text ".i") refl ∙ at.input_bits;
            output_bits = same_number before end (text ".o") refl ∙ at.output_bits;
            term_count = same_number before end (text ".p") refl ∙ at.term_count;
            state_count = same_number before end (text ".s") refl ∙ at.state_count;
            few_inputs = at.few_inputs;
            few_outputs = at.few_outputs;
            some_reset = ap is_empty (same_resets before end refl) ∙ at.some_reset;
            end-said = any_last is_end before end ∙ or_true (ended before);
            terms = ap (λ (l : List Term). length l) (same_terms before end refl) ∙ at.terms;
          },
        );
      }

  -- with the number of a directive
  module _ (n : ℕ) where
    pub with_inputs : n ≤ 4 → numbers_in (text ".i") before ≡ [] → CountsAt (before ++ (number (text ".i") n ∷ [])) (record {
      input_bits = Some n;
      output_bits = x.output_bits;
      term_count = x.term_count;
      state_count = x.state_count;
      has_reset = x.has_reset;
      has_ended = x.has_ended;
      terms = x.terms;
    })
    with_inputs few none =
        record {
          input_bits = new_number before (text ".i") n refl none;
          output_bits = same_number before (number (text ".i") n) (text ".o") refl ∙ at.output_bits;
          term_count = same_number before (number (text ".i") n) (text ".p") refl ∙ at.term_count;
          state_count = same_number before (number (text ".i") n) (text ".s") refl ∙ at.state_count;
          few_inputs = few;
          few_outputs = at.few_outputs;
          some_reset = ap is_empty (same_resets before (number (text ".i") n) refl) ∙ at.some_reset;
          end-said = same_end before (number (text ".i") n) refl ∙ at.end-said;
          terms = ap (λ (l : List Term). length l) (same_terms before (number (text ".i") n) refl) ∙ at.terms;
        }

    pub with_outputs : n ≤ 8 → numbers_in (text ".o") before ≡ [] → CountsAt (before ++ (number (text ".o") n ∷ [])) (record {
      input_bits = x.input_bits;
      output_bits = Some n;
      term_count = x.term_count;
      state_count = x.state_count;
      has_reset = x.has_reset;
      has_ended = x.has_ended;
      terms = x.terms;
    })
    with_outputs few none =
        record {
          input_bits = same_number before (number (text ".o") n) (text ".i") refl ∙ at.input_bits;
          output_bits = new_number before (text ".o") n refl none;
          term_count = same_number before (number (text ".o") n) (text ".p") refl ∙ at.term_count;
          state_count = same_number before (number (text ".o") n) (text ".s") refl ∙ at.state_count;
          few_inputs = at.few_inputs;
          few_outputs = few;
          some_reset = ap is_empty (same_resets before (number (text ".o") n) refl) ∙ at.some_reset;
          end-said = same_end before (number (text ".o") n) refl ∙ at.end-said;
          terms = ap (λ (l : List Term). length l) (same_terms before (number (text ".o") n) refl) ∙ at.terms;
        }

    pub with_terms : numbers_in (text ".p") before ≡ [] → CountsAt (before ++ (number (text ".p") n ∷ [])) (record {
      input_bits = x.input_bits;
      output_bits = x.output_bits;
      term_count = Some n;
      state_count = x.state_count;
      has_reset = x.has_reset;
      has_ended = x.has_ended;
      terms = x.terms;
    })
    with_terms none =
        record {
          input_bits = same_number before (number (text ".p") n) (text ".i") refl ∙ at.input_bits;
          output_bits = same_number before (number (text ".p") n) (text ".o") refl ∙ at.output_bits;
          term_count = new_number before (text ".p") n refl none;
          state_count = same_number before (number (text ".p") n) (text ".s") refl ∙ at.state_count;
          few_inputs = at.few_inputs;
          few_outputs = at.few_outputs;
          some_reset = ap is_empty (same_resets before (number (text ".p") n) refl) ∙ at.some_reset;
          end-said = same_end before (number (text ".p") n) refl ∙ at.end-said;
          terms = ap (λ (l : List Term). length l) (same_terms before (number (text ".p") n) refl) ∙ at.terms;
        }

    pub with_states : numbers_in (text ".s") before ≡ [] → CountsAt (before ++ (number (text ".s") n ∷ [])) (record {
      input_bits = x.input_bits;
      output_bits = x.output_bits;
      term_count = x.term_count;
      state_count = Some n;
      has_reset = x.has_reset;
      has_ended = x.has_ended;
      terms = x.terms;
    })
    with_states none =
        record {
          input_bits = same_number before (number (text ".s") n) (text ".i") refl ∙ at.input_bits;
          output_bits = same_number before (number (text ".s") n) (text ".o") refl ∙ at.output_bits;
          term_count = same_number before (number (text ".s") n) (text ".p") refl ∙ at.term_count;
          state_count = new_number before (text ".s") n refl none;
          few_inputs = at.few_inputs;
          few_outputs = at.few_outputs;
          some_reset = ap is_empty (same_resets before (number (text ".s") n) refl) ∙ at.some_reset;
          end-said = same_end before (number (text ".s") n) refl ∙ at.end-said;
          terms = ap (λ (l : List Term). length l) (same_terms before (number (text ".s") n) refl) ∙ at.terms;
        }

  -- a term
  module _ (t : Term) where
    module _ (going : x.has_ended ≡ false) (cube output : ℕ) (cube_is : length t.cube ≡ cube) (output_is : length t.output ≡ output) (cube_said : x.input_bits ≡ Some cube)
        (output_said : x.output_bits ≡ Some output) (n : ℕ) (next : n ≡ x.terms + 1) (b : Bool) (allowed : b ≡ all (leb n) (option_to_list x.term_count)) where
      count_is : all (leb (suc (length (terms_in before)))) (numbers_in (text ".p") before) ≡ b
      count_is = let more : suc (length (terms_in before)) ≡ n = omega (arith, at.terms) in rw (more, at.term_count) (sym allowed)

      fits_is : term_fits before t ≡ b
      fits_is =
          rw (at.end-said, going, at.input_bits, cube_said, cube_is, any_one cube, at.output_bits, output_said, output_is, any_one output)
          count_is

      pub term_goes : not b ≡ false → TermCounted before t (Some (record {
        input_bits = x.input_bits;
        output_bits = x.output_bits;
        term_count = x.term_count;
        state_count = x.state_count;
        has_reset = x.has_reset;
        has_ended = x.has_ended;
        terms = n;
      }))
      term_goes good =
          record {
            told = (
              fits_is ∙ not-false b good,
              record {
                input_bits = same_number before (term t) (text ".i") refl ∙ at.input_bits;
                output_bits = same_number before (term t) (text ".o") refl ∙ at.output_bits;
                term_count = same_number before (term t) (text ".p") refl ∙ at.term_count;
                state_count = same_number before (term t) (text ".s") refl ∙ at.state_count;
                few_inputs = at.few_inputs;
                few_outputs = at.few_outputs;
                some_reset = ap is_empty (same_resets before (term t) refl) ∙ at.some_reset;
                end-said = same_end before (term t) refl ∙ at.end-said;
                terms = ap (λ (l : List Term). length l) (flat_map_last term_of before (term t)) ∙ length-append (terms_in before) (t ∷ []) ∙ omega (arith, at.terms);
              },
            );
          }

  -- whether nothing is lacking
  pub not_ended : not x.has_ended ≡ true → false ≡ is_whole before
  unfolding is_whole
  not_ended is = rw (at.end-said, not-true x.has_ended is)

  module _ (done : not x.has_ended ≡ false) where
    pub termless : x.terms ≡ 0 → false ≡ is_whole before
    unfolding is_whole
    termless none = rw (at.end-said, not-false x.has_ended done, no_terms none)

    module _ (some : x.terms ≢ 0) (b : Bool) (agreed : b ≡ all (eqb x.terms) (option_to_list x.term_count)) where
      pub terms_differ : b ≡ false → false ≡ is_whole before
      unfolding is_whole
      terms_differ over = rw (at.end-said, not-false x.has_ended done, some_terms some, at.terms, at.term_count, ← agreed, over)

      pub states_decide : b ≡ true → (states : ℕ) (d : Bool) → length (names_in before) ≡ states → d ≡ all (eqb states) (option_to_list x.state_count) → d ≡ is_whole before
      unfolding is_whole
      states_decide good states d names is =
          rw (at.end-said, not-false x.has_ended done, some_terms some, at.terms, at.term_count, ← agreed, good, names, at.state_count) is

pub nothing_counted : CountsAt [] (record {
  input_bits = None;
  output_bits = None;
  term_count = None;
  state_count = None;
  has_reset = false;
  has_ended = false;
  terms = 0;
})
unfolding flat_map
nothing_counted =
    record {
      input_bits = refl;
      output_bits = refl;
      term_count = refl;
      state_count = refl;
      few_inputs = omega arith;
      few_outputs = omega arith;
      some_reset = refl;
      end-said = refl;
      terms = refl;
    }
