-- What the program keeps of the lines so far, in the words of the rules.
use Rattle.std.specs.Prelude.{suc, ◌≤◌, ◌≡◌, List, [], ◌∷◌, ◌++◌, Bool, true, false, not, ◌&&◌, eqb, leb, length, Option, None, Some, option_to_list, unwrap_or}
use Rattle.rules.specs.Lists.{any, all}
use Rattle.rules.specs.Line.{text}
use Rattle.rules.specs.Kiss2.{Says, term, Term, numbers_in, resets_in, terms_in, ended, is_empty, may_follow}
use Rattle.importer_counts.specs.declared.Counts.{Counts}

-- the counts x are those of the lines that said `before`
pub record CountsAt (before : List Says) (x : Counts) : Type 0 where
  pub input_bits : numbers_in (text ".i") before ≡ option_to_list x.input_bits
  pub output_bits : numbers_in (text ".o") before ≡ option_to_list x.output_bits
  pub term_count : numbers_in (text ".p") before ≡ option_to_list x.term_count
  pub state_count : numbers_in (text ".s") before ≡ option_to_list x.state_count
  pub few_inputs : unwrap_or x.input_bits 0 ≤ 4
  pub few_outputs : unwrap_or x.output_bits 0 ≤ 8
  pub some_reset : is_empty (resets_in before) ≡ not x.has_reset
  pub end-said : ended before ≡ x.has_ended
  pub terms : length (terms_in before) ≡ x.terms

-- what a line that says s came to: it may not follow, or it was counted
abbrev pub CountedAs : List Says → Says → Option Counts → Type 0
CountedAs before s None = may_follow before s ≡ false
CountedAs before s (Some y) = (may_follow before s ≡ true) × CountsAt (before ++ (s ∷ [])) y

pub record Counted (before : List Says) (s : Says) (r : Option Counts) : Type 0 where
  pub told : CountedAs before s r

-- what is asked of a term but for the number of states
abbrev pub term_fits : List Says → Term → Bool
term_fits before t =
    not (ended before) && any (eqb (length t.cube)) (numbers_in (text ".i") before) && any (eqb (length t.output)) (numbers_in (text ".o") before)
    && all (leb (suc (length (terms_in before)))) (numbers_in (text ".p") before)

abbrev pub TermCountedAs : List Says → Term → Option Counts → Type 0
TermCountedAs before t None = term_fits before t ≡ false
TermCountedAs before t (Some y) = (term_fits before t ≡ true) × CountsAt (before ++ (term t ∷ [])) y

pub record TermCounted (before : List Says) (t : Term) (r : Option Counts) : Type 0 where
  pub told : TermCountedAs before t r
