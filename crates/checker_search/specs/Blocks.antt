-- The search for the first needed word that begins no test (document 01, refusal 11), block by block: the separating words
-- behind a cover word and a middle, the middles behind a cover word, the cover words.
use Rattle.std.specs.Prelude.{ℕ, suc, ◌-◌, ◌≤◌, ◌<◌, ◌≡◌, List, [], ◌∷◌, ◌++◌, Bool, true, not, length, get_or}
use Rattle.std.proofs.Math.Option.{Option, none, some}
use Rattle.std.specs.Prelude.{Option as Found, Some, None, Result, Ok, Err}
use Rattle.rules.specs.declared.Refusal.{Refusal}
use Rattle.rules.specs.declared.Refusal.TheVariants.{Missing}
use Rattle.rules.specs.Lists.{placed, any, first}
use Rattle.rules.specs.Sizes.{bound_of}
use Rattle.rules.specs.Words.{Word, begins, is_in, shortlex}
use Rattle.rules.specs.Answers.{middle_of}
use Rattle.rules.specs.Operations.{Outcome, ◌>>=◌, read_dossier, enough}
use Rattle.reader.specs.declared.DossierShape.{DossierShape}
use Rattle.reader.specs.Places.{words_at}
use Rattle.trie.specs.Model.{Trie, holding}
use Rattle.trie.specs.Holds.{Holds}
use Rattle.trie.specs.Values.{marks_of, Noted}
use Rattle.soundness.specs.Lent.{Lent, finding_of}
use Rattle.trie_filing.specs.Distinct.{firsts, FirstPlaces}

-- 11 of the dossier that bytes hold
abbrev pub enough_of : List ℕ → Outcome (Unit {0})
enough_of s = ◌>>=◌ (read_dossier s) enough

-- nothing to refuse, or a refusal
abbrev pub Finding : Type 0
Finding = Result (Unit {0}) Refusal

-- the first of two findings that refuses
abbrev pub or_else : Finding → Finding → Finding
or_else (Ok u) b = b
or_else (Err r) b = Err r

-- the first finding that refuses
unfoldable pub scan : {A : Type 0} → (A → Finding) → List A → Finding
scan f [] = Ok tt
scan f (a ∷ l) = or_else (f a) (scan f l)

-- whether v, then a separating word, begins no test
abbrev pub lacking_at : List Word → Word → ℕ × Word → Bool
lacking_at tests v (j, s) = not (any (begins (v ++ s)) tests)

abbrev pub found_at : ℕ → Word → Option (ℕ × Word) → Finding
found_at i y none = Ok tt
found_at i y (some (j, s)) = Err (Missing i (middle_of y) j)

-- behind the cover word u, which has the number i, and the middle y
abbrev pub at_middle : List Word → List (ℕ × Word) → ℕ → Word → Word → Finding
at_middle tests separators i u y = found_at i y (first (lacking_at tests (u ++ y)) separators)

-- behind the cover word u, which has the number i
abbrev pub at_cover : List Word → List (ℕ × Word) → List Word → ℕ × Word → Finding
at_cover tests separators ms (i, u) = scan (at_middle tests separators i u) ms

abbrev pub at_all : List Word → List (ℕ × Word) → List Word → List Word → Finding
at_all tests separators ms cover = scan (at_cover tests separators ms) (placed cover)

-- what stands in the bytes
abbrev pub tests_at : List ℕ → DossierShape → List Word
tests_at s x = words_at s x.tests x.count

abbrev pub trie_at : List ℕ → DossierShape → Trie
trie_at s x = holding (tests_at s x)

abbrev pub firsts_at : List ℕ → DossierShape → List (ℕ × Word)
firsts_at s x = firsts (words_at s x.separating x.separators)

abbrev pub longest_at : DossierShape → ℕ
longest_at x = suc (bound_of x.states x.bound_byte - x.states)

abbrev pub middles_at : DossierShape → List Word
middles_at x = shortlex x.inputs (longest_at x)

-- every separating word behind v makes a beginning of a test
abbrev pub Closed : List ℕ → DossierShape → Word → Type 0
Closed s x v = first (lacking_at (tests_at s x) v) (firsts_at s x) ≡ none

-- every middle and separating word behind u does
abbrev pub Covered : List ℕ → DossierShape → Word → Type 0
Covered s x u = (i : ℕ) → at_cover (tests_at s x) (firsts_at s x) (middles_at x) (i, u) ≡ Ok tt

-- the words of the marked nodes are of that kind
pub record Marked (t : Trie) (P : Word → Type 0) (marks : List ℕ) : Type 0 where
  pub words : List Word
  pub noted : Noted t (marks_of words) marks
  pub good : (w : Word) → is_in w words ≡ true → P w

-- what the search answers: nothing is missing, or the first needed word that is, by its numbers
abbrev pub LackOf : List ℕ → DossierShape → Found (ℕ × ℕ × ℕ) → Type 0
LackOf s x None = finding_of (enough_of s) ≡ Ok tt
LackOf s x (Some (c, y, e)) = (y < length (middles_at x)) × (finding_of (enough_of s) ≡ Err (Missing c (middle_of (get_or (middles_at x) y [])) e))

-- what the search is lent
pub record Searching (s : List ℕ) (x : DossierShape) (total : ℕ) (label first next marks done kept numbers places : List ℕ) (n : ℕ) : Type 0 where
  pub lent : Lent s x
  pub some_test : 0 < x.count
  pub some_separator : 0 < x.separators
  pub all_middles : total ≡ length (middles_at x)
  pub few_middles : total ≤ 1118481
  pub holds : Holds (trie_at s x) label first next
  pub no_marks : (t : Trie) → Noted t (marks_of []) marks
  pub none_done : (t : Trie) → Noted t (marks_of []) done
  pub marks_long : length marks ≡ length label
  pub done_long : length done ≡ length label
  pub kept_long : length kept ≡ 69905
  pub once : FirstPlaces s x.separating x.separators numbers places n
  pub numbers_long : n ≤ length numbers
  pub places_long : n ≤ length places
