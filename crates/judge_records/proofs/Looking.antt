-- Laws of looking for the record of a word.
use Prim.Native.Nat.{ℕ}
use mathlib.Core.Path.{◌≡◌, sym, ◌∙◌}
use mathlib.Core.List.Memᴰ
use mathlib.Core.List.{List}
use mathlib.Core.Bool.{true, false}
use Rattle.rules.specs.Lists.{◌∈◌}
use Rattle.rules.specs.Words.{Word, is_in}
use Rattle.rules.specs.Files.{SheetRecord}
use Rattle.theory.specs.Lists.{clash}
use Rattle.theory.specs.Words.{in_is_in}
use Rattle.trie.specs.Model.{Trie}
use Rattle.trie.specs.Holds.{Holds, Node}
use Rattle.trie.specs.Grow.{size_pos}
use Rattle.trie.specs.Values.{Map, value_of, Noted}
use Rattle.judge_records.specs.Filed.{words_of, Stands, Filed}

-- the word of one of the records is one of their words
pub word_of_record : {r : SheetRecord} {rs : List SheetRecord} → r ∈ rs → is_in r.word (words_of rs) ≡ true
word_of_record m = in_is_in (Memᴰ.map (λ (r : SheetRecord). r.word) m)

-- The node of the empty word, from which all are walked.
pub filed_node : {s : List ℕ} {k : ℕ} {rs : List SheetRecord} {label first next value : List ℕ} → Filed s k rs label first next value → Node label first next 0
filed_node x = record { trie = x.trie; holds = x.holds; below = size_pos x.trie }

-- What looking for a word's record answers.
module _ (w : Word) (label first next value : List ℕ) (r : ℕ) (asked : (t : Trie) (m : Map) → Holds t label first next → Noted t m value → r ≡ value_of m w)
    (s : List ℕ) (k : ℕ) (rs : List SheetRecord) (x : Filed s k rs label first next value) where
  is_value : r ≡ value_of x.places w
  is_value = asked x.trie x.places x.holds x.noted

  pub record_none : r ≡ 0 → is_in w (words_of rs) ≡ false
  record_none none' = x.unfiled w (sym is_value ∙ none')

  pub record_stands : (r ≡ 0 → ⊥) → Stands s k rs w r
  record_stands some' = rw is_value (x.filed w (λ e. some' (is_value ∙ e)))

  pub record_some : (r ≡ 0 → ⊥) → is_in w (words_of rs) ≡ true
  record_some some' = let h = record_stands some' in rw (← h.is) (word_of_record h.among)

  pub record_there : is_in w (words_of rs) ≡ true → r ≡ 0 → ⊥
  record_there there none' = clash there (record_none none')
