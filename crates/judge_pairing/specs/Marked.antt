-- Marks for tests in a trie of other words.
use Rattle.std.specs.Prelude.{ℕ, ◌≡◌, List, [], true, ◌||◌}
use Rattle.rules.specs.Words.{Word, is_in}
use Rattle.trie.specs.Model.{Trie}
use Rattle.trie.specs.Holds.{Holds}
use Rattle.trie.specs.Words.{Has}
use Rattle.trie.specs.Values.{marks_of, Noted}

-- Of the trie's words, those are marked that are among all words and not among the rest, which are to be marked yet.
pub record Marking (t : Trie) (all rest : List Word) (marks : List ℕ) : Type 0 where
  pub seen : List Word
  pub noted : Noted t (marks_of seen) marks
  pub split : (w : Word) → Has t w → is_in w all ≡ (is_in w seen || is_in w rest)

-- the trie has the words, and those of them that are tests are marked
pub record Knowing (tests words : List Word) (label first next marks : List ℕ) : Type 0 where
  pub trie : Trie
  pub holds : Holds trie label first next
  pub has : (w : Word) → is_in w words ≡ true → Has trie w
  pub marked : Marking trie tests [] marks
