-- What the search leaves, in the words of the rules (document 02, L1): which states have an access word, and which word it is.
use Rattle.std.specs.Prelude.{ℕ, ◌+◌, ◌-◌, ◌≤◌, ◌<◌, ◌≡◌, not, eqb, length, get_or}
use mathlib.Core.List.{List, flat_map}
use Rattle.rules.specs.Sizes.{most_states}
use Rattle.rules.specs.Lists.{numbers, keep}
use Rattle.rules.specs.Words.{Word}
use Rattle.rules.specs.Files.{UnitData, word_bytes}
use Rattle.rules.specs.Find.{access_word, nothing, word_of, found_cover}
use Rattle.reader.specs.declared.UnitShape.{UnitShape}
use Rattle.reader.specs.Standing.{UnitStands, unit_in, unit_in_lem}
use Rattle.finder_access.specs.Queue.{state_at, Spelt}

-- the access word of a state, and of the state of an entry
abbrev pub word_to : UnitData → ℕ → Word
word_to u q = word_of (access_word u q)

abbrev pub entry_word : UnitData → List ℕ → ℕ → Word
entry_word u queue j = word_to u (state_at queue j)

-- the states that have one
abbrev pub reached_states : UnitData → List ℕ
reached_states u = keep (λ q. not (nothing (access_word u q))) (numbers u.states)

-- a state has a place exactly where it has an access word
pub record Marks (u : UnitData) (places : List ℕ) : Type 0 where
  pub table : length places ≡ most_states
  pub asked : (q : ℕ) → q < most_states → nothing (access_word u q) ≡ eqb (get_or places q 0) 0

-- the queue and the places after the search over the unit u
pub record Reaches (u : UnitData) (queue places : List ℕ) : Type 0 where
  pub tail : ℕ
  pub room : length queue ≡ most_states
  pub few : tail ≤ most_states
  pub some : 0 < tail
  pub marks : Marks u places
  pub inside : (q : ℕ) → q < most_states → get_or places q 0 ≤ tail
  pub spelt : Spelt queue tail (entry_word u queue)
  pub words : (q : ℕ) → q < most_states → word_to u q ≡ entry_word u queue (get_or places q 0 - 1)

-- What was reached of the unit that stands in the bytes was reached of the unit that was read.
pub reaches_held : {s : List ℕ} {x : UnitShape} {u : UnitData} (stands : UnitStands s x u) {queue places : List ℕ} → Reaches (unit_in s x) queue places → Reaches u queue places
reaches_held stands r = rw (unit_in_lem stands) at r

-- the queue and the places after a search over some unit
pub record Lent (queue places : List ℕ) : Type 0 where
  pub held : UnitData
  pub reaches : Reaches held queue places

-- the bytes of a state's access word fit into an output from the place p on
pub record WordFits (queue places : List ℕ) (q p room : ℕ) : Type 0 where
  pub held : UnitData
  pub reaches : Reaches held queue places
  pub state : q < most_states
  pub fits : p + length (word_bytes (word_to held q)) ≤ room

-- and those of all states' access words
pub record CoverFits (queue places : List ℕ) (n p room : ℕ) : Type 0 where
  pub held : UnitData
  pub reaches : Reaches held queue places
  pub states : held.states ≡ n
  pub few : n ≤ most_states
  pub fits : p + length (flat_map word_bytes (found_cover held)) ≤ room
