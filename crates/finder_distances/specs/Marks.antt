-- The table of distances: an entry for each two states, the same both ways round.
use Rattle.std.specs.Prelude.{ℕ, ◌+◌, ◌*◌, ◌≡◌, List, length, get_or, set, replicate}
use Rattle.rules.specs.Sizes.{most_states}

-- how many entries there are
abbrev pub places : ℕ
places = 4096

abbrev pub place_of : ℕ → ℕ → ℕ
place_of p q = p * most_states + q

pub record MarkTable (m : List ℕ) : Type 0 where
  pub size : length m ≡ places

unfoldable pub unmarked : List ℕ
unmarked = replicate places 0

-- the entry of two states
unfoldable pub mark_of : List ℕ → ℕ → ℕ → ℕ
mark_of m p q = get_or m (place_of p q) 0

-- the table with another entry for two states
unfoldable pub with_mark : List ℕ → ℕ → ℕ → ℕ → List ℕ
with_mark m p q x = set (set m (place_of p q) x) (place_of q p) x
