-- What the program answers of the numbers of a machine, and the names by which it calls their readers, which the rules write out
-- where they use them.
use Rattle.std.specs.Prelude.{ℕ, eqb, Result}
use Rattle.rules.specs.declared.Fault.TheVariants.{BadNumbers}
use Rattle.rules.specs.Sizes.{most_inputs, most_states, counts}
use Rattle.rules.specs.Reading.{Got, Reader, ◌>>=◌, ◌>>◌, done, byte, judged, count}
use Rattle.reader_steps.specs.declared.Stop.{Stop}
use Rattle.reader_steps.specs.Steps.{answered}
use Rattle.reader_parts.specs.declared.Sizes.{Sizes}

-- inputs and states
abbrev pub sizes_are : ℕ × ℕ → ℕ → Sizes
sizes_are z p = record { inputs = z.0; states = z.1; next = p }

abbrev pub sizes_read : Got (ℕ × ℕ) → Result Sizes Stop
sizes_read = answered sizes_are

abbrev pub number : ℕ → Reader ℕ
number most = judged (counts most) BadNumbers byte

-- the front of a file that has c numbers
unfoldable pub sizes : ℕ → Reader (ℕ × ℕ)
sizes c = do
  judged (eqb c) BadNumbers count
  k ← number most_inputs
  n ← number most_states
  done (k, n)
