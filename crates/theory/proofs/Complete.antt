-- The theorem of the product (document 01, "Needed words"; source 000, the W method).
use Rattle.std.specs.Prelude.{◌≡◌, refl, ◌++◌, suc, ◌-◌, ◌≤◌, length}
use Rattle.std.proofs.Common.{arith}
use Rattle.rules.specs.Lists.{◌∈◌}
use Rattle.rules.specs.Words.{Word, Valid}
use Rattle.rules.specs.Machines.{Machine, Complete, answer}
use Rattle.rules.specs.Files.{DossierData, golden, bound}
use Rattle.rules.specs.Needed.{IsNeeded, IsAccepted}
use Rattle.theory.specs.Sized.{SizedDossier}
use Rattle.theory.specs.Machines.{golden_complete, alike_first}
use Rattle.theory.specs.Suites.{Tried}
use Rattle.theory.proofs.Suites.{tried_enough}

-- A unit that has no more states than the bound of an accepted dossier, and answers every test as the golden does, answers
-- every word as the golden does.
pub complete : (d : DossierData) → SizedDossier d → IsAccepted d → (U : Machine) → Complete d.inputs U → U.states ≤ bound d
    → ((t : Word) → t ∈ d.tests → answer U t ≡ answer (golden d) t)
    → (w : Word) → Valid d.inputs w → answer U w ≡ answer (golden d) w
complete d sized accepted U unit few passes = tried_enough tried
  where
    -- the answers to a needed word are alike, as it begins a test
    alike : (c y s : Word) → c ∈ d.cover → Valid d.inputs y → length y ≤ suc (bound d - d.states) → s ∈ d.separating
        → answer U (c ++ y ++ s) ≡ answer (golden d) (c ++ y ++ s)
    alike c y s in_c v short in_s =
        let need : IsNeeded d (c ++ y ++ s) = record { front = c; middle = y; back = s; covering = in_c; inputs = v; short = short; separating = in_s; joined = refl } in
        let (t, in_t, (rest, e)) = accepted.tested (c ++ y ++ s) need in
        alike_first U (golden d) 0 0 (c ++ y ++ s) rest (rw e (passes t in_t))

    tried : Tried d.inputs (golden d) U (bound d - d.states) d.cover d.separating (λ q. d.separating)
    tried =
        record {
          golden = golden_complete sized.golden;
          unit = unit;
          few = omega arith;
          valid = λ c in_c. (sized.cover c in_c).0;
          empty_word = accepted.empty_word;
          reached = accepted.reached;
          some_id = λ q h. accepted.separator;
          among = λ q s in_s. in_s;
          identified = accepted.separated;
          separate = λ c y s in_c v short in_s. alike c y s in_c v (omega arith) in_s;
          identify = λ c y s in_c v some short in_s. alike c y s in_c v short in_s;
        }
