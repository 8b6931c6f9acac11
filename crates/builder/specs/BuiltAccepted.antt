-- What the promises of build and check say together: whatever build may write, check may only accept.
use Rattle.std.specs.Prelude.{ℕ, ◌≡◌, refl, List, length, take}
use Rattle.std.proofs.Common.{ap, ◌∙◌}
use Rattle.rules.specs.declared.Built.TheVariants.{Written}
use Rattle.rules.specs.declared.Checked.{Checked}
use Rattle.rules.specs.declared.Checked.TheVariants.{Accepted}
use Rattle.rules.specs.Files.{DossierData, golden, bound}
use Rattle.rules.specs.Needed.{built_tests}
use Rattle.rules.specs.Operations.{fine, read_dossier}
use Rattle.rules.specs.Promises.{CheckPromise, BuildPromise}
use Rattle.theory.specs.Answers.{check_answer_lem}
use Rattle.theory.specs.Build.{built_dossier, build_gives, built_reads_back, built_accepted}
use Rattle.theory.specs.Writes.{built_writes}

-- the dossier e is the dossier d with other tests: those that build writes
pub record BuiltFrom (d e : DossierData) : Type 0 where
  pub same_inputs : e.inputs ≡ d.inputs
  pub same_states : e.states ≡ d.states
  pub same_golden : golden e ≡ golden d
  pub same_cover : e.cover ≡ d.cover
  pub same_separating : e.separating ≡ d.separating
  pub same_bound_byte : e.bound_byte ≡ d.bound_byte
  pub same_bound : bound e ≡ bound d
  pub tests : e.tests ≡ built_tests d

module _ (dossier out left : List ℕ) (n : ℕ) (promise : BuildPromise dossier out (Written n) left) where
  written_is : (w : List ℕ) → n ≡ length w → take (length w) left ≡ w → take n left ≡ w
  written_is w count front = ap (λ (m : ℕ). take m left) count ∙ front

  -- Of the bytes that build says it has written, check may answer nothing but ACCEPTED.
  pub built_only_accepted : (r : Checked) → CheckPromise (take n left) r → r ≡ Accepted
  built_only_accepted r checked =
      let (w, count, wrote, to) = built_writes dossier out left n promise in
      check_answer_lem w r (rw (written_is w count to.front) at checked) ∙ built_accepted dossier out w wrote

  -- They read back as the same numbers, golden, word sets and bound, with the built tests.
  pub written_reads_back : (d e : DossierData) × (read_dossier dossier ≡ fine d) × (read_dossier (take n left) ≡ fine e) × BuiltFrom d e
  written_reads_back =
      let (w, count, wrote, to) = built_writes dossier out left n promise in
      let (d, b, is) = rw wrote at (build_gives dossier out) in (
        d,
        built_dossier d,
        b.reads,
        ap read_dossier (written_is w count to.front ∙ is) ∙ built_reads_back dossier out d b,
        record { same_inputs = refl; same_states = refl; same_golden = refl; same_cover = refl; same_separating = refl; same_bound_byte = refl; same_bound = refl; tests = refl },
      )
