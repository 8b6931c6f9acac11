-- Unpacking a packed answer of compare gives the answer back, for every answer that its promise allows. The other operations' are in specs/Unpacked.antt.
use Rattle.std.specs.Prelude.{ℕ, ◌≡◌, List}
use Rattle.rules.specs.declared.Compared.{Compared}
use Rattle.rules.specs.Answers.{compare_says}
use Rattle.rules.specs.Promises.{ComparePromise}
use Rattle.theory.specs.Answers.{compare_said, compare_said_lem}
use Rattle.theory.proofs.Bounds.{compare_fits}
use Rattle.hegdorvin_packing.specs.Packed.{packed}
use Rattle.hegdorvin.specs.Unpacked.{unpacked, back, made_compare}

pub compare_unpacks : (dossier unit out : List ℕ) (r : Compared) (left : List ℕ) → ComparePromise dossier unit out r left → compare_said (unpacked (packed (compare_says r))) ≡ r
compare_unpacks dossier unit out r left promise = back compare_says compare_said compare_said_lem made_compare r (compare_fits dossier unit out r left promise)
