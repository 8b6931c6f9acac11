-- Document 01, "No refusal writes to an output": what the promise of compare says of the output afterwards, where it finds a telling word.
use Rattle.std.specs.Prelude.{ℕ, ◌≡◌, ◌⊎◌, List, length}
use Rattle.std.proofs.Common.{arith, inl, inr}
use Rattle.std.proofs.Math.Option.{Option, none, some}
use Rattle.rules.specs.declared.Refusal.{Refusal}
use Rattle.rules.specs.declared.Compared.TheVariants.{Equal as Alike, Differs, Refused as CompareRefused}
use Rattle.rules.specs.Operations.{fine, refuse, overwritten, compare, compare_answer, compare_output}
use Rattle.rules.specs.Promises.{ComparePromise}
use Rattle.theory.specs.Outcomes.{settled}
use Rattle.theory.specs.Answers.{compare_answer_lem}
use Rattle.theory.proofs.Compare.{compare_gives}
use Rattle.theory.specs.Writes.{WrittenTo, written_to}

module _ (dossier unit out left : List ℕ) where
  -- Where they differ, the telling word stands at the front of the output, and later bytes stay.
  pub differs_writes : (n : ℕ) → ComparePromise dossier unit out (Differs n) left
      → (w : List ℕ) × (n ≡ length w) × (compare dossier unit out ≡ fine (some w)) × WrittenTo out left w
  differs_writes n promise =
      let (answer, output) = compare_answer_lem dossier unit out (Differs n) left promise in
      wrote (settled (compare dossier unit out)) answer output
    where
      wrote : ((o : Option (List ℕ)) × (compare dossier unit out ≡ fine o)) ⊎ ((s : Refusal) × (compare dossier unit out ≡ refuse s))
          → Differs n ≡ compare_answer dossier unit out → left ≡ compare_output dossier unit out
          → (w : List ℕ) × (n ≡ length w) × (compare dossier unit out ≡ fine (some w)) × WrittenTo out left w
      wrote (inr (s, e)) h l = let z : Differs n ≡ CompareRefused s = rw e at h in let no : ◌≡◌ {A = ℕ} 0 1 = cc in absurd (omega arith)
      wrote (inl (none, e)) h l = let z : Differs n ≡ Alike = rw e at h in let no : ◌≡◌ {A = ℕ} 0 1 = cc in absurd (omega arith)
      wrote (inl (some w, e)) h l =
          let (d, u, c, (t, fits)) = rw e at (compare_gives dossier unit out) in
          let is : n ≡ length w = cc (rw e at h) in
          let left_is : left ≡ overwritten w out = rw e at l in
          (w, is, e, rw left_is (written_to out w fits))
