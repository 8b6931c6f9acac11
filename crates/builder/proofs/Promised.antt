-- Laws of what 1 to 10 leave to build.
use Prim.Native.Nat.{ℕ, ◌<◌}
use mathlib.Core.Path.{◌≡◌, sym, ap, ◌∙◌}
use mathlib.Core.List.{List}
use lib.ListN.{length, get_or, take}
use lib.Seq.{take-append_seam}
use Rattle.std.specs.Prelude.{Result, Ok, Err}
use Rattle.rules.specs.declared.Refusal.{Refusal}
use Rattle.rules.specs.declared.Built.TheVariants.{Refused}
use Rattle.rules.specs.Files.{DossierData, front_bytes, words_bytes, dossier_bytes}
use Rattle.rules.specs.Operations.{fine, read_dossier, build}
use Rattle.rules.specs.Promises.{BuildPromise}
use Rattle.theory.specs.Sized.{Bytes, bytes_of}
use Rattle.theory.specs.Files.{dossier_whole}
use Rattle.theory.specs.Sound.{sound-fine}
use Rattle.reader.specs.declared.DossierShape.{DossierShape}
use Rattle.reader.specs.Shapes.{dossier_shape, dossier_read}
use Rattle.reader.proofs.Held.{dossier_stands, tests_place_lem}
use Rattle.soundness.specs.Lent.{sound_dossier}
use Rattle.soundness.proofs.Behind.{left_dossier, left_refused}
use Rattle.builder_copyist.specs.Ready.{Buildable}
use Rattle.builder_copyist.proofs.Promised.{refused}

-- a dossier begins with its sections before the tests
front_first : (s : List ℕ) (d : DossierData) → Bytes s → read_dossier s ≡ fine d → take (length (front_bytes d)) s ≡ front_bytes d
unfolding dossier_bytes
front_first s d are_bytes reads =
    ap (take (length (front_bytes d))) (dossier_whole s d are_bytes reads) ∙ take-append_seam (front_bytes d) (words_bytes d.tests)

module _ (s : List ℕ) (r : Result DossierShape Refusal) (e : r ≡ dossier_read (sound_dossier s)) where
  pub buildable : (x : DossierShape) → r ≡ Ok x → ((i : ℕ) → get_or s i 0 < 256) → Buildable s x
  buildable x is each =
      let (d, reads, good, same) = left_dossier s r e x is in
      let there : Buildable s (dossier_shape d) =
      record {
        lent = record { held = d; reads = reads; stands = dossier_stands s d reads };
        is_sound = (sound-fine d).0 good;
        place = sym (tests_place_lem d);
        front = front_first s d (bytes_of s each) reads;
      }
      in
      rw same at there

  pub refused_promise : (f : Refusal) → r ≡ Err f → (out : List ℕ) → BuildPromise s out (Refused f) out
  unfolding build
  refused_promise f is out = refused s out f (left_refused s r e _ f is)
