-- Laws that tie what was measured and written to the promise of build.
use Prim.Native.Nat.{ℕ, ◌≤◌, ◌<◌}
use native.Mathlib.Omega.{arith}
use mathlib.Core.Path.{◌≡◌, refl, ap, ◌∙◌}
use mathlib.Core.List.{List}
use lib.ListN.{length}
use Rattle.rules.specs.declared.Refusal.{Refusal}
use Rattle.rules.specs.declared.Refusal.TheVariants.{NoRoom}
use Rattle.rules.specs.declared.Built.TheVariants.{Written, Refused}
use Rattle.rules.specs.Sizes.{most_dossier_bytes}
use Rattle.rules.specs.Answers.{build_says}
use Rattle.rules.specs.Files.{dossier_bytes}
use Rattle.rules.specs.Operations.{fine, refuse, overwritten, build}
use Rattle.rules.specs.Promises.{BuildPromise}
use Rattle.theory.specs.Build.{built_dossier, build_writes, build_refuses, over_size, no_room}
use Rattle.reader.specs.declared.DossierShape.{DossierShape}
use Rattle.builder_copyist.specs.Ready.{Buildable, built_bytes}
use Rattle.builder_copyist.proofs.Fitted.{built_bytes_lem}

-- What the rules' build answers is what the promise asks for.

module _ (s out : List ℕ) where
  written : (w : List ℕ) → build s out ≡ fine w → (n : ℕ) (left : List ℕ) → n ≡ length w → left ≡ overwritten w out → BuildPromise s out (Written n) left
  written w e n left count is = rw e (ap (λ (m : ℕ). build_says (Written m)) count, is)

  pub refused : (r : Refusal) → build s out ≡ refuse r → BuildPromise s out (Refused r) out
  refused r e = rw e (refl, refl)

module _ {s : List ℕ} {x : DossierShape} (b : Buildable s x) (out : List ℕ) where
  -- the length of what build would write
  same_size : length (built_bytes s) ≡ length (dossier_bytes (built_dossier b.lent.held))
  same_size = ap length (built_bytes_lem b)

  pub over_promise : most_dossier_bytes < length (built_bytes s) → BuildPromise s out (Refused (NoRoom 65536)) out
  over_promise over =
      refused s out _
      ((build_refuses s out _).1
      (over_size b.lent.held b.lent.reads b.is_sound (omega (arith, over, same_size)) refl))

  module _ (n : ℕ) (size : n ≡ length (built_bytes s)) (small : n ≤ most_dossier_bytes) where
    pub no_room_promise : length out < n → BuildPromise s out (Refused (NoRoom n)) out
    no_room_promise short =
        refused s out _
        ((build_refuses s out _).1
        (no_room b.lent.held b.lent.reads b.is_sound (omega (arith, same_size)) (omega (arith, same_size)) (ap NoRoom (size ∙ same_size))))

    pub written_promise : n ≤ length out → (left : List ℕ) → left ≡ overwritten (built_bytes s) out → BuildPromise s out (Written n) left
    written_promise fits left is =
        written s out _
        (build_writes s out b.lent.held
        (record { reads = b.lent.reads; is_sound = b.is_sound; small = omega (arith, same_size); fits = omega (arith, same_size) }))
        n left (size ∙ same_size) (is ∙ ap (λ (w : List ℕ). overwritten w out) (built_bytes_lem b))
