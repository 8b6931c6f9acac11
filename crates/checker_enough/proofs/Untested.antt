-- A dossier without tests: its first needed word is missing, even where that word is empty.
use Prim.Native.Nat.{ℕ}
use native.Mathlib.Omega.{arith}
use mathlib.Core.Path.{◌≡◌, refl}
use mathlib.Core.Logic.{inl, inr}
use mathlib.Core.List.Memᴰ
use mathlib.Core.List.{List, [], ◌∷◌}
use mathlib.Core.Bool.{false≢true}
use lib.ListN.{length}
use Rattle.rules.specs.declared.Refusal.TheVariants.{Missing}
use Rattle.rules.specs.Lists.{◌∈◌}
use Rattle.rules.specs.Words.{Word, by_inputs}
use Rattle.rules.specs.Files.{DossierData}
use Rattle.rules.specs.Answers.{middle_of}
use Rattle.rules.specs.Operations.{refuse, enough}
use Rattle.theory.specs.Lists.{At}
use Rattle.theory.specs.Orders.{first_then_says}
use Rattle.theory.specs.Missing.{Earlier, FirstMissing, missing-some}

-- what stands first in a list that has something
first_of : {x : Word} {l : List Word} → x ∈ l → (y : Word) × At l 0 y
first_of {l = []} m = absurd (Memᴰ.not-nil m)
first_of {l = y ∷ l} m = (y, refl)

-- nothing is looked for before the empty middle at the first places
none_earlier : (d : DossierData) (i : ℕ) (y : Word) (j : ℕ) → Earlier d i y j 0 [] 0 → ⊥
none_earlier d i y j (inl less) = omega arith
none_earlier d i y j (inr (e, inl before)) =
    elim ((first_then_says (length y) 0 (by_inputs y [])).0 before) [ inl less ↦ omega arith | inr (e', more) ↦ false≢true more ]
none_earlier d i y j (inr (e, inr (e', less))) = omega arith

pub untested : (d : DossierData) {c s : Word} → c ∈ d.cover → s ∈ d.separating → d.tests ≡ [] → enough d ≡ refuse (Missing 0 (middle_of []) 0)
unfolding enough
untested d in_cover in_separating none =
    let (c, at_c) = first_of in_cover in
    let (s, at_s) = first_of in_separating in
    let f : FirstMissing d 0 [] 0 =
    record {
      front = c;
      back = s;
      front_at = at_c;
      middle = (tt, omega arith);
      back_at = at_s;
      missing = λ t m b. Memᴰ.not-nil (rw none at m);
      earlier = λ i y j c' s' before a b c''. absurd (none_earlier d i y j before);
    } in
    rw (missing-some d 0 [] 0 f)
