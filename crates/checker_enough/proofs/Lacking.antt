-- Laws of the search for a missing word: there is something to look for, and a dossier without tests lacks its first needed word; what
-- was found is what 11 says.
use Prim.Native.Nat.{ℕ, zero, suc, ◌≤◌, ◌<◌}
use native.Mathlib.Omega.{arith}
use mathlib.Core.Path.{◌≡◌, sym, ◌∙◌, ap}
use mathlib.Core.List.Memᴰ
use mathlib.Core.List.{List, []}
use lib.ListN.{length, get_or}
use Rattle.std.specs.Prelude.{Option, Some, None, Ok, Err}
use Rattle.rules.specs.declared.Middle.{Middle}
use Rattle.rules.specs.declared.Refusal.TheVariants.{Missing}
use Rattle.rules.specs.Lists.{◌∈◌}
use Rattle.rules.specs.Words.{Word, shortlex}
use Rattle.rules.specs.Answers.{middle_of}
use Rattle.rules.specs.Operations.{fine, sound}
use Rattle.theory.specs.Sound.{Sound, sound-fine}
use Rattle.reader.specs.declared.DossierShape.{DossierShape}
use Rattle.reader.specs.Places.{words_at}
use Rattle.reader.specs.Turns.{words_end}
use Rattle.soundness.specs.Lent.{Lent, sound_of, finding_of}
use Rattle.checker_search.specs.Blocks.{enough_of, longest_at, LackOf}
use Rattle.checker_enough.specs.Begun.{Begun}
use Rattle.checker_enough.proofs.Untested.{untested}

-- a word among c words is among one or more
words_there : (s : List ℕ) (p c : ℕ) {w : Word} {l : List Word} → words_at s p c ≡ l → w ∈ l → 0 < c
words_there s p zero e m = absurd (Memᴰ.not-nil (rw (sym e ∙ words_end s p 0 (omega arith)) at m))
words_there s p (suc c) e m = omega arith

module _ (s : List ℕ) (x : DossierShape) (lent : Lent s x) (good : sound_of s ≡ fine tt) where
  is_sound : Sound lent.held
  is_sound = let e : sound lent.held ≡ fine tt = rw lent.reads at good in (sound-fine lent.held).0 e

  -- there is something to look for
  separator_there : 0 < x.separators
  separator_there = words_there s x.separating x.separators lent.stands.separating_words is_sound.separator.1

  pub begun : (x.count ≡ 0 → ⊥) → (longest : ℕ) → longest ≡ longest_at x → (total : ℕ) → total ≡ length (shortlex x.inputs longest) → total ≤ 1118481 → Begun s x total
  begun some longest is total e few =
      record {
        lent = lent;
        some_test = omega (arith, some);
        some_separator = separator_there;
        all_middles = e ∙ ap (λ (b : ℕ). length (shortlex x.inputs b)) is;
        few_middles = few;
      }

  -- where there is no test, none begins with it
  pub none_tested : x.count ≡ 0 → (m : Middle) → m ≡ middle_of [] → Err (Missing 0 m 0) ≡ finding_of (enough_of s)
  none_tested none m is =
      let no_tests : lent.held.tests ≡ [] = sym lent.stands.tests_words ∙ words_end s x.tests x.count (omega arith) in
      let (w, in_separating) = is_sound.separator in
      let lacks = untested lent.held is_sound.empty_word in_separating no_tests in
      rw (lent.reads, lacks, is)

-- what the search found is what 11 says
module _ (s : List ℕ) (x : DossierShape) (r : Option (ℕ × ℕ × ℕ)) (found : LackOf s x r) where
  pub none_lacking : r ≡ None → Ok tt ≡ finding_of (enough_of s)
  none_lacking is = let none : finding_of (enough_of s) ≡ Ok tt = rw is at found in sym none

  module _ (c y e : ℕ) (is : r ≡ Some (c, y, e)) (longest : ℕ) (longest_is : longest ≡ longest_at x) where
    pub lacking_inside : y < length (shortlex x.inputs longest)
    lacking_inside = let here : LackOf s x (Some (c, y, e)) = rw is at found in rw longest_is here.0

    pub some_lacking : (m : Middle) → m ≡ middle_of (get_or (shortlex x.inputs longest) y []) → Err (Missing c m e) ≡ finding_of (enough_of s)
    some_lacking m m_is =
        let here : LackOf s x (Some (c, y, e)) = rw is at found in
        ap (λ (m : Middle). Err (Missing c m e)) (m_is ∙ ap (λ (b : ℕ). middle_of (get_or (shortlex x.inputs b) y [])) longest_is) ∙ sym here.1
