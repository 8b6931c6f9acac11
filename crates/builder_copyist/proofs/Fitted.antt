-- Laws of the trie of the needed words: how deep it is, how many bytes its maximal words have, and what they are when written.
use Prim.Native.Nat.{ℕ, ◌+◌, ◌-◌, ◌≤◌, ◌<◌}
use native.Mathlib.Omega.{arith}
use mathlib.Core.Path.{◌≡◌, refl, sym, ap, ◌∙◌}
use mathlib.Core.List.{List, [], ◌∷◌, ◌++◌, flat_map}
use lib.ListN.{length, take, length-append}
use Rattle.std.specs.Prelude.{Option, Some, None}
use Rattle.rules.specs.Sizes.{most_test_word, most_dossier_bytes}
use Rattle.rules.specs.Words.{Word}
use Rattle.rules.specs.Files.{DossierData, count_bytes, word_bytes, front_bytes, dossier_bytes}
use Rattle.rules.specs.Needed.{built_tests}
use Rattle.rules.specs.Operations.{fine, read_dossier, overwritten}
use Rattle.theory.specs.Build.{built_dossier}
use Rattle.reader.specs.declared.DossierShape.{DossierShape}
use Rattle.trie.specs.Model.{Trie, size, word_of}
use Rattle.trie.specs.Grow.{size_pos}
use Rattle.trie.specs.Words.{word_root}
use Rattle.trie.specs.Holds.{Holds}
use Rattle.trie_lister.specs.Visits.{leaves, maximal, bytes_of, WroteOf, MeasureOf, Visiting, Deep}
use Rattle.builder_grower.specs.Grown.{GrownOf}
use Rattle.builder_copyist.specs.Ready.{Buildable, Planted, Fitting, built_bytes}
use Rattle.builder_copyist.specs.Suite.{listed, needed_deep, built_laid, front_size, built_size, nodes_over}
use Rattle.builder_copyist.proofs.Writing.{rest_written}

-- each word has a length byte
words_few : (ws : List Word) → length ws ≤ length (bytes_of ws)
unfolding flat_map word_bytes
words_few [] = omega arith
words_few (w ∷ ws) = omega (arith, words_few ws, length-append w (bytes_of ws))

module _ {s : List ℕ} {x : DossierShape} (b : Buildable s x) where
  pub built_bytes_lem : built_bytes s ≡ dossier_bytes (built_dossier b.lent.held)
  built_bytes_lem = rw b.lent.reads

  -- what is grown
  module _ (label first next : List ℕ) (r : Option ℕ) (grown : (d : DossierData) → read_dossier s ≡ fine d → GrownOf d label first next r) where
    pub planted : (count : ℕ) → r ≡ Some count → Planted s x label first next
    planted count is =
        let nodes : GrownOf b.lent.held label first next (Some count) = rw is at (grown b.lent.held b.lent.reads) in
        record { dossier = b; trie = nodes.0; holds = nodes.1; needs = nodes.3 }

    pub full_over : r ≡ None → most_dossier_bytes < length (built_bytes s)
    full_over is =
        let full : GrownOf b.lent.held label first next None = rw is at (grown b.lent.held b.lent.reads) in
        rw built_bytes_lem (nodes_over b.lent.held b.lent.stands.sized b.is_sound full.1 full.2 full.3)

-- what `measure` says of the trie that the arrays hold, from the root on
abbrev pub Measures : List ℕ → List ℕ → List ℕ → DossierShape → Option (ℕ × ℕ) → Type 0
Measures label first next x r = (t : Trie) → Holds t label first next → 0 < size t → (n : ℕ) → size t ≤ 0 + n → (u : Word) → length u ≡ 0 → MeasureOf (leaves t x.inputs n 0 u) 0 x.tests most_dossier_bytes r

module _ {s : List ℕ} {x : DossierShape} {label first next : List ℕ} (p : Planted s x label first next) where
  abbrev d : DossierData
  d = p.dossier.lent.held

  words_are : maximal p.trie x.inputs ≡ built_tests d
  words_are =
      ap (maximal p.trie) p.dossier.lent.stands.inputs
      ∙ listed d p.dossier.lent.stands.sized p.dossier.is_sound p.holds.proper p.needs

  deep : (i : ℕ) → i < size p.trie → length (word_of p.trie i) ≤ most_test_word
  deep = needed_deep d p.dossier.lent.stands.sized p.trie p.needs.within

  pub deep_enough : (room : ℕ) → 255 ≡ room → Deep label first next room
  deep_enough room e = record { trie = p.trie; holds = p.holds; deep = λ i less. omega (arith, deep i less) }

  pub at_root : Visiting label first next 0 0 255
  at_root =
      record {
        trie = p.trie;
        holds = p.holds;
        below = size_pos p.trie;
        level = ap length (word_root p.trie);
        deep = λ i less. omega (arith, deep i less);
      }

  size_is : length (built_bytes s) ≡ x.tests + length (bytes_of (built_tests d))
  size_is = let long = ap length (built_bytes_lem p.dossier) ∙ built_size d in omega (arith, long, p.dossier.place)

  -- what is measured
  module _ (r : Option (ℕ × ℕ)) (measured : Measures label first next x r) where
    measure_is : MeasureOf (built_tests d) 0 x.tests most_dossier_bytes r
    measure_is = rw words_are at (measured p.trie p.holds (size_pos p.trie) (size p.trie) (omega arith) [] refl)

    pub fits_counted : (words long : ℕ) → r ≡ Some (words, long) → (words ≡ length (built_tests d)) × (long ≡ length (built_bytes s)) × (long ≤ most_dossier_bytes)
    fits_counted words long is =
        let m : MeasureOf (built_tests d) 0 x.tests most_dossier_bytes (Some (words, long)) = rw is at measure_is in
        (omega (arith, m.0), m.1 ∙ sym size_is, m.2)

    pub measured_over : r ≡ None → most_dossier_bytes < length (built_bytes s)
    measured_over is =
        let m : MeasureOf (built_tests d) 0 x.tests most_dossier_bytes None = rw is at measure_is in
        omega (arith, m, size_is)

    pub fitting : (words long room : ℕ) → r ≡ Some (words, long) → long ≤ room → Fitting s x label first next words room
    fitting words long room is fits =
        let (count, size, small) = fits_counted words long is in
        record { planted = p; counted = count; small = omega arith; fits = omega arith }

module _ {s : List ℕ} {x : DossierShape} {label first next : List ℕ} {words room : ℕ} (f : Fitting s x label first next words room) where
  pub front_room : (x.tests - 2 ≤ length s) × (x.tests - 2 + 2 ≤ room) × (words < 65536)
  front_room =
      let p = f.planted in
      let long = size_is p in (
        omega (arith, p.dossier.lent.stands.tests_inside),
        omega (arith, long, f.fits, p.dossier.place),
        omega (arith, long, f.small, f.counted, words_few (built_tests p.dossier.lent.held)),
      )

  pub built_written : (out out₁ out₂ : List ℕ) (r : Option ℕ) → length out ≡ room → out₁ ≡ overwritten (take (x.tests - 2) s ++ count_bytes words) out
      → ((t : Trie) → Holds t label first next → WroteOf (bytes_of (maximal t x.inputs)) out₁ x.tests out₂ r) → out₂ ≡ overwritten (built_bytes s) out
  built_written out out₁ out₂ r room_is first_is wrote =
      let p = f.planted in
      let e : DossierData = p.dossier.lent.held in
      let place : x.tests - 2 ≡ length (front_bytes e) = omega (arith, p.dossier.place) in
      let front : take (x.tests - 2) s ≡ front_bytes e = ap (λ (n : ℕ). take n s) place ∙ p.dossier.front in
      let tests : WroteOf (bytes_of (built_tests e)) out₁ x.tests out₂ r = rw (words_are p) at (wrote p.trie p.holds) in
      let start : out₁ ≡ overwritten (front_bytes e ++ count_bytes (length (built_tests e))) out = first_is ∙ rw (front, f.counted) in
      let width : length (front_bytes e ++ count_bytes (length (built_tests e))) ≡ x.tests = front_size e ∙ sym p.dossier.place in
      rest_written (front_bytes e ++ count_bytes (length (built_tests e))) (bytes_of (built_tests e)) out out₁ out₂ x.tests r (sym width) (omega (arith, size_is p, f.fits)) start tests
      ∙ rw (built_bytes_lem p.dossier, built_laid e)
