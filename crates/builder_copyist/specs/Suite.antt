-- The maximal words of a trie of the needed words are the tests that build writes; and where the needed words have more nodes than
-- 65,536, the dossier that build would write is over its size.
use Rattle.std.specs.Prelude.{ℕ, ◌+◌, ◌≤◌, ◌<◌, ◌≡◌, refl, length}
use Rattle.std.proofs.Common.{arith, sym, ap, ◌∙◌, inl, inr, length-append}
use Rattle.std.proofs.Math.Decide.{ℕ_discrete}
use mathlib.Core.List.{[], ◌∷◌, ◌++◌, append_assoc, append-nil, List-discrete}
use Rattle.rules.specs.Sizes.{most_test_word, most_dossier_bytes}
use Rattle.rules.specs.Lists.{◌∈◌}
use Rattle.rules.specs.Words.{Word, Valid}
use Rattle.rules.specs.Files.{DossierData, count_bytes, words_bytes, front_bytes, dossier_bytes}
use Rattle.rules.specs.Needed.{IsNeeded, needed_words, built_tests}
use Rattle.theory.specs.Sized.{SizedDossier}
use Rattle.theory.specs.Sound.{Sound}
use Rattle.theory.specs.Missing.{needed_words_lem}
use Rattle.theory.specs.Build.{built_dossier, built_tests_lem, needed_sized}
use Rattle.trie.specs.Model.{Trie, size, word_of, Proper, proper_root, proper_grow, add_all}
use Rattle.trie.specs.Grow.{size-grow}
use Rattle.trie.specs.Words.{Has, word_new, word_old, all_proper, all_has, has_all_new}
use Rattle.trie_lister.specs.Visits.{maximal, bytes_of}
use Rattle.trie_lister.specs.Maximal.{Maximal, Labels, maximal_is, maximal_rising, rising_unique, nil_right}
use Rattle.trie.specs.Sizes.{all_grows}
use Rattle.trie_lister.specs.Nodes.{nodes_bytes}
use Rattle.builder_grower.specs.Grown.{Within, Needs}

-- Parts of words.

left_valid : (k : ℕ) (x y : Word) → Valid k (x ++ y) → Valid k x
left_valid k [] y valid = tt
left_valid k (a ∷ x) y (less, valid) = (less, left_valid k x y valid)

last_valid : (k : ℕ) (x : Word) (a : ℕ) → Valid k (x ++ (a ∷ [])) → a < k
last_valid k [] a (less, valid) = less
last_valid k (b ∷ x) a (less, valid) = last_valid k x a valid

no_inputs : (y : Word) → length y ≤ 0 → y ≡ []
no_inputs [] h = refl
no_inputs (a ∷ y) h = absurd (omega arith)

-- the labels of a trie whose words are over k inputs are below k
valid_labels : {t : Trie} → Proper t → (k : ℕ) → ((v : Word) → Has t v → Valid k v) → Labels k t
valid_labels proper_root k valid = tt
valid_labels (proper_grow {t = t} {p = p} {a = a} v below new) k valid = (
  last_valid k (word_of t p) a (valid _ (size t, omega (arith, size-grow t p a), word_new t p a)),
  valid_labels v k (λ w (i, less, e). valid w (i, omega (arith, size-grow t p a), word_old t p a i less ∙ e)),
)

module _ (d : DossierData) (sized : SizedDossier d) (t : Trie) (within : Within d t) where
  has_sized : (v : Word) → Has t v → Valid d.inputs v × (length v ≤ most_test_word)
  has_sized v h =
      elim (within v h) [
        | inl e ↦ rw e (tt, omega arith)
        | inr (w, n, (rest, e)) ↦
            let (valid, short) = needed_sized d sized w n in
            let begun : Valid d.inputs (v ++ rest) = rw e valid in
            (left_valid d.inputs v rest begun, omega (arith, simp length-append at (ap length e)))
      ]

  -- No word of the trie is longer than a test may be.
  pub needed_deep : (i : ℕ) → i < size t → length (word_of t i) ≤ most_test_word
  needed_deep i less = (has_sized (word_of t i) (i, less, refl)).1

  needed_labels : Proper t → Labels d.inputs t
  needed_labels v = valid_labels v d.inputs (λ w h. (has_sized w h).0)

module _ (d : DossierData) (sized : SizedDossier d) (is_sound : Sound d) where
  -- a sound dossier has a needed word
  some_needed : (w : Word) × IsNeeded d w
  some_needed =
      let (s, m) = is_sound.separator in (
        s,
        record {
          front = [];
          middle = [];
          back = s;
          covering = is_sound.empty_word;
          inputs = tt;
          short = omega arith;
          separating = m;
          joined = refl;
        },
      )

  module _ {t : Trie} (v : Proper t) (needs : Needs d t) where
    maximal_needed : (x : Word) → Maximal t x → IsNeeded d x
    maximal_needed x (h, last) =
        elim (needs.within x h) [
          | inl e ↦
              let (w, n) = some_needed in
              let none : w ≡ [] = last w (rw e (needs.whole w n)) in
              rw (e ∙ sym none) n
          | inr (w, n, (rest, e)) ↦
              let none : rest ≡ [] = last rest (rw e (needs.whole w n)) in
              let same : x ≡ w = sym (append-nil x) ∙ rw none at e in
              rw same n
        ]

    maximal_built : (x : Word) → Maximal t x → x ∈ built_tests d
    maximal_built x (h, last) =
        (built_tests_lem d).whole x (maximal_needed x (h, last))
        (λ w n ((rest, e), ne). ne (sym (append-nil x) ∙ rw (last rest (rw e (needs.whole w n))) at e))

    built_maximal : (x : Word) → x ∈ built_tests d → Maximal t x
    built_maximal x m = (
      needs.whole x ((built_tests_lem d).all_needed x m),
      λ y h.
          elim (needs.within (x ++ y) h) [
            | inl e ↦ nil_right x y e
            | inr (w, n, (rest, e)) ↦
                let (z, among, (more, f)) = (built_tests_lem d).enough w n in
                let whole : x ++ (y ++ (rest ++ more)) ≡ z =
                sym (append_assoc x y (rest ++ more)) ∙ sym (append_assoc (x ++ y) rest more) ∙ ap (λ (l : Word). l ++ more) e ∙ f
                in
                elim (List-discrete ℕ_discrete x z) [
                  | yes same ↦ no_inputs y (omega (arith, simp length-append at (ap length whole), ap length same))
                  | no ne ↦ absurd ((built_tests_lem d).apart x z m among ((y ++ (rest ++ more), whole), ne))
                ]
          ],
    )

    -- THE LAW
    pub listed : maximal t d.inputs ≡ built_tests d
    listed =
        rising_unique (maximal t d.inputs) (built_tests d) (maximal_rising t d.inputs) (built_tests_lem d).sorted
        (λ x.
        let is = maximal_is v d.inputs (needed_labels d sized t needs.within v) x in
        (λ m. maximal_built x (is.0 m), λ m. is.1 (built_maximal x m)))

    nodes_few : size t ≤ length (bytes_of (built_tests d))
    nodes_few = rw listed at (nodes_bytes v d.inputs (needed_labels d sized t needs.within v))

-- the bytes of the built dossier: what stands before the tests, their count, and the tests
pub built_laid : (d : DossierData) → dossier_bytes (built_dossier d) ≡ (front_bytes d ++ count_bytes (length (built_tests d))) ++ bytes_of (built_tests d)
unfolding dossier_bytes words_bytes front_bytes
built_laid d = sym (append_assoc (front_bytes d) (count_bytes (length (built_tests d))) (bytes_of (built_tests d)))

pub front_size : (d : DossierData) → length (front_bytes d ++ count_bytes (length (built_tests d))) ≡ length (front_bytes d) + 2
unfolding count_bytes
front_size d = length-append (front_bytes d) (count_bytes (length (built_tests d)))

pub built_size : (d : DossierData) → length (dossier_bytes (built_dossier d)) ≡ length (front_bytes d) + 2 + length (bytes_of (built_tests d))
built_size d =
    ap length (built_laid d)
    ∙ length-append (front_bytes d ++ count_bytes (length (built_tests d))) (bytes_of (built_tests d))
    ∙ rw (front_size d)

-- a trie that has nothing but needed words, and all other needed words put in
added_needs : (d : DossierData) {t : Trie} → Proper t → Within d t → Needs d (add_all t (needed_words d))
added_needs d v within =
    record {
      within = λ x h.
          elim (all_has v (needed_words d) x h) [
            | inl old ↦ within x old
            | inr (w, m, b) ↦ inr (w, (needed_words_lem d w).0 m, b)
          ];
      whole = λ w n. has_all_new v (needed_words d) w (w, (needed_words_lem d w).1 n, ([], append-nil w));
    }

-- THE LAW
pub nodes_over : (d : DossierData) → SizedDossier d → Sound d → {t : Trie} → Proper t → Within d t → 65536 < size t → most_dossier_bytes < length (dossier_bytes (built_dossier d))
nodes_over d sized is_sound {t} v within over =
    let few = nodes_few d sized is_sound (all_proper v (needed_words d)) (added_needs d v within) in
    omega (arith, few, all_grows t (needed_words d), built_size d)
