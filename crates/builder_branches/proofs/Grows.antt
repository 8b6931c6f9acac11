-- Laws of a trie that grows by words.
use Prim.Native.Nat.{ℕ, ◌+◌, ◌-◌, ◌≤◌, ◌<◌}
use native.Mathlib.Omega.{arith}
use native.Mathlib.Decide.{ℕ_discrete, dec_lt}
use mathlib.Core.Path.{◌≡◌, refl, sym, ◌∙◌, ap}
use mathlib.Core.Logic.{◌⊎◌, inl, inr}
use mathlib.Core.List.{List, [], ◌∷◌, ◌++◌, append_assoc, append-nil}
use lib.ListN.{length, get_or, set}
use lib.Seq.{get_or-set_same, get_or-set_other}
use Rattle.rules.specs.Words.{Word, Valid, Begins}
use Rattle.trie.specs.Model.{Trie, root, size, word_of, Proper, add_word}
use Rattle.trie.specs.Grow.{add_proper, add_grows}
use Rattle.trie.specs.Words.{Has, add_has, add_word_kept}
use Rattle.trie.specs.Values.{marks_of, value_of, Noted}
use Rattle.builder_branches.specs.Growing.{Behind, Grows, Done}

-- What is behind a word.

nothing : (w : Word) → length w ≤ 0 → w ≡ []
nothing [] h = refl
nothing (a ∷ w) h = absurd (omega arith)

module _ {k : ℕ} {W : Word → Type 0} {u : Word} where
  pub behind_more : {m n : ℕ} → m ≤ n → (w : Word) → Behind k m W u w → Behind k n W u w
  behind_more le w b =
      record {
        middle = b.middle;
        back = b.back;
        inputs = b.inputs;
        short = omega (arith, b.short);
        separating = b.separating;
        joined = b.joined;
      }

  -- no middle
  pub behind_none : {m : ℕ} (v : Word) → W v → Behind k m W u (u ++ v)
  behind_none v is =
      record { middle = []; back = v; inputs = tt; short = omega arith; separating = is; joined = sym (ap (λ (z : Word). z ++ v) (append-nil u)) }

  -- only that
  pub behind_zero : (w : Word) → Behind k 0 W u w → (v : Word) × W v × (w ≡ u ++ v)
  behind_zero w b =
      let empty : b.middle ≡ [] = nothing b.middle b.short in
      (b.back, b.separating, b.joined ∙ ap (λ (z : Word). u ++ z ++ b.back) empty ∙ ap (λ (z : Word). z ++ b.back) (append-nil u))

  -- a middle of one input more
  pub behind_next : {m : ℕ} (a : ℕ) → a < k → 0 < m → (w : Word) → Behind k (m - 1) W (u ++ (a ∷ [])) w → Behind k m W u w
  behind_next a less some w b =
      record {
        middle = a ∷ b.middle;
        back = b.back;
        inputs = (less, b.inputs);
        short = omega (arith, b.short);
        separating = b.separating;
        joined = b.joined ∙ ap (λ (z : Word). z ++ b.back) (append_assoc u (a ∷ []) b.middle);
      }

  -- no middle, or one that begins with an input
  pub behind_cases : {m : ℕ} (w : Word) → Behind k m W u w → Behind k 0 W u w ⊎ ((a : ℕ) × (a < k) × Behind k (m - 1) W (u ++ (a ∷ [])) w)
  behind_cases {m} w b = split b.middle b.inputs b.short b.joined
    where
      split : (y : Word) → Valid k y → length y ≤ m → w ≡ u ++ y ++ b.back → Behind k 0 W u w ⊎ ((a : ℕ) × (a < k) × Behind k (m - 1) W (u ++ (a ∷ [])) w)
      split [] valid short joined =
          inl (record { middle = []; back = b.back; inputs = tt; short = omega arith; separating = b.separating; joined = joined })
      split (a ∷ y) (less, valid) short joined =
          inr (
            a,
            less,
            record {
              middle = y;
              back = b.back;
              inputs = valid;
              short = omega arith;
              separating = b.separating;
              joined = joined ∙ sym (ap (λ (z : Word). z ++ b.back) (append_assoc u (a ∷ []) y));
            },
          )

-- Tries that grow.

module _ {S : Word → Type 0} where
  pub grows_has : {t t' : Trie} → Grows S t t' → (w : Word) → Has t w → Has t' w
  grows_has g w (i, less, e) = (i, omega (arith, g.more), g.kept i less ∙ e)

  pub grows_none : {t : Trie} → Proper t → Grows S t t
  grows_none proper = record { proper = proper; more = omega arith; kept = λ i less. refl; added = λ v there. inl there }

  pub grows_then : {t t' t'' : Trie} → Grows S t t' → Grows S t' t'' → Grows S t t''
  grows_then g h =
      record {
        proper = h.proper;
        more = omega (arith, g.more, h.more);
        kept = λ i less. h.kept i (omega (arith, g.more)) ∙ g.kept i less;
        added = λ v there. elim (h.added v there) [ inl old ↦ g.added v old | inr new ↦ inr new ];
      }

  pub grows_wider : {R : Word → Type 0} {t t' : Trie} → ((w : Word) → S w → R w) → Grows S t t' → Grows R t t'
  grows_wider wider g =
      record {
        proper = g.proper;
        more = g.more;
        kept = g.kept;
        added = λ v there. elim (g.added v there) [ inl old ↦ inl old | inr (w, is, begins) ↦ inr (w, wider w is, begins) ];
      }

  -- by one word, which begins a word of S
  pub grows_word : {t : Trie} → Proper t → (p : ℕ) (w whole : Word) → p < size t → S whole → Begins (word_of t p ++ w) whole → Grows S t (add_word t p w)
  grows_word {t} proper p w whole less is (rest, e) =
      record {
        proper = add_proper proper p w less;
        more = add_grows t p w;
        kept = add_word_kept t p w;
        added = λ v there.
            elim (add_has proper p w less v there) [
              | inl old ↦ inl old
              | inr (x, (y, b), at) ↦
                  let on : x ++ (y ++ rest) ≡ w ++ rest = sym (append_assoc x y rest) ∙ ap (λ (z : Word). z ++ rest) b in
                  let all : (word_of t p ++ x) ++ (y ++ rest) ≡ whole =
                  append_assoc (word_of t p) x (y ++ rest) ∙ ap (λ (z : Word). word_of t p ++ z) on ∙ sym (append_assoc (word_of t p) w rest) ∙ e
                  in
                  inr (whole, is, (y ++ rest, ap (λ (z : Word). z ++ (y ++ rest)) at ∙ all))
            ];
      }

-- Marks.

module _ {k : ℕ} {W : Word → Type 0} where
  pub done_start : (done : List ℕ) → ((t : Trie) → Noted t (marks_of []) done) → Done k W root done
  unfolding marks_of value_of
  done_start done noted =
      record {
        there = λ i less y v valid short is. absurd (omega (arith, (noted root).values i less));
        blank = (noted root).blank;
      }

  pub done_grows : {S : Word → Type 0} {t t' : Trie} (done : List ℕ) → Grows S t t' → Done k W t done → Done k W t' done
  done_grows {t = t} done g d =
      record {
        there = λ i less y v valid short is.
            elim (dec_lt i (size t)) [
              | yes old ↦ rw (g.kept i old) (grows_has g _ (d.there i old y v valid short is))
              | no new ↦ absurd (omega (arith, d.blank i (omega arith)))
            ];
        blank = λ i out. d.blank i (omega (arith, g.more));
      }

  -- the mark of a node behind whose word all stands that it says
  pub done_mark : {t : Trie} (done : List ℕ) (i m : ℕ) → i < size t → i < length done
      → ((w : Word) → Behind k m W (word_of t i) w → Has t w)
      → Done k W t done → Done k W t (set done i (m + 1))
  done_mark {t} done i m less in' whole d =
      record {
        there = λ j less' y v valid short is.
            elim (ℕ_discrete i j) [
              | yes e ↦
                  let short' : length y < m + 1 = rw (← e, get_or-set_same done i (m + 1) 0 in') at short in
                  rw (← e) (whole (word_of t i ++ y ++ v) (record { middle = y; back = v; inputs = valid; short = omega arith; separating = is; joined = refl }))
              | no n ↦ d.there j less' y v valid (rw (get_or-set_other done i j (m + 1) 0 (λ e. n (sym e))) at short) is
            ];
        blank = λ j out. get_or-set_other done i j (m + 1) 0 (λ e. omega arith) ∙ d.blank j out;
      }

  -- what a mark says
  pub done_whole : {t : Trie} (done : List ℕ) (i m : ℕ) → i < size t → m < get_or done i 0 → Done k W t done
      → (w : Word) → Behind k m W (word_of t i) w → Has t w
  done_whole {t} done i m less marked d w b =
      rw b.joined (d.there i less b.middle b.back b.inputs (omega (arith, b.short)) b.separating)
