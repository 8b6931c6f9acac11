-- Laws of words that were written one after the other: they stand there.
use Prim.Native.Nat.{ℕ, zero, suc, ◌+◌, ◌-◌, ◌≤◌, ◌<◌}
use native.Mathlib.Omega.{arith}
use mathlib.Core.Path.{◌≡◌, refl, sym, ap, ◌∙◌}
use mathlib.Core.List.Memᴰ
use mathlib.Core.List.{List, [], ◌∷◌, ◌++◌, flat_map, append_assoc}
use lib.ListN.{length, get_or, drop, length-append, length-drop, get_or-append}
use lib.Seq.{get_or-drop, drop-drop, take-append_seam, drop-append_seam, sets-eq}
use Rattle.rules.specs.Lists.{◌∈◌}
use Rattle.rules.specs.Words.{Word, Valid}
use Rattle.rules.specs.Files.{word_bytes}
use Rattle.reader.specs.Places.{word_at, after_word, words_at, WordAt, WordsAt}
use Rattle.theory.specs.Wrote.{Wrote}

valid_at : (k : ℕ) (w : Word) (j : ℕ) → Valid k w → j < length w → get_or w j 0 < k
valid_at k [] j valid less = absurd (omega arith)
valid_at k (i ∷ w) zero (small, valid) less = small
valid_at k (i ∷ w) (suc j) (small, valid) less = valid_at k w j valid (omega arith)

-- one word
module _ (s : List ℕ) (p : ℕ) (w : Word) (more : List ℕ) (here : drop p s ≡ length w ∷ (w ++ more)) (inside : p ≤ length s) where
  length_here : get_or s p 0 ≡ length w
  length_here =
      let same : p + 0 ≡ p = omega arith in
      sym (ap (λ i. get_or s i 0) same) ∙ sym (get_or-drop p s 0 0) ∙ ap (λ (l : List ℕ). get_or l 0 0) here

  behind : drop (p + 1) s ≡ w ++ more
  behind = sym (drop-drop 1 p s) ∙ ap (drop 1) here

  word_here : word_at s p ≡ w
  unfolding word_at
  word_here = rw (length_here, behind) (take-append_seam w more)

  after_here : drop (after_word s p) s ≡ more
  after_here = rw length_here (sym (drop-drop (length w) (p + 1) s) ∙ ap (drop (length w)) behind ∙ drop-append_seam w more)

  inside_here : after_word s p ≤ length s
  inside_here =
      let long : length s - p ≡ suc (length (w ++ more)) = sym (length-drop p s) ∙ ap length here in
      rw length_here (omega (arith, length-append w more))

  stands_here : (k : ℕ) → Valid k w → WordAt s p k
  stands_here k valid =
      record {
        inside = inside_here;
        below = λ j less.
            let short : j < length w = rw length_here at less in
            let there : get_or s (p + 1 + j) 0 ≡ get_or w j 0 =
            sym (get_or-drop (p + 1) s j 0) ∙ ap (λ (l : List ℕ). get_or l j 0) behind ∙ get_or-append w more 0 j short in
            rw there (valid_at k w j valid short);
      }

-- all of them
stand : (s : List ℕ) (p k : ℕ) (ws : List Word) (more : List ℕ) → ((w : Word) → w ∈ ws → Valid k w) → drop p s ≡ flat_map word_bytes ws ++ more → p ≤ length s
    → (words_at s p (length ws) ≡ ws) × WordsAt s p k (length ws)
unfolding flat_map word_bytes words_at
stand s p k [] more valid here inside = (refl, inside)
stand s p k (w ∷ ws) more valid here inside =
    let here' : drop p s ≡ length w ∷ (w ++ (flat_map word_bytes ws ++ more)) = here ∙ ap (λ (l : List ℕ). length w ∷ l) (append_assoc w (flat_map word_bytes ws) more) in
    let behind_w : List ℕ = flat_map word_bytes ws ++ more in
    let (words, rest) =
    stand s (after_word s p) k ws more (λ v m. valid v (Memᴰ.tail m)) (after_here s p w behind_w here' inside) (inside_here s p w behind_w here' inside) in
    (cc (word_here s p w behind_w here' inside), (stands_here s p w behind_w here' inside k (valid w (Memᴰ.head refl)), rest))

pub wrote_stands : (out left : List ℕ) (k : ℕ) (ws : List Word) (end : ℕ) → ((w : Word) → w ∈ ws → Valid k w) → Wrote out 0 (flat_map word_bytes ws) left end
    → length (flat_map word_bytes ws) ≤ length out → (words_at left 0 (length ws) ≡ ws) × WordsAt left 0 k (length ws)
wrote_stands out left k ws end valid wrote room =
    stand left 0 k ws (drop (0 + length (flat_map word_bytes ws)) out) valid (wrote.same ∙ sets-eq (flat_map word_bytes ws) out 0 (omega arith)) (omega arith)
