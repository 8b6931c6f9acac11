-- Laws of writing to an output from its front on.
use Prim.Native.Nat.{ℕ, suc, ◌+◌, ◌-◌, ◌/◌, ◌%◌, ◌≤◌, ◌<◌}
use native.Mathlib.Omega.{arith}
use mathlib.Core.Path.{◌≡◌, sym, ap, ◌∙◌}
use mathlib.Core.List.{List, [], ◌∷◌, ◌++◌, append_assoc}
use lib.ListN.{length, get_or, set, take, drop, length-append, length-drop}
use lib.Seq.{paste, drop-cons, drop-drop, set_at, take_at, drop_at, length-take-le}
use Rattle.std.specs.Prelude.{Option, Some, None}
use Rattle.rules.specs.Files.{count_bytes}
use Rattle.rules.specs.Operations.{overwritten}
use Rattle.trie_lister.specs.Visits.{WroteOf, wrote_whole}

-- one byte more
one_more : (w out : List ℕ) (n a : ℕ) → length w ≡ n → n < length out → set (overwritten w out) n a ≡ overwritten (w ++ (a ∷ [])) out
one_more w out n a e less =
    let later : drop (length w) out ≡ get_or out n 0 ∷ drop (suc n) out = rw e (drop-cons out n 0 less) in
    let longer : length (w ++ (a ∷ [])) ≡ suc n = length-append w (a ∷ []) ∙ omega arith in
    rw (later, longer, append_assoc) (set_at w (get_or out n 0) (drop (suc n) out) a n e)

-- the first n bytes of s, and a count
pub front_written : (s out out₁ : List ℕ) (n words : ℕ) → n ≤ length s → n + 2 ≤ length out → out₁ ≡ paste out 0 s n
    → (out₂ : List ℕ) → out₂ ≡ set (set out₁ n (words % 256)) (n + 1) (words / 256) → out₂ ≡ overwritten (take n s ++ count_bytes words) out
unfolding count_bytes
front_written s out out₁ n words inside fits first out₂ second =
    let long : length (take n s) ≡ n = length-take-le n s inside in
    let none : 0 + n ≡ n = omega arith in
    let copied : out₁ ≡ overwritten (take n s) out = first ∙ rw (long, none) in
    let low = one_more (take n s) out n (words % 256) long (omega arith) in
    let longer : length (take n s ++ (words % 256 ∷ [])) ≡ n + 1 = length-append (take n s) (words % 256 ∷ []) ∙ omega arith in
    let high = one_more (take n s ++ (words % 256 ∷ [])) out (n + 1) (words / 256) longer (omega arith) in
    second
    ∙ rw (copied, low)
    (high ∙ ap (λ (w : List ℕ). overwritten w out) (append_assoc (take n s) (words % 256 ∷ []) (words / 256 ∷ [])))

-- bytes behind what was written
pub rest_written : (w bytes out out₁ out₂ : List ℕ) (at : ℕ) (r : Option ℕ) → at ≡ length w → at + length bytes ≤ length out → out₁ ≡ overwritten w out → WroteOf bytes out₁ at out₂ r
    → out₂ ≡ overwritten (w ++ bytes) out
rest_written w bytes out out₁ out₂ at None e fits first h =
    let long : length out₁ ≡ length w + (length out - length w) = ap length first ∙ rw (length-append, length-drop) in
    absurd (omega arith)
rest_written w bytes out out₁ out₂ at (Some p) e fits first h =
    let before : take at out₁ ≡ w = rw first (take_at w (drop (length w) out) at (sym e)) in
    let behind : drop p out₁ ≡ drop (length (w ++ bytes)) out =
    rw (h.0, first, ← (drop-drop (length bytes) at (overwritten w out)), drop_at w (drop (length w) out) at (sym e), drop-drop, length-append) in
    wrote_whole bytes out₁ at out₂ p h ∙ rw (before, behind, append_assoc)
