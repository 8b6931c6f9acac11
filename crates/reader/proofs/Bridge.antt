-- From what the rules read to the places: where a reading went well, what was read is what stands there.
use Prim.Native.Nat.{ℕ, zero, suc, ◌+◌, ◌*◌, ◌≤◌, ◌<◌}
use mathlib.Core.Path.{◌≡◌, refl, sym, ap, ◌∙◌}
use mathlib.Core.List.{List, [], ◌∷◌}
use mathlib.Core.Bool.{Bool, true, false, cond}
use native.Mathlib.Numerals.{add-one}
use native.Mathlib.Decide.{dec_lt}
use native.Mathlib.Omega.{arith}
use borrow.Author.Tests.{ltb-true}
use lib.Dec.{ltb, leb, eqb}
use lib.ListN.{length, get_or, take, drop}
use lib.Seq.{drop-cons}
use Rattle.rules.specs.declared.Fault.{Fault}
use Rattle.rules.specs.declared.Fault.TheVariants.{BadTable, BadWord}
use Rattle.rules.specs.Sizes.{most_test_word}
use Rattle.rules.specs.Words.{Word}
use Rattle.rules.specs.Machines.{Table}
use Rattle.rules.specs.Files.{SheetRecord}
use Rattle.rules.specs.Reading.{Got, got, faulty, Reader, then, byte, judged, count, many, word, words, output, entry, table, sheet_record}
use Rattle.theory.specs.Readers.{reads_byte, reads_count, reads_many}
use Rattle.theory.specs.Sections.{reads_judged-byte, reads_judged-count, reads_entry, reads_word, reads_record}
use Rattle.reader.specs.Places.{entry_width, output_at, outputs_at, entries_at, word_at, after_word, words_at, after_record, records_at, TableAt, WordAt, WordsAt, RecordsAt}
use Rattle.reader_steps.specs.Steps.{input, word_length}
use Rattle.reader_steps.proofs.Laws.{Kept, Keeps, keeps, kept_output, byte_here, byte_none}
use Rattle.reader_steps.proofs.Sections.{many-length, words_length}

-- what a reading that went well was made of
pub then-got : {A B : Type 0} (s : List ℕ) (x : Got A) (next : A → Reader B) (b : B) (q : ℕ) (t : List ℕ) → Kept s x → then x next ≡ got b q t
    → (a : A) × (p : ℕ) × (x ≡ got a p (drop p s)) × (next a p (drop p s) ≡ got b q t)
then-got s (got a p l) next b q t kept e = (a, p, ap (λ l. got a p l) kept, rw (← kept) e)
then-got s (faulty fault p) next b q t kept e = let z : ◌≡◌ {A = ℕ} 0 1 = cc in absurd (omega arith)

-- the same for what follows from its making, where one after the other is taken apart
pub from_got : {A B P : Type 0} (s : List ℕ) (x : Got A) (next : A → Reader B) (b : B) (q : ℕ) (t : List ℕ) → Kept s x → then x next ≡ got b q t
    → ((a : A) (p : ℕ) → x ≡ got a p (drop p s) → next a p (drop p s) ≡ got b q t → P) → P
from_got s x next b q t kept e use_it = let (a, p, is, more) = then-got s x next b q t kept e in use_it a p is more

cond-got : {A : Type 0} (c : Bool) (x : Got A) (fault : Fault) (p : ℕ) (b : A) (q : ℕ) (t : List ℕ) → cond c x (faulty fault p) ≡ got b q t → (c ≡ true) × (x ≡ got b q t)
cond-got true x fault p b q t e = (refl, e)
cond-got false x fault p b q t e = let z : ◌≡◌ {A = ℕ} 0 1 = cc in absurd (omega arith)

-- n + 1 readings: the first, and n more from the place after it on
many-got : {A : Type 0} (s : List ℕ) (one : Reader A) (n p : ℕ) (xs : List A) (q : ℕ) (t : List ℕ) → Keeps s one → many one (suc n) p (drop p s) ≡ got xs q t
    → (a : A) × (p' : ℕ) × (more : List A) × (one p (drop p s) ≡ got a p' (drop p' s)) × (many one n p' (drop p' s) ≡ got more q t) × (xs ≡ a ∷ more)
unfolding many
many-got {A} s one n p xs q t kept e = first (one p (drop p s)) refl (kept p) e
  where
    rest : (a : A) (p' : ℕ) (y : Got (List A)) → one p (drop p s) ≡ got a p' (drop p' s) → many one n p' (drop p' s) ≡ y → then y (λ more q t. got (a ∷ more) q t) ≡ got xs q t
        → (a : A) × (p' : ℕ) × (more : List A) × (one p (drop p s) ≡ got a p' (drop p' s)) × (many one n p' (drop p' s) ≡ got more q t) × (xs ≡ a ∷ more)
    rest a p' (got more q' t') is_one is e = (a, p', more, is_one, cc, cc)
    rest a p' (faulty fault q') is_one is e = let z : ◌≡◌ {A = ℕ} 0 1 = cc in absurd (omega arith)

    first : (x : Got A) → one p (drop p s) ≡ x → Kept s x → then x (λ a p' l. then (many one n p' l) (λ more q t. got (a ∷ more) q t)) ≡ got xs q t
        → (a : A) × (p' : ℕ) × (more : List A) × (one p (drop p s) ≡ got a p' (drop p' s)) × (many one n p' (drop p' s) ≡ got more q t) × (xs ≡ a ∷ more)
    first (got a p' l) is keeps_to e = rest a p' (many one n p' (drop p' s)) (is ∙ ap (λ l. got a p' l) keeps_to) refl (rw (← keeps_to) e)
    first (faulty fault p') is keeps_to e = let z : ◌≡◌ {A = ℕ} 0 1 = cc in absurd (omega arith)

none_got : {A : Type 0} (one : Reader A) (p : ℕ) (l : List ℕ) (xs : List A) (q : ℕ) (t : List ℕ) → many one zero p l ≡ got xs q t → (xs ≡ []) × (q ≡ p)
unfolding many
none_got one p l xs q t e = (cc, cc)

-- one more at the front, of things w bytes wide
below_more : (s : List ℕ) (bound w c p : ℕ) → get_or s p 0 < bound → ((j : ℕ) → j < c → get_or s (p + w + w * j) 0 < bound) → (j : ℕ) → j < suc c → get_or s (p + w * j) 0 < bound
below_more s bound w c p here later zero h = let e : p + w * 0 ≡ p = omega arith in rw e here
below_more s bound w c p here later (suc j) h =
    let e : p + w * suc j ≡ p + w + w * j = omega arith in
    rw e (later j (omega arith))

module _ (s : List ℕ) where
  byte-got : (p b q : ℕ) (t : List ℕ) → byte p (drop p s) ≡ got b q t → (p < length s) × (b ≡ get_or s p 0) × (q ≡ p + 1)
  byte-got p b q t e =
      elim (dec_lt p (length s)) [
        | yes there ↦ let e' = sym (byte_here s p there) ∙ e in (there, cc, cc)
        | no none ↦ let e' = sym (byte_none s p (omega arith)) ∙ e in let z : ◌≡◌ {A = ℕ} 0 1 = cc in absurd (omega arith)
      ]

  judged-got : (good : ℕ → Bool) (fault : Fault) (p b q : ℕ) (t : List ℕ) → judged good fault byte p (drop p s) ≡ got b q t → (p < length s) × (b ≡ get_or s p 0) × (q ≡ p + 1) × (good b ≡ true)
  unfolding judged
  judged-got good fault p b q t e =
      let (b', q', e₁, e₂) = then-got s (byte p (drop p s)) _ b q t (keeps reads_byte s p) e in
      let (is, e₃) = cond-got (good b') (got b' q' (drop q' s)) fault p b q t e₂ in
      let (there, byte_is, place) = byte-got p b' q' (drop q' s) e₁ in
      let same : b' ≡ b = cc in
      (there, cc, cc, cc)

  -- c inputs from p on
  inputs_got : (k c p : ℕ) (w : Word) (q : ℕ) (t : List ℕ) → p ≤ length s → many (input k) c p (drop p s) ≡ got w q t
      → (w ≡ take c (drop p s)) × (q ≡ p + c) × (p + c ≤ length s) × ((j : ℕ) → j < c → get_or s (p + 1 * j) 0 < k)
  inputs_got k zero p w q t h e =
      let (none, end) = none_got (input k) p (drop p s) w q t e in
      (none, omega arith, omega arith, λ j small. absurd (omega arith))
  inputs_got k (suc c) p w q t h e =
      let (i, p', more, one, later, is) = many-got s (input k) c p w q t (keeps (reads_judged-byte (λ i. ltb i k) BadWord tt) s) e in
      let (there, input_is, place, small) = judged-got (λ i. ltb i k) BadWord p i p' (drop p' s) one in
      let (rest_is, end, inside, below) = inputs_got k c (p + 1) more q t (omega arith) (rw place at later) in (
        rw (drop-cons s p 0 there, ← add-one p) (cc),
        omega arith,
        omega arith,
        below_more s k 1 c p (omega (arith, ltb-true i k small)) below,
      )

  -- a count stood in two bytes of the file
  pub count-got : (p c q : ℕ) (t : List ℕ) → count p (drop p s) ≡ got c q t → (q ≡ p + 2) × (p + 2 ≤ length s)
  unfolding count
  count-got p c q t e =
      let (low, p₁, e₁, e₂) = then-got s (byte p (drop p s)) _ c q t (keeps reads_byte s p) e in
      let (there, low_is, place) = byte-got p low p₁ (drop p₁ s) e₁ in
      let (high, p₂, e₃, e₄) = then-got s (byte p₁ (drop p₁ s)) (λ high. λ q t. got (low + 256 * high) q t) c q t (keeps reads_byte s p₁) e₂ in
      let (there', high_is, place') = byte-got p₁ high p₂ (drop p₂ s) e₃ in
      let end : p₂ ≡ q = cc in
      (omega arith, omega arith)

  judged-count-got : (good : ℕ → Bool) (fault : Fault) (p c q : ℕ) (t : List ℕ) → judged good fault count p (drop p s) ≡ got c q t → (q ≡ p + 2) × (p + 2 ≤ length s)
  unfolding judged
  judged-count-got good fault p c q t e =
      let (c', q', e₁, e₂) = then-got s (count p (drop p s)) _ c q t (keeps reads_count s p) e in
      let (is, e₃) = cond-got (good c') (got c' q' (drop q' s)) fault p c q t e₂ in
      let (place, inside) = count-got p c' q' (drop q' s) e₁ in
      (cc, inside)

  keeps_outputs : (c : ℕ) → Keeps s (many output c)
  unfolding output
  keeps_outputs c = keeps (reads_many reads_byte c) s

  word-length : (k most p : ℕ) (w : Word) (q : ℕ) (t : List ℕ) → word k most p (drop p s) ≡ got w q t → length w ≡ get_or s p 0
  unfolding word
  word-length k most p w q t e =
      let (n, p', e₁, e₂) = then-got s (word_length most p (drop p s)) _ w q t (keeps (reads_judged-byte (λ n. leb n most) BadWord tt) s p) e in
      let (there, length_is, place, short) = judged-got (λ n. leb n most) BadWord p n p' (drop p' s) e₁ in
      many-length k n p' (drop p' s) w q t e₂ ∙ length_is

  word_got : (k most p : ℕ) (w : Word) (q : ℕ) (t : List ℕ) → word k most p (drop p s) ≡ got w q t → WordAt s p k × (w ≡ word_at s p) × (q ≡ after_word s p)
  unfolding word word_at
  word_got k most p w q t e =
      let (n, p', e₁, e₂) = then-got s (word_length most p (drop p s)) _ w q t (keeps (reads_judged-byte (λ n. leb n most) BadWord tt) s p) e in
      let (there, length_is, place, short) = judged-got (λ n. leb n most) BadWord p n p' (drop p' s) e₁ in
      let e₃ : many (input k) (get_or s p 0) (p + 1) (drop (p + 1) s) ≡ got w q t = rw (← length_is, ← place) e₂ in
      let (is, end, inside, below) = inputs_got k (get_or s p 0) (p + 1) w q t (omega arith) e₃ in
      let below' : (j : ℕ) → j < get_or s p 0 → get_or s (p + 1 + j) 0 < k = λ j small. let once : p + 1 + j ≡ p + 1 + 1 * j = omega arith in rw once (below j small) in
      (record { inside = inside; below = below' }, is, end)

  -- c words from p on
  each_word-got : (k most c p : ℕ) (ws : List Word) (q : ℕ) (t : List ℕ) → p ≤ length s → many (word k most) c p (drop p s) ≡ got ws q t → WordsAt s p k c × (words_at s p c ≡ ws)
  unfolding words_at
  each_word-got k most zero p ws q t h e = (h, sym (none_got (word k most) p (drop p s) ws q t e).0)
  each_word-got k most (suc c) p ws q t h e =
      let (w, p', more, one, later, is) = many-got s (word k most) c p ws q t (keeps (reads_word k most) s) e in
      let (stands, word_is, place) = word_got k most p w p' (drop p' s) one in
      let (more_stand, more_are) = each_word-got k most c (after_word s p) more q t stands.inside (rw place at later) in
      ((stands, more_stand), cc)

  -- a section of words that starts at p
  pub words-got : (k most p : ℕ) (ws : List Word) (q : ℕ) (t : List ℕ) → words k most p (drop p s) ≡ got ws q t → WordsAt s (p + 2) k (length ws) × (words_at s (p + 2) (length ws) ≡ ws)
  unfolding words
  words-got k most p ws q t e =
      let (c, p', e₁, e₂) = then-got s (count p (drop p s)) _ ws q t (keeps reads_count s p) e in
      let (place, inside) = count-got p c p' (drop p' s) e₁ in
      let long : c ≡ length ws = sym (words_length k most c p' (drop p' s) ws q t e₂) in
      let e₃ : many (word k most) (length ws) (p + 2) (drop (p + 2) s) ≡ got ws q t = rw (← long, ← place) e₂ in
      each_word-got k most (length ws) (p + 2) ws q t inside e₃

  -- c outputs from p on
  outputs_got : (c p : ℕ) (os : List ℕ) (q : ℕ) (t : List ℕ) → p ≤ length s → many output c p (drop p s) ≡ got os q t → (os ≡ outputs_at s p c) × (q ≡ p + c) × (p + c ≤ length s)
  unfolding outputs_at output
  outputs_got zero p os q t h e =
      let (none, end) = none_got output p (drop p s) os q t e in
      (none, omega arith, omega arith)
  outputs_got (suc c) p os q t h e =
      let (o, p', more, one, later, is) = many-got s output c p os q t (kept_output s) e in
      let (there, output_is, place) = byte-got p o p' (drop p' s) one in
      let (rest_is, end, inside) = outputs_got c (p + 1) more q t (omega arith) (rw place at later) in
      (cc, omega arith, omega arith)

  entry-got : (n p : ℕ) (x : ℕ × ℕ) (q : ℕ) (t : List ℕ) → entry n p (drop p s) ≡ got x q t → (p + 1 < length s) × (x ≡ (get_or s p 0, output_at s (p + 1))) × (q ≡ p + entry_width) × (get_or s p 0 < n)
  unfolding entry output
  entry-got n p x q t e =
      let (b, p₁, e₁, e₂) = then-got s (judged (λ q. ltb q n) BadTable byte p (drop p s)) _ x q t (keeps (reads_judged-byte (λ q. ltb q n) BadTable tt) s p) e in
      let (there, state_is, place, small) = judged-got (λ q. ltb q n) BadTable p b p₁ (drop p₁ s) e₁ in
      let (o, p₂, e₃, e₄) = then-got s (byte p₁ (drop p₁ s)) (λ o. λ q t. got (b, o) q t) x q t (keeps reads_byte s p₁) e₂ in
      let (there', output_is, place') = byte-got p₁ o p₂ (drop p₂ s) e₃ in
      let end : p₂ ≡ q = cc in
      let output_there : o ≡ output_at s (p + 1) = rw (← place) output_is in
      (omega arith, cc, omega arith, omega (arith, ltb-true b n small))

  -- c entries from p on
  entries_got : (n c p : ℕ) (es : Table) (q : ℕ) (t : List ℕ) → p ≤ length s → many (entry n) c p (drop p s) ≡ got es q t
      → (entries_at s p c ≡ es) × (p + entry_width * c ≤ length s) × ((j : ℕ) → j < c → get_or s (p + entry_width * j) 0 < n)
  unfolding entries_at
  entries_got n zero p es q t h e = (sym (none_got (entry n) p (drop p s) es q t e).0, omega arith, λ j small. absurd (omega arith))
  entries_got n (suc c) p es q t h e =
      let (x, p', more, one, later, is) = many-got s (entry n) c p es q t (keeps (reads_entry n) s) e in
      let (there, entry_is, place, small) = entry-got n p x p' (drop p' s) one in
      let (more_are, inside, below) = entries_got n c (p + entry_width) more q t (omega arith) (rw place at later) in
      (cc, omega arith, below_more s n entry_width c p small below)

  -- a table of k inputs and n states that starts at p
  pub table_got : (k n p : ℕ) (es : Table) (q : ℕ) (t : List ℕ) → 0 < n → table k n p (drop p s) ≡ got es q t → TableAt s (p + 2) k n × (entries_at s (p + 2) (n * k) ≡ es)
  unfolding table
  table_got k n p es q t some e =
      let (c, p', e₁, e₂) = then-got s (judged (eqb (n * k)) BadTable count p (drop p s)) _ es q t (keeps (reads_judged-count (eqb (n * k)) BadTable tt) s p) e in
      let (place, inside) = judged-count-got (eqb (n * k)) BadTable p c p' (drop p' s) e₁ in
      let (are, fits, closed) = entries_got n (n * k) (p + 2) es q t inside (rw place at e₂) in
      (record { start = some; inside = fits; closed = closed }, are)

  record-got : (k p : ℕ) (r : SheetRecord) (q : ℕ) (t : List ℕ) → sheet_record k p (drop p s) ≡ got r q t
      → WordAt s p k × (after_record s p ≤ length s) × (r ≡ record { word = word_at s p; recorded = outputs_at s (after_word s p) (get_or s p 0) }) × (q ≡ after_record s p)
  unfolding sheet_record
  record-got k p r q t e =
      let (w, p₁, e₁, e₂) = then-got s (word k most_test_word p (drop p s)) _ r q t (keeps (reads_word k most_test_word) s p) e in
      let (stands, word_is, place) = word_got k most_test_word p w p₁ (drop p₁ s) e₁ in
      let (os, p₂, e₃, e₄) = then-got s (many output (length w) p₁ (drop p₁ s)) (λ o. λ q t. got (record { word = w; recorded = o }) q t) r q t (keeps_outputs (length w) p₁) e₂ in
      let long : length w ≡ get_or s p 0 = word-length k most_test_word p w p₁ (drop p₁ s) e₁ in
      let e₅ : many output (get_or s p 0) (after_word s p) (drop (after_word s p) s) ≡ got os p₂ (drop p₂ s) = rw (← place, ← long) e₃ in
      let (outputs_are, end, inside) = outputs_got (get_or s p 0) (after_word s p) os p₂ (drop p₂ s) stands.inside e₅ in
      let last : p₂ ≡ q = cc in
      (stands, omega arith, cc, omega arith)

  -- c records from p on
  pub records_got : (k c p : ℕ) (rs : List SheetRecord) (q : ℕ) (t : List ℕ) → p ≤ length s → many (sheet_record k) c p (drop p s) ≡ got rs q t → RecordsAt s p k c × (records_at s p c ≡ rs)
  unfolding records_at
  records_got k zero p rs q t h e = (h, sym (none_got (sheet_record k) p (drop p s) rs q t e).0)
  records_got k (suc c) p rs q t h e =
      let (r, p', more, one, later, is) = many-got s (sheet_record k) c p rs q t (keeps (reads_record k) s) e in
      let (stands, inside, record_is, place) = record-got k p r p' (drop p' s) one in
      let (more_stand, more_are) = records_got k c (after_record s p) more q t inside (rw place at later) in
      ((stands, inside, more_stand), cc)
