-- Laws of words that are measured and copied from their places.
use Prim.Native.Nat.{ℕ, zero, suc, ◌+◌, ◌*◌, ◌-◌, ◌≤◌, ◌<◌}
use native.Mathlib.Omega.{arith}
use native.Mathlib.Numerals.{add-one}
use mathlib.Core.Path.{◌≡◌, refl, sym, ap, ◌∙◌}
use mathlib.Core.List.{List, [], ◌∷◌, ◌++◌, flat_map}
use lib.ListN.{length, get_or, set, drop, length-append, length-set}
use lib.Seq.{sets, drop-cons, drop-length, get_or-take, get_or-drop}
use Rattle.rules.specs.Words.{Word}
use Rattle.rules.specs.Files.{word_bytes}
use Rattle.reader.specs.Places.{word_at}
use Rattle.theory.specs.Wrote.{Wrote, Writing, writing_start, writing_size, writing_room, writing_next, writing_end}
use Rattle.finder_separators.specs.Kept.{words_from}

-- The bytes of a word, one by one.
module _ (text : List ℕ) (word : ℕ) where
  abbrev bytes : List ℕ
  bytes = word_bytes (word_at text word)

  byte_at : (i : ℕ) → i < length bytes → length (word_at text word) ≡ get_or text word 0 → get_or text (word + i) 0 ≡ get_or bytes i 0
  unfolding word_bytes word_at
  byte_at zero less long = let same : word + 0 ≡ word = omega arith in rw same (sym long)
  byte_at (suc i) less long =
      let same : word + suc i ≡ word + 1 + i = omega arith in
      rw same (sym (get_or-take (get_or text word 0) (drop (word + 1) text) i 0 (omega (arith, long)) ∙ get_or-drop (word + 1) text i 0))

  -- the first i bytes have been copied
  pub record Copying (out₀ : List ℕ) (at : ℕ) (out : List ℕ) (i : ℕ) : Type 0 where
    pub size : length out ≡ length out₀
    pub below : i ≤ length bytes
    pub same : sets out₀ at bytes ≡ sets out (at + i) (drop i bytes)

  pub copy_start : (out : List ℕ) (at : ℕ) → Copying out at out 0
  copy_start out at = record { size = refl; below = omega arith; same = let e : at + 0 ≡ at = omega arith in rw e }

  module _ (n : ℕ) (long : n ≡ length (word_at text word)) (stands : n ≡ get_or text word 0) where
    pub copy_size : length bytes ≡ 1 + n
    unfolding word_bytes
    copy_size = omega arith

    module _ (out₀ : List ℕ) (at : ℕ) (out : List ℕ) (i : ℕ) (copying : Copying out₀ at out i) where
      pub copy_next : i < 1 + n → Copying out₀ at (set out (at + i) (get_or text (word + i) 0)) (i + 1)
      copy_next less =
          let inside : i < length bytes = omega (arith, copy_size) in
          let next : at + (i + 1) ≡ suc (at + i) = omega arith in
          record {
            size = simp length-set copying.size;
            below = omega arith;
            same = copying.same ∙ rw (drop-cons bytes i 0 inside, byte_at i inside (sym long ∙ stands), next, add-one i);
          }

      pub copy_end : 1 + n ≤ i → Wrote out₀ at bytes out (at + i)
      copy_end over =
          let all : i ≡ length bytes = omega (arith, copying.below, copy_size) in
          record { place = omega arith; same = sym (copying.same ∙ rw (all, drop-length bytes)) }

-- Words at places, one by one.
module _ (text places : List ℕ) (count : ℕ) where
  abbrev pub bytes_from : ℕ → List ℕ
  bytes_from j = flat_map word_bytes (words_from text places j (count - j))

  words_next : (j : ℕ) → j < count → words_from text places j (count - j) ≡ word_at text (get_or places j 0) ∷ words_from text places (j + 1) (count - (j + 1))
  unfolding words_from
  words_next j less = let more : count - j ≡ suc (count - (j + 1)) = omega arith in rw (more, ← add-one j)

  bytes_next : (j : ℕ) → j < count → bytes_from j ≡ word_bytes (word_at text (get_or places j 0)) ++ bytes_from (j + 1)
  unfolding flat_map
  bytes_next j less = rw (words_next j less)

  bytes_none : (j : ℕ) → count ≤ j → bytes_from j ≡ []
  unfolding words_from flat_map
  bytes_none j over = let none' : count - j ≡ 0 = omega arith in rw none'

  -- The loop that measures them.
  pub record Measuring (size j : ℕ) : Type 0 where
    pub below : j ≤ count
    pub small : size ≤ 256 * j
    pub same : size + length (bytes_from j) ≡ length (flat_map word_bytes (words_from text places 0 count))

  pub measure_start : Measuring 0 0
  measure_start = record { below = omega arith; small = omega arith; same = let all : count - 0 ≡ count = omega arith in rw all (omega arith) }

  module _ (size j : ℕ) (measuring : Measuring size j) where
    pub measure_next : (place n : ℕ) → j < count → place ≡ get_or places j 0 → n ≡ length (word_at text place) → n < 256 → Measuring (size + 1 + n) (j + 1)
    unfolding word_bytes
    measure_next place n less is long few =
        let w : Word = word_at text (get_or places j 0) in
        let long' : n ≡ length w = long ∙ ap (λ p. length (word_at text p)) is in
        let more = ap length (bytes_next j less) ∙ length-append (word_bytes w) (bytes_from (j + 1)) in
        record { below = omega arith; small = omega (arith, measuring.small); same = omega (arith, measuring.same) }

    pub measure_end : count ≤ j → size ≡ length (flat_map word_bytes (words_from text places 0 count))
    measure_end over = omega (arith, measuring.same, ap length (bytes_none j over))

  -- The loop that writes them.
  pub record Listing (out₀ : List ℕ) (at j : ℕ) (out : List ℕ) (place : ℕ) : Type 0 where
    pub below : j ≤ count
    pub writing : Writing out₀ at (flat_map word_bytes (words_from text places 0 count)) out place (bytes_from j)

  pub list_start : (out : List ℕ) (at : ℕ) → Listing out at 0 out at
  list_start out at =
      let all : count - 0 ≡ count = omega arith in
      record { below = omega arith; writing = rw all (writing_start out at (flat_map word_bytes (words_from text places 0 count))) }

  module _ (out₀ : List ℕ) (at j : ℕ) (out : List ℕ) (place : ℕ) (listing : Listing out₀ at j out place) where
    abbrev whole : List ℕ
    whole = flat_map word_bytes (words_from text places 0 count)

    pub list_size : length out ≡ length out₀
    list_size = writing_size out₀ at whole out place (bytes_from j) listing.writing

    pub list_room : (word : ℕ) → j < count → word ≡ get_or places j 0 → at + length whole ≤ length out₀ → place + length (word_bytes (word_at text word)) ≤ length out
    list_room word less is room =
        let more = ap length (bytes_next j less) ∙ length-append (word_bytes (word_at text (get_or places j 0))) (bytes_from (j + 1)) in
        rw is (omega (arith, writing_room out₀ at whole out place (bytes_from j) listing.writing, list_size))

    pub list_next : (word : ℕ) (last : List ℕ) (after : ℕ) → j < count → word ≡ get_or places j 0 → Wrote out place (word_bytes (word_at text word)) last after → Listing out₀ at (j + 1) last after
    list_next word last after less is wrote =
        record {
          below = omega arith;
          writing = writing_next out₀ at whole out place (bytes_from j) listing.writing (word_bytes (word_at text (get_or places j 0))) (bytes_from (j + 1)) last after (bytes_next j less) (rw is at wrote);
        }

    pub list_end : count ≤ j → Wrote out₀ at whole out place
    list_end over = writing_end out₀ at whole out place (bytes_from j) listing.writing (bytes_none j over)
