-- Laws of the bytes of a found dossier: what they are, part by part, and how many.
use Prim.Native.Nat.{ℕ, ◌+◌, ◌-◌, ◌≤◌, ◌<◌}
use native.Mathlib.Omega.{arith}
use mathlib.Core.Path.{◌≡◌, refl, sym, ap, ◌∙◌}
use mathlib.Core.List.{List, [], ◌∷◌, ◌++◌, flat_map}
use lib.ListN.{length, drop, length-append}
use lib.Seq.{sets-eq}
use Rattle.rules.specs.declared.Refusal.TheVariants.{NoRoom}
use Rattle.rules.specs.declared.Found.TheVariants.{Written, Refused}
use Rattle.rules.specs.Sizes.{most_dossier_bytes}
use Rattle.rules.specs.Files.{UnitData, count_bytes, word_bytes, words_bytes, table_bytes, front_bytes, dossier_bytes, unit_bytes}
use Rattle.rules.specs.Operations.{overwritten}
use Rattle.rules.specs.Find.{found_cover, found_separating, found_dossier}
use Rattle.rules.specs.Promises.{FindPromise}
use Rattle.theory.specs.Wrote.{Wrote, wrote_then, wrote_size}
use Rattle.theory.specs.Files.{unit_whole}
use Rattle.reader.specs.declared.UnitShape.{UnitShape}
use Rattle.reader.specs.Standing.{UnitStands}
use Rattle.finder_access.specs.Reached.{Reaches}
use Rattle.finder_separators.specs.Kept.{words_from}
use Rattle.finder_separators.proofs.Keeping.{separators_found}
use Rattle.finder.specs.Drafts.{draft_bytes, Drafted, Fitting, CoverRoom}
use Rattle.finder.proofs.Sections.{count_long, words_long}
use Rattle.finder.proofs.Finding.{draft_bytes_lem, draft_small, no_room, written}

five_long : (a b c d e : List ℕ) → length ((((a ++ b) ++ c) ++ d) ++ e) ≡ length a + length b + length c + length d + length e
five_long a b c d e = simp length-append refl

-- The bytes of a found dossier: the numbers, the table, the two sections, and the count of no tests.
lay : (u : UnitData) (m k n : ℕ) (table : List ℕ) (words : List (List ℕ)) → k ≡ u.inputs → n ≡ u.states → table ≡ table_bytes u.table → words ≡ found_separating u
    → dossier_bytes (found_dossier u m) ≡ ((((count_bytes 3 ++ (k ∷ n ∷ m ∷ [])) ++ table) ++ words_bytes (found_cover u)) ++ words_bytes words) ++ count_bytes 0
unfolding dossier_bytes front_bytes words_bytes flat_map count_bytes
lay u m k n table words inputs states is found = rw (inputs, states, is, found)

module _ {s : List ℕ} {x : UnitShape} {m : ℕ} {queue places text kept : List ℕ} {count : ℕ} (d : Drafted s x m queue places text kept count) where
  abbrev u : UnitData
  u = d.reduced.bounded.given.held

  abbrev words : List (List ℕ)
  words = words_from text kept 0 count

  abbrev stands : UnitStands s x u
  stands = d.reduced.bounded.given.stands

  words_found : words ≡ found_separating u
  words_found = separators_found s x u d.marks text kept count stands d.reduced.apart d.separators

  table_is : drop 4 s ≡ table_bytes u.table
  unfolding unit_bytes count_bytes
  table_is = ap (λ (l : List ℕ). drop 4 l) (unit_whole s u d.reduced.bounded.given.are_bytes d.reduced.bounded.given.reads)

  unit_long : length s ≡ 4 + length (drop 4 s)
  unfolding unit_bytes count_bytes
  unit_long =
      let whole = ap (λ (l : List ℕ). length l) (unit_whole s u d.reduced.bounded.given.are_bytes d.reduced.bounded.given.reads) in
      let table = ap (λ (l : List ℕ). length l) table_is in
      omega arith

  abbrev numbers : List ℕ
  numbers = count_bytes 3 ++ (x.inputs ∷ x.states ∷ m ∷ [])

  laid : draft_bytes s m ≡ (((numbers ++ drop 4 s) ++ words_bytes (found_cover u)) ++ words_bytes words) ++ count_bytes 0
  laid = draft_bytes_lem d.reduced ∙ lay u m x.inputs x.states (drop 4 s) words stands.inputs stands.states table_is words_found

  -- how many they are
  numbers_long : length numbers ≡ 5
  unfolding count_bytes
  numbers_long = refl

  size_is : length (draft_bytes s m) ≡ length s + 7 + length (flat_map word_bytes (found_cover u)) + length (flat_map word_bytes words)
  size_is =
      let long = ap (λ (l : List ℕ). length l) laid ∙ five_long numbers (drop 4 s) (words_bytes (found_cover u)) (words_bytes words) (count_bytes 0) in
      omega (arith, long, words_long (found_cover u), words_long words, unit_long, numbers_long, count_long 0)

  draft_size : (a b : ℕ) → ((u : UnitData) → Reaches u queue places → u.states ≡ x.states → a ≡ length (flat_map word_bytes (found_cover u))) → b ≡ length (flat_map word_bytes words)
      → length s + 7 + a + b ≡ length (dossier_bytes (found_dossier u m))
  draft_size a b cover separating =
      let found = cover u d.reduced.reaches (sym stands.states) in
      omega (arith, size_is, ap (λ (l : List ℕ). length l) (draft_bytes_lem d.reduced))

  module _ (a b : ℕ) (cover : (u : UnitData) → Reaches u queue places → u.states ≡ x.states → a ≡ length (flat_map word_bytes (found_cover u))) (separating : b ≡ length (flat_map word_bytes words)) where
    pub size_small : length s + 7 + a + b ≤ most_dossier_bytes
    size_small = omega (arith, draft_size a b cover separating, draft_small d.reduced)

    pub fitting : (room : ℕ) → length s + 7 + a + b ≤ room → Fitting s x m queue places text kept count room
    fitting room fits =
        record { drafted = d; fits = omega (arith, draft_size a b cover separating, ap (λ (l : List ℕ). length l) (draft_bytes_lem d.reduced)) }

    pub no_room_answer : (out : List ℕ) → length out < length s + 7 + a + b → FindPromise s m out (Refused (NoRoom (length s + 7 + a + b))) out
    no_room_answer out short = no_room d.reduced _ (draft_size a b cover separating) out short

    pub written_answer : (out left : List ℕ) → length s + 7 + a + b ≤ length out → left ≡ overwritten (draft_bytes s m) out → FindPromise s m out (Written (length s + 7 + a + b)) left
    written_answer out left fits is =
        written d.reduced _ (draft_size a b cover separating) out fits left (is ∙ ap (λ (w : List ℕ). overwritten w out) (draft_bytes_lem d.reduced))

-- Part by part.
module _ {s : List ℕ} {x : UnitShape} {m : ℕ} {queue places text kept : List ℕ} {count room : ℕ} (f : Fitting s x m queue places text kept count room)
    (out : List ℕ) (is : length out ≡ room) where
  abbrev d : Drafted s x m queue places text kept count
  d = f.drafted

  abbrev cover : List ℕ
  cover = words_bytes (found_cover (u d))

  abbrev separating : List ℕ
  separating = words_bytes (words d)

  parts : 5 + length (drop 4 s) + length cover + length separating + 2 ≤ length out
  parts =
      omega (arith, size_is d, unit_long d, words_long (found_cover (u d)), words_long (words d), f.fits)

  pub numbers_room : 5 ≤ length out
  numbers_room = omega (arith, parts)

  module _ {out₁ : List ℕ} {p₁ : ℕ} (w₁ : Wrote out 0 (numbers d) out₁ p₁) where
    pub table_room : (4 ≤ length s) × (p₁ + (length s - 4) ≤ length out₁)
    table_room =
        let long = unit_long d in
        (omega arith, omega (arith, parts, wrote_size w₁, w₁.place, numbers_long d))

    module _ {out₂ : List ℕ} {p₂ : ℕ} (w₂ : Wrote out₁ p₁ (drop 4 s) out₂ p₂) where
      pub cover_room : CoverRoom queue places x.states p₂ (length out₂)
      cover_room =
          record {
            held = u d;
            reaches = d.reduced.reaches;
            states = sym (stands d).states;
            few = omega (arith, (stands d).states, (stands d).sized.machine.few_states);
            fits = omega (arith, parts, wrote_size w₁, w₁.place, wrote_size w₂, w₂.place, numbers_long d);
          }

      module _ {out₃ : List ℕ} {p₃ : ℕ} (w₃ : (u : UnitData) → Reaches u queue places → u.states ≡ x.states → Wrote out₂ p₂ (words_bytes (found_cover u)) out₃ p₃) where
        covered : Wrote out₂ p₂ cover out₃ p₃
        covered = w₃ (u d) d.reduced.reaches (sym (stands d).states)

        three : Wrote out 0 ((numbers d ++ drop 4 s) ++ cover) out₃ p₃
        three = wrote_then (wrote_then w₁ w₂) covered

        three_long : (length out₃ ≡ length out) × (p₃ ≡ 5 + length (drop 4 s) + length cover)
        three_long = (wrote_size three, omega (arith, three.place, length-append (numbers d ++ drop 4 s) cover, length-append (numbers d) (drop 4 s), numbers_long d))

        pub separating_room : p₃ + length separating ≤ length out₃
        separating_room = omega (arith, parts, three_long.0, three_long.1)

        module _ {out₄ : List ℕ} {p₄ : ℕ} (w₄ : Wrote out₃ p₃ separating out₄ p₄) where
          pub tests_room : p₄ + 2 ≤ length out₄
          tests_room = omega (arith, parts, three_long.0, three_long.1, wrote_size w₄, w₄.place)

          pub all_written : {out₅ : List ℕ} {p₅ : ℕ} → Wrote out₄ p₄ (count_bytes 0) out₅ p₅ → out₅ ≡ overwritten (draft_bytes s m) out
          all_written w₅ =
              let whole = wrote_then (wrote_then three w₄) w₅ in
              let none : 0 + length (draft_bytes s m) ≡ length (draft_bytes s m) = omega arith in
              let at_front = sets-eq (draft_bytes s m) out 0 (omega (arith, f.fits)) in
              whole.same ∙ rw (← (laid d)) (rw none at at_front)
