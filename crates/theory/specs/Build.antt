-- Document 01, "Build": the built tests, when each answer is given, and that what is built is accepted and reads back.
use Rattle.std.specs.Prelude.{ℕ, suc, ◌≤◌, ◌<◌, ◌≡◌, refl, ◌↔◌, ◌⊎◌, List, ◌++◌, leb, length}
use Rattle.std.proofs.Common.{arith, sym, ap, ◌∙◌, length-append}
use Rattle.std.proofs.Math.Logic.{inl, inr}
use borrow.Author.Tests.{leb-true, leb-false, le-leb, lt-leb}
use Rattle.rules.specs.declared.Refusal.{Refusal}
use Rattle.rules.specs.declared.Refusal.TheVariants.{NoRoom}
use Rattle.rules.specs.declared.Built.{Built}
use Rattle.rules.specs.declared.Built.TheVariants.{Written, Refused}
use Rattle.rules.specs.declared.Checked.TheVariants.{Accepted}
use Rattle.rules.specs.Sizes.{most_test_word, most_dossier_bytes}
use Rattle.rules.specs.Lists.{◌∈◌}
use Rattle.rules.specs.Words.{Word, Valid, Begins}
use Rattle.rules.specs.Files.{DossierData, with_tests, dossier_bytes}
use Rattle.rules.specs.Needed.{IsNeeded, IsAccepted, needed_words, maximal_of, built_tests}
use Rattle.rules.specs.Operations.{fine, refuse, read_dossier, sound, check_answer, build, build_answer}
use Rattle.theory.specs.Sized.{SizedDossier}
use Rattle.theory.specs.Lists.{outcome, Rising}
use Rattle.theory.specs.Words.{valid_append}
use Rattle.theory.specs.Orders.{ByInputs}
use Rattle.theory.specs.Outcomes.{settled, fine_injective, fine_not_refuse, Settles}
use Rattle.theory.specs.Files.{dossier_sized, dossier_read_lem}
use Rattle.theory.specs.Sound.{Sound, SoundRefuses, sound_refuses, sound-fine}
use Rattle.theory.specs.Missing.{needed_words_lem}
use Rattle.theory.specs.Check.{sound_accepted, check_exactly}
use Rattle.theory.specs.Maximal.{ProperlyBegins, IsMaximal, in_maximal, maximal_apart, begins_maximal, in_ordered, ordered_rising}

-- the dossier that build writes
abbrev pub built_dossier : DossierData → DossierData
built_dossier d = with_tests d (built_tests d)

-- What the built tests are.
pub record BuiltTests (d : DossierData) (tests : List Word) : Type 0 where
  -- ordered by inputs from the front, each once
  pub sorted : Rising ByInputs tests
  -- each is needed
  pub all_needed : (t : Word) → t ∈ tests → IsNeeded d t
  -- none is a proper beginning of another
  pub apart : (s t : Word) → s ∈ tests → t ∈ tests → ¬ ProperlyBegins s t
  -- each needed word is one of them or a beginning of one
  pub enough : (w : Word) → IsNeeded d w → (t : Word) × (t ∈ tests) × Begins w t
  -- each needed word that is no proper beginning of another is one of them
  pub whole : (w : Word) → IsNeeded d w → ((v : Word) → IsNeeded d v → ¬ ProperlyBegins w v) → w ∈ tests

module _ (d : DossierData) where
  built_maximal : (t : Word) → (t ∈ built_tests d) ↔ IsMaximal (needed_words d) t
  unfolding built_tests
  built_maximal t = (
    λ m. (in_maximal (needed_words d) t).0 ((in_ordered t (maximal_of (needed_words d))).0 m),
    λ x. (in_ordered t (maximal_of (needed_words d))).1 ((in_maximal (needed_words d) t).1 x),
  )

  pub built_tests_lem : BuiltTests d (built_tests d)
  unfolding built_tests
  built_tests_lem =
      record {
        sorted = ordered_rising (maximal_of (needed_words d)) (maximal_apart (needed_words d));
        all_needed = λ t m. (needed_words_lem d t).0 ((built_maximal t).0 m).member;
        apart = λ s t m n. ((built_maximal s).0 m).maximal t ((built_maximal t).0 n).member;
        enough = λ w n.
            let (t, m, b) = begins_maximal (needed_words d) w ((needed_words_lem d w).1 n) in
            (t, (in_ordered t (maximal_of (needed_words d))).1 m, b);
        whole = λ w n h.
            (built_maximal w).1 (record { member = (needed_words_lem d w).1 n; maximal = λ v m. h v ((needed_words_lem d v).0 m) });
      }

  -- a needed word of the built dossier is a needed word of the dossier: neither depends on the tests
  needed_same : (w : Word) → IsNeeded (built_dossier d) w → IsNeeded d w
  needed_same w n =
      record {
        front = n.front;
        middle = n.middle;
        back = n.back;
        covering = n.covering;
        inputs = n.inputs;
        short = n.short;
        separating = n.separating;
        joined = n.joined;
      }

  built_sound : Sound d → Sound (built_dossier d)
  built_sound s = record { empty_word = s.empty_word; reached = s.reached; separator = s.separator; told = s.told }

  -- The built dossier is accepted.
  pub built_is_accepted : Sound d → IsAccepted (built_dossier d)
  built_is_accepted s = sound_accepted (built_dossier d) (built_sound s) (λ w n. built_tests_lem.enough w (needed_same w n))

  -- A needed word has at most 97 + 5 + 97 inputs, so a built test is no longer than a test may be.
  pub needed_sized : SizedDossier d → (w : Word) → IsNeeded d w → Valid d.inputs w × (length w ≤ most_test_word)
  needed_sized sized w n =
      let (valid_c, short_c) = sized.cover n.front n.covering in
      let (valid_s, short_s) = sized.separating n.back n.separating in
      let few : length n.middle ≤ 5 = omega (arith, n.short, sized.bound_near) in
      rw n.joined (
        valid_append d.inputs (n.front ++ n.middle) n.back (valid_append d.inputs n.front n.middle valid_c n.inputs) valid_s,
        rw (length-append, length-append) (omega arith),
      )

  -- The built dossier is within the sizes, if its bytes are.
  built_sized : SizedDossier d → length (dossier_bytes (built_dossier d)) ≤ most_dossier_bytes → SizedDossier (built_dossier d)
  built_sized sized small =
      record {
        golden = sized.golden;
        bound_least = sized.bound_least;
        bound_most = sized.bound_most;
        bound_near = sized.bound_near;
        cover = sized.cover;
        separating = sized.separating;
        tests = λ t m. needed_sized sized t (built_tests_lem.all_needed t m);
        size = small;
      }

-- what build may write: the dossier reads well, none of 7 to 10 holds, and the built bytes fit the size and the output
pub record Builds (bytes out : List ℕ) (d : DossierData) : Type 0 where
  pub reads : read_dossier bytes ≡ fine d
  pub is_sound : Sound d
  pub small : length (dossier_bytes (built_dossier d)) ≤ most_dossier_bytes
  pub fits : length (dossier_bytes (built_dossier d)) ≤ length out

-- build's order: 1 to 10, then 17
pub data BuildRefuses (bytes out : List ℕ) (r : Refusal) : Type 0 where
  malformed : read_dossier bytes ≡ refuse r → BuildRefuses bytes out r
  unsound : (d : DossierData) → read_dossier bytes ≡ fine d → SoundRefuses d r → BuildRefuses bytes out r
  over_size : (d : DossierData) → read_dossier bytes ≡ fine d → Sound d → most_dossier_bytes < length (dossier_bytes (built_dossier d)) → r ≡ NoRoom (suc most_dossier_bytes)
      → BuildRefuses bytes out r
  no_room : (d : DossierData) → read_dossier bytes ≡ fine d → Sound d → length (dossier_bytes (built_dossier d)) ≤ most_dossier_bytes
      → length out < length (dossier_bytes (built_dossier d)) → r ≡ NoRoom (length (dossier_bytes (built_dossier d))) → BuildRefuses bytes out r

module _ (bytes out : List ℕ) where
  pub build_gives : Settles (λ w. (d : DossierData) × Builds bytes out d × (w ≡ dossier_bytes (built_dossier d))) (BuildRefuses bytes out) (build bytes out)
  unfolding build
  build_gives =
      elim (settled (read_dossier bytes)) [
        | inr (r, e) ↦ rw e (malformed e)
        | inl (d, reads) ↦
            rw reads
            (elim (settled (sound d)) [
              | inr (r, e) ↦ rw e (unsound d reads ((sound_refuses d r).0 e))
              | inl (x, e) ↦
                  let s = (sound-fine d).0 e in
                  rw e
                  (elim (outcome (leb (length (dossier_bytes (built_dossier d))) most_dossier_bytes)) [
                    | inr over ↦ rw over (over_size d reads s (leb-false _ _ over) refl)
                    | inl small ↦
                        rw small
                        (elim (outcome (leb (length (dossier_bytes (built_dossier d))) (length out))) [
                          | inr short ↦ rw short (no_room d reads s (leb-true _ _ small) (leb-false _ _ short) refl)
                          | inl fits ↦
                              rw fits (d, record { reads = reads; is_sound = s; small = leb-true _ _ small; fits = leb-true _ _ fits }, refl)
                        ])
                  ])
            ])
      ]

  gives_build : (r : Refusal) → BuildRefuses bytes out r → build bytes out ≡ refuse r
  unfolding build
  gives_build r (malformed e) = rw e
  gives_build r (unsound d reads s) = rw (reads, (sound_refuses d r).1 s)
  gives_build r (over_size d reads s over is) = rw (reads, (sound-fine d).1 s, lt-leb _ _ over, is)
  gives_build r (no_room d reads s small short is) = rw (reads, (sound-fine d).1 s, le-leb _ _ small, lt-leb _ _ short, is)

  pub build_refuses : (r : Refusal) → (build bytes out ≡ refuse r) ↔ BuildRefuses bytes out r
  build_refuses r = (λ e. rw e at build_gives, gives_build r)

  pub build_writes : (d : DossierData) → Builds bytes out d → build bytes out ≡ fine (dossier_bytes (built_dossier d))
  unfolding build
  build_writes d b = rw (b.reads, (sound-fine d).1 b.is_sound, le-leb _ _ b.small, le-leb _ _ b.fits)

-- when each answer of build is given
abbrev pub BuildGives : List ℕ → List ℕ → Built → Type 0
BuildGives bytes out (Written n) = (d : DossierData) × Builds bytes out d × (n ≡ length (dossier_bytes (built_dossier d)))
BuildGives bytes out (Refused r) = BuildRefuses bytes out r

pub build_exactly : (bytes out : List ℕ) (r : Built) → (build_answer bytes out ≡ r) ↔ BuildGives bytes out r
build_exactly bytes out r = (λ e. rw e at gives, given r)
  where
    gives : BuildGives bytes out (build_answer bytes out)
    gives =
        elim (settled (build bytes out)) [
          | inr (r, e) ↦ rw e ((build_refuses bytes out r).0 e)
          | inl (w, e) ↦ let (d, b, is) = rw e at (build_gives bytes out) in rw e (d, b, ap (λ (l : List ℕ). length l) is)
        ]

    given : (r : Built) → BuildGives bytes out r → build_answer bytes out ≡ r
    given (Written n) (d, b, count) = rw (build_writes bytes out d b, count)
    given (Refused r) h = rw ((build_refuses bytes out r).1 h)

-- Whatever build writes reads back as the same golden, word sets, bound byte and bound, with the built tests,
pub built_reads_back : (bytes out : List ℕ) (d : DossierData) → Builds bytes out d → read_dossier (dossier_bytes (built_dossier d)) ≡ fine (built_dossier d)
built_reads_back bytes out d b = dossier_read_lem (built_dossier d) (built_sized d (dossier_sized bytes d b.reads) b.small)

-- and check accepts it.
pub built_accepted : (bytes out w : List ℕ) → build bytes out ≡ fine w → check_answer w ≡ Accepted
built_accepted bytes out w e =
    let (d, b, is) = rw e at (build_gives bytes out) in
    (check_exactly w Accepted).1 (built_dossier d, (rw is (built_reads_back bytes out d b), built_is_accepted d b.is_sound))

-- A dossier of which none of 1 to 10 holds is built, or there is no room: 1 to 10 do not refuse it.
pub sound_builds : (bytes out : List ℕ) (d : DossierData) → read_dossier bytes ≡ fine d → Sound d → (r : Built) → build_answer bytes out ≡ r
    → ((n : ℕ) × (r ≡ Written n)) ⊎ ((n : ℕ) × (r ≡ Refused (NoRoom n)))
sound_builds bytes out d reads s r e = given r ((build_exactly bytes out r).0 e)
  where
    given : (r : Built) → BuildGives bytes out r → ((n : ℕ) × (r ≡ Written n)) ⊎ ((n : ℕ) × (r ≡ Refused (NoRoom n)))
    given (Written n) h = inl (n, refl)
    given (Refused f) (malformed e) = fine_not_refuse (sym reads ∙ e)
    given (Refused f) (unsound d' reads' x) =
        let same : d' ≡ d = fine_injective (sym reads' ∙ reads) in
        fine_not_refuse (sym ((sound-fine d).1 s) ∙ (sound_refuses d f).1 (rw same at x))
    given (Refused f) (over_size d' reads' s' over is) = inr (_, ap Refused is)
    given (Refused f) (no_room d' reads' s' small short is) = inr (_, ap Refused is)
