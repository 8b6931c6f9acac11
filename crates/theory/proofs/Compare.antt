-- Document 01, "Compare": EQUAL is given exactly when golden and unit answer every word alike, and DIFFERS with the shortest
-- word that tells them apart, among equals the first by inputs.
use Rattle.std.specs.Prelude.{ℕ, ◌+◌, ◌-◌, ◌≤◌, ◌≡◌, refl, ◌↔◌, List, Bool, false, not, eqb, leb, length}
use Rattle.std.proofs.Common.{arith}
use Rattle.std.proofs.Math.Logic.{inl, inr}
use Rattle.std.proofs.Math.Option.{Option, none, some}
use borrow.Author.Tests.{not-true, not-false, eqb-true, eqb-false, eq-eqb, ne_eqb, leb-true, leb-false, le-leb, lt-leb}
use Rattle.rules.specs.declared.Refusal.{Refusal}
use Rattle.rules.specs.declared.Compared.{Compared}
use Rattle.rules.specs.declared.Compared.TheVariants.{Equal as Alike, Differs, Refused}
use Rattle.rules.specs.Lists.{first}
use Rattle.rules.specs.Words.{Word, same, shortlex}
use Rattle.rules.specs.Machines.{Machine, Complete, answer}
use Rattle.rules.specs.Files.{DossierData, UnitData, golden, unit}
use Rattle.rules.specs.Operations.{Outcome, fine, refuse, ◌>>◌, read_dossier, read_unit, telling, fits_if_any, compare, comparison, compare_answer}
use Rattle.theory.specs.Lists.{outcome}
use Rattle.theory.specs.Words.{same_true, same_refl, same_false, differ_same}
use Rattle.theory.specs.Shortlex.{FirstWord, first_word_short, found_word, word_found, none_found, found_none}
use Rattle.theory.specs.Machines.{golden_complete}
use Rattle.theory.specs.Files.{dossier_sized, unit_sized}
use Rattle.theory.specs.Outcomes.{settled, Settles}
use Rattle.theory.specs.Compare.{Equal, FirstTelling, Compares, TellingOf, CompareRefuses, malformed, malformed_unit, fifteen, seventeen, Finds, CompareFinds, CompareGives}
use Rattle.theory.proofs.Telling.{short_telling}
use Rattle.theory.proofs.Alike.{alike_everywhere}

module _ (k : ℕ) (G U : Machine) (complete-G : Complete k G) (complete-U : Complete k U) where
  -- how many inputs the words have that compare looks at, and its test
  abbrev most : ℕ
  most = G.states + U.states - 1

  abbrev tells : Word → Bool
  tells w = not (same (answer G w) (answer U w))

  tells-false : (w : Word) → tells w ≡ false → answer G w ≡ answer U w
  tells-false w e = same_true (answer G w) (answer U w) (not-false _ e)

  alike_tells : (w : Word) → answer G w ≡ answer U w → tells w ≡ false
  alike_tells w e = rw (e, same_refl (answer U w))

  first_word : (w : Word) → FirstTelling k G U w → FirstWord k tells w
  first_word w f =
      record { valid = f.valid; passes = rw (differ_same f.tells); earlier = λ v valid_v before. alike_tells v (f.earlier v valid_v before) }

  pub none_telling : first tells (shortlex k most) ≡ none → Equal k G U
  none_telling e = alike_everywhere k G U complete-G complete-U (λ v valid short. tells-false v (none_found k most tells e v valid short))

  pub equal_none : Equal k G U → first tells (shortlex k most) ≡ none
  equal_none alike = found_none k most tells (λ v valid short. alike_tells v (alike v valid))

  pub some_telling : (w : Word) → first tells (shortlex k most) ≡ some w → FirstTelling k G U w
  some_telling w e =
      let (f, short) = found_word k most tells e in
      record { valid = f.valid; tells = same_false (not-true _ f.passes); earlier = λ v valid_v before. tells-false v (f.earlier v valid_v before) }

  -- The first telling word has at most n + u - 1 inputs.
  pub telling_short : (w : Word) → FirstTelling k G U w → length w ≤ G.states + U.states - 1
  telling_short w f =
      let (v, valid_v, short, told) = short_telling k G U complete-G complete-U w f.valid f.tells in
      let less = first_word_short (first_word w f) v valid_v (rw (differ_same told)) in
      omega arith

  pub telling_some : (w : Word) → FirstTelling k G U w → first tells (shortlex k most) ≡ some w
  telling_some w f = word_found k most tells (first_word w f) (telling_short w f)

module _ (dossier_file unit_file out : List ℕ) where
  module _ (d : DossierData) (u : UnitData) (c : Compares dossier_file unit_file d u) where
    golden_whole : Complete d.inputs (golden d)
    golden_whole = golden_complete (dossier_sized dossier_file d c.reads).golden

    unit_whole : Complete d.inputs (unit u)
    unit_whole = rw c.same_inputs (golden_complete (unit_sized unit_file u c.unit_reads).machine)

    found : (o : Option Word) → telling d u ≡ o → Settles (λ p. Finds out d u p) (CompareRefuses dossier_file unit_file out) (◌>>◌ (fits_if_any o out) (fine o))
    unfolding telling
    found none e = none_telling d.inputs (golden d) (unit u) golden_whole unit_whole e
    found (some w) e =
        let t = some_telling d.inputs (golden d) (unit u) golden_whole unit_whole w e in
        elim (outcome (leb (length w) (length out))) [
          | inl fits ↦ rw fits (t, leb-true _ _ fits)
          | inr short ↦ rw short (seventeen d u c w t (leb-false _ _ short) refl)
        ]

    equal_telling : Equal d.inputs (golden d) (unit u) → telling d u ≡ none
    unfolding telling
    equal_telling = equal_none d.inputs (golden d) (unit u) golden_whole unit_whole

    first_telling : (w : Word) → TellingOf d u w → telling d u ≡ some w
    unfolding telling
    first_telling = telling_some d.inputs (golden d) (unit u) golden_whole unit_whole

  with_files : (d : DossierData) (u : UnitData) (c : Compares dossier_file unit_file d u) (x : Outcome (Option Word))
      → Settles (λ p. Finds out d u p) (CompareRefuses dossier_file unit_file out) x → Settles (CompareFinds dossier_file unit_file out) (CompareRefuses dossier_file unit_file out) x
  with_files d u c (fine o) h = (d, u, c, h)
  with_files d u c (refuse r) h = h

  pub compare_gives : Settles (CompareFinds dossier_file unit_file out) (CompareRefuses dossier_file unit_file out) (compare dossier_file unit_file out)
  unfolding compare
  compare_gives =
      elim (settled (read_dossier dossier_file)) [
        | inr (r, e) ↦ rw e (malformed e)
        | inl (d, reads) ↦
            rw reads
            (elim (settled (read_unit unit_file)) [
              | inr (r, e) ↦ rw e (malformed_unit d reads e)
              | inl (u, unit_reads) ↦
                  rw unit_reads
                  (elim (outcome (eqb d.inputs u.inputs)) [
                    | inr other ↦ rw other (fifteen d u reads unit_reads (eqb-false _ _ other) refl)
                    | inl alike ↦
                        let c : Compares dossier_file unit_file d u = record { reads = reads; unit_reads = unit_reads; same_inputs = eqb-true _ _ alike } in
                        rw alike (with_files d u c (◌>>◌ (fits_if_any (telling d u) out) (fine (telling d u))) (found d u c (telling d u) refl))
                  ])
            ])
      ]

  gives_compare : (r : Refusal) → CompareRefuses dossier_file unit_file out r → compare dossier_file unit_file out ≡ refuse r
  unfolding compare
  gives_compare r (malformed e) = rw e
  gives_compare r (malformed_unit d reads e) = rw (reads, e)
  gives_compare r (fifteen d u reads unit_reads other is) = rw (reads, unit_reads, ne_eqb _ _ other, is)
  gives_compare r (seventeen d u c w t short is) =
      rw (c.reads, c.unit_reads, eq-eqb _ _ c.same_inputs, first_telling d u c w t, lt-leb _ _ short, is)

  pub compare_refuses : (r : Refusal) → (compare dossier_file unit_file out ≡ refuse r) ↔ CompareRefuses dossier_file unit_file out r
  compare_refuses r = (λ e. rw e at compare_gives, gives_compare r)

pub compare_exactly : (dossier_file unit_file out : List ℕ) (r : Compared) → (compare_answer dossier_file unit_file out ≡ r) ↔ CompareGives dossier_file unit_file out r
unfolding compare
compare_exactly dossier_file unit_file out r = (λ e. rw e at gives, given r)
  where
    told : (o : Option Word) → CompareFinds dossier_file unit_file out o → CompareGives dossier_file unit_file out (comparison o)
    told none (d, u, c, equal) = (d, u, c, equal)
    told (some w) (d, u, c, (t, fits)) = (d, u, w, c, t, fits, refl)

    gives : CompareGives dossier_file unit_file out (compare_answer dossier_file unit_file out)
    gives =
        elim (settled (compare dossier_file unit_file out)) [
          | inr (r, e) ↦ rw e ((compare_refuses dossier_file unit_file out r).0 e)
          | inl (o, e) ↦ rw e (told o (rw e at (compare_gives dossier_file unit_file out)))
        ]

    given : (r : Compared) → CompareGives dossier_file unit_file out r → compare_answer dossier_file unit_file out ≡ r
    given Alike (d, u, c, equal) =
        rw (c.reads, c.unit_reads, eq-eqb _ _ c.same_inputs, equal_telling dossier_file unit_file out d u c equal)
    given (Differs n) (d, u, w, c, t, fits, count) =
        rw (c.reads, c.unit_reads, eq-eqb _ _ c.same_inputs, first_telling dossier_file unit_file out d u c w t, le-leb _ _ fits, count)
    given (Refused r) h = rw ((compare_refuses dossier_file unit_file out r).1 h)
