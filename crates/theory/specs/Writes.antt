-- Document 01, "No refusal writes to an output": what the promises of build, compare, find and the import say of the output
-- afterwards; that what find wrote reads back and can be built on, and that what the import wrote reads back.
use Rattle.std.specs.Prelude.{ℕ, ◌≤◌, ◌≡◌, refl, ◌⊎◌, List, length, take, drop}
use Rattle.std.proofs.Common.{arith, sym, ap, ◌∙◌, inl, inr, length-append, length-drop}
use Rattle.std.proofs.Math.Option.{Option, none, some}
use Rattle.std.proofs.Math.Seq.{take-append_seam, drop-append_seam}
use Rattle.rules.specs.declared.Refusal.{Refusal}
use Rattle.rules.specs.declared.Refusal.TheVariants.{NoRoom}
use Rattle.rules.specs.declared.Built.TheVariants.{Written, Refused as BuildRefused}
use Rattle.rules.specs.declared.Compared.{Compared}
use Rattle.rules.specs.declared.Compared.TheVariants.{Equal as Alike, Differs, Refused as CompareRefused}
use Rattle.rules.specs.declared.Built.{Built}
use Rattle.rules.specs.declared.Found.TheVariants.{Written as FoundWritten, Refused as FindRefused}
use Rattle.rules.specs.declared.Imported.TheVariants.{Written as ImportWritten, Refused as ImportRefused}
use Rattle.rules.specs.Files.{DossierData, UnitData, dossier_bytes, unit_bytes}
use Rattle.rules.specs.Operations.{fine, refuse, read_dossier, read_unit, overwritten, build, build_answer, compare, compare_answer, compare_output}
use Rattle.rules.specs.Find.{find, find_answer}
use Rattle.rules.specs.Kiss2.{unit_said, read_kiss2, read_kiss2_answer}
use Rattle.rules.specs.Promises.{BuildPromise, ComparePromise, FindPromise, ReadKiss2Promise}
use Rattle.theory.specs.Outcomes.{settled}
use Rattle.theory.specs.Answers.{build_answer_lem, compare_answer_lem, find_answer_lem, import_answer}
use Rattle.theory.specs.Build.{build_gives, sound_builds}
use Rattle.theory.specs.Files.{unit_sized}
use Rattle.theory.specs.Find.{Drafts, find_gives, found_sound, found_reads_back}
use Rattle.theory.specs.Kiss2.{said_in, Imports, import_gives}
use Rattle.theory.specs.Kiss2Units.{imported_reads_back}

-- the front of an output that w was written to is w; the later bytes stay, and so does the length
pub record WrittenTo (out left w : List ℕ) : Type 0 where
  pub front : take (length w) left ≡ w
  pub later : drop (length w) left ≡ drop (length w) out
  pub size : length left ≡ length out

pub written_to : (out w : List ℕ) → length w ≤ length out → WrittenTo out (overwritten w out) w
written_to out w fits =
    record {
      front = take-append_seam w (drop (length w) out);
      later = drop-append_seam w (drop (length w) out);
      size = rw (length-append, length-drop) (omega arith);
    }

module _ (dossier out left : List ℕ) where
  -- A refused build changes no byte of its output.
  pub refused_build_keeps : (r : Refusal) → BuildPromise dossier out (BuildRefused r) left → left ≡ out
  refused_build_keeps r promise =
      let (answer, output) = build_answer_lem dossier out (BuildRefused r) left promise in
      output ∙ elim (settled (build dossier out)) [ inl (w, e) ↦ absurd (different w e answer) | inr (s, e) ↦ rw e ]
    where
      different : (w : List ℕ) → build dossier out ≡ fine w → BuildRefused r ≡ build_answer dossier out → ⊥
      different w e h = let z : BuildRefused r ≡ Written (length w) = rw e at h in let no : ◌≡◌ {A = ℕ} 0 1 = cc in omega arith

  -- What build answers the length of stands at the front of the output, and later bytes stay.
  pub built_writes : (n : ℕ) → BuildPromise dossier out (Written n) left → (w : List ℕ) × (n ≡ length w) × (build dossier out ≡ fine w) × WrittenTo out left w
  built_writes n promise =
      let (answer, output) = build_answer_lem dossier out (Written n) left promise in
      elim (settled (build dossier out)) [
        | inl (w, e) ↦
            let is : n ≡ length w = cc (rw e at answer) in
            let left_is : left ≡ overwritten w out = rw e at output in
            let (d, b, bytes) = rw e at (build_gives dossier out) in
            (w, is, e, rw left_is (written_to out w (rw bytes b.fits)))
        | inr (r, e) ↦ absurd (different r e answer)
      ]
    where
      different : (r : Refusal) → build dossier out ≡ refuse r → Written n ≡ build_answer dossier out → ⊥
      different r e h = let z : Written n ≡ BuildRefused r = rw e at h in let no : ◌≡◌ {A = ℕ} 0 1 = cc in omega arith

-- whether an answer of compare is DIFFERS
abbrev pub Differing : Compared → Type 0
Differing Alike = ⊥
Differing (Differs n) = Unit {0}
Differing (CompareRefused r) = ⊥

module _ (dossier unit out left : List ℕ) where
  -- Nothing but DIFFERS writes: a refusal and EQUAL change no byte of the output.
  pub only_differs_writes : (r : Compared) → ¬ Differing r → ComparePromise dossier unit out r left → left ≡ out
  only_differs_writes r silent promise =
      let (answer, output) = compare_answer_lem dossier unit out r left promise in
      output ∙ kept (settled (compare dossier unit out)) (rw answer at silent)
    where
      kept : ((o : Option (List ℕ)) × (compare dossier unit out ≡ fine o)) ⊎ ((s : Refusal) × (compare dossier unit out ≡ refuse s))
          → ¬ Differing (compare_answer dossier unit out) → compare_output dossier unit out ≡ out
      kept (inr (s, e)) h = rw e
      kept (inl (none, e)) h = rw e
      kept (inl (some w, e)) h = absurd ((rw e at h) tt)

module _ (unit : List ℕ) (bound : ℕ) (out left : List ℕ) where
  -- A refused find changes no byte of its output.
  pub refused_find_keeps : (r : Refusal) → FindPromise unit bound out (FindRefused r) left → left ≡ out
  refused_find_keeps r promise =
      let (answer, output) = find_answer_lem unit bound out (FindRefused r) left promise in
      output ∙ elim (settled (find unit bound out)) [ inl (w, e) ↦ absurd (different w e answer) | inr (s, e) ↦ rw e ]
    where
      different : (w : List ℕ) → find unit bound out ≡ fine w → FindRefused r ≡ find_answer unit bound out → ⊥
      different w e h = let z : FindRefused r ≡ FoundWritten (length w) = rw e at h in let no : ◌≡◌ {A = ℕ} 0 1 = cc in omega arith

  -- What find answers the length of stands at the front of the output, and later bytes stay. It reads back as the dossier with the
  -- unit's table, the bound byte as passed, the found words and no tests.
  pub found_writes : (n : ℕ) → FindPromise unit bound out (FoundWritten n) left
      → (u : UnitData) × (d : DossierData) × Drafts unit bound u d × (n ≡ length (dossier_bytes d)) × WrittenTo out left (dossier_bytes d) × (read_dossier (take n left) ≡ fine d)
  found_writes n promise =
      let (answer, output) = find_answer_lem unit bound out (FoundWritten n) left promise in
      elim (settled (find unit bound out)) [
        | inl (w, e) ↦
            let (u, d, f, is) = rw e at (find_gives unit bound out) in
            let count : n ≡ length w = cc (rw e at answer) in
            let long : n ≡ length (dossier_bytes d) = count ∙ ap (λ (l : List ℕ). length l) is in
            let left_is : left ≡ overwritten (dossier_bytes d) out = rw (e, is) at output in
            let wrote = written_to out (dossier_bytes d) f.fits in
            (u, d, f.drafts, long, rw left_is wrote, rw (left_is, long, wrote.front) (found_reads_back unit bound out u d f))
        | inr (r, e) ↦ absurd (different r e answer)
      ]
    where
      different : (r : Refusal) → find unit bound out ≡ refuse r → FoundWritten n ≡ find_answer unit bound out → ⊥
      different r e h = let z : FoundWritten n ≡ FindRefused r = rw e at h in let no : ◌≡◌ {A = ℕ} 0 1 = cc in omega arith

  -- Whatever build answers on it, it is not one of 1 to 10: it is built, or there is no room.
  pub found_builds : (n : ℕ) → FindPromise unit bound out (FoundWritten n) left
      → (out' left' : List ℕ) (r : Built) → BuildPromise (take n left) out' r left' → ((x : ℕ) × (r ≡ Written x)) ⊎ ((x : ℕ) × (r ≡ BuildRefused (NoRoom x)))
  found_builds n promise out' left' r builds =
      let (u, d, x, long, wrote, reads) = found_writes n promise in
      sound_builds (take n left) out' d reads (found_sound u (unit_sized unit u x.reads).machine bound d x.dossier) r
      (sym (build_answer_lem (take n left) out' r left' builds).0)

module _ (text out left : List ℕ) where
  -- A refused import changes no byte of its output.
  pub refused_import_keeps : (r : Refusal) → ReadKiss2Promise text out (ImportRefused r) left → left ≡ out
  refused_import_keeps r promise =
      let (answer, output) = import_answer text out (ImportRefused r) left promise in
      output ∙ elim (settled (read_kiss2 text out)) [ inl (w, e) ↦ absurd (different w e answer) | inr (s, e) ↦ rw e ]
    where
      different : (w : List ℕ) → read_kiss2 text out ≡ fine w → ImportRefused r ≡ read_kiss2_answer text out → ⊥
      different w e h = let z : ImportRefused r ≡ ImportWritten (length w) = rw e at h in let no : ◌≡◌ {A = ℕ} 0 1 = cc in omega arith

  -- What the import answers the length of stands at the front of the output, and later bytes stay. It reads back as the unit that the
  -- terms of the text say.
  pub import_writes : (n : ℕ) → ReadKiss2Promise text out (ImportWritten n) left
      → (u : UnitData) × (u ≡ unit_said (said_in text)) × Imports text out × (n ≡ length (unit_bytes u)) × WrittenTo out left (unit_bytes u) × (read_unit (take n left) ≡ fine u)
  import_writes n promise =
      let (answer, output) = import_answer text out (ImportWritten n) left promise in
      elim (settled (read_kiss2 text out)) [
        | inl (w, e) ↦
            let u = unit_said (said_in text) in
            let (x, is) = rw e at (import_gives text out) in
            let count : n ≡ length w = cc (rw e at answer) in
            let long : n ≡ length (unit_bytes u) = count ∙ ap (λ (l : List ℕ). length l) is in
            let left_is : left ≡ overwritten (unit_bytes u) out = rw (e, is) at output in
            let wrote = written_to out (unit_bytes u) x.fits in
            (u, refl, x, long, rw left_is wrote, rw (left_is, long, wrote.front) (imported_reads_back text out x))
        | inr (r, e) ↦ absurd (different r e answer)
      ]
    where
      different : (r : Refusal) → read_kiss2 text out ≡ refuse r → ImportWritten n ≡ read_kiss2_answer text out → ⊥
      different r e h = let z : ImportWritten n ≡ ImportRefused r = rw e at h in let no : ◌≡◌ {A = ℕ} 0 1 = cc in omega arith
