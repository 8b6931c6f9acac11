-- docs/LINES.md: the outputs that `bureau` lends are long enough, so that 17 says only that a built dossier is over its size.
use Rattle.std.specs.Prelude.{ℕ, suc, ◌≡◌, ◌≢◌, List, length}
use Rattle.std.proofs.Common.{arith}
use Rattle.rules.specs.declared.File.{File}
use Rattle.rules.specs.declared.File.TheVariants.{Dossier, Unit as UnitFile}
use Rattle.rules.specs.declared.Refusal.TheVariants.{NoRoom}
use Rattle.rules.specs.Sizes.{most_dossier_bytes, most_unit_bytes}
use Rattle.rules.specs.Files.{golden, unit}
use Rattle.rules.specs.Reading.{Reader, dossier, unit_table}
use Rattle.rules.specs.Operations.{refuse, read_file, build, compare}
use Rattle.rules.specs.Find.{find}
use Rattle.rules.specs.Kiss2.{read_kiss2}
use Rattle.theory.specs.Outcomes.{read_refuses}
use Rattle.theory.specs.Files.{dossier_sized, unit_sized}
use Rattle.theory.specs.Machines.{golden_complete}
use Rattle.theory.specs.Sound.{seven, eight, nine, ten}
use Rattle.theory.specs.Build
use Rattle.theory.specs.Build.{BuildRefuses, build_refuses}
use Rattle.theory.specs.FoundSize.{find_never_over}
use Rattle.theory.specs.Kiss2
use Rattle.theory.specs.Kiss2.{said_in, ImportRefuses, import_refuses}
use Rattle.theory.specs.Kiss2Units.{said_small, good_text_read}
use Rattle.theory.specs.Compare
use Rattle.theory.specs.Compare.{CompareRefuses}
use Rattle.theory.proofs.Compare.{telling_short, compare_refuses}
use Rattle.bureau_lines.specs.Lines.{telling_room}

-- reading a file never finds that an output is too short
read_room : {A : Type 0} (f : File) (most : ℕ) (read : Reader A) (bytes : List ℕ) (n : ℕ) → read_file f most read bytes ≢ refuse (NoRoom n)
read_room f most read bytes n e =
    let (fault, p, is) = read_refuses f most read bytes (NoRoom n) e in
    let z : ◌≡◌ {A = ℕ} 0 1 = cc in
    omega arith

-- A telling word has at most 127 inputs, so compare never answers 17.
pub compare_has_room : (dossier_file unit_file : List ℕ) (n : ℕ) → compare dossier_file unit_file telling_room ≢ refuse (NoRoom n)
compare_has_room s t n e = go ((compare_refuses s t telling_room (NoRoom n)).0 e)
  where
    go : CompareRefuses s t telling_room (NoRoom n) → ⊥
    go (Compare.malformed e) = read_room Dossier most_dossier_bytes dossier s n e
    go (Compare.malformed_unit d reads e) = read_room UnitFile most_unit_bytes unit_table t n e
    go (Compare.fifteen d u reads unit_reads other is) = let z : ◌≡◌ {A = ℕ} 0 1 = cc in omega arith
    go (Compare.seventeen d u c w tells short is) =
        let sized = (dossier_sized s d c.reads).golden in
        let unit_is = (unit_sized t u c.unit_reads).machine in
        let long = telling_short d.inputs (golden d) (unit u) (golden_complete sized) (rw c.same_inputs (golden_complete unit_is)) w tells in
        omega (arith, short, long, sized.few_states, unit_is.few_states)

-- An output of as many bytes as a dossier may have is too short only for a dossier over its size.
pub build_has_room : (dossier_file out : List ℕ) (n : ℕ) → length out ≡ most_dossier_bytes → build dossier_file out ≡ refuse (NoRoom n) → n ≡ suc most_dossier_bytes
build_has_room s out n long e = go ((build_refuses s out (NoRoom n)).0 e)
  where
    go : BuildRefuses s out (NoRoom n) → n ≡ suc most_dossier_bytes
    go (Build.malformed e) = absurd (read_room Dossier most_dossier_bytes dossier s n e)
    go (Build.unsound d reads (seven h is)) = let z : ◌≡◌ {A = ℕ} 0 1 = cc in absurd (omega arith)
    go (Build.unsound d reads (eight h q low is)) = let z : ◌≡◌ {A = ℕ} 0 1 = cc in absurd (omega arith)
    go (Build.unsound d reads (nine h reached nothing is)) = let z : ◌≡◌ {A = ℕ} 0 1 = cc in absurd (omega arith)
    go (Build.unsound d reads (ten h reached separator p q low is)) = let z : ◌≡◌ {A = ℕ} 0 1 = cc in absurd (omega arith)
    go (Build.over_size d reads s over is) = cc
    go (Build.no_room d reads s small short is) = absurd (omega (arith, small, short, long))

-- A found dossier is never over its size, so find never answers 17.
pub find_has_room : (unit_file : List ℕ) (bound : ℕ) (out : List ℕ) (n : ℕ) → length out ≡ most_dossier_bytes → find unit_file bound out ≢ refuse (NoRoom n)
find_has_room s bound out n long e =
    let (u, d, drafts, short, is, small) = find_never_over s bound out n e in
    omega (arith, short, is, small, long)

-- A unit has at most 2,054 bytes, so the import never answers 17.
pub import_has_room : (text_file out : List ℕ) (n : ℕ) → length out ≡ most_dossier_bytes → read_kiss2 text_file out ≢ refuse (NoRoom n)
import_has_room s out n long e = go ((import_refuses s out (NoRoom n)).0 e)
  where
    go : ImportRefuses s out (NoRoom n) → ⊥
    go (Kiss2.one over is) = let z : ◌≡◌ {A = ℕ} 0 1 = cc in omega arith
    go (Kiss2.nineteen short i good bad is) = let z : ◌≡◌ {A = ℕ} 0 1 = cc in omega arith
    go (Kiss2.twenty short i good placed against is) = let z : ◌≡◌ {A = ℕ} 0 1 = cc in omega arith
    go (Kiss2.lacking short good lacks is) = let z : ◌≡◌ {A = ℕ} 0 1 = cc in omega arith
    go (Kiss2.twenty_one short good whole q i low is) = let z : ◌≡◌ {A = ℕ} 0 1 = cc in omega arith
    go (Kiss2.no_room g tight is) = omega (arith, tight, said_small (said_in s) (good_text_read s g) g.whole, long)
