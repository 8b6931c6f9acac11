-- Laws of readings of a file s from a place p on: what a reading was, where the program's step answered so of it.
use Rattle.std.proofs.Common.{Result, Ok, Err, ℕ, zero, suc, ◌+◌, ◌*◌, ◌-◌, ◌≤◌, ◌<◌, ◌≡◌, refl, sym, ap, ◌∙◌, List, ◌∷◌, arith, length, drop}
use Rattle.std.specs.Result.{IsErrAnd}
use Rattle.std.proofs.lemmas.Result.{err_from_is_err_and}
use native.Mathlib.Numerals.{add-one}
use lib.ListN.{get_or, drop_of_length-le}
use lib.Seq.{drop-cons, drop-drop, drop-append_seam}
use Rattle.rules.specs.declared.Fault.TheVariants.{CutShort}
use Rattle.rules.specs.Reading.{Got, got, faulty, Reader, then, byte, count, output, many}
use Rattle.theory.specs.Readers.{Reads, reads_byte}
use Rattle.reader_steps.specs.declared.Stop.{Stop}
use Rattle.reader_steps.specs.Steps.{stop, answered, step, stepping, number_read, onward, repeated}

-- the bytes that are left after a reading are the file's from the place after it on
abbrev pub Kept : {A : Type 0} → List ℕ → Got A → Type 0
Kept s (got a q l) = l ≡ drop q s
Kept s (faulty fault q) = Unit {0}

abbrev pub Keeps : {A : Type 0} → List ℕ → Reader A → Type 0
Keeps s read = (p : ℕ) → Kept s (read p (drop p s))

-- whatever reads bytes from the front keeps to the file
pub keeps : {A : Type 0} {After : List ℕ → Type 0} {read : Reader A} {Rule : A → Type 0} {bytes : A → List ℕ} → Reads After read Rule bytes → (s : List ℕ) → Keeps s read
keeps {A} {After} {read} {Rule} {bytes} reads s p = go (read p (drop p s)) refl
  where
    go : (x : Got A) → read p (drop p s) ≡ x → Kept s x
    go (faulty fault q) is = tt
    go (got a q t) is =
        let y = reads.taken p (drop p s) a q t is in
        let left : drop (length y.used) (drop p s) ≡ t = ap (λ l. drop (length y.used) l) y.parts ∙ drop-append_seam y.used t in
        sym left ∙ drop-drop (length y.used) p s ∙ ap (λ n. drop n s) (sym y.place)

pub then_kept : {A B : Type 0} (s : List ℕ) (x : Got A) (next : A → Reader B) → Kept s x → ((a : A) (q : ℕ) → Kept s (next a q (drop q s))) → Kept s (then x next)
then_kept s (got a q l) next kept each = rw kept (each a q)
then_kept s (faulty fault q) next kept each = tt

pub kept_output : (s : List ℕ) → Keeps s output
unfolding output
kept_output s p = keeps reads_byte s p

-- What a reading was, by the answer that a step gave of it.
pub was_faulty : {A B : Type 0} (seen : A → ℕ → B) (x : Got A) (e : Stop) → Err e ≡ answered seen x → x ≡ faulty e.fault e.place
was_faulty seen (got a q l) e is = cc
was_faulty seen (faulty f q) e is = let same : e ≡ stop f q = cc in rw same

-- where a step stopped `?` passes on why
pub passed_on : {A B D : Type 0} (seen : A → ℕ → B) (seen' : A → ℕ → D) (x : Got A) (r : Result D Stop) (e : Stop) → IsErrAnd r (λ y. y ≡ e) → Err e ≡ answered seen x → r ≡ answered seen' x
passed_on seen seen' x r e passed is =
    let p = err_from_is_err_and r passed in
    rw (p.1, p.2, was_faulty seen x e is)

-- and a reading ends where its first step stopped
pub cut_in : {A B C D : Type 0} (seen : A → ℕ → B) (seen' : C → ℕ → D) (x : Got A) (next : A → Reader C) (e : Stop) → Err e ≡ answered seen x → Err e ≡ answered seen' (then x next)
cut_in seen seen' x next e is = rw (was_faulty seen x e is)

pub cut : {A B C D : Type 0} (seen : A → ℕ → B) (seen' : C → ℕ → D) (x : Got A) (next : A → Reader C) (r : Result D Stop) (e : Stop) → IsErrAnd r (λ y. y ≡ e) → Err e ≡ answered seen x
    → r ≡ answered seen' (then x next)
cut seen seen' x next r e passed is =
    let p = err_from_is_err_and r passed in
    rw (p.1, p.2) (cut_in seen seen' x next e is)

pub was_got : {A B : Type 0} (seen : A → ℕ → B) (s : List ℕ) (x : Got A) (b : B) → Kept s x → Ok b ≡ answered seen x → (a : A) × (q : ℕ) × (b ≡ seen a q) × (x ≡ got a q (drop q s))
was_got seen s (got a q l) b kept is = (a, q, cc, rw kept)
was_got seen s (faulty f q) b kept is = cc

pub was_number : (s : List ℕ) (x : Got ℕ) (b q : ℕ) → Kept s x → Ok (b, q) ≡ number_read x → x ≡ got b q (drop q s)
was_number s (got a p l) b q kept is =
    let both : ◌≡◌ {A = ℕ × ℕ} (b, q) (a, p) = cc in
    let value : b ≡ a = ap (λ z. z.0) both in
    let place : q ≡ p = ap (λ z. z.1) both in
    rw (kept, value, place)
was_number s (faulty f p) b q kept is = cc

-- where it ended, and no more
pub ended : (x : Got ℕ) (b q : ℕ) → Ok (b, q) ≡ number_read x → Ok q ≡ step x
ended (got a p l) b q is =
    let both : ◌≡◌ {A = ℕ × ℕ} (b, q) (a, p) = cc in
    ap (λ z. Ok z.1) both
ended (faulty f p) b q is = cc

pub was_read : {A : Type 0} (s : List ℕ) (x : Got A) (q : ℕ) → Kept s x → Ok q ≡ step x → (a : A) × (x ≡ got a q (drop q s))
was_read s (got a p l) q kept is = let place : q ≡ p = cc in (a, rw (kept, place))
was_read s (faulty f p) q kept is = cc

-- a byte at a place
module _ (s : List ℕ) (p : ℕ) where
  pub byte_here : p < length s → byte p (drop p s) ≡ got (get_or s p 0) (p + 1) (drop (p + 1) s)
  unfolding byte
  byte_here there = rw (drop-cons s p 0 there, add-one)

  pub byte_none : length s ≤ p → byte p (drop p s) ≡ faulty CutShort p
  unfolding byte
  byte_none none = rw (drop_of_length-le s none)

  -- what was answered of it
  pub the_byte : (b q : ℕ) → Ok (b, q) ≡ number_read (byte p (drop p s)) → byte p (drop p s) ≡ got b q (drop q s)
  the_byte b q is = was_number s (byte p (drop p s)) b q (keeps reads_byte s p) is

  -- a count is its two bytes, low byte first
  pub count_read_lem : (low q high q' : ℕ) → Ok (low, q) ≡ number_read (byte p (drop p s)) → Ok (high, q') ≡ number_read (byte q (drop q s)) → Ok (low + 256 * high, q') ≡ number_read (count p (drop p s))
  unfolding count
  count_read_lem low q high q' is is' = rw (the_byte low q is, was_number s (byte q (drop q s)) high q' (keeps reads_byte s q) is')

-- n steps, each the step of the same reading, are the step of n readings
module _ {A : Type 0} (one : Reader A) (s : List ℕ) (keep : Keeps s one) where
  step-more : (a : A) (x : Got (List A)) → step (then x (λ more. λ q t. got (a ∷ more) q t)) ≡ step x
  step-more a (got l p t) = refl
  step-more a (faulty fault p) = refl

  many_more : (n : ℕ) (x : Got A) → Kept s x → ((q : ℕ) → repeated (stepping one s) n q ≡ step (many one n q (drop q s)))
      → onward (repeated (stepping one s) n) (step x) ≡ step (then x (λ a. λ q t. then (many one n q t) (λ more. λ q' t'. got (a ∷ more) q' t')))
  many_more n (faulty fault q) kept rest = refl
  many_more n (got a q l) kept rest = rw kept (rest q ∙ sym (step-more a (many one n q (drop q s))))

  pub repeated_many : (n p : ℕ) → repeated (stepping one s) n p ≡ step (many one n p (drop p s))
  unfolding many
  repeated_many zero p = refl
  repeated_many (suc n) p = many_more n (one p (drop p s)) (keep p) (λ q. repeated_many n q)

-- A loop over n steps: its turn i.
module _ (next : ℕ → Result ℕ Stop) (n : ℕ) where
  pub repeated_all : (p : ℕ) → repeated next n p ≡ repeated next (n - 0) p
  repeated_all p = let all : n - 0 ≡ n = omega arith in rw all

  pub repeated_on : (i p q : ℕ) → i < n → Ok q ≡ next p → repeated next (n - i) p ≡ repeated next (n - (i + 1)) q
  repeated_on i p q more is = let left : n - i ≡ suc (n - (i + 1)) = omega arith in rw (left, ← is)

  pub repeated_stopped : (i p : ℕ) (r : Result ℕ Stop) (e : Stop) → i < n → IsErrAnd r (λ y. y ≡ e) → Err e ≡ next p → r ≡ repeated next (n - i) p
  repeated_stopped i p r e more passed is =
      let left : n - i ≡ suc (n - (i + 1)) = omega arith in
      let y = err_from_is_err_and r passed in
      rw (y.1, y.2, left, ← is)

  pub repeated_done : (i p : ℕ) → n ≤ i → Ok p ≡ repeated next (n - i) p
  repeated_done i p done = let left : n - i ≡ 0 = omega arith in rw left
