-- Laws of readers, each stated once over any reader: what it takes bytes for, that it looks at no byte behind those, and where its
-- faults are.
use Prim.Native.Nat.{ℕ, zero, suc, ◌+◌, ◌*◌, ◌/◌, ◌%◌, ◌≤◌, ◌<◌}
use Rattle.std.specs.Prelude.{◌≡◌, refl, ◌⊎◌, Bool, false, cond, length}
use Rattle.std.proofs.Common.{sym, ◌∙◌, add_assoc, add-one, length-append}
use Rattle.std.proofs.Math.Path.{ap, subst}
use Rattle.std.proofs.Math.Logic.{inl, inr}
use mathlib.Core.List.Memᴰ
use mathlib.Core.List.{List, [], ◌∷◌, ◌++◌, tail, flat_map, append-nil, append_assoc}
use Rattle.std.proofs.Math.Bool.{true}
use Rattle.std.proofs.Math.Nat.{add-zero}
use Rattle.std.proofs.Math.Numerals.{add-two}
use native.Mathlib.Omega.{arith}
use Rattle.rules.specs.declared.Fault.{Fault}
use Rattle.rules.specs.declared.Fault.TheVariants.{TooLong, CutShort, BadNumbers, BadTable, BadWord, Trailing}
use Rattle.rules.specs.Lists.{◌∈◌}
use Rattle.rules.specs.Files.{count_bytes}
use Rattle.rules.specs.Reading.{Got, got, faulty, Reader, then, ◌>>=◌, done, byte, judged, count, many, ending}
use Rattle.theory.specs.Spelling.{Spells, spells_same, spells_append, spells_count}

-- What may follow the bytes that a reader takes: anything, or nothing where the file has to end.
abbrev pub Anything : List ℕ → Type 0
Anything t = Unit {0}

abbrev pub Nothing : List ℕ → Type 0
Nothing t = t ≡ []

-- the faults that are seen by looking at a byte that is there: 3 to 6
abbrev pub Seen : Fault → Type 0
Seen TooLong = ⊥
Seen CutShort = ⊥
Seen BadNumbers = Unit {0}
Seen BadTable = Unit {0}
Seen BadWord = Unit {0}
Seen Trailing = Unit {0}

module _ {A : Type 0} where
  -- the reader takes the bytes w for a, at whatever place they stand and whatever follows that may follow
  abbrev pub Takes : (List ℕ → Type 0) → Reader A → List ℕ → A → Type 0
  Takes After read w a = (t : List ℕ) → After t → (p : ℕ) → read p (w ++ t) ≡ got a (p + length w) t

  -- a reading from place p on that went well: what was read keeps the rule, and stood there as its bytes
  pub record Taken (After : List ℕ → Type 0) (read : Reader A) (Rule : A → Type 0) (bytes : A → List ℕ)
      (p : ℕ) (l : List ℕ) (a : A) (q : ℕ) (t : List ℕ) : Type 0 where
    pub rule : Rule a
    pub used : List ℕ
    pub parts : l ≡ used ++ t
    pub place : q ≡ p + length used
    pub spells : Spells used (bytes a)
    pub again : Takes After read used a
    pub after : After t

  -- A fault at place x that was seen as soon as the bytes `looked` were read. They end with the byte or the count at x.
  pub record SeenIn (read : Reader A) (p : ℕ) (l : List ℕ) (fault : Fault) (x : ℕ) : Type 0 where
    pub seen : Seen fault
    pub looked : List ℕ
    pub rest : List ℕ
    pub parts : l ≡ looked ++ rest
    pub before : x < p + length looked
    pub near : p + length looked ≤ x + 2
    pub same : (t : List ℕ) → read p (looked ++ t) ≡ faulty fault x

  -- a reading that met a fault: the bytes ended, or the fault was seen
  abbrev pub Met : Reader A → ℕ → List ℕ → Fault → ℕ → Type 0
  Met read p l fault x = ((fault ≡ CutShort) × (x ≡ p + length l)) ⊎ SeenIn read p l fault x

  -- every reading that went well is of that kind
  abbrev pub AllTaken : (List ℕ → Type 0) → Reader A → (A → Type 0) → (A → List ℕ) → Type 0
  AllTaken After read Rule bytes =
      (p : ℕ) (l : List ℕ) (a : A) (q : ℕ) (t : List ℕ) → read p l ≡ got a q t → Taken After read Rule bytes p l a q t

  -- every reading that did not is of that kind
  abbrev pub AllMet : Reader A → Type 0
  AllMet read = (p : ℕ) (l : List ℕ) (fault : Fault) (x : ℕ) → read p l ≡ faulty fault x → Met read p l fault x

  -- What a reader reads: all that keeps the rule, from its bytes, and nothing else. Its faults are met where they are.
  pub record Reads (After : List ℕ → Type 0) (read : Reader A) (Rule : A → Type 0) (bytes : A → List ℕ) : Type 0 where
    pub takes : (a : A) → Rule a → Takes After read (bytes a) a
    pub taken : AllTaken After read Rule bytes
    pub met : AllMet read

pub not_both : {A : Type 0} {a : A} {q : ℕ} {t : List ℕ} {fault : Fault} {x : ℕ} → got a q t ≡ faulty fault x → ⊥
not_both e = let z : ◌≡◌ {A = ℕ} 0 1 = cc in omega arith

-- what a reading in two steps was made of, if it went well and if it met a fault
module _ {A B : Type 0} (next : A → Reader B) where
  then-got : (y : Got A) (b : B) (q : ℕ) (t : List ℕ) → then y next ≡ got b q t
      → (a : A) × (q' : ℕ) × (r : List ℕ) × (y ≡ got a q' r) × (next a q' r ≡ got b q t)
  then-got (got a q' r) b q t e = (a, q', r, refl, e)
  then-got (faulty fault x) b q t e = absurd (not_both (sym e))

  pub then-faulty : (y : Got A) (fault : Fault) (x : ℕ) → then y next ≡ faulty fault x
      → (y ≡ faulty fault x) ⊎ ((a : A) × (q : ℕ) × (r : List ℕ) × (y ≡ got a q r) × (next a q r ≡ faulty fault x))
  then-faulty (got a q r) fault x e = inr (a, q, r, refl, e)
  then-faulty (faulty fault' x') fault x e = inl cc

-- what was judged, if it was found good and if it was found bad
module _ (y q : ℕ) (t : List ℕ) (fault : Fault) (p : ℕ) where
  judged-good : (b : Bool) (x q' : ℕ) (t' : List ℕ) → cond b (got y q t) (faulty fault p) ≡ got x q' t'
      → (b ≡ true) × (got y q t ≡ got x q' t')
  judged-good true x q' t' e = (refl, e)
  judged-good false x q' t' e = absurd (not_both (sym e))

  pub judged_bad : (b : Bool) (fault' : Fault) (x : ℕ) → cond b (got y q t) (faulty fault p) ≡ faulty fault' x
      → (b ≡ false) × (fault ≡ fault') × (p ≡ x)
  judged_bad true fault' x e = absurd (not_both e)
  judged_bad false fault' x e = (refl, cc, cc)

-- a byte is taken, whatever it is
pub reads_byte : Reads Anything byte (λ b. Unit {0}) (λ b. b ∷ [])
unfolding byte
reads_byte = record { takes = λ b rule. takes b; taken = taken; met = met }
  where
    takes : (b : ℕ) → Takes Anything byte (b ∷ []) b
    takes b t any p = rw add-one

    taken : AllTaken Anything byte (λ b. Unit {0}) (λ b. b ∷ [])
    taken p [] b q t e = absurd (not_both (sym e))
    taken p (c ∷ l) b q t e =
        record {
          rule = tt;
          used = b ∷ [];
          parts = cc;
          place = cc (add-one p);
          spells = spells_same (b ∷ []);
          again = takes b;
          after = tt;
        }

    met : AllMet byte
    met p [] fault x e = inl (cc, cc (add-zero p))
    met p (c ∷ l) fault x e = absurd (not_both e)

-- a count is taken, whatever it is
pub reads_count : Reads Anything count (λ c. Unit {0}) (λ c. count_bytes c)
unfolding count byte count_bytes
reads_count = record { takes = takes; taken = taken; met = met }
  where
    takes : (c : ℕ) → Unit {0} → Takes Anything count (count_bytes c) c
    takes c rule t any p = let whole : c % 256 + 256 * (c / 256) ≡ c = omega arith in rw (whole, add-two)

    taken : AllTaken Anything count (λ c. Unit {0}) (λ c. count_bytes c)
    taken p [] c q t e = absurd (not_both (sym e))
    taken p (low ∷ []) c q t e = absurd (not_both (sym e))
    taken p (low ∷ high ∷ l) c q t e =
        let is : low + 256 * high ≡ c = cc in
        record {
          rule = tt;
          used = low ∷ high ∷ [];
          parts = cc;
          place = cc (add-two p);
          spells = rw (← is) (spells_count low high);
          again = λ u any p'. rw (is, add-two);
          after = tt;
        }

    met : AllMet count
    met p [] fault x e = inl (cc, cc (add-zero p))
    met p (low ∷ []) fault x e = inl (cc, cc (add-one p))
    met p (low ∷ high ∷ l) fault x e = absurd (not_both e)

module _ {A : Type 0} (a : A) where
  -- what is handed on takes no byte
  pub reads_done : Reads Anything (done a) (λ b. b ≡ a) (λ b. [])
  reads_done =
      record {
        takes = λ b is t any p. rw (is, add-zero p);
        taken = λ p l b q t e. record {
          rule = cc;
          used = [];
          parts = cc;
          place = cc (add-zero p);
          spells = spells_same [];
          again = λ u any p'. cc (add-zero p');
          after = tt;
        };
        met = λ p l fault x e. absurd (not_both e);
      }

  -- the end of a file is taken where nothing is left, and seen not to be there at the first byte that is left
  pub reads_ending : Reads Nothing (ending a) (λ b. b ≡ a) (λ b. [])
  unfolding ending
  reads_ending = record { takes = takes; taken = taken; met = met }
    where
      takes : (b : A) → b ≡ a → Takes Nothing (ending a) [] b
      takes b is t none p = rw (none, is, add-zero p)

      taken : AllTaken Nothing (ending a) (λ b. b ≡ a) (λ b. [])
      taken p [] b q t e =
          let is : b ≡ a = cc in
          record {
            rule = is;
            used = [];
            parts = cc;
            place = cc (add-zero p);
            spells = spells_same [];
            again = takes b is;
            after = cc;
          }
      taken p (c ∷ l) b q t e = absurd (not_both (sym e))

      met : AllMet (ending a)
      met p [] fault x e = absurd (not_both e)
      met p (c ∷ l) fault x e =
          let fault_is : Trailing ≡ fault = cc in
          let place_is : p ≡ x = cc in
          inr (record {
            seen = rw (← fault_is) tt;
            looked = c ∷ [];
            rest = l;
            parts = refl;
            before = omega arith;
            near = omega arith;
            same = λ t. e;
          })

-- a fault that a first step met is met by the whole
met_first : {A B : Type 0} (read : Reader A) (whole : Reader B) (p : ℕ) (l : List ℕ) (fault : Fault) (x : ℕ)
    → ((k : List ℕ) → read p k ≡ faulty fault x → whole p k ≡ faulty fault x) → Met read p l fault x → Met whole p l fault x
met_first read whole p l fault x on (inl cut) = inl cut
met_first read whole p l fault x on (inr s) =
    inr (record {
      seen = s.seen;
      looked = s.looked;
      rest = s.rest;
      parts = s.parts;
      before = s.before;
      near = s.near;
      same = λ t. on (s.looked ++ t) (s.same t);
    })

-- what the first step takes, and then the second, is taken by the whole
pub takes_then : {A B : Type 0} {After : List ℕ → Type 0} (read : Reader A) (next : A → Reader B) (w : List ℕ) (a : A) (v : List ℕ) (b : B)
    → Takes Anything read w a → Takes After (next a) v b → Takes After (◌>>=◌ read next) (w ++ v) b
takes_then read next w a v b takes takes' t after p =
    rw (append_assoc w v t, takes (v ++ t) tt p, length-append w v, ← (add_assoc p (length w) (length v))) (takes' t after (p + length w))

-- Two steps: the second reader goes on from what the first one read. `apart` and `together` say how the rule and the bytes of what the
-- whole reads come from those of the steps.
module _ {A B : Type 0} {After : List ℕ → Type 0} {read : Reader A} {next : A → Reader B}
    {RuleA : A → Type 0} {RuleB : A → B → Type 0} {bytes_a : A → List ℕ} {bytes_b : B → List ℕ}
    (first : Reads Anything read RuleA bytes_a) (second : (a : A) → Reads After (next a) (RuleB a) bytes_b) where
  met_then : AllMet (◌>>=◌ read next)
  met_then p l fault x e =
      elim (then-faulty next (read p l) fault x e) [
        | inl same ↦ met_first read (◌>>=◌ read next) p l fault x (λ k h. rw h) (first.met p l fault x same)
        | inr (a, q, r, is, e₂) ↦
            let y = first.taken p l a q r is in
            elim ((second a).met q r fault x e₂) [
              | inl (cut, end) ↦ inl (cut, rw (y.parts, length-append y.used r) (omega (arith, y.place)))
              | inr s ↦ inr (record {
                seen = s.seen;
                looked = y.used ++ s.looked;
                rest = s.rest;
                parts = y.parts ∙ ap (λ v. y.used ++ v) s.parts ∙ sym (append_assoc y.used s.looked s.rest);
                before = rw length-append (omega (arith, y.place, s.before));
                near = rw length-append (omega (arith, y.place, s.near));
                same = λ t. rw (append_assoc y.used s.looked t, y.again (s.looked ++ t) tt p, ← y.place) (s.same t);
              })
            ]
      ]

  module _ (Rule : B → Type 0) (bytes : B → List ℕ)
      (apart : (b : B) → Rule b → (a : A) × RuleA a × RuleB a b × (bytes b ≡ bytes_a a ++ bytes_b b))
      (together : (a : A) (b : B) → RuleA a → RuleB a b → Rule b × (bytes b ≡ bytes_a a ++ bytes_b b)) where
    taken_then : AllTaken After (◌>>=◌ read next) Rule bytes
    taken_then p l b q t e =
        let (a, q', r, is, e₂) = then-got next (read p l) b q t e in
        let y = first.taken p l a q' r is in
        let z = (second a).taken q' r b q t e₂ in
        let (rule, bytes_are) = together a b y.rule z.rule in
        record {
          rule = rule;
          used = y.used ++ z.used;
          parts = y.parts ∙ ap (λ v. y.used ++ v) z.parts ∙ sym (append_assoc y.used z.used t);
          place = rw length-append (omega (arith, y.place, z.place));
          spells = rw bytes_are (spells_append y.used (bytes_a a) z.used (bytes_b b) y.spells z.spells);
          again = takes_then read next y.used a z.used b y.again z.again;
          after = z.after;
        }

    pub reads_steps : Reads After (◌>>=◌ read next) Rule bytes
    reads_steps = record { takes = takes; taken = taken_then; met = met_then }
      where
        takes : (b : B) → Rule b → Takes After (◌>>=◌ read next) (bytes b) b
        takes b rule =
            let (a, rule_a, rule_b, bytes_are) = apart b rule in
            rw bytes_are (takes_then read next (bytes_a a) a (bytes_b b) b (first.takes a rule_a) ((second a).takes b rule_b))

-- The same where what the whole read tells by itself what the first step read.
pub reads_then : {A B : Type 0} {After : List ℕ → Type 0} {read : Reader A} {next : A → Reader B}
    {RuleA : A → Type 0} {RuleB : A → B → Type 0} {bytes_a : A → List ℕ} {bytes_b : B → List ℕ}
    (first : Reads Anything read RuleA bytes_a) (first_of : B → A) (tells : (a : A) (b : B) → RuleA a → RuleB a b → first_of b ≡ a)
    (second : (a : A) → Reads After (next a) (RuleB a) bytes_b)
    → Reads After (◌>>=◌ read next) (λ b. RuleA (first_of b) × RuleB (first_of b) b) (λ b. bytes_a (first_of b) ++ bytes_b b)
reads_then {RuleA = RuleA} {RuleB = RuleB} {bytes_a = bytes_a} {bytes_b = bytes_b} first first_of tells second =
    reads_steps first second (λ b. RuleA (first_of b) × RuleB (first_of b) b) (λ b. bytes_a (first_of b) ++ bytes_b b)
    (λ b (rule_a, rule_b). (first_of b, rule_a, rule_b, refl)) (λ a b rule_a rule_b. rw (tells a b rule_a rule_b) ((rule_a, rule_b), refl))

-- a byte or a count that is judged
module _ (good : ℕ → Bool) (fault : Fault) {read : Reader ℕ} {bytes : ℕ → List ℕ} (reads : Reads Anything read (λ x. Unit {0}) bytes)
    (seen : Seen fault) (short : (x : ℕ) → (0 < length (bytes x)) × (length (bytes x) ≤ 2)) where
  pub reads_judged : Reads Anything (judged good fault read) (λ x. good x ≡ true) bytes
  unfolding judged
  reads_judged = record { takes = λ x is. takes (bytes x) x is (reads.takes x tt); taken = taken; met = met }
    where
      takes : (w : List ℕ) (x : ℕ) → good x ≡ true → Takes Anything read w x → Takes Anything (judged good fault read) w x
      takes w x is takes_x t any p = rw (takes_x t any p, is)

      taken : AllTaken Anything (judged good fault read) (λ x. good x ≡ true) bytes
      taken p l x q t e =
          let (y, q', t', is, e₂) = then-got _ (read p l) x q t e in
          let (is_good, same) = judged-good y q' t' fault p (good y) x q t e₂ in
          let passes : good x ≡ true = cc in
          let z = reads.taken p l x q t (is ∙ same) in
          record {
            rule = passes;
            used = z.used;
            parts = z.parts;
            place = z.place;
            spells = z.spells;
            again = takes z.used x passes z.again;
            after = tt;
          }

      met : AllMet (judged good fault read)
      met p l fault' x e =
          elim (then-faulty _ (read p l) fault' x e) [
            | inl same ↦ met_first read (judged good fault read) p l fault' x (λ k h. rw h) (reads.met p l fault' x same)
            | inr (y, q, t, is, e₂) ↦
                let (is_bad, fault_is, place_is) = judged_bad y q t fault p (good y) fault' x e₂ in
                let z = reads.taken p l y q t is in
                let (some, few) = short y in
                inr (record {
                  seen = rw (← fault_is) seen;
                  looked = z.used;
                  rest = t;
                  parts = z.parts;
                  before = omega (arith, z.spells.0);
                  near = omega (arith, z.spells.0);
                  same = λ u. rw (z.again u tt p, is_bad) (cc);
                })
          ]

-- the same reader under another wording of its rule and its bytes
reads_as : {A : Type 0} {After : List ℕ → Type 0} {read : Reader A} {Rule Rule' : A → Type 0} {bytes bytes' : A → List ℕ}
    → Reads After read Rule bytes → ((a : A) → Rule' a → Rule a × (bytes' a ≡ bytes a))
    → ((a : A) → Rule a → Rule' a × (bytes' a ≡ bytes a)) → Reads After read Rule' bytes'
reads_as {A} {After} {read} {Rule} {Rule'} {bytes} {bytes'} reads from to = record { takes = takes; taken = taken; met = reads.met }
  where
    takes : (a : A) → Rule' a → Takes After read (bytes' a) a
    takes a rule = let (rule', same) = from a rule in rw same (reads.takes a rule')

    taken : AllTaken After read Rule' bytes'
    taken p l a q t e =
        let y = reads.taken p l a q t e in
        let (rule, same) = to a y.rule in
        record {
          rule = rule;
          used = y.used;
          parts = y.parts;
          place = y.place;
          spells = rw same y.spells;
          again = y.again;
          after = y.after;
        }

-- n things, each of which keeps the rule
abbrev pub Listed : {A : Type 0} → (A → Type 0) → ℕ → List A → Type 0
Listed {A} Rule n l = (length l ≡ n) × ((a : A) → a ∈ l → Rule a)

no_length : {A : Type 0} (l : List A) → length l ≡ 0 → l ≡ []
no_length [] long = refl
no_length (a ∷ l) long = absurd (omega arith)

-- one thing more, taken off and put on
module _ {A : Type 0} (Rule : A → Type 0) (bytes : A → List ℕ) where
  listed_apart : (n : ℕ) (l : List A) → Listed Rule (suc n) l
      → (a : A) × Rule a × (Listed Rule n (tail l) × (l ≡ a ∷ tail l)) × (flat_map bytes l ≡ bytes a ++ (flat_map bytes (tail l) ++ []))
  unfolding flat_map
  listed_apart n [] (long, rule) = absurd (omega arith)
  listed_apart n (a ∷ l) (long, rule) =
      (a, rule a (Memᴰ.head refl), ((omega arith, λ b m. rule b (Memᴰ.tail m)), refl), rw append-nil)

  listed_together : (n : ℕ) (a : A) (l : List A) → Rule a → Listed Rule n (tail l) × (l ≡ a ∷ tail l)
      → Listed Rule (suc n) l × (flat_map bytes l ≡ bytes a ++ (flat_map bytes (tail l) ++ []))
  unfolding flat_map
  listed_together n a l rule ((long, rules), is) =
      subst (λ k. Listed Rule (suc n) k × (flat_map bytes k ≡ bytes a ++ (flat_map bytes (tail l) ++ []))) (sym is)
      ((ap suc long, λ b m. elim (Memᴰ.cases_cons m) [ inl here ↦ rw here rule | inr later ↦ rules b later ]), rw append-nil)

-- n readings, one after the other, read n things
module _ {A : Type 0} {one : Reader A} {Rule : A → Type 0} {bytes : A → List ℕ} (reads : Reads Anything one Rule bytes) where
  pub reads_many : (n : ℕ) → Reads Anything (many one n) (Listed Rule n) (λ l. flat_map bytes l)
  unfolding many flat_map
  reads_many zero =
      reads_as (reads_done []) (λ l (long, rule). let none = no_length l long in (none, rw none))
      (λ l none. rw none ((refl, λ a m. absurd (Memᴰ.not-nil m)), refl))
  reads_many (suc n) =
      reads_steps reads (λ a. reads_then (reads_many n) tail (λ more l rule is. ap tail is) (λ more. reads_done (a ∷ more)))
      (Listed Rule (suc n)) (λ l. flat_map bytes l) (listed_apart Rule bytes n) (listed_together Rule bytes n)
