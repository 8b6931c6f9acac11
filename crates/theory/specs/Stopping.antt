-- Where readers stop. Of each reader it is shown that it can go on wherever it stopped: what stands before the byte or count that it stopped
-- at can be gone on with to something that it reads.
use Prim.Native.Nat.{ℕ, zero, suc, ◌+◌, ◌*◌, ◌≤◌, ◌<◌}
use Rattle.std.specs.Prelude.{◌≡◌, ◌⊎◌, Bool, true, eqb}
use Rattle.std.proofs.Math.Path.{refl}
use Rattle.std.proofs.Common.{sym, ap, ◌∙◌, subst, inl, inr, lt-ltb, le-leb, eq-eqb, length-append}
use mathlib.Core.List.{List, [], ◌∷◌, ◌++◌, append_assoc}
use Rattle.std.proofs.Math.Nat.{add-zero}
use Rattle.std.proofs.Math.Numerals.{add-one}
use native.Mathlib.Omega.{arith}
use Rattle.std.proofs.Math.Dec.{ltb, leb}
use Rattle.std.proofs.Math.ListN.{length}
use Rattle.rules.specs.declared.Fault.{Fault}
use Rattle.rules.specs.declared.Fault.TheVariants.{CutShort, BadTable, BadWord, Trailing}
use Rattle.rules.specs.Sizes.{most_test_word}
use Rattle.rules.specs.Files.{count_bytes, word_bytes}
use Rattle.rules.specs.Reading.{got, faulty, Reader, ◌>>=◌, done, byte, judged, count, many, word, words, output, entry, table, sheet_record, ending}
use Rattle.theory.specs.Sized.{Bytes}
use Rattle.theory.specs.Spelling.{bytes_nil, bytes_cons, bytes_append, bytes_count}
use Rattle.theory.specs.Readers.{Anything, Nothing, Seen, Takes, Reads, not_both, then-faulty, judged_bad, takes_then, reads_byte, reads_count, reads_many}
use Rattle.theory.specs.Sections.{reads_judged-byte, reads_judged-count, reads_word, reads_entry}
use Rattle.theory.specs.Texts.{Piece}

-- bytes can be added to w with which the reader takes it
pub record Going {A : Type 0} (After : List ℕ → Type 0) (read : Reader A) (w : List ℕ) : Type 0 where
  pub rest : List ℕ
  pub are_bytes : Bytes rest
  pub thing : A
  pub whole : Takes After read (w ++ rest) thing

-- `Of x fault` says that fault is the number of the section that the place x stands in.
module _ (Seam : ℕ → Type 0) (Of : ℕ → Fault → Type 0) where
  -- The byte or count `piece`, after `front`, was refused at once, whatever follows it: the front is a whole file already, or
  -- more was wanted and this is not what was wanted.
  pub record Refused {A : Type 0} (After : List ℕ → Type 0) (read : Reader A) (p : ℕ) (front back : List ℕ) (fault : Fault) (x : ℕ) : Type 0 where
    pub seen : Seen fault
    pub place : x ≡ p + length front
    pub piece : List ℕ
    pub left : List ℕ
    pub parts : back ≡ piece ++ left
    pub one : Piece Seam x (x + length piece)
    pub same : (t : List ℕ) → read p (front ++ (piece ++ t)) ≡ faulty fault x
    pub number : ((fault ≡ Trailing) × (a : A) × Takes After read front a) ⊎ (Of x fault × (read p front ≡ faulty CutShort x))

  -- the bytes ended before a byte or count did
  abbrev pub Ended : ℕ → List ℕ → List ℕ → Fault → Type 0
  Ended p l front fault = (fault ≡ CutShort) × ((x : ℕ) → p + length front < x → x ≤ p + length l → Seam x → ⊥)

  -- a reading from place p on that stopped after `front`
  pub record Stop {A : Type 0} (After : List ℕ → Type 0) (read : Reader A) (p : ℕ) (l : List ℕ) (fault : Fault) (x : ℕ) : Type 0 where
    pub front : List ℕ
    pub back : List ℕ
    pub parts : l ≡ front ++ back
    pub seam : Seam (p + length front)
    pub going : Going After read front
    pub why : Ended p l front fault ⊎ Refused After read p front back fault x

  -- every reading from place p on that stopped is of that kind, and some bytes are read
  pub record Exact {A : Type 0} (After : List ℕ → Type 0) (p : ℕ) (read : Reader A) : Type 0 where
    pub fills : Going After read []
    pub stops : (l : List ℕ) (fault : Fault) (x : ℕ) → read p l ≡ faulty fault x → Stop After read p l fault x

  exact_done : {A : Type 0} (p : ℕ) (a : A) → Exact Anything p (done a)
  exact_done p a =
      record {
        fills = record { rest = []; are_bytes = bytes_nil; thing = a; whole = λ t any q. rw add-zero };
        stops = λ l fault x e. absurd (not_both e);
      }

  pub exact_ending : {A : Type 0} (p : ℕ) (a : A) → Seam p → Seam (suc p) → Exact Nothing p (ending a)
  unfolding ending
  exact_ending {A} p a here there = record { fills = fills; stops = stops }
    where
      takes : Takes Nothing (ending a) [] a
      takes t none q = rw (none, add-zero q)

      fills : Going Nothing (ending a) []
      fills = record { rest = []; are_bytes = bytes_nil; thing = a; whole = takes }

      stops : (l : List ℕ) (fault : Fault) (x : ℕ) → ending a p l ≡ faulty fault x → Stop Nothing (ending a) p l fault x
      stops [] fault x e = absurd (not_both e)
      stops (b ∷ l) fault x e =
          let fault_is : Trailing ≡ fault = cc in
          let place_is : p ≡ x = cc in
          record {
            front = [];
            back = b ∷ l;
            parts = refl;
            seam = rw add-zero here;
            going = fills;
            why = inr (record {
              seen = rw (← fault_is) tt;
              place = omega arith;
              piece = b ∷ [];
              left = l;
              parts = refl;
              one = rw (← place_is, add-one) (record { here = here; there = there; some = omega arith; one = λ y more less seam. omega arith });
              same = λ t. e;
              number = inl (sym fault_is, a, takes);
            });
          }

  exact_byte : (p : ℕ) → Seam p → Exact Anything p byte
  unfolding byte
  exact_byte p here = record { fills = fills; stops = stops }
    where
      fills : Going Anything byte []
      fills = record { rest = 0 ∷ []; are_bytes = bytes_cons (omega arith) bytes_nil; thing = 0; whole = λ t any q. rw add-one }

      stops : (l : List ℕ) (fault : Fault) (x : ℕ) → byte p l ≡ faulty fault x → Stop Anything byte p l fault x
      stops [] fault x e = record { front = []; back = []; parts = refl; seam = rw add-zero here; going = fills; why = inl (cc, λ y more less seam. omega arith) }
      stops (b ∷ l) fault x e = absurd (not_both e)

  -- What the first step stops at the whole stops at, if the second step can go on with anything; and what the second one does.
  pub exact_then : {A B : Type 0} {After : List ℕ → Type 0} {read : Reader A} {next : A → Reader B} {RuleA : A → Type 0} {bytes_a : A → List ℕ} (p : ℕ)
      → Reads Anything read RuleA bytes_a → Exact Anything p read → ((a : A) → RuleA a → Exact After (p + length (bytes_a a)) (next a))
      → Exact After p (◌>>=◌ read next)
  exact_then {A} {B} {After} {read} {next} {RuleA} {bytes_a} p reads first second = record { fills = fills; stops = stops }
    where
      -- the second step goes on with whatever the first one takes
      on : (w : List ℕ) → Going Anything read w → Going After (◌>>=◌ read next) w
      on w g =
          let taken = reads.taken 0 ((w ++ g.rest) ++ []) g.thing (0 + length (w ++ g.rest)) [] (g.whole [] tt 0) in
          let more = (second g.thing taken.rule).fills in
          record {
            rest = g.rest ++ more.rest;
            are_bytes = bytes_append g.are_bytes more.are_bytes;
            thing = more.thing;
            whole = rw (← append_assoc w g.rest more.rest) (takes_then read next (w ++ g.rest) g.thing more.rest more.thing g.whole more.whole);
          }

      fills : Going After (◌>>=◌ read next) []
      fills = on [] first.fills

      -- what the first step takes whatever follows it does not refuse
      in_first : (l : List ℕ) (fault : Fault) (x : ℕ) → read p l ≡ faulty fault x → Stop After (◌>>=◌ read next) p l fault x
      in_first l fault x e =
          let s = first.stops l fault x e in
          record {
            front = s.front;
            back = s.back;
            parts = s.parts;
            seam = s.seam;
            going = on s.front s.going;
            why = elim s.why [
              | inl ended ↦ inl ended
              | inr r ↦ inr (record {
                seen = r.seen;
                place = r.place;
                piece = r.piece;
                left = r.left;
                parts = r.parts;
                one = r.one;
                same = λ t. rw (r.same t);
                number = elim r.number [
                  | inl (late, a, takes) ↦ absurd (not_both (sym (takes (r.piece ++ []) tt p) ∙ r.same []))
                  | inr (of, wants) ↦ inr (of, rw wants)
                ];
              })
            ];
          }

      -- what it took, w, stands before what the second step stopped at
      in_second : (w : List ℕ) (a : A) (r : List ℕ) (fault : Fault) (x : ℕ) → Takes Anything read w a → length w ≡ length (bytes_a a)
          → Stop After (next a) (p + length (bytes_a a)) r fault x → Stop After (◌>>=◌ read next) p (w ++ r) fault x
      in_second w a r fault x takes long s =
          let at : (t : List ℕ) → read p (w ++ t) ≡ got a (p + length (bytes_a a)) t = λ t. rw (takes t tt p, long) in
          let seam_is : p + length (w ++ s.front) ≡ p + length (bytes_a a) + length s.front = rw length-append (omega arith) in
          let whole_is : p + length (w ++ r) ≡ p + length (bytes_a a) + length r = rw length-append (omega arith) in
          record {
            front = w ++ s.front;
            back = s.back;
            parts = ap (λ v. w ++ v) s.parts ∙ sym (append_assoc w s.front s.back);
            seam = rw seam_is s.seam;
            going = record {
              rest = s.going.rest;
              are_bytes = s.going.are_bytes;
              thing = s.going.thing;
              whole = rw (append_assoc w s.front s.going.rest) (takes_then read next w a (s.front ++ s.going.rest) s.going.thing takes s.going.whole);
            };
            why = elim s.why [
              | inl (cut, none) ↦ inl (cut, λ z more less seam. none z (omega arith) (omega arith) seam)
              | inr t ↦ inr (record {
                seen = t.seen;
                place = t.place ∙ sym seam_is;
                piece = t.piece;
                left = t.left;
                parts = t.parts;
                one = t.one;
                same = λ u. rw (append_assoc w s.front (t.piece ++ u), at (s.front ++ (t.piece ++ u))) (t.same u);
                number = elim t.number [
                  | inl (late, b, takes') ↦ inl (late, b, takes_then read next w a s.front b takes takes')
                  | inr (of, wants) ↦ inr (of, rw (at s.front) wants)
                ];
              })
            ];
          }

      stops : (l : List ℕ) (fault : Fault) (x : ℕ) → ◌>>=◌ read next p l ≡ faulty fault x → Stop After (◌>>=◌ read next) p l fault x
      stops l fault x e =
          elim (then-faulty next (read p l) fault x e) [
            | inl same ↦ in_first l fault x same
            | inr (a, q, r, is, e₂) ↦
                let y = reads.taken p l a q r is in
                let place_is : q ≡ p + length (bytes_a a) = omega (arith, y.place, y.spells.0) in
                let s = (second a y.rule).stops r fault x (rw place_is at e₂) in
                subst (λ k. Stop After (◌>>=◌ read next) p k fault x) (sym y.parts) (in_second y.used a r fault x y.again y.spells.0 s)
          ]

  -- A byte or a count that is judged. `least` is good, so that there is something to go on with.
  exact_judged : (good : ℕ → Bool) (fault : Fault) (p least : ℕ) {read : Reader ℕ} {bytes : ℕ → List ℕ} → Reads Anything read (λ x. Unit {0}) bytes
      → Seen fault → Of p fault → Piece Seam p (p + length (bytes least)) → ((x : ℕ) → length (bytes x) ≡ length (bytes least))
      → ((l : List ℕ) (fault' : Fault) (x : ℕ) → read p l ≡ faulty fault' x → (fault' ≡ CutShort) × (length l < length (bytes least)))
      → read p [] ≡ faulty CutShort p → good least ≡ true → Bytes (bytes least) → Exact Anything p (judged good fault read)
  unfolding judged
  exact_judged good fault p least {read} {bytes} reads seen of piece long cut wants least_good are_bytes = record { fills = fills; stops = stops }
    where
      fills : Going Anything (judged good fault read) []
      fills = record { rest = bytes least; are_bytes = are_bytes; thing = least; whole = λ t any q. rw (reads.takes least tt t any q, least_good) }

      stops : (l : List ℕ) (fault' : Fault) (x : ℕ) → judged good fault read p l ≡ faulty fault' x → Stop Anything (judged good fault read) p l fault' x
      stops l fault' x e =
          record {
            front = [];
            back = l;
            parts = refl;
            seam = rw add-zero piece.here;
            going = fills;
            why = elim (then-faulty _ (read p l) fault' x e) [
              | inl same ↦ let (is_cut, less) = cut l fault' x same in inl (is_cut, λ y more up_to_lem seam. piece.one y (omega arith) (omega arith) seam)
              | inr (y, q, t, is, e₂) ↦
                  let (is_bad, fault_is, place_is) = judged_bad y q t fault p (good y) fault' x e₂ in
                  let z = reads.taken p l y q t is in
                  let size : length z.used ≡ length (bytes least) = z.spells.0 ∙ long y in
                  inr (record {
                    seen = rw (← fault_is) seen;
                    place = omega arith;
                    piece = z.used;
                    left = t;
                    parts = z.parts;
                    one = rw (← place_is, size) piece;
                    same = λ u. rw (z.again u tt p, is_bad) (cc);
                    number = inr (rw (← fault_is, ← place_is) of, rw (wants, place_is));
                  })
            ];
          }

  pub exact_judged-byte : (good : ℕ → Bool) (fault : Fault) (p least : ℕ) → Seen fault → Of p fault → Seam p → Seam (suc p) → good least ≡ true → least < 256
      → Exact Anything p (judged good fault byte)
  unfolding byte
  exact_judged-byte good fault p least seen of here there least_good small =
      exact_judged good fault p least reads_byte seen of piece (λ x. refl) cut refl least_good (bytes_cons small bytes_nil)
    where
      piece : Piece Seam p (p + 1)
      piece = rw add-one (record { here = here; there = there; some = omega arith; one = λ x more less seam. omega arith })

      cut : (l : List ℕ) (fault' : Fault) (x : ℕ) → byte p l ≡ faulty fault' x → (fault' ≡ CutShort) × (length l < 1)
      cut [] fault' x e = (cc, omega arith)
      cut (b ∷ l) fault' x e = absurd (not_both e)

  pub exact_judged-count : (good : ℕ → Bool) (fault : Fault) (p least : ℕ) → Seen fault → Of p fault → Piece Seam p (p + 2) → good least ≡ true → least < 65536
      → Exact Anything p (judged good fault count)
  unfolding count byte count_bytes
  exact_judged-count good fault p least seen of piece least_good small =
      exact_judged good fault p least reads_count seen of piece (λ x. refl) cut refl least_good (bytes_count least small)
    where
      cut : (l : List ℕ) (fault' : Fault) (x : ℕ) → count p l ≡ faulty fault' x → (fault' ≡ CutShort) × (length l < 2)
      cut [] fault' x e = (cc, omega arith)
      cut (low ∷ []) fault' x e = (cc, omega arith)
      cut (low ∷ high ∷ l) fault' x e = absurd (not_both e)

  -- From p on every byte is a piece of its own, and the number is that of the fault.
  abbrev pub From : ℕ → Fault → Type 0
  From p fault = (x : ℕ) → p ≤ x → Seam x × Of x fault

  pub from_later : {p : ℕ} {fault : Fault} (n : ℕ) → From p fault → From (p + n) fault
  from_later n from x later = from x (omega arith)

  -- a count that is not judged: any is taken, so it is as two bytes
  pub exact_count : (p : ℕ) {fault : Fault} → From p fault → Exact Anything p count
  unfolding count
  exact_count p from =
      exact_then p reads_byte (exact_byte p (from p (omega arith)).0)
      (λ low any. exact_then (p + 1) reads_byte (exact_byte (p + 1) (from (p + 1) (omega arith)).0) (λ high any. exact_done _ _))

  pub exact_many : {A : Type 0} {one : Reader A} {Rule : A → Type 0} {bytes : A → List ℕ} → Reads Anything one Rule bytes → {fault : Fault}
      → ((p : ℕ) → From p fault → Exact Anything p one) → (n p : ℕ) → From p fault → Exact Anything p (many one n)
  unfolding many
  exact_many reads each zero p from = exact_done p []
  exact_many {bytes = bytes} reads each (suc n) p from =
      exact_then p reads (each p from) (λ a rule.
      exact_then (p + length (bytes a)) (reads_many reads n) (exact_many reads each n (p + length (bytes a)) (from_later (length (bytes a)) from)) (λ more rule. exact_done _ _))

  module _ (k : ℕ) (some_input : 0 < k) where
    exact_input : (p : ℕ) → From p BadWord → Exact Anything p (judged (λ i. ltb i k) BadWord byte)
    exact_input p from =
        exact_judged-byte (λ i. ltb i k) BadWord p 0 tt (from p (omega arith)).1 (from p (omega arith)).0 (from (suc p) (omega arith)).0 (lt-ltb 0 k some_input) (omega arith)

    exact_word : (most p : ℕ) → From p BadWord → Exact Anything p (word k most)
    unfolding word
    exact_word most p from =
        exact_then p (reads_judged-byte (λ n. leb n most) BadWord tt)
        (exact_judged-byte (λ n. leb n most) BadWord p 0 tt (from p (omega arith)).1 (from p (omega arith)).0 (from (suc p) (omega arith)).0 (le-leb 0 most (omega arith)) (omega arith))
        (λ n short. exact_many (reads_judged-byte (λ i. ltb i k) BadWord tt) exact_input n (p + 1) (from_later 1 from))

    pub exact_words : (most p : ℕ) → From p BadWord → Exact Anything p (words k most)
    unfolding words count_bytes
    exact_words most p from =
        exact_then p reads_count (exact_count p from) (λ c any. exact_many (reads_word k most) (exact_word most) c (p + 2) (from_later 2 from))

    pub exact_record : (p : ℕ) → From p BadWord → Exact Anything p (sheet_record k)
    unfolding sheet_record output
    exact_record p from =
        exact_then p (reads_word k most_test_word) (exact_word most_test_word p from) (λ w sized.
        exact_then _ (reads_many reads_byte (length w))
        (exact_many reads_byte (λ q from'. exact_byte q (from' q (omega arith)).0) (length w) _ (from_later (length (word_bytes w)) from))
        (λ outputs rule. exact_done _ _))

  exact_entry : (n p : ℕ) → 0 < n → From p BadTable → Exact Anything p (entry n)
  unfolding entry output
  exact_entry n p some_state from =
      exact_then p (reads_judged-byte (λ q. ltb q n) BadTable tt)
      (exact_judged-byte (λ q. ltb q n) BadTable p 0 tt (from p (omega arith)).1 (from p (omega arith)).0 (from (suc p) (omega arith)).0 (lt-ltb 0 n some_state) (omega arith))
      (λ q small. exact_then (p + 1) reads_byte (exact_byte (p + 1) (from (p + 1) (omega arith)).0) (λ o any. exact_done _ _))

  pub exact_table : (k n p : ℕ) → 0 < n → n * k < 65536 → Piece Seam p (p + 2) → Of p BadTable → From (p + 2) BadTable → Exact Anything p (table k n)
  unfolding table count_bytes
  exact_table k n p some_state small piece of from =
      exact_then p (reads_judged-count (eqb (n * k)) BadTable tt)
      (exact_judged-count (eqb (n * k)) BadTable p (n * k) tt of piece (eq-eqb (n * k) (n * k) refl) small)
      (λ c is. exact_many (reads_entry n) (λ q from'. exact_entry n q some_state from') (n * k) (p + 2) from)
