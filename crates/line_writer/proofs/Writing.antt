-- Laws of writing: one thing after the other, and a loop that writes one byte a turn.
use Prim.Native.Nat.{ℕ, zero, suc, ◌+◌, ◌≤◌, ◌<◌}
use native.Mathlib.Omega.{arith}
use native.Mathlib.Nat.{add-zero, add_assoc}
use native.Mathlib.Numerals.{add-one}
use mathlib.Core.Path.{◌≡◌, refl, sym, ◌∙◌, ap}
use mathlib.Core.List.{List, [], ◌∷◌, ◌++◌, append_assoc}
use lib.Seq.{paste, take_all}
use Rattle.std.proofs.Common.{append_assoc}
use lib.ListN.{length, get_or, take, drop, set, length-append, length-drop, length-set, take-append-drop, drop_of_length-le}
use lib.Seq.{drop-cons, length-take-le, take-suc-set, drop-set-lt, drop-drop, take_at, drop_at}
use Rattle.rules.specs.Words.{Word, Valid}
use Rattle.rules.specs.Line.{digit, hex}
use Rattle.line_writer.specs.Puts.{wrote, Puts}

pub wrote_nothing : (out : List ℕ) (p : ℕ) → wrote out p [] ≡ out
unfolding wrote
wrote_nothing out p = rw add-zero (take-append-drop p out)

-- the first byte, then the others
pub wrote_next : (out : List ℕ) (p a : ℕ) (w : List ℕ) → p < length out → wrote out p (a ∷ w) ≡ wrote (set out p a) (suc p) w
unfolding wrote
wrote_next out p a w less =
    let behind : p + suc (length w) ≡ suc p + length w = omega arith in
    let kept : drop (suc p + length w) (set out p a) ≡ drop (suc p + length w) out = drop-set-lt (suc p + length w) out p a (omega arith) in
    rw (behind, kept, take-suc-set out p a less, append_assoc)

pub wrote-length : (out : List ℕ) (p : ℕ) (w : List ℕ) → p + length w ≤ length out → length (wrote out p w) ≡ length out
unfolding wrote
wrote-length out p w room =
    let front : length (take p out) ≡ p = length-take-le p out (omega arith) in
    rw (length-append, length-append, length-drop, front) (omega arith)

-- writes one after the other are one write
wrote_both : (out : List ℕ) (p : ℕ) (v w : List ℕ) → p + length v ≤ length out → wrote (wrote out p v) (p + length v) w ≡ wrote out p (v ++ w)
unfolding wrote
wrote_both out p v w room =
    let front : List ℕ = take p out ++ v in
    let behind : List ℕ = drop (p + length v) out in
    let long : length front ≡ p + length v = rw (length-append, length-take-le p out (omega arith)) in
    let first : take (p + length v) (take p out ++ (v ++ behind)) ≡ front = rw (← (append_assoc (take p out) v behind)) (take_at front behind (p + length v) long) in
    let last : drop (p + length v + length w) (take p out ++ (v ++ behind)) ≡ drop (length w) behind =
    rw (← (append_assoc (take p out) v behind), ← (drop-drop (length w) (p + length v) (front ++ behind)), drop_at front behind (p + length v) long) in
    let rest : drop (length w) behind ≡ drop (p + length (v ++ w)) out = rw (drop-drop, length-append, add_assoc) in
    rw (first, last, rest, append_assoc (take p out) v, append_assoc v)

pub puts_then : {out left last : List ℕ} {p q r : ℕ} {v w : List ℕ} → Puts out p v left q → Puts left q w last r → Puts out p (v ++ w) last r
puts_then {out} {left} {last} {p} {q} {r} {v} {w} a b =
    let long : length left ≡ length out = rw a.bytes (wrote-length out p v a.room) in
    let both : length (v ++ w) ≡ length v + length w = length-append v w in
    record {
      after = omega (arith, a.after, b.after);
      room = omega (arith, a.after, b.room);
      bytes = b.bytes ∙ rw (a.bytes, a.after) (wrote_both out p v w a.room);
    }

-- a text that was copied
pub puts_text : (out w left : List ℕ) (p : ℕ) → p + length w ≤ length out → left ≡ paste out p w (length w) → Puts out p w left (p + length w)
unfolding wrote
puts_text out w left p room is =
    let whole : take (length w) w ≡ w = take_all (length w) w (omega arith) in
    record { after = refl; room = room; bytes = is ∙ rw (whole, append_assoc) refl }

pub puts_byte : (out : List ℕ) (p a : ℕ) → p < length out → Puts out p (a ∷ []) (set out p a) (p + 1)
puts_byte out p a less =
    record {
      after = omega arith;
      room = omega arith;
      bytes = sym (wrote_next out p a [] less ∙ wrote_nothing (set out p a) (suc p));
    }

-- Of the bytes w, to be written from p on, the first i stand in `out`, and the others complete it.
pub record Putting (w start : List ℕ) (p : ℕ) (out : List ℕ) (i : ℕ) : Type 0 where
  pub within : i ≤ length w
  pub room : p + length w ≤ length start
  pub size : length out ≡ length start
  pub whole : wrote out (p + i) (drop i w) ≡ wrote start p w

pub putting_start : (w start : List ℕ) (p : ℕ) → p + length w ≤ length start → Putting w start p start 0
putting_start w start p room = record { within = omega arith; room = room; size = refl; whole = rw (add-zero p) }

module _ (w start : List ℕ) (p : ℕ) (out : List ℕ) (i : ℕ) (so_far : Putting w start p out i) where
  pub putting_next : (a : ℕ) → i < length w → a ≡ get_or w i 0 → Putting w start p (set out (p + i) a) (i + 1)
  putting_next a less is =
      let inside : p + i < length out = omega (arith, so_far.size, so_far.room) in
      let next : p + (i + 1) ≡ suc (p + i) = omega arith in
      record {
        within = omega arith;
        room = so_far.room;
        size = simp length-set so_far.size;
        whole = rw (next, add-one i, is) (sym (wrote_next out (p + i) (get_or w i 0) (drop (suc i) w) inside) ∙ rw (← (drop-cons w i 0 less)) so_far.whole);
      }

  pub putting_end : length w ≤ i → (q : ℕ) → q ≡ p + length w → Puts start p w out q
  putting_end done q behind =
      record {
        after = omega (arith, so_far.within);
        room = so_far.room;
        bytes = sym (wrote_nothing out (p + i)) ∙ rw (← (drop_of_length-le w done)) so_far.whole;
      }

-- the digit of each input, and how many there are
pub hex-length : (w : Word) → length (hex w) ≡ length w
hex-length [] = refl
hex-length (a ∷ w) = ap suc (hex-length w)

pub hex_at : (w : Word) (i : ℕ) → i < length w → get_or (hex w) i 0 ≡ digit (get_or w i 0)
hex_at [] i less = absurd (omega arith)
hex_at (a ∷ w) zero less = refl
hex_at (a ∷ w) (suc i) less = hex_at w i (omega arith)

pub input_valid : (k : ℕ) (w : Word) (i : ℕ) → Valid k w → i < length w → get_or w i 0 < k
input_valid k [] i valid less = absurd (omega arith)
input_valid k (a ∷ w) zero valid less = valid.0
input_valid k (a ∷ w) (suc i) valid less = input_valid k w i valid.1 (omega arith)
