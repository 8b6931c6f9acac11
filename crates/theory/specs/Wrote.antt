-- What a writer leaves: its bytes from a place on, and all others as they were; and laws of writing one thing after the other.
use Rattle.std.specs.Prelude.{ℕ, suc, ◌+◌, ◌≡◌, refl, List, [], ◌∷◌, ◌++◌, length, set}
use Rattle.std.proofs.Common.{arith, sym, ap, ◌∙◌, append_assoc, append-nil, length-append}
use Rattle.std.proofs.lemmas.List.Edits.{sets}
use Rattle.std.proofs.Math.Seq.{length-sets}

-- the bytes were written to `out` from the place `at` on, which left `left`, and `after` is the place after them
pub record Wrote (out : List ℕ) (at : ℕ) (bytes left : List ℕ) (after : ℕ) : Type 0 where
  pub place : after ≡ at + length bytes
  pub same : left ≡ sets out at bytes

-- a part of the bytes was written, and the rest is to follow
pub record Writing (out : List ℕ) (at : ℕ) (bytes left : List ℕ) (after : ℕ) (rest : List ℕ) : Type 0 where
  pub done : List ℕ
  pub split : done ++ rest ≡ bytes
  pub wrote : Wrote out at done left after

-- writes one behind the other are one write
pub sets_append : (l : List ℕ) (i : ℕ) (v w : List ℕ) → sets l i (v ++ w) ≡ sets (sets l i v) (i + length v) w
sets_append l i [] w = let same : i + 0 ≡ i = omega arith in rw same
sets_append l i (a ∷ v) w = let next : i + suc (length v) ≡ suc i + length v = omega arith in rw next (sets_append (set l i a) (suc i) v w)

-- Nothing, a byte, and one thing after the other.
pub wrote_none : (out : List ℕ) (at : ℕ) → Wrote out at [] out at
wrote_none out at = record { place = omega arith; same = refl }

pub wrote_byte : (out : List ℕ) (at v : ℕ) → Wrote out at (v ∷ []) (set out at v) (at + 1)
wrote_byte out at v = record { place = refl; same = refl }

module _ {out : List ℕ} {at : ℕ} {v left : List ℕ} {p : ℕ} (first : Wrote out at v left p) where
  pub wrote_then : {w last : List ℕ} {q : ℕ} → Wrote left p w last q → Wrote out at (v ++ w) last q
  wrote_then {w} next =
      record {
        place = next.place ∙ omega (arith, first.place, length-append v w);
        same = next.same ∙ rw (first.same, first.place, sets_append out at v w);
      }

  pub wrote_size : length left ≡ length out
  wrote_size = ap length first.same ∙ length-sets out at v

-- The same for bytes that are written part by part.
pub writing_start : (out : List ℕ) (at : ℕ) (bytes : List ℕ) → Writing out at bytes out at bytes
writing_start out at bytes = record { done = []; split = refl; wrote = wrote_none out at }

module _ (out : List ℕ) (at : ℕ) (bytes left : List ℕ) (p : ℕ) (rest : List ℕ) (so_far : Writing out at bytes left p rest) where
  pub writing_size : length left ≡ length out
  writing_size = wrote_size so_far.wrote

  pub writing_room : p + length rest ≡ at + length bytes
  writing_room = omega (arith, so_far.wrote.place, sym (length-append so_far.done rest) ∙ ap length so_far.split)

  pub writing_next : (v w last : List ℕ) (q : ℕ) → rest ≡ v ++ w → Wrote left p v last q → Writing out at bytes last q w
  writing_next v w last q is next =
      record {
        done = so_far.done ++ v;
        split = append_assoc so_far.done v w ∙ ap (λ (l : List ℕ). so_far.done ++ l) (sym is) ∙ so_far.split;
        wrote = wrote_then so_far.wrote next;
      }

  pub writing_end : rest ≡ [] → Wrote out at bytes left p
  writing_end is =
      let all : so_far.done ≡ bytes = sym (append-nil so_far.done) ∙ ap (λ (l : List ℕ). so_far.done ++ l) (sym is) ∙ so_far.split in
      rw all at so_far.wrote
