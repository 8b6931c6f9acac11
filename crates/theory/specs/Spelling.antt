-- Laws of lists of bytes, and of lists of numbers that are the bytes of something wherever they are bytes at all.
use Rattle.std.specs.Prelude.{ℕ, ◌+◌, ◌*◌, ◌/◌, ◌%◌, ◌≤◌, ◌<◌, ◌≡◌, refl, length}
use mathlib.Core.List.Memᴰ
use mathlib.Core.List.{List, [], ◌∷◌, ◌++◌, flat_map}
use Rattle.std.proofs.Common.{⊎_elim, arith, length-append}
use Rattle.rules.specs.Lists.{◌∈◌}
use Rattle.rules.specs.Files.{count_bytes}
use Rattle.theory.specs.Sized.{Bytes}

pub bytes_nil : Bytes []
bytes_nil b m = absurd (Memᴰ.not-nil m)

pub bytes_cons : {c : ℕ} {l : List ℕ} → c < 256 → Bytes l → Bytes (c ∷ l)
bytes_cons small bytes b m = ⊎_elim (λ is. rw is small) (bytes b) (Memᴰ.cases_cons m)

pub bytes_append : {v w : List ℕ} → Bytes v → Bytes w → Bytes (v ++ w)
bytes_append {v} in_v in_w b m = ⊎_elim (in_v b) (in_w b) (Memᴰ.append_cases v m)

pub bytes_flat_map : {A : Type 0} (f : A → List ℕ) (l : List A) → ((a : A) → a ∈ l → Bytes (f a)) → Bytes (flat_map f l)
unfolding flat_map
bytes_flat_map f [] each = bytes_nil
bytes_flat_map f (a ∷ l) each = bytes_append (each a (Memᴰ.head refl)) (bytes_flat_map f l (λ b m. each b (Memᴰ.tail m)))

pub bytes_left : (v w : List ℕ) → Bytes (v ++ w) → Bytes v
bytes_left v w bytes b m = bytes b (Memᴰ.append_left w m)

pub bytes_right : (v w : List ℕ) → Bytes (v ++ w) → Bytes w
bytes_right v w bytes b m = bytes b (Memᴰ.append_right v m)

pub flat_map_bytes : {A : Type 0} (f : A → List ℕ) (l : List A) → Bytes (flat_map f l) → (a : A) → a ∈ l → Bytes (f a)
unfolding flat_map
flat_map_bytes f [] bytes a m = absurd (Memᴰ.not-nil m)
flat_map_bytes f (x ∷ l) bytes a m =
    let later = bytes_right (f x) (flat_map f l) bytes in
    ⊎_elim (λ is. rw is (bytes_left (f x) (flat_map f l) bytes)) (flat_map_bytes f l later a) (Memᴰ.cases_cons m)

pub bytes_count : (c : ℕ) → c < 65536 → Bytes (count_bytes c)
unfolding count_bytes
bytes_count c few = bytes_cons (omega arith) (bytes_cons (omega arith) bytes_nil)

-- what takes a byte or more each is not more than the bytes
pub length_flat_map : {A : Type 0} (f : A → List ℕ) → ((a : A) → 0 < length (f a)) → (l : List A) → length l ≤ length (flat_map f l)
unfolding flat_map
length_flat_map f some [] = omega arith
length_flat_map f some (a ∷ l) = rw (length-append (f a) (flat_map f l)) (omega (arith, some a, length_flat_map f some l))

-- The numbers w stand for the bytes e: they are as many, and they are those if they are bytes. A reader that does not ask
-- whether its numbers are bytes reads a count from numbers of 256 and more too, and it would be written otherwise.
abbrev pub Spells : List ℕ → List ℕ → Type 0
Spells w e = (length w ≡ length e) × (Bytes w → w ≡ e)

pub spells_same : (w : List ℕ) → Spells w w
spells_same w = (refl, λ b. refl)

pub spells_append : (w e v f : List ℕ) → Spells w e → Spells v f → Spells (w ++ v) (e ++ f)
spells_append w e v f (long, is) (long', is') = (
  rw (length-append w v, length-append e f) (omega arith),
  λ bytes. let first = is (bytes_left w v bytes) in let second = is' (bytes_right w v bytes) in cc,
)

pub spells_count : (low high : ℕ) → Spells (low ∷ high ∷ []) (count_bytes (low + 256 * high))
unfolding count_bytes
spells_count low high = (
  refl,
  λ b. let small = b low (Memᴰ.head refl) in
      let low_is : low ≡ (low + 256 * high) % 256 = omega arith in
      let high_is : high ≡ (low + 256 * high) / 256 = omega arith in
      cc,
)
