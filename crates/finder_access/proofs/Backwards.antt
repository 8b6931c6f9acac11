-- Laws of a word that is read back through the queue, and written from its last input on.
use Prim.Native.Nat.{ℕ, suc, ◌+◌, ◌-◌, ◌≤◌, ◌<◌}
use native.Mathlib.Omega.{arith}
use native.Mathlib.Nat.{add-zero}
use native.Mathlib.Numerals.{add-one}
use mathlib.Core.Path.{◌≡◌, sym, ap, ◌∙◌}
use mathlib.Core.List.{List, [], ◌∷◌, ◌++◌}
use lib.ListN.{length, get_or, set, length-append}
use lib.Seq.{set_comm, sets}
use Rattle.rules.specs.Sizes.{most_states}
use Rattle.rules.specs.Words.{Word}
use Rattle.rules.specs.Files.{UnitData, word_bytes}
use Rattle.theory.specs.Wrote.{Wrote}
use Rattle.finder_access.specs.Queue.{parent_at, input_at, Falls, Spelt, Depth}
use Rattle.finder_access.specs.Reached.{word_to, entry_word, Reaches, WordFits}
use Rattle.finder_access.proofs.Queueing.{spelt_less}

-- Writing a word is writing its last input, and then the others.
pub sets_last : (v : Word) (i start : ℕ) (out : List ℕ) → sets (set out (start + length v) i) start v ≡ sets out start (v ++ (i ∷ []))
sets_last [] i start out = rw (add-zero start)
sets_last (a ∷ v) i start out =
    let behind : start + suc (length v) ≡ suc start + length v = omega arith in
    rw (behind, set_comm out (suc start + length v) start i a (λ e. omega arith)) (sets_last v i (suc start) (set out start a))

-- one step back from an entry
pub back_less : {queue : List ℕ} (place : ℕ) (falls : Falls queue (place + 1)) (at p : ℕ) → 0 < at → at ≤ place → p ≡ parent_at queue at → p < at
back_less place falls at p some low is = rw is (falls.earlier at some (omega arith))

module _ {queue : List ℕ} (place : ℕ) {word : ℕ → Word} (s : Spelt queue (place + 1) word) where
  module _ (at p : ℕ) (some : 0 < at) (low : at ≤ place) (is : p ≡ parent_at queue at) where
    back_word : word at ≡ word p ++ (input_at queue at ∷ [])
    back_word = rw is (s.step at some (omega arith))

    pub back_length : length (word at) ≡ length (word p) + 1
    back_length = ap length back_word ∙ length-append (word p) (input_at queue at ∷ [])

    -- n inputs behind that of the entry have been written, of `len`
    pub back_written : (n len i start here : ℕ) (out : List ℕ) → n + length (word at) ≡ len → here + n + 1 ≡ len → i ≡ input_at queue at
        → sets (set out (start + here) i) start (word p) ≡ sets out start (word at)
    back_written n len i start here out long behind input =
        let is_here : here ≡ length (word p) = omega (arith, back_length) in
        rw (is_here, input) (sets_last (word p) (input_at queue at) start out ∙ ap (λ (w : Word). sets out start w) (sym back_word))

  pub back_start : (at : ℕ) → at ≤ 0 → word at ≡ []
  back_start at z = let e : at ≡ 0 = omega arith in rw (e, s.start)

-- a length byte and the inputs
pub word_bytes_length : (w : Word) → length (word_bytes w) ≡ length w + 1
unfolding word_bytes
word_bytes_length w = sym (add-one (length w))

-- the place p that a state has in the queue after a search
module _ {u : UnitData} {queue places : List ℕ} (reaches : Reaches u queue places) (q p : ℕ) (state : q < most_states) (is : p ≡ get_or places q 0 - 1) where
  pub place_small : p < most_states
  place_small = omega (arith, reaches.inside q state, reaches.few, reaches.some)

  pub place_spelt : Spelt queue (p + 1) (entry_word u queue)
  place_spelt = spelt_less (omega (arith, reaches.inside q state, reaches.some)) reaches.spelt

  pub place_word : entry_word u queue p ≡ word_to u q
  place_word = rw is (sym (reaches.words q state))

  -- a word of n inputs
  pub place_length : (n : ℕ) → ((word : ℕ → Word) → Spelt queue (p + 1) word → n ≡ length (word p)) → n ≡ length (word_to u q)
  place_length n long = long (entry_word u queue) place_spelt ∙ ap length place_word

  pub place_depth : (n : ℕ) → ((word : ℕ → Word) → Spelt queue (p + 1) word → n ≡ length (word p)) → Depth queue p n
  place_depth n long = record { word = entry_word u queue; spelt = place_spelt; long = long }

  -- it is written behind its length byte
  pub place_written : (n at : ℕ) (out left : List ℕ) → n ≡ length (word_to u q)
      → ((word : ℕ → Word) → Spelt queue (p + 1) word → left ≡ sets (set out at n) (at + 1) (word p)) → Wrote out at (word_bytes (word_to u q)) left (at + 1 + n)
  unfolding word_bytes
  place_written n at out left long wrote =
      record {
        place = omega arith;
        same = wrote (entry_word u queue) place_spelt ∙ rw (place_word, ← long, add-one at);
      }

-- and there is room for it
pub place_fits : {queue places : List ℕ} {q at room : ℕ} (f : WordFits queue places q at room) (p : ℕ) → p ≡ get_or places q 0 - 1
    → (n : ℕ) → ((word : ℕ → Word) → Spelt queue (p + 1) word → n ≡ length (word p)) → at + 1 + n ≤ room
place_fits {q} f p is n long =
    omega (arith, place_length f.reaches q p f.state is n long, word_bytes_length (word_to f.held q), f.fits)
