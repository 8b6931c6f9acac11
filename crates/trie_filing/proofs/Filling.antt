-- Laws of a trie that words are put into one after the other.
use Prim.Native.Nat.{ℕ, zero, suc, ◌+◌, ◌-◌, ◌≤◌, ◌<◌}
use native.Mathlib.Omega.{arith}
use mathlib.Core.Path.{◌≡◌, refl, sym, ◌∙◌, ap}
use mathlib.Core.List.{List, [], ◌∷◌, ◌++◌, map, append_assoc, append-nil}
use lib.ListN.{length}
use Rattle.std.specs.Prelude.{Option, Some, None}
use Rattle.rules.specs.Lists.{sum}
use Rattle.rules.specs.Words.{Word}
use Rattle.reader.specs.Places.{word_at, after_word, words_at, WordsAt}
use Rattle.reader.specs.Turns.{WordTurn, word_turn, words_end}
use Rattle.walker.proofs.Words.{word-length}
use Rattle.trie.specs.Model.{Trie, root, size, add_all, holding}
use Rattle.trie.specs.Holds.{Holds, Counted, InsertOf}
use Rattle.trie.specs.Grow.{size_pos}
use Rattle.trie.specs.Words.{holding_snoc, holding-size}
use Rattle.trie.specs.Sizes.{holding_grows}

-- words in the bytes have fewer inputs than there are bytes
words_fit : (s : List ℕ) (p k c : ℕ) → WordsAt s p k c → p + sum (map length (words_at s p c)) ≤ length s
unfolding words_at
words_fit s p k zero inside = omega arith
words_fit s p k (suc c) (here, rest) =
    let rest_fits = words_fit s (after_word s p) k c rest in
    let long = word-length s p here.inside in
    omega arith

-- so a trie of 65,536 nodes has room for them
pub words_room : (s : List ℕ) (p k c n : ℕ) → WordsAt s p k c → length s ≤ 65535 → n ≡ 65536
    → (suc (sum (map length (words_at s p c))) ≤ n) × (n ≤ 65536)
words_room s p k c n stand size e = (omega (arith, words_fit s p k c stand), omega arith)

-- The arrays hold those of all words that are not left.
pub record Filling (all rest : List Word) (label first next : List ℕ) (nodes : ℕ) : Type 0 where
  pub done : List Word
  pub split : all ≡ done ++ rest
  pub holds : Holds (holding done) label first next
  pub counted : nodes ≡ size (holding done)

filling_start : (all : List Word) (label first next : List ℕ) (nodes : ℕ) → Holds root label first next → nodes ≡ 1 → Filling all all label first next nodes
unfolding add_all size
filling_start all label first next nodes holds one = record { done = []; split = refl; holds = holds; counted = one }

pub filling_counted : {all rest : List Word} {label first next : List ℕ} {nodes : ℕ} → Filling all rest label first next nodes
    → Counted label first next nodes × (0 < nodes)
filling_counted f =
    (record { trie = holding f.done; holds = f.holds; counted = f.counted }, omega (arith, f.counted, size_pos (holding f.done)))

-- what an insertion into the arrays is, for any trie that they hold
abbrev Inserting : List ℕ → List ℕ → List ℕ → ℕ → Word → List ℕ → List ℕ → List ℕ → Option (ℕ × ℕ) → Type 0
Inserting label first next nodes w label' first' next' r = (t : Trie) → Holds t label first next → nodes ≡ size t → InsertOf t 0 w label' first' next' r

-- The loop over the c words from p on, at the word number i.
module _ (s : List ℕ) (p k c : ℕ) where
  abbrev all : List Word
  all = words_at s p c

  abbrev pub FillingAt : ℕ → ℕ → List ℕ → List ℕ → List ℕ → ℕ → Type 0
  FillingAt i word label first next nodes = WordsAt s word k (c - i) × Filling all (words_at s word (c - i)) label first next nodes

  pub filling_begin : (label first next : List ℕ) (nodes : ℕ) → WordsAt s p k c → Holds root label first next → nodes ≡ 1 → FillingAt 0 p label first next nodes
  filling_begin label first next nodes stand holds one =
      let whole : c - 0 ≡ c = omega arith in
      (rw whole stand, rw whole (filling_start all label first next nodes holds one))

  module _ (i word : ℕ) (label first next : List ℕ) (nodes : ℕ) (x : FillingAt i word label first next nodes) where
    -- all words are in
    pub filling_end : c ≤ i → Holds (holding all) label first next
    filling_end over =
        let is : all ≡ x.1.done = x.1.split ∙ rw (words_end s word (c - i) (omega arith)) (append-nil x.1.done) in
        rw is x.1.holds

    module _ (some : i < c) where
      turn : WordTurn s word k (c - i)
      turn = word_turn s word k (c - i) (omega arith) x.0

      -- the word at hand is inside
      pub filling_inside : after_word s word ≤ length s
      filling_inside = turn.here.inside

      now_done : all ≡ (x.1.done ++ (word_at s word ∷ [])) ++ words_at s (after_word s word) (c - i - 1)
      now_done = x.1.split ∙ rw turn.words (sym (append_assoc x.1.done (word_at s word ∷ []) (words_at s (after_word s word) (c - i - 1))))

      module _ (label' first' next' : List ℕ) (r : Option (ℕ × ℕ)) (inserts : Inserting label first next nodes (word_at s word) label' first' next' r) where
        pub filling_next : (node more : ℕ) → r ≡ Some (node, more) → FillingAt (i + 1) (after_word s word) label' first' next' more
        filling_next node more is =
            let (at, counted, holds) = rw is at (inserts (holding x.1.done) x.1.holds x.1.counted) in
            let less : c - (i + 1) ≡ c - i - 1 = omega arith in (
              rw less turn.rest,
              record {
                done = x.1.done ++ (word_at s word ∷ []);
                split = rw less now_done;
                holds = rw (holding_snoc x.1.done (word_at s word)) holds;
                counted = rw (holding_snoc x.1.done (word_at s word)) counted;
              },
            )

        -- there is room for all
        pub filling_full : {A : Type 0} → suc (sum (map (λ (w : Word). length w) all)) ≤ length label' → r ≡ None → A
        filling_full room is =
            let over = rw is at (inserts (holding x.1.done) x.1.holds x.1.counted) in
            let others = words_at s (after_word s word) (c - i - 1) in
            let grows = holding_grows (x.1.done ++ (word_at s word ∷ [])) others in
            let whole : size (holding ((x.1.done ++ (word_at s word ∷ [])) ++ others)) ≡ size (holding all) = ap (λ (ws : List Word). size (holding ws)) (sym now_done) in
            let one = ap size (holding_snoc x.1.done (word_at s word)) in
            absurd (omega (arith, holding-size all))
