-- Laws of the cover words, and that what is behind them are the needed words.
use Prim.Native.Nat.{ℕ, suc, ◌-◌, ◌≤◌, ◌<◌}
use native.Mathlib.Omega.{arith}
use mathlib.Core.Path.{◌≡◌, refl, sym, ◌∙◌, ap}
use mathlib.Core.Logic.{◌⊎◌, inl, inr}
use mathlib.Core.List.Memᴰ
use mathlib.Core.List.{List, [], ◌++◌}
use lib.ListN.{length}
use Rattle.std.specs.Prelude.{Option, Some, None}
use Rattle.rules.specs.Lists.{◌∈◌}
use Rattle.rules.specs.Sizes.{bound_of}
use Rattle.rules.specs.Words.{Word}
use Rattle.rules.specs.Files.{DossierData, bound}
use Rattle.rules.specs.Operations.{fine, read_dossier}
use Rattle.rules.specs.Needed.{IsNeeded}
use Rattle.theory.specs.Outcomes.{fine_injective}
use Rattle.reader.specs.declared.DossierShape.{DossierShape}
use Rattle.reader.specs.Places.{word_at, after_word, words_at, WordsAt}
use Rattle.reader.specs.Turns.{word_turn, words_end}
use Rattle.reader.specs.Standing.{DossierStands}
use Rattle.soundness.specs.Lent.{Lent}
use Rattle.trie.specs.Model.{Trie, root, size, word_of, Proper, add_word, end_of}
use Rattle.trie.specs.Holds.{Holds, InsertOf}
use Rattle.trie.specs.Grow.{size_pos}
use Rattle.trie.specs.Words.{Has, word_root, end_word}
use Rattle.trie.specs.Values.{marks_of, Noted}
use Rattle.trie_filing.specs.Distinct.{FirstPlaces}
use Rattle.trie_filing.proofs.Once.{firsts_few, first_place, first_in, first_there}
use Rattle.builder_grower.specs.Grown.{Within, Needs}
use Rattle.builder_branches.specs.Growing.{Separator, Separators, Listed, Behind, Grows, Done, Ready, Grew, GrewOf}
use Rattle.builder_branches.proofs.Grows.{behind_none, grows_has, grows_none, grows_then, grows_wider, grows_word, done_start, done_grows}
use Rattle.builder_branches.proofs.Branching.{grew_after}

-- One cover word: it is put in, and then all behind it.
module _ (k : ℕ) (W : Word → Type 0) (most : ℕ) (w v : Word) (is_back : W v) (t : Trie) (label first next done : List ℕ) (count : ℕ)
    (holds : Holds t label first next) (counted : count ≡ size t) (marked : Done k W t done) (label₁ first₁ next₁ : List ℕ) (r₁ : Option (ℕ × ℕ))
    (inserts : (t : Trie) → Holds t label first next → count ≡ size t → InsertOf t 0 w label₁ first₁ next₁ r₁) where
  abbrev t₁ : Trie
  t₁ = add_word t 0 w

  put_grows : Grows (Behind k most W w) t t₁
  put_grows =
      grows_word holds.proper 0 w (w ++ v) (size_pos t) (behind_none v is_back) (v, ap (λ (u : Word). u ++ w ++ v) (word_root t))

  pub cover_full : r₁ ≡ None → (t' : Trie) × Grows (Behind k most W w) t t' × (length label₁ < size t')
  cover_full is = let over = rw is at (inserts t holds counted) in (t₁, put_grows, over)

  module _ (node count₁ : ℕ) (is : r₁ ≡ Some (node, count₁)) where
    cover_put : (node ≡ end_of t 0 w) × (count₁ ≡ size t₁) × Holds t₁ label₁ first₁ next₁
    cover_put = rw is at (inserts t holds counted)

    pub cover_ready : Ready k W label₁ first₁ next₁ done count₁ × (node < count₁)
    cover_ready =
        let (at, counted₁, holds₁) = cover_put in (
          record { trie = t₁; holds = holds₁; counted = counted₁; marked = done_grows done put_grows marked },
          omega (arith, at, counted₁, (end_word holds.proper 0 w (size_pos t)).0),
        )

    pub cover_grows : (label₂ first₂ next₂ done₂ : List ℕ) (r₂ : Option ℕ)
        → ((t : Trie) → Holds t label₁ first₁ next₁ → count₁ ≡ size t → Done k W t done → GrewOf k W (Behind k most W (word_of t node)) t label₂ first₂ next₂ done₂ r₂)
        → GrewOf k W (Behind k most W w) t label₂ first₂ next₂ done₂ r₂
    cover_grows label₂ first₂ next₂ done₂ r₂ grows =
        let (at, counted₁, holds₁) = cover_put in
        let same : word_of t₁ node ≡ w = ap (word_of t₁) at ∙ (end_word holds.proper 0 w (size_pos t)).1 ∙ ap (λ (u : Word). u ++ w) (word_root t) in
        grew_after k W label₂ first₂ next₂ done₂ put_grows r₂ (rw same at (grows t₁ holds₁ counted₁ (done_grows done put_grows marked)))

-- behind one of the words cs
pub record Wanted (k most : ℕ) (W : Word → Type 0) (cs : List Word) (w : Word) : Type 0 where
  pub cover : Word
  pub covering : cover ∈ cs
  pub behind : Behind k most W cover w

-- All that is behind those of all words that are not left is in the trie.
pub record Covering (k most : ℕ) (W : Word → Type 0) (all rest : List Word) (label first next done : List ℕ) (count : ℕ) : Type 0 where
  pub trie : Trie
  pub holds : Holds trie label first next
  pub counted : count ≡ size trie
  pub marked : Done k W trie done
  pub grown : Grows (Wanted k most W all) root trie
  pub inside : (c : Word) → c ∈ rest → c ∈ all
  pub past : (c : Word) → c ∈ all → (c ∈ rest) ⊎ ((w : Word) → Behind k most W c w → Has trie w)

module _ (k most : ℕ) (W : Word → Type 0) (all : List Word) where
  pub covering_start : (label first next done : List ℕ) (count : ℕ) → Holds root label first next → count ≡ 1 → ((t : Trie) → Noted t (marks_of []) done)
      → Covering k most W all all label first next done count
  unfolding size
  covering_start label first next done count holds counted blank =
      record {
        trie = root;
        holds = holds;
        counted = counted;
        marked = done_start done blank;
        grown = grows_none holds.proper;
        inside = λ c m. m;
        past = λ c m. inl m;
      }

  pub covering_ready : {rest : List Word} {label first next done : List ℕ} {count : ℕ} → Covering k most W all rest label first next done count → Ready k W label first next done count
  covering_ready f = record { trie = f.trie; holds = f.holds; counted = f.counted; marked = f.marked }

  module _ (s : List ℕ) (p c : ℕ) (some : 0 < c) (stand : WordsAt s p k c) (label first next done : List ℕ) (count : ℕ)
      (f : Covering k most W all (words_at s p c) label first next done count) (label₁ first₁ next₁ done₁ : List ℕ) (r : Option ℕ)
      (grows : (t : Trie) → Holds t label first next → count ≡ size t → Done k W t done → GrewOf k W (Behind k most W (word_at s p)) t label₁ first₁ next₁ done₁ r) where
    here : word_at s p ∈ words_at s p c
    here = rw (word_turn s p k c some stand).words (Memᴰ.head refl)

    wanted : (w : Word) → Behind k most W (word_at s p) w → Wanted k most W all w
    wanted w b = record { cover = word_at s p; covering = f.inside _ here; behind = b }

    pub covering_full : r ≡ None → (t' : Trie) × Grows (Wanted k most W all) root t' × (length label₁ < size t')
    covering_full is =
        let (t', grown, over) = rw is at (grows f.trie f.holds f.counted f.marked) in
        (t', grows_then f.grown (grows_wider wanted grown), over)

    pub covering_next : (count₁ : ℕ) → r ≡ Some count₁ → Covering k most W all (words_at s (after_word s p) (c - 1)) label₁ first₁ next₁ done₁ count₁
    covering_next count₁ is =
        let g : Grew k W (Behind k most W (word_at s p)) f.trie label₁ first₁ next₁ done₁ count₁ = rw is at (grows f.trie f.holds f.counted f.marked) in
        let turn = (word_turn s p k c some stand).words in
        let grown = grows_wider wanted g.grown in
        record {
          trie = g.trie;
          holds = g.holds;
          counted = g.counted;
          marked = g.marked;
          grown = grows_then f.grown grown;
          inside = λ u m. f.inside u (rw turn (Memᴰ.tail m));
          past = λ u m.
              elim (f.past u m) [
                | inl left ↦
                    elim (Memᴰ.cases_cons (rw turn at left)) [
                      | inl e ↦ inr (λ w b. g.whole w (rw e at b))
                      | inr later ↦ inl later
                    ]
                | inr there ↦ inr (λ w b. grows_has grown w (there w b))
              ];
        }

-- The needed words of the dossier d, whose separating words stand at the first n places.
module _ (s : List ℕ) (x : DossierShape) (lent : Lent s x) (places : List ℕ) (n : ℕ) (listed : Listed s places n (words_at s x.separating x.separators))
    (most : ℕ) (longest : most ≡ suc (bound_of x.states x.bound_byte - x.states)) (d : DossierData) (reads : read_dossier s ≡ fine d) where
  stands : DossierStands s x d
  stands = rw (fine_injective (sym lent.reads ∙ reads)) at lent.stands

  is_longest : most ≡ suc (bound d - d.states)
  is_longest = longest ∙ λ i. suc (bound_of (stands.states i) (stands.bound_byte i) - stands.states i)

  abbrev Needed : Word → Type 0
  Needed = Wanted x.inputs most (Separator s places n) (words_at s x.cover x.covers)

  wanted_needed : (w : Word) → Needed w → IsNeeded d w
  wanted_needed w b =
      record {
        front = b.cover;
        middle = b.behind.middle;
        back = b.behind.back;
        covering = rw stands.cover_words at b.covering;
        inputs = rw stands.inputs at b.behind.inputs;
        short = rw is_longest at b.behind.short;
        separating = rw stands.separating_words at (listed.inside _ b.behind.separating);
        joined = b.behind.joined;
      }

  needed_wanted : (w : Word) → IsNeeded d w → Needed w
  needed_wanted w b =
      record {
        cover = b.front;
        covering = rw stands.cover_words b.covering;
        behind = record {
          middle = b.middle;
          back = b.back;
          inputs = rw stands.inputs b.inputs;
          short = rw is_longest b.short;
          separating = listed.every _ (rw stands.separating_words b.separating);
          joined = b.joined;
        };
      }

  within : {t : Trie} → Grows Needed root t → Within d t
  unfolding word_of
  within g v there =
      elim (g.added v there) [
        | inl (i, less, e) ↦ inl (sym e)
        | inr (w, is, begins) ↦ inr (w, wanted_needed w is, begins)
      ]

  pub grown_full : (label : List ℕ) → length label ≡ 65536 → (t : Trie) × Grows Needed root t × (length label < size t)
      → (t : Trie) × Proper t × Within d t × (65536 < size t)
  grown_full label long (t, grown, over) = (t, grown.proper, within grown, omega arith)

  pub grown_nodes : (label first next done : List ℕ) (count word left : ℕ) → left ≤ 0
      → Covering x.inputs most (Separator s places n) (words_at s x.cover x.covers) (words_at s word left) label first next done count
      → (t : Trie) × Holds t label first next × (count ≡ size t) × Needs d t
  grown_nodes label first next done count word left all f = (
    f.trie,
    f.holds,
    f.counted,
    record {
      within = within f.grown;
      whole = λ w is.
          let b = needed_wanted w is in
          elim (f.past b.cover b.covering) [
            | inl more ↦ absurd (Memᴰ.not-nil (rw (words_end s word left all) at more))
            | inr there ↦ there w b.behind
          ];
    },
  )

  -- without separating words there are none
  pub grown_none : (label first next : List ℕ) (count : ℕ) → n ≡ 0 → Holds root label first next → count ≡ 1
      → (t : Trie) × Holds t label first next × (count ≡ size t) × Needs d t
  unfolding size
  grown_none label first next count none holds counted = (
    root,
    holds,
    counted,
    record {
      within = within (grows_none holds.proper);
      whole = λ w is. absurd (omega (arith, none, (needed_wanted w is).behind.separating.below));
    },
  )

-- what `find_firsts` leaves
pub listed_firsts : (s : List ℕ) (p k c : ℕ) (numbers places : List ℕ) (n : ℕ) → WordsAt s p k c → c ≤ length places → FirstPlaces s p c numbers places n → Listed s places n (words_at s p c)
listed_firsts s p k c numbers places n stand room once =
    record {
      long = omega (arith, firsts_few s p c numbers places n once);
      whole = λ j less. (first_place s p k c stand once j less).0;
      inside = λ w is. rw is.stands at (first_in s p k c stand once is.number is.below);
      every = λ w m. let (j, less, e) = first_there s p k c stand once w m in record { number = j; below = less; stands = e };
    }

pub listed_separators : (s places : List ℕ) (n : ℕ) (ws : List Word) → Listed s places n ws → 0 < n → Separators s places n
listed_separators s places n ws listed one = record { one = one; listed = listed.long; whole = listed.whole }
