-- Laws of the words that are put in behind the word of a node.
use Prim.Native.Nat.{ℕ, ◌+◌, ◌-◌, ◌≤◌, ◌<◌}
use native.Mathlib.Omega.{arith}
use native.Mathlib.Decide.{ℕ_discrete}
use mathlib.Core.Path.{◌≡◌, refl, ◌∙◌, ap}
use mathlib.Core.Logic.{inl, inr}
use mathlib.Core.List.{List, [], ◌∷◌, ◌++◌, append-nil}
use lib.ListN.{length, get_or, set}
use Rattle.std.specs.Prelude.{Option, Some, None}
use Rattle.rules.specs.Words.{Word}
use Rattle.reader.specs.Places.{word_at}
use Rattle.trie.specs.Model.{Trie, size, word_of, step_trie, step_node, add_word}
use Rattle.trie.specs.Holds.{Holds, Counted, StepOf, InsertOf}
use Rattle.trie.specs.Grow.{step_node_lt}
use Rattle.trie.specs.Words.{Has, has_add_new, step_node_word}
use Rattle.builder_branches.specs.Growing.{Separator, Behind, Grows, Done, Ready, Grew, GrewOf}
use Rattle.builder_branches.proofs.Grows.{behind_more, behind_none, behind_next, behind_zero, behind_cases, grows_has, grows_none, grows_then, grows_wider, grows_word, done_grows, done_mark, done_whole}

-- what grew from a trie that t grew into grew from t
pub grew_after : (k : ℕ) (W : Word → Type 0) {S : Word → Type 0} {t t₁ : Trie} (label first next done : List ℕ) → Grows S t t₁ → (r : Option ℕ)
    → GrewOf k W S t₁ label first next done r → GrewOf k W S t label first next done r
grew_after k W label first next done before (Some count) g =
    record { trie = g.trie; holds = g.holds; counted = g.counted; marked = g.marked; grown = grows_then before g.grown; whole = g.whole }
grew_after k W label first next done before None (t', grown, over) = (t', grows_then before grown, over)

-- Before the separating word number e: those before it are behind the word of the node.
pub record Putting (k : ℕ) (s places : List ℕ) (n : ℕ) (t : Trie) (node e : ℕ) (label first next : List ℕ) (count : ℕ) : Type 0 where
  pub trie : Trie
  pub holds : Holds trie label first next
  pub counted : count ≡ size trie
  pub grown : Grows (Behind k 0 (Separator s places n) (word_of t node)) t trie
  pub put : (j : ℕ) → j < e → Has trie (word_of t node ++ word_at s (get_or places j 0))

module _ (k : ℕ) (s places : List ℕ) (n : ℕ) (t : Trie) (node : ℕ) where
  abbrev W : Word → Type 0
  W = Separator s places n

  abbrev S : Word → Type 0
  S = Behind k 0 W (word_of t node)

  pub putting_start : (label first next : List ℕ) (count : ℕ) → Holds t label first next → count ≡ size t → Putting k s places n t node 0 label first next count
  putting_start label first next count holds counted =
      record { trie = t; holds = holds; counted = counted; grown = grows_none holds.proper; put = λ j less. absurd (omega arith) }

  module _ (e : ℕ) (label first next : List ℕ) (count : ℕ) (p : Putting k s places n t node e label first next count) (less : node < size t) where
    pub putting_counted : Counted label first next count × (node < count)
    putting_counted =
        (record { trie = p.trie; holds = p.holds; counted = p.counted }, omega (arith, p.counted, p.grown.more))

    module _ (more : e < n) (label' first' next' : List ℕ) (r : Option (ℕ × ℕ))
        (inserts : (t : Trie) → Holds t label first next → count ≡ size t → InsertOf t node (word_at s (get_or places e 0)) label' first' next' r) where
      abbrev w : Word
      w = word_at s (get_or places e 0)

      grows : Grows S p.trie (add_word p.trie node w)
      grows =
          grows_word p.holds.proper node w (word_of t node ++ w) (omega (arith, p.grown.more)) (behind_none w (record { number = e; below = more; stands = refl }))
          ([], append-nil _ ∙ ap (λ (u : Word). u ++ w) (p.grown.kept node less))

      pub putting_next : (at count' : ℕ) → r ≡ Some (at, count') → Putting k s places n t node (e + 1) label' first' next' count'
      putting_next at count' is =
          let (end, counted, holds) = rw is at (inserts p.trie p.holds p.counted) in
          record {
            trie = add_word p.trie node w;
            holds = holds;
            counted = counted;
            grown = grows_then p.grown grows;
            put = λ j below.
                elim (ℕ_discrete j e) [
                  | yes same ↦
                      let new = has_add_new p.holds.proper node w (omega (arith, p.grown.more)) w ([], append-nil w) in
                      rw (same, ← (p.grown.kept node less)) new
                  | no other ↦ grows_has grows _ (p.put j (omega arith))
                ];
          }

      pub putting_full : r ≡ None → (t' : Trie) × Grows S t t' × (length label' < size t')
      putting_full is =
          let over = rw is at (inserts p.trie p.holds p.counted) in
          (add_word p.trie node w, grows_then p.grown grows, over)

    pub putting_end : (done : List ℕ) → n ≤ e → Done k W t done → Grew k W S t label first next done count
    putting_end done all d =
        record {
          trie = p.trie;
          holds = p.holds;
          counted = p.counted;
          marked = done_grows done p.grown d;
          grown = p.grown;
          whole = λ w b.
              let (v, is, joined) = behind_zero w b in
              rw (joined, ← is.stands) (p.put is.number (omega (arith, is.below)));
        }

module _ (k : ℕ) (W : Word → Type 0) (t : Trie) (node most : ℕ) (less : node < size t) where
  abbrev All : Word → Type 0
  All = Behind k most W (word_of t node)

  -- they are there: the mark says it
  pub grew_known : (label first next done : List ℕ) (count : ℕ) → most < get_or done node 0 → Holds t label first next → count ≡ size t → Done k W t done
      → Grew k W All t label first next done count
  grew_known label first next done count marked holds counted d =
      record {
        trie = t;
        holds = holds;
        counted = counted;
        marked = d;
        grown = grows_none holds.proper;
        whole = done_whole done node most less marked d;
      }

  -- First the separating words, by which t grows as r₁ says, then all that begins with an input.
  module _ (label₁ first₁ next₁ done₁ : List ℕ) (r₁ : Option ℕ) (put : GrewOf k W (Behind k 0 W (word_of t node)) t label₁ first₁ next₁ done₁ r₁) where
    wider : (w : Word) → Behind k 0 W (word_of t node) w → All w
    wider w b = behind_more (omega arith) w b

    pub put_full : r₁ ≡ None → (t' : Trie) × Grows All t t' × (length label₁ < size t')
    put_full is = let (t', grown, over) = rw is at put in (t', grows_wider wider grown, over)

    module _ (count₁ : ℕ) (is : r₁ ≡ Some count₁) where
      after_put : Grew k W (Behind k 0 W (word_of t node)) t label₁ first₁ next₁ done₁ count₁
      after_put = rw is at put

      pub put_ready : Ready k W label₁ first₁ next₁ done₁ count₁ × (node < count₁)
      put_ready =
          let g = after_put in
          (record { trie = g.trie; holds = g.holds; counted = g.counted; marked = g.marked }, omega (arith, g.counted, g.grown.more))

      module _ (label₂ first₂ next₂ done₂ : List ℕ) (r₂ : Option ℕ)
          (children : (t₁ : Trie) → Holds t₁ label₁ first₁ next₁ → count₁ ≡ size t₁ → Done k W t₁ done₁
          → ((w : Word) → Behind k 0 W (word_of t₁ node) w → Has t₁ w)
          → GrewOf k W (Behind k most W (word_of t₁ node)) t₁ label₂ first₂ next₂ done₂ r₂) where
        after_children : GrewOf k W All after_put.trie label₂ first₂ next₂ done₂ r₂
        after_children =
            let g = after_put in
            let same : word_of g.trie node ≡ word_of t node = g.grown.kept node less in
            rw same at (children g.trie g.holds g.counted g.marked (λ w b. g.whole w (rw same at b)))

        pub grow_full : r₂ ≡ None → (t' : Trie) × Grows All t t' × (length label₂ < size t')
        grow_full full =
            let (t', grown, over) = rw full at after_children in
            (t', grows_then (grows_wider wider after_put.grown) grown, over)

        pub grow_end : (count₂ : ℕ) → r₂ ≡ Some count₂ → node < length done₂ → Grew k W All t label₂ first₂ next₂ (set done₂ node (most + 1)) count₂
        grow_end count₂ good in' =
            let g : Grew k W All after_put.trie label₂ first₂ next₂ done₂ count₂ = rw good at after_children in
            let grown = grows_then (grows_wider wider after_put.grown) g.grown in
            record {
              trie = g.trie;
              holds = g.holds;
              counted = g.counted;
              marked = done_mark done₂ node most (omega (arith, grown.more)) in' (rw (grown.kept node less) g.whole) g.marked;
              grown = grown;
              whole = g.whole;
            }

-- Before the input a: all that begins with a lower one is behind the word of the node.
pub record Turning (k : ℕ) (W : Word → Type 0) (t : Trie) (node most a : ℕ) (label first next done : List ℕ) (count : ℕ) : Type 0 where
  pub trie : Trie
  pub holds : Holds trie label first next
  pub counted : count ≡ size trie
  pub marked : Done k W trie done
  pub grown : Grows (Behind k most W (word_of t node)) t trie
  pub turned : (b : ℕ) → b < a → (w : Word) → Behind k (most - 1) W (word_of t node ++ (b ∷ [])) w → Has trie w

module _ (k : ℕ) (W : Word → Type 0) (t : Trie) (node most : ℕ) where
  abbrev Every : Word → Type 0
  Every = Behind k most W (word_of t node)

  pub turning_start : (label first next done : List ℕ) (count : ℕ) → Holds t label first next → count ≡ size t → Done k W t done
      → Turning k W t node most 0 label first next done count
  turning_start label first next done count holds counted d =
      record { trie = t; holds = holds; counted = counted; marked = d; grown = grows_none holds.proper; turned = λ b less. absurd (omega arith) }

  -- no middle has an input
  pub turning_none : (label first next done : List ℕ) (count : ℕ) → most ≡ 0 → Holds t label first next → count ≡ size t → Done k W t done
      → ((w : Word) → Behind k 0 W (word_of t node) w → Has t w) → Grew k W Every t label first next done count
  turning_none label first next done count none holds counted d whole =
      record {
        trie = t;
        holds = holds;
        counted = counted;
        marked = d;
        grown = grows_none holds.proper;
        whole = λ w b. whole w (behind_more (omega arith) w b);
      }

  module _ (a : ℕ) (label first next done : List ℕ) (count : ℕ) (p : Turning k W t node most a label first next done count) (less : node < size t) where
    pub turning_counted : Counted label first next count × (node < count)
    turning_counted =
        (record { trie = p.trie; holds = p.holds; counted = p.counted }, omega (arith, p.counted, p.grown.more))

    pub turning_end : k ≤ a → ((w : Word) → Behind k 0 W (word_of t node) w → Has t w) → Grew k W Every t label first next done count
    turning_end all backs =
        record {
          trie = p.trie;
          holds = p.holds;
          counted = p.counted;
          marked = p.marked;
          grown = p.grown;
          whole = λ w b.
              elim (behind_cases w b) [
                | inl none ↦ grows_has p.grown w (backs w none)
                | inr (b, below, longer) ↦ p.turned b (omega arith) w longer
              ];
        }

    module _ (below : a < k) (some : 0 < most) (v : Word) (is_back : W v) (label₁ first₁ next₁ : List ℕ) (r₁ : Option (ℕ × ℕ))
        (steps : (t : Trie) → Holds t label first next → count ≡ size t → StepOf t node a label₁ first₁ next₁ r₁) where
      there : node < size p.trie
      there = omega (arith, p.grown.more)

      steps_grow : Grows Every p.trie (step_trie p.trie node a)
      unfolding add_word
      steps_grow =
          grows_word p.holds.proper node (a ∷ []) (word_of t node ++ (a ∷ []) ++ v) there
          (behind_next a below some _ (behind_none v is_back))
          (v, ap (λ (u : Word). u ++ (a ∷ []) ++ v) (p.grown.kept node less))

      pub step_full : r₁ ≡ None → (t' : Trie) × Grows Every t t' × (length label₁ < size t')
      step_full is =
          let over = rw is at (steps p.trie p.holds p.counted) in
          (step_trie p.trie node a, grows_then p.grown steps_grow, over)

      module _ (child count₁ : ℕ) (is : r₁ ≡ Some (child, count₁)) where
        stepped_to : (child ≡ step_node p.trie node a) × (count₁ ≡ size (step_trie p.trie node a)) × Holds (step_trie p.trie node a) label₁ first₁ next₁
        stepped_to = rw is at (steps p.trie p.holds p.counted)

        pub step_ready : Ready k W label₁ first₁ next₁ done count₁ × (child < count₁)
        step_ready =
            let (at, counted, holds) = stepped_to in
            (record { trie = step_trie p.trie node a; holds = holds; counted = counted; marked = done_grows done steps_grow p.marked }, omega (arith, at, counted, step_node_lt p.trie node a))

        module _ (label₂ first₂ next₂ done₂ : List ℕ) (r₂ : Option ℕ)
            (grows : (t₁ : Trie) → Holds t₁ label₁ first₁ next₁ → count₁ ≡ size t₁ → Done k W t₁ done
            → GrewOf k W (Behind k (most - 1) W (word_of t₁ child)) t₁ label₂ first₂ next₂ done₂ r₂) where
          after_child : GrewOf k W (Behind k (most - 1) W (word_of t node ++ (a ∷ []))) (step_trie p.trie node a) label₂ first₂ next₂ done₂ r₂
          after_child =
              let (at, counted, holds) = stepped_to in
              let same : word_of (step_trie p.trie node a) child ≡ word_of t node ++ (a ∷ []) =
              ap (word_of (step_trie p.trie node a)) at ∙ step_node_word p.holds.proper node a there ∙ ap (λ (u : Word). u ++ (a ∷ [])) (p.grown.kept node less)
              in
              rw same at (grows (step_trie p.trie node a) holds counted (done_grows done steps_grow p.marked))

          pub child_full : r₂ ≡ None → (t' : Trie) × Grows Every t t' × (length label₂ < size t')
          child_full full =
              let (t', grown, over) = rw full at after_child in
              (t', grows_then (grows_then p.grown steps_grow) (grows_wider (behind_next a below some) grown), over)

          pub child_next : (count₂ : ℕ) → r₂ ≡ Some count₂ → Turning k W t node most (a + 1) label₂ first₂ next₂ done₂ count₂
          child_next count₂ good =
              let g : Grew k W (Behind k (most - 1) W (word_of t node ++ (a ∷ []))) (step_trie p.trie node a) label₂ first₂ next₂ done₂ count₂ = rw good at after_child in
              let later = grows_then steps_grow (grows_wider (behind_next a below some) g.grown) in
              record {
                trie = g.trie;
                holds = g.holds;
                counted = g.counted;
                marked = g.marked;
                grown = grows_then p.grown later;
                turned = λ b under w is_behind.
                    elim (ℕ_discrete b a) [
                      | yes same ↦ g.whole w (rw same at is_behind)
                      | no other ↦ grows_has later w (p.turned b (omega arith) w is_behind)
                    ];
              }
