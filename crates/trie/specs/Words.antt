-- What a trie has of the words that were put in: its nodes are, one to one, the beginnings of those words.
use Rattle.std.specs.Prelude.{ℕ, suc, ◌+◌, ◌≤◌, ◌<◌, ◌≡◌, refl, List, map, [], ◌∷◌, ◌++◌, true, false, ◌⊎◌, ◌↔◌, length, Option, Some, None}
use Rattle.std.proofs.Common.{sym, ap, ◌∙◌, append_assoc, append-nil, inl, inr, arith, eq-eqb, ne_eqb}
use mathlib.Core.List.Memᴰ
use Rattle.std.proofs.Math.Decide.{ℕ_discrete, dec_lt}
use Rattle.rules.specs.Lists.{◌∈◌, any, sum}
use Rattle.rules.specs.Words.{Word, Begins, begins}
use Rattle.theory.specs.Lists.{outcome, any-true, any_of}
use Rattle.theory.specs.Words.{begins-true, begins_of}
use Rattle.trie.specs.Model.{Trie, root, grow, size, child_in, word_of, walk_from, Proper, proper_root, proper_grow, step_trie, step_node, add_word, end_of, add_all, holding}
use Rattle.trie.specs.Grow.{size_pos, size-grow, child_lt, child_new, child_other, by_step, step_node_lt, step_grows, step_proper, add_proper}

-- a walk along the word from the root succeeds
abbrev pub Reaches : Trie → Word → Type 0
Reaches t w = (j : ℕ) × (walk_from t 0 w ≡ Some j)

-- some node has the word
abbrev pub Has : Trie → Word → Type 0
Has t w = (i : ℕ) × (i < size t) × (word_of t i ≡ w)

-- some word of the list begins with u
abbrev pub Started : List Word → Word → Type 0
Started ws u = (w : Word) × w ∈ ws × Begins u w

-- The words of nodes.

pub word_new : (t : Trie) (p a : ℕ) → word_of (grow t p a) (size t) ≡ word_of t p ++ (a ∷ [])
unfolding word_of
word_new t p a = rw (eq-eqb (size t) (size t) refl)

pub word_old : (t : Trie) (p a i : ℕ) → i < size t → word_of (grow t p a) i ≡ word_of t i
unfolding word_of
word_old t p a i h = rw (ne_eqb i (size t) (λ e. omega arith))

pub word_root : (t : Trie) → word_of t 0 ≡ []
unfolding word_of
word_root root = refl
word_root (grow t p a) = rw (ne_eqb 0 (size t) (λ e. omega (arith, size_pos t))) (word_root t)

-- no node is under one that is not there yet
pub child_none : {t : Trie} → Proper t → (p a : ℕ) → size t ≤ p → child_in t p a ≡ 0
unfolding child_in
child_none proper_root p a h = refl
child_none (proper_grow {t = t} {p = q} {a = b} v below new) p a h =
    let s : size t < p = omega (arith, size-grow t q b) in
    child_other t q b p a (λ e f. omega arith) ∙ child_none v p a (omega arith)

-- a child that was there stays
pub child_kept : (t : Trie) (q b : ℕ) → child_in t q b ≡ 0 → (p a : ℕ) → (child_in t p a ≡ 0 → ⊥) → child_in (grow t q b) p a ≡ child_in t p a
child_kept t q b new p a n = child_other t q b p a (λ e f. n (rw (← e, ← f) new))

child_root : (p a : ℕ) → child_in root p a ≡ 0
unfolding child_in
child_root p a = refl

-- only a node that is there has children
pub child_under : {t : Trie} → Proper t → (p a : ℕ) → (child_in t p a ≡ 0 → ⊥) → p < size t
child_under {t} v p a m = elim (dec_lt p (size t)) [ yes h ↦ h | no h ↦ absurd (m (child_none v p a (omega arith))) ]

pub child_word : {t : Trie} → Proper t → (p a : ℕ) → (child_in t p a ≡ 0 → ⊥) → word_of t (child_in t p a) ≡ word_of t p ++ (a ∷ [])
child_word proper_root p a n = absurd (n (child_root p a))
child_word (proper_grow {t = t} {p = q} {a = b} v below new) p a n =
    elim (ℕ_discrete (child_in t p a) 0) [
      | yes z ↦
          elim (ℕ_discrete q p) [
            | yes e ↦
                elim (ℕ_discrete b a) [
                  | yes f ↦
                      rw (← e, ← f, child_new t q b, word_new t q b, word_old t q b q below)
                  | no o ↦ absurd (n (child_other t q b p a (λ x y. o y) ∙ z))
                ]
            | no o ↦ absurd (n (child_other t q b p a (λ x y. o x) ∙ z))
          ]
      | no m ↦
          let there : p < size t = child_under v p a m in
          rw (child_kept t q b new p a m, word_old t q b (child_in t p a) (child_lt t p a), word_old t q b p there) (child_word v p a m)
    ]

-- a child has a greater number
pub child_gt : {t : Trie} → Proper t → (p a : ℕ) → (child_in t p a ≡ 0 → ⊥) → p < child_in t p a
child_gt proper_root p a n = absurd (n (child_root p a))
child_gt (proper_grow {t = t} {p = q} {a = b} v below new) p a n =
    elim (ℕ_discrete (child_in t p a) 0) [
      | yes z ↦
          elim (ℕ_discrete q p) [
            | yes e ↦
                elim (ℕ_discrete b a) [
                  | yes f ↦ let k : child_in (grow t q b) p a ≡ size t = rw (← e, ← f) (child_new t q b) in omega arith
                  | no o ↦ absurd (n (child_other t q b p a (λ x y. o y) ∙ z))
                ]
            | no o ↦ absurd (n (child_other t q b p a (λ x y. o x) ∙ z))
          ]
      | no m ↦ rw (child_kept t q b new p a m) (child_gt v p a m)
    ]

-- Walks.

pub walk_some : (t : Trie) (i a : ℕ) (w : Word) → (child_in t i a ≡ 0 → ⊥) → walk_from t i (a ∷ w) ≡ walk_from t (child_in t i a) w
unfolding walk_from
walk_some t i a w n = rw (ne_eqb (child_in t i a) 0 n)

pub walk_none : (t : Trie) (i a : ℕ) (w : Word) → child_in t i a ≡ 0 → walk_from t i (a ∷ w) ≡ None
unfolding walk_from
walk_none t i a w z = rw (eq-eqb (child_in t i a) 0 z)

pub off_at : {A : Type 0} (r : Option ℕ) (j : ℕ) → r ≡ None → r ≡ Some j → A
off_at r j e f =
    let z : ◌≡◌ {A = ℕ} 0 1 = cc in absurd (omega arith)

-- a walk along a word from a node ends at the node of that node's word and the word
pub walk_word : {t : Trie} → Proper t → (i j : ℕ) (w : Word) → i < size t → walk_from t i w ≡ Some j → (j < size t) × (word_of t j ≡ word_of t i ++ w)
unfolding walk_from
walk_word {t} v i j [] h e =
    let k : i ≡ j = cc in (omega arith, rw (← k) (sym (append-nil _)))
walk_word {t} v i j (a ∷ w) h e =
    elim (ℕ_discrete (child_in t i a) 0) [
      | yes z ↦ off_at _ j (walk_none t i a w z) e
      | no n ↦
          let (less, word) = walk_word v (child_in t i a) j w (child_lt t i a) (sym (walk_some t i a w n) ∙ e) in
          (less, word ∙ rw (child_word v i a n, append_assoc))
    ]

-- a walk along a word from the root ends at the node of that word
pub root_walk : {t : Trie} → Proper t → (w : Word) (r : Option ℕ) (j : ℕ) → r ≡ walk_from t 0 w → r ≡ Some j → (j < size t) × (word_of t j ≡ w)
root_walk {t} v w r j walked at =
    let (less, word) = walk_word v 0 j w (size_pos t) (sym walked ∙ at) in (less, word ∙ rw (word_root t))

-- a walk goes on where its first part ended
pub walk_on : (t : Trie) (i j : ℕ) (u w : Word) → walk_from t i u ≡ Some j → walk_from t i (u ++ w) ≡ walk_from t j w
unfolding walk_from
walk_on t i j [] w e =
    let k : i ≡ j = cc in rw k
walk_on t i j (a ∷ u) w e =
    elim (ℕ_discrete (child_in t i a) 0) [
      | yes z ↦ off_at _ j (walk_none t i a u z) e
      | no n ↦ walk_some t i a (u ++ w) n ∙ walk_on t (child_in t i a) j u w (sym (walk_some t i a u n) ∙ e)
    ]

-- a walk that succeeds is as before when a node was added
pub walk_kept : (t : Trie) (q b : ℕ) → child_in t q b ≡ 0 → (i j : ℕ) (w : Word) → walk_from t i w ≡ Some j → walk_from (grow t q b) i w ≡ Some j
unfolding walk_from
walk_kept t q b new i j [] e = e
walk_kept t q b new i j (a ∷ w) e =
    elim (ℕ_discrete (child_in t i a) 0) [
      | yes z ↦ off_at _ j (walk_none t i a w z) e
      | no n ↦
          let k = child_kept t q b new i a n in
          walk_some (grow t q b) i a w (λ x. n (sym k ∙ x))
          ∙ rw k (walk_kept t q b new (child_in t i a) j w (sym (walk_some t i a w n) ∙ e))
    ]

walk_one : (t : Trie) (q b : ℕ) → 0 < size t → walk_from (grow t q b) q (b ∷ []) ≡ Some (size t)
unfolding walk_from
walk_one t q b pos =
    walk_some (grow t q b) q b [] (λ z. omega (arith, child_new t q b)) ∙ rw (child_new t q b)

-- each node is found by its word
pub walk_at : {t : Trie} → Proper t → (i : ℕ) → i < size t → walk_from t 0 (word_of t i) ≡ Some i
unfolding walk_from size word_of
walk_at proper_root i h =
    let z : i ≡ 0 = omega arith in rw z
walk_at (proper_grow {t = t} {p = q} {a = b} v below new) i h =
    elim (ℕ_discrete i (size t)) [
      | yes e ↦
          rw (e, word_new t q b)
          (walk_on (grow t q b) 0 q (word_of t q) (b ∷ []) (walk_kept t q b new 0 q (word_of t q) (walk_at v q below))
          ∙ walk_one t q b (size_pos t))
      | no n ↦ rw (word_old t q b i (omega arith)) (walk_kept t q b new 0 i (word_of t i) (walk_at v i (omega arith)))
    ]

-- no two nodes have one word
pub one_to_one : {t : Trie} → Proper t → (i j : ℕ) → i < size t → j < size t → word_of t i ≡ word_of t j → i ≡ j
one_to_one {t} v i j hi hj e =
    let a = walk_at v i hi in let b = walk_at v j hj in let c : walk_from t 0 (word_of t i) ≡ walk_from t 0 (word_of t j) = rw e in cc

-- a walk succeeds exactly for the words of nodes, and ends at that node
pub reaches_has : {t : Trie} → Proper t → (w : Word) → Reaches t w → Has t w
reaches_has {t} v w (j, e) =
    let (less, word) = walk_word v 0 j w (size_pos t) e in
    (j, less, rw (word_root t) at word)

pub has_reaches : {t : Trie} → Proper t → (w : Word) → Has t w → Reaches t w
has_reaches {t} v w (i, less, e) = (i, rw e at (walk_at v i less))

-- What a step and a word put in add.

step_has : {t : Trie} → Proper t → (p a : ℕ) → p < size t → (x : Word) → Has (step_trie t p a) x → Has t x ⊎ (x ≡ word_of t p ++ (a ∷ []))
step_has {t} v p a less x =
    by_step t p a (λ s n. Has s x → Has t x ⊎ (x ≡ word_of t p ++ (a ∷ [])))
    (λ z (i, h, e).
    elim (ℕ_discrete i (size t)) [
      | yes k ↦ inr (sym e ∙ rw k (word_new t p a))
      | no k ↦
          let old : i < size t = omega (arith, size-grow t p a) in
          inl (i, old, sym (word_old t p a i old) ∙ e)
    ])
    (λ n h. inl h)

-- a node that was there is there, with its word
step_word : (t : Trie) (p a i : ℕ) → i < size t → word_of (step_trie t p a) i ≡ word_of t i
step_word t p a i less =
    by_step t p a (λ s n. word_of s i ≡ word_of t i) (λ z. word_old t p a i less) (λ n. refl)

step_kept : (t : Trie) (p a : ℕ) (x : Word) → Has t x → Has (step_trie t p a) x
step_kept t p a x (i, less, e) =
    (i, omega (arith, step_grows t p a), step_word t p a i less ∙ e)

pub step_node_word : {t : Trie} → Proper t → (p a : ℕ) → p < size t → word_of (step_trie t p a) (step_node t p a) ≡ word_of t p ++ (a ∷ [])
step_node_word {t} v p a less =
    by_step t p a (λ s n. word_of s n ≡ word_of t p ++ (a ∷ [])) (λ z. word_new t p a) (λ n. child_word v p a n)

pub add_word_kept : (t : Trie) (p : ℕ) (w : Word) (i : ℕ) → i < size t → word_of (add_word t p w) i ≡ word_of t i
unfolding add_word
add_word_kept t p [] i less = refl
add_word_kept t p (a ∷ w) i less =
    add_word_kept (step_trie t p a) (step_node t p a) w i (omega (arith, step_grows t p a)) ∙ step_word t p a i less

-- the node of the end has the word
pub end_word : {t : Trie} → Proper t → (p : ℕ) (w : Word) → p < size t → (end_of t p w < size (add_word t p w)) × (word_of (add_word t p w) (end_of t p w) ≡ word_of t p ++ w)
unfolding add_word end_of
end_word {t = t} v p [] less = (less, sym (append-nil _))
end_word {t = t} v p (a ∷ w) less =
    let (in', e) = end_word {t = step_trie t p a} (step_proper v p a less) (step_node t p a) w (step_node_lt t p a) in
    (in', e ∙ rw (step_node_word v p a less, append_assoc))

-- the words that a word put in from p adds: p's word and a beginning of the word
pub add_has : {t : Trie} → Proper t → (p : ℕ) (w : Word) → p < size t → (x : Word) → Has (add_word t p w) x → Has t x ⊎ ((u : Word) × Begins u w × (x ≡ word_of t p ++ u))
unfolding add_word
add_has {t = t} v p [] less x h = inl h
add_has {t = t} v p (a ∷ w) less x h =
    elim (add_has {t = step_trie t p a} (step_proper v p a less) (step_node t p a) w (step_node_lt t p a) x h) [
      | inl h₁ ↦
          elim (step_has v p a less x h₁) [
            | inl h₂ ↦ inl h₂
            | inr e ↦ inr (a ∷ [], (w, refl), e)
          ]
      | inr (u, (rest, b), e) ↦ inr (a ∷ u, (rest, rw b), e ∙ rw (step_node_word v p a less, append_assoc))
    ]

pub has_add_old : (t : Trie) (p : ℕ) (w x : Word) → Has t x → Has (add_word t p w) x
unfolding add_word
has_add_old t p [] x h = h
has_add_old t p (a ∷ w) x h = has_add_old (step_trie t p a) (step_node t p a) w x (step_kept t p a x h)

pub has_add_new : {t : Trie} → Proper t → (p : ℕ) (w : Word) → p < size t → (u : Word) → Begins u w → Has (add_word t p w) (word_of t p ++ u)
unfolding add_word
has_add_new {t = t} v p w less [] b = has_add_old t p w _ (p, less, sym (append-nil _))
has_add_new {t = t} v p [] less (c ∷ u) (rest, e) =
    let z : ◌≡◌ {A = ℕ} 0 1 = cc in absurd (omega arith)
has_add_new {t = t} v p (a ∷ w) less (c ∷ u) (rest, e) =
    let ca : c ≡ a = cc in
    let b : u ++ rest ≡ w = cc in
    let r = has_add_new {t = step_trie t p a} (step_proper v p a less) (step_node t p a) w (step_node_lt t p a) u (rest, b) in
    rw ca (rw (step_node_word v p a less, append_assoc) at r)

-- all words

pub all_proper : {t : Trie} → Proper t → (ws : List Word) → Proper (add_all t ws)
unfolding add_all
all_proper {t = t} v [] = v
all_proper {t = t} v (w ∷ ws) = all_proper {t = add_word t 0 w} (add_proper v 0 w (size_pos t)) ws

pub all_has : {t : Trie} → Proper t → (ws : List Word) (x : Word) → Has (add_all t ws) x → Has t x ⊎ Started ws x
unfolding add_all
all_has {t = t} v [] x h = inl h
all_has {t = t} v (w ∷ ws) x h =
    elim (all_has {t = add_word t 0 w} (add_proper v 0 w (size_pos t)) ws x h) [
      | inl h₁ ↦
          elim (add_has v 0 w (size_pos t) x h₁) [
            | inl h₂ ↦ inl h₂
            | inr (u, b, e) ↦ inr (w, Memᴰ.head refl, rw (e, word_root t) b)
          ]
      | inr (y, m, b) ↦ inr (y, Memᴰ.tail m, b)
    ]

pub has_all_old : (t : Trie) (ws : List Word) (x : Word) → Has t x → Has (add_all t ws) x
unfolding add_all
has_all_old t [] x h = h
has_all_old t (w ∷ ws) x h = has_all_old (add_word t 0 w) ws x (has_add_old t 0 w x h)

pub has_all_new : {t : Trie} → Proper t → (ws : List Word) (x : Word) → Started ws x → Has (add_all t ws) x
unfolding add_all
has_all_new {t = t} v [] x (y, m, b) = absurd (Memᴰ.not-nil m)
has_all_new {t = t} v (w ∷ ws) x (y, m, b) =
    elim (Memᴰ.cases_cons m) [
      | inl e ↦ has_all_old (add_word t 0 w) ws x (rw (word_root t) at (has_add_new v 0 w (size_pos t) x (rw e at b)))
      | inr m₁ ↦ has_all_new {t = add_word t 0 w} (add_proper v 0 w (size_pos t)) ws x (y, m₁, b)
    ]

pub holding_proper : (ws : List Word) → Proper (holding ws)
holding_proper ws = all_proper proper_root ws

root_has : (x : Word) → Has root x → x ≡ []
unfolding word_of
root_has x (i, less, e) = sym e

has_root : Has root []
unfolding word_of size
has_root = (0, omega arith, refl)

add_all_snoc : (t : Trie) (ws : List Word) (w : Word) → add_all t (ws ++ (w ∷ [])) ≡ add_word (add_all t ws) 0 w
unfolding add_all
add_all_snoc t [] w = refl
add_all_snoc t (u ∷ ws) w = add_all_snoc (add_word t 0 u) ws w

-- one word more
pub holding_snoc : (ws : List Word) (w : Word) → holding (ws ++ (w ∷ [])) ≡ add_word (holding ws) 0 w
holding_snoc ws w = add_all_snoc root ws w

-- THE LAW: in the trie of the words ws, a walk from the root along w succeeds exactly where w is empty or begins a word of ws
pub reaches : (ws : List Word) (w : Word) → Reaches (holding ws) w ↔ ((w ≡ []) ⊎ Started ws w)
reaches ws w = (
  λ r.
      elim (all_has proper_root ws w (reaches_has (holding_proper ws) w r)) [ inl h ↦ inl (root_has w h) | inr s ↦ inr s ],
  λ s.
      has_reaches (holding_proper ws) w
      (elim s [
        | inl e ↦ has_all_old root ws w (rw e has_root)
        | inr b ↦ has_all_new proper_root ws w b
      ]),
)

-- where there is a word at all: exactly where w begins one of the words
pub reaches_any : (v : Word) (ws : List Word) (w : Word) → Reaches (holding (v ∷ ws)) w ↔ (any (begins w) (v ∷ ws) ≡ true)
reaches_any v ws w = (
  λ r.
      elim ((reaches (v ∷ ws) w).0 r) [
        | inl e ↦ any_of (begins w) {l = v ∷ ws} (Memᴰ.head refl) (begins_of w v (v, rw e))
        | inr (x, m, b) ↦ any_of (begins w) m (begins_of w x b)
      ],
  λ e. let (x, m, h) = any-true (begins w) (v ∷ ws) e in (reaches (v ∷ ws) w).1 (inr (x, m, begins-true w x h)),
)

-- two words lead to one node exactly where they are equal
pub walks_meet : {t : Trie} → Proper t → (u w : Word) (i j : ℕ) → walk_from t 0 u ≡ Some i → walk_from t 0 w ≡ Some j → (i ≡ j) ↔ (u ≡ w)
walks_meet {t} v u w i j e f = (
  λ same.
      let (less, word) = walk_word v 0 i u (size_pos t) e in
      let (less', word') = walk_word v 0 j w (size_pos t) f in
      let root_word = word_root t in
      let is : u ≡ word_of t i = sym (rw root_word at word) in
      let is' : w ≡ word_of t j = sym (rw root_word at word') in
      is ∙ ap (word_of t) same ∙ sym is',
  λ same. let k : walk_from t 0 u ≡ walk_from t 0 w = rw same in cc,
)

-- what a walk from the root says

pub begins_at : (v : Word) (ws : List Word) (w : Word) (r : Option ℕ) (j : ℕ) → r ≡ walk_from (holding (v ∷ ws)) 0 w → r ≡ Some j → true ≡ any (begins w) (v ∷ ws)
begins_at v ws w r j e k = sym ((reaches_any v ws w).0 (j, sym e ∙ k))

pub begins_off : (v : Word) (ws : List Word) (w : Word) (r : Option ℕ) → r ≡ walk_from (holding (v ∷ ws)) 0 w → r ≡ None → false ≡ any (begins w) (v ∷ ws)
begins_off v ws w r e k =
    elim (outcome (any (begins w) (v ∷ ws))) [
      | inl h ↦ let (j, f) = (reaches_any v ws w).1 h in off_at _ j (sym e ∙ k) f
      | inr h ↦ sym h
    ]

-- no trie of words has more nodes than the root and their inputs

add_size : (t : Trie) (p : ℕ) (w : Word) → size (add_word t p w) ≤ size t + length w
unfolding add_word
add_size t p [] = omega arith
add_size t p (a ∷ w) =
    let one = by_step t p a (λ s n. size s ≤ suc (size t)) (λ z. rw size-grow (omega arith)) (λ n. omega arith) in
    omega (arith, one, add_size (step_trie t p a) (step_node t p a) w)

all_size : (t : Trie) (ws : List Word) → size (add_all t ws) ≤ size t + sum (map length ws)
unfolding add_all
all_size t [] = omega arith
all_size t (w ∷ ws) = omega (arith, add_size t 0 w, all_size (add_word t 0 w) ws)

pub holding-size : (ws : List Word) → size (holding ws) ≤ suc (sum (map length ws))
unfolding size
holding-size ws = omega (arith, all_size root ws)
