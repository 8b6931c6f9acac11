-- The words that `maximal` lists: exactly the maximal ones, in order, each once.
use Rattle.std.specs.Prelude.{ℕ, zero, suc, ◌+◌, ◌≤◌, ◌<◌, ◌≡◌, cond, ◌⊎◌, ◌↔◌, eqb, Some}
use Rattle.std.proofs.Math.Path.{refl}
use Rattle.std.proofs.Common.{sym, ap, ◌∙◌, inl, inr, arith, eq-eqb, ne_eqb, lt-ltb, le-ltb}
use mathlib.Core.List.Memᴰ
use mathlib.Core.List.{List, [], ◌∷◌, ◌++◌, append_assoc, append-nil, List-discrete}
use Rattle.std.proofs.Math.Decide.{ℕ_discrete}
use Rattle.rules.specs.Lists.{◌∈◌}
use Rattle.rules.specs.Words.{Word, Valid}
use Rattle.rules.specs.Needed.{maximal_of, ordered}
use Rattle.theory.specs.Lists.{Rising, append_rising}
use Rattle.theory.specs.Orders.{ByInputs, by_inputs_irreflexive, by_inputs_transitive}
use Rattle.theory.specs.Maximal.{IsMaximal, in_maximal, maximal_apart, in_ordered, ordered_rising}
use Rattle.trie.specs.Model.{Trie, root, grow, size, first_of, child_in, walk_from, Proper, step_trie, step_node, add_word, add_all, holding}
use Rattle.trie.specs.Grow.{size_pos, child_lt, child_other, by_step}
use Rattle.trie.specs.Words.{Has, Reaches, Started, walk_some, walk_none, off_at, walk_on, child_gt, has_reaches, reaches_has, reaches, holding_proper}
use Rattle.trie_lister.specs.Visits.{gather, leaves, maximal}

-- the trie has the word, and none that goes on behind it
abbrev pub Maximal : Trie → Word → Type 0
Maximal t x = Has t x × ((y : Word) → Has t (x ++ y) → y ≡ [])

-- every label is below k
abbrev pub Labels : ℕ → Trie → Type 0
Labels k root = Unit {0}
Labels k (grow t p a) = (a < k) × Labels k t

-- Leaves.

pub leaf_child : (t : Trie) (p a : ℕ) → first_of t p ≡ 0 → child_in t p a ≡ 0
unfolding first_of child_in
leaf_child root p a z = refl
leaf_child (grow t q b) p a z =
    elim (ℕ_discrete q p) [
      | yes e ↦ let f : size t ≡ 0 = rw (eq-eqb q p e) at z in absurd (omega (arith, size_pos t))
      | no n ↦ rw (ne_eqb q p n) (leaf_child t p a (rw (ne_eqb q p n) at z))
    ]

child_leaf : (t : Trie) (p : ℕ) → ((a : ℕ) → child_in t p a ≡ 0) → first_of t p ≡ 0
unfolding first_of child_in
child_leaf root p h = refl
child_leaf (grow t q b) p h =
    elim (ℕ_discrete q p) [
      | yes e ↦ absurd (omega (arith, size_pos t, rw (eq-eqb q p e, eq-eqb b b refl) at (h b)))
      | no n ↦ rw (ne_eqb q p n) (child_leaf t p (λ a. rw (ne_eqb q p n) at (h a)))
    ]

pub child_label : (k : ℕ) (t : Trie) → Labels k t → (p a : ℕ) → (child_in t p a ≡ 0 → ⊥) → a < k
child_label k root l p a n = absurd (n (leaf_child root p a leaf))
  where
    leaf : first_of root p ≡ 0
    leaf = unfold first_of in refl
child_label k (grow t q b) (less, l) p a n =
    elim (ℕ_discrete b a) [
      | yes e ↦ omega arith
      | no o ↦ child_label k t l p a (λ z. n (child_other t q b p a (λ x y. o y) ∙ z))
    ]

-- What is gathered.

in_gather : (g : ℕ → List Word) (a n b : ℕ) (x : Word) → a ≤ b → b < a + n → x ∈ g b → x ∈ gather g a n
unfolding gather
in_gather g a zero b x low high m = absurd (omega arith)
in_gather g a (suc n) b x low high m =
    elim (ℕ_discrete a b) [
      | yes e ↦ Memᴰ.append_left {s = g a} _ (rw e m)
      | no o ↦ Memᴰ.append_right (g a) (in_gather g (suc a) n b x (omega arith) (omega arith) m)
    ]

of_gather : (g : ℕ → List Word) (a n : ℕ) (x : Word) → x ∈ gather g a n → (b : ℕ) × (a ≤ b) × (b < a + n) × (x ∈ g b)
unfolding gather
of_gather g a zero x m = absurd (Memᴰ.not-nil m)
of_gather g a (suc n) x m =
    elim (Memᴰ.append_cases (g a) m) [
      | inl here ↦ (a, omega arith, omega arith, here)
      | inr later ↦ let (b, low, high, h) = of_gather g (suc a) n x later in (b, omega arith, omega arith, h)
    ]

-- what the child of i with the input a gives
abbrev branch : Trie → ℕ → ℕ → ℕ → List ℕ → ℕ → List Word
branch t k d i u a = cond (eqb (child_in t i a) 0) [] (leaves t k d (child_in t i a) (u ++ (a ∷ [])))

of_branch : (t : Trie) (k d i : ℕ) (u : Word) (a : ℕ) (x : Word) → x ∈ branch t k d i u a → (child_in t i a ≡ 0 → ⊥) × (x ∈ leaves t k d (child_in t i a) (u ++ (a ∷ [])))
of_branch t k d i u a x m =
    elim (ℕ_discrete (child_in t i a) 0) [
      | yes z ↦ absurd (Memᴰ.not-nil (rw (eq-eqb (child_in t i a) 0 z) at m))
      | no n ↦ (n, rw (ne_eqb (child_in t i a) 0 n) at m)
    ]

-- each word that is listed is that of a walk to a leaf
of_leaves : (t : Trie) (k d i : ℕ) (u x : Word) → x ∈ leaves t k d i u → (v : Word) × (j : ℕ) × (x ≡ u ++ v) × (walk_from t i v ≡ Some j) × (first_of t j ≡ 0)
unfolding leaves walk_from
of_leaves t k zero i u x m = absurd (Memᴰ.not-nil m)
of_leaves t k (suc d) i u x m =
    elim (ℕ_discrete (first_of t i) 0) [
      | yes z ↦
          let e : x ≡ u = Memᴰ.eq_of_singleton (rw (eq-eqb (first_of t i) 0 z) at m) in
          ([], i, e ∙ sym (append-nil u), refl, z)
      | no n ↦
          let (a, low, high, b) = of_gather (branch t k d i u) 0 k x (rw (ne_eqb (first_of t i) 0 n) at m) in
          let (c, m₁) = of_branch t k d i u a x b in
          let (v, j, e, w, z) = of_leaves t k d (child_in t i a) (u ++ (a ∷ [])) x m₁ in
          (a ∷ v, j, e ∙ append_assoc u (a ∷ []) v, walk_some t i a v c ∙ w, z)
    ]

-- each walk to a leaf is listed
in_leaves : {t : Trie} → Proper t → (k d i j : ℕ) → Labels k t → (u v : Word) → i < size t → size t ≤ i + d → walk_from t i v ≡ Some j → first_of t j ≡ 0 → (u ++ v) ∈ leaves t k d i u
unfolding leaves walk_from
in_leaves v k zero i j l u w less deep e z = absurd (omega arith)
in_leaves {t} v k (suc d) i j l u [] less deep e z =
    let s : i ≡ j = cc in
    rw (eq-eqb (first_of t i) 0 (ap (first_of t) s ∙ z)) (Memᴰ.head (append-nil u))
in_leaves {t} v k (suc d) i j l u (a ∷ w) less deep e z =
    elim (ℕ_discrete (child_in t i a) 0) [
      | yes y ↦ off_at _ j (walk_none t i a w y) e
      | no n ↦
          let inner : first_of t i ≡ 0 → ⊥ = λ y. n (leaf_child t i a y) in
          let up = child_gt v i a n in
          let rec = in_leaves v k d (child_in t i a) j l (u ++ (a ∷ [])) w (child_lt t i a) (omega arith) (sym (walk_some t i a w n) ∙ e) z in
          rw (ne_eqb (first_of t i) 0 inner)
          (in_gather (branch t k d i u) 0 k a (u ++ (a ∷ w)) (omega arith) (omega (arith, child_label k t l i a n))
          (rw (ne_eqb (child_in t i a) 0 n) (rw append_assoc at rec)))
    ]

-- Order.

before_at : (u : Word) (a b : ℕ) (v w : Word) → a < b → ByInputs (u ++ (a ∷ v)) (u ++ (b ∷ w))
before_at [] a b v w less = rw (lt-ltb a b less)
before_at (c ∷ u) a b v w less = rw (le-ltb c c (omega arith), eq-eqb c c refl) (before_at u a b v w less)

rising_gather : (g : ℕ → List Word) → ((a : ℕ) → Rising ByInputs (g a)) → ((a b : ℕ) (x y : Word) → a < b → x ∈ g a → y ∈ g b → ByInputs x y) → (a n : ℕ) → Rising ByInputs (gather g a n)
unfolding gather
rising_gather g each apart a zero = tt
rising_gather g each apart a (suc n) =
    append_rising ByInputs (g a) (gather g (suc a) n) (each a) (rising_gather g each apart (suc a) n)
    (λ x y m m₁.
    let (b, low, high, m₂) = of_gather g (suc a) n y m₁ in
    apart a b x y low m m₂)

pub leaves_rising : (t : Trie) (k d i : ℕ) (u : Word) → Rising ByInputs (leaves t k d i u)
unfolding leaves
leaves_rising t k zero i u = tt
leaves_rising t k (suc d) i u =
    elim (ℕ_discrete (first_of t i) 0) [
      | yes z ↦ rw (eq-eqb (first_of t i) 0 z) ((λ x m. absurd (Memᴰ.not-nil m)), tt)
      | no n ↦
          let each : (a : ℕ) → Rising ByInputs (branch t k d i u a) =
          λ a.
          elim (ℕ_discrete (child_in t i a) 0) [
            | yes z ↦ rw (eq-eqb (child_in t i a) 0 z) tt
            | no o ↦ rw (ne_eqb (child_in t i a) 0 o) (leaves_rising t k d (child_in t i a) (u ++ (a ∷ [])))
          ]
          in
          rw (ne_eqb (first_of t i) 0 n) (rising_gather (branch t k d i u) each (apart t k d i u) 0 k)
    ]
  where
    starts : (t : Trie) (k d i : ℕ) (u : Word) (a : ℕ) (x : Word) → x ∈ branch t k d i u a → (v : Word) × (x ≡ u ++ (a ∷ v))
    starts t k d i u a x m =
        let (c, m₁) = of_branch t k d i u a x m in
        let (v, j, e, w, z) = of_leaves t k d (child_in t i a) (u ++ (a ∷ [])) x m₁ in
        (v, e ∙ append_assoc u (a ∷ []) v)

    apart : (t : Trie) (k d i : ℕ) (u : Word) (a b : ℕ) (x y : Word) → a < b → x ∈ branch t k d i u a → y ∈ branch t k d i u b → ByInputs x y
    apart t k d i u a b x y less m n =
        let (v, e) = starts t k d i u a x m in
        let (w, f) = starts t k d i u b y n in
        rw (e, f) (before_at u a b v w less)

-- THE LAWS

-- the maximal words come in order, so each once
pub maximal_rising : (t : Trie) (k : ℕ) → Rising ByInputs (maximal t k)
maximal_rising t k = leaves_rising t k (size t) 0 []

-- a word is maximal exactly if the walk along it ends at a leaf
leaf_maximal : {t : Trie} → Proper t → (x : Word) (j : ℕ) → walk_from t 0 x ≡ Some j → first_of t j ≡ 0 → Maximal t x
leaf_maximal {t} v x j e z = (
  reaches_has v x (j, e),
  λ y h. go y (has_reaches v (x ++ y) h),
)
  where
    go : (y : Word) → Reaches t (x ++ y) → y ≡ []
    go [] r = refl
    go (a ∷ y) (i, r) =
        off_at _ i (walk_none t j a y (leaf_child t j a z)) (sym (walk_on t 0 j x (a ∷ y) e) ∙ r)

maximal_leaf : {t : Trie} → Proper t → (x : Word) → Maximal t x → (j : ℕ) × (walk_from t 0 x ≡ Some j) × (first_of t j ≡ 0)
maximal_leaf {t} v x (h, last) =
    let (j, e) = has_reaches v x h in (
      j,
      e,
      child_leaf t j (λ a.
          elim (ℕ_discrete (child_in t j a) 0) [
            | yes z ↦ z
            | no n ↦
                let w : walk_from t 0 (x ++ (a ∷ [])) ≡ Some (child_in t j a) = walk_on t 0 j x (a ∷ []) e ∙ walk_some t j a [] n ∙ walk_nil t (child_in t j a) in
                let none : a ∷ [] ≡ [] = last (a ∷ []) (reaches_has v (x ++ (a ∷ [])) (child_in t j a, w)) in
                let bad : ◌≡◌ {A = ℕ} 0 1 = cc in
                absurd (omega arith)
          ]),
    )
  where
    walk_nil : (t : Trie) (i : ℕ) → walk_from t i [] ≡ Some i
    walk_nil t i = unfold walk_from in refl

pub maximal_is : {t : Trie} → Proper t → (k : ℕ) → Labels k t → (x : Word) → (x ∈ maximal t k) ↔ Maximal t x
maximal_is {t} v k l x = (
  λ m.
      let (w, j, e, walk, z) = of_leaves t k (size t) 0 [] x m in
      leaf_maximal v x j (ap (walk_from t 0) e ∙ walk) z,
  λ h.
      let (j, e, z) = maximal_leaf v x h in
      in_leaves v k (size t) 0 j l [] x (size_pos t) (omega arith) e z,
)

-- the labels of the trie of words are those words' inputs

step_labels : (k : ℕ) (t : Trie) (p a : ℕ) → a < k → Labels k t → Labels k (step_trie t p a)
step_labels k t p a less l = by_step t p a (λ s n. Labels k s) (λ z. (less, l)) (λ n. l)

add_labels : (k : ℕ) (t : Trie) (p : ℕ) (w : Word) → Valid k w → Labels k t → Labels k (add_word t p w)
unfolding add_word
add_labels k t p [] i l = l
add_labels k t p (a ∷ w) (less, i) l = add_labels k (step_trie t p a) (step_node t p a) w i (step_labels k t p a less l)

all_labels : (k : ℕ) (t : Trie) (ws : List Word) → ((w : Word) → w ∈ ws → Valid k w) → Labels k t → Labels k (add_all t ws)
unfolding add_all
all_labels k t [] h l = l
all_labels k t (w ∷ ws) h l =
    all_labels k (add_word t 0 w) ws (λ x m. h x (Memᴰ.tail m)) (add_labels k t 0 w (h w (Memᴰ.head refl)) l)

pub holding_labels : (k : ℕ) (ws : List Word) → ((w : Word) → w ∈ ws → Valid k w) → Labels k (holding ws)
holding_labels k ws h = all_labels k root ws h tt

-- of words: one is listed exactly if it is one of them, or empty, and none of them goes on behind it
abbrev pub Last : List Word → Word → Type 0
Last ws x = ((x ≡ []) ⊎ (x ∈ ws)) × ((w y : Word) → w ∈ ws → x ++ y ≡ w → y ≡ [])

pub nil_right : (x y : Word) → x ++ y ≡ [] → y ≡ []
nil_right [] y e = e
nil_right (a ∷ x) y e =
    let z : ◌≡◌ {A = ℕ} 0 1 = cc in absurd (omega arith)

nil_left : (x y : Word) → x ++ y ≡ [] → x ≡ []
nil_left [] y e = refl
nil_left (a ∷ x) y e =
    let z : ◌≡◌ {A = ℕ} 0 1 = cc in absurd (omega arith)

pub maximal_words : (k : ℕ) (ws : List Word) → ((w : Word) → w ∈ ws → Valid k w) → (x : Word) → (x ∈ maximal (holding ws) k) ↔ Last ws x
maximal_words k ws h x =
    let v = holding_proper ws in
    let is = maximal_is v k (holding_labels k ws h) x in
    (λ m. to (is.0 m), λ l. is.1 (from l))
  where
    has : (y : Word) → Has (holding ws) y → (y ≡ []) ⊎ Started ws y
    has y m = (reaches ws y).0 (has_reaches (holding_proper ws) y m)

    had : (y : Word) → (y ≡ []) ⊎ Started ws y → Has (holding ws) y
    had y s = reaches_has (holding_proper ws) y ((reaches ws y).1 s)

    to : Maximal (holding ws) x → Last ws x
    to (m, last) =
        let end : (w y : Word) → w ∈ ws → x ++ y ≡ w → y ≡ [] =
        λ w y i e. last y (had (x ++ y) (inr (w, i, ([], append-nil (x ++ y) ∙ e))))
        in (
          elim (has x m) [
            | inl e ↦ inl e
            | inr (w, i, (rest, e)) ↦
                let none : rest ≡ [] = end w rest i e in
                let same : x ≡ w = sym (append-nil x) ∙ rw none at e in
                inr (rw same i)
          ],
          end,
        )

    from : Last ws x → Maximal (holding ws) x
    from (i, end) = (
      had x (elim i [ inl e ↦ inl e | inr m ↦ inr (x, m, ([], append-nil x)) ]),
      λ y m.
          elim (has (x ++ y) m) [
            | inl e ↦ nil_right x y e
            | inr (w, n, (rest, e)) ↦ nil_left y rest (end w (y ++ rest) n (sym (append_assoc x y rest) ∙ e))
          ],
    )

-- Two lists that rise by inputs and have the same members are equal.
pub rising_unique : (l r : List Word) → Rising ByInputs l → Rising ByInputs r → ((x : Word) → (x ∈ l) ↔ (x ∈ r)) → l ≡ r
rising_unique [] [] rl rr same = refl
rising_unique [] (y ∷ r) rl rr same = absurd (Memᴰ.not-nil ((same y).1 (Memᴰ.head refl)))
rising_unique (x ∷ l) [] rl rr same = absurd (Memᴰ.not-nil ((same x).0 (Memᴰ.head refl)))
rising_unique (x ∷ l) (y ∷ r) (ahead, rl) (ahead', rr) same =
    let e : x ≡ y =
    elim (Memᴰ.cases_cons ((same x).0 (Memᴰ.head refl))) [
      | inl e ↦ e
      | inr m ↦
          elim (Memᴰ.cases_cons ((same y).1 (Memᴰ.head refl))) [
            | inl e ↦ sym e
            | inr n ↦ absurd (by_inputs_irreflexive x (by_inputs_transitive x y x (ahead y n) (ahead' x m)))
          ]
    ]
    in
    let rest = rising_unique l r rl rr (λ z. (behind x l y r e (λ u. (same u).0) ahead z, behind y r x l (sym e) (λ u. (same u).1) ahead' z)) in
    cc
  where
    behind : (x : Word) (l : List Word) (y : Word) (r : List Word) → x ≡ y → ((u : Word) → u ∈ x ∷ l → u ∈ y ∷ r) → ((u : Word) → u ∈ l → ByInputs x u)
        → (z : Word) → z ∈ l → z ∈ r
    behind x l y r e to ahead z m =
        elim (Memᴰ.cases_cons (to z (Memᴰ.tail m))) [
          | inl f ↦ absurd (by_inputs_irreflexive x (rw (f ∙ sym e) at (ahead z m)))
          | inr n ↦ n
        ]

-- THE BRIDGE: the trie of some words, whose inputs are all below k, lists what document 01 has build write of them: those that
-- are no proper beginning of another, each once, by inputs.
pub lists_ordered : (k : ℕ) (w : Word) (ws : List Word) → ((x : Word) → x ∈ w ∷ ws → Valid k x) → maximal (holding (w ∷ ws)) k ≡ ordered (maximal_of (w ∷ ws))
lists_ordered k w ws valid =
    rising_unique (maximal (holding (w ∷ ws)) k) (ordered (maximal_of (w ∷ ws))) (maximal_rising (holding (w ∷ ws)) k)
    (ordered_rising (maximal_of (w ∷ ws)) (maximal_apart (w ∷ ws)))
    (λ x.
    let listed = maximal_words k (w ∷ ws) valid x in (
      λ m. (in_ordered x (maximal_of (w ∷ ws))).1 ((in_maximal (w ∷ ws) x).1 (to x (listed.0 m))),
      λ m. listed.1 (from x ((in_maximal (w ∷ ws) x).0 ((in_ordered x (maximal_of (w ∷ ws))).0 m))),
    ))
  where
    to : (x : Word) → Last (w ∷ ws) x → IsMaximal (w ∷ ws) x
    to x (which, end) =
        record {
          member = elim which [
            | inl e ↦ Memᴰ.head (e ∙ sym (end w w (Memᴰ.head refl) (ap (λ (u : Word). u ++ w) e)))
            | inr m ↦ m
          ];
          maximal = λ v m ((rest, e), ne). ne (sym (append-nil x) ∙ rw (end v rest m e) at e);
        }

    none_behind : (x y : Word) → x ++ y ≡ x → y ≡ []
    none_behind [] y e = e
    none_behind (a ∷ x) y e = none_behind x y (cc)

    from : (x : Word) → IsMaximal (w ∷ ws) x → Last (w ∷ ws) x
    from x is = (
      inr is.member,
      λ v y m e.
          elim (List-discrete ℕ_discrete x v) [
            | yes same ↦ none_behind x y (e ∙ sym same)
            | no ne ↦ absurd (is.maximal v m ((y, e), ne))
          ],
    )
