-- The words that are no proper beginning of another, each once, put in order of inputs (document 01, "Build").
use Rattle.std.specs.Prelude.{ℕ, zero, suc, ◌+◌, ◌≤◌, ◌<◌, ◌≡◌, refl, ◌↔◌, ◌≢◌, ◌⊎◌, List, [], ◌∷◌, ◌++◌, map, Bool, true, false, not, length}
use Rattle.std.proofs.Common.{arith, sym, ◌∙◌, ap, append_assoc, append-nil, length-append}
use Rattle.std.proofs.Math.Logic.{inl, inr}
use mathlib.Core.List.Memᴰ
use Rattle.std.proofs.lemmas.Bool.{not-true, not-false}
use Rattle.rules.specs.Lists.{◌∈◌, any, keep}
use Rattle.rules.specs.Words.{Word, same, Begins, begins, begins_properly, by_inputs, is_in}
use Rattle.rules.specs.Needed.{distinct, maximal_of, insert, ordered}
use Rattle.theory.specs.Lists.{outcome, clash, any-true, any_false, none_any, in_keep, of_keep, keep_shorter, Rising, rising_too}
use Rattle.theory.specs.Words.{both, same_true, same_refl, same_false, differ_same, in_is_in, is_in_in, begins-true, begins_of}
use Rattle.theory.specs.Orders.{ByInputs, by_inputs_transitive, by_inputs_total}

-- v is a beginning of w and not w itself
abbrev pub ProperlyBegins : Word → Word → Type 0
ProperlyBegins v w = Begins v w × (v ≢ w)

properly_true : (v w : Word) → begins_properly v w ≡ true → ProperlyBegins v w
properly_true v w e = let (b, n) = both {a = begins v w} e in (begins-true v w b, same_false (not-true _ n))

properly_of : (v w : Word) → ProperlyBegins v w → begins_properly v w ≡ true
properly_of v w (b, ne) = rw (begins_of v w b, differ_same ne)

begins_trans : (u v w : Word) → Begins u v → Begins v w → Begins u w
begins_trans u v w (x, e) (y, f) = (x ++ y, sym (append_assoc u x y) ∙ ap (λ z. z ++ y) e ∙ f)

properly_longer : (v w : Word) → ProperlyBegins v w → length v < length w
properly_longer v w (([], e), ne) = absurd (ne (sym (append-nil v) ∙ e))
properly_longer v w ((a ∷ x, e), ne) = rw (← e, length-append) (omega arith)

-- no two members of the list at different places are equal
abbrev pub Apart : List Word → Type 0
Apart ws = Rising (λ v w. v ≢ w) ws

pub in_distinct : (w : Word) (ws : List Word) → (w ∈ distinct ws) ↔ (w ∈ ws)
in_distinct w [] = (λ m. m, λ m. m)
in_distinct w (v ∷ ws) = (
  λ m.
      elim (Memᴰ.cases_cons m) [
        | inl e ↦ Memᴰ.head e
        | inr n ↦ Memᴰ.tail ((in_distinct w ws).0 (of_keep _ (distinct ws) n).0)
      ],
  λ m.
      elim (outcome (same w v)) [
        | inl e ↦ Memᴰ.head (same_true w v e)
        | inr ne ↦
            elim (Memᴰ.cases_cons m) [
              | inl e ↦ Memᴰ.head e
              | inr n ↦ Memᴰ.tail (in_keep (λ u. not (same u v)) ((in_distinct w ws).1 n) (rw ne))
            ]
      ],
)

keep_rising : {A : Type 0} (before : A → A → Type 0) (test : A → Bool) (l : List A) → Rising before l → Rising before (keep test l)
keep_rising before test [] r = tt
keep_rising before test (x ∷ l) (ahead, r) =
    elim (outcome (test x)) [
      | inl e ↦ rw e (λ y m. ahead y (of_keep test l m).0, keep_rising before test l r)
      | inr e ↦ rw e (keep_rising before test l r)
    ]

pub distinct_apart : (ws : List Word) → Apart (distinct ws)
distinct_apart [] = tt
distinct_apart (w ∷ ws) = (
  λ v m e. same_false (not-true _ (of_keep (λ u. not (same u w)) (distinct ws) m).1) (sym e),
  keep_rising (λ v w. v ≢ w) (λ u. not (same u w)) (distinct ws) (distinct_apart ws),
)

-- Each at its first place: of two words of things in order, the one that is kept earlier is the word of a thing that comes before
-- all that have the other word.
pub distinct_order : {A : Type 0} (before : A → A → Type 0) (f : A → Word) (l : List A) → Rising before l
    → Rising (λ v w. (a : A) × (a ∈ l) × (f a ≡ v) × ((b : A) → b ∈ l → f b ≡ w → before a b)) (distinct (map f l))
distinct_order before f [] r = tt
distinct_order {A} before f (a ∷ l) (ahead, r) = (
  λ w m. (
    a,
    Memᴰ.head refl,
    refl,
    λ b n e. elim (Memᴰ.cases_cons n) [ inl is ↦ absurd (other w m (sym e ∙ ap f is)) | inr n' ↦ ahead b n' ],
  ),
  rising_too _ _ (keep (λ v. not (same v (f a))) (distinct (map f l)))
      (λ v w in_v in_w (b, n, e, later). (
        b,
        Memᴰ.tail n,
        e,
        λ c o is. elim (Memᴰ.cases_cons o) [ inl is_a ↦ absurd (other w in_w (sym is ∙ ap f is_a)) | inr o' ↦ later c o' is ],
      ))
      (keep_rising _ (λ v. not (same v (f a))) (distinct (map f l)) (distinct_order before f l r)),
)
  where
    other : (w : Word) → w ∈ keep (λ v. not (same v (f a))) (distinct (map f l)) → w ≢ f a
    other w m = same_false (not-true _ (of_keep (λ v. not (same v (f a))) (distinct (map f l)) m).1)

-- Words that are apart are no more than those of a list that has them all,
apart_fewer : (l r : List Word) → Apart l → ((w : Word) → w ∈ l → w ∈ r) → length l ≤ length r
apart_fewer [] r apart sub = omega arith
apart_fewer (v ∷ l) r (other, apart) sub =
    let test : Word → Bool = λ w. not (same w v) in
    let less = keep_shorter test (sub v (Memᴰ.head refl)) (rw (same_refl v)) in
    omega (arith, apart_fewer l (keep test r) apart (λ w m. in_keep test (sub w (Memᴰ.tail m)) (rw (differ_same (λ e. other w m (sym e))))))

-- so lists with the same words have as many distinct ones.
pub distinct_count : (l r : List Word) → ((w : Word) → (w ∈ l) ↔ (w ∈ r)) → length (distinct l) ≡ length (distinct r)
distinct_count l r alike =
    let fewer = apart_fewer (distinct l) (distinct r) (distinct_apart l) (λ w m. (in_distinct w r).1 ((alike w).0 ((in_distinct w l).0 m))) in
    let more = apart_fewer (distinct r) (distinct l) (distinct_apart r) (λ w m. (in_distinct w l).1 ((alike w).1 ((in_distinct w r).0 m))) in
    omega arith

-- One word more is kept behind the others, unless it is there already.
pub keep_append : {A : Type 0} (test : A → Bool) (l r : List A) → keep test (l ++ r) ≡ keep test l ++ keep test r
keep_append test [] r = refl
keep_append test (x ∷ l) r = elim (outcome (test x)) [ inl e ↦ rw (e, keep_append test l r) | inr e ↦ rw (e, keep_append test l r) ]

pub distinct_new : (w : Word) (ws : List Word) → ¬ (w ∈ ws) → distinct (ws ++ (w ∷ [])) ≡ distinct ws ++ (w ∷ [])
distinct_new w [] new = refl
distinct_new w (v ∷ ws) new =
    let other : same w v ≡ false = differ_same (λ e. new (Memᴰ.head e)) in
    let last : keep (λ x. not (same x v)) (w ∷ []) ≡ w ∷ [] = rw other in
    rw (distinct_new w ws (λ m. new (Memᴰ.tail m)), keep_append (λ x. not (same x v)) (distinct ws) (w ∷ []), last)

pub distinct_known : (w : Word) (ws : List Word) → w ∈ ws → distinct (ws ++ (w ∷ [])) ≡ distinct ws
distinct_known w [] m = absurd (Memᴰ.not-nil m)
distinct_known w (v ∷ ws) m =
    elim (outcome (is_in w ws)) [
      | inl known ↦ rw (distinct_known w ws (is_in_in known))
      | inr new ↦
          let is : w ≡ v = elim (Memᴰ.cases_cons m) [ inl e ↦ e | inr n ↦ clash (in_is_in n) new ] in
          let last : keep (λ x. not (same x v)) (w ∷ []) ≡ [] = rw (is, same_refl v) in
          rw (distinct_new w ws (λ n. clash (in_is_in n) new), keep_append (λ x. not (same x v)) (distinct ws) (w ∷ []), last, append-nil)
    ]

-- w is in the list, and a proper beginning of nothing in it
pub record IsMaximal (ws : List Word) (w : Word) : Type 0 where
  pub member : w ∈ ws
  pub maximal : (v : Word) → v ∈ ws → ¬ ProperlyBegins w v

module _ (ws : List Word) where
  abbrev alone : Word → Bool
  alone w = not (any (begins_properly w) ws)

  alone_maximal : (w : Word) → alone w ≡ true → (v : Word) → v ∈ ws → ¬ ProperlyBegins w v
  alone_maximal w e v m b = clash (properly_of w v b) (any_false (begins_properly w) (not-true _ e) m)

  pub in_maximal : (w : Word) → (w ∈ maximal_of ws) ↔ IsMaximal ws w
  unfolding maximal_of
  in_maximal w = (
    λ m.
        let (n, e) = of_keep alone ws ((in_distinct w (keep alone ws)).0 m) in
        record { member = n; maximal = alone_maximal w e },
    λ x.
        (in_distinct w (keep alone ws)).1
        (in_keep alone x.member
        (rw (none_any (begins_properly w) ws (λ v m. elim (outcome (begins_properly w v)) [ inl e ↦ absurd (x.maximal v m (properly_true w v e)) | inr e ↦ e ])))),
  )

  pub maximal_apart : Apart (maximal_of ws)
  unfolding maximal_of
  maximal_apart = distinct_apart (keep alone ws)

  -- the longest member has so many inputs
  longest : (l : List Word) → (most : ℕ) × ((w : Word) → w ∈ l → length w ≤ most)
  longest [] = (0, λ w m. absurd (Memᴰ.not-nil m))
  longest (v ∷ l) =
      let (most, h) = longest l in
      (length v + most, λ w m. elim (Memᴰ.cases_cons m) [ inl e ↦ rw e (omega arith) | inr n ↦ let s = h w n in omega arith ])

  -- Every word of the list begins a maximal one.
  pub begins_maximal : (w : Word) → w ∈ ws → (t : Word) × (t ∈ maximal_of ws) × Begins w t
  begins_maximal w m = let (most, h) = longest ws in climb most h (suc most) w m (omega arith)
    where
      climb : (most : ℕ) → ((v : Word) → v ∈ ws → length v ≤ most) → (fuel : ℕ) (w : Word) → w ∈ ws → most < length w + fuel → (t : Word) × (t ∈ maximal_of ws) × Begins w t
      climb most h zero w m low = let s = h w m in absurd (omega arith)
      climb most h (suc fuel) w m low =
          elim (outcome (alone w)) [
            | inl e ↦ (w, (in_maximal w).1 (record { member = m; maximal = alone_maximal w e }), ([], append-nil w))
            | inr e ↦
                let (v, n, b) = any-true (begins_properly w) ws (not-false _ e) in
                let proper = properly_true w v b in
                let longer = properly_longer w v proper in
                let (t, in_t, b') = climb most h fuel v n (omega arith) in
                (t, in_t, begins_trans w v t proper.0 b')
          ]

pub in_insert : (w v : Word) (l : List Word) → (w ∈ insert v l) ↔ ((w ≡ v) ⊎ (w ∈ l))
in_insert w v [] = (λ m. Memᴰ.cases_cons m, λ s. elim s [ inl e ↦ Memᴰ.head e | inr m ↦ Memᴰ.tail m ])
in_insert w v (u ∷ l) =
    elim (outcome (by_inputs u v)) [
      | inl e ↦
          rw e (
            λ m.
                elim (Memᴰ.cases_cons m) [
                  | inl h ↦ inr (Memᴰ.head h)
                  | inr n ↦ elim ((in_insert w v l).0 n) [ inl h ↦ inl h | inr n' ↦ inr (Memᴰ.tail n') ]
                ],
            λ s.
                elim s [
                  | inl h ↦ Memᴰ.tail ((in_insert w v l).1 (inl h))
                  | inr m ↦ elim (Memᴰ.cases_cons m) [ inl h ↦ Memᴰ.head h | inr n ↦ Memᴰ.tail ((in_insert w v l).1 (inr n)) ]
                ],
          )
      | inr e ↦ rw e (λ m. Memᴰ.cases_cons m, λ s. elim s [ inl h ↦ Memᴰ.head h | inr m ↦ Memᴰ.tail m ])
    ]

pub in_ordered : (w : Word) (l : List Word) → (w ∈ ordered l) ↔ (w ∈ l)
in_ordered w [] = (λ m. m, λ m. m)
in_ordered w (v ∷ l) = (
  λ m. elim ((in_insert w v (ordered l)).0 m) [ inl e ↦ Memᴰ.head e | inr n ↦ Memᴰ.tail ((in_ordered w l).0 n) ],
  λ m.
      (in_insert w v (ordered l)).1
      (elim (Memᴰ.cases_cons m) [ inl e ↦ inl e | inr n ↦ inr ((in_ordered w l).1 n) ]),
)

insert_rising : (v : Word) (l : List Word) → Rising ByInputs l → ((w : Word) → w ∈ l → v ≢ w) → Rising ByInputs (insert v l)
insert_rising v [] r apart = (λ w m. absurd (Memᴰ.not-nil m), tt)
insert_rising v (u ∷ l) (ahead, r) apart =
    elim (outcome (by_inputs u v)) [
      | inl e ↦
          rw e (
            λ w m. elim ((in_insert w v l).0 m) [ inl h ↦ rw h e | inr n ↦ ahead w n ],
            insert_rising v l r (λ w m. apart w (Memᴰ.tail m)),
          )
      | inr e ↦
          let before : ByInputs v u = elim (by_inputs_total v u (apart u (Memᴰ.head refl))) [ inl h ↦ h | inr h ↦ clash h e ] in
          rw e (
            λ w m. elim (Memᴰ.cases_cons m) [ inl h ↦ rw h before | inr n ↦ by_inputs_transitive v u w before (ahead w n) ],
            (ahead, r),
          )
    ]

-- Put in order, words that differ stand strictly in order of inputs.
pub ordered_rising : (l : List Word) → Apart l → Rising ByInputs (ordered l)
ordered_rising [] r = tt
ordered_rising (w ∷ l) (apart, r) = insert_rising w (ordered l) (ordered_rising l r) (λ v m. apart v ((in_ordered v l).0 m))
