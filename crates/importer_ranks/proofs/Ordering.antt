-- The order in which states are numbered, and the order in which their names are met: how both grow line by line, and that the states that are
-- next states alone come last, as they were met.
use mathlib.Core.Path.{◌≡◌, refl, sym, ap, ◌∙◌}
use mathlib.Core.Logic.{inl, inr}
use mathlib.Core.List.Memᴰ
use mathlib.Core.List.{List, [], ◌∷◌, ◌++◌, map, flat_map, map-append, append_assoc, append-nil}
use mathlib.Core.Bool.{Bool, true, false, not, ◌&&◌, ◌||◌}
use lib.ListN.{length}
use lib.Seq.{append_snoc}
use Rattle.rules.specs.Lists.{◌∈◌, keep}
use Rattle.rules.specs.Words.{same, is_in}
use Rattle.rules.specs.Needed.{distinct}
use Rattle.rules.specs.Kiss2.{Field, Term, Says, reset, term, reset_of, term_of, resets_in, terms_in, names_in, state_names}
use Rattle.theory.specs.Lists.{outcome, clash, flat_map_append, flat_map_last}
use Rattle.theory.specs.Words.{same_true, in_is_in, is_in_in}
use Rattle.theory.specs.Maximal.{in_distinct, distinct_count, keep_append, distinct_new, distinct_known}
use Rattle.theory.specs.Kiss2Lines.{names_last, with_name}
use Rattle.importer_ranks.specs.Ranks.{order_of}

-- Names are kept by one test after the other.
keep_two : (f g h : Field → Bool) → ((x : Field) → h x ≡ (f x && g x)) → (l : List Field) → keep f (keep g l) ≡ keep h l
keep_two f g h is [] = refl
keep_two f g h is (x ∷ l) =
    elim (outcome (g x)) [
      | inr fails ↦
          let none : h x ≡ false = is x ∙ elim (outcome (f x)) [ inl e ↦ rw (e, fails) | inr e ↦ rw e ] in
          rw (fails, none) (keep_two f g h is l)
      | inl passes ↦
          elim (outcome (f x)) [
            | inl e ↦ let all : h x ≡ true = is x ∙ rw (e, passes) in rw (passes, e, all) (ap (λ (r : List Field). x ∷ r) (keep_two f g h is l))
            | inr e ↦ let none : h x ≡ false = is x ∙ rw e in rw (passes, e, none) (keep_two f g h is l)
          ]
    ]

keep_none : (f : Field → Bool) (l : List Field) → ((x : Field) → x ∈ l → f x ≡ false) → keep f l ≡ []
keep_none f [] none = refl
keep_none f (x ∷ l) none = rw (none x (Memᴰ.head refl)) (keep_none f l (λ y m. none y (Memᴰ.tail m)))

and_swap : (a b : Bool) → (a && b) ≡ (b && a)
and_swap true true = refl
and_swap true false = refl
and_swap false true = refl
and_swap false false = refl

-- It is the same to keep some of the names and then each once, or the other way round.
distinct-keep : (f : Field → Bool) (l : List Field) → distinct (keep f l) ≡ keep f (distinct l)
distinct-keep f [] = refl
distinct-keep f (w ∷ l) =
    let other : Field → Bool = λ v. not (same v w) in
    elim (outcome (f w)) [
      | inl passes ↦
          rw (passes, distinct-keep f l)
          (ap (λ (r : List Field). w ∷ r)
          (keep_two other f (λ x. other x && f x) (λ x. refl) (distinct l)
          ∙ sym (keep_two f other (λ x. other x && f x) (λ x. and_swap (other x) (f x)) (distinct l))))
      | inr fails ↦ rw (fails, distinct-keep f l) (sym (keep_two f other f (λ x. weaker x fails) (distinct l)))
    ]
  where
    weaker : (x : Field) → f w ≡ false → f x ≡ (f x && not (same x w))
    weaker x fails =
        elim (outcome (same x w)) [
          | inl is ↦ let no_pass : f x ≡ false = rw (same_true x w is) fails in rw no_pass
          | inr other ↦ elim (outcome (f x)) [ inl e ↦ rw (e, other) | inr e ↦ rw e ]
        ]

-- Each of two lists' names once: those of the first, and behind them those of the second that are new.
distinct_append : (l r : List Field) → distinct (l ++ r) ≡ distinct l ++ keep (λ n. not (is_in n l)) (distinct r)
distinct_append [] r = sym (keep_every (distinct r))
  where
    keep_every : (l : List Field) → keep (λ n. not (is_in n [])) l ≡ l
    keep_every [] = refl
    keep_every (x ∷ l) = ap (λ (r : List Field). x ∷ r) (keep_every l)
distinct_append (w ∷ l) r =
    let other : Field → Bool = λ v. not (same v w) in
    rw (distinct_append l r, keep_append other (distinct l) (keep (λ n. not (is_in n l)) (distinct r)))
    (ap (λ (x : List Field). w ∷ (keep other (distinct l) ++ x))
    (keep_two other (λ n. not (is_in n l)) (λ n. not (is_in n (w ∷ l))) (λ n. neither (same n w) (is_in n l)) (distinct r)))
  where
    neither : (a b : Bool) → not (a || b) ≡ (not a && not b)
    neither true b = refl
    neither false b = refl

distinct_once : (l : List Field) → distinct (distinct l) ≡ distinct l
distinct_once [] = refl
distinct_once (w ∷ l) =
    let other : Field → Bool = λ v. not (same v w) in
    rw (distinct-keep other (distinct l), distinct_once l)
    (ap (λ (r : List Field). w ∷ r) (keep_two other other other (λ x. twice (other x)) (distinct l)))
  where
    twice : (a : Bool) → a ≡ (a && a)
    twice true = refl
    twice false = refl

is_in-distinct : (n : Field) (l : List Field) → is_in n (distinct l) ≡ is_in n l
is_in-distinct n l =
    elim (outcome (is_in n l)) [
      | inl is ↦ in_is_in ((in_distinct n l).1 (is_in_in is)) ∙ sym is
      | inr new ↦ elim (outcome (is_in n (distinct l))) [ inl is ↦ clash (in_is_in ((in_distinct n l).0 (is_in_in is))) new | inr e ↦ e ∙ sym new ]
    ]

-- One name more.
distinct_more : (l : List Field) (n : Field) → distinct (l ++ (n ∷ [])) ≡ with_name (distinct l) n
distinct_more l n =
    elim (outcome (is_in n l)) [
      | inl is ↦ rw (is_in-distinct n l, is) (distinct_known n l (is_in_in is))
      | inr new ↦ rw (is_in-distinct n l, new) (distinct_new n l (λ m. clash (in_is_in m) new))
    ]

-- Names that stand once each and are all in a list are, with those behind them that are in the list alone, as many as the list has.
module _ (names order : List Field) (inside : (n : Field) → n ∈ order → n ∈ names) (once : distinct order ≡ order) where
  abbrev others : List Field
  others = keep (λ n. not (is_in n order)) (distinct names)

  pub as_many : length (order ++ others) ≡ length (distinct names)
  as_many =
      let joined : distinct (order ++ names) ≡ order ++ others = distinct_append order names ∙ ap (λ (l : List Field). l ++ others) once in
      ap (λ (l : List Field). length l) (sym joined)
      ∙ distinct_count (order ++ names) names (λ w. (
        λ m. elim (Memᴰ.append_cases order m) [ inl a ↦ inside w a | inr b ↦ b ],
        λ m. Memᴰ.append_right order m,
      ))

-- the names that a term brings
abbrev both_names : Term → List Field
both_names t = t.current ∷ t.next ∷ []

module _ (before : List Says) where
  order_last : (s : Says) → order_of (before ++ (s ∷ []))
      ≡ distinct ((resets_in before ++ reset_of s) ++ map (λ t. t.current) (terms_in before ++ term_of s))
  order_last s = rw (flat_map_last reset_of before s, flat_map_last term_of before s)

  -- A line that says neither a reset state nor a term changes nothing,
  module _ (s : Says) (no_reset : reset_of s ≡ []) (no_term : term_of s ≡ []) where
    pub order_same : order_of (before ++ (s ∷ [])) ≡ order_of before
    order_same = order_last s ∙ rw (no_reset, no_term, append-nil (resets_in before), append-nil (terms_in before))

    pub names_same : names_in (before ++ (s ∷ [])) ≡ names_in before
    names_same = names_last before s ∙ rw (no_reset, no_term, append-nil (resets_in before), append-nil (terms_in before))

  -- a reset state, before which nothing named a state, is the first,
  module _ (n : Field) (no_reset : resets_in before ≡ []) (no_term : terms_in before ≡ []) where
    pub order_reset : order_of (before ++ (reset n ∷ [])) ≡ n ∷ []
    order_reset = order_last (reset n) ∙ rw (no_reset, no_term)

    pub names_reset : names_in (before ++ (reset n ∷ [])) ≡ n ∷ []
    unfolding flat_map
    names_reset = names_last before (reset n) ∙ rw (no_reset, no_term)

  -- and a term has a current state, and then a next state.
  module _ (t : Term) where
    pub order_more : order_of (before ++ (term t ∷ [])) ≡ with_name (order_of before) t.current
    order_more =
        order_last (term t)
        ∙ rw (append-nil (resets_in before), map-append (λ t. t.current) (terms_in before) (t ∷ []), ← (append_assoc (resets_in before) (map (λ t. t.current) (terms_in before)) (t.current ∷ [])))
        (distinct_more (resets_in before ++ map (λ t. t.current) (terms_in before)) t.current)

    pub names_more : names_in (before ++ (term t ∷ [])) ≡ with_name (with_name (names_in before) t.current) t.next
    unfolding flat_map
    names_more =
        let old : List Field = resets_in before ++ flat_map both_names (terms_in before) in
        let both : distinct ((old ++ (t.current ∷ [])) ++ (t.next ∷ [])) ≡ with_name (with_name (distinct old) t.current) t.next =
        distinct_more (old ++ (t.current ∷ [])) t.next ∙ ap (λ (l : List Field). with_name l t.next) (distinct_more old t.current) in
        names_last before (term t)
        ∙ rw (append-nil (resets_in before), flat_map_append both_names (terms_in before) (t ∷ []), ← (append_assoc (resets_in before) (flat_map both_names (terms_in before)) (t.current ∷ t.next ∷ [])))
        (ap (λ (l : List Field). distinct l) (sym (append_snoc old t.current (t.next ∷ []))) ∙ both)

pub names_distinct : (said : List Says) → distinct (names_in said) ≡ names_in said
names_distinct said = distinct_once (resets_in said ++ flat_map both_names (terms_in said))

-- Where no current state passes a test, the terms' names that do are next states.
keep_nexts : (f : Field → Bool) (terms : List Term) → ((t : Term) → t ∈ terms → f t.current ≡ false)
    → keep f (flat_map both_names terms) ≡ keep f (map (λ t. t.next) terms)
unfolding flat_map
keep_nexts f [] none = refl
keep_nexts f (t ∷ terms) none =
    let rest = keep_nexts f terms (λ e m. none e (Memᴰ.tail m)) in
    rw (none t (Memᴰ.head refl))
    (elim (outcome (f t.next)) [ inl e ↦ rw e (ap (λ (l : List Field). t.next ∷ l) rest) | inr e ↦ rw e rest ])

-- All states in the order of their numbers: the reset state and the current states, then the other names as they were met.
module _ (said : List Says) where
  abbrev firsts : List Field
  firsts = resets_in said ++ map (λ t. t.current) (terms_in said)

  abbrev nexts : List Field
  nexts = map (λ t. t.next) (terms_in said)

  abbrev is_new_lem : Field → Bool
  is_new_lem n = not (is_in n (order_of said))

  old_first : (n : Field) → n ∈ firsts → is_new_lem n ≡ false
  old_first n m = rw (in_is_in ((in_distinct n firsts).1 m))

  new_nexts : keep is_new_lem (resets_in said ++ flat_map both_names (terms_in said)) ≡ keep is_new_lem nexts
  new_nexts =
      rw (keep_append is_new_lem (resets_in said) (flat_map both_names (terms_in said)), keep_none is_new_lem (resets_in said) (λ n m. old_first n (Memᴰ.append_left _ m)))
      (keep_nexts is_new_lem (terms_in said) (λ t m. old_first t.current (Memᴰ.append_right (resets_in said) (Memᴰ.map (λ (t : Term). t.current) m))))

  new_names : keep is_new_lem (names_in said) ≡ keep is_new_lem (distinct nexts)
  new_names =
      sym (distinct-keep is_new_lem (resets_in said ++ flat_map both_names (terms_in said))) ∙ ap (λ (l : List Field). distinct l) new_nexts ∙ distinct-keep is_new_lem nexts

  pub order_whole : state_names said ≡ order_of said ++ keep (λ n. not (is_in n (order_of said))) (names_in said)
  unfolding state_names
  order_whole =
      distinct_append firsts nexts
      ∙ ap (λ (l : List Field). distinct firsts ++ l) (same_kept (distinct nexts) ∙ sym new_names)
    where
      same_kept : (l : List Field) → keep (λ n. not (is_in n firsts)) l ≡ keep is_new_lem l
      same_kept [] = refl
      same_kept (x ∷ l) = rw (is_in-distinct x firsts, same_kept l)
