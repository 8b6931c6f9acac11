-- Laws of a table of numbers.
use Prim.Native.Nat.{ℕ, zero, suc, ◌+◌, ◌≤◌, ◌<◌}
use native.Mathlib.Omega.{arith}
use mathlib.Core.Path.{◌≡◌, refl, sym, ap, ◌∙◌}
use mathlib.Core.Logic.{◌≢◌, inl, inr}
use mathlib.Core.List.Memᴰ
use mathlib.Core.List.{List, [], ◌∷◌, ◌++◌, append_assoc, append-nil}
use mathlib.Core.Bool.{false, not}
use lib.ListN.{length, get_or, set, take, replicate, length-append, length-replicate, length-set}
use lib.Seq.{take-suc, take_all, get_or-set_same, get_or-set_other}
use Rattle.rules.specs.Lists.{◌∈◌, keep}
use Rattle.rules.specs.Sizes.{most_states}
use Rattle.rules.specs.Words.{same, is_in}
use Rattle.rules.specs.Needed.{distinct}
use Rattle.rules.specs.Kiss2.{Field, place_in}
use Rattle.theory.specs.Lists.{outcome, clash, of_keep, keep-length, get_or_in}
use Rattle.theory.specs.Words.{same_true, same_refl, same_false, differ_same, in_is_in, is_in_in}
use Rattle.theory.specs.Maximal.{Apart, distinct_apart, keep_append, distinct_new}
use Rattle.theory.specs.Kiss2Units.{place_below, place_apart}
use Rattle.theory.specs.Kiss2Lines.{with_name}
use Rattle.importer_ranks.specs.Ranks.{unranked, rank_in, RanksAt}
use Rattle.importer_ranks.proofs.Ordering.{as_many}

zeros : (n p : ℕ) → ◌≡◌ {A = ℕ} (get_or (replicate n 0) p 0) 0
zeros zero p = refl
zeros (suc n) zero = refl
zeros (suc n) (suc p) = zeros n p

pub ranks_none : RanksAt unranked [] []
unfolding unranked
ranks_none =
    record {
      table = length-replicate {A = ℕ} most_states 0;
      few = omega arith;
      ranked = λ n m. absurd (Memᴰ.not-nil m);
      unused = λ j le. zeros most_states j;
      inside = λ n m. absurd (Memᴰ.not-nil m);
      once = refl;
    }

-- There are no more numbers than names.
pub ranks_few : (ranks : List ℕ) (names order : List Field) → RanksAt ranks names order → length order ≤ length names
ranks_few ranks names order at =
    omega (arith, as_many names order at.inside at.once, length-append order (keep (λ n. not (is_in n order)) (distinct names)), no_longer names)
  where
    no_longer : (l : List Field) → length (distinct l) ≤ length l
    no_longer [] = omega arith
    no_longer (w ∷ l) = omega (arith, keep-length (λ v. not (same v w)) (distinct l), no_longer l)

-- A name's place stays when a name is put behind the others; one that is new has the next place.
place_stays : (names : List Field) (name n : Field) → n ∈ names → place_in (names ++ (name ∷ [])) n ≡ place_in names n
place_stays [] name n m = absurd (Memᴰ.not-nil m)
place_stays (a ∷ names) name n m =
    elim (outcome (same a n)) [
      | inl is ↦ rw is
      | inr other ↦
          let later : n ∈ names = elim (Memᴰ.cases_cons m) [ inl e ↦ absurd (same_false other (sym e)) | inr l ↦ l ] in
          rw other (ap suc (place_stays names name n later))
    ]

place_new : (names : List Field) (n : Field) → ¬ (n ∈ names) → place_in (names ++ (n ∷ [])) n ≡ length names
place_new [] n new = rw (same_refl n)
place_new (a ∷ names) n new =
    rw (differ_same {v = a} {w = n} (λ e. new (Memᴰ.head (sym e)))) (ap suc (place_new names n (λ m. new (Memᴰ.tail m))))

absent : {n : Field} {l : List Field} → is_in n l ≡ false → ¬ (n ∈ l)
absent new m = clash (in_is_in m) new

not_in : (n : Field) (l : List Field) → ¬ (n ∈ l) → is_in n l ≡ false
not_in n l new = elim (outcome (is_in n l)) [ inl is ↦ absurd (new (is_in_in is)) | inr e ↦ e ]

-- A name that gets the next number has it then, and the others have theirs.
module _ (order : List Field) (n : Field) (new : is_in n order ≡ false) where
  new_rank : rank_in (order ++ (n ∷ [])) n ≡ suc (length order)
  new_rank = rw (in_is_in (Memᴰ.append_right order (Memᴰ.head {x = n} {xs = []} refl))) (ap suc (place_new order n (absent new)))

  other_rank : (m : Field) → m ≢ n → rank_in (order ++ (n ∷ [])) m ≡ rank_in order m
  other_rank m other =
      elim (outcome (is_in m order)) [
        | inl is ↦ rw (in_is_in (Memᴰ.append_left (n ∷ []) (is_in_in is)), is) (ap suc (place_stays order n m (is_in_in is)))
        | inr new_too ↦
            let still : is_in m (order ++ (n ∷ [])) ≡ false =
            not_in m (order ++ (n ∷ [])) (λ there. elim (Memᴰ.append_cases order there) [ inl a ↦ absent new_too a | inr last ↦ other (Memᴰ.eq_of_singleton last) ]) in
            rw (still, new_too)
      ]

module _ (ranks : List ℕ) (names order : List Field) (at : RanksAt ranks names order) (n : Field) where
  -- The numbers stay when a name is put behind the names.
  pub ranks_more : ¬ (n ∈ names) → length names < most_states → RanksAt ranks (names ++ (n ∷ [])) order
  ranks_more new room =
      let longer : length (names ++ (n ∷ [])) ≡ length names + 1 = length-append names (n ∷ []) in
      record {
        table = at.table;
        few = omega arith;
        ranked = λ m there.
            elim (outcome (is_in m names)) [
              | inl old ↦ rw (place_stays names n m (is_in_in old)) (at.ranked m (is_in_in old))
              | inr not_old ↦
                  let is : m ≡ n = elim (Memᴰ.append_cases names there) [ inl old ↦ absurd (absent not_old old) | inr last ↦ Memᴰ.eq_of_singleton last ] in
                  let last : place_in (names ++ (n ∷ [])) m ≡ length names = ap (λ (x : Field). place_in (names ++ (n ∷ [])) x) is ∙ place_new names n new in
                  let none : is_in m order ≡ false = not_in m order (λ has. absent not_old (at.inside m has)) in
                  rw (last, none) (at.unused (length names) (omega arith))
            ];
        unused = λ j le. at.unused j (omega arith);
        inside = λ m has. Memᴰ.append_left (n ∷ []) (at.inside m has);
        once = at.once;
      }

  -- The name number j, where so many have a number:
  module _ (j ranked : ℕ) (m : n ∈ names) (numbered : j ≡ place_in names n) (counted : ranked ≡ length order) where
    here : get_or ranks j 0 ≡ rank_in order n
    here = rw numbered (at.ranked n m)

    -- it has one,
    pub rank_kept : get_or ranks j 0 ≢ 0 → RanksAt ranks names (with_name order n) × (ranked ≡ length (with_name order n))
    rank_kept has = elim (outcome (is_in n order)) [ inl is ↦ rw is (at, counted) | inr new ↦ absurd (has (here ∙ rw new)) ]

    -- or it gets the next.
    module _ (unranked_yet : get_or ranks j 0 ≡ 0) (next : ℕ) (is_next : next ≡ ranked + 1) where
      unnumbered : is_in n order ≡ false
      unnumbered = elim (outcome (is_in n order)) [ inl is ↦ let some : rank_in order n ≡ suc (place_in order n) = rw is in absurd (omega (arith, here)) | inr e ↦ e ]

      in_table : j < length ranks
      in_table = omega (arith, place_below names n m, at.table, at.few)

      set_rank : (x : Field) → x ∈ names → get_or (set ranks j next) (place_in names x) 0 ≡ rank_in (order ++ (n ∷ [])) x
      set_rank x there =
          elim (outcome (same x n)) [
            | inl is ↦
                rw (same_true x n is, ← numbered) (get_or-set_same ranks j next 0 in_table ∙ omega (arith, new_rank order n unnumbered))
            | inr other ↦
                get_or-set_other ranks j (place_in names x) next 0 (λ e. same_false other (place_apart names x n there m (e ∙ numbered)))
                ∙ at.ranked x there ∙ sym (other_rank order n unnumbered x (same_false other))
          ]

      ranks-set : RanksAt (set ranks j next) names (order ++ (n ∷ []))
      ranks-set =
          record {
            table = length-set ranks j next ∙ at.table;
            few = at.few;
            ranked = set_rank;
            unused = λ i le. get_or-set_other ranks j i next 0 (λ e. omega (arith, place_below names n m)) ∙ at.unused i le;
            inside = λ x has. elim (Memᴰ.append_cases order has) [ inl old ↦ at.inside x old | inr last ↦ rw (Memᴰ.eq_of_singleton last) m ];
            once = distinct_new n order (absent unnumbered) ∙ ap (λ (l : List Field). l ++ (n ∷ [])) at.once;
          }

      pub rank_given : RanksAt (set ranks j next) names (with_name order n) × (next ≡ length (with_name order n))
      rank_given = rw unnumbered (ranks-set, omega (arith, length-append order (n ∷ [])))

-- Where each name stands once, none stands before its place.
pub place_once : (l : List Field) → Apart l → (j : ℕ) → j < length l → j ≡ place_in l (get_or l j [])
place_once [] apart j less = absurd (omega arith)
place_once (x ∷ l) (ahead, apart) zero less = rw (same_refl x)
place_once (x ∷ l) (ahead, apart) (suc j) less =
    rw (differ_same (ahead (get_or l j []) (get_or_in l j [] (omega arith)))) (ap suc (place_once l apart j (omega arith)))

not_before : (l : List Field) → Apart l → (j : ℕ) → j < length l → ¬ (get_or l j [] ∈ take j l)
not_before [] apart j less m = absurd (omega arith)
not_before (x ∷ l) (ahead, apart) zero less m = absurd (Memᴰ.not-nil m)
not_before (x ∷ l) (ahead, apart) (suc j) less m =
    elim (Memᴰ.cases_cons m) [
      | inl e ↦ ahead (get_or l j []) (get_or_in l j [] (omega arith)) (sym e)
      | inr there ↦ not_before l apart j (omega arith) there
    ]

-- the names that have a number when the first j were asked
abbrev order_to : List Field → List Field → ℕ → List Field
order_to names order j = order ++ keep (λ n. not (is_in n order)) (take j names)

module _ (names order : List Field) (apart : Apart names) (j : ℕ) (less : j < length names) where
  abbrev asked : Field
  asked = get_or names j []

  abbrev kept : List Field
  kept = keep (λ n. not (is_in n order)) (take j names)

  order_next : with_name (order_to names order j) asked ≡ order_to names order (j + 1)
  order_next =
      let more : j + 1 ≡ suc j = omega arith in
      rw (more, take-suc names j [] less, keep_append (λ n. not (is_in n order)) (take j names) (asked ∷ []))
      (elim (outcome (is_in asked order)) [
        | inl is ↦ rw (in_is_in (Memᴰ.append_left kept (is_in_in is)), is, append-nil kept)
        | inr new ↦
            let still : is_in asked (order ++ kept) ≡ false =
            not_in asked (order ++ kept) (λ m. elim (Memᴰ.append_cases order m) [
              | inl a ↦ absent new a
              | inr b ↦ not_before names apart j less (of_keep (λ n. not (is_in n order)) (take j names) b).0
            ]) in
            rw (still, new) (append_assoc order kept (asked ∷ []))
      ])

-- The first j names were asked.
pub record Ranking (ranks₀ : List ℕ) (count ranked₀ : ℕ) (ranks : List ℕ) (ranked j : ℕ) : Type 0 where
  pub long : length ranks ≡ length ranks₀
  pub below : j ≤ count
  pub few : ranked ≤ ranked₀ + j
  pub so_far : (names order : List Field) → RanksAt ranks₀ names order → distinct names ≡ names → count ≡ length names → ranked₀ ≡ length order
      → RanksAt ranks names (order_to names order j) × (ranked ≡ length (order_to names order j))

module _ (ranks₀ : List ℕ) (count ranked₀ : ℕ) where
  pub ranking_start : Ranking ranks₀ count ranked₀ ranks₀ ranked₀ 0
  ranking_start =
      record {
        long = refl;
        below = omega arith;
        few = omega arith;
        so_far = λ names order at once all counted. rw (append-nil order) (at, counted);
      }

  module _ (ranks : List ℕ) (ranked j : ℕ) (r : Ranking ranks₀ count ranked₀ ranks ranked j) where
    pub ranking_next : j < count → (ranks' : List ℕ) (ranked' : ℕ) → length ranks' ≡ length ranks
        → ((names order : List Field) (n : Field) → RanksAt ranks names order → n ∈ names → j ≡ place_in names n → ranked ≡ length order → RanksAt ranks' names (with_name order n) × (ranked' ≡ length (with_name order n)))
        × (ranked' ≤ ranked + 1)
        → Ranking ranks₀ count ranked₀ ranks' ranked' (j + 1)
    ranking_next less ranks' ranked' long (given, few) =
        record {
          long = long ∙ r.long;
          below = omega arith;
          few = omega (arith, r.few);
          so_far = λ names order at once all counted.
              let inside : j < length names = omega arith in
              let apart : Apart names = rw once at (distinct_apart names) in
              let (now_at, now_counted) = r.so_far names order at once all counted in
              rw (← (order_next names order apart j inside))
              (given names (order_to names order j) (get_or names j []) now_at (get_or_in names j [] inside) (place_once names apart j inside) now_counted);
        }

    pub ranking_done : count ≤ j → (names order : List Field) → RanksAt ranks₀ names order → distinct names ≡ names → count ≡ length names → ranked₀ ≡ length order
        → RanksAt ranks names (order ++ keep (λ n. not (is_in n order)) names) × (ranked ≡ length names)
    ranking_done end names order at once all counted =
        let whole : take j names ≡ names = take_all j names (omega arith) in
        let (now_at, now_counted) = rw whole at (r.so_far names order at once all counted) in
        (now_at, now_counted ∙ rw once at (as_many names order at.inside at.once))
