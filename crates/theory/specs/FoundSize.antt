-- Document 02, L1: a found dossier is never over its size. Of n states at most (n - r) (n - r - 1) / 2 pairs are alike for all words of at most r
-- inputs, so the telling words of all pairs have at most 43,680 inputs together.
use Rattle.std.specs.Prelude.{ℕ, suc, ◌*◌, ◌-◌, ◌≤◌, ◌<◌, ◌≡◌, refl, Bool, not, eqb}
use Rattle.std.proofs.Common.{arith, sym, ap, ◌∙◌}
use Rattle.std.proofs.Math.Nat.{mul-le-mul}
use Rattle.std.proofs.Math.Logic.{inl, inr}
use mathlib.Core.List.Memᴰ
use mathlib.Core.List.{List, [], ◌∷◌, map, map-map}
use Rattle.std.proofs.Math.ListN.{length, length-append}
use Rattle.rules.specs.Lists.{◌∈◌, sum, keep}
use Rattle.rules.specs.Sizes.{most_unit_bytes, most_states}
use Rattle.rules.specs.Words.{Word, same}
use Rattle.rules.specs.Machines.{Machine, Complete}
use Rattle.rules.specs.Files.{DossierData, UnitData, unit, count_bytes, table_bytes, words_bytes, front_bytes, dossier_bytes}
use Rattle.rules.specs.Needed.{pairs, distinct}
use Rattle.rules.specs.Find.{telling_word, word_of, found_cover, found_separating, found_dossier, find}
use Rattle.rules.specs.declared.File.TheVariants.{Unit as UnitFile}
use Rattle.rules.specs.declared.Refusal.{Refusal}
use Rattle.rules.specs.declared.Refusal.TheVariants.{NoRoom}
use Rattle.rules.specs.Reading.{unit_table}
use Rattle.rules.specs.Answers.{number_of}
use Rattle.rules.specs.Operations.{refuse}
use Rattle.theory.specs.Sized.{SizedTable}
use Rattle.theory.specs.Lists.{outcome, keep-length, map-length}
use Rattle.theory.specs.Count.{tick, count, count_all}
use Rattle.theory.specs.Totals.{total, total_more, total_greater, total_same, total_swap, count-total, pairs-total}
use Rattle.theory.specs.Classes.{alike?, few_alike}
use Rattle.theory.specs.Machines.{golden_complete}
use Rattle.theory.specs.Access.{FirstTold, told_short, told_first}
use Rattle.theory.specs.Files.{unit_sized}
use Rattle.theory.specs.Sections.{table_long}
use Rattle.theory.specs.Bounds.{section_long}
use Rattle.theory.specs.Find.{AllReachable, AllTellable, telling_is, found_dossier_lem, cover_short, Drafts, drafted, FindRefuses, malformed, three, eight, eighteen, over_size, no_room, find_refuses}
use Rattle.theory.specs.Outcomes.{read_refuses}
use Rattle.theory.specs.Answers.{fault_numbers}
use Rattle.theory.specs.Orders.{shorter_first}

module _ (k : ℕ) (M : Machine) (complete : Complete k M)
    (told : (p q : ℕ) → p < q → q < M.states → (w : Word) × FirstTold k M p q w) where
  -- A first telling word has an input for each number of inputs for which its states are alike.
  long_alike : (p q : ℕ) → p < q → q < M.states → (w : Word) → FirstTold k M p q w → length w ≤ count (λ r. alike? k M r p q) (M.states - 1)
  long_alike p q two state w f =
      count_all (λ r. alike? k M r p q) (M.states - 1) (length w) (told_short complete p q (omega arith) state f)
      (λ r less v valid short. f.earlier v valid (shorter_first v w (omega arith)))

  -- So the words of all pairs have so many inputs at most.
  pub few_inputs : (f : ℕ × ℕ → ℕ) → ((p q : ℕ) → p < q → q < M.states → (w : Word) × FirstTold k M p q w × (f (p, q) ≡ length w))
      → sum (map f (pairs M.states)) ≤ total (λ r. total suc (M.states - suc r)) (M.states - 1)
  few_inputs f are =
      let N = M.states - 1 in
      let n = M.states in
      let bit : ℕ → ℕ → ℕ → ℕ = λ r p q. tick (alike? k M r p q) 0 in
      let each = total_greater (λ q. total (λ p. f (p, q)) q) (λ q. total (λ p. total (λ r. bit r p q) N) q) n
      (λ q state. total_greater (λ p. f (p, q)) (λ p. total (λ r. bit r p q) N) q
      (λ p two.
      let (w, first, is) = are p q two state in
      rw (is, ← (count-total (λ r. alike? k M r p q) N)) (long_alike p q two state w first))) in
      let inner = total_same (λ q. total (λ p. total (λ r. bit r p q) N) q) (λ q. total (λ r. total (λ p. bit r p q) q) N) n
      (λ q state. total_swap (λ p r. bit r p q) q N) in
      let outer = total_swap (λ q r. total (λ p. bit r p q) q) n N in
      let rounds = total_greater (λ r. total (λ q. total (λ p. bit r p q) q) n) (λ r. total suc (n - suc r)) N
      (λ r less. round r (omega arith)) in
      rw (pairs-total f n) (omega arith)
    where
      round : (r : ℕ) → r < M.states → total (λ q. total (λ p. tick (alike? k M r p q) 0) q) M.states ≤ total suc (M.states - suc r)
      round r h =
          let same = total_same (λ q. count (λ p. alike? k M r p q) q) (λ q. total (λ p. tick (alike? k M r p q) 0) q) M.states (λ q state. count-total (λ p. alike? k M r p q) q) in
          omega (arith, few_alike complete (λ p q two state. let (w, f) = told p q two state in (w, f.valid, f.tells)) r h)

-- For at most 64 states they are 43,680, and the pairs are 2,016.
pub most_inputs_lem : (n : ℕ) → n ≤ most_states → total (λ r. total suc (n - suc r)) (n - 1) ≤ 43680
most_inputs_lem n few =
    let each = total_greater (λ r. total suc (n - suc r)) (λ r. total suc (64 - suc r)) (n - 1) (λ r less. total_more suc (n - suc r) (64 - suc r) (omega arith)) in
    let more = total_more (λ r. total suc (64 - suc r)) (n - 1) 63 (omega arith) in
    let all : total (λ r. total suc (64 - suc r)) 63 ≡ 43680 = refl in
    omega arith

ones : {A : Type 0} (l : List A) → sum (map (λ a. 1) l) ≡ length l
ones [] = refl
ones (a ∷ l) = let rest = ones l in omega arith

pub most_pairs : (n : ℕ) → n ≤ most_states → length (pairs n) ≤ 2016
most_pairs n few =
    let one_each = ones (pairs n) in
    let by_second = pairs-total (λ a. 1) n in
    let more = total_more (λ q. total (λ p. 1) q) n 64 few in
    let all : total (λ q. total (λ p. 1) q) 64 ≡ 2016 = refl in
    omega arith

-- What is kept of words has no more words and no more inputs.
keep-sum : {A : Type 0} (g : A → ℕ) (test : A → Bool) (l : List A) → sum (map g (keep test l)) ≤ sum (map g l)
keep-sum g test [] = omega arith
keep-sum g test (a ∷ l) =
    let rest = keep-sum g test l in
    elim (outcome (test a)) [ inl e ↦ rw e (omega arith) | inr e ↦ rw e (omega arith) ]

distinct-sum : (g : Word → ℕ) (ws : List Word) → sum (map g (distinct ws)) ≤ sum (map g ws)
distinct-sum g [] = omega arith
distinct-sum g (w ∷ ws) = let rest = distinct-sum g ws in let kept = keep-sum g (λ v. not (same v w)) (distinct ws) in omega arith

distinct-length : (ws : List Word) → length (distinct ws) ≤ length ws
distinct-length [] = omega arith
distinct-length (w ∷ ws) = let rest = distinct-length ws in let kept = keep-length (λ v. not (same v w)) (distinct ws) in omega arith

short_sum : (ws : List Word) → ((w : Word) → w ∈ ws → length w ≤ 63) → sum (map (λ (w : Word). length w) ws) ≤ 63 * length ws
short_sum [] short = omega arith
short_sum (w ∷ ws) short =
    let rest = short_sum ws (λ v m. short v (Memᴰ.tail m)) in
    let here = short w (Memᴰ.head refl) in
    omega arith

module _ (u : UnitData) (sized : SizedTable u.inputs u.states u.table) (reachable : AllReachable u) (tellable : AllTellable u) where
  whole : Complete u.inputs (unit u)
  whole = golden_complete sized

  few : u.states ≤ most_states
  few = sized.few_states

  cover_bytes : length (words_bytes (found_cover u)) ≤ 4098
  cover_bytes =
      let f = (found_dossier_lem u whole 0 reachable tellable).cover in
      let long = section_long (found_cover u) in
      let inputs = short_sum (found_cover u) (λ w m. omega (arith, few, (cover_short u sized (found_cover u) f w m).1)) in
      omega (arith, f.one_each, few)

  -- the word of each pair
  abbrev words : List Word
  words = map (λ a. word_of (telling_word u a)) (pairs u.states)

  words_inputs : sum (map (λ (w : Word). length w) words) ≤ 43680
  words_inputs =
      let first : (p q : ℕ) → p < q → q < u.states → (w : Word) × FirstTold u.inputs (unit u) p q w = λ p q two state.
      let (v, valid, tells) = tellable p q two state in
      told_first whole p q (omega arith) state v valid tells
      in
      let all =
      few_inputs u.inputs (unit u) whole first (λ a. length (word_of (telling_word u a)))
      (λ p q two state.
      let (w, f) = first p q two state in
      (w, f, ap (λ o. length (word_of o)) (telling_is u whole p q w two state f)))
      in
      let one = ap sum (map-map (λ (w : Word). length w) (λ a. word_of (telling_word u a)) (pairs u.states)) in
      let most = most_inputs_lem u.states few in
      omega arith

  separating_bytes : length (words_bytes (found_separating u)) ≤ 45698
  unfolding found_separating
  separating_bytes =
      elim (outcome (eqb u.states 1)) [
        | inl one ↦ rw one (omega (arith, section_long ([] ∷ [])))
        | inr several ↦
            let long = section_long (distinct words) in
            let count = distinct-length words in
            let inputs = distinct-sum (λ (w : Word). length w) words in
            let each = map-length (λ a. word_of (telling_word u a)) (pairs u.states) in
            let most = most_pairs u.states few in
            rw several (omega (arith, words_inputs))
      ]

  found_bytes : (m : ℕ) → length (dossier_bytes (found_dossier u m)) ≤ 51853
  unfolding dossier_bytes front_bytes table_bytes count_bytes
  found_bytes m =
      let table = table_long u.table in
      let entries : u.states * u.inputs ≤ 1024 = mul-le-mul sized.few_states sized.few_inputs in
      let none = section_long [] in
      simp length-append (omega (arith, sized.entries, cover_bytes, separating_bytes))

-- A found dossier has at most 51,853 bytes, so it is never over its size;
pub drafts_small : (unit_file : List ℕ) (m : ℕ) (u : UnitData) (d : DossierData) → Drafts unit_file m u d → length (dossier_bytes d) ≤ 51853
drafts_small unit_file m u d x =
    rw (drafted unit_file m [] u d x) (found_bytes u (unit_sized unit_file u x.reads).machine x.reachable x.tellable m)

-- and 17 is given with the length that is needed, never with 65,536.
pub find_never_over : (unit_file : List ℕ) (m : ℕ) (out : List ℕ) (n : ℕ) → find unit_file m out ≡ refuse (NoRoom n)
    → (u : UnitData) × (d : DossierData) × Drafts unit_file m u d × (length out < length (dossier_bytes d)) × (n ≡ length (dossier_bytes d)) × (n ≤ 51853)
find_never_over unit_file m out n e = go (NoRoom n) ((find_refuses unit_file m out (NoRoom n)).0 e) refl
  where
    go : (r : Refusal) → FindRefuses unit_file m out r → r ≡ NoRoom n
        → (u : UnitData) × (d : DossierData) × Drafts unit_file m u d × (length out < length (dossier_bytes d)) × (n ≡ length (dossier_bytes d)) × (n ≤ 51853)
    go r (malformed e) is =
        let (fault, p, is') = read_refuses UnitFile most_unit_bytes unit_table unit_file r e in
        let (low, high) = fault_numbers fault in
        absurd (omega (arith, ap number_of (sym is' ∙ is)))
    go r (three u reads bad is') is = absurd (omega (arith, ap number_of (sym is' ∙ is)))
    go r (eight u reads range q low is') is = absurd (omega (arith, ap number_of (sym is' ∙ is)))
    go r (eighteen u reads range all p q low is') is = absurd (omega (arith, ap number_of (sym is' ∙ is)))
    go r (over_size u d x over is') is = absurd (omega (arith, over, drafts_small unit_file m u d x))
    go r (no_room u d x small short is') is =
        let long : n ≡ length (dossier_bytes d) = cc in
        (u, d, x, short, long, omega (arith, long, drafts_small unit_file m u d x))
