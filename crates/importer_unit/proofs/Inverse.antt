-- Laws of ranks that are turned round: the name of each number.
use Prim.Native.Nat.{ℕ, suc, ◌+◌, ◌-◌, ◌<◌}
use native.Mathlib.Omega.{arith}
use native.Mathlib.Decide.{ℕ_discrete}
use mathlib.Core.Path.{◌≡◌, sym, ap, ◌∙◌}
use mathlib.Core.List.{List, []}
use lib.ListN.{length, get_or, set, replicate, length-set, get_or-replicate, length-replicate}
use lib.Seq.{get_or-set_same, get_or-set_other}
use Rattle.rules.specs.Lists.{◌∈◌}
use Rattle.rules.specs.Sizes.{most_states}
use Rattle.rules.specs.Kiss2.{Field, place_in}
use Rattle.theory.specs.Lists.{get_or_in}
use Rattle.theory.specs.Kiss2Units.{place_below, place_apart}
use Rattle.importer_unit.specs.Numbered.{RanksIn, Ranking, NumberedAt}

-- the first n names have different ranks
abbrev Apart : List ℕ → ℕ → Type 0
Apart ranks n = (a b : ℕ) → a < n → b < n → get_or ranks a 0 ≡ get_or ranks b 0 → a ≡ b

-- the first n names stand at the places that their ranks say, if these are different
pub record Inverting (ranks numbers : List ℕ) (n : ℕ) : Type 0 where
  pub room : length numbers ≡ most_states
  pub low : (q : ℕ) → q < most_states → get_or numbers q 0 < most_states
  pub back : Apart ranks n → (a : ℕ) → a < n → get_or numbers (get_or ranks a 0 - 1) 0 ≡ a

pub inverting_start : (ranks : List ℕ) → Inverting ranks (replicate 64 0) 0
inverting_start ranks =
    record {
      room = length-replicate {A = ℕ} 64 0;
      low = λ q small. rw (get_or-replicate {A = ℕ} 64 q 0 0 small) (omega arith);
      back = λ apart a below. absurd (omega arith);
    }

module _ (ranks : List ℕ) (count : ℕ) (ranks_in : RanksIn ranks count) where
  module _ (numbers : List ℕ) (n : ℕ) (so_far : Inverting ranks numbers n) where
    pub inverting_next : n < count → (p v : ℕ) → p ≡ get_or ranks n 0 - 1 → v ≡ n → Inverting ranks (set numbers p v) (n + 1)
    inverting_next less p v at is =
        let inside : p < length numbers = omega (arith, so_far.room, ranks_in.low n less, ranks_in.some_rank n less) in
        record {
          room = length-set numbers p v ∙ so_far.room;
          low = λ q small.
              elim (ℕ_discrete q p) [
                | yes e ↦ rw (e, get_or-set_same numbers p v 0 inside) (omega (arith, ranks_in.few))
                | no ne ↦ rw (get_or-set_other numbers p q v 0 ne) (so_far.low q small)
              ];
          back = λ apart a below.
              elim (ℕ_discrete a n) [
                | yes e ↦ rw (e, ← at, get_or-set_same numbers p v 0 inside) is
                | no ne ↦
                    let other : get_or ranks a 0 - 1 ≡ p → ⊥ = λ same.
                    ne (apart a n below (omega arith) (omega (arith, ranks_in.some_rank n less, ranks_in.some_rank a (omega arith))))
                    in
                    get_or-set_other numbers p (get_or ranks a 0 - 1) v 0 other
                    ∙ so_far.back (λ b c in_b in_c. apart b c (omega arith) (omega arith)) a (omega arith)
              ];
        }

    -- All names have been gone through.
    pub inverting_end : n ≡ count → (names order : List Field) → length names ≡ count → Ranking ranks names order → NumberedAt ranks numbers names order
    inverting_end all names order is r =
        record {
          lengths = (ranks_in.room, so_far.room);
          few = r.few;
          ranked = r.ranked;
          inverse = λ q less.
              let name = get_or order q [] in
              let named : name ∈ names = r.named name (get_or_in order q [] less) in
              let rank = r.ranked name named in
              let place : get_or ranks (place_in names name) 0 - 1 ≡ q = omega (arith, r.order_once q less) in
              let back = so_far.back apart (place_in names name) (omega (arith, place_below names name named)) in
              (named, ap (λ p. get_or numbers p 0) (sym place) ∙ back);
          in_range = λ q less. so_far.low q (omega (arith, r.few));
        }
      where
        apart : Apart ranks n
        apart a b below below' same =
            let one = get_or names a [] in
            let other = get_or names b [] in
            let in_one : one ∈ names = get_or_in names a [] (omega arith) in
            let in_other : other ∈ names = get_or_in names b [] (omega arith) in
            let once : place_in names one ≡ a = r.names_once a (omega arith) in
            let once' : place_in names other ≡ b = r.names_once b (omega arith) in
            let rank : get_or ranks a 0 ≡ suc (place_in order one) = ap (λ p. get_or ranks p 0) (sym once) ∙ r.ranked one in_one in
            let rank' : get_or ranks b 0 ≡ suc (place_in order other) = ap (λ p. get_or ranks p 0) (sym once') ∙ r.ranked other in_other in
            let alike : one ≡ other = place_apart order one other (r.ordered one in_one) (r.ordered other in_other) (omega arith) in
            sym once ∙ ap (place_in names) alike ∙ once'
