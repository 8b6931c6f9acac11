-- Laws of the numbers that all states have once the last line is read.
use Prim.Native.Nat.{ℕ, suc, ◌^◌, ◌≤◌, ◌<◌}
use native.Mathlib.Omega.{arith}
use native.Mathlib.Nat.{pow-le-pow_right}
use mathlib.Core.Path.{◌≡◌, refl, sym, ap, ◌∙◌}
use mathlib.Core.Logic.{inl, inr}
use mathlib.Core.List.Memᴰ
use mathlib.Core.List.{List, [], ◌++◌}
use mathlib.Core.Bool.{not}
use lib.ListN.{length, get_or}
use Rattle.rules.specs.Lists.{◌∈◌, keep}
use Rattle.rules.specs.Sizes.{most_states}
use Rattle.rules.specs.Words.{is_in}
use Rattle.rules.specs.Needed.{distinct}
use Rattle.rules.specs.Kiss2.{Field, Says, names_in, state_names, inputs_in, place_in}
use Rattle.theory.specs.Lists.{outcome, in_keep, get_or_in}
use Rattle.theory.specs.Words.{in_is_in, is_in_in}
use Rattle.theory.specs.Maximal.{distinct_apart}
use Rattle.theory.specs.Kiss2.{as_many_names}
use Rattle.theory.specs.Kiss2Units.{place_below}
use Rattle.std.specs.Prelude.{Option, None, Some, option_to_list, unwrap_or}
use Rattle.importer_ranks.specs.Ranks.{RanksAt, order_of}
use Rattle.importer_ranks.proofs.Ordering.{order_whole, names_distinct}
use Rattle.importer_ranks.proofs.Ranking.{ranks_few, place_once}
use Rattle.importer_unit.specs.Numbered.{RanksIn, Once, Ranking}
use Rattle.importer_reading.specs.declared.Progress.{Progress}
use Rattle.importer_reading.specs.Held.{Held}
use Rattle.importer.specs.Finished.{Ranked}

distinct_once : (l : List Field) → distinct l ≡ l → Once l
distinct_once l each j less = sym (place_once l (rw each at (distinct_apart l)) j less)

-- Each name is a state's.
all_numbered : (said : List Says) (n : Field) → n ∈ names_in said → n ∈ state_names said
all_numbered said n m =
    rw (order_whole said)
    (elim (outcome (is_in n (order_of said))) [
      | inl old ↦ Memᴰ.append_left (keep (λ n. not (is_in n (order_of said))) (names_in said)) (is_in_in {ws = order_of said} old)
      | inr new ↦ Memᴰ.append_right (order_of said) (in_keep (λ n. not (is_in n (order_of said))) m (rw new))
    ])

module _ (said : List Says) (ranks : List ℕ) (at : RanksAt ranks (names_in said) (state_names said)) where
  -- The table ranks the names in the order of the states' numbers,
  pub ranking_of : Ranking ranks (names_in said) (state_names said)
  ranking_of =
      record {
        named = at.inside;
        ordered = all_numbered said;
        names_once = distinct_once (names_in said) (names_distinct said);
        order_once = distinct_once (state_names said) at.once;
        few = omega (arith, as_many_names said, at.few);
        ranked = λ n m. at.ranked n m ∙ rw (in_is_in (all_numbered said n m));
      }

  abbrev name : ℕ → Field
  name j = get_or (names_in said) j []

  there : (j : ℕ) → j < length (names_in said) → name j ∈ names_in said
  there j less = get_or_in (names_in said) j [] less

  rank : (j : ℕ) → j < length (names_in said) → get_or ranks j 0 ≡ suc (place_in (state_names said) (name j))
  rank j less = ap (λ p. get_or ranks p 0) (sym (ranking_of.names_once j less)) ∙ ranking_of.ranked (name j) (there j less)

  -- and each of them has a rank.
  pub ranks_in : (count : ℕ) → count ≡ length (names_in said) → RanksIn ranks count
  ranks_in count all =
      record {
        room = at.table;
        few = omega (arith, at.few);
        some_rank = λ j less. omega (arith, rank j (omega arith));
        low = λ j less. omega (arith, rank j (omega arith), place_below (state_names said) (name j) (all_numbered said (name j) (there j (omega arith))), as_many_names said, at.few);
      }

-- `.i` says at most 4.
pub power_low : (bits : ℕ) → bits ≤ 4 → 2 ^ bits ≤ 16
power_low bits few = let low : 2 ^ bits ≤ 2 ^ 4 = pow-le-pow_right (omega arith) few in low

listed_first : (n : Option ℕ) → get_or (option_to_list n) 0 0 ≡ unwrap_or n 0
listed_first None = refl
listed_first (Some n) = refl

module _ (said : List Says) (x : Progress) (names lengths nexts outputs ranks : List ℕ) (held : Held said x names lengths nexts outputs ranks) where
  -- Where the lines are read, the table has room, and no more names have a number than there are.
  pub ranks_room : (length ranks ≡ most_states) × (x.names ≤ most_states) × (x.ranked ≤ most_states)
  ranks_room = (
    held.ranked.table,
    omega (arith, held.many, held.ranked.few),
    omega (arith, held.so_many, ranks_few ranks (names_in said) (order_of said) held.ranked, held.ranked.few),
  )

  -- Once the names that have no number get theirs, the table has the number of each state.
  pub ranked_now : (ranks' : List ℕ) (count ranked r k : ℕ)
      → ((names order : List Field) → RanksAt ranks names order → distinct names ≡ names → count ≡ length names → ranked ≡ length order → RanksAt ranks' names (order ++ keep (λ n. not (is_in n order)) names) × (r ≡ length names))
      → count ≡ x.names → ranked ≡ x.ranked → k ≡ 2 ^ unwrap_or x.counts.input_bits 0 → Ranked said nexts outputs ranks' x.names k
  ranked_now ranks' count ranked r k given all so_many is =
      let power : inputs_in said ≡ 2 ^ unwrap_or x.counts.input_bits 0 =
      ap (λ (l : List ℕ). 2 ^ get_or l 0 0) held.counted.input_bits ∙ ap (λ n. 2 ^ n) (listed_first x.counts.input_bits) in
      record {
        entered = held.entered;
        nexts_named = held.over.nexts;
        ranked = rw (order_whole said) (given (names_in said) (order_of said) held.ranked (names_distinct said) (all ∙ held.many) (so_many ∙ held.so_many)).0;
        many = held.many;
        inputs_are = is ∙ sym power;
        few_inputs = omega (arith, power_low (unwrap_or x.counts.input_bits 0) held.counted.few_inputs);
      }
