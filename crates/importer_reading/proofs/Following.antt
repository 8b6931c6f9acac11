-- Laws of one line more.
use Prim.Native.Nat.{ℕ, ◌<◌}
use native.Mathlib.Omega.{arith}
use mathlib.Core.Path.{◌≡◌, refl, sym, ap, ◌∙◌, subst}
use mathlib.Core.List.Memᴰ
use mathlib.Core.List.{List, [], ◌∷◌, ◌++◌, flat_map}
use mathlib.Core.Bool.{true, false}
use lib.ListN.{length}
use Rattle.rules.specs.Lists.{◌∈◌}
use Rattle.rules.specs.Sizes.{most_states}
use Rattle.rules.specs.Line.{text}
use Rattle.rules.specs.Kiss2.{Field, Says, number, reset, end, reset_of, term_of, resets_in, terms_in, names_in, place_in, may_follow}
use Rattle.theory.specs.Kiss2Lines.{may_follow_lem, with_name}
use Rattle.importer_counts.specs.declared.Counts.{Counts}
use Rattle.std.specs.Prelude.{Option, None, Some, Ok, Err, option_to_list, unwrap_or}
use Rattle.importer_counts.specs.Counts.{CountsAt, Counted}
use Rattle.importer_counts.proofs.OneMore.{same_number, same_terms}
use Rattle.theory.specs.Words.{same_refl}
use Rattle.importer_names.specs.Names.{NamingOf, NamedAs}
use Rattle.importer_terms.specs.Entries.{EntriesAt, TermsOver}
use Rattle.importer_terms.proofs.Naming.{terms_none, entries_more}
use Rattle.importer_ranks.specs.Ranks.{RanksAt, order_of}
use Rattle.importer_ranks.proofs.Ranking.{ranks_more}
use Rattle.importer_ranks.proofs.Ordering.{order_same, names_same, order_reset, names_reset}
use Rattle.importer_reading.specs.declared.Progress.{Progress}
use Rattle.importer_reading.specs.declared.LineFault.TheVariants.{Bad}
use Rattle.importer_reading.specs.Held.{Held, Stepped}

pub listed_same : (a b : Option ℕ) → option_to_list a ≡ option_to_list b → a ≡ b
listed_same None None e = refl
listed_same None (Some b) e = cc
listed_same (Some a) None e = cc
listed_same (Some a) (Some b) e = let same : a ≡ b = cc in ap Some same

-- what a count came to
module _ (before : List Says) (s : Says) (r : Option Counts) (counted : Counted before s r) where
  pub not_counted : r ≡ None → may_follow before s ≡ false
  not_counted is = rw is at counted.told

  pub counted_to : (y : Counts) → r ≡ Some y → (may_follow before s ≡ true) × CountsAt (before ++ (s ∷ [])) y
  counted_to y is = rw is at counted.told

module _ (before : List Says) (x : Progress) (names lengths nexts outputs ranks : List ℕ) (held : Held before x names lengths nexts outputs ranks) where
  -- a line that names no state and says no term
  module _ (s : Says) (quiet : reset_of s ≡ []) (termless : term_of s ≡ []) (y : Counts) (counts : CountsAt (before ++ (s ∷ [])) y)
      (over : TermsOver (names_in before) (unwrap_or y.output_bits 0) (terms_in before)) where
    pub held_same : Held (before ++ (s ∷ [])) (record { counts = y; names = x.names; ranked = x.ranked }) names lengths nexts outputs ranks
    held_same =
        let named = names_same before s quiet termless in
        let terms = same_terms before s termless in
        let order = order_same before s quiet termless in
        record {
          counted = counts;
          named = rw named held.named;
          many = rw named held.many;
          entered = rw (named, terms) held.entered;
          over = rw (named, terms) over;
          ranked = rw (named, order) held.ranked;
          so_many = rw order held.so_many;
        }

  no_terms_over : terms_in before ≡ [] → (bits : ℕ) → TermsOver (names_in before) bits (terms_in before)
  no_terms_over early bits = subst (λ ts. TermsOver (names_in before) bits ts) (sym early) (terms_none (names_in before) bits)

  pub number_bad : (name : Field) (n : ℕ) (r : Option Counts) → Counted before (number name n) r → r ≡ None → Stepped before (number name n) names lengths nexts outputs ranks (Err Bad)
  number_bad name n r counted is = record { told = not_counted before (number name n) r counted is }

  pub number_goes : (name : Field) (n : ℕ) (r : Option Counts) → Counted before (number name n) r → (y : Counts) → r ≡ Some y
      → Stepped before (number name n) names lengths nexts outputs ranks (Ok (record { counts = y; names = x.names; ranked = x.ranked }))
  number_goes name n r counted y is =
      let (follows, counts) = counted_to before (number name n) r counted y is in
      let (going, early, once) = (may_follow_lem before (number name n)).0 follows in
      record { told = (follows, refl, held_same (number name n) refl refl y counts (no_terms_over early (unwrap_or y.output_bits 0))) }

  pub end_bad : (r : Option Counts) → Counted before end r → r ≡ None → Stepped before end names lengths nexts outputs ranks (Err Bad)
  end_bad r counted is = record { told = not_counted before end r counted is }

  pub end_goes : (r : Option Counts) → Counted before end r → (y : Counts) → r ≡ Some y
      → Stepped before end names lengths nexts outputs ranks (Ok (record { counts = y; names = x.names; ranked = x.ranked }))
  end_goes r counted y is =
      let (follows, counts) = counted_to before end r counted y is in
      let bits : y.output_bits ≡ x.counts.output_bits =
      listed_same _ _ (sym counts.output_bits ∙ same_number before end (text ".o") refl ∙ held.counted.output_bits) in
      record { told = (follows, refl, held_same end refl refl y counts (rw bits held.over)) }

  -- the reset state
  module _ (n : Field) (r : Option Counts) (counted : Counted before (reset n) r) where
    pub reset_bad : r ≡ None → (names' lengths' ranks' : List ℕ) → Stepped before (reset n) names' lengths' nexts outputs ranks' (Err Bad)
    reset_bad is names' lengths' ranks' = record { told = not_counted before (reset n) r counted is }

    module _ (y : Counts) (is : r ≡ Some y) where
      follows : may_follow before (reset n) ≡ true
      follows = (counted_to before (reset n) r counted y is).0

      nothing_said : (terms_in before ≡ []) × (resets_in before ≡ [])
      nothing_said = let (going, early, once) = (may_follow_lem before (reset n)).0 follows in (early, once)

      no_names : names_in before ≡ []
      unfolding flat_map
      no_names = rw (nothing_said.0, nothing_said.1)

      no_order : order_of before ≡ []
      no_order = rw (nothing_said.0, nothing_said.1)

      -- there is room for it
      pub not_full : (names' lengths' : List ℕ) (a : Option (ℕ × ℕ)) → NamedAs (names_in before) n names' lengths' a → a ≡ None → ⊥
      not_full names' lengths' a named full =
          let told : NamingOf (names_in before) n names' lengths' None = rw full at named.told in
          omega (arith, told.0, ap (λ (l : List Field). length l) no_names)

      module _ (names' lengths' : List ℕ) (a : Option (ℕ × ℕ)) (named : NamedAs (names_in before) n names' lengths' a) (j m : ℕ) (at : a ≡ Some (j, m)) where
        first_name : NamingOf [] n names' lengths' (Some (j, m))
        first_name = subst (λ l. NamingOf l n names' lengths' (Some (j, m))) no_names (rw at at named.told)

        pub first_number : (j ≡ 0) × (m ≡ 1)
        first_number = let place : j ≡ place_in (n ∷ []) n = first_name.1 in (place ∙ rw (same_refl n), first_name.2)

        one_name : RanksAt ranks (n ∷ []) []
        one_name =
            let none : RanksAt ranks [] [] = subst (λ o. RanksAt ranks [] o) no_order (subst (λ l. RanksAt ranks l (order_of before)) no_names held.ranked) in
            ranks_more ranks [] [] none n (λ here. Memᴰ.not-nil here) (omega arith)

        pub reset_goes : (ranks' : List ℕ) (k : ℕ)
            → ((names order : List Field) (w : Field) → RanksAt ranks names order → w ∈ names → j ≡ place_in names w → x.ranked ≡ length order
            → RanksAt ranks' names (with_name order w) × (k ≡ length (with_name order w)))
            → Stepped before (reset n) names' lengths' nexts outputs ranks' (Ok (record { counts = y; names = m; ranked = k }))
        reset_goes ranks' k given =
            let (early, once) = nothing_said in
            let named_is = names_reset before n once early in
            let order_is = order_reset before n once early in
            let terms_are = same_terms before (reset n) refl ∙ early in
            let (ranked_at, counted_k) = given (n ∷ []) [] n one_name (Memᴰ.head refl) first_name.1 (held.so_many ∙ ap (λ (l : List Field). length l) no_order) in
            let entries : EntriesAt nexts outputs [] [] = subst (λ ts. EntriesAt nexts outputs [] ts) early (subst (λ l. EntriesAt nexts outputs l (terms_in before)) no_names held.entered) in
            record {
              told = (
                follows,
                refl,
                record {
                  counted = (counted_to before (reset n) r counted y is).1;
                  named = rw named_is first_name.0;
                  many = rw named_is first_name.2;
                  entered = rw (named_is, terms_are) (entries_more [] (unwrap_or y.output_bits 0) [] (terms_none [] (unwrap_or y.output_bits 0)) n nexts outputs entries);
                  over = rw (named_is, terms_are) (terms_none (n ∷ []) (unwrap_or y.output_bits 0));
                  ranked = rw (named_is, order_is) ranked_at;
                  so_many = rw order_is counted_k;
                },
              );
            }

pub named_below : (l : List Field) (n : Field) (names lengths : List ℕ) (a : Option (ℕ × ℕ)) (j m : ℕ) → NamedAs l n names lengths a → a ≡ Some (j, m) → j < most_states
named_below l n names lengths a j m named at =
    let told : NamingOf l n names lengths (Some (j, m)) = rw at at named.told in
    omega (arith, told.3, told.4.few)
