-- Laws that tie what was found to the rules' find (document 02, L1).
use Prim.Native.Nat.{ℕ, ◌≤◌, ◌<◌}
use native.Mathlib.Omega.{arith}
use mathlib.Core.Path.{◌≡◌, refl, sym, ap, ◌∙◌}
use mathlib.Core.List.{List, []}
use mathlib.Core.Logic.{inl, inr}
use mathlib.Core.Bool.{Bool, true, false, not}
use mathlib.Core.Option.{Option, none, some}
use borrow.Author.Tests.{not-true, not-false, lt-leb, le-leb, leb-true}
use lib.Dec.{leb}
use lib.ListN.{length, get_or}
use Rattle.rules.specs.declared.Fault.TheVariants.{BadNumbers}
use Rattle.rules.specs.declared.File.TheVariants.{Unit as UnitFile, Number}
use Rattle.rules.specs.declared.Refusal.{Refusal}
use Rattle.rules.specs.declared.Refusal.TheVariants.{Malformed, Unreached, NoRoom, NotReduced}
use Rattle.rules.specs.declared.GoldenState.{GoldenState}
use Rattle.rules.specs.declared.Found.TheVariants.{Written, Refused}
use Rattle.rules.specs.Sizes.{most_dossier_bytes, bound_good}
use Rattle.rules.specs.Files.{UnitData, dossier_bytes}
use Rattle.rules.specs.Answers.{golden_state, find_says}
use Rattle.rules.specs.Operations.{read_unit, writable, overwritten}
use Rattle.rules.specs.Find.{unreachable, untold, found_dossier, find}
use Rattle.rules.specs.Promises.{FindPromise}
use Rattle.theory.specs.Lists.{outcome}
use Rattle.theory.specs.Sized.{bytes_of}
use Rattle.theory.specs.FoundSize.{find_never_over}
use Rattle.reader.specs.declared.UnitShape.{UnitShape}
use Rattle.std.specs.Prelude.{Option as Found, Some, None, Result, Ok, Err}
use Rattle.reader.specs.Shapes.{unit_read}
use Rattle.reader.specs.Standing.{unit_in}
use Rattle.reader.proofs.Held.{unit_held, unit_not_held}
use Rattle.soundness_reach.specs.Reached.{state_found}
use Rattle.soundness_apart.specs.Separating.{pair_found}
use Rattle.soundness.specs.Lent.{finding_of}
use Rattle.finder_access.specs.Reached.{Marks, Reaches, reaches_held}
use Rattle.finder_distances.specs.Rounds.{DistancesAt}
use Rattle.finder_telling.specs.Pairs.{lowest_untold, AllTold}
use Rattle.finder_telling.proofs.Telling.{lowest_untold_lem}
use Rattle.finder_telling.proofs.Lowest.{none-untold}
use Rattle.finder.specs.Drafts.{reduced, draft_bytes, Given, Bounded, Reduced}

-- what the reader answered
module _ (s : List ℕ) (r : Result UnitShape Refusal) (read : r ≡ unit_read (read_unit s)) where
  pub malformed : (m : ℕ) (out : List ℕ) (f : Refusal) → r ≡ Err f → FindPromise s m out (Refused f) out
  unfolding find
  malformed m out f is = rw (unit_not_held s r f read is) (refl, refl)

  pub given : (x : UnitShape) → r ≡ Ok x → ((i : ℕ) → get_or s i 0 < 256) → Given s x
  given x is each =
      let (u, reads, stands) = unit_held s r x read is in
      record { held = u; reads = reads; stands = stands; are_bytes = bytes_of s each }

-- 3 for the bound
module _ {s : List ℕ} {x : UnitShape} (unit : Given s x) (m : ℕ) (b : Bool) (asked : b ≡ bound_good x.states m) where
  good_is : b ≡ bound_good unit.held.states m
  good_is = asked ∙ ap (λ n. bound_good n m) unit.stands.states

  pub bad_bound : (out : List ℕ) → not b ≡ true → FindPromise s m out (Refused (Malformed BadNumbers Number 0)) out
  unfolding find
  bad_bound out is = rw (unit.reads, sym good_is ∙ not-true b is) (refl, refl)

  pub bounded : not b ≡ false → Bounded s x m
  bounded is = record { given = unit; good = sym good_is ∙ not-false b is }

-- 8 comes before 18.
module _ (state : Found GoldenState) (pair : Found (GoldenState × GoldenState)) (q : Option ℕ) (a : Option (ℕ × ℕ)) (lowest : state ≡ state_found q) (two : pair ≡ pair_found a) where
  no_state : state ≡ None → q ≡ none
  no_state is = go q refl
    where
      go : (o : Option ℕ) → q ≡ o → q ≡ none
      go none e = e
      go (some n) e = let f : None ≡ Some (golden_state n) = sym is ∙ lowest ∙ rw e in let z : ◌≡◌ {A = ℕ} 0 1 = cc in absurd (omega arith)

  pub state_first : (g : GoldenState) → state ≡ Some g → Err (Unreached UnitFile g) ≡ finding_of (reduced q a)
  state_first g is = go q refl
    where
      go : (o : Option ℕ) → q ≡ o → Err (Unreached UnitFile g) ≡ finding_of (reduced q a)
      go none e = let f : Some g ≡ None = sym is ∙ lowest ∙ rw e in let z : ◌≡◌ {A = ℕ} 0 1 = cc in absurd (omega arith)
      go (some n) e = let f : Some g ≡ Some (golden_state n) = sym is ∙ lowest ∙ rw e in let same : g ≡ golden_state n = cc in rw (e, same)

  pub pair_second : state ≡ None → (g h : GoldenState) → pair ≡ Some (g, h) → Err (NotReduced g h) ≡ finding_of (reduced q a)
  pair_second none_is g h is = go a refl
    where
      go : (o : Option (ℕ × ℕ)) → a ≡ o → Err (NotReduced g h) ≡ finding_of (reduced q a)
      go none e = let f : Some (g, h) ≡ None = sym is ∙ two ∙ rw e in let z : ◌≡◌ {A = ℕ} 0 1 = cc in absurd (omega arith)
      go (some (n, l)) e =
          let f : Some (g, h) ≡ Some (golden_state n, golden_state l) = sym is ∙ two ∙ rw e in
          let both : (g, h) ≡ (golden_state n, golden_state l) = cc in
          let one : g ≡ golden_state n = ap (λ (x : GoldenState × GoldenState). x.0) both in
          let other : h ≡ golden_state l = ap (λ (x : GoldenState × GoldenState). x.1) both in
          rw (no_state none_is, e, one, other)

  pub neither : state ≡ None → pair ≡ None → Ok tt ≡ finding_of (reduced q a)
  neither none_is is = go a refl
    where
      go : (o : Option (ℕ × ℕ)) → a ≡ o → Ok tt ≡ finding_of (reduced q a)
      go none e = rw (no_state none_is, e)
      go (some (n, l)) e = let f : None ≡ Some (golden_state n, golden_state l) = sym is ∙ two ∙ rw e in let z : ◌≡◌ {A = ℕ} 0 1 = cc in absurd (omega arith)

-- 8 and 18
module _ {s : List ℕ} {x : UnitShape} {m : ℕ} (b : Bounded s x m) where
  abbrev u : UnitData
  u = b.given.held

  module _ {queue places distances : List ℕ} (reaches : Reaches (unit_in s x) queue places) (at : DistancesAt s x distances) where
    held_reaches : Reaches u queue places
    held_reaches = reaches_held b.given.stands reaches

    module _ (state : Found GoldenState) (pair : Found (GoldenState × GoldenState)) (r : Result (Unit {0}) Refusal)
        (lowest : (u : UnitData) → Marks u places → u.states ≡ x.states → state ≡ state_found (unreachable u))
        (two : pair ≡ pair_found (lowest_untold x.states distances))
        (first : (q : Option ℕ) (a : Option (ℕ × ℕ)) → state ≡ state_found q → pair ≡ pair_found a → r ≡ finding_of (reduced q a)) where
      fault_is : r ≡ finding_of (reduced (unreachable u) (untold u))
      fault_is =
          first (unreachable u) (untold u) (lowest u held_reaches.marks (sym b.given.stands.states))
          (two ∙ ap (λ a. pair_found a) (lowest_untold_lem s x u b.given.stands distances at))

      pub fault_refuses : (f : Refusal) → r ≡ Err f → (out : List ℕ) → FindPromise s m out (Refused f) out
      unfolding find
      fault_refuses f is out = go (unreachable u) refl (untold u) refl
        where
          go : (q : Option ℕ) → unreachable u ≡ q → (a : Option (ℕ × ℕ)) → untold u ≡ a → FindPromise s m out (Refused f) out
          go none reach none tell =
              let e : Err f ≡ Ok tt = sym is ∙ fault_is ∙ rw (reach, tell) in
              let z : ◌≡◌ {A = ℕ} 0 1 = cc in
              absurd (omega arith)
          go none reach (some (p, q)) tell =
              let e : Err f ≡ Err (NotReduced (golden_state p) (golden_state q)) = sym is ∙ fault_is ∙ rw (reach, tell) in
              let same : f ≡ NotReduced (golden_state p) (golden_state q) = cc in
              rw (b.given.reads, b.good, reach, tell, same) (refl, refl)
          go (some q) reach a tell =
              let e : Err f ≡ Err (Unreached UnitFile (golden_state q)) = sym is ∙ fault_is ∙ rw reach in
              let same : f ≡ Unreached UnitFile (golden_state q) = cc in
              rw (b.given.reads, b.good, reach, same) (refl, refl)

      pub fault_none : r ≡ Ok tt → Reduced s x m queue places distances
      fault_none is = go (unreachable u) refl (untold u) refl
        where
          go : (q : Option ℕ) → unreachable u ≡ q → (a : Option (ℕ × ℕ)) → untold u ≡ a → Reduced s x m queue places distances
          go none reach none tell = record { bounded = b; reaches = held_reaches; apart = at; reachable = reach; tellable = tell }
          go none reach (some (p, q)) tell =
              let e : Ok tt ≡ Err (NotReduced (golden_state p) (golden_state q)) = sym is ∙ fault_is ∙ rw (reach, tell) in
              let z : ◌≡◌ {A = ℕ} 0 1 = cc in
              absurd (omega arith)
          go (some q) reach a tell =
              let e : Ok tt ≡ Err (Unreached UnitFile (golden_state q)) = sym is ∙ fault_is ∙ rw reach in
              let z : ◌≡◌ {A = ℕ} 0 1 = cc in
              absurd (omega arith)

-- every two states have a distance
module _ {s : List ℕ} {x : UnitShape} {m : ℕ} {queue places distances : List ℕ} (red : Reduced s x m queue places distances) where
  pub all_told : AllTold x.states distances
  all_told =
      none-untold x.states distances None
      (rw (lowest_untold_lem s x red.bounded.given.held red.bounded.given.stands distances red.apart, red.tellable)) refl

  abbrev v : UnitData
  v = red.bounded.given.held

  abbrev bytes : List ℕ
  bytes = dossier_bytes (found_dossier v m)

  -- 17 alone is left
  finds : (out : List ℕ) → find s m out ≡ writable bytes out
  unfolding find
  finds out = rw (red.bounded.given.reads, red.bounded.good, red.reachable, red.tellable)

  pub draft_bytes_lem : draft_bytes s m ≡ bytes
  draft_bytes_lem = rw red.bounded.given.reads

  -- and the dossier is not over its size
  pub draft_small : length bytes ≤ most_dossier_bytes
  draft_small =
      elim (outcome (leb (length bytes) most_dossier_bytes)) [
        | inl few ↦ leb-true _ _ few
        | inr over ↦
            let (u, d, x, short, is, small) = find_never_over s m [] 65536 (finds [] ∙ rw over) in
            absurd (omega arith)
      ]

  module _ (n : ℕ) (size : n ≡ length bytes) (out : List ℕ) where
    pub no_room : length out < n → FindPromise s m out (Refused (NoRoom n)) out
    no_room short =
        let over : leb (length bytes) (length out) ≡ false = lt-leb (length bytes) (length out) (omega arith) in
        rw (finds out, le-leb (length bytes) most_dossier_bytes draft_small, over) (ap (λ k. find_says (Refused (NoRoom k))) size, refl)

    pub written : n ≤ length out → (left : List ℕ) → left ≡ overwritten bytes out → FindPromise s m out (Written n) left
    written fits left is =
        let room : leb (length bytes) (length out) ≡ true = le-leb (length bytes) (length out) (omega arith) in
        rw (finds out, le-leb (length bytes) most_dossier_bytes draft_small, room) (ap (λ k. find_says (Written k)) size, is)
