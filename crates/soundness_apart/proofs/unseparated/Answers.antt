use Rattle.std.proofs.Common.{ℕ, Bool, refl, sym, ◌∙◌, ap}
use Rattle.soundness_apart.specs.Separating.{golden_at, separators_at, alike, pair_found}
use Rattle.soundness_apart.proofs.Remembered.{none_known}
use Rattle.soundness_reach.proofs.Marks.{state_at_lem, state_nowhere}
use Rattle.soundness_apart.proofs.Rows.{rows_start, rows_some, rows_none, rows_end, pair_found_lem}
use Rattle.soundness_apart.proofs.unseparated.Goals as goal

pub loop-p-init : goal.loop-p-init
loop-p-init c =
    let test : ℕ × ℕ → Bool = λ (p, q). alike (golden_at c.args.bytes.now c.args.x) (separators_at c.args.bytes.now c.args.x) p q in
    record { known = none_known _ _ _ c.no_places.ensures; same = rows_start test c.args.x.states }

pub returns-in-Some : goal.returns-in-Some
returns-in-Some c =
    let test : ℕ × ℕ → Bool = λ (p, q). alike (golden_at c.args.bytes.now c.args.x) (separators_at c.args.bytes.now c.args.x) p q in
    pair_found_lem _ _ c.loop-p.p _ _ c.numbered-state.ensures refl (c.loop-p.invariant.same ∙ rows_some test c.args.x.states c.loop-p.p c.loop-p-test.true (state_at_lem _ _ _ (rw c.numbered-state.ensures at c.see_row.ensures.0) c.in-Some.is))

pub loop-p-preserved : goal.loop-p-preserved
loop-p-preserved c =
    let test : ℕ × ℕ → Bool = λ (p, q). alike (golden_at c.args.bytes.now c.args.x) (separators_at c.args.bytes.now c.args.x) p q in
    record {
      known = c.see_row.ensures.1;
      same = c.loop-p.invariant.same ∙ rows_none test c.args.x.states c.loop-p.p c.loop-p-test.true (state_nowhere _ _ (rw c.numbered-state.ensures at c.see_row.ensures.0) c.in_default.is);
    }

pub returns : goal.returns
returns c =
    let test : ℕ × ℕ → Bool = λ (p, q). alike (golden_at c.args.bytes.now c.args.x) (separators_at c.args.bytes.now c.args.x) p q in
    sym (ap pair_found (c.loop-p.invariant.same ∙ rows_end test c.args.x.states c.loop-p.p c.loop-p-test.false))
