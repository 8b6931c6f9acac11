use Rattle.reader_steps.proofs.Laws.{cut}
use Rattle.reader.specs.Chains.{dossier_places, dossier_from_bound, dossier_from_table, dossier_from_cover, dossier_from_separating, dossier_from_tests}
use Rattle.reader.proofs.Joined.{after_sizes, after_bound, after_table, after_cover, after_separating, after_tests}
use Rattle.reader.proofs.dossier.dossier_at.Goals as goal

pub returns-in_err-sizes : goal.returns-in_err-sizes
unfolding dossier_places
returns-in_err-sizes c = cut _ _ _ _ _ _ c.from_residual.ensures.1 c.in_err-sizes.ensures

pub returns-in_err-bound_byte : goal.returns-in_err-bound_byte
unfolding dossier_from_bound
returns-in_err-bound_byte c =
    after_sizes _ _ _ c.in_ok-sizes.ensures (cut _ _ _ _ _ _ c.from_residual-in_err-bound_byte.ensures.1 c.in_err-bound_byte.ensures)

pub returns-in_err-table_end : goal.returns-in_err-table_end
unfolding dossier_from_table
returns-in_err-table_end c =
    after_sizes _ _ _ c.in_ok-sizes.ensures
    (after_bound _ _ _ _ _ _ c.in_ok-bound_byte.ensures
    (cut _ _ _ _ _ _ c.from_residual-in_err-table_end.ensures.1 c.in_err-table_end.ensures))

pub returns-in_err-cover : goal.returns-in_err-cover
unfolding dossier_from_cover
returns-in_err-cover c =
    after_sizes _ _ _ c.in_ok-sizes.ensures
    (after_bound _ _ _ _ _ _ c.in_ok-bound_byte.ensures
    (after_table _ _ _ _ _ _ c.in_ok-table_end.ensures
    (cut _ _ _ _ _ _ c.from_residual-in_err-cover.ensures.1 c.in_err-cover.ensures)))

pub returns-in_err-separating : goal.returns-in_err-separating
unfolding dossier_from_separating
returns-in_err-separating c =
    after_sizes _ _ _ c.in_ok-sizes.ensures
    (after_bound _ _ _ _ _ _ c.in_ok-bound_byte.ensures
    (after_table _ _ _ _ _ _ c.in_ok-table_end.ensures
    (after_cover _ _ _ _ _ _ c.in_ok-cover.ensures
    (cut _ _ _ _ _ _ c.from_residual-in_err-separating.ensures.1 c.in_err-separating.ensures))))

pub returns-in_err-tests : goal.returns-in_err-tests
unfolding dossier_from_tests
returns-in_err-tests c =
    after_sizes _ _ _ c.in_ok-sizes.ensures
    (after_bound _ _ _ _ _ _ c.in_ok-bound_byte.ensures
    (after_table _ _ _ _ _ _ c.in_ok-table_end.ensures
    (after_cover _ _ _ _ _ _ c.in_ok-cover.ensures
    (after_separating _ _ _ _ _ _ _ c.in_ok-separating.ensures
    (cut _ _ _ _ _ _ c.from_residual-in_err-tests.ensures.1 c.in_err-tests.ensures)))))

pub returns : goal.returns
returns c =
    after_sizes _ _ _ c.in_ok-sizes.ensures
    (after_bound _ _ _ _ _ _ c.in_ok-bound_byte.ensures
    (after_table _ _ _ _ _ _ c.in_ok-table_end.ensures
    (after_cover _ _ _ _ _ _ c.in_ok-cover.ensures
    (after_separating _ _ _ _ _ _ _ c.in_ok-separating.ensures
    (after_tests _ _ _ _ _ _ _ _ c.in_ok-tests.ensures c.ending_at.ensures)))))
