use Rattle.bureau_lines.proofs.Told.{found_inside}
use Rattle.bureau.proofs.print_found.Goals as goal

pub print_written-requires-clause-length_in_bounds :
    goal.print_written-requires-clause-length_in_bounds
print_written-requires-clause-length_in_bounds g c = found_inside c.find_line-found.ensures
