use Rattle.std.proofs.Common.{◌≡◌, min, arith}
use Rattle.bureau_refusals.proofs.Closings.{part_middle, part_valid, part_short}
use Rattle.bureau_refusals.proofs.add_middle.Goals as goal

pub add_word-requires-clause-word_in_bounds : goal.add_word-requires-clause-word_in_bounds
add_word-requires-clause-word_in_bounds c =
    let short : c.min-length.result ≡ min c.args.y.len 5 = rw (← c.from.ensures) c.min-length.ensures in
    omega (arith, part_short c.args.y _ short _ c.five_inputs-inputs.ensures c.requires.valid, c.requires.at_in_bounds)

pub add_word-requires-clause-valid : goal.add_word-requires-clause-valid
add_word-requires-clause-valid c =
    let short : c.min-length.result ≡ min c.args.y.len 5 = rw (← c.from.ensures) c.min-length.ensures in
    part_valid c.args.y _ short _ c.five_inputs-inputs.ensures c.requires.valid

pub returns-clause-puts : goal.returns-clause-puts
returns-clause-puts c =
    let short : c.min-length.result ≡ min c.args.y.len 5 = rw (← c.from.ensures) c.min-length.ensures in
    rw (← (part_middle c.args.y _ short _ c.five_inputs-inputs.ensures c.requires.valid)) c.add_word.ensures.puts

pub returns-clause-upper_bound : goal.returns-clause-upper_bound
returns-clause-upper_bound c =
    let short : c.min-length.result ≡ min c.args.y.len 5 = rw (← c.from.ensures) c.min-length.ensures in
    omega (arith, c.add_word.ensures.upper_bound, part_short c.args.y _ short _ c.five_inputs-inputs.ensures c.requires.valid)
