use native.Mathlib.Omega.{arith}
use Rattle.trie.specs.Grow.{size_pos}
use Rattle.trie_filing.proofs.Firsts.{sifting_begin, sifting_inside, sifting_room, sifting_next, sifting_end}
use Rattle.trie_filing.proofs.distinct.find_firsts.Goals as goal

pub loop-i-init : goal.loop-i-init
loop-i-init c = sifting_begin c.args.bytes.now c.args.place c.args.inputs c.args.count c.args.numbers.now c.args.places.now _ c.requires.words_at (c.clear_marks.ensures _)

pub seen_before-seen-requires-clause-whole : goal.seen_before-seen-requires-clause-whole
seen_before-seen-requires-clause-whole c = sifting_inside c.args.bytes.now c.args.place c.args.inputs c.args.count c.loop-i.i c.loop-i.word c.loop-i.n c.loop-i.numbers c.loop-i.places c.loop-i.marks c.loop-i.invariant c.loop-i-test.true

pub seen_before-seen-requires-clause-node : goal.seen_before-seen-requires-clause-node
seen_before-seen-requires-clause-node c = record { trie = _; holds = c.requires.holds; below = size_pos _ }

pub store_first-n-requires-clause-n_in_bounds : goal.store_first-n-requires-clause-n_in_bounds
store_first-n-requires-clause-n_in_bounds c = let h = sifting_room c.args.bytes.now c.args.place c.args.inputs c.args.count c.loop-i.i c.loop-i.word c.loop-i.n c.loop-i.numbers c.loop-i.places c.loop-i.marks c.loop-i.invariant c.loop-i-test.true (omega (arith, c.requires.count_in_bounds.0, c.loop-i.auto.numbers)) (omega (arith, c.requires.count_in_bounds.1, c.loop-i.auto.places)) c.requires.bytes_len_bound c.requires.words_at in (h.0, h.1)

pub store_first-n-requires-clause-number_bound : goal.store_first-n-requires-clause-number_bound
store_first-n-requires-clause-number_bound c = let h = sifting_room c.args.bytes.now c.args.place c.args.inputs c.args.count c.loop-i.i c.loop-i.word c.loop-i.n c.loop-i.numbers c.loop-i.places c.loop-i.marks c.loop-i.invariant c.loop-i-test.true (omega (arith, c.requires.count_in_bounds.0, c.loop-i.auto.numbers)) (omega (arith, c.requires.count_in_bounds.1, c.loop-i.auto.places)) c.requires.bytes_len_bound c.requires.words_at in (h.2, h.3)

pub word_end-word-requires : goal.word_end-word-requires
word_end-word-requires c = sifting_inside c.args.bytes.now c.args.place c.args.inputs c.args.count c.loop-i.i c.loop-i.word c.loop-i.n c.loop-i.numbers c.loop-i.places c.loop-i.marks c.loop-i.invariant c.loop-i-test.true

pub loop-i-preserved : goal.loop-i-preserved
loop-i-preserved c = rw c.word_end-word.ensures.0 (sifting_next c.args.bytes.now c.args.place c.args.inputs c.args.count c.loop-i.i c.loop-i.word c.loop-i.n c.loop-i.numbers c.loop-i.places c.loop-i.marks c.loop-i.invariant c.loop-i-test.true (omega (arith, c.requires.count_in_bounds.0, c.loop-i.auto.numbers)) (omega (arith, c.requires.count_in_bounds.1, c.loop-i.auto.places)) c.seen_before-seen.result _ _ _ _ (λ ws. c.seen_before-seen.ensures _ ws c.requires.holds) c.store_first-n.ensures)

pub returns : goal.returns
returns c = sifting_end c.args.bytes.now c.args.place c.args.inputs c.args.count c.loop-i.i c.loop-i.word c.loop-i.n c.loop-i.numbers c.loop-i.places c.loop-i.marks c.loop-i.invariant c.loop-i-test.false
