use mathlib.Core.Path.{ap}
use native.Mathlib.Omega.{arith}
use lib.ListN.{length}
use Rattle.trie.specs.Model.{size}
use Rattle.trie.specs.Grow.{size_pos}
use Rattle.trie.specs.Words.{word_root}
use Rattle.trie_lister.proofs.list.Goals as goal

pub visit-requires-clause-visiting : goal.visit-requires-clause-visiting
visit-requires-clause-visiting c = record { trie = c.requires.deep.trie; holds = c.requires.deep.holds; below = size_pos c.requires.deep.trie; level = ap length (word_root c.requires.deep.trie); deep = c.requires.deep.deep }

pub visit-requires-clause-path_len_bound : goal.visit-requires-clause-path_len_bound
visit-requires-clause-path_len_bound c = c.requires.path_len_bound

pub returns : goal.returns
returns c = λ t h. c.visit.ensures.wrote_of t h (size_pos t) (size t) (omega arith)
