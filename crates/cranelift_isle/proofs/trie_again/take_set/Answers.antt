use Rattle.std.proofs.Common.{sym}
use Rattle.cranelift_isle.proofs.trie_again.take_set.Goals as goal

pub returns-in-Some-clause-table : goal.returns-in-Some-clause-table
returns-in-Some-clause-table c tables = tables c.args.term c.in-Some.set (sym c.in-Some.ensures.value)
