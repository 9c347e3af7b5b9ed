use Rattle.std.proofs.Common.{◌≡◌, ◌++◌}
use Rattle.cranelift_isle.specs.SetsSoFar.{sets_so_far}
use Rattle.cranelift_isle.specs.BuiltSets.{term_set_views}
use Rattle.cranelift_isle.proofs.trie_again.list_sets.Given as goal

abbrev pub invariant-loop-term : goal.invariant-loop-term
invariant-loop-term l = term_set_views l.listed.items ++ sets_so_far l.term-iterator ≡ sets_so_far l.fn.sets.entries
