use Rattle.std.proofs.Common.{◌≡◌, ◌++◌, [], ap, ◌∙◌, sym, rules, append-nil}
use Rattle.cranelift_isle.specs.SetsSoFar.{sets_so_far}
use Rattle.cranelift_isle.specs.BuiltSets.{term_set_views}
use Rattle.cranelift_isle.proofs.trie_again.list_sets.Goals as goal

pub returns-clause-listed : goal.returns-clause-listed
returns-clause-listed c =
    let done : c.loop-term.term-iterator ≡ [] = search rules in
    sym (append-nil (term_set_views c.loop-term.listed.items)) ∙ ap (λ es. term_set_views c.loop-term.listed.items ++ sets_so_far es) (sym done) ∙ c.loop-term.invariant
