use Rattle.std.proofs.Common.{rules, arith}
use Rattle.std.proofs.lemmas.List.Sorted.{answers_always}
use Rattle.core_rule_sets.proofs.ConstraintSearch.{asked_here, asked_nowhere}
use Rattle.core_rule_sets.proofs.trie_again.Rule.get_constraint.Goals as goal

-- the closure gives a constraint's site, and the slice is the rule's constraints
pub returns-in-Ok : goal.returns-in-Ok
returns-in-Ok c =
    let by_site = c.in-Ok.ensures.position (λ asked. asked.0) (answers_always _ _ _ (λ f a r g called. search rules)) in
    let found = asked_here c.args.source c.args.self.now.constraints.items c.args.self.now.ascending c.in-Ok.place c.index.result.now (rw (← c.deref.ensures.value) c.in-Ok.ensures.bound) (rw (← c.deref.ensures.value) by_site) in
    grind (arith, found)

pub returns-in-Err : goal.returns-in-Err
returns-in-Err c =
    let by_site = c.in-Err.ensures.position (λ asked. asked.0) (answers_always _ _ _ (λ f a r g called. search rules)) in
    asked_nowhere c.args.source c.args.self.now.constraints.items c.args.self.now.ascending c.in-Err.field-0 (rw (← c.deref.ensures.value) by_site)
