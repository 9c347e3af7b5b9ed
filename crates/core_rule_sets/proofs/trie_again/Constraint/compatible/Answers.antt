use Rattle.core_rule_sets.proofs.trie_again.Constraint.compatible.Goals as goal

pub returns-in-Variant : goal.returns-in-Variant
returns-in-Variant c = rw c.in-Variant.is (c.is_not_another_variant.ensures c.in-Variant.fields)
