use Rattle.std.proofs.Common.{refl, sym, ◌∙◌, inl}
use Rattle.core_typed.proofs.MapSteps.{free_at, read_rules}
use Rattle.core_typed.proofs.rule_names.map_name.Goals as goal

pub returns-clause-names : goal.returns-clause-names
returns-clause-names c =
    let free = free_at c.args.rule_map.now c.in-Some.name (sym c.contains_key.ensures.value ∙ c.if-contains_key.false) in
    rw c.in-Some.is (inl (refl, free, λ k. read_rules c.args.rule_map.now c.insert.new.self c.in-Some.name c.args.rule.now.id c.in_ok-insert.ensures.has k))
