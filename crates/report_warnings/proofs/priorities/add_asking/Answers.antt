use Rattle.std.proofs.Common.{arith, rules, ◌≡◌, ◌++◌, ◌∷◌, []}
use Rattle.std.specs.BTreeMap.Entry.{map_with_value}
use Rattle.report_warnings.proofs.RuleGroups.{number_more}
use Rattle.report_warnings.specs.RuleGroups.{numbers_asking}
use Rattle.report_warnings.proofs.priorities.add_asking.Goals as goal

pub returns : goal.returns
returns c =
    let added : c.push.new.self.items ≡ numbers_asking c.args.asking.now c.args.asked ++ c.args.number ∷ [] = search rules in
    let more = number_more c.args.asking.now (map_with_value c.in_ok-asking.field-0 c.push.new.self) c.args.asked c.push.new.self c.args.number (c.in_ok-asking.ensures.update.0 c.push.new.self) added in
    λ q. grind (arith, more q)
