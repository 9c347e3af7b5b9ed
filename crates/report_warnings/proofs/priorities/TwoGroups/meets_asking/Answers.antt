use Rattle.std.proofs.Common.{◌≡◌, ◌||◌, false, ap, sym, ◌∙◌}
use Rattle.report_warnings.specs.RuleGroups.{meets_listed, numbers_asking}
use Rattle.report_warnings.proofs.RuleGroups.{met_listed, only_listed}
use Rattle.report_warnings.proofs.priorities.TwoGroups.meets_asking.Goals as goal

pub returns-then-meets_listed : goal.returns-then-meets_listed
returns-then-meets_listed c =
    c.if-meets_listed.true ∙ sym (met_listed c.args.rules.now c.args.rule.now c.asking.result.now (sym c.meets_listed.ensures ∙ c.if-meets_listed.true))

pub returns-else-meets_listed : goal.returns-else-meets_listed
returns-else-meets_listed c =
    let outer = c.args.self.now.outer in
    let rule = c.args.rule.now in
    let rules = c.args.rules.now in
    let none : meets_listed rules rule (numbers_asking outer.asking c.args.asked) ≡ false
    = ap (meets_listed rules rule) (sym c.asking.ensures) ∙ sym c.meets_listed.ensures ∙ c.if-meets_listed.false in
    sym (ap (λ b. b || c.meets_bare.result) none)
    ∙ only_listed rules rule outer c.args.asked c.requires.asks c.requires.grouped.outer c.meets_bare.result c.meets_bare.ensures.met c.meets_bare.ensures.only
