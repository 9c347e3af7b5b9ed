use Rattle.core_rules.specs.ShownSettings.{standing}
use Rattle.std.proofs.Common.{[], ◌∷◌}
use Rattle.core_syntax.specs.SyntaxViews.{rule_view}
use Rattle.core_syntax.specs.Positions.{OccurAmong, rule_positions}
use Rattle.core_rules.specs.RulePositions.{with_templates}
use Rattle.core_rules.proofs.ErrorPositions.{among_here, stop_noted}
use Rattle.core_rules.proofs.PartPlaces.{rule_at}
use Rattle.core_rules.proofs.RuleListsTaken.{done_at_end, done_at_stop}
use Rattle.core_rules.proofs.term_env.TermEnv.type_rule.Goals as goal

pub returns-in-Ok-clause-places : goal.returns-in-Ok-clause-places
returns-in-Ok-clause-places c =
    rw (← c.begin.ensures.errors) c.in-Ok.ensures.places

pub returns-in_ok-report-in-Err-clause-places : goal.returns-in_ok-report-in-Err-clause-places
returns-in_ok-report-in-Err-clause-places c =
    let env = c.args.self.now in
    let tree = rule_view c.args.rule.now in
    let all = with_templates env (rule_positions tree) in
    let here : OccurAmong (tree.at ∷ []) all = among_here env (tree.at ∷ []) (rule_positions tree) (rule_at tree) in
    rw (← c.begin.ensures.errors)
    (stop_noted (tree.at ∷ []) all c.begin.new.self.errors.items c.translate_rule.new.work.errors.items c.report.new.errors.items c.args.rule.now.pos c.in-Err.stop here c.in-Err.ensures.places c.in_ok-report-in-Err.ensures.places c.in_ok-report-in-Err.ensures.noted)

pub returns-in-Ok-clause-exact : goal.returns-in-Ok-clause-exact
returns-in-Ok-clause-exact c =
    done_at_end c.args.self.now c.args.tyenv.now c.begin.new.self c.args.work.now.errors.items c.begin.ensures c.args.id.0 c.args.rule.now (standing c.translate_rule.new.tyenv c.translate_rule.new.work)
    c.in-Ok.made c.in-Ok.ensures.reads

pub returns-in_ok-report-in-Err-clause-exact : goal.returns-in_ok-report-in-Err-clause-exact
returns-in_ok-report-in-Err-clause-exact c =
    let all = with_templates c.args.self.now (rule_positions (rule_view c.args.rule.now)) in
    done_at_stop c.args.self.now c.args.tyenv.now c.begin.new.self c.args.work.now.errors.items c.begin.ensures c.args.id.0 c.args.rule.now (standing c.translate_rule.new.tyenv c.translate_rule.new.work)
    c.report.new.errors.items c.requires.nothing all (returns-in_ok-report-in-Err-clause-places c) c.in-Err.stop c.in-Err.ensures.reads c.in_ok-report-in-Err.ensures.noted
