use Rattle.std.proofs.Common.{sym}
use Rattle.core_typed.specs.PatternViews.{pattern_view}
use Rattle.core_typed.specs.VisitorSteps.{expr_steps, pattern_steps, rule_steps}
use Rattle.core_typed.proofs.RuleRunSteps.{lends_pattern}
use Rattle.core_typed.proofs.rule_visits.show_pattern.Goals as goal

pub returns : goal.returns
returns g c =
    lends_pattern (rule_steps g.V.RuleVisitor) (pattern_steps g.V.PatternVisitor.PatternVisitor) (expr_steps g.V.ExprVisitor.ExprVisitor) (g.E.UsedTerms.term_entries c.args.termenv.now)
    (pattern_view c.args.pattern.now) c.args.input c.args.vars
    _ c.args.visitor.now c.add_pattern.result c.add_pattern.new.self (λ l a k h. rw (sym h.shows, sym h.leaves) h.met) c.add_pattern.ensures
