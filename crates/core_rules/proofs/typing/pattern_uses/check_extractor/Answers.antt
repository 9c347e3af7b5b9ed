use Rattle.std.proofs.Common.{sym, ◌∙◌}
use Rattle.core_syntax.specs.SyntaxViews.{position}
use Rattle.model.specs.lists.Setting.{is_matchable}
use Rattle.core_terms.specs.TermViews.{term_view}
use Rattle.core_typed.proofs.NotedErrors.{told_when, wrong_when}
use Rattle.core_rules.proofs.typing.pattern_uses.check_extractor.Goals as goal

pub returns-clause-exact : goal.returns-clause-exact
returns-clause-exact c =
    let at = position c.args.pos in
    wrong_when c.report_name.result at _ _ (is_matchable c.args.multi (term_view c.args.term.now).kind) (sym c.is_usable.ensures ∙ c.if-is_usable.false) (told_when c.report_name.result at _ _ c.report_name.ensures.told)
