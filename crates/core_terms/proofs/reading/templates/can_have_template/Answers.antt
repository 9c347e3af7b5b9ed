use Rattle.std.proofs.Common.{rules}
use Rattle.core_terms.specs.TermViews.{term_view}
use Rattle.core_terms.proofs.NotedPositions.{entry_taken, entry_first}
use Rattle.core_terms.proofs.reading.templates.can_have_template.Goals as goal

pub returns-in_ok-report_second-in-Decl-default-default-Some-clause-places :
    goal.returns-in_ok-report_second-in-Decl-default-default-Some-clause-places
returns-in_ok-report_second-in-Decl-default-default-Some-clause-places c =
    entry_taken _ (term_view c.args.entry.now) _ _ _ c.in_ok-report_second-in-Decl-default-default-Some.ensures.places (search rules)

pub returns-in_ok-report_name-in-Decl-default-default-None-clause-places : goal.returns-in_ok-report_name-in-Decl-default-default-None-clause-places
returns-in_ok-report_name-in-Decl-default-default-None-clause-places c = entry_first _ (term_view c.args.entry.now) _ _ c.in_ok-report_name-in-Decl-default-default-None.ensures.places

pub returns-in_ok-report_name-in-EnumVariant-clause-places : goal.returns-in_ok-report_name-in-EnumVariant-clause-places
returns-in_ok-report_name-in-EnumVariant-clause-places c = entry_first _ (term_view c.args.entry.now) _ _ c.in_ok-report_name-in-EnumVariant.ensures.places

pub returns-in_ok-report_name-in-Struct-clause-places : goal.returns-in_ok-report_name-in-Struct-clause-places
returns-in_ok-report_name-in-Struct-clause-places c = entry_first _ (term_view c.args.entry.now) _ _ c.in_ok-report_name-in-Struct.ensures.places
