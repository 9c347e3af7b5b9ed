use Rattle.std.proofs.Common.{◌++◌}
use Rattle.core_syntax.specs.Positions.{positions_of}
use Rattle.core_syntax.specs.SyntaxViews.{definition_views}
use Rattle.core_syntax.proofs.Positioned.{among_left}
use Rattle.core_terms.specs.TermPositions.{table_positions}
use Rattle.core_terms.proofs.NotedPositions.{rules_so_far, step_so_far}
use Rattle.core_terms.proofs.ErrorSteps.{both_ok}
use Rattle.core_terms.proofs.term_table.TermTable.read_definitions.Goals as goal

pub returns-clause-places : goal.returns-clause-places
returns-clause-places g c =
    let ps = positions_of (definition_views c.args.defs.now) in
    let old = c.args.self.now in
    let all = ps ++ table_positions old in
    let rules = c.in_ok-read_roots.ensures in
    both_ok c.collect_extractor_templates.result _ _ _ (λ n p. (step_so_far ps all _ _ _ _ _ (among_left ps (table_positions old)) n p (rules_so_far ps old c.read_roots.new.self _ _ rules.places rules.placed)).noted) c.collect_extractor_templates.ensures.places c.collect_extractor_templates.ensures.placed

pub returns-clause-placed : goal.returns-clause-placed
returns-clause-placed g c =
    let ps = positions_of (definition_views c.args.defs.now) in
    let old = c.args.self.now in
    let all = ps ++ table_positions old in
    let rules = c.in_ok-read_roots.ensures in
    both_ok c.collect_extractor_templates.result _ _ _ (λ n p. (step_so_far ps all _ _ _ _ _ (among_left ps (table_positions old)) n p (rules_so_far ps old c.read_roots.new.self _ _ rules.places rules.placed)).kept) c.collect_extractor_templates.ensures.places c.collect_extractor_templates.ensures.placed
