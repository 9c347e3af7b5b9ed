use Rattle.std.proofs.Common.{◌++◌, All, refl, ◌∙◌}
use Rattle.core_syntax.specs.SyntaxViews.{definition_views}
use Rattle.model.specs.claims.Refusals.{PassedInReading}
use Rattle.core_syntax.specs.Positions.{ErrorStandsAt, positions_of}
use Rattle.core_terms.specs.TermPositions.{terms_positions}
use Rattle.core_terms.specs.TermViews.{term_views}
use Rattle.core_types.specs.EnvViews.{environment_view}
use Rattle.core_types.specs.TypePositions.{types_positions}
use Rattle.core_syntax.specs.ErrorViews.{error_views}
use Rattle.core_rules.specs.RulesRead.{rules_of}
use Rattle.core_rules.proofs.FirstPastLimits.{first_named}
use Rattle.core_rules.proofs.RulesRefused.{passed_on, limits_named, named_by_none, past_limits_named, no_rule_to_name, no_first_to_name, refused_by_rules, refused_by_terms, first_broken, broken_by_terms, all_said, terms_said}
use Rattle.core_rules.proofs.EnvironmentsAtEnd.{left_in_the_end, all_read, could_be_read, whatever, is_nothing, is_something, wrong_in_the_end, right_in_the_end, read_by_terms}
use Rattle.core_rules.proofs.PlacesAtEnd.{stand_in_the_end}
use Rattle.laws_typing.proofs.NoReadLimits.{elaborated_lists_pass_no_limit_lem}
use Rattle.core_rules.proofs.term_env.TermEnv.from_ast.Goals as goal

pub returns-in_err-errors-clause-left : goal.returns-in_err-errors-clause-left
returns-in_err-errors-clause-left g c =
    whatever c.from_residual-in_err-errors.result _ (left_in_the_end g.read c.requires.0 (definition_views c.args.defs.now) c.in_ok-table.table c.from_ast.new.tyenv c.read_rules.new.tyenv c.in_ok-table.ensures.answers.1 c.in_err-errors.ensures.keeps)

pub returns-then-not-is_empty-clause-answers : goal.returns-then-not-is_empty-clause-answers
returns-then-not-is_empty-clause-answers g c =
    let some = is_something c.in_ok-errors.errors.len c.is_empty.result c.in_ok-errors.errors.items c.in_ok-errors.errors.ok.0 c.is_empty.ensures c.if-not-is_empty.true in
    let defs = definition_views c.args.defs.now in
    let terms = c.in_ok-table.ensures.answers.1 in
    let read = read_by_terms g.read c.requires.0 defs c.in_ok-table.table c.from_ast.new.tyenv c.read_rules.new.tyenv terms c.with_terms-env.result c.with_terms-env.ensures.terms c.args.expand_internal_extractors c.with_terms-env.ensures.expand _ _ c.in_ok-errors.ensures.reads in
    (some, λ claim. wrong_in_the_end c.in_ok-errors.errors.items some read (λ none. none claim.0 (could_be_read g.read c.requires.0 defs c.in_ok-table.table c.from_ast.new.tyenv c.read_rules.new.tyenv terms c.in_ok-errors.ensures.keeps c.args.expand_internal_extractors claim.0 claim.1)))

pub returns-then-not-is_empty-clause-left : goal.returns-then-not-is_empty-clause-left
returns-then-not-is_empty-clause-left g c =
    left_in_the_end g.read c.requires.0 (definition_views c.args.defs.now) c.in_ok-table.table c.from_ast.new.tyenv c.read_rules.new.tyenv c.in_ok-table.ensures.answers.1 c.in_ok-errors.ensures.keeps

pub returns-clause-answers : goal.returns-clause-answers
returns-clause-answers g c =
    let none = is_nothing c.in_ok-errors.errors.len c.is_empty.result c.in_ok-errors.errors.items c.in_ok-errors.errors.ok.0 c.is_empty.ensures c.if-not-is_empty.false in
    let defs = definition_views c.args.defs.now in
    let terms = c.in_ok-table.ensures.answers.1 in
    let expand = c.args.expand_internal_extractors in
    let read = read_by_terms g.read c.requires.0 defs c.in_ok-table.table c.from_ast.new.tyenv c.read_rules.new.tyenv terms c.with_terms-env.result c.with_terms-env.ensures.terms expand c.with_terms-env.ensures.expand _ _ c.in_ok-errors.ensures.reads in
    right_in_the_end c.in_ok-errors.errors.items none read (λ right.
    let all = all_read g.read c.requires.0 defs c.in_ok-table.table c.from_ast.new.tyenv c.read_rules.new.tyenv terms c.in_ok-errors.ensures.keeps c.read_rules.new.self (c.in_ok-errors.ensures.terms ∙ c.with_terms-env.ensures.terms) expand (c.in_ok-errors.ensures.expand ∙ c.with_terms-env.ensures.expand) right in
    ((rules_of c.read_rules.new.self c.read_rules.new.tyenv, all.elaborated), (rules_of c.read_rules.new.self c.read_rules.new.tyenv, all)))

pub returns-then-not-is_empty-clause-limits : goal.returns-then-not-is_empty-clause-limits
returns-then-not-is_empty-clause-limits g c =
    limits_named g.read c.requires.0 (definition_views c.args.defs.now) c.in_ok-table.table c.from_ast.new.tyenv c.in_ok-table.ensures.answers.1 c.with_terms-env.result c.with_terms-env.ensures.terms c.args.expand_internal_extractors c.with_terms-env.ensures.expand
    c.in_ok-errors.errors.items c.in_ok-errors.ensures.exact

pub returns-in_err-table-clause-limits : goal.returns-in_err-table-clause-limits
returns-in_err-table-clause-limits g c =
    named_by_none (PassedInReading g.read (definition_views c.args.defs.now) c.args.expand_internal_extractors) c.from_residual.result c.in_err-table.field-0.0 c.from_residual.ensures c.in_err-table.ensures.no_limit

pub returns-then-not-is_empty-clause-named : goal.returns-then-not-is_empty-clause-named
returns-then-not-is_empty-clause-named g c =
    past_limits_named g.read c.requires.0 (definition_views c.args.defs.now) c.in_ok-table.table c.from_ast.new.tyenv c.in_ok-table.ensures.answers.1 c.with_terms-env.result c.with_terms-env.ensures.terms c.args.expand_internal_extractors c.with_terms-env.ensures.expand
    c.in_ok-errors.errors.items c.in_ok-errors.ensures.exact

pub returns-in_err-table-clause-named : goal.returns-in_err-table-clause-named
returns-in_err-table-clause-named g c =
    no_rule_to_name g.read (definition_views c.args.defs.now) c.args.expand_internal_extractors c.from_residual.result c.in_err-table.field-0.0 c.from_residual.ensures c.in_err-table.ensures.refused

pub returns-then-not-is_empty-clause-first : goal.returns-then-not-is_empty-clause-first
returns-then-not-is_empty-clause-first g c =
    first_named g.read c.requires.0 (definition_views c.args.defs.now) c.args.expand_internal_extractors (error_views c.in_ok-errors.errors.items) (returns-then-not-is_empty-clause-named g c)

pub returns-in_err-table-clause-first : goal.returns-in_err-table-clause-first
returns-in_err-table-clause-first g c =
    no_first_to_name g.read (definition_views c.args.defs.now) c.args.expand_internal_extractors c.from_residual.result c.in_err-table.field-0.0 c.from_residual.ensures c.in_err-table.ensures.refused

pub returns-then-not-is_empty-clause-refused : goal.returns-then-not-is_empty-clause-refused
returns-then-not-is_empty-clause-refused g c =
    let wrong = returns-then-not-is_empty-clause-answers g c in
    refused_by_rules g.read c.requires.0 (definition_views c.args.defs.now) c.in_ok-table.table c.from_ast.new.tyenv c.in_ok-table.ensures.answers.1 c.with_terms-env.result c.with_terms-env.ensures.terms c.args.expand_internal_extractors c.with_terms-env.ensures.expand
    c.in_ok-errors.errors.items c.in_ok-errors.ensures.exact wrong.0 wrong.1

pub returns-in_err-table-clause-refused : goal.returns-in_err-table-clause-refused
returns-in_err-table-clause-refused g c =
    refused_by_terms g.read (definition_views c.args.defs.now) c.args.expand_internal_extractors c.from_residual.result c.in_err-table.field-0.0 c.from_residual.ensures c.in_err-table.ensures.refused

pub returns-then-not-is_empty-clause-places : goal.returns-then-not-is_empty-clause-places
returns-then-not-is_empty-clause-places g c =
    stand_in_the_end g.read (definition_views c.args.defs.now) c.in_ok-table.table (environment_view c.from_ast.new.tyenv) c.in_ok-table.ensures.answers.1 c.with_terms-env.result c.with_terms-env.ensures.terms
    g.read.known.types refl c.in_ok-errors.errors.items c.in_ok-errors.ensures.places

pub returns-in_err-table-clause-places : goal.returns-in_err-table-clause-places
returns-in_err-table-clause-places g c =
    let all = positions_of (definition_views c.args.defs.now) ++ types_positions g.read.known.types in
    passed_on (All (ErrorStandsAt all)) (All (ErrorStandsAt all)) (λ es h. h) c.from_residual.result c.in_err-table.field-0.0 c.from_residual.ensures c.in_err-table.ensures.places

pub returns-then-not-is_empty-clause-breach : goal.returns-then-not-is_empty-clause-breach
returns-then-not-is_empty-clause-breach g c =
    first_broken g.read c.requires.0 (definition_views c.args.defs.now) c.in_ok-table.table c.from_ast.new.tyenv c.in_ok-table.ensures.answers.1 c.with_terms-env.result c.with_terms-env.ensures.terms c.args.expand_internal_extractors c.with_terms-env.ensures.expand
    c.in_ok-errors.errors.items c.in_ok-errors.ensures.breach (is_something c.in_ok-errors.errors.len c.is_empty.result c.in_ok-errors.errors.items c.in_ok-errors.errors.ok.0 c.is_empty.ensures c.if-not-is_empty.true)

pub returns-in_err-table-clause-breach : goal.returns-in_err-table-clause-breach
returns-in_err-table-clause-breach g c =
    broken_by_terms g.read (definition_views c.args.defs.now) c.args.expand_internal_extractors c.from_residual.result c.in_err-table.field-0.0 c.from_residual.ensures c.in_err-table.ensures.breach

pub returns-then-not-is_empty-clause-told : goal.returns-then-not-is_empty-clause-told
returns-then-not-is_empty-clause-told g c =
    all_said g.read c.requires.0 (definition_views c.args.defs.now) c.in_ok-table.table c.from_ast.new.tyenv c.in_ok-table.ensures.answers.1 c.with_terms-env.result c.with_terms-env.ensures.terms c.args.expand_internal_extractors c.with_terms-env.ensures.expand
    c.in_ok-errors.errors.items c.in_ok-errors.ensures.exact (positions_of (definition_views c.args.defs.now) ++ terms_positions (term_views c.with_terms-env.result.terms.items)) c.in_ok-errors.ensures.places

pub returns-in_err-table-clause-told : goal.returns-in_err-table-clause-told
returns-in_err-table-clause-told g c =
    terms_said g.read (definition_views c.args.defs.now) c.args.expand_internal_extractors c.from_residual.result c.in_err-table.field-0.0 c.from_residual.ensures c.in_err-table.ensures.refused c.in_err-table.ensures.told

pub returns-clause-within_limits : goal.returns-clause-within_limits
returns-clause-within_limits g c =
    let has = (returns-clause-answers g c).0 in
    elaborated_lists_pass_no_limit_lem g.read (definition_views c.args.defs.now) c.args.expand_internal_extractors has.0 has.1
