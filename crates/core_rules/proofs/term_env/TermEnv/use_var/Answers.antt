use Rattle.std.proofs.Common.{Contains, refl, [], ◌∷◌}
use Rattle.core_syntax.specs.SyntaxViews.{name_view, position, expr_view}
use Rattle.model.specs.lists.Syntax.{var_expr}
use Rattle.core_terms.specs.TermViews.{term_view}
use Rattle.core_rules.specs.ExprReadings.{expected}
use Rattle.core_typed.specs.RuleViews.{var_view}
use Rattle.core_rules.specs.ShownSettings.{standing}
use Rattle.core_rules.specs.PatternUses.{name_at}
use Rattle.core_rules.proofs.Readings.{stop_is}
use Rattle.core_syntax.specs.Positions.{expr_positions}
use Rattle.core_syntax.proofs.Positioned.{notes_nothing}
use Rattle.model.proofs.Members.{in_head}
use Rattle.core_rules.proofs.ErrorPositions.{counted_stop}
use Rattle.core_rules.proofs.SubstitutedPlaces.{called_places}
use Rattle.core_rules.proofs.ExprsTaken as taken
use Rattle.core_typed.proofs.NotedErrors.{told_at}
use Rattle.core_rules.proofs.term_env.TermEnv.use_var.Goals as goal

pub returns-in_err-left-clause-places : goal.returns-in_err-left-clause-places
returns-in_err-left-clause-places c =
    rw (stop_is c.from_residual-in_err-left.result c.in_err-left.field-0.0 c.from_residual-in_err-left.ensures)
    (counted_stop (position c.args.pos ∷ []) c.args.nesting c.args.work.now c.expand.new.self c.in_err-left.field-0.0 c.in_err-left.ensures)

pub returns-in-Some-expr_converter-clause-places : goal.returns-in-Some-expr_converter-clause-places
returns-in-Some-expr_converter-clause-places c =
    notes_nothing (position c.args.pos ∷ []) c.args.work.now.errors.items c.expand.new.self.errors.items c.in_ok-left.ensures.1.errors

pub returns-in-Some-expr_converter-clause-among : goal.returns-in-Some-expr_converter-clause-among
returns-in-Some-expr_converter-clause-among c =
    let at = position c.args.pos in
    let here : Contains (expr_positions (expr_view c.args.whole.now)) at = rw c.requires.whole (in_head at ((name_view c.args.name.now).at ∷ [])) in
    rw c.in_ok-inside.ensures (called_places c.args.tyenv.now (term_view c.in-Some-expr_converter.by.now) at (expr_view c.args.whole.now) here)

pub returns-in_default-clause-reads : goal.returns-in_default-clause-reads
returns-in_default-clause-reads c flags =
    rw c.requires.whole
    (taken.no_variable c.args.self.now (standing c.args.tyenv.now c.args.work.now) c.requires.inverse (name_view c.args.name.now) (position c.args.pos) flags (expected c.args.expected_ty) c.args.nesting
    _ c.in_default.ensures refl (record { vars = refl; names = λ k. refl; expansions = refl }) (told_at (position c.args.pos) _ _ c.in_ok-report_name.ensures.told))

pub returns-in_err-left-clause-reads : goal.returns-in_err-left-clause-reads
returns-in_err-left-clause-reads c flags =
    rw (stop_is c.from_residual-in_err-left.result c.in_err-left.field-0.0 c.from_residual-in_err-left.ensures, c.requires.whole)
    (taken.conversion_stops c.args.self.now (standing c.args.tyenv.now c.args.work.now) (var_expr (name_view c.args.name.now) (position c.args.pos)) (position c.args.pos) flags (expected c.args.expected_ty) c.args.nesting (term_view c.in-Some-expr_converter.by.now)
    (taken.converted_variable c.args.self.now (standing c.args.tyenv.now c.args.work.now) c.requires.inverse (name_view c.args.name.now) (position c.args.pos) flags (expected c.args.expected_ty) c.args.nesting
    (var_view c.in-Some.bound) c.in-Some.ensures (term_view c.in-Some-expr_converter.by.now) c.in-Some-expr_converter.ensures)
    (standing c.args.tyenv.now c.expand.new.self) refl c.in_err-left.field-0.0 c.in_err-left.ensures)

pub returns-in-Some-expr_converter-clause-reads : goal.returns-in-Some-expr_converter-clause-reads
returns-in-Some-expr_converter-clause-reads c flags =
    rw (c.in_ok-inside.ensures, c.requires.whole)
    (taken.conversion_leads c.args.self.now (standing c.args.tyenv.now c.args.work.now) (var_expr (name_view c.args.name.now) (position c.args.pos)) (position c.args.pos) flags (expected c.args.expected_ty) c.args.nesting (term_view c.in-Some-expr_converter.by.now)
    (taken.converted_variable c.args.self.now (standing c.args.tyenv.now c.args.work.now) c.requires.inverse (name_view c.args.name.now) (position c.args.pos) flags (expected c.args.expected_ty) c.args.nesting
    (var_view c.in-Some.bound) c.in-Some.ensures (term_view c.in-Some-expr_converter.by.now) c.in-Some-expr_converter.ensures)
    (standing c.args.tyenv.now c.expand.new.self) c.in_ok-left.left refl c.in_ok-left.ensures.0 c.in_ok-left.ensures.1)

pub returns-in-Some-declared_converter-clause-reads : goal.returns-in-Some-declared_converter-clause-reads
returns-in-Some-declared_converter-clause-reads c flags =
    rw c.requires.whole
    (taken.variable_unconverted c.args.self.now (standing c.args.tyenv.now c.args.work.now) c.requires.inverse (name_view c.args.name.now) (position c.args.pos) flags (expected c.args.expected_ty) c.args.nesting
    (var_view c.in-Some.bound) c.in-Some.ensures _ refl (record { vars = refl; names = λ k. refl; expansions = refl }) c.in_default-expr_converter.ensures
    (term_view c.in-Some-declared_converter.by.now) c.in-Some-declared_converter.ensures (told_at (position c.args.pos) _ _ c.in_ok-report_name-2.ensures.told))

pub returns-clause-reads : goal.returns-clause-reads
returns-clause-reads c flags =
    rw c.requires.whole
    (taken.variable_used c.args.self.now (standing c.args.tyenv.now c.args.work.now) c.requires.inverse (name_view c.args.name.now) (position c.args.pos) flags (expected c.args.expected_ty) c.args.nesting
    (var_view c.in-Some.bound) c.in-Some.ensures _ refl (record { vars = refl; names = λ k. refl; expansions = refl }) c.in_default-expr_converter.ensures
    c.in_default-declared_converter.ensures c.in_ok-check_expected.ensures.exact)

pub returns-in-Some-expr_converter-clause-deeper : goal.returns-in-Some-expr_converter-clause-deeper
returns-in-Some-expr_converter-clause-deeper c =
    let at = position c.args.pos in
    rw c.in_ok-inside.ensures (c.in_ok-left.ensures.0, name_at c.args.tyenv.now (term_view c.in-Some-expr_converter.by.now) at, at, refl)
