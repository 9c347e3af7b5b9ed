use Rattle.std.proofs.Common.{Contains, refl, sym, [], ◌∷◌}
use Rattle.core_syntax.specs.SyntaxViews.{name_view, position, expr_view, expr_views}
use Rattle.model.specs.lists.Syntax.{term_expr}
use Rattle.core_terms.specs.TermViews.{flags_view, term_view}
use Rattle.core_rules.specs.ExprReadings.{expected}
use Rattle.core_rules.specs.ShownSettings.{standing}
use Rattle.core_rules.specs.PatternUses.{name_at}
use Rattle.core_rules.proofs.Readings.{stop_is}
use Rattle.core_syntax.proofs.Positioned.{notes_nothing}
use Rattle.model.proofs.Members.{in_head}
use Rattle.core_syntax.specs.Positions.{expr_positions, exprs_positions}
use Rattle.core_rules.proofs.ErrorPositions.{counted_stop}
use Rattle.core_rules.proofs.SubstitutedPlaces.{called_places}
use Rattle.core_rules.proofs.ExprsTaken as taken
use Rattle.core_typed.proofs.NotedErrors.{told_at}
use Rattle.core_rules.proofs.term_env.TermEnv.use_in_expr.Goals as goal

pub returns-in_err-left-clause-places : goal.returns-in_err-left-clause-places
returns-in_err-left-clause-places c =
    rw (stop_is c.from_residual-in_err-left.result c.in_err-left.field-0.0 c.from_residual-in_err-left.ensures)
    (counted_stop (position c.args.pos ∷ []) c.args.nesting c.args.work.now c.expand.new.self c.in_err-left.field-0.0 c.in_err-left.ensures)

pub returns-in-Some-expr_converter-clause-places : goal.returns-in-Some-expr_converter-clause-places
returns-in-Some-expr_converter-clause-places c =
    notes_nothing (position c.args.pos ∷ []) c.args.work.now.errors.items c.expand.new.self.errors.items c.in_ok-left.ensures.1.errors

pub returns-in-Some-expr_converter-clause-among : goal.returns-in-Some-expr_converter-clause-among
returns-in-Some-expr_converter-clause-among c =
    let at = position c.args.pos in
    let here : Contains (expr_positions (expr_view c.args.whole.now)) at = rw c.requires.whole (in_head at ((name_view c.args.sym.now).at ∷ exprs_positions (expr_views c.args.args.now))) in
    rw c.in_ok-inside.ensures (called_places c.args.tyenv.now (term_view c.in-Some-expr_converter.by.now) at (expr_view c.args.whole.now) here)

pub returns-in_default-clause-reads : goal.returns-in_default-clause-reads
returns-in_default-clause-reads c =
    rw c.requires.whole
    (taken.no_term c.args.self.now (standing c.args.tyenv.now c.args.work.now) c.requires.inverse (name_view c.args.sym.now) (expr_views c.args.args.now) (position c.args.pos) (flags_view c.args.flags) (expected c.args.expected_ty) c.args.nesting
    (standing c.args.tyenv.now c.report_unknown.new.work) c.in_default.ensures refl c.report_unknown.ensures.remains c.in_ok-report_unknown.ensures.exact)

pub returns-in_err-left-clause-reads : goal.returns-in_err-left-clause-reads
returns-in_err-left-clause-reads c =
    rw (stop_is c.from_residual-in_err-left.result c.in_err-left.field-0.0 c.from_residual-in_err-left.ensures, c.requires.whole)
    (taken.conversion_stops c.args.self.now (standing c.args.tyenv.now c.args.work.now) (term_expr (name_view c.args.sym.now) (expr_views c.args.args.now) (position c.args.pos)) (position c.args.pos) (flags_view c.args.flags) (expected c.args.expected_ty)
    c.args.nesting (term_view c.in-Some-expr_converter.by.now)
    (taken.converted_call c.args.self.now (standing c.args.tyenv.now c.args.work.now) c.requires.inverse (name_view c.args.sym.now) (expr_views c.args.args.now) (position c.args.pos) (flags_view c.args.flags) (expected c.args.expected_ty) c.args.nesting
    (term_view c.in-Some.term.now) c.in-Some.ensures (term_view c.in-Some-expr_converter.by.now) c.in-Some-expr_converter.ensures)
    (standing c.args.tyenv.now c.expand.new.self) refl c.in_err-left.field-0.0 c.in_err-left.ensures)

pub returns-in-Some-expr_converter-clause-reads : goal.returns-in-Some-expr_converter-clause-reads
returns-in-Some-expr_converter-clause-reads c =
    rw (c.in_ok-inside.ensures, c.requires.whole)
    (taken.conversion_leads c.args.self.now (standing c.args.tyenv.now c.args.work.now) (term_expr (name_view c.args.sym.now) (expr_views c.args.args.now) (position c.args.pos)) (position c.args.pos) (flags_view c.args.flags) (expected c.args.expected_ty)
    c.args.nesting (term_view c.in-Some-expr_converter.by.now)
    (taken.converted_call c.args.self.now (standing c.args.tyenv.now c.args.work.now) c.requires.inverse (name_view c.args.sym.now) (expr_views c.args.args.now) (position c.args.pos) (flags_view c.args.flags) (expected c.args.expected_ty) c.args.nesting
    (term_view c.in-Some.term.now) c.in-Some.ensures (term_view c.in-Some-expr_converter.by.now) c.in-Some-expr_converter.ensures)
    (standing c.args.tyenv.now c.expand.new.self) c.in_ok-left.left refl c.in_ok-left.ensures.0 c.in_ok-left.ensures.1)

pub returns-in-Some-declared_converter-clause-reads : goal.returns-in-Some-declared_converter-clause-reads
returns-in-Some-declared_converter-clause-reads c =
    rw c.requires.whole
    (taken.call_unconverted c.args.self.now (standing c.args.tyenv.now c.args.work.now) c.requires.inverse (name_view c.args.sym.now) (expr_views c.args.args.now) (position c.args.pos) (flags_view c.args.flags) (expected c.args.expected_ty) c.args.nesting
    (term_view c.in-Some.term.now) c.in-Some.ensures _ refl (record { vars = refl; names = λ k. refl; expansions = refl }) c.in_default-expr_converter.ensures
    (term_view c.in-Some-declared_converter.by.now) c.in-Some-declared_converter.ensures (told_at (position c.args.pos) _ _ c.in_ok-report_name.ensures.told))

pub returns-clause-reads : goal.returns-clause-reads
returns-clause-reads c =
    rw c.requires.whole
    (taken.parts_lead c.args.self.now (standing c.args.tyenv.now c.args.work.now) c.requires.inverse (name_view c.args.sym.now) (expr_views c.args.args.now) (position c.args.pos) (flags_view c.args.flags) (expected c.args.expected_ty) c.args.nesting
    (term_view c.in-Some.term.now) c.in-Some.ensures (standing c.args.tyenv.now c.check_call.new.work) refl c.check_call.ensures.remains c.in_default-expr_converter.ensures
    c.in_default-declared_converter.ensures _ (sym (taken.list_length c.args.args.now)) c.in_ok-check_call.ensures.exact)

pub returns-in-Some-expr_converter-clause-deeper : goal.returns-in-Some-expr_converter-clause-deeper
returns-in-Some-expr_converter-clause-deeper c =
    let at = position c.args.pos in
    rw c.in_ok-inside.ensures (c.in_ok-left.ensures.0, name_at c.args.tyenv.now (term_view c.in-Some-expr_converter.by.now) at, at, refl)
