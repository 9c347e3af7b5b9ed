use Rattle.std.proofs.Common.{◌≡◌, Some, None, ap}
use Rattle.core_syntax.specs.SyntaxViews as S
use Rattle.model.specs.lists.Setting.{on_lhs}
use Rattle.core_terms.specs.TermViews.{flags_view}
use Rattle.core_typed.specs.ExprViews.{expr_view}
use Rattle.core_typed.specs.PatternViews.{pattern_view}
use Rattle.core_rules.specs.ShownSettings.{standing}
use Rattle.core_rules.proofs.Readings.{stop_is}
use Rattle.core_syntax.specs.Positions.{OccurAmong, pattern_positions, expr_positions, iflet_positions}
use Rattle.core_syntax.proofs.Positioned.{notes_among, notes_parts}
use Rattle.core_rules.specs.RulePositions.{with_templates}
use Rattle.core_rules.proofs.ErrorPositions.{among_here, among_with, stop_among, stop_step}
use Rattle.core_rules.proofs.PartPlaces.{given_inside, taken_inside}
use Rattle.core_rules.proofs.SidesTaken.{iflet_value_stops, iflet_no_value, iflet_pattern_stops, iflet_taken}
use Rattle.core_rules.proofs.term_env.TermEnv.translate_iflet.Goals as goal

pub returns-in_err-value-clause-places : goal.returns-in_err-value-clause-places
returns-in_err-value-clause-places c =
    let env = c.args.self.now in
    let tree = S.iflet_view c.args.iflet.now in
    let all = with_templates env (iflet_positions tree) in
    let first = expr_positions tree.expr in
    let inside : OccurAmong first all = among_here env first (iflet_positions tree) (given_inside tree) in
    rw (stop_is c.from_residual.result c.in_err-value.field-0.0 c.from_residual.ensures)
    (stop_among first all c.args.work.now.errors.items c.translate_expr.new.work.errors.items c.in_err-value.field-0.0 inside c.in_err-value.ensures.places)

pub returns-in_default-clause-places : goal.returns-in_default-clause-places
returns-in_default-clause-places c =
    let env = c.args.self.now in
    let tree = S.iflet_view c.args.iflet.now in
    let all = with_templates env (iflet_positions tree) in
    let first = expr_positions tree.expr in
    let inside : OccurAmong first all = among_here env first (iflet_positions tree) (given_inside tree) in
    notes_among first all c.args.work.now.errors.items c.translate_expr.new.work.errors.items inside c.in_ok-value.ensures.places

pub returns-in_err-taken-clause-places : goal.returns-in_err-taken-clause-places
returns-in_err-taken-clause-places c =
    let env = c.args.self.now in
    let tree = S.iflet_view c.args.iflet.now in
    let all = with_templates env (iflet_positions tree) in
    let first = expr_positions tree.expr in
    let inside : OccurAmong first all = among_here env first (iflet_positions tree) (given_inside tree) in
    let second = with_templates env (pattern_positions tree.pattern) in
    let taken : OccurAmong second all = among_with env (pattern_positions tree.pattern) (iflet_positions tree) (taken_inside tree) in
    rw (stop_is c.from_residual-in_err-taken.result c.in_err-taken.field-0.0 c.from_residual-in_err-taken.ensures)
    (stop_step first second all c.args.work.now.errors.items c.translate_expr.new.work.errors.items c.translate_pattern.new.work.errors.items c.in_err-taken.field-0.0 inside taken c.in_ok-value.ensures.places c.in_err-taken.ensures.places)

pub returns-in_default-taken-clause-places : goal.returns-in_default-taken-clause-places
returns-in_default-taken-clause-places c =
    let env = c.args.self.now in
    let tree = S.iflet_view c.args.iflet.now in
    let all = with_templates env (iflet_positions tree) in
    let first = expr_positions tree.expr in
    let inside : OccurAmong first all = among_here env first (iflet_positions tree) (given_inside tree) in
    let second = with_templates env (pattern_positions tree.pattern) in
    let taken : OccurAmong second all = among_with env (pattern_positions tree.pattern) (iflet_positions tree) (taken_inside tree) in
    notes_parts first second all c.args.work.now.errors.items c.translate_expr.new.work.errors.items c.translate_pattern.new.work.errors.items inside taken c.in_ok-value.ensures.places c.in_ok-taken.ensures.places

pub returns-clause-places : goal.returns-clause-places
returns-clause-places c =
    let env = c.args.self.now in
    let tree = S.iflet_view c.args.iflet.now in
    let all = with_templates env (iflet_positions tree) in
    let first = expr_positions tree.expr in
    let inside : OccurAmong first all = among_here env first (iflet_positions tree) (given_inside tree) in
    let second = with_templates env (pattern_positions tree.pattern) in
    let taken : OccurAmong second all = among_with env (pattern_positions tree.pattern) (iflet_positions tree) (taken_inside tree) in
    notes_parts first second all c.args.work.now.errors.items c.translate_expr.new.work.errors.items c.translate_pattern.new.work.errors.items inside taken c.in_ok-value.ensures.places c.in_ok-taken.ensures.places

pub returns-in_err-value-clause-reads : goal.returns-in_err-value-clause-reads
returns-in_err-value-clause-reads c =
    let flags : flags_view c.on_lhs.result ≡ on_lhs (flags_view c.args.flags) = ap flags_view c.on_lhs.ensures in
    rw (stop_is c.from_residual.result c.in_err-value.field-0.0 c.from_residual.ensures)
    (iflet_value_stops c.args.self.now (standing c.args.tyenv.now c.args.work.now) (standing c.translate_expr.new.tyenv c.translate_expr.new.work) (S.iflet_view c.args.iflet.now) (flags_view c.args.flags) c.args.nesting
    c.in_err-value.field-0.0 (rw flags at c.in_err-value.ensures.reads))

pub returns-in_default-clause-reads : goal.returns-in_default-clause-reads
returns-in_default-clause-reads c =
    let flags : flags_view c.on_lhs.result ≡ on_lhs (flags_view c.args.flags) = ap flags_view c.on_lhs.ensures in
    iflet_no_value c.args.self.now (standing c.args.tyenv.now c.args.work.now) (standing c.translate_expr.new.tyenv c.translate_expr.new.work) (S.iflet_view c.args.iflet.now) (flags_view c.args.flags) c.args.nesting
    (rw (c.in_default.is, flags) at c.in_ok-value.ensures.reads)

pub returns-in_err-taken-clause-reads : goal.returns-in_err-taken-clause-reads
returns-in_err-taken-clause-reads c =
    let flags : flags_view c.on_lhs.result ≡ on_lhs (flags_view c.args.flags) = ap flags_view c.on_lhs.ensures in
    rw (stop_is c.from_residual-in_err-taken.result c.in_err-taken.field-0.0 c.from_residual-in_err-taken.ensures)
    (iflet_pattern_stops c.args.self.now (standing c.args.tyenv.now c.args.work.now) (standing c.translate_expr.new.tyenv c.translate_expr.new.work) (S.iflet_view c.args.iflet.now) (flags_view c.args.flags) c.args.nesting
    (standing c.translate_pattern.new.tyenv c.translate_pattern.new.work) c.translate_expr.ensures.keeps (expr_view c.in-Some.rhs) (rw (c.in-Some.is, flags) at c.in_ok-value.ensures.reads)
    c.in_err-taken.field-0.0 (rw c.ty-ty.ensures at c.in_err-taken.ensures.reads))

pub returns-in_default-taken-clause-reads : goal.returns-in_default-taken-clause-reads
returns-in_default-taken-clause-reads c =
    let flags : flags_view c.on_lhs.result ≡ on_lhs (flags_view c.args.flags) = ap flags_view c.on_lhs.ensures in
    iflet_taken c.args.self.now (standing c.args.tyenv.now c.args.work.now) (standing c.translate_expr.new.tyenv c.translate_expr.new.work) (S.iflet_view c.args.iflet.now) (flags_view c.args.flags) c.args.nesting
    (standing c.translate_pattern.new.tyenv c.translate_pattern.new.work) c.translate_expr.ensures.keeps (expr_view c.in-Some.rhs) (rw (c.in-Some.is, flags) at c.in_ok-value.ensures.reads)
    None (rw (c.in_default-taken.is, c.ty-ty.ensures) at c.in_ok-taken.ensures.reads)

pub returns-clause-reads : goal.returns-clause-reads
returns-clause-reads c =
    let flags : flags_view c.on_lhs.result ≡ on_lhs (flags_view c.args.flags) = ap flags_view c.on_lhs.ensures in
    iflet_taken c.args.self.now (standing c.args.tyenv.now c.args.work.now) (standing c.translate_expr.new.tyenv c.translate_expr.new.work) (S.iflet_view c.args.iflet.now) (flags_view c.args.flags) c.args.nesting
    (standing c.translate_pattern.new.tyenv c.translate_pattern.new.work) c.translate_expr.ensures.keeps (expr_view c.in-Some.rhs) (rw (c.in-Some.is, flags) at c.in_ok-value.ensures.reads)
    (Some (pattern_view c.in-Some-taken.lhs)) (rw (c.in-Some-taken.is, c.ty-ty.ensures) at c.in_ok-taken.ensures.reads)
