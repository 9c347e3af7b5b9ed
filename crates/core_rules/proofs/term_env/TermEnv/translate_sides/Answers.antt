use Rattle.std.proofs.Common.{map, List, ◌∷◌, Some, None}
use Rattle.core_syntax.specs.SyntaxViews as S
use Rattle.core_terms.specs.TermViews.{flags_view, term_view}
use Rattle.core_typed.specs.ExprViews.{expr_view}
use Rattle.core_typed.specs.PatternViews.{pattern_views, pattern_parts}
use Rattle.core_typed.specs.RuleViews.{iflet_view}
use Rattle.core_rules.specs.ShownSettings.{standing}
use Rattle.core_rules.proofs.Readings.{stop_is}
use Rattle.std.specs.List.{flat_map}
use Rattle.model.specs.lists.Syntax.{Position}
use Rattle.core_syntax.specs.Positions.{OccurAmong, patterns_positions, expr_positions, iflet_positions, rule_positions}
use Rattle.core_syntax.proofs.Positioned.{among_same, notes_parts}
use Rattle.core_rules.specs.RulePositions.{with_templates}
use Rattle.core_rules.proofs.ErrorPositions.{among_here, among_with, stop_among, stop_step}
use Rattle.core_rules.proofs.PartPlaces.{rule_root, rule_iflets, rule_value}
use Rattle.core_rules.proofs.SidesTaken.{sides_root_stops, sides_iflets_stop, sides_value_stops, sides_end}
use Rattle.core_rules.proofs.term_env.TermEnv.translate_sides.Goals as goal

pub returns-in_err-parts-clause-places : goal.returns-in_err-parts-clause-places
returns-in_err-parts-clause-places c =
    let env = c.args.self.now in
    let tree = S.rule_view c.args.rule.now in
    let all = with_templates env (rule_positions tree) in
    let args : List Position = tree.at ∷ patterns_positions (S.pattern_views c.args.args.now) in
    let first : OccurAmong (with_templates env args) all = among_with env args (rule_positions tree) (rule_root tree (S.pattern_views c.args.args.now) c.requires.root) in
    rw (stop_is c.from_residual.result c.in_err-parts.field-0.0 c.from_residual.ensures)
    (stop_among (with_templates env args) all c.args.work.now.errors.items c.translate_root.new.work.errors.items c.in_err-parts.field-0.0 first c.in_err-parts.ensures.places)

pub returns-in_err-iflets-clause-places : goal.returns-in_err-iflets-clause-places
returns-in_err-iflets-clause-places c =
    let env = c.args.self.now in
    let tree = S.rule_view c.args.rule.now in
    let all = with_templates env (rule_positions tree) in
    let args : List Position = tree.at ∷ patterns_positions (S.pattern_views c.args.args.now) in
    let first : OccurAmong (with_templates env args) all = among_with env args (rule_positions tree) (rule_root tree (S.pattern_views c.args.args.now) c.requires.root) in
    let iflets = flat_map iflet_positions (map S.iflet_view c.args.rule.now.iflets.items) in
    let second : OccurAmong (with_templates env iflets) all = among_with env iflets (rule_positions tree) (rule_iflets tree) in
    rw (stop_is c.from_residual-in_err-iflets.result c.in_err-iflets.field-0.0 c.from_residual-in_err-iflets.ensures)
    (stop_step (with_templates env args) (with_templates env iflets) all c.args.work.now.errors.items c.translate_root.new.work.errors.items c.translate_iflets.new.work.errors.items c.in_err-iflets.field-0.0 first second c.in_ok-parts.ensures.places (rw c.deref.ensures.value at c.in_err-iflets.ensures.places))

pub returns-in_err-value-clause-places : goal.returns-in_err-value-clause-places
returns-in_err-value-clause-places c =
    let env = c.args.self.now in
    let tree = S.rule_view c.args.rule.now in
    let all = with_templates env (rule_positions tree) in
    let args : List Position = tree.at ∷ patterns_positions (S.pattern_views c.args.args.now) in
    let first : OccurAmong (with_templates env args) all = among_with env args (rule_positions tree) (rule_root tree (S.pattern_views c.args.args.now) c.requires.root) in
    let iflets = flat_map iflet_positions (map S.iflet_view c.args.rule.now.iflets.items) in
    let second : OccurAmong (with_templates env iflets) all = among_with env iflets (rule_positions tree) (rule_iflets tree) in
    let value = expr_positions tree.expr in
    let third : OccurAmong value all = among_here env value (rule_positions tree) (rule_value tree) in
    let before = notes_parts (with_templates env args) (with_templates env iflets) all c.args.work.now.errors.items c.translate_root.new.work.errors.items c.translate_iflets.new.work.errors.items first second c.in_ok-parts.ensures.places (rw c.deref.ensures.value at c.in_ok-iflets.ensures.places) in
    rw (stop_is c.from_residual-in_err-value.result c.in_err-value.field-0.0 c.from_residual-in_err-value.ensures)
    (stop_step all value all c.args.work.now.errors.items c.translate_iflets.new.work.errors.items c.translate_expr.new.work.errors.items c.in_err-value.field-0.0 (among_same all) third before c.in_err-value.ensures.places)

pub returns-in_default-clause-places : goal.returns-in_default-clause-places
returns-in_default-clause-places c =
    let env = c.args.self.now in
    let tree = S.rule_view c.args.rule.now in
    let all = with_templates env (rule_positions tree) in
    let args : List Position = tree.at ∷ patterns_positions (S.pattern_views c.args.args.now) in
    let first : OccurAmong (with_templates env args) all = among_with env args (rule_positions tree) (rule_root tree (S.pattern_views c.args.args.now) c.requires.root) in
    let iflets = flat_map iflet_positions (map S.iflet_view c.args.rule.now.iflets.items) in
    let second : OccurAmong (with_templates env iflets) all = among_with env iflets (rule_positions tree) (rule_iflets tree) in
    let value = expr_positions tree.expr in
    let third : OccurAmong value all = among_here env value (rule_positions tree) (rule_value tree) in
    let before = notes_parts (with_templates env args) (with_templates env iflets) all c.args.work.now.errors.items c.translate_root.new.work.errors.items c.translate_iflets.new.work.errors.items first second c.in_ok-parts.ensures.places (rw c.deref.ensures.value at c.in_ok-iflets.ensures.places) in
    notes_parts all value all c.args.work.now.errors.items c.translate_iflets.new.work.errors.items c.translate_expr.new.work.errors.items (among_same all) third before c.in_ok-value.ensures.places

pub returns-clause-places : goal.returns-clause-places
returns-clause-places c =
    let env = c.args.self.now in
    let tree = S.rule_view c.args.rule.now in
    let all = with_templates env (rule_positions tree) in
    let args : List Position = tree.at ∷ patterns_positions (S.pattern_views c.args.args.now) in
    let first : OccurAmong (with_templates env args) all = among_with env args (rule_positions tree) (rule_root tree (S.pattern_views c.args.args.now) c.requires.root) in
    let iflets = flat_map iflet_positions (map S.iflet_view c.args.rule.now.iflets.items) in
    let second : OccurAmong (with_templates env iflets) all = among_with env iflets (rule_positions tree) (rule_iflets tree) in
    let value = expr_positions tree.expr in
    let third : OccurAmong value all = among_here env value (rule_positions tree) (rule_value tree) in
    let before = notes_parts (with_templates env args) (with_templates env iflets) all c.args.work.now.errors.items c.translate_root.new.work.errors.items c.translate_iflets.new.work.errors.items first second c.in_ok-parts.ensures.places (rw c.deref.ensures.value at c.in_ok-iflets.ensures.places) in
    notes_parts all value all c.args.work.now.errors.items c.translate_iflets.new.work.errors.items c.translate_expr.new.work.errors.items (among_same all) third before c.in_ok-value.ensures.places

pub returns-in_err-parts-clause-reads : goal.returns-in_err-parts-clause-reads
returns-in_err-parts-clause-reads c =
    rw (stop_is c.from_residual.result c.in_err-parts.field-0.0 c.from_residual.ensures)
    (sides_root_stops c.args.self.now (S.rule_view c.args.rule.now) (S.pattern_views c.args.args.now) c.requires.root (S.name_view c.args.sym.now) (term_view c.args.term.now) (flags_view c.args.flags) c.args.nesting
    (standing c.args.tyenv.now c.args.work.now) (standing c.translate_root.new.tyenv c.translate_root.new.work)
    c.in_err-parts.field-0.0 (rw c.as_slice-tys.ensures.value at c.in_err-parts.ensures.reads))

pub returns-in_err-iflets-clause-reads : goal.returns-in_err-iflets-clause-reads
returns-in_err-iflets-clause-reads c =
    let first = rw c.as_slice-tys.ensures.value at c.in_ok-parts.ensures.reads in
    rw (stop_is c.from_residual-in_err-iflets.result c.in_err-iflets.field-0.0 c.from_residual-in_err-iflets.ensures)
    (sides_iflets_stop c.args.self.now (S.rule_view c.args.rule.now) (S.pattern_views c.args.args.now) c.requires.root (S.name_view c.args.sym.now) (term_view c.args.term.now) (flags_view c.args.flags) c.args.nesting
    (standing c.args.tyenv.now c.args.work.now) (standing c.translate_root.new.tyenv c.translate_root.new.work)
    (standing c.translate_iflets.new.tyenv c.translate_iflets.new.work) c.translate_root.ensures.keeps (pattern_parts (pattern_views c.in_ok-parts.parts.items)) first
    c.in_err-iflets.field-0.0 (rw c.deref.ensures.value at c.in_err-iflets.ensures.reads))

pub returns-in_err-value-clause-reads : goal.returns-in_err-value-clause-reads
returns-in_err-value-clause-reads c =
    let first = rw c.as_slice-tys.ensures.value at c.in_ok-parts.ensures.reads in
    let second = rw c.deref.ensures.value at c.in_ok-iflets.ensures.reads in
    rw (stop_is c.from_residual-in_err-value.result c.in_err-value.field-0.0 c.from_residual-in_err-value.ensures)
    (sides_value_stops c.args.self.now (S.rule_view c.args.rule.now) (S.pattern_views c.args.args.now) c.requires.root (S.name_view c.args.sym.now) (term_view c.args.term.now) (flags_view c.args.flags) c.args.nesting
    (standing c.args.tyenv.now c.args.work.now) (standing c.translate_root.new.tyenv c.translate_root.new.work)
    (standing c.translate_iflets.new.tyenv c.translate_iflets.new.work) c.translate_root.ensures.keeps (pattern_parts (pattern_views c.in_ok-parts.parts.items)) first
    (standing c.translate_expr.new.tyenv c.translate_expr.new.work) c.translate_iflets.ensures.keeps (map iflet_view c.in_ok-iflets.iflets.items) second
    c.in_err-value.field-0.0 c.in_err-value.ensures.reads)

pub returns-in_default-clause-reads : goal.returns-in_default-clause-reads
returns-in_default-clause-reads c =
    let first = rw c.as_slice-tys.ensures.value at c.in_ok-parts.ensures.reads in
    let second = rw c.deref.ensures.value at c.in_ok-iflets.ensures.reads in
    sides_end c.args.self.now (S.rule_view c.args.rule.now) (S.pattern_views c.args.args.now) c.requires.root (S.name_view c.args.sym.now) (term_view c.args.term.now) (flags_view c.args.flags) c.args.nesting
    (standing c.args.tyenv.now c.args.work.now) (standing c.translate_root.new.tyenv c.translate_root.new.work)
    (standing c.translate_iflets.new.tyenv c.translate_iflets.new.work) c.translate_root.ensures.keeps (pattern_parts (pattern_views c.in_ok-parts.parts.items)) first
    (standing c.translate_expr.new.tyenv c.translate_expr.new.work) c.translate_iflets.ensures.keeps (map iflet_view c.in_ok-iflets.iflets.items) second
    None (rw c.in_default.is at c.in_ok-value.ensures.reads)

pub returns-clause-reads : goal.returns-clause-reads
returns-clause-reads c =
    let first = rw c.as_slice-tys.ensures.value at c.in_ok-parts.ensures.reads in
    let second = rw c.deref.ensures.value at c.in_ok-iflets.ensures.reads in
    sides_end c.args.self.now (S.rule_view c.args.rule.now) (S.pattern_views c.args.args.now) c.requires.root (S.name_view c.args.sym.now) (term_view c.args.term.now) (flags_view c.args.flags) c.args.nesting
    (standing c.args.tyenv.now c.args.work.now) (standing c.translate_root.new.tyenv c.translate_root.new.work)
    (standing c.translate_iflets.new.tyenv c.translate_iflets.new.work) c.translate_root.ensures.keeps (pattern_parts (pattern_views c.in_ok-parts.parts.items)) first
    (standing c.translate_expr.new.tyenv c.translate_expr.new.work) c.translate_iflets.ensures.keeps (map iflet_view c.in_ok-iflets.iflets.items) second
    (Some (expr_view c.in-Some.rhs)) (rw c.in-Some.is at c.in_ok-value.ensures.reads)
