use Rattle.std.proofs.Common.{refl, [], ◌∷◌, ap}
use Rattle.core_syntax.specs.SyntaxViews as S
use Rattle.core_terms.specs.TermViews.{flags_view, term_view}
use Rattle.core_rules.specs.RuleReadings.{sides_view}
use Rattle.core_typed.specs.RuleViews.{rule_view}
use Rattle.core_rules.specs.ShownSettings.{standing}
use Rattle.core_rules.proofs.Readings.{stop_is}
use Rattle.core_syntax.specs.Positions.{OccurAmong, rule_positions}
use Rattle.core_syntax.proofs.Positioned.{among_same, notes_among, notes_parts}
use Rattle.core_rules.specs.RulePositions.{with_templates}
use Rattle.core_rules.proofs.ErrorPositions.{among_here}
use Rattle.core_rules.proofs.PartPlaces.{rule_at}
use Rattle.core_typed.proofs.NotedErrors.{told_at}
use Rattle.core_rules.proofs.RulesTaken.{rootless, root_unknown, root_undeclared, sides_not_made, sides_stop_all, rule_made}
use Rattle.core_rules.proofs.term_env.TermEnv.translate_rule.Goals as goal

pub returns-in_default-clause-places : goal.returns-in_default-clause-places
returns-in_default-clause-places c =
    let env = c.args.self.now in
    let tree = S.rule_view c.args.rule.now in
    let all = with_templates env (rule_positions tree) in
    let here : OccurAmong (tree.at ∷ []) all = among_here env (tree.at ∷ []) (rule_positions tree) (rule_at tree) in
    notes_among (tree.at ∷ []) all c.args.work.now.errors.items c.report.new.errors.items here c.in_ok-report.ensures.places

pub returns-in_default-find_term-clause-places : goal.returns-in_default-find_term-clause-places
returns-in_default-find_term-clause-places c =
    let env = c.args.self.now in
    let tree = S.rule_view c.args.rule.now in
    let all = with_templates env (rule_positions tree) in
    let here : OccurAmong (tree.at ∷ []) all = among_here env (tree.at ∷ []) (rule_positions tree) (rule_at tree) in
    notes_among (tree.at ∷ []) all c.args.work.now.errors.items c.report_name.new.errors.items here c.in_ok-report_name.ensures.places

pub returns-in_default-flags_of-clause-places : goal.returns-in_default-flags_of-clause-places
returns-in_default-flags_of-clause-places c =
    let env = c.args.self.now in
    let tree = S.rule_view c.args.rule.now in
    let all = with_templates env (rule_positions tree) in
    let here : OccurAmong (tree.at ∷ []) all = among_here env (tree.at ∷ []) (rule_positions tree) (rule_at tree) in
    notes_among (tree.at ∷ []) all c.args.work.now.errors.items c.report_name-in_default-flags_of.new.errors.items here c.in_ok-report_name-2.ensures.places

pub returns-in_err-made-clause-places : goal.returns-in_err-made-clause-places
returns-in_err-made-clause-places c =
    rw (stop_is c.from_residual-in_err-made.result c.in_err-made.field-0.0 c.from_residual-in_err-made.ensures) c.in_err-made.ensures.places

pub returns-in_default-made-clause-places : goal.returns-in_default-made-clause-places
returns-in_default-made-clause-places c =
    c.in_ok-made.ensures.places

pub returns-clause-places : goal.returns-clause-places
returns-clause-places c =
    let env = c.args.self.now in
    let tree = S.rule_view c.args.rule.now in
    let all = with_templates env (rule_positions tree) in
    let here : OccurAmong (tree.at ∷ []) all = among_here env (tree.at ∷ []) (rule_positions tree) (rule_at tree) in
    notes_parts all (tree.at ∷ []) all c.args.work.now.errors.items c.translate_sides.new.work.errors.items c.check_priority.new.errors.items (among_same all) here c.in_ok-made.ensures.places c.in_ok-check_priority.ensures.places

pub returns-clause-stands : goal.returns-clause-stands
returns-clause-stands c =
    ap (λ r. r.at) c.in_ok-whole.ensures.view

pub returns-in_default-clause-reads : goal.returns-in_default-clause-reads
returns-in_default-clause-reads c =
    rootless c.args.self.now (standing c.args.tyenv.now c.args.work.now) c.requires (S.rule_view c.args.rule.now) c.args.id.0 c.args.nesting
    (standing c.args.tyenv.now _) c.in_default.ensures refl (record { vars = refl; names = λ k. refl; expansions = refl }) (told_at _ _ _ c.in_ok-report.ensures.told)

pub returns-in_default-find_term-clause-reads : goal.returns-in_default-find_term-clause-reads
returns-in_default-find_term-clause-reads c =
    root_unknown c.args.self.now (standing c.args.tyenv.now c.args.work.now) c.requires (S.rule_view c.args.rule.now) c.args.id.0 c.args.nesting (S.name_view c.in-Some.sym.now) c.in-Some.ensures
    (standing c.args.tyenv.now _) c.in_default-find_term.ensures refl (record { vars = refl; names = λ k. refl; expansions = refl }) (told_at _ _ _ c.in_ok-report_name.ensures.told)

pub returns-in_default-flags_of-clause-reads : goal.returns-in_default-flags_of-clause-reads
returns-in_default-flags_of-clause-reads c =
    root_undeclared c.args.self.now (standing c.args.tyenv.now c.args.work.now) c.requires (S.rule_view c.args.rule.now) c.args.id.0 c.args.nesting (S.name_view c.in-Some.sym.now) c.in-Some.ensures (term_view c.in-Some-find_term.term.now) c.in-Some-find_term.ensures
    (standing c.args.tyenv.now _) c.in_default-flags_of.ensures refl (record { vars = refl; names = λ k. refl; expansions = refl }) (told_at _ _ _ c.in_ok-report_name-2.ensures.told)

pub returns-in_err-made-clause-reads : goal.returns-in_err-made-clause-reads
returns-in_err-made-clause-reads c =
    rw (stop_is c.from_residual-in_err-made.result c.in_err-made.field-0.0 c.from_residual-in_err-made.ensures)
    (sides_stop_all c.args.self.now (standing c.args.tyenv.now c.args.work.now) c.requires (S.rule_view c.args.rule.now) c.args.id.0 c.args.nesting (S.name_view c.in-Some.sym.now) c.in-Some.ensures (term_view c.in-Some-find_term.term.now) c.in-Some-find_term.ensures
    (flags_view c.in-Some-flags_of.flags) c.in-Some-flags_of.ensures (standing c.translate_sides.new.tyenv c.translate_sides.new.work) c.in_err-made.field-0.0 c.in_err-made.ensures.reads)

pub returns-in_default-made-clause-reads : goal.returns-in_default-made-clause-reads
returns-in_default-made-clause-reads c =
    sides_not_made c.args.self.now (standing c.args.tyenv.now c.args.work.now) c.requires (S.rule_view c.args.rule.now) c.args.id.0 c.args.nesting (S.name_view c.in-Some.sym.now) c.in-Some.ensures (term_view c.in-Some-find_term.term.now) c.in-Some-find_term.ensures
    (flags_view c.in-Some-flags_of.flags) c.in-Some-flags_of.ensures (standing c.translate_sides.new.tyenv c.translate_sides.new.work) (rw c.in_default-made.is at c.in_ok-made.ensures.reads)

pub returns-clause-reads : goal.returns-clause-reads
returns-clause-reads c =
    rule_made c.args.self.now (standing c.args.tyenv.now c.args.work.now) c.requires (S.rule_view c.args.rule.now) c.args.id.0 c.args.nesting (S.name_view c.in-Some.sym.now) c.in-Some.ensures (term_view c.in-Some-find_term.term.now) c.in-Some-find_term.ensures
    (flags_view c.in-Some-flags_of.flags) c.in-Some-flags_of.ensures (standing c.translate_sides.new.tyenv c.translate_sides.new.work) (standing c.translate_sides.new.tyenv _) _ (sides_view c.in-Some-made.sides) (rule_view c.in_ok-whole.whole) c.translate_sides.new.work.seen.items
    (rw c.in-Some-made.is at c.in_ok-made.ensures.reads) refl (record { vars = refl; names = λ k. refl; expansions = refl }) c.in_ok-check_priority.ensures.exact refl c.finish_rule.ensures.keeps c.in_ok-whole.ensures.names refl c.in_ok-whole.ensures.view
