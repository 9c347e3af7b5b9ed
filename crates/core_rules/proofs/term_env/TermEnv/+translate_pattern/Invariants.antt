use Rattle.std.proofs.Common.{map}
use Rattle.core_syntax.specs.SyntaxViews as S
use Rattle.core_syntax.specs.Positions.{NotesAt, patterns_positions}
use Rattle.core_terms.specs.TermViews.{term_views}
use Rattle.core_rules.specs.RulePositions.{with_templates}
use Rattle.core_rules.specs.ShownSettings.{standing, Keeps}
use Rattle.core_rules.specs.PatternTaking.{parts_steps, each_steps}
use Rattle.core_rules.specs.Taking.{LeadsOn}
use Rattle.core_rules.proofs.PatternListsTaken.{after_made, args_from, each_from}
use Rattle.core_rules.proofs.PatternSizes.{tree_size, trees_size, growth, grown}
use Rattle.core_rules.proofs.term_env.TermEnv.+translate_pattern.Given as goal

abbrev pub decreases-translate_pattern : goal.decreases-translate_pattern
decreases-translate_pattern l = grown (growth (term_views l.self.now.terms.items)) l.nesting (tree_size (S.pattern_view l.pat.now))

abbrev pub decreases-translate_args : goal.decreases-translate_args
decreases-translate_args l = grown (growth (term_views l.self.now.terms.items)) l.nesting (trees_size (S.pattern_views l.args.now))

abbrev pub decreases-translate_each : goal.decreases-translate_each
decreases-translate_each l = grown (growth (term_views l.self.now.terms.items)) l.nesting (trees_size (S.pattern_views l.subpats.now))

abbrev pub invariant-translate_args-loop-i : goal.invariant-translate_args-loop-i
invariant-translate_args-loop-i l =
    Keeps l.fn.tyenv l.tyenv
    × NotesAt (with_templates l.self (patterns_positions (S.pattern_views l.args))) l.fn.work.errors.items l.work.errors.items
    × LeadsOn l.self (standing l.fn.tyenv l.fn.work) (standing l.tyenv l.work) (parts_steps l.multi (S.pattern_views l.args) (map (λ t. t.0) l.tys) l.nesting) (args_from l.multi l.args l.tys l.nesting l.i) (after_made l.parts.items)

abbrev pub invariant-translate_each-loop-subpat : goal.invariant-translate_each-loop-subpat
invariant-translate_each-loop-subpat l =
    Keeps l.fn.tyenv l.tyenv
    × NotesAt (with_templates l.self (patterns_positions (S.pattern_views l.subpats))) l.fn.work.errors.items l.work.errors.items
    × LeadsOn l.self (standing l.fn.tyenv l.fn.work) (standing l.tyenv l.work) (each_steps l.multi (S.pattern_views l.subpats) l.expected_ty.0 l.nesting) (each_from l.multi l.subpats l.expected_ty.0 l.nesting l.subpat-index) (after_made l.parts.items)
