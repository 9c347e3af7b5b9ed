use Rattle.std.proofs.Common.{suc, ◌+◌, ◌∷◌, map}
use Rattle.core_syntax.specs.SyntaxViews as S
use Rattle.core_syntax.specs.Positions.{NotesAt, exprs_positions, lets_positions}
use Rattle.core_terms.specs.TermViews.{flags_view}
use Rattle.core_rules.specs.LetTaking.{lets_steps}
use Rattle.core_rules.specs.ShownSettings.{standing, Keeps}
use Rattle.core_rules.proofs.ExprSizes.{expr_size, exprs_size, lets_size}
use Rattle.core_rules.proofs.LetsTaken.{DefinesSoFar, defs_from}
use Rattle.core_rules.proofs.PatternSizes.{grown}
use Rattle.core_rules.specs.ExprTaking.{args_steps}
use Rattle.core_rules.specs.Taking.{LeadsOn}
use Rattle.core_rules.proofs.ExprListsTaken.{after_made, args_from}
use Rattle.core_rules.proofs.term_env.TermEnv.+translate_expr.Given as goal

abbrev pub decreases-translate_expr : goal.decreases-translate_expr
decreases-translate_expr l = grown 4 l.nesting (expr_size (S.expr_view l.expr.now))

abbrev pub decreases-translate_exprs : goal.decreases-translate_exprs
decreases-translate_exprs l = grown 4 l.nesting (exprs_size (S.expr_views l.args.now))

abbrev pub decreases-translate_let : goal.decreases-translate_let
decreases-translate_let l = grown 4 l.nesting (suc (lets_size (S.let_views l.defs.now) + expr_size (S.expr_view l.body.now)))

abbrev pub decreases-translate_defs : goal.decreases-translate_defs
decreases-translate_defs l = grown 4 l.nesting (lets_size (S.let_views l.defs.now))

abbrev pub decreases-translate_def : goal.decreases-translate_def
decreases-translate_def l = grown 4 l.nesting (suc (expr_size (S.expr_view l.def.now.val.value)))

abbrev pub invariant-translate_exprs-loop-i : goal.invariant-translate_exprs-loop-i
invariant-translate_exprs-loop-i l =
    Keeps l.fn.tyenv l.tyenv
    × NotesAt (exprs_positions (S.expr_views l.args)) l.fn.work.errors.items l.work.errors.items
    × LeadsOn l.self (standing l.fn.tyenv l.fn.work) (standing l.tyenv l.work) (args_steps (S.expr_views l.args) (flags_view l.flags) (map (λ t. t.0) l.tys) l.nesting) (args_from (flags_view l.flags) l.args l.tys l.nesting l.i) (after_made l.parts.items)

abbrev pub invariant-translate_defs-loop-def : goal.invariant-translate_defs-loop-def
invariant-translate_defs-loop-def l =
    Keeps l.fn.tyenv l.tyenv
    × NotesAt (S.position l.pos ∷ lets_positions (S.let_views l.defs)) l.fn.work.errors.items l.work.errors.items
    × DefinesSoFar l.self (standing l.fn.tyenv l.fn.work) (standing l.tyenv l.work) (lets_steps (S.let_views l.defs) (flags_view l.flags) (S.position l.pos) l.nesting) (defs_from l.defs (flags_view l.flags) (S.position l.pos) l.nesting l.def-index)
    l.bindings.items l.fn.hidden.items l.hidden.items
