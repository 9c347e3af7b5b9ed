use Rattle.std.proofs.Common.{◌≡◌, drop}
use Rattle.core_syntax.specs.SyntaxViews.{expr_views, let_views}
use Rattle.text_writer.specs.Spellable.{exprs_are_spellable, lets_are_spellable}
use Rattle.text_writer.proofs.expressions.+spellable.Given as goal

abbrev pub invariant-exprs_are_spellable-loop-expr : goal.invariant-exprs_are_spellable-loop-expr
invariant-exprs_are_spellable-loop-expr l =
    exprs_are_spellable (expr_views (drop l.expr-index l.exprs)) l.room ≡ exprs_are_spellable (expr_views l.exprs) l.room

abbrev pub invariant-lets_are_spellable-loop-def : goal.invariant-lets_are_spellable-loop-def
invariant-lets_are_spellable-loop-def l =
    lets_are_spellable (let_views (drop l.def-index l.defs)) l.room ≡ lets_are_spellable (let_views l.defs) l.room
