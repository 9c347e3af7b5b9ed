use Rattle.std.proofs.Common.{◌≡◌, drop}
use Rattle.text_reader.specs.SpecViews.{spec_expr_views}
use Rattle.text_writer.specs.SpellableTrees.{pairs_are_spellable, spec_exprs_are_spellable}
use Rattle.text_writer.proofs.spellable_expressions.+spellable.Given as goal

abbrev pub invariant-exprs_are_spellable-loop-expr : goal.invariant-exprs_are_spellable-loop-expr
invariant-exprs_are_spellable-loop-expr l =
    spec_exprs_are_spellable (spec_expr_views (drop l.expr-index l.exprs)) l.room ≡ spec_exprs_are_spellable (spec_expr_views l.exprs) l.room

abbrev pub invariant-pairs_are_spellable-loop-expr : goal.invariant-pairs_are_spellable-loop-expr
invariant-pairs_are_spellable-loop-expr l =
    pairs_are_spellable (spec_expr_views (drop l.expr-index l.exprs)) l.room ≡ pairs_are_spellable (spec_expr_views l.exprs) l.room
