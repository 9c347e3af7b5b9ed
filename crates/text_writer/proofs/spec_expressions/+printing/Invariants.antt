use Rattle.std.proofs.Common.{◌≡◌, ◌++◌, ◌==◌, drop, string_bytes}
use Rattle.std.specs.Prelude.{if◌then◌else◌}
use Rattle.text_writer.specs.Texts.{parted, spaced}
use Rattle.text_writer.specs.SpecForms.{spec_expr_forms}
use Rattle.text_reader.specs.SpecViews.{spec_expr_views}
use Rattle.text_writer.proofs.spec_expressions.+printing.Given as goal

abbrev pub invariant-push_exprs-loop-expr : goal.invariant-push_exprs-loop-expr
invariant-push_exprs-loop-expr l =
    string_bytes l.out ++ spaced (spec_expr_forms (spec_expr_views (drop l.expr-index l.exprs))) ≡ string_bytes l.fn.out ++ spaced (spec_expr_forms (spec_expr_views l.exprs))

-- the first one has no space before it
abbrev pub invariant-push_parts-loop-i : goal.invariant-push_parts-loop-i
invariant-push_parts-loop-i l =
    string_bytes l.out ++ (if l.i == 0 then parted (spec_expr_forms (spec_expr_views (drop l.i l.exprs))) else spaced (spec_expr_forms (spec_expr_views (drop l.i l.exprs))))
    ≡ string_bytes l.fn.out ++ parted (spec_expr_forms (spec_expr_views l.exprs))
