use Rattle.std.proofs.Common.{ap, sym, ◌∙◌, Ok}
use Rattle.core_syntax.specs.SyntaxViews.{position}
use Rattle.text_reader.specs.SpecTrees.{spec_let}
use Rattle.text_reader.specs.SpecViews.{spec_expr_view, spec_expr_views}
use Rattle.text_reader.proofs.SpecViews.{row_spec_exprs-hidden}
use Rattle.text_reader.proofs.spec_expressions.under_definitions.Goals as goal

pub returns : goal.returns
returns c =
    ap Ok (sym (ap (λ xs. spec_let xs (spec_expr_view c.in_ok-body.body.value) (position c.args.pos)) (row_spec_exprs-hidden c.args.defs)
    ∙ ap (λ x. spec_let (spec_expr_views c.args.defs.items) (spec_expr_view x) (position c.args.pos)) c.in_ok-body.ensures.ok))
