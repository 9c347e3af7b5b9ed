use Rattle.std.proofs.Common.{ap}
use Rattle.core_syntax.specs.SyntaxViews.{name_view, position}
use Rattle.text_reader.specs.SpecTrees.{spec_op}
use Rattle.text_reader.proofs.SpecViews.{row_spec_exprs-hidden}
use Rattle.text_reader.proofs.spec_expressions.operation.Goals as goal

pub returns : goal.returns
returns c = ap (λ xs. spec_op (name_view c.args.op) xs (position c.args.pos)) (row_spec_exprs-hidden c.args.args)
