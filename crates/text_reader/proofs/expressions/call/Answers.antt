use Rattle.std.proofs.Common.{ap}
use Rattle.model.specs.lists.Syntax.{term_expr}
use Rattle.core_syntax.specs.SyntaxViews.{name_view, position}
use Rattle.core_syntax.proofs.ExprViews.{row_exprs-hidden}
use Rattle.text_reader.proofs.Rows.{exprs-in_row}
use Rattle.text_reader.proofs.expressions.call.Goals as goal

pub returns-clause-read : goal.returns-clause-read
returns-clause-read c = ap (λ es. term_expr (name_view c.args.sym) es (position c.args.pos)) (row_exprs-hidden c.args.args)

pub returns-clause-within : goal.returns-clause-within
returns-clause-within c =
    (c.requires.sym, exprs-in_row c.args.at.file c.args.at.len c.args.args c.requires.args, c.requires.pos)
