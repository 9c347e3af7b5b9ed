use Rattle.std.proofs.Common.{ap, subst, sym, Ok}
use Rattle.core_syntax.specs.SyntaxViews.{expr_view}
use Rattle.text_reader.specs.Within.{ExprIsWithin}
use Rattle.text_reader.proofs.Rows.{lets-in_row}
use Rattle.text_reader.proofs.ReadLists.{let-read}
use Rattle.text_reader.proofs.expressions.let_in.Goals as goal

pub returns-clause-read : goal.returns-clause-read
returns-clause-read c = ap Ok (let-read c.args.defs _ c.args.body c.args.pos c.in_ok-body.ensures.ok)

pub returns-clause-within : goal.returns-clause-within
returns-clause-within c =
    (lets-in_row c.args.at.file c.args.at.len c.args.defs c.requires.defs, subst (λ e. ExprIsWithin c.args.at.file c.args.at.len (expr_view e)) (sym c.in_ok-body.ensures.ok) c.requires.body, c.requires.pos)
