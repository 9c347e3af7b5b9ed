-- The expressions so far, and those that follow, are what all arguments are; so are the definitions of a let.
use Rattle.std.proofs.Common.{All}
use Rattle.core_syntax.specs.SyntaxViews.{expr_view}
use Rattle.text_reader.specs.Within.{ExprIsWithin}
use Rattle.text_reader.specs.Lets.{LetIsWithin}
use Rattle.text_reader.specs.FormViews.{all_view}
use Rattle.text_reader.specs.ExprGrammar.{expr_arguments_of, lets_in}
use Rattle.text_reader.proofs.ReadTrees.{ExprsAreRead, LetsAreRead}
use Rattle.text_reader.proofs.expressions.+expression.Given as goal

abbrev pub invariant-arguments-loop-i : goal.invariant-arguments-loop-i
invariant-arguments-loop-i l =
    All (λ e. ExprIsWithin l.at.file l.at.len (expr_view e)) l.expressions.items
    × ExprsAreRead (expr_arguments_of (all_view l.parts)) l.parts l.i l.expressions.items

abbrev pub invariant-let_definitions_of-loop-form : goal.invariant-let_definitions_of-loop-form
invariant-let_definitions_of-loop-form l =
    All (LetIsWithin l.at.file l.at.len) l.defs.items
    × LetsAreRead (lets_in (all_view l.forms)) l.forms l.form-index l.defs.items
