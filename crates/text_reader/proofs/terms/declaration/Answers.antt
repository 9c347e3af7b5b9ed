use Rattle.std.proofs.Common.{sym, subst}
use Rattle.core_syntax.specs.SyntaxViews.{definition_view, position}
use Rattle.text_reader.specs.TermGrammar.{declared_of}
use Rattle.text_reader.specs.Views.{Gives}
use Rattle.text_reader.proofs.LastForms.{three_last, too_few}
use Rattle.text_reader.proofs.terms.declaration.Goals as goal

pub returns-in-len3-up-clause-read : goal.returns-in-len3-up-clause-read
returns-in-len3-up-clause-read c =
    subst (λ s. Gives definition_view c.declared.result (declared_of (position c.args.parts.pos) s))
    (sym (three_last c.args.parts.forms.now c.term-item.result c.args-item.result c.ret-item.result c.in-len3-up.len_at_least c.term-item.is c.args-item.is c.ret-item.is))
    c.declared.ensures.read

pub returns-in_default-clause-read : goal.returns-in_default-clause-read
returns-in_default-clause-read c = rw (too_few c.args.parts.forms.now c.in_default.len_below, c.fault.ensures)
