use Rattle.std.proofs.Common.{ap, ◌∙◌, sym, Ok}
use Rattle.core_syntax.specs.SyntaxViews.{position}
use Rattle.text_reader.specs.FormViews.{all_view, form_view}
use Rattle.text_reader.specs.Grammar.{list_of, listed}
use Rattle.text_reader.proofs.Stacks.{row_hidden}
use Rattle.text_reader.proofs.parts.list.Goals as goal

pub returns-in-Group-clause-read : goal.returns-in-Group-clause-read
returns-in-Group-clause-read c =
    ap (λ f. list_of c.args.mistake (form_view f)) c.in-Group.is
    ∙ ap (λ fs. Ok (listed fs (position c.in-Group.pos) (position c.in-Group.end))) (row_hidden c.in-Group.forms ∙ sym (ap all_view c.deref.ensures.value))
