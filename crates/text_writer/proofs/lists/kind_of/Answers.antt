use Rattle.std.proofs.Common.{sym, ap, ◌∙◌}
use Rattle.text_writer.specs.Pages.{kind_of_word}
use Rattle.text_writer.proofs.Texts.{encoded_text}
use Rattle.text_writer.proofs.lists.kind_of.Goals as goal

pub returns-in-Name : goal.returns-in-Name
returns-in-Name c = rw c.in-Name.is (c.kind_of_word.ensures ∙ ap (kind_of_word c.args.is_outermost) (c.deref.ensures ∙ sym (encoded_text c.in-Name.name)))
