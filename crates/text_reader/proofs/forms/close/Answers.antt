use Rattle.std.proofs.Common.{◌++◌, ap, ◌∙◌, subst}
use Rattle.std.specs.Prelude.{Some, option_to_list}
use Rattle.text_reader.specs.FormViews.{all_view, begun_views}
use Rattle.text_reader.specs.Views.{Gives}
use Rattle.text_reader.proofs.Stacks.{closed}
use Rattle.text_reader.proofs.forms.close.Goals as goal

pub returns-clause-read : goal.returns-clause-read
returns-clause-read c =
    let popped = c.pop.ensures.items ∙ ap (λ r. c.pop.new.self.items ++ option_to_list r) (c.in-Some-Group.is ∙ ap Some c.in-Some-Group.field-0-is) in
    subst (Gives (λ _. (all_view c.put.new.forms.items, begun_views c.put.new.stack.items)) c.put.result) (closed c.args.stack.now.items c.pop.new.self.items c.in-Some-Group.parts c.in-Some-Group.pos c.args.end (all_view c.args.forms.now.items) popped) c.put.ensures.read
