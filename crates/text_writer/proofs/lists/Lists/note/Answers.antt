use Rattle.std.proofs.Common.{ap, ◌∙◌, ◌==◌}
use Rattle.text_writer.proofs.Turns.{noted_list}
use Rattle.text_writer.proofs.lists.Lists.note.Goals as goal

pub returns : goal.returns
returns c = noted_list _ c.args.at _ _ _ c.in-Some.list _ _ c.in-Some.ensures.items c.in_ok-push.ensures.items c.with_part.ensures (c.is_empty-is_outermost.ensures ∙ ap (λ n. n == 0) c.pop.new.self.ok.0)
