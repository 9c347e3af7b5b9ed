use Rattle.std.proofs.Common.{◌∙◌}
use Rattle.text_reader.proofs.Stacks.{outermost}
use Rattle.text_reader.proofs.forms.passes_over.Goals as goal

pub returns : goal.returns
returns c = c.outermost_passes.ensures ∙ outermost c.args.stack.now
