use Rattle.std.proofs.Common.{ap, ◌∙◌}
use Rattle.text_writer.specs.PartViews.{placed_views}
use Rattle.text_writer.proofs.Fronts.{laid_as}
use Rattle.text_writer.proofs.formatted.laid_out_text.Goals as goal

pub returns : goal.returns
returns c = λ ps h. laid_as c.args.indentation _ ps _ _ _ h c.is_marked.ensures (ap placed_views c.deref.ensures.value ∙ c.in_ok-parts.ensures ps h) c.in_ok-made.ensures
