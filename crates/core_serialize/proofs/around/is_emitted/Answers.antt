use Rattle.std.proofs.Common.{◌∙◌, ap}
use Rattle.model.specs.trees.Places.{is_in}
use Rattle.core_serialize.specs.PlaceViews.{around_at}
use Rattle.core_serialize.proofs.around.is_emitted.Goals as goal

pub returns : goal.returns
returns c = c.contains.ensures ∙ ap (λ n. is_in n (around_at c.args.place.now).emitted) c.number_of.ensures
