use Rattle.std.proofs.Common.{sym, ◌∙◌}
use Rattle.core_serialize.specs.PlaceViews.{set_in}
use Rattle.core_serialize.proofs.FieldSteps.{pick_found, pick_not_missed}
use Rattle.core_serialize.proofs.steps.pick_of.Goals as goal

pub unreachable-requires : goal.unreachable-requires
unreachable-requires c = pick_not_missed (set_in c.args.indexed.now).sites c.args.call c.requires (sym c.iterator_of.ensures ∙ c.in-None.is)

pub returns : goal.returns
returns c = pick_found (set_in c.args.indexed.now).sites c.args.call c.in-Some.each (sym c.iterator_of.ensures ∙ c.in-Some.is)
