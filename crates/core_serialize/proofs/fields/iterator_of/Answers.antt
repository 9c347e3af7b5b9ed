use Rattle.std.proofs.Common.{◌∙◌}
use Rattle.core_serialize.specs.FieldTests.{is_iterator_of}
use Rattle.core_serialize.specs.PlaceViews.{set_in}
use Rattle.core_serialize.proofs.FieldLists.{first_of_list, pick_brought}
use Rattle.core_serialize.proofs.fields.iterator_of.Goals as goal

pub returns : goal.returns
returns c =
    c.first_pick.ensures
    ∙ first_of_list (is_iterator_of c.args.call) c.args.call (set_in c.args.indexed.now).sites c.under.result.now (pick_brought c.args.call) (c.under.ensures ∙ c.args.indexed.now.are_fields.listed c.args.call)
