use Rattle.std.proofs.Common.{take}
use Rattle.core_serialize.specs.Changes.{ListsAll}
use Rattle.core_serialize.specs.PlaceViews.{set_in}
use Rattle.core_serialize.proofs.binds.list_all.Given as goal

abbrev pub invariant-loop-site : goal.invariant-loop-site
invariant-loop-site l = ListsAll (set_in l.indexed).sites (take l.site-index l.sites) l.initial.listed l.listed
