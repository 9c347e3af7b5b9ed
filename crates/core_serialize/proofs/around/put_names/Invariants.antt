use Rattle.std.proofs.Common.{◌≡◌, take}
use Rattle.core_serialize.specs.AroundViews.{named_as}
use Rattle.core_serialize.proofs.around.put_names.Given as goal

abbrev pub invariant-loop-site : goal.invariant-loop-site
invariant-loop-site l = l.names.items ≡ named_as (take l.site-index l.sites) l.name l.fn.names.items
