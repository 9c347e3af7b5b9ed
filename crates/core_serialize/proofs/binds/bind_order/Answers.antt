use Rattle.std.proofs.Common.{◌∙◌, not, drop, slice_get, ap, take}
use Rattle.std.specs.List.{filter}
use Rattle.model.specs.trees.Places.{is_in_place}
use Rattle.core_serialize.specs.PlaceViews.{set_in}
use Rattle.core_serialize.proofs.ListedSites.{bound_back, bound_behind}
use Rattle.core_serialize.proofs.binds.bind_order.Goals as goal

pub returns-clause-binds : goal.returns-clause-binds
returns-clause-binds c =
    let sites = (set_in c.args.indexed.now).sites in
    let old = c.args.emitted.now in
    let listed = c.list_all.new.listed in
    let behind = c.behind.ensures ∙ ap (λ n. drop n listed) c.len-start.ensures ∙ bound_behind sites c.args.sites.now old listed c.in_ok-list_all.ensures in
    c.in_ok-bound.ensures ∙ ap (filter (λ s. not (is_in_place (slice_get sites s)))) behind

pub returns-clause-back : goal.returns-clause-back
returns-clause-back c =
    let listed = c.list_all.new.listed in
    c.truncate.ensures ∙ ap (λ n. take n listed) c.len-start.ensures ∙ bound_back (set_in c.args.indexed.now).sites c.args.sites.now c.args.emitted.now listed c.in_ok-list_all.ensures
