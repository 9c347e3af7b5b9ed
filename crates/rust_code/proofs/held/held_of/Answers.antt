use Rattle.std.proofs.Common.{◌∙◌}
use Rattle.core_rule_sets.specs.SiteViews.{site_view, site_views}
use Rattle.rust_code.specs.SeenTypes.{arguments_in, program_in}
use Rattle.rust_code.proofs.SiteHolds.{held_is}
use Rattle.rust_code.proofs.held.held_of.Goals as goal

pub returns : goal.returns
returns c = λ at constants rules are.
    let tables = c.args.tables.now in
    held_is (program_in tables constants rules) (arguments_in tables) (site_views tables.sites.now) c.args.number (site_view c.args.binding.now) c.is_reference.result c.are_copied.result at
    (c.is_reference.ensures c.args.number constants rules are (c.types_of-types.ensures constants rules are)) (c.are_copied.ensures ∙ c.place_types.ensures at constants rules are)
