use Rattle.core_rule_sets.specs.SiteViews.{site_views}
use Rattle.rust_code.specs.SeenTypes.{arguments_in, program_in, seen_types}
use Rattle.rust_code.proofs.SiteHolds.{place_copied}
use Rattle.rust_code.proofs.types.place_types.Goals as goal

pub returns-in_default : goal.returns-in_default
returns-in_default c = λ at constants rules are.
    let tables = c.args.tables.now in
    place_copied (program_in tables constants rules) (arguments_in tables) (site_views tables.sites.now) c.args.number c.args.binding.now (seen_types tables.terms.now c.types_of.result) at c.in_default.not-MatchTuple
    (c.types_of.ensures constants rules are)
