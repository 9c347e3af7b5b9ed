use Rattle.std.proofs.Common.{◌≡◌, ◌++◌, drop, map}
use Rattle.model_code.specs.TreeCode.{to_match, use_at}
use Rattle.core_rule_sets.specs.SiteViews.{site_views}
use Rattle.rust_code.specs.CodeViews.{use_views}
use Rattle.rust_code.specs.HeldViews.{passes_in}
use Rattle.rust_code.proofs.uses.lent_uses.Given as goal

abbrev pub invariant-loop-site : goal.invariant-loop-site
invariant-loop-site l =
    let f = use_at (site_views l.stage.sites.now) (passes_in l.stage) to_match in
    use_views l.uses.items ++ map f (drop l.site-index l.sites) ≡ map f l.sites
