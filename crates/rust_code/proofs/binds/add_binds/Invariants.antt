use Rattle.std.proofs.Common.{◌≡◌, drop}
use Rattle.model_code.specs.Code.{Block}
use Rattle.model_code.specs.TreeCode.{binds_code}
use Rattle.core_rule_sets.specs.SiteViews.{site_views}
use Rattle.rust_code.specs.CodeViews.{before}
use Rattle.rust_code.specs.HeldViews.{passes_in}
use Rattle.rust_code.proofs.binds.add_binds.Given as goal

abbrev pub invariant-loop-site : goal.invariant-loop-site
invariant-loop-site l =
    let sites = site_views l.stage.sites.now in
    let p = passes_in l.stage in
    (rest : Block) → before l.out.items (binds_code sites p (drop l.site-index l.sites) rest) ≡ before l.fn.out.items (binds_code sites p l.sites rest)
