use Rattle.std.proofs.Common.{◌≡◌, ◌++◌, drop}
use Rattle.core_rule_sets.specs.SiteViews.{site_views}
use Rattle.model_print.specs.ReadTrees.{read_sites}
use Rattle.check_trees.specs.TokenViews.{line_views}
use Rattle.check_trees.proofs.sites.sites_of.Given as goal

abbrev pub invariant-loop-line : goal.invariant-loop-line
invariant-loop-line l = site_views l.sites.items ++ read_sites (line_views (drop l.line-index l.lines)) ≡ read_sites (line_views l.lines)
