use Rattle.std.proofs.Common.{◌≡◌, drop}
use Rattle.core_rule_sets.specs.SiteViews.{site_views}
use Rattle.core_terms.specs.TermViews.{term_views}
use Rattle.rust_text.specs.Expanded.{first_inside}
use Rattle.rust_text.proofs.expanded.first_of_set.Given as goal

abbrev pub invariant-loop-site : goal.invariant-loop-site
invariant-loop-site l = first_inside (term_views l.terms) (site_views (drop l.site-index l.sites)) ≡ first_inside (term_views l.terms) (site_views l.sites)
