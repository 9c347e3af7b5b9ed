use Rattle.std.proofs.Common.{◌≡◌, drop, map}
use Rattle.cranelift_isle.specs.SiteViews.{site_views}
use Rattle.report_traces.specs.EchoedTerms.{called_at, with_sites}
use Rattle.report_traces.proofs.echoed.terms_called.Given as goal

abbrev pub invariant-loop-site : goal.invariant-loop-site
invariant-loop-site l = with_sites (map (λ t. t.0) l.terms.items) (site_views (drop l.site-index l.sites)) ≡ called_at (site_views l.sites)
