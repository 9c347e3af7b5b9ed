use Rattle.std.proofs.Common.{◌≡◌, ◌∙◌, option_map, refl, ap, sym, arith}
use Rattle.core_terms.specs.TermViews.{term_views}
use Rattle.rust_text.proofs.InsideCalls.{found_here, inside_of_sites, inside_of_site, none_here, none_left}
use Rattle.rust_text.proofs.expanded.first_of_set.Goals as goal

pub returns-in-Some : goal.returns-in-Some
returns-in-Some c =
    let ts = term_views c.args.terms.now in
    found_here (inside_of_sites ts) (inside_of_site ts) refl (λ x xs. refl) c.args.sites.now c.loop-site.site-index (inside_of_sites ts c.args.sites.now) c.site-item.result c.in-Some.name.0 c.loop-site-test.true c.site-item.is
    (c.in-Some.ensures) c.loop-site.invariant

pub loop-site-preserved : goal.loop-site-preserved
loop-site-preserved c =
    let ts = term_views c.args.terms.now in
    none_here (inside_of_sites ts) (inside_of_site ts) refl (λ x xs. refl) c.args.sites.now c.loop-site.site-index (inside_of_sites ts c.args.sites.now) c.site-item.result c.loop-site-test.true c.site-item.is
    (ap (option_map (λ s. s.0)) (sym c.in_default.is) ∙ c.called_inside.ensures) c.loop-site.invariant

pub returns : goal.returns
returns c =
    let ts = term_views c.args.terms.now in
    none_left (inside_of_sites ts) (inside_of_site ts) refl (λ x xs. refl) c.args.sites.now c.loop-site.site-index (inside_of_sites ts c.args.sites.now) (omega (arith, c.loop-site-test.false)) c.loop-site.invariant
