use Rattle.std.proofs.Common.{arith, sym, ap, ◌∙◌, ◌||◌}
use Rattle.std.proofs.lemmas.List.{length-map}
use Rattle.model.specs.trees.Places.{is_in}
use Rattle.core_rule_sets.specs.SiteViews.{site_view, site_views}
use Rattle.spec_asked.specs.Marks.{marks, spread}
use Rattle.spec_asked.proofs.Spreading.{mark_within, spread_all}
use Rattle.spec_asked.proofs.marks.mark_below.Goals as goal

pub returns : goal.returns
returns c = λ first same none n l.
    let sites = site_views c.args.bindings.now in
    let mid = c.mark_each.new.made in
    let count = length-map c.args.bindings.now site_view in
    let kept = c.mark_each.auto.made in
    c.spread_marks.ensures n (omega (arith, kept, same, l)) (omega (arith, kept, same))
    ∙ ap (λ m. spread sites m (marks mid) n) (sym count)
    ∙ spread_all sites first (marks mid) c.args.roots.now
    (λ k d. c.mark_each.ensures k (omega (arith, d, count, same)) ∙ ap (λ b. b || is_in k c.args.roots.now) (none k))
    (λ k h. let w = mark_within mid k h in omega (arith, w, count, same, kept)) n (omega (arith, l, count))
