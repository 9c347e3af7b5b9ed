use Rattle.std.proofs.Common.{◌≡◌, ◌+◌, [], ◌∷◌, drop, sym, ap, ◌∙◌, arith, refl}
use Rattle.std.proofs.lemmas.List.{drop_all, at_drop_more}
use Rattle.model.specs.sites.Closure.{first_filled}
use Rattle.core_rule_sets.specs.SiteViews.{constraint_views}
use Rattle.core_rule_sets.specs.Verdicts.{class_head, conflict_asked, unreachability_views}
use Rattle.core_rule_sets.proofs.FirstConflicts.{conflict_from, conflict_is_first}
use Rattle.core_rule_sets.proofs.verdict.find_conflict.Goals as goal

pub loop-site-init : goal.loop-site-init
loop-site-init c = refl

pub returns-in-Some : goal.returns-in-Some
returns-in-Some c =
    let class = class_head c.args.classes.now in
    let xs = c.args.constraints.now in
    let all = constraint_views xs in
    let i = c.loop-site.site-index in
    let x = c.loop-site-item.result in
    let found = sym (ap unreachability_views c.in-Some.is) ∙ c.conflict_at.ensures ∙ ap conflict_asked (c.in_ok-by_class.ensures (class x.0)) in
    ap (λ u. first_filled u (conflict_from class all (constraint_views (drop (i + 1) xs)))) found
    ∙ ap (λ y. conflict_from class all (constraint_views (y ∷ drop (i + 1) xs))) c.loop-site-item.is
    ∙ sym (at_drop_more (λ l. conflict_from class all (constraint_views l)) xs i x (omega arith))
    ∙ c.loop-site.invariant ∙ conflict_is_first class all

pub loop-site-preserved : goal.loop-site-preserved
loop-site-preserved c =
    let class = class_head c.args.classes.now in
    let xs = c.args.constraints.now in
    let all = constraint_views xs in
    let i = c.loop-site.site-index in
    let x = c.loop-site-item.result in
    let none = sym (ap unreachability_views c.in_default.is) ∙ c.conflict_at.ensures ∙ ap conflict_asked (c.in_ok-by_class.ensures (class x.0)) in
    ap (λ u. first_filled u (conflict_from class all (constraint_views (drop (i + 1) xs)))) none
    ∙ ap (λ y. conflict_from class all (constraint_views (y ∷ drop (i + 1) xs))) c.loop-site-item.is
    ∙ sym (at_drop_more (λ l. conflict_from class all (constraint_views l)) xs i x (omega arith))
    ∙ c.loop-site.invariant

pub returns : goal.returns
returns c =
    let class = class_head c.args.classes.now in
    let all = constraint_views c.args.constraints.now in
    let done : drop c.loop-site.site-index c.args.constraints.now ≡ [] = drop_all c.loop-site.site-index c.args.constraints.now (omega arith) in
    sym (ap (λ l. conflict_from class all (constraint_views l)) done) ∙ c.loop-site.invariant ∙ conflict_is_first class all
