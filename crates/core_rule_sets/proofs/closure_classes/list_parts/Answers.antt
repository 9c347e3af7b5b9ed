use Rattle.std.proofs.Common.{◌≡◌, ℕ, ◌+◌, ◌++◌, [], ◌∷◌, take, sym, ap, ◌∙◌, subst, arith}
use Rattle.std.proofs.lemmas.List.{map_more, take_all}
use Rattle.core_rule_sets.specs.SiteTables.{table_sites}
use Rattle.core_rule_sets.specs.SiteViews.{constraint_view, constraint_views}
use Rattle.core_rule_sets.specs.declared.trie_again.Constraint.{Constraint}
use Rattle.core_rule_sets.proofs.PartsAdded.{HasAll, all_more}
use Rattle.core_rule_sets.proofs.closure_classes.list_parts.Goals as goal

pub loop-site-preserved : goal.loop-site-preserved
loop-site-preserved c =
    let sites = table_sites c.args.table.now in
    let xs = c.args.constraints.now in
    let i = c.loop-site.site-index in
    let x = c.loop-site-item.result in
    let more : constraint_views (take (i + 1) xs) ≡ constraint_views (take i xs) ++ (x.0, constraint_view x.1) ∷ [] =
    map_more (λ (y : ℕ × Constraint). (y.0, constraint_view y.1)) xs i x (omega arith)
    ∙ ap (λ (y : ℕ × Constraint). constraint_views (take i xs) ++ (y.0, constraint_view y.1) ∷ []) (sym c.loop-site-item.is) in
    subst (λ l. HasAll sites l c.add_constrained.new.parts.items) (sym more)
    (all_more sites (constraint_views (take i xs)) (x.0, constraint_view x.1) c.loop-site.parts.items c.add_constrained.new.parts.items c.loop-site.invariant c.in_ok-add_constrained.ensures)

pub returns : goal.returns
returns c =
    let xs = c.args.constraints.now in
    subst (λ l. HasAll (table_sites c.args.table.now) (constraint_views l) c.loop-site.parts.items) (take_all c.loop-site.site-index xs (omega arith)) c.loop-site.invariant
