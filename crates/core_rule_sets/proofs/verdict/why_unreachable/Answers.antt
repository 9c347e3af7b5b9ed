use Rattle.std.proofs.Common.{◌≡◌, ◌↔◌, ℕ, true, false, List, Contains, ap, length, sum_by, sym, ◌∙◌, subst}
use Rattle.std.specs.Prelude.{nat_eq}
use Rattle.model.specs.visits.Demands.{with_sites}
use Rattle.core_containers.specs.Partition.{IsPartition}
use Rattle.core_rule_sets.specs.Endings.{ClassEnds, GoOnForEver}
use Rattle.core_rule_sets.specs.FieldParts.{AreClosed, IsPartOfAny}
use Rattle.core_rule_sets.specs.Listings.{ascends}
use Rattle.core_rule_sets.specs.SiteTables.{table_sites}
use Rattle.core_rule_sets.specs.SiteViews.{constraint_views}
use Rattle.core_rule_sets.specs.Verdicts.{class_head, conflict_in, unreachability_views}
use Rattle.core_rule_sets.specs.declared.closure_classes.Part.{Part}
use Rattle.core_rule_sets.proofs.ClosureVerdicts.{verdict_is}
use Rattle.core_rule_sets.proofs.ListedParts.{views_sites}
use Rattle.core_rule_sets.proofs.NoEqualities.{no_sets, none_reported}
use Rattle.core_rule_sets.proofs.verdict.why_unreachable.Goals as goal

pub returns : goal.returns
returns c before d v =
    let sites = table_sites c.args.table.now in
    let h = c.args.demanded.now in
    let listed = c.in_ok-constraints.constraints.items in
    let told = c.in_ok-constraints.ensures in
    let parts = c.in_ok-parts.parts.items in
    let ks = c.in_ok-classes.classes in
    let all = subst (λ l. (p : Part) → Contains parts p ↔ IsPartOfAny sites (constraint_views l) p) c.deref.ensures.value c.in_ok-parts.ensures in
    let closed = subst (λ l. AreClosed l h.equals ks) c.deref-2.ensures.value (subst (λ e. AreClosed c.deref-2.result.now e ks) c.sets-2.ensures c.in_ok-classes.ensures) in
    let reported = unreachability_views c.in_ok-conflict.conflict in
    let conflict = subst (λ l. reported ≡ conflict_in (class_head ks) (constraint_views l) (constraint_views l)) c.deref-3.ensures.value c.in_ok-conflict.ensures in
    let cyclic = c.in_ok-cyclic.cyclic in
    let cycle = subst (λ l. cyclic ≡ true → (left : List Part) × GoOnForEver ks l left) c.deref-4.ensures.value c.in_ok-cyclic.ensures.cycle in
    let none = subst (λ l. cyclic ≡ false → (class : ℕ) → ClassEnds ks l class) c.deref-4.ensures.value c.in_ok-cyclic.ensures.none in
    c.first_reason.ensures
    ∙ verdict_is sites c.requires.sources before d h v (constraint_views listed) (ap ascends (views_sites listed) ∙ told.ascending) told.asked parts all ks closed reported cyclic conflict cycle none

pub returns-then-len-eq0 : goal.returns-then-len-eq0
returns-then-len-eq0 c before d v =
    let h = c.args.demanded.now in
    let partition = subst (IsPartition nat_eq) c.sets.ensures c.len.ensures.partition in
    let none = no_sets h.equals partition (ap (sum_by length) (sym c.sets.ensures) ∙ sym c.len.ensures.value ∙ c.if-len-eq0.true) in
    sym (none_reported (table_sites c.args.table.now) before d h v none (with_sites before d.made))
