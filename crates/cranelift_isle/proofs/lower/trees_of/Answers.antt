use Rattle.std.proofs.Common.{◌≡◌, ◌∷◌, [], ◌++◌, map, refl, sym, ap, ◌∙◌, subst}
use Rattle.std.specs.Prelude.{All}
use Rattle.std.proofs.lemmas.List.{map-append}
use Rattle.std.proofs.lemmas.List.Elements.{All-nil, All-push, All-head, All-tail}
use Rattle.model.specs.trees.Best.{IsBestTree}
use Rattle.model.specs.claims.Layers.{IsBuiltForSome, LoweredTerm}
use Rattle.core_rule_sets.specs.SiteViews.{set_view}
use Rattle.core_serialize.specs.TreeViews.{tree_view}
use Rattle.cranelift_isle.specs.BuiltSets.{term_set_view, term_set_views}
use Rattle.cranelift_isle.specs.Lowerings.{lowered_view, lowered_views, set_of_term}
use Rattle.cranelift_isle.proofs.TreesSoFar.{moved}
use Rattle.cranelift_isle.proofs.lower.trees_of.Goals as goal

pub loop-id-init : goal.loop-id-init
loop-id-init c =
    let h = c.into_iter-id-iterator.ensures.into_iter_gives.0 in
    let n = c.new-terms.ensures.items in (
      ap (λ ts. map set_of_term (lowered_views ts) ++ term_set_views c.into_iter-id-iterator.result.rest.items) n ∙ ap term_set_views h,
      subst (λ ts. All (λ t. IsBestTree t.set t.tree) (lowered_views ts)) (sym n) (All-nil (λ t. IsBestTree t.set t.tree)),
      subst (λ l. All (λ b. IsBuiltForSome b.1) (term_set_views l)) (sym h) c.requires.built,
    )

pub serialize-requires : goal.serialize-requires
serialize-requires c =
    let s = c.in-Some.ensures.steps.0 in
    let built = subst (λ l. All (λ b. IsBuiltForSome b.1) (term_set_views l)) s c.loop-id.invariant.2 in
    All-head (λ b. IsBuiltForSome b.1) (term_set_view (c.in-Some.id, c.in-Some.rules)) (term_set_views c.next.new.self.rest.items) built

pub loop-id-preserved : goal.loop-id-preserved
loop-id-preserved c =
    let s = c.in-Some.ensures.steps.0 in
    let one : LoweredTerm = record { term = c.in-Some.id.0; set = set_view c.in-Some.rules; tree = tree_view c.in_ok-block.block } in
    let more : lowered_views c.push.new.self.items ≡ lowered_views c.loop-id.terms.items ++ one ∷ [] = ap lowered_views c.in_ok-push.ensures.items ∙ map-append lowered_view c.loop-id.terms.items _ in
    let built = subst (λ l. All (λ b. IsBuiltForSome b.1) (term_set_views l)) s c.loop-id.invariant.2 in (
      moved set_of_term term_set_view (lowered_views c.loop-id.terms.items) (lowered_views c.push.new.self.items) one c.loop-id.id-iterator.rest.items c.next.new.self.rest.items (c.in-Some.id, c.in-Some.rules) (term_set_views c.args.sets.items) s more refl c.loop-id.invariant.0,
      subst (All (λ t. IsBestTree t.set t.tree)) (sym more) (All-push (λ t. IsBestTree t.set t.tree) (lowered_views c.loop-id.terms.items) one c.loop-id.invariant.1 c.in_ok-block.ensures.serialized.best),
      All-tail (λ b. IsBuiltForSome b.1) (term_set_view (c.in-Some.id, c.in-Some.rules)) (term_set_views c.next.new.self.rest.items) built,
    )
