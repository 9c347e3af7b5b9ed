use Rattle.std.proofs.Common.{◌∙◌, Contains, ap, length, subst, sym}
use Rattle.std.specs.Prelude.{IsPermutation}
use Rattle.std.proofs.lemmas.Bool.{false≢true}
use Rattle.std.proofs.lemmas.Result.{IfOk-weaker}
use Rattle.model.specs.trees.Places.{is_in}
use Rattle.model.proofs.Members.{nothing_in}
use Rattle.model.specs.claims.Layers.{IsSerialized}
use Rattle.laws_trees.specs.OneTree.{IsOnlyBest}
use Rattle.core_rule_sets.specs.Listings.{ascends}
use Rattle.core_rule_sets.specs.SiteViews.{set_view}
use Rattle.core_serialize.specs.AroundViews.{around_view}
use Rattle.core_serialize.specs.Growing.{IsBestFrom}
use Rattle.core_serialize.specs.TreeViews.{tree_view}
use Rattle.core_serialize.proofs.Ascents.{ascends_up_to}
use Rattle.core_serialize.proofs.WholeTrees.{can_grow, whole_tree}
use Rattle.core_serialize.proofs.ListChanges.{no_names}
use Rattle.core_serialize.proofs.MatchCounts.{none_matched}
use Rattle.core_serialize.proofs.serialize.serialize.Goals as goal

pub in_order-requires : goal.in_order-requires
in_order-requires c = ap ascends c.in_ok-numbers.ensures ∙ ascends_up_to (length (set_view c.args.set.now).rules)

pub fields_by_source-requires : goal.fields_by_source-requires
fields_by_source-requires c = let grow = can_grow (set_view c.args.set.now) c.requires in record { few = grow.few; sources = grow.sources }

pub calls_by_rule-requires : goal.calls_by_rule-requires
calls_by_rule-requires c = can_grow (set_view c.args.set.now) c.requires

pub invariant_of-indexed : goal.invariant_of-indexed
invariant_of-indexed c = record { can_grow = can_grow (set_view c.args.set.now) c.requires; are_fields = c.in_ok-fields.ensures; are_calls = c.in_ok-calls.ensures }

pub block_of-requires : goal.block_of-requires
block_of-requires c = record {
  order = c.in_ok-here.ensures.order;
  kept = record {
    closed = record { whole = λ s x k u. absurd (nothing_in s (subst (λ l. Contains l s) c.in_ok-around.ensures.closed k)) };
    within = λ s h. absurd (false≢true (ap (is_in s) (sym c.in_ok-around.ensures.closed) ∙ h));
    named = no_names c.in_ok-around.around c.in_ok-around.ensures.joined c.in_ok-around.ensures.names;
    matched = none_matched (set_view c.args.set.now).rules c.in_ok-around.around.matched.counts.items c.in_ok-around.around.sources c.in_ok-around.ensures.matched;
  };
}

pub returns-clause-serialized : goal.returns-clause-serialized
returns-clause-serialized c =
    let set = set_view c.args.set.now in
    let here = c.in_ok-here.here.items in
    IfOk-weaker c.block_of.result (λ b. IsBestFrom set (around_view c.in_ok-around.around) here (tree_view b)) (λ b. IsSerialized set (tree_view b))
    (λ b best.
    whole_tree c.best_trees_mean_their_sets.ensures set here (tree_view b) c.requires (subst (λ l. IsPermutation l here) c.in_ok-numbers.ensures c.in_ok-here.ensures.permutation)
    (subst (λ ar. IsBestFrom set ar here (tree_view b)) c.in_ok-around.ensures.view best)) c.block_of.ensures.best

pub returns-clause-unique : goal.returns-clause-unique
returns-clause-unique c =
    let set = set_view c.args.set.now in
    let here = c.in_ok-here.here.items in
    IfOk-weaker c.block_of.result (λ b. IsBestFrom set (around_view c.in_ok-around.around) here (tree_view b)) (λ b. IsOnlyBest set (tree_view b))
    (λ b best.
    c.built_sets_have_one_best_tree.ensures set (tree_view b) c.requires
    (whole_tree c.best_trees_mean_their_sets.ensures set here (tree_view b) c.requires (subst (λ l. IsPermutation l here) c.in_ok-numbers.ensures c.in_ok-here.ensures.permutation)
    (subst (λ ar. IsBestFrom set ar here (tree_view b)) c.in_ok-around.ensures.view best)).best) c.block_of.ensures.best
