use Rattle.std.proofs.Common.{ap, refl}
use Rattle.core_rule_sets.specs.SiteViews.{set_rule_view, set_rule_views}
use Rattle.core_overlap.specs.Comparisons.{masked_behind, wrong_behind}
use Rattle.core_rule_sets.proofs.ListTails.{rest_is}
use Rattle.core_overlap.proofs.ListIteration.{more, no_more}
use Rattle.core_overlap.proofs.overlap.check_behind.Goals as goal

pub loop-j-preserved : goal.loop-j-preserved
loop-j-preserved c =
    let rest = rest_is c.args.rules.now c.loop-j.j c.index-rules-j.result c.loop-j-test.true c.index-rules-j.is in
    record {
      wrong = more _ _ _ _ _ _ (c.in_ok-compare.ensures.wrong) (ap (λ xs. wrong_behind (set_rule_view c.args.left.now) (set_rule_views xs)) rest) c.loop-j.invariant.wrong;
      masked = more _ _ _ _ _ _ (c.in_ok-compare.ensures.masked) (ap (λ xs. masked_behind c.args.i (set_rule_view c.args.left.now) c.loop-j.j (set_rule_views xs)) rest) c.loop-j.invariant.masked;
    }

pub returns-clause-wrong : goal.returns-clause-wrong
returns-clause-wrong c = no_more (λ xs. wrong_behind (set_rule_view c.args.left.now) (set_rule_views xs)) c.args.rules.now c.loop-j.j _ _ refl c.loop-j-test.false c.loop-j.invariant.wrong

pub returns-clause-masked : goal.returns-clause-masked
returns-clause-masked c = no_more (λ xs. masked_behind c.args.i (set_rule_view c.args.left.now) c.loop-j.j (set_rule_views xs)) c.args.rules.now c.loop-j.j _ _ refl c.loop-j-test.false c.loop-j.invariant.masked
