use Rattle.std.proofs.Common.{refl, subst, None, ◌∙◌}
use Rattle.core_rule_sets.specs.SiteViews.{set_rule_views}
use Rattle.core_overlap.specs.Comparisons.{masked_rows, wrong_rows}
use Rattle.core_overlap.specs.Keys.{IsFirst}
use Rattle.core_overlap.proofs.ListIteration.{no_more}
use Rattle.core_overlap.proofs.overlap.check_pairs.Goals as goal

pub loop-i-init : goal.loop-i-init
loop-i-init c = record {
  bare = subst (λ ks. IsFirst ks 0 None c.first_without-bare.result) c.deref.ensures.value c.first_without-bare.ensures;
  wrong = refl;
  masked = refl;
}

pub loop-i-preserved : goal.loop-i-preserved
loop-i-preserved c = record {
  bare = c.in_ok-bare.ensures.bare;
  wrong = c.in_ok-bare.ensures.wrong ∙ c.loop-i.invariant.wrong;
  masked = c.in_ok-bare.ensures.masked ∙ c.loop-i.invariant.masked;
}

pub returns-clause-wrong : goal.returns-clause-wrong
returns-clause-wrong c = no_more (λ xs. wrong_rows (set_rule_views xs)) c.args.rules.now c.loop-i.i _ _ refl c.loop-i-test.false c.loop-i.invariant.wrong

pub returns-clause-masked : goal.returns-clause-masked
returns-clause-masked c = no_more (λ xs. masked_rows c.loop-i.i (set_rule_views xs)) c.args.rules.now c.loop-i.i _ _ refl c.loop-i-test.false c.loop-i.invariant.masked
