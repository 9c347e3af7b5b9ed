use Rattle.std.proofs.Common.{◌+◌, ◌<◌, ◌++◌, ap, drop, length, refl, subst, sym, ◌∙◌, arith}
use Rattle.core_rule_sets.specs.SiteViews.{set_rule_view, set_rule_views}
use Rattle.core_rule_sets.proofs.ListTails.{rest_is}
use Rattle.core_overlap.specs.Comparisons.{masked_behind, masked_pair, masked_views, pair_views, wrong_behind, wrong_pair}
use Rattle.core_overlap.specs.Keys.{AreNext, IsAhead, nearer}
use Rattle.core_overlap.proofs.Chains.{from_nearer, nearer_behind, passed_over, same_key}
use Rattle.core_overlap.proofs.ListIteration.{more, no_more}
use Rattle.core_overlap.proofs.overlap.check_alike.Goals as goal

pub loop-ahead-init : goal.loop-ahead-init
loop-ahead-init c =
    let rules = c.args.rules.now in
    let keys = c.args.keys.now.of_rules.items in
    let left = c.args.left.now in
    let r = c.requires in
    let key = r.ahead.0 in
    let own = r.ahead.1 in
    let over = passed_over rules keys r.keys.apart c.args.i left key r.left own (c.args.i + 1) c.args.ahead r.ahead.2 in
    record {
      ahead = λ k e. same_key keys c.args.i k key (nearer c.args.ahead) c.args.ahead e own (from_nearer keys key (c.args.i + 1) c.args.ahead r.ahead.2);
      wrong = ap (λ l. pair_views c.args.wrong.now.items ++ l) (sym over.0);
      masked = ap (λ l. masked_views c.args.masked.now.items ++ l) (sym over.1);
    }

pub loop-ahead-preserved : goal.loop-ahead-preserved
loop-ahead-preserved c =
    let rules = c.args.rules.now in
    let keys = c.args.keys.now.of_rules.items in
    let left = c.args.left.now in
    let view = set_rule_view left in
    let r = c.requires in
    let key = r.ahead.0 in
    let own = r.ahead.1 in
    let a = c.loop-ahead.ahead in
    let b = c.go_on.new.self in
    let j = c.nearer-j.result in
    let at = sym c.nearer-j.ensures in
    let x = c.index-rules-j.result in
    let inside : j < length rules = let t = c.loop-ahead-test.true in let e = c.nearer.ensures in omega (arith, t, e, at) in
    let rest = rest_is rules j x inside c.index-rules-j.is in
    let next = subst (AreNext keys) (sym c.deref.ensures.value) r.keys.next in
    let after = subst (λ n. IsAhead keys key (n + 1) b) at (c.go_on.ensures keys key (nearer a) next (c.loop-ahead.invariant.ahead key own)) in
    let over = passed_over rules keys r.keys.apart c.args.i left key r.left own (j + 1) b after in
    record {
      ahead = λ k e. same_key keys c.args.i k key (nearer b) b e own (from_nearer keys key (j + 1) b after);
      wrong = more _ _ _ _ _ _ (c.in_ok-compare.ensures.wrong)
          (ap (λ n. wrong_behind view (set_rule_views (drop n rules))) at ∙ ap (λ xs. wrong_behind view (set_rule_views xs)) rest ∙ ap (λ l. wrong_pair view (set_rule_view x) ++ l) over.0)
          c.loop-ahead.invariant.wrong;
      masked = more _ _ _ _ _ _ (c.in_ok-compare.ensures.masked)
          (ap (λ n. masked_behind c.args.i view n (set_rule_views (drop n rules))) at ∙ ap (λ xs. masked_behind c.args.i view j (set_rule_views xs)) rest ∙ ap (λ l. masked_pair c.args.i view j (set_rule_view x) ++ l) over.1)
          c.loop-ahead.invariant.masked;
    }

pub loop-ahead-smaller : goal.loop-ahead-smaller
loop-ahead-smaller c =
    let keys = c.args.keys.now.of_rules.items in
    let key = c.requires.ahead.0 in
    let a = c.loop-ahead.ahead in
    let next = subst (AreNext keys) (sym c.deref.ensures.value) c.requires.keys.next in
    let more = nearer_behind keys key (nearer a + 1) c.go_on.new.self (c.go_on.ensures keys key (nearer a) next (c.loop-ahead.invariant.ahead key c.requires.ahead.1)) in
    let t = c.loop-ahead-test.true in
    let e = c.nearer.ensures in
    omega (arith, more, t, e)

pub returns-clause-wrong : goal.returns-clause-wrong
returns-clause-wrong c =
    let t = c.loop-ahead-test.false in
    let e = c.nearer.ensures in
    no_more (λ xs. wrong_behind (set_rule_view c.args.left.now) (set_rule_views xs)) c.args.rules.now (nearer c.loop-ahead.ahead) _ _ refl (omega (arith, t, e)) c.loop-ahead.invariant.wrong

pub returns-clause-masked : goal.returns-clause-masked
returns-clause-masked c =
    let t = c.loop-ahead-test.false in
    let e = c.nearer.ensures in
    no_more (λ xs. masked_behind c.args.i (set_rule_view c.args.left.now) (nearer c.loop-ahead.ahead) (set_rule_views xs)) c.args.rules.now (nearer c.loop-ahead.ahead) _ _ refl (omega (arith, t, e)) c.loop-ahead.invariant.masked
