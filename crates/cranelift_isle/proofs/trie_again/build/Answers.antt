use Rattle.std.proofs.Common.{◌≡◌, ◌≤◌, Some, ap, arith, length, rules, slice_get, subst, take}
use Rattle.model.specs.claims.Environments.{program_of}
use Rattle.core_typed.specs.RuleViews.{rule_view, rule_views}
use Rattle.cranelift_isle.proofs.BuildingLists.{all_built, all_read, may_go_on, one_more_read, rule_at}
use Rattle.cranelift_isle.proofs.trie_again.build.Goals as goal

pub add_rule-requires : goal.add_rule-requires
add_rule-requires c =
    let q = c.requires.elaborated in
    let i = c.loop-rule.rule-index in
    let same : c.deref-rule-items.result.now ≡ c.args.termenv.now.rules.items = search (rules, c.deref-rule-items.ensures) in
    let at = subst (λ xs. slice_get (rule_views xs) i ≡ Some (rule_view c.rule-item.result)) same (rule_at c.deref-rule-items.result.now i c.rule-item.result c.loop-rule-test.true c.rule-item.is) in
    record {
      may = (
        program_of q.types q.defs q.rules.rules,
        take i q.rules.rules,
        may_go_on q.types q.defs q.expand q.rules q.elaborated c.args.termenv.now q.shown c.elaborated_programs_are_well_typed.ensures i c.rule-item.result c.loop-rule.sets c.loop-rule.errors.items at
            (c.loop-rule.invariant.stand q.types q.defs q.expand q.rules q.elaborated q.shown),
      );
    }

pub loop-rule-preserved : goal.loop-rule-preserved
loop-rule-preserved c = record {
  stand = λ e defs expand typed h shown.
      let i = c.loop-rule.rule-index in
      let same : c.deref-rule-items.result.now ≡ c.args.termenv.now.rules.items = search (rules, c.deref-rule-items.ensures) in
      let at = subst (λ xs. slice_get (rule_views xs) i ≡ Some (rule_view c.rule-item.result)) same (rule_at c.deref-rule-items.result.now i c.rule-item.result c.loop-rule-test.true c.rule-item.is) in
      one_more_read e defs expand typed h c.args.termenv.now shown i c.rule-item.result c.add_rule.new.sets c.add_rule.new.errors.items at
      (c.in_ok-add_rule.ensures.goes (program_of e defs typed.rules) (take i typed.rules)
      (may_go_on e defs expand typed h c.args.termenv.now shown c.elaborated_programs_are_well_typed.ensures i c.rule-item.result c.loop-rule.sets c.loop-rule.errors.items at (c.loop-rule.invariant.stand e defs expand typed h shown)));
  single = c.in_ok-add_rule.ensures.single c.loop-rule.invariant.single;
}

pub returns : goal.returns
returns c =
    let i = c.loop-rule.rule-index in
    let same : c.deref-rule-items.result.now ≡ c.args.termenv.now.rules.items = search (rules, c.deref-rule-items.ensures) in
    let count = ap length same in
    let test = c.loop-rule-test.false in
    let past : length c.args.termenv.now.rules.items ≤ i = omega (arith, count, test) in
    record {
      built = λ e defs expand typed h shown.
          all_built e defs expand typed h c.args.termenv.now shown c.elaborated_programs_are_well_typed.ensures c.built_sets_are_answered.ensures c.loop-rule.sets c.loop-rule.errors.items c.in_ok-listed.listed.items c.in_ok-listed.ensures.ordered c.in_ok-listed.ensures.listed
          (all_read e defs expand typed h c.args.termenv.now shown i c.loop-rule.sets c.loop-rule.errors.items past (c.loop-rule.invariant.stand e defs expand typed h shown));
      single = c.loop-rule.invariant.single;
    }
