use Rattle.std.proofs.Common.{◌≡◌, ◌<◌, ◌≤◌, ◌+◌, length, get_or, take, sym, subst, rules}
use Rattle.std.proofs.lemmas.Bool.{ltb-true, ltb-false}
use Rattle.std.proofs.lemmas.Option.{slice_get_past}
use Rattle.core_typed.specs.RuleNaming.{AreCounts}
use Rattle.core_typed.specs.RuleViews.{rule_views}
use Rattle.core_typed.proofs.CountSteps.{read_at, one_counted, none_more, few_counted}
use Rattle.core_typed.proofs.rule_names.count_rules.Goals as goal
use Rattle.core_typed.proofs.rule_names.count_rules.Goals.{in-Some, in_default}

pub overflow_add-count : goal.overflow_add-count
overflow_add-count c =
    let items = c.args.rules.now.items in
    let i = c.loop-rule.rule-index in
    let h : i < length items = search rules in
    let at : c.rule-item.result ≡ get_or items i c.rule-item.result = search rules in
    let is = read_at c.loop-rule.counts.items c.index.result c.in-Some.count.now (ltb-true c.index.result (length c.loop-rule.counts.items) (sym c.in-Some.ensures.item.0)) c.in-Some.ensures.value in
    let few : c.in-Some.count.now ≤ i = few_counted (length c.args.terms.now) items i c.rule-item.result h at c.loop-rule.counts.items c.loop-rule.invariant c.index.result c.in-Some.count.now is in
    search (rules, few, h)

pub loop-rule-preserved : goal.loop-rule-preserved
loop-rule-preserved c =
    let n = length c.args.terms.now in
    let items = c.args.rules.now.items in
    let i = c.loop-rule.rule-index in
    let r = c.rule-item.result in
    let h : i < length items = search rules in
    let at : r ≡ get_or items i r = search rules in
    let counts = c.loop-rule.counts.items in
    elim c.match-get_mut.branch [
      | in-Some w ↦
          let is = read_at counts c.index.result w.in-Some.count.now (ltb-true c.index.result (length counts) (sym w.in-Some.ensures.item.0)) w.in-Some.ensures.value in
          subst (λ v. AreCounts n (rule_views (take (i + 1) items)) v.items) (sym w.counts-is)
          (one_counted n items i r h at counts c.loop-rule.invariant c.index.result w.in-Some.count.now c.index.ensures is)
      | in_default w ↦
          subst (λ v. AreCounts n (rule_views (take (i + 1) items)) v.items) (sym w.counts-is)
          (none_more n items i r h at counts c.loop-rule.invariant c.index.result c.index.ensures (slice_get_past counts c.index.result (ltb-false c.index.result (length counts) (sym w.in_default.ensures.item.0))))
    ]
