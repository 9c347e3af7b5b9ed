use Rattle.std.proofs.Common.{◌≡◌, replicate, length, None, sym, ap, ◌∙◌}
use Rattle.std.proofs.lemmas.Result.{IfOk-weaker}
use Rattle.std.proofs.lemmas.List.{length-map}
use Rattle.core_rule_sets.specs.SiteViews.{set_rule_view, set_rule_views}
use Rattle.core_overlap.specs.Keys.{AreKeyed, IsAskedNumber, TellApart}
use Rattle.core_overlap.proofs.DistinctKeys.{none_tell_apart, numbered_tell_apart, priorities_tell_apart}
use Rattle.core_overlap.proofs.keys.telling_keys.Goals as goal

pub returns-then-rules-lt-FEW : goal.returns-then-rules-lt-FEW
returns-then-rules-lt-FEW c =
    let rules = set_rule_views c.args.rules.now in
    IfOk-weaker c.no_keys.result (λ v. v.items ≡ replicate (length c.args.rules.now) None) (λ v. TellApart rules v.items)
    (λ v e. none_tell_apart rules v.items (e ∙ ap (λ n. replicate n None) (sym (length-map c.args.rules.now set_rule_view))))
    c.no_keys.ensures

pub returns-then-half-different : goal.returns-then-half-different
returns-then-half-different c = priorities_tell_apart (set_rule_views c.args.rules.now) c.in_ok-by_priority.by_priority.items c.in_ok-by_priority.ensures

pub returns : goal.returns
returns c =
    let rules = set_rule_views c.args.rules.now in
    IfOk-weaker c.numbered.result (λ v. AreKeyed (IsAskedNumber c.in_ok-numbers.numbers c.in_ok-site.site) rules v.items) (λ v. TellApart rules v.items)
    (λ v e. numbered_tell_apart c.in_ok-numbers.numbers c.in_ok-site.site rules v.items e) c.numbered.ensures
