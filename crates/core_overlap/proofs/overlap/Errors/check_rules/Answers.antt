use Rattle.std.proofs.Common.{◌++◌, ap, ◌∙◌, length, arith}
use Rattle.std.proofs.lemmas.List.{length-map}
use Rattle.core_rule_sets.specs.SiteViews.{set_rule_view, set_rule_views}
use Rattle.core_overlap.specs.Comparisons.{list_views, masked_views, masked_rows, pair_views, shadows_of}
use Rattle.core_syntax.specs.ErrorViews.{error_views}
use Rattle.core_overlap.proofs.Rows.{wrong_rows_are, rows_below, masked_below, shadows_found}
use Rattle.core_overlap.proofs.overlap.Errors.check_rules.Goals as goal

pub masked_by_each-requires : goal.masked_by_each-requires
masked_by_each-requires c =
    let many = length-map c.args.rules.now set_rule_view in
    masked_below (length c.args.rules.now) c.deref.result.now _
    (ap masked_views c.deref.ensures.value ∙ c.in_ok-check_pairs.ensures.masked ∙ ap (λ s. masked_views s ++ masked_rows 0 (set_rule_views c.args.rules.now)) c.new-masked.ensures.items)
    (rows_below (length c.args.rules.now) 0 (set_rule_views c.args.rules.now) (omega (arith, many)))

pub returns-clause-wrong : goal.returns-clause-wrong
returns-clause-wrong c = c.in_ok-check_pairs.ensures.wrong ∙ ap (λ l. pair_views c.args.self.now.wrong.items ++ l) (wrong_rows_are (set_rule_views c.args.rules.now))

pub returns-clause-shadows : goal.returns-clause-shadows
returns-clause-shadows c =
    let all = set_rule_views c.args.rules.now in
    let many = length-map c.args.rules.now set_rule_view in
    let masked = ap masked_views c.deref.ensures.value ∙ c.in_ok-check_pairs.ensures.masked ∙ ap (λ s. masked_views s ++ masked_rows 0 all) c.new-masked.ensures.items in
    c.in_ok-add_shadows.ensures.shadows
    ∙ ap (λ l. error_views c.args.self.now.shadows.items ++ shadows_of all (list_views l)) c.deref-2.ensures.value
    ∙ ap (λ l. error_views c.args.self.now.shadows.items ++ l) (shadows_found all c.in_ok-lists.lists.items (masked_views c.deref.result.now) (let n = c.in_ok-lists.lists.ok.0 in omega (arith, n, many, c.in_ok-lists.ensures.0)) masked c.in_ok-lists.ensures.1)
