use Rattle.std.proofs.Common.{◌++◌, sym, ap, ◌∙◌}
use Rattle.std.specs.Prelude.{string_bytes}
use Rattle.std.proofs.lemmas.List.{append_assoc}
use Rattle.std.proofs.lemmas.Result.{on_ok_weaker}
use Rattle.core_rule_sets.specs.SiteViews.{site_views}
use Rattle.core_serialize.specs.TreeViews.{tree_view}
use Rattle.model_print.specs.LineTexts.{lines_text}
use Rattle.model_print.specs.PrintedTrees.{site_lines, tree_lines}
use Rattle.report_print.specs.TreeTexts.{comment_text, syms_of, tree_names}
use Rattle.report_print.proofs.PrintSteps.{lines_append}
use Rattle.report_print.proofs.print.print_tree.Goals as goal

pub returns : goal.returns
returns c =
    let n = tree_names c.args.names in
    let said = comment_text (syms_of c.args.names) c.args.comments in
    let old = string_bytes c.args.out.now in
    let sites = site_lines 0 (site_views c.args.bindings.now) in
    let steps = tree_lines 2 (tree_view c.args.block.now) in
    on_ok_weaker c.print_block.result (λ w. w ∙ ap (λ x. x ++ lines_text n said steps) (c.in_ok-print_bindings.ensures said)
    ∙ append_assoc old (lines_text n said sites) (lines_text n said steps) ∙ ap (λ x. old ++ x) (sym (lines_append n said sites steps))) c.print_block.ensures
