use Rattle.std.proofs.Common.{◌≡◌, ◌++◌, ℕ, List, drop}
use Rattle.std.specs.Prelude.{string_bytes}
use Rattle.model.specs.lists.Syntax.{Position}
use Rattle.model_print.specs.LineTexts.{lines_text}
use Rattle.model_print.specs.PrintedTrees.{site_lines}
use Rattle.core_rule_sets.specs.SiteViews.{site_views}
use Rattle.report_print.specs.TreeTexts.{tree_names}
use Rattle.report_print.proofs.print.print_bindings.Given as goal

abbrev pub invariant-loop-number : goal.invariant-loop-number
invariant-loop-number l = (said : Position → List ℕ) →
    string_bytes l.out ++ lines_text (tree_names l.names) said (site_lines l.number (site_views (drop l.number l.bindings)))
    ≡ string_bytes l.fn.out ++ lines_text (tree_names l.names) said (site_lines 0 (site_views l.bindings))
