use Rattle.std.proofs.Common.{◌≡◌, ◌++◌, drop}
use Rattle.std.specs.Prelude.{string_bytes}
use Rattle.model_print.specs.PrintedTrees.{sites_tokens}
use Rattle.report_print.specs.TreeTexts.{behind}
use Rattle.report_print.proofs.print.print_sites.Given as goal

abbrev pub invariant-loop-site : goal.invariant-loop-site
invariant-loop-site l =
    string_bytes l.out ++ behind l.names (sites_tokens (drop l.site-index l.sites)) ≡ string_bytes l.fn.out ++ behind l.names (sites_tokens l.sites)
