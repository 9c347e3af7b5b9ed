use Rattle.std.proofs.Common.{◌≡◌, take}
use Rattle.run_terms.specs.SourceViews.{vars_view}
use Rattle.run_terms.proofs.vars.copied.Given as goal

abbrev pub invariant-loop-entry : goal.invariant-loop-entry
invariant-loop-entry l = vars_view l.copy.items ≡ vars_view (take l.entry-index l.vars)
