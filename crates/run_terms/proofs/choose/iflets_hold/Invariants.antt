use Rattle.std.proofs.Common.{◌≡◌, drop, map}
use Rattle.model.specs.rules.Matching.{iflets_hold}
use Rattle.core_typed.specs.RuleViews.{iflet_view}
use Rattle.model.specs.rules.Meaning.{total}
use Rattle.run_terms.specs.SourceViews.{of_terms, vars_view}
use Rattle.run_terms.proofs.choose.iflets_hold.Given as goal

abbrev pub invariant-loop-iflet : goal.invariant-loop-iflet
invariant-loop-iflet g l =
    let program = of_terms l.source.terms.now in
    let m = total (g.E.Externs.functions l.source.externs.now) in
    iflets_hold program m (map iflet_view (drop l.iflet-index l.iflets)) (vars_view l.vars.items) ≡ iflets_hold program m (map iflet_view l.iflets) (vars_view l.fn.vars.items)
