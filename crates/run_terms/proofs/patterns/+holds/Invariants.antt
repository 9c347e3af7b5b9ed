use Rattle.std.proofs.Common.{◌≡◌, drop}
use Rattle.model.specs.rules.Matching.{all_hold, each_holds}
use Rattle.core_typed.specs.PatternViews.{pattern_parts, pattern_views}
use Rattle.run_terms.specs.ValueViews.{value_view, value_views}
use Rattle.model.specs.rules.Meaning.{total}
use Rattle.run_terms.specs.SourceViews.{of_terms, vars_view}
use Rattle.run_terms.proofs.patterns.+holds.Given as goal

abbrev pub invariant-each_holds-loop-pattern : goal.invariant-each_holds-loop-pattern
invariant-each_holds-loop-pattern g l =
    let program = of_terms l.source.terms.now in
    let m = total (g.E.Externs.functions l.source.externs.now) in
    record {
      place : l.place ≡ l.pattern-index;
      held : each_holds program m (pattern_parts (pattern_views (drop l.pattern-index l.patterns))) (value_views (drop l.pattern-index l.values)) (vars_view l.vars.items)
          ≡ each_holds program m (pattern_parts (pattern_views l.patterns)) (value_views l.values) (vars_view l.fn.vars.items);
    }

abbrev pub invariant-all_hold-loop-pattern : goal.invariant-all_hold-loop-pattern
invariant-all_hold-loop-pattern g l =
    let program = of_terms l.source.terms.now in
    let m = total (g.E.Externs.functions l.source.externs.now) in
    all_hold program m (pattern_parts (pattern_views (drop l.pattern-index l.patterns))) (value_view l.value) (vars_view l.vars.items)
    ≡ all_hold program m (pattern_parts (pattern_views l.patterns)) (value_view l.value) (vars_view l.fn.vars.items)
