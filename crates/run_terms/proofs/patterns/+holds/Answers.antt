use Rattle.std.proofs.Common.{◌≡◌, ◌∷◌, ◌∙◌, Some, option_map, sym, ap}
use Rattle.model.specs.rules.Outcome.{then_option}
use Rattle.model.specs.rules.Matching.{each_holds, holds}
use Rattle.core_typed.specs.PatternViews.{pattern_parts, pattern_view, pattern_views}
use Rattle.core_typed.proofs.PatternRunForms.{seen_and, seen_bind, seen_term}
use Rattle.run_terms.specs.ValueViews.{value_view, value_views}
use Rattle.model.specs.rules.Meaning.{total}
use Rattle.run_terms.specs.SourceViews.{of_terms, vars_view}
use Rattle.run_terms.proofs.VarSteps.{pushed}
use Rattle.run_terms.proofs.patterns.+holds.Goals as goal

pub holds-returns-in_ok-holds-in-BindPattern : goal.holds-returns-in_ok-holds-in-BindPattern
holds-returns-in_ok-holds-in-BindPattern g t c =
    let program = of_terms c.args.source.now.terms.now in
    let m = total (g.E.Externs.functions c.args.source.now.externs.now) in
    let b = c.in-BindPattern in
    let old = c.args.vars.now.items in
    c.in_ok-holds-in-BindPattern.ensures
    ∙ ap (λ l. holds program m (pattern_view c.deref.result.now) (value_view c.args.value.now) l)
    (pushed old c.push.new.self.items b.var (Some c.in_ok-clone-in-BindPattern.field-0) c.in_ok-push-in-BindPattern.ensures.items ∙ ap (λ w. (b.var.0, Some w) ∷ vars_view old) c.in_ok-clone-in-BindPattern.ensures.cases)
    ∙ sym (ap (λ q. holds program m q (value_view c.args.value.now) (vars_view old)) (seen_bind c.args.pattern.now b.field-0 b.var b.inner c.deref.result.now b.is c.deref.ensures))

pub holds-returns-in_ok-each_holds-in-Some-2 : goal.holds-returns-in_ok-each_holds-in-Some-2
holds-returns-in_ok-each_holds-in-Some-2 g t c =
    let program = of_terms c.args.source.now.terms.now in
    let m = total (g.E.Externs.functions c.args.source.now.externs.now) in
    let p = c.in-Term in
    let old = vars_view c.args.vars.now.items in
    let ps = pattern_parts (pattern_views c.deref-in-Some-2.result.now) in
    c.in_ok-each_holds-in-Some-2.ensures
    ∙ ap (λ l. each_holds program m ps (value_views l) old) c.deref-in-Some-2-2.ensures.value
    ∙ ap (λ o. then_option o (λ vs. each_holds program m ps vs old)) (ap (option_map (λ v. value_views v.items)) (sym c.in-Some-2.is) ∙ c.in_ok-parts-in-Term.ensures)
    ∙ sym (ap (λ q. holds program m q (value_view c.args.value.now) old) (seen_term c.args.pattern.now p.field-0 p.term p.args c.deref-in-Some-2.result.now p.is c.deref-in-Some-2.ensures.value))

pub holds-returns-in_ok-all_hold-in-And : goal.holds-returns-in_ok-all_hold-in-And
holds-returns-in_ok-all_hold-in-And g t c =
    let program = of_terms c.args.source.now.terms.now in
    let m = total (g.E.Externs.functions c.args.source.now.externs.now) in
    let p = c.in-And in
    c.in_ok-all_hold-in-And.ensures
    ∙ sym (ap (λ q. holds program m q (value_view c.args.value.now) (vars_view c.args.vars.now.items)) (seen_and c.args.pattern.now p.field-0 p.parts c.deref-in-And.result.now p.is c.deref-in-And.ensures.value))
