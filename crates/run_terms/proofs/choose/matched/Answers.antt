use Rattle.std.proofs.Common.{◌≡◌, ap, ◌∙◌, None, Some}
use Rattle.model.specs.rules.Meaning.{total}
use Rattle.run_terms.specs.SourceViews.{of_terms, vars_view}
use Rattle.run_terms.proofs.ChoiceSteps.{no_args, with_iflets}
use Rattle.run_terms.proofs.PatternSteps.{held, not_held}
use Rattle.run_terms.proofs.choose.matched.Goals as goal

pub returns-then-not-held : goal.returns-then-not-held
returns-then-not-held g c =
    let program = of_terms c.args.source.now.terms.now in
    let m = total (g.E.Externs.functions c.args.source.now.externs.now) in
    no_args program m c.args.rule.now c.deref.result.now c.args.args.now (vars_view c.new-vars.result.items) (vars_view c.each_holds.new.vars.items) c.in_ok-held.held c.deref.ensures.value (ap vars_view c.new-vars.ensures.items)
    c.in_ok-held.ensures c.if-not-held.true

pub returns-then-not-all : goal.returns-then-not-all
returns-then-not-all g c =
    let program = of_terms c.args.source.now.terms.now in
    let m = total (g.E.Externs.functions c.args.source.now.externs.now) in
    with_iflets program m c.args.rule.now c.deref.result.now c.deref-2.result.now c.args.args.now (vars_view c.new-vars.result.items) (vars_view c.each_holds.new.vars.items) c.in_ok-held.held None c.deref.ensures.value
    c.deref-2.ensures.value (ap vars_view c.new-vars.ensures.items) c.in_ok-held.ensures c.if-not-held.false (not_held c.in_ok-all.all (vars_view c.iflets_hold.new.vars.items) _ c.in_ok-all.ensures c.if-not-all.true)

pub returns : goal.returns
returns g c =
    let program = of_terms c.args.source.now.terms.now in
    let m = total (g.E.Externs.functions c.args.source.now.externs.now) in
    with_iflets program m c.args.rule.now c.deref.result.now c.deref-2.result.now c.args.args.now (vars_view c.new-vars.result.items) (vars_view c.each_holds.new.vars.items) c.in_ok-held.held (Some (vars_view c.iflets_hold.new.vars.items))
    c.deref.ensures.value c.deref-2.ensures.value (ap vars_view c.new-vars.ensures.items) c.in_ok-held.ensures c.if-not-held.false
    (held c.in_ok-all.all (vars_view c.iflets_hold.new.vars.items) _ c.in_ok-all.ensures c.if-not-all.false)
