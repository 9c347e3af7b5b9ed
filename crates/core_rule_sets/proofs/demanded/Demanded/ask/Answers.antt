use Rattle.std.proofs.Common.{◌≡◌, ◌++◌, ◌∷◌, [], None, sym, ap, ◌∙◌}
use Rattle.std.specs.Prelude.{Some, option_map}
use Rattle.model.specs.trees.Places.{constraint_at}
use Rattle.core_rule_sets.specs.declared.demanded.Demanded.{Demanded}
use Rattle.core_rule_sets.specs.SiteDemands.{constraint_held, first_kept}
use Rattle.core_rule_sets.specs.SiteViews.{constraint_view, constraint_views}
use Rattle.core_rule_sets.proofs.AskedOnce.{asked_more}
use Rattle.core_rule_sets.proofs.DueSites.{due_asked}
use Rattle.core_rule_sets.proofs.demanded.Demanded.ask.Goals as goal

pub push-requires : goal.push-requires
push-requires c =
    ap (λ cs. constraint_at (constraint_views cs) c.args.site) c.open_equated.ensures.asked ∙ sym c.get.ensures ∙ ap (option_map constraint_view) c.in-None.is

pub returns-in_ok-push-in-None-clause-asked : goal.returns-in_ok-push-in-None-clause-asked
returns-in_ok-push-in-None-clause-asked c s =
    let old = c.args.self.now in
    let none : constraint_held old c.args.site ≡ None = sym c.get.ensures ∙ ap (option_map constraint_view) c.in-None.is in
    ap (λ cs. constraint_at (constraint_views cs) s) (c.in_ok-push-in-None.ensures ∙ ap (λ cs. cs ++ (c.args.site, c.args.constraint) ∷ []) c.open_equated.ensures.asked)
    ∙ asked_more old.constraints c.args.site c.args.constraint none s

pub returns-in_ok-push-in-None-clause-due : goal.returns-in_ok-push-in-None-clause-due
returns-in_ok-push-in-None-clause-due c keeps =
    let old = c.args.self.now in
    let opened = c.open_equated.new.self in
    let new : Demanded = record { constraints = c.push.new.self; equals = opened.equals; «open» = opened.open } in
    let first = Some (first_kept (constraint_held old c.args.site) (constraint_view c.args.constraint)) in
    due_asked old new c.args.site first keeps c.open_equated.ensures.equated (returns-in_ok-push-in-None-clause-asked c) c.in_ok-open_equated-in-None.ensures.opened
    c.in_ok-open_equated-in-None.ensures.still
