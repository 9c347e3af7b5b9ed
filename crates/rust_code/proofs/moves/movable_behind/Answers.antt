use Rattle.std.proofs.Common.{◌++◌, ◌∙◌, refl, ap}
use Rattle.model.specs.trees.Places.{field_sites}
use Rattle.model_code.specs.MovedOnce.{unlooked}
use Rattle.rust_code.specs.CodeViews.{place_view, statement_view}
use Rattle.rust_code.proofs.CodeBridges.{equal_seen, give_seen, labelled_seen, loop_seen, match_seen, no_way_seen, unless_equal_seen}
use Rattle.rust_code.proofs.MovedVariables.{bound_movable, fields_movable, looked_movable, stays_movable}
use Rattle.rust_code.proofs.moves.movable_behind.Goals as goal

pub returns-in_ok-with_site-in-Bind : goal.returns-in_ok-with_site-in-Bind
returns-in_ok-with_site-in-Bind c = λ movable same. let h = c.in-Bind in bound_movable c.args.inside.items movable same c.args.statement.now h.site h.expr _ h.is c.in_ok-with_site-in-Bind.ensures

pub returns-in_ok-with_site-in-BindSome : goal.returns-in_ok-with_site-in-BindSome
returns-in_ok-with_site-in-BindSome c = λ movable same.
    let h = c.in-BindSome in
    looked_movable c.args.inside.items movable same c.args.statement.now h.site h.value c.in_ok-kept-in-BindSome.kept.items c.in_ok-with_site-in-BindSome.field-0.items h.is
    (c.in_ok-kept-in-BindSome.ensures ∙ ap (λ l. unlooked l (place_view h.value.place)) c.deref.ensures.value) c.in_ok-with_site-in-BindSome.ensures

pub returns-in_ok-add_fields-in-UnlessLet : goal.returns-in_ok-add_fields-in-UnlessLet
returns-in_ok-add_fields-in-UnlessLet c = λ movable same.
    let h = c.in-UnlessLet in
    fields_movable c.args.inside.items movable same c.args.statement.now h.value h.pattern h.fields c.in_ok-kept-in-UnlessLet.kept.items c.add_fields.new.inside.items h.is
    (c.in_ok-kept-in-UnlessLet.ensures ∙ ap (λ l. unlooked l (place_view h.value.place)) c.deref-in-UnlessLet.ensures.value)
    (c.in_ok-add_fields-in-UnlessLet.ensures ∙ ap (λ l. c.in_ok-kept-in-UnlessLet.kept.items ++ field_sites l) c.deref-in-UnlessLet-2.ensures.value)

pub returns-in-NoWay : goal.returns-in-NoWay
returns-in-NoWay c = λ movable same. stays_movable c.args.inside.items movable same c.args.statement.now _ (ap statement_view c.in-NoWay.is ∙ no_way_seen) refl

pub returns-in-MatchOn : goal.returns-in-MatchOn
returns-in-MatchOn c = λ movable same. let h = c.in-MatchOn in stays_movable c.args.inside.items movable same c.args.statement.now _ (ap statement_view h.is ∙ match_seen h.value h.arms) refl

pub returns-in-IfEqual : goal.returns-in-IfEqual
returns-in-IfEqual c = λ movable same. let h = c.in-IfEqual in stays_movable c.args.inside.items movable same c.args.statement.now _ (ap statement_view h.is ∙ equal_seen _ _ _) refl

pub returns-in-ForEachOf : goal.returns-in-ForEachOf
returns-in-ForEachOf c = λ movable same. let h = c.in-ForEachOf in stays_movable c.args.inside.items movable same c.args.statement.now _ (ap statement_view h.is ∙ loop_seen _ _ _) refl

pub returns-in-Give : goal.returns-in-Give
returns-in-Give c = λ movable same. let h = c.in-Give in stays_movable c.args.inside.items movable same c.args.statement.now _ (ap statement_view h.is ∙ give_seen _ _) refl

pub returns-in-Labelled : goal.returns-in-Labelled
returns-in-Labelled c = λ movable same. let h = c.in-Labelled in stays_movable c.args.inside.items movable same c.args.statement.now _ (ap statement_view h.is ∙ labelled_seen _) refl

pub returns-in-UnlessEqual : goal.returns-in-UnlessEqual
returns-in-UnlessEqual c = λ movable same. let h = c.in-UnlessEqual in stays_movable c.args.inside.items movable same c.args.statement.now _ (ap statement_view h.is ∙ unless_equal_seen _ _) refl
