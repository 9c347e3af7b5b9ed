use Rattle.std.proofs.Common.{◌≡◌, refl, ap, map, rules}
use Rattle.std.proofs.lemmas.Int.{to_z-of_z}
use mir.Val.{SFits}
use mir.Syntax.{w64}
use Rattle.core_typed.specs.PatternViews.{pattern_view}
use Rattle.core_typed.specs.RuleViews.{iflet_view, var_view}
use Rattle.core_typed.proofs.Copies.{clone_says}
use Rattle.core_typed.proofs.rules.RuleClone.clone.Goals as goal

pub returns : goal.returns
returns c =
    let r = c.args.self.now in
    let fits : SFits w64 r.prio = search rules in
    let a : map pattern_view c.in_ok-clone.field-0.items ≡ map pattern_view r.args.items = clone_says pattern_view _ (λ x y h. h) r.args.items c.in_ok-clone.field-0.items c.in_ok-clone.ensures.cases.0 in
    let b : map iflet_view c.in_ok-clone-2.field-0.items ≡ map iflet_view r.iflets.items = clone_says iflet_view _ (λ x y h. h) r.iflets.items c.in_ok-clone-2.field-0.items c.in_ok-clone-2.ensures.cases.0 in
    let d : map var_view c.in_ok-clone-4.field-0.items ≡ map var_view r.vars.items = clone_says var_view (λ x y. y ≡ x) (λ x y h. ap var_view h) r.vars.items c.in_ok-clone-4.field-0.items c.in_ok-clone-4.ensures.cases.0 in
    record { cases = rw (to_z-of_z w64 r.prio fits, a, b, c.in_ok-clone-3.ensures.cases, d) refl }
