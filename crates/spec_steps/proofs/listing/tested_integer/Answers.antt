use Rattle.std.proofs.Common.{◌++◌, ◌∙◌, sym, ap, rules}
use mir.Val.{SFits}
use mir.Syntax.{w128}
use Rattle.std.proofs.lemmas.Int.{to_z-of_z}
use Rattle.laws_specs.specs.Specs as L
use Rattle.model_questions.specs.Steps as S
use Rattle.spec_steps.specs.Listing.{sites}
use Rattle.spec_steps.proofs.ListingSteps.{added_none, where_none, where_some}
use Rattle.spec_steps.proofs.listing.tested_integer.Goals as goal

pub returns-in-None : goal.returns-in-None
returns-in-None c =
    let fits : SFits w128 c.args.number = search rules in λ v m.
    let known = rw (to_z-of_z w128 c.args.number fits) at (c.in_ok-literal.ensures v m) in
    added_none v c.args.out.now.items _ (where_none c.in_ok-literal.field-0 (L.literal_of m.specs c.args.number c.args.ty.0) (S.told_in (v.site c.args.site)) c.in-None.is known)

pub returns-in_ok-told_in-in-Some : goal.returns-in_ok-told_in-in-Some
returns-in_ok-told_in-in-Some c =
    let fits : SFits w128 c.args.number = search rules in λ v m.
    let known = rw (to_z-of_z w128 c.args.number fits) at (c.in_ok-literal.ensures v m) in
    c.in_ok-told_in-in-Some.ensures v m.demand.bound
    ∙ ap (λ l. sites v c.args.out.now.items ++ l) (sym (where_some c.in_ok-literal.field-0 _ (L.literal_of m.specs c.args.number c.args.ty.0) (S.told_in (v.site c.args.site)) c.in-Some.is known))
