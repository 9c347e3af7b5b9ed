use Rattle.std.proofs.Common.{◌++◌, ◌∙◌, sym, ap}
use Rattle.laws_specs.specs.Specs as L
use Rattle.model_questions.specs.Steps as S
use Rattle.spec_steps.specs.Listing.{sites}
use Rattle.spec_steps.proofs.ListingSteps.{added_none, where_none, where_some}
use Rattle.spec_steps.proofs.listing.tested_constant.Goals as goal

pub returns-in-None : goal.returns-in-None
returns-in-None c = λ v m.
    added_none v c.args.out.now.items _ (where_none c.constant.result (L.constant_of m.specs c.args.name.0) (S.told_in (v.site c.args.site)) c.in-None.is (c.constant.ensures v m))

pub returns-in_ok-told_in-in-Some : goal.returns-in_ok-told_in-in-Some
returns-in_ok-told_in-in-Some c = λ v m.
    c.in_ok-told_in-in-Some.ensures v m.demand.bound
    ∙ ap (λ l. sites v c.args.out.now.items ++ l) (sym (where_some c.constant.result _ (L.constant_of m.specs c.args.name.0) (S.told_in (v.site c.args.site)) c.in-Some.is (c.constant.ensures v m)))
