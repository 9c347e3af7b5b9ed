use Rattle.std.proofs.Common.{◌++◌, ◌∙◌, sym, ap, rules}
use mir.Val.{SFits}
use mir.Syntax.{w128}
use Rattle.std.proofs.lemmas.Int.{to_z-of_z}
use Rattle.model_questions.specs.Steps as S
use Rattle.spec_cases.specs.Steps.{constraint_view}
use Rattle.spec_steps.specs.Listing.{sites}
use Rattle.spec_steps.proofs.listing.tested_in.Goals as goal

pub returns-in_ok-tested_integer-in-ConstInt : goal.returns-in_ok-tested_integer-in-ConstInt
returns-in_ok-tested_integer-in-ConstInt c =
    let fits : SFits w128 c.in-ConstInt.val = search rules in λ v m.
    let made = rw (to_z-of_z w128 c.in-ConstInt.val fits) at (c.in_ok-tested_integer-in-ConstInt.ensures v m) in
    made ∙ ap (λ k. sites v c.args.out.now.items ++ S.tested_in m.p m.specs m.c (v.site c.args.site) (constraint_view k)) (sym c.in-ConstInt.is)
