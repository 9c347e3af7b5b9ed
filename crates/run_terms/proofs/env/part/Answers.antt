use Rattle.std.proofs.Common.{◌≡◌, ◌≤◌, ◌∙◌, length, Some, sym, ap, subst, slice_get}
use Rattle.std.proofs.lemmas.Option.{slice_get-get_or, slice_get_past}
use Rattle.run_terms.proofs.EnvSteps.{part_there, part_missing}
use Rattle.run_terms.proofs.env.part.Goals as goal

pub returns-in_ok-clone-in-Some : goal.returns-in_ok-clone-in-Some
returns-in_ok-clone-in-Some c =
    let vs = c.in-Parts.values in
    let i = c.args.place in
    let x = c.in-Some.value.now in
    let found = c.in-Some.ensures.lookup in
    let at : slice_get vs.items i ≡ Some x =
    ap (λ l. slice_get l i) (sym c.deref.ensures.value) ∙ slice_get-get_or c.deref.result.now i x found.3.0 ∙ ap Some (sym found.1) in
    part_there c.args.content.now vs i x c.in_ok-clone-in-Some.field-0 c.in-Parts.is at c.in_ok-clone-in-Some.ensures.cases

pub returns-in-None : goal.returns-in-None
returns-in-None c =
    let vs = c.in-Parts.values in
    let i = c.args.place in
    let past : length vs.items ≤ i = subst (λ l. length l ≤ i) c.deref.ensures.value c.in-None.ensures.lookup.3 in
    part_missing c.args.content.now vs i c.in-Parts.is (slice_get_past vs.items i past)
