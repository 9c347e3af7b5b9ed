use Rattle.std.proofs.Common.{◌≡◌, ◌∙◌, ◌≤◌, Some, None, length, slice_get, sym, ap, subst, arith, ltb-false}
use Rattle.std.proofs.lemmas.Option.{slice_get-get_or, slice_get_past}
use Rattle.model.specs.trees.Tests.{loop_test}
use Rattle.core_serialize.proofs.Tables.{needed_at, no_members}
use Rattle.core_serialize.proofs.open_tests.goes_over_some.Goals as goal

pub returns-in-Some : goal.returns-in-Some
returns-in-Some c e s =
    let rules = c.args.set.now.rules.items in
    let rule = c.in-Some.rule.now in
    let count = c.len.ensures.count in
    let low = ltb-false 0 c.len.result e in
    let same = count.3 in
    let none : length count.0 ≡ 0 = omega (arith, low, same) in
    let found = c.in-Some.ensures.lookup in
    let at : slice_get rules c.args.number ≡ Some rule =
    ap (λ l. slice_get l c.args.number) (sym c.deref.ensures.value) ∙ slice_get-get_or c.deref.result.now c.args.number rule found.3.0 ∙ ap Some (sym found.1) in
    needed_at rules (loop_test s) c.args.number (Some rule) at ∙ no_members rule.iterators count.0 count.2 none s

pub returns-in-None : goal.returns-in-None
returns-in-None c e s =
    let rules = c.args.set.now.rules.items in
    let past : length rules ≤ c.args.number = subst (λ l. length l ≤ c.args.number) c.deref.ensures.value c.in-None.ensures.lookup.3 in
    needed_at rules (loop_test s) c.args.number None (slice_get_past rules c.args.number past)
