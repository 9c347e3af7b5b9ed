use Rattle.std.proofs.Common.{◌<◌, ◌≤◌, ◌∙◌, length, get_or, ap, subst, arith}
use Rattle.std.specs.Prelude.{string_bytes}
use Rattle.rust_text.specs.Settings.{setting_by_program}
use Rattle.rust_text.proofs.WrittenFunctions.{functions_all, functions_more}
use Rattle.rust_text.proofs.functions.push_functions.Goals as goal

pub loop-of-preserved : goal.loop-of-preserved
loop-of-preserved c =
    let i = c.loop-of.of-index in let same = c.deref-of-items.ensures.value in
    functions_more c.args.lowered.now (setting_by_program c.args.program) (string_bytes c.args.out.now) i c.of-item.result _ _ (subst (λ ts. i < length ts) same c.loop-of-test.true)
    (c.of-item.is ∙ ap (λ ts. get_or ts i c.of-item.result) same) c.loop-of.invariant c.in_ok-push_function.ensures

pub returns : goal.returns
returns c =
    let i = c.loop-of.of-index in
    let past : length c.deref-of-items.result.now ≤ i = omega (arith, c.loop-of-test.false) in
    functions_all c.args.lowered.now (setting_by_program c.args.program) (string_bytes c.args.out.now) i _ (subst (λ ts. length ts ≤ i) c.deref-of-items.ensures.value past) c.loop-of.invariant
