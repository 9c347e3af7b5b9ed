use Rattle.std.proofs.Common.{◌∙◌, ap, subst}
use Rattle.std.specs.Prelude.{string_bytes}
use Rattle.std.proofs.lemmas.Result.{IfErr-weaker, IfOk-weaker}
use Rattle.rust_items.specs.SourceViews.{sources_view}
use Rattle.rust_items.proofs.Turns.{tells_more}
use Rattle.rust_text.specs.WholeCode.{IsWholeCode, TellsNames}
use Rattle.rust_text.proofs.WholeCode.{of_options}
use Rattle.rust_text.proofs.code.rust_code_with.Goals as goal

pub returns-clause-code : goal.returns-clause-code
returns-clause-code c =
    let l = c.args.lowered.now in let files = c.args.files.now in let options = c.args.options.now in
    let same = of_options l files options _ (c.in_ok-lines.ensures ∙ ap (sources_view files) c.deref.ensures.value) in
    IfOk-weaker c.code_in.result _ _ (λ code. subst (λ s. IsWholeCode l s options.exclude_global_allow_pragmas (string_bytes code)) same) c.code_in.ensures.code

pub returns-clause-wrong : goal.returns-clause-wrong
returns-clause-wrong c =
    let l = c.args.lowered.now in let files = c.args.files.now in
    IfErr-weaker c.code_in.result _ _
    (λ e h. tells_more e _ _ h (λ text. subst (λ s. TellsNames l s text) (c.in_ok-lines.ensures ∙ ap (sources_view files) c.deref.ensures.value))) c.code_in.ensures.wrong
