use Rattle.std.proofs.Common.{ap, subst}
use Rattle.std.specs.Prelude.{string_bytes}
use Rattle.std.proofs.lemmas.Result.{IfErr-weaker, IfOk-weaker}
use Rattle.rust_items.specs.SourceViews.{sources_view}
use Rattle.rust_items.proofs.Turns.{tells_more}
use Rattle.rust_text.specs.Settings.{setting_of_included}
use Rattle.rust_text.specs.WholeCode.{IsWholeCode, TellsNames}
use Rattle.rust_text.proofs.WholeCode.{of_included}
use Rattle.rust_text.proofs.code.rust_code.Goals as goal

pub returns-clause-code : goal.returns-clause-code
returns-clause-code c =
    let l = c.args.lowered.now in let files = c.args.files.now in let options = c.included.result in
    IfOk-weaker c.rust_code_with.result _ _
    (λ code h.
    subst (λ b. IsWholeCode l (setting_of_included l files) b (string_bytes code)) c.included.ensures.excluded
    (subst (λ s. IsWholeCode l s options.exclude_global_allow_pragmas (string_bytes code)) (of_included l files options c.included.ensures.prefixes c.included.ensures.emit_logging) h))
    c.rust_code_with.ensures.code

pub returns-clause-wrong : goal.returns-clause-wrong
returns-clause-wrong c =
    let l = c.args.lowered.now in let files = c.args.files.now in
    IfErr-weaker c.rust_code_with.result _ _ (λ e h. tells_more e _ _ h (λ text. subst (λ ps. TellsNames l (sources_view files ps) text) c.included.ensures.prefixes)) c.rust_code_with.ensures.wrong
