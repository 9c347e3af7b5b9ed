use Rattle.std.proofs.Common.{◌∙◌, false, refl, sym, ap}
use Rattle.model_code.specs.Flat.{flat}
use Rattle.core_serialize.proofs.TreeLaws.{block_steps}
use Rattle.core_serialize.specs.TreeViews.{steps_view}
use Rattle.rust_code.specs.CodeViews.{before}
use Rattle.rust_code.specs.Labels.{code_in, is_deep, shaped}
use Rattle.rust_code.proofs.code_of.code_with.Goals as goal

pub returns : goal.returns
returns c =
    let stage = c.args.stage.now in
    c.in_ok-add_steps.ensures 0 refl
    ∙ ap (λ l. before l (shaped false (code_in stage (steps_view c.deref.result.now)) 0)) c.new-statements.ensures.items
    ∙ ap (λ b. flat (code_in stage b) is_deep 0) (ap steps_view c.deref.ensures.value ∙ sym (block_steps c.args.block.now))
