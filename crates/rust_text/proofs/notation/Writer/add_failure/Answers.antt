use Rattle.std.proofs.Common.{◌∙◌, ap}
use Rattle.model_code.specs.Pieces.{failure_before}
use Rattle.rust_text.specs.Adding.{ahead}
use Rattle.rust_text.proofs.notation.Writer.add_failure.Goals as goal

pub returns : goal.returns
returns c = λ p n rest. c.in_ok-add_failure_of.ensures p rest ∙ ap (λ kind. ahead p c.args.out.now.items (failure_before kind rest)) (c.gives.ensures p n)
