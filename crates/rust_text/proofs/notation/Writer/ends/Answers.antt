use Rattle.std.proofs.Common.{◌∙◌, ap}
use Rattle.model_code.specs.Pieces.{ends_function}
use Rattle.rust_text.proofs.notation.Writer.ends.Goals as goal

pub returns : goal.returns
returns c = λ p n. c.ends_function.ensures ∙ ap ends_function (c.gives.ensures p n)
