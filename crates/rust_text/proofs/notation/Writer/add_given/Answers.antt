use Rattle.std.proofs.Common.{◌∙◌, ap}
use Rattle.model_code.specs.Pieces.{give_lines}
use Rattle.rust_code.specs.CodeViews.{use_view}
use Rattle.rust_text.specs.Adding.{ahead}
use Rattle.rust_text.specs.Margins.{margin_view}
use Rattle.rust_text.proofs.notation.Writer.add_given.Goals as goal

pub returns : goal.returns
returns c = λ p n rest.
    c.in_ok-add_given_of.ensures p rest
    ∙ ap (λ kind. ahead p c.args.out.now.items (give_lines kind p (margin_view c.args.at) (use_view c.args.value) rest)) (c.gives.ensures p n)
