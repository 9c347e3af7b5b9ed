use Rattle.std.proofs.Common.{◌≡◌, ◌∙◌, ap}
use Rattle.rust_text.specs.TokenViews.{callee_view}
use Rattle.rust_text.specs.ProgramFields.{composed_in}
use Rattle.rust_text.proofs.ProgramSteps.{said, answer_composed}
use Rattle.rust_text.proofs.notation.Writer.gives_composed.Goals as goal

pub returns : goal.returns
returns c = said c.args.self.now (λ p. c.is_one_composed.result ≡ p.gives_composed (callee_view c.args.callee)) (λ constants rules types.
    c.is_one_composed.ensures ∙ (ap (composed_in c.args.self.now.program.tyenv.now) c.answer_of-ty.ensures ∙ answer_composed c.args.self.now constants rules (callee_view c.args.callee)))
