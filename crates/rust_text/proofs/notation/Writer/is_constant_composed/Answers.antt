use Rattle.std.proofs.Common.{◌≡◌, ◌∙◌, ap, sym}
use Rattle.model.specs.sites.Serves.{constant_type}
use Rattle.rust_text.specs.ProgramFields.{composed_in}
use Rattle.rust_text.specs.Writers.{program_by}
use Rattle.rust_text.proofs.ProgramSteps.{said, one_composed}
use Rattle.rust_text.proofs.notation.Writer.is_constant_composed.Goals as goal

pub returns : goal.returns
returns c = said c.args.self.now (λ p. c.is_one_composed.result ≡ p.is_constant_composed c.args.name.0) (λ constants rules types.
    c.is_one_composed.ensures
    ∙ (ap (composed_in c.args.self.now.program.tyenv.now) (c.constant_type-ty.ensures ∙ sym (types c.args.name.0))
    ∙ one_composed c.args.self.now constants rules (constant_type (program_by c.args.self.now constants rules) c.args.name.0)))
