use Rattle.std.proofs.Common.{◌≡◌, ◌∙◌, ap, slice_get}
use Rattle.core_terms.specs.TermViews.{term_views}
use Rattle.rust_text.specs.TokenViews.{callee_view}
use Rattle.rust_text.specs.ProgramFields.{multi_at}
use Rattle.rust_text.proofs.ProgramSteps.{said, multi_said}
use Rattle.rust_text.proofs.notation.Writer.has_many.Goals as goal

pub returns : goal.returns
returns c = said c.args.self.now (λ p. c.is_multi.result ≡ p.has_many (callee_view c.args.callee)) (λ constants rules types.
    c.is_multi.ensures
    ∙ (ap (λ t. multi_at (slice_get (term_views c.args.self.now.program.terms.now) t)) c.term_of.ensures
    ∙ multi_said c.args.self.now constants rules (callee_view c.args.callee)))
