use Rattle.std.proofs.Common.{ap, ◌∙◌}
use Rattle.text_reader.specs.Solid.{solid}
use Rattle.text_writer.proofs.KeptTokens.{kept_tokens}
use Rattle.text_writer.proofs.Sound.{wholes}
use Rattle.text_writer.proofs.Whole.{laid_once, laid_solid}
use Rattle.text_writer.proofs.layout_laws.layout_keeps_tokens.Goals as goal

pub returns : goal.returns
returns c = λ i file text ps qs ts h t k.
    let w = wholes file ps 0 text 0 0 _ ts h t in
    kept_tokens c.white_space_says_nothing.ensures file ps qs (ap solid (laid_once i ps qs w k) ∙ laid_solid i ps w)
