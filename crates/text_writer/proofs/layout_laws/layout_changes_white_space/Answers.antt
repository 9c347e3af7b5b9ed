use Rattle.std.proofs.Common.{ap, ◌∙◌}
use Rattle.text_reader.specs.Solid.{solid}
use Rattle.text_writer.proofs.Sound.{wholes}
use Rattle.text_writer.proofs.Whole.{laid_once, laid_solid}
use Rattle.text_writer.proofs.layout_laws.layout_changes_white_space.Goals as goal

pub returns : goal.returns
returns c = λ i file text ps qs ts h t k.
    let w = wholes file ps 0 text 0 0 _ ts h t in
    ap solid (laid_once i ps qs w k) ∙ laid_solid i ps w
