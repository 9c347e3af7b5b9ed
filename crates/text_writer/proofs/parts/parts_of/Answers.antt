use Rattle.std.proofs.Common.{◌∙◌}
use Rattle.text_writer.proofs.Scans.{placed_text}
use Rattle.text_writer.proofs.parts.parts_of.Goals as goal

pub returns : goal.returns
returns c = λ ps h. c.in_ok-parts.ensures ∙ placed_text _ ps h
