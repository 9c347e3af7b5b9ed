use Rattle.std.proofs.Common.{ap}
use Rattle.text_writer.specs.Pages.{text_of}
use Rattle.text_writer.proofs.Sound.{wholes}
use Rattle.text_writer.proofs.Again.{twice}
use Rattle.text_writer.proofs.layout_laws.layout_is_made_once.Goals as goal

pub returns : goal.returns
returns c = λ i file text ps qs ts h t k. ap text_of (twice i ps qs (wholes file ps 0 text 0 0 _ ts h t) k)
