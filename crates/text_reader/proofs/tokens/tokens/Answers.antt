use Rattle.std.proofs.Common.{[], length, ap, subst, arith}
use Rattle.std.specs.Str.{chars}
use Rattle.std.proofs.lemmas.Str.{encodes-chars}
use Rattle.text_reader.specs.Pieces.{pieces_of}
use Rattle.text_reader.specs.Views.{Gives, token_views}
use Rattle.text_reader.proofs.Dividing.{divided}
use Rattle.text_reader.proofs.Only.{only}
use Rattle.text_reader.proofs.tokens.tokens.Goals as goal

pub returns-clause-only : goal.returns-clause-only
returns-clause-only c = λ ps are.
    subst (Gives (λ ts. token_views ts.items) _) (only c.args.at.file c.args.at.len ps 0 _ [] (omega (arith, ap length (encodes-chars c.args.text.now c.utf8.text), c.requires.len)) are) c.read_all.ensures.read

pub returns-clause-found : goal.returns-clause-found
returns-clause-found c = let are = divided (chars c.args.text.now) in (pieces_of (chars c.args.text.now), are, returns-clause-only c _ are)
