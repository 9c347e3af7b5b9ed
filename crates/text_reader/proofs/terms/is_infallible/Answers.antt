use Rattle.std.proofs.Common.{length, arith}
use Rattle.std.proofs.lemmas.Bool.{le-leb, lt-leb}
use Rattle.text_reader.proofs.LastForms.{counted}
use Rattle.text_reader.proofs.terms.is_infallible.Goals as goal

pub returns-then-parts-le2-clause-read : goal.returns-then-parts-le2-clause-read
returns-then-parts-le2-clause-read c =
    rw (counted c.args.parts.forms.now, le-leb (length c.args.parts.forms.now) 2 c.if-parts-le2.true)

pub returns-else-parts-le2-clause-read : goal.returns-else-parts-le2-clause-read
returns-else-parts-le2-clause-read c =
    rw (counted c.args.parts.forms.now, lt-leb (length c.args.parts.forms.now) 2 (omega (arith, c.if-parts-le2.false))) c.next_if.ensures.read
