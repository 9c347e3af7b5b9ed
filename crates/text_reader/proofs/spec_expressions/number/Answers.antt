use Rattle.text_reader.proofs.Digits.{bits_fit}
use Rattle.text_reader.proofs.spec_expressions.number.Goals as goal

pub returns-in-None : goal.returns-in-None
returns-in-None c = absurd (c.in-None.ensures (bits_fit c.args.radix c.args.each c.args.digits.now c.requires.lower c.requires.fits c.requires.bits))
