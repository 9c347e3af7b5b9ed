use Rattle.std.proofs.Common.{sym, ap, ◌∙◌}
use Rattle.rust_items.specs.OwnNames.{is_number}
use Rattle.rust_items.proofs.Variables.{numbered_some, numbered_none}
use Rattle.rust_items.proofs.own.is_numbered.Goals as goal

pub returns-in-Some : goal.returns-in-Some
returns-in-Some c = c.is_number.ensures ∙ ap is_number c.as_bytes.ensures.value ∙ sym (numbered_some c.args.word.now c.args.name.now c.in-Some.number.now c.in-Some.ensures.cases)

pub returns-in-None : goal.returns-in-None
returns-in-None c = sym (numbered_none c.args.word.now c.args.name.now c.in-None.ensures.cases)
