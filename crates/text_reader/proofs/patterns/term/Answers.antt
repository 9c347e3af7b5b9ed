use Rattle.std.proofs.Common.{sym, ap, ◌∙◌}
use Rattle.std.specs.Prelude.{codes}
use Rattle.std.specs.Str.{bytes_eq}
use Rattle.text_reader.proofs.ReadLists.{and-read, term-read}
use Rattle.text_reader.proofs.Rows.{patterns-in_row}
use Rattle.text_reader.proofs.patterns.term.Goals as goal

pub returns-then-eq-clause-within : goal.returns-then-eq-clause-within
returns-then-eq-clause-within c =
    (patterns-in_row c.args.at.file c.args.at.len c.args.args c.requires.args, c.requires.pos)

pub returns-clause-within : goal.returns-clause-within
returns-clause-within c =
    (c.requires.sym, patterns-in_row c.args.at.file c.args.at.len c.args.args c.requires.args, c.requires.pos)

pub returns-then-eq-clause-read : goal.returns-then-eq-clause-read
returns-then-eq-clause-read c =
    and-read c.args.sym c.args.args c.args.pos (sym (ap (λ t. bytes_eq t (codes "and")) c.as_str.ensures.value) ∙ sym c.eq.ensures ∙ c.if-eq.true)

pub returns-clause-read : goal.returns-clause-read
returns-clause-read c =
    term-read c.args.sym c.args.args c.args.pos (sym (ap (λ t. bytes_eq t (codes "and")) c.as_str.ensures.value) ∙ sym c.eq.ensures ∙ c.if-eq.false)
