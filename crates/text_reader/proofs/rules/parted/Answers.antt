use Rattle.core_syntax.specs.SyntaxViews.{position}
use Rattle.text_reader.proofs.LastForms.{one_last}
use Rattle.text_reader.proofs.rules.parted.Goals as goal

pub returns-in-len1-up-clause-read : goal.returns-in-len1-up-clause-read
returns-in-len1-up-clause-read c =
    one_last (position c.args.end) c.args.forms.now c.last-item.result c.in-len1-up.len_at_least c.last-item.is
