use Rattle.std.proofs.Common.{map}
use Rattle.core_syntax.specs.SyntaxViews.{definition_views}
use Rattle.text_reader.specs.SpecViews.{numbered_view}
use Rattle.text_writer.proofs.WovenText.{defined_if_ok, said_if_ok}
use Rattle.text_writer.proofs.woven.print_all.Goals as goal

pub returns-clause-defined : goal.returns-clause-defined
returns-clause-defined c = defined_if_ok (definition_views c.args.defs.now) (map numbered_view c.args.forms.now) c.woven_text.result c.woven_text.ensures.text

pub returns-clause-said : goal.returns-clause-said
returns-clause-said c = said_if_ok (definition_views c.args.defs.now) (map numbered_view c.args.forms.now) c.woven_text.result c.woven_text.ensures.text
