-- The lists that are open, the innermost first.
use Rattle.std.specs.Prelude.{List, reverse}
use Rattle.text_writer.specs.declared.lists.Lists.{Lists}
use Rattle.text_writer.specs.declared.lists.OpenList.{OpenList}

abbrev pub lists_view : Lists → List OpenList
lists_view lists = reverse lists.open.items
