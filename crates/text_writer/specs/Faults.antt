-- What a fault of printing says.
use Rattle.std.specs.Prelude.{◌≡◌, Option, Some, option_map, ⊤}
use Rattle.model.specs.lists.Syntax.{Position}
use Rattle.core_syntax.specs.SyntaxViews.{position}
use Rattle.text_writer.specs.declared.faults.PrintFault.{PrintFault}
use Rattle.text_writer.specs.declared.faults.PrintFault.TheVariants.{Memory, Unspellable}

-- that memory was refused, or where the first definition stands that can't be spelled
abbrev pub TellsUnspellable : PrintFault → Option (Option Position) → Type 0
TellsUnspellable (Memory e) first = ⊤
TellsUnspellable (Unspellable p) first = first ≡ Some (option_map position p)
