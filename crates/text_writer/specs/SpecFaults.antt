-- What a fault of printing says.
use Rattle.std.specs.Prelude.{◌≡◌, Option, Some, Result, Err, ⊤}
use Rattle.model.specs.lists.Syntax.{Position}
use Rattle.core_syntax.specs.SyntaxViews.{position}
use Rattle.text_writer.specs.declared.spec_faults.SpecPrintFault.{SpecPrintFault}
use Rattle.text_writer.specs.declared.spec_faults.SpecPrintFault.TheVariants.{Memory, Unspellable, Unmatched}
use Rattle.text_writer.specs.Woven.{Trouble, unspelled, unmatched}

-- that memory was refused, or where the first tree stands that can't be spelled
abbrev pub TellsUnspellableSpec : SpecPrintFault → Option Position → Type 0
TellsUnspellableSpec (Memory e) first = ⊤
TellsUnspellableSpec (Unspellable p) first = first ≡ Some (position p)
TellsUnspellableSpec (Unmatched n) first = ⊥

-- that memory was refused, or this trouble
abbrev pub IsTrouble : {A : Type 0} → SpecPrintFault → Result A Trouble → Type 0
IsTrouble (Memory e) r = ⊤
IsTrouble (Unspellable p) r = r ≡ Err (unspelled (position p))
IsTrouble (Unmatched n) r = r ≡ Err (unmatched n)
