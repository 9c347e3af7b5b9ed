-- What does a layout change in a document?
use Rattle.std.specs.Prelude.{ℕ, List, Option}
use Rattle.app_messages.specs.Edits.{Makes}
use Rattle.app_messages.specs.declared.edits.PlacedEdit.{PlacedEdit}
use Rattle.text_reader.specs.Solid.{HaveSameTokens}

-- an editor that makes the edit, if there is one, has a text with the same tokens and comments then
abbrev pub KeepsTokens : List ℕ → Option PlacedEdit → Type 0
KeepsTokens text edit = (new : List ℕ) × (HaveSameTokens 0 text new × Makes text edit new)
