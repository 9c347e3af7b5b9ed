-- What does an edit make of a text?
use Rattle.std.specs.Prelude.{◌≡◌, ℕ, List, Option, Some, None, string_bytes}
use Rattle.app_messages.specs.declared.edits.PlacedEdit.{PlacedEdit}
use Rattle.text_documents.specs.Places.{IsEdit}

-- an editor that makes the edit, if there is one, has this text then
abbrev pub Makes : List ℕ → Option PlacedEdit → List ℕ → Type 0
Makes text None made = made ≡ text
Makes text (Some edit) made = IsEdit text edit.begin edit.end (string_bytes edit.text) made
