-- What do changes make of a text? (LSP 3.17, `contentChanges`: each is made of the text that the one before it left.)
use Rattle.std.specs.Prelude.{◌≡◌, ℕ, List, [], ◌∷◌, string_bytes}
use Rattle.text_documents.specs.declared.changes.Change.{Change}
use Rattle.text_documents.specs.declared.changes.Change.TheVariants.{Whole, Range}
use Rattle.text_documents.specs.Places.{IsEdit}

-- the bytes of a text, where one change is made
abbrev pub IsEditBy : List ℕ → Change → List ℕ → Type 0
IsEditBy bytes (Whole text) made = made ≡ string_bytes text
IsEditBy bytes (Range begin end text) made = IsEdit bytes begin end (string_bytes text) made

-- the bytes of a text, where changes are made in turn
abbrev pub AreEdits : List ℕ → List Change → List ℕ → Type 0
AreEdits bytes [] made = made ≡ bytes
AreEdits bytes (change ∷ changes) made = (next : List ℕ) × IsEditBy bytes change next × AreEdits next changes made
