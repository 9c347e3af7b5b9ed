-- That a text is read as what it was made of.
use Rattle.std.specs.Prelude.{◌≡◌, ℕ, List, map}
use Rattle.model.specs.lists.Syntax.{Definition}
use Rattle.text_reader.specs.Definitions.{Spells}
use Rattle.text_writer.specs.Placeless.{placeless_definition}

-- in any file the text spells these definitions, but for their places
unfoldable pub ReadsBackAs : (text : List ℕ) → List Definition → Type 0
ReadsBackAs text ds = (file : ℕ) → (es : List Definition) × Spells file text es × (map placeless_definition es ≡ map placeless_definition ds)
