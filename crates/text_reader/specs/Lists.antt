-- Which lists of a text have each position inside it.
use Rattle.std.specs.Prelude.{ℕ}
use Rattle.text_reader.specs.declared.parts.Parts.{Parts}
use Rattle.text_reader.specs.Forms.{FormsAreWithin, PosIsWithin}

abbrev pub PartsAreWithin : (file size : ℕ) → Parts → Type 0
PartsAreWithin file size l = FormsAreWithin file size l.forms.now × PosIsWithin file size l.pos × PosIsWithin file size l.end
