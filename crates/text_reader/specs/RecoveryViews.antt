-- What is recovered of a text, without where it lies in memory.
use Rattle.std.specs.Prelude.{◌≡◌, ◌+◌, List, length, map, string_bytes}
use Rattle.std.specs.Str.{chars}
use Rattle.core_syntax.specs.SyntaxViews.{definition_views, position}
use Rattle.text_reader.specs.declared.chunks.Chunk.{Chunk}
use Rattle.text_reader.specs.declared.errors.TextError.{TextError}
use Rattle.text_reader.specs.declared.recovery.Recovered.{Recovered}
use Rattle.text_reader.specs.Chunks.{Part}
use Rattle.text_reader.specs.Lexemes.{Wrong}
use Rattle.text_reader.specs.Recovering.{Recovery}
use Rattle.text_reader.specs.Views.{complaint}

abbrev pub part_view : Chunk → Part
part_view c = record { at = c.offset; text = chars (string_bytes c.text) }

abbrev pub part_views : List Chunk → List Part
part_views cs = map part_view cs

-- whether a chunk ends where its text does
abbrev pub Ends : Chunk → Type 0
Ends c = c.offset + length (string_bytes c.text) ≡ c.end

abbrev pub wrong_view : TextError → Wrong
wrong_view e = (complaint e.problem, position e.pos)

abbrev pub recovery_view : Recovered → Recovery
recovery_view r = record { definitions = definition_views r.defs.items; mistakes = map wrong_view r.errors.items }
