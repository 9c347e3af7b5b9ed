-- What a text is laid out as.
use Rattle.std.specs.Prelude.{ℕ, List, Result, Ok}
use Rattle.std.specs.Str.{chars}
use Rattle.text_reader.specs.Definitions.{forms_in}
use Rattle.text_reader.specs.Lexemes.{Wrong, ◌>>=◌}
use Rattle.text_reader.specs.Pieces.{pieces_of}
use Rattle.text_writer.specs.Pages.{laid, text_of}
use Rattle.text_writer.specs.declared.lists.Indentation.{Indentation}

-- the layout of a text's pieces, or the first mistake among its tokens, or else among its lists
abbrev pub layout_in : (file : ℕ) → Indentation → (text : List ℕ) → Result (List ℕ) Wrong
layout_in file indentation text = forms_in file text >>= (λ _. Ok (text_of (laid indentation (pieces_of (chars text)))))
