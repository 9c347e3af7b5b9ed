use Rattle.std.proofs.Common.{◌≡◌, []}
use Rattle.std.specs.Str.{chars, IsUtf8}
use Rattle.std.specs.Str.Iter.{char_indices_offset, char_indices_rest}
use Rattle.text_reader.specs.Lexing.{run, between}
use Rattle.text_reader.specs.Tokens.{StateIsWithin, TokensAreWithin}
use Rattle.text_reader.specs.Views.{mode_view, token_views}
use Rattle.text_reader.proofs.tokens.read_all.Given as goal

abbrev pub invariant-loop-offset : goal.invariant-loop-offset
invariant-loop-offset l = IsUtf8 (char_indices_rest l.offset-iterator)
    × (run l.at.file l.at.len (mode_view l.state) (char_indices_offset l.offset-iterator) (chars (char_indices_rest l.offset-iterator)) (token_views l.tokens.items)
    ≡ run l.at.file l.at.len between 0 (chars l.text) [])
    × TokensAreWithin l.at.file l.at.len l.tokens.items
    × StateIsWithin l.at.file l.at.len l.state
