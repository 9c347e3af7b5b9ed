use Rattle.std.proofs.Common.{◌≡◌, ◌+◌, []}
use Rattle.std.specs.Str.{chars, IsUtf8}
use Rattle.std.specs.Str.Iter.{char_indices_offset, char_indices_rest}
use Rattle.text_reader.specs.Lexing.{run, between}
use Rattle.text_reader.specs.Tokens.{StateIsWithin, TokensAreWithin}
use Rattle.text_reader.specs.Views.{mode_view, token_views}
use Rattle.text_reader.proofs.tokens.tokens_from.Given as goal

abbrev pub invariant-loop-index : goal.invariant-loop-index
invariant-loop-index l = IsUtf8 (char_indices_rest l.index-iterator)
    × (run l.at.file l.at.len (mode_view l.state) (l.begin + char_indices_offset l.index-iterator) (chars (char_indices_rest l.index-iterator)) (token_views l.tokens.items)
    ≡ run l.at.file l.at.len between l.begin (chars l.part) [])
    × TokensAreWithin l.at.file l.at.len l.tokens.items
    × StateIsWithin l.at.file l.at.len l.state
