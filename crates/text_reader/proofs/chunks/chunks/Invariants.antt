use Rattle.std.proofs.Common.{◌≡◌, ◌+◌, ◌++◌, All, length}
use Rattle.std.specs.Str.{chars, IsUtf8}
use Rattle.std.specs.Str.Iter.{char_indices_offset, char_indices_rest}
use Rattle.text_reader.specs.Chunks.{chunks_from, chunks_of}
use Rattle.text_reader.specs.RecoveryViews.{Ends, part_view, part_views}
use Rattle.text_reader.proofs.chunks.chunks.Given as goal

abbrev pub invariant-loop-offset : goal.invariant-loop-offset
invariant-loop-offset l = record {
  utf8 : IsUtf8 (char_indices_rest l.offset-iterator);
  size : char_indices_offset l.offset-iterator + length (char_indices_rest l.offset-iterator) ≡ length l.text;
  end : l.chunk.end ≡ char_indices_offset l.offset-iterator;
  ends : Ends l.chunk;
  all : All Ends l.chunks.items;
  parts : part_views l.chunks.items ++ chunks_from l.place (part_view l.chunk) (char_indices_offset l.offset-iterator) (chars (char_indices_rest l.offset-iterator)) ≡ chunks_of (chars l.text);
}
