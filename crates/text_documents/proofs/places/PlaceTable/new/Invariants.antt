use Rattle.std.proofs.Common.{◌≡◌, ◌+◌, All, IsUtf8, chars, length}
use Rattle.std.specs.Str.Iter.{chars_rest}
use Rattle.text_documents.specs.Tables.{IsMark}
use Rattle.text_documents.proofs.places.PlaceTable.new.Given as goal

abbrev pub invariant-loop-next : goal.invariant-loop-next
invariant-loop-next l = record {
  utf8 : IsUtf8 (chars_rest l.rest);
  rest : l.mark.rest.now ≡ chars_rest l.rest;
  length : l.mark.offset + length (chars_rest l.rest) ≡ length l.fn.text;
  mark : IsMark (chars l.fn.text) l.mark;
  marks : All (IsMark (chars l.fn.text)) l.marks.items;
}

abbrev pub decreases-loop-next : goal.decreases-loop-next
decreases-loop-next l = length (chars_rest l.rest)
