use Rattle.std.proofs.Common.{◌≡◌, ◌+◌, ◌≤◌, IsUtf8, chars}
use Rattle.std.specs.Str.Iter.{chars_rest}
use Rattle.text_documents.specs.Walks.{place_after}
use Rattle.text_documents.proofs.places.Walk.over.Given as goal

abbrev pub invariant-loop-c : goal.invariant-loop-c
invariant-loop-c l = record {
  text : IsUtf8 (chars_rest l.c-iterator);
  found : place_after l.walk.place l.walk.after_return l.left (chars (chars_rest l.c-iterator)) ≡ place_after l.fn.self.place l.fn.self.after_return l.fn.len (chars l.fn.text);
  line : l.walk.place.line + l.left ≤ l.fn.self.place.line + l.fn.len;
  character : l.walk.place.character + l.left ≤ l.fn.self.place.character + l.fn.len;
}
