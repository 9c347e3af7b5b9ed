-- What is found so far is what the texts so far have.
use Rattle.std.proofs.Common.{◌≡◌, map, string_bytes, take}
use Rattle.text_writer.specs.Contents.{contents_of_texts, contents_view}
use Rattle.app_command.proofs.printing.contents_of.Given as goal

abbrev pub invariant-loop-number : goal.invariant-loop-number
invariant-loop-number g l = contents_view l.found ≡ contents_of_texts 0 (take l.number (map string_bytes l.files.texts.items))
