-- The bytes that are left are those of the files that are left, these are texts exactly where all are, and with the texts so far
-- their texts are all.
use Rattle.std.proofs.Common.{◌≡◌, ◌++◌, length, drop, map, string_bytes}
use Rattle.app_calls.specs.Calls.{total_length, are_texts, texts_in}
use Rattle.app_calls.proofs.inputs.files_of.Given as goal

abbrev pub invariant-loop-file : goal.invariant-loop-file
invariant-loop-file l =
    (total_length (drop l.file-index l.lengths) ≡ length l.rest)
    × (are_texts (drop l.file-index l.lengths) l.rest ≡ are_texts l.lengths l.bytes)
    × (map string_bytes l.files.texts.items ++ texts_in (drop l.file-index l.lengths) l.rest ≡ texts_in l.lengths l.bytes)
