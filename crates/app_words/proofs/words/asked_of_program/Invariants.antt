use Rattle.std.proofs.Common.{◌≡◌, drop, map, string_bytes}
use Rattle.app_words.specs.Asked.{asked_of_program}
use Rattle.app_words.proofs.words.asked_of_program.Given as goal

abbrev pub invariant-loop-word : goal.invariant-loop-word
invariant-loop-word l = asked_of_program (map string_bytes (drop l.word-index l.words)) ≡ asked_of_program (map string_bytes l.words)
