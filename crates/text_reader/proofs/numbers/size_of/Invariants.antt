use Rattle.std.proofs.Common.{◌≡◌, ◌<◌, ◌^◌, drop}
use Rattle.text_reader.specs.Numbers.{digits_after}
use Rattle.text_reader.proofs.numbers.size_of.Given as goal

abbrev pub invariant-loop-byte : goal.invariant-loop-byte
invariant-loop-byte l = (l.size < 2 ^ 128) × (digits_after l.radix l.size (drop l.byte-index l.word) ≡ digits_after l.radix 0 l.word)
