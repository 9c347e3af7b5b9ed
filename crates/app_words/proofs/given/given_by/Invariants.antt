use Rattle.std.proofs.Common.{length, map, string_bytes}
use Rattle.app_words.specs.Asked.{AreRead}
use Rattle.app_words.proofs.given.given_by.Given as goal

abbrev pub invariant-loop-word : goal.invariant-loop-word
invariant-loop-word l = AreRead l.fn.job (map string_bytes l.fn.words) l.items.items (map string_bytes l.left)

abbrev pub decreases-loop-word : goal.decreases-loop-word
decreases-loop-word l = length l.left
