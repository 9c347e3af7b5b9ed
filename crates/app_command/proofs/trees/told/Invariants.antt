-- What is written so far, and the texts of the terms that are left, are the whole text.
use Rattle.std.proofs.Common.{◌≡◌, ◌++◌, drop, map, string_bytes}
use Rattle.report_queries.specs.TermTexts.{terms_text}
use Rattle.app_command.proofs.trees.told.Given as goal

abbrev pub invariant-loop-term : goal.invariant-loop-term
invariant-loop-term g l =
    string_bytes l.out ++ terms_text l.files l.lowered (map (λ t. t.now) (drop l.term-index l.terms)) ≡ terms_text l.files l.lowered (map (λ t. t.now) l.terms)
