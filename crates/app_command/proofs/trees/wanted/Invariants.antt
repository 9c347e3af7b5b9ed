-- Those that are wanted so far, and those of the terms that are left, are all that are wanted.
use Rattle.std.proofs.Common.{◌≡◌, ◌++◌, drop, map, option_map}
use Rattle.std.specs.List.{filter}
use Rattle.app_command.specs.WantedTerms.{is_asked, name_of}
use Rattle.app_command.proofs.trees.wanted.Given as goal

abbrev pub invariant-loop-term : goal.invariant-loop-term
invariant-loop-term l =
    map (λ t. t.now) l.wanted.items ++ filter (λ t. is_asked (option_map (λ s. s.now) l.asked) (name_of l.lowered t)) (drop l.term-index l.term-items)
    ≡ filter (λ t. is_asked (option_map (λ s. s.now) l.asked) (name_of l.lowered t)) l.term-items
