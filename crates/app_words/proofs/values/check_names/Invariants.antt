use Rattle.std.proofs.Common.{◌≡◌, drop, map}
use Rattle.app_words.specs.Values.{wrong_names}
use Rattle.app_words.proofs.values.check_names.Given as goal

abbrev pub invariant-loop-name : goal.invariant-loop-name
invariant-loop-name l = wrong_names (map (λ name. name.now) (drop l.name-index l.names)) ≡ wrong_names (map (λ name. name.now) l.names)
