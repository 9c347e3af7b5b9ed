use Rattle.std.proofs.Common.{◌≡◌, ◌++◌, drop, map}
use Rattle.std.specs.List.{filter_map}
use Rattle.app_words.specs.Values.{kind_named}
use Rattle.app_words.proofs.request.push_kinds.Given as goal

abbrev pub invariant-loop-name : goal.invariant-loop-name
invariant-loop-name l = l.kinds.items ++ filter_map kind_named (map (λ name. name.now) (drop l.name-index l.names)) ≡ l.initial.kinds.items ++ filter_map kind_named (map (λ name. name.now) l.names)
