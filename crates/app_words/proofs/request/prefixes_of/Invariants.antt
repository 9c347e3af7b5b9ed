use Rattle.std.proofs.Common.{◌≡◌, ◌++◌, drop, map}
use Rattle.app_words.specs.Requests.{prefix_view, renaming}
use Rattle.app_words.proofs.request.prefixes_of.Given as goal

abbrev pub invariant-loop-value : goal.invariant-loop-value
invariant-loop-value l = map prefix_view l.prefixes.items ++ map renaming (map (λ value. value.now) (drop l.value-index l.values)) ≡ map renaming (map (λ value. value.now) l.values)
