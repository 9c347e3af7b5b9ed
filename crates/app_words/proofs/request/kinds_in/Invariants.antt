use Rattle.std.proofs.Common.{◌≡◌, ◌++◌, drop, map}
use Rattle.app_words.specs.Requests.{kinds_of}
use Rattle.app_words.proofs.request.kinds_in.Given as goal

abbrev pub invariant-loop-value : goal.invariant-loop-value
invariant-loop-value l = l.kinds.items ++ kinds_of (map (λ value. value.now) (drop l.value-index l.values)) ≡ kinds_of (map (λ value. value.now) l.values)
