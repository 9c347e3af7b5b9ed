use Rattle.std.proofs.Common.{◌≡◌, ◌<◌, ℕ, true, take}
use Rattle.model.specs.trees.Places.{is_in}
use Rattle.core_serialize.proofs.around.emitted_end.Given as goal

abbrev pub invariant-loop-site : goal.invariant-loop-site
invariant-loop-site l = (s : ℕ) → is_in s (take l.site-index l.site-items) ≡ true → s < l.end
