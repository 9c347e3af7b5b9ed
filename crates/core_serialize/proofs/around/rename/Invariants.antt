use Rattle.std.proofs.Common.{◌≡◌, ℕ, get_or, length}
use Rattle.core_serialize.specs.AroundViews.{named_as}
use Rattle.core_serialize.proofs.ClassNames.{renamed_before}
use Rattle.core_serialize.proofs.around.rename.Given as goal

abbrev pub invariant-loop-site : goal.invariant-loop-site
invariant-loop-site l = record {
  many : length l.names.items ≡ length l.fn.names.items;
  names : (s : ℕ) → get_or l.names.items s s ≡ renamed_before l.site l.from l.to l.fn.names.items s;
  undone : named_as l.sites.items l.from l.names.items ≡ l.fn.names.items;
}
