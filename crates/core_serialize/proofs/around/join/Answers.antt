use Rattle.std.proofs.Common.{◌≡◌, ◌∙◌, ◌∷◌, ap, get_or, refl, rules, subst, sym, take}
use Rattle.core_serialize.specs.AroundViews.{renamed, NamesClasses}
use Rattle.core_serialize.proofs.ClassNames.{named_joined}
use Rattle.core_serialize.proofs.MatchCounts.{same_itself}
use Rattle.core_serialize.proofs.around.join.Goals as goal
