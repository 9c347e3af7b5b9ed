use Rattle.std.proofs.Common.{ap, subst, ◌∙◌}
use Rattle.std.specs.Prelude.{All}
use Rattle.std.proofs.lemmas.Result.{on_ok_weaker}
use Rattle.rust_items.specs.Claims.{IsWellNamed}
use Rattle.rust_items.specs.ClaimViews.{kind_views}
use Rattle.rust_items.proofs.taken.check_names.Goals as goal

pub returns-clause-good : goal.returns-clause-good
returns-clause-good c =
    on_ok_weaker c.check_kinds.result (subst (All IsWellNamed) (ap kind_views c.deref.ensures.value ∙ c.in_ok-kinds.ensures)) c.check_kinds.ensures.good
