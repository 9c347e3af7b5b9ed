use Rattle.std.proofs.Common.{[], ◌∷◌, ◌++◌, ap, codes, ◌∙◌}
use Rattle.std.proofs.lemmas.Result.{on_ok_weaker}
use Rattle.rust_items.specs.ClaimViews.{kind_views}
use Rattle.rust_items.specs.NamedPrograms.{kind_as, no_own}
use Rattle.rust_items.proofs.taken.push_fields.Goals as goal

pub returns : goal.returns
returns c =
    on_ok_weaker c.push_kind.result
    (λ e. e ∙ ap (λ x. kind_views c.args.kinds.now.items ++ kind_as (codes "the fields") (codes "field") no_own x ∷ []) c.in_ok-claims.ensures)
    c.push_kind.ensures
