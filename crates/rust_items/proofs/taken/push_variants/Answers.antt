use Rattle.std.proofs.Common.{[], ◌∷◌, ◌++◌, ap, codes, map, ◌∙◌}
use Rattle.std.proofs.lemmas.List.{append_assoc}
use Rattle.std.proofs.lemmas.Result.{on_ok_weaker}
use Rattle.cranelift_isle.specs.Envs.{names_of}
use Rattle.cranelift_isle.specs.TypeViews.{variant_view}
use Rattle.rust_items.specs.ClaimViews.{kind_views}
use Rattle.rust_items.specs.NamedPrograms.{kind_as, no_own, variant_fields, variant_kind}
use Rattle.rust_items.proofs.taken.push_variants.Goals as goal

pub returns : goal.returns
returns c =
    let names = names_of c.args.tyenv.now in
    let variants = map variant_view c.args.variants.now in
    let base = kind_views c.args.kinds.now.items in
    let inside = map (variant_fields names) variants in
    on_ok_weaker c.push_variant_fields.result
    (λ e. e ∙ ap (λ k. k ++ inside) (c.in_ok-push_kind.ensures ∙ ap (λ x. base ++ kind_as (codes "the variants") (codes "variant") no_own x ∷ []) c.in_ok-claims.ensures)
    ∙ append_assoc base (variant_kind names variants ∷ []) inside)
    c.push_variant_fields.ensures
