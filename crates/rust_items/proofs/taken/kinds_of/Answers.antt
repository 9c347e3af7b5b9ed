use Rattle.std.proofs.Common.{ap, ◌∙◌}
use Rattle.std.specs.List.{flat_map}
use Rattle.cranelift_isle.specs.Envs.{names_of}
use Rattle.cranelift_isle.specs.TypeViews.{type_views}
use Rattle.rust_items.specs.ClaimViews.{claim_views, kind_views}
use Rattle.rust_items.specs.NamedPrograms.{type_claim, kinds_inside, paths_among}
use Rattle.rust_items.specs.ProgramViews.{named_program}
use Rattle.rust_items.proofs.Grown.{all_kinds, same_paths}
use Rattle.rust_items.proofs.taken.kinds_of.Goals as goal

pub returns : goal.returns
returns c =
    let env = c.args.program.tyenv.now in
    all_kinds (named_program env c.args.program.terms.now c.args.lowered.now) _ _ _ _ _ _ _ _ _ _ _ _ _
    (c.in_ok-of_types.ensures ∙ ap (λ ts. flat_map (type_claim (names_of env)) (type_views ts)) c.deref-types.ensures.value)
    (ap (λ ts. flat_map (kinds_inside (names_of env)) (type_views ts)) c.deref-types.ensures.value)
    c.in_ok-functions.ensures c.in_ok-constants.ensures c.in_ok-with_rules.ensures
    (c.in_ok-paths.ensures ∙ ap (λ ts. paths_among (names_of env) (type_views ts) (claim_views c.deref.result.now) (claim_views c.deref-2.result.now) (claim_views c.deref-3.result.now)) c.deref-types.ensures.value
    ∙ same_paths (names_of env) (type_views env.types.items) c.deref.ensures.value c.deref-2.ensures.value c.deref-3.ensures.value)
    (ap kind_views c.new-kinds.ensures.items)
    c.in_ok-push_kind.ensures c.in_ok-push_insides.ensures c.in_ok-push_kind-2.ensures c.in_ok-push_kind-3.ensures c.in_ok-push_kind-4.ensures c.in_ok-push_kind-5.ensures
