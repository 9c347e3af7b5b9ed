-- All that definitions become is one answer.
use Rattle.laws_trees.proofs.OneAnswer.{lowering_gives_one_lem}
use Rattle.core_types.specs.EnvViews.{environment_view}
use Rattle.core_rules.specs.ShownEnvs.{environment_shown_by}
use Rattle.cranelift_isle.specs.Lowerings.{lowered_views, LoweringIsAFunction}

pub lowering_is_a_function_lem : LoweringIsAFunction
lowering_is_a_function_lem defs expand a b x y =
    let one =
    lowering_gives_one_lem defs expand (environment_view a.tyenv) (environment_view b.tyenv) (environment_shown_by a.termenv) (environment_shown_by b.termenv) x.0 y.0
    (lowered_views a.terms.items) (lowered_views b.terms.items) x.1 y.1 in
    record { types = one.environment; terms = one.term_environment; became = one.became }
