use Rattle.std.proofs.Common.{◌≡◌}
use Rattle.std.specs.List.{list_all}
use Rattle.std.proofs.Common.{drop}
use Rattle.cranelift_isle.specs.TypeViews.{type_views}
use Rattle.cranelift_isle.specs.SiteViews.{constraint_views}
use Rattle.report_queries.specs.Premises.{asks_own_constant}
use Rattle.report_queries.proofs.premises.all_own.Given as goal

abbrev pub invariant-loop-constraint : goal.invariant-loop-constraint
invariant-loop-constraint l =
    list_all (λ c. asks_own_constant (type_views l.tyenv.types.items) c.1) (constraint_views (drop l.constraint-index l.constraints))
    ≡ list_all (λ c. asks_own_constant (type_views l.tyenv.types.items) c.1) (constraint_views l.constraints)
