-- Steps of the loop that gives a value for each type.
use Rattle.std.proofs.Common.{◌≡◌, ℕ, ◌+◌, ◌<◌, ◌≤◌, List, [], ◌∷◌, ◌++◌, length, drop, map}
use Rattle.std.proofs.lemmas.List.{at_drop_more, at_drop_all}
use Rattle.model.specs.rules.Values as Values
use Rattle.cranelift_isle.specs.Values.{Values, value_and}
use Rattle.core_types.specs.declared.ids.TypeId.{TypeId}
use Rattle.run_terms.specs.declared.values.Value.{Value}
use Rattle.run_terms.specs.ValueViews.{value_view, value_views}
use Rattle.run_terms.proofs.ValueSteps.{before, before-push, before-none}
use Rattle.report_traces.specs.Echoes.{for_each_type}

-- a value for each of these types
abbrev pub each : List TypeId → Values.Value → Values
each tys v = for_each_type (map (λ ty. ty.0) tys) v

pub each_more : (out new : List Value) (w : Value) (v : Values.Value) (tys : List TypeId) (d : TypeId) (i : ℕ) → i < length tys → value_view w ≡ v → new ≡ out ++ w ∷ [] → before out (each (drop i tys) v) ≡ each tys v → before new (each (drop (i + 1) tys) v) ≡ each tys v
each_more out new w v tys d i h same is inv =
    let a = before-push out w (each (drop (i + 1) tys) v) in
    let b = at_drop_more (λ ts. each ts v) tys i d h in
    cc

pub each_all : (out : List Value) (v : Values.Value) (tys : List TypeId) (i : ℕ) → length tys ≤ i → before out (each (drop i tys) v) ≡ each tys v → value_views out ≡ each tys v
each_all out v tys i h inv =
    let a = at_drop_all (λ ts. each ts v) tys i h in
    let b = before-none out in
    cc
