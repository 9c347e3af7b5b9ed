-- A rule that makes no impure call goes over none.
use Rattle.std.proofs.Common.{◌≡◌, ℕ, suc, [], arith}
use Rattle.std.proofs.lemmas.Grind.{common_steps}
use Rattle.model.specs.rules.Program.{Program, Kind, a_call}
use Rattle.model.specs.rules.Typed.{TypedRule}
use Rattle.model.specs.sites.Sites.{SiteTerm, constructor_call}
use Rattle.model.specs.visits.Demands.{demands_of, site_term_eq, Visit, equating, iterating, ValuedAll, visit_term}
use Rattle.model.proofs.Elements.{In, in_either}
use Rattle.laws_sites.proofs.GrowingVisits.{equated}
use Rattle.model.proofs.Either.{either}
use Rattle.laws_sites.proofs.VisitInvariants.{rule_kept}
use Rattle.model.proofs.FewElements.{not_nothing}

-- no site of an impure call
abbrev pub IsNoImpureCall : SiteTerm → Type 0
IsNoImpureCall (constructor_call t ss (suc n)) = ⊥
IsNoImpureCall _ = Unit {0}

-- if no impure call was met, none is gone over
abbrev GoesOverNone : Visit → Type 0
GoesOverNone v = v.demands.impure ≡ [] → (u : SiteTerm) → In v.demands.iterators u → IsNoImpureCall u

none_iterating : (s : SiteTerm) (v : Visit) → IsNoImpureCall s → GoesOverNone v → GoesOverNone (iterating s v)
none_iterating s v f h e u i = grind (arith, common_steps, in_either)

none_equating : (a b : SiteTerm) (v : Visit) → GoesOverNone v → GoesOverNone (equating a b v)
unfolding equated
none_equating a b v h = either GoesOverNone (site_term_eq a b) v (equated a b v) h h

made_none : (k : Kind) (t : ℕ) (a : ValuedAll) → GoesOverNone a.visit → GoesOverNone (visit_term k t a).visit
made_none (a_call flags infallible) t a h = grind (arith, common_steps, none_iterating, not_nothing)
made_none _ t a h = h

pub rule_goes_over_none : (p : Program) (r : TypedRule) → (demands_of p r).impure ≡ [] → (u : SiteTerm) → In (demands_of p r).iterators u → IsNoImpureCall u
rule_goes_over_none p r = grind (arith, rule_kept p GoesOverNone, made_none, none_iterating)
