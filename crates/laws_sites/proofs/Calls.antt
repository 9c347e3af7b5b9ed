-- The calls that a visit goes over after an earlier one.
use Rattle.std.proofs.Common.{Bool, ◌⊎◌, inl, arith}
use Rattle.std.proofs.lemmas.Grind.{common_steps}
use Rattle.model.specs.sites.Sites.{SiteTerm}
use Rattle.model.specs.visits.Demands.{Visit, equating, iterating}
use Rattle.model.proofs.Elements.{In, in_either}
use Rattle.laws_sites.proofs.AskedSites.{Good, Later, good_stays, equated}

-- the gates of the calls that a later visit goes over are demanded by it, but for those of the earlier one
abbrev pub NewCalls : Bool → Bool → Visit → Visit → Type 0
NewCalls asked pure v w = (u : SiteTerm) → In w.demands.iterators u → In v.demands.iterators u ⊎ Good asked pure w u

pub no_call : (asked pure : Bool) (v : Visit) → NewCalls asked pure v v
no_call asked pure v u i = inl i

pub then_calls : (asked pure : Bool) (u v w : Visit) → Later v w → NewCalls asked pure u v → NewCalls asked pure v w → NewCalls asked pure u w
then_calls asked pure u v w l f g s i = grind (arith, common_steps, good_stays)

pub one_call : (asked pure : Bool) (s : SiteTerm) (v : Visit) → Good asked pure (iterating s v) s → NewCalls asked pure v (iterating s v)
one_call asked pure s v h u i = grind (arith, common_steps, in_either, Good)

pub equating_calls : (asked pure : Bool) (a b : SiteTerm) (v : Visit) → NewCalls asked pure v (equating a b v)
equating_calls asked pure a b v = grind (arith, equated, no_call)
