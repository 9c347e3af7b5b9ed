-- Gates stay demanded where more is demanded, and the calls that a value unwraps make the difference.
use Rattle.std.proofs.Common.{Bool, true, false, List, Contains, refl, subst, inl, inr, arith}
use Rattle.std.proofs.lemmas.Grind.{common_steps}
use Rattle.model.specs.sites.Sites.{Constraint, is_variant, is_struct, is_present, SiteTerm, extractor_call, constructor_call, pick_of, variant_made, variant_field, struct_made, struct_field, some_made, some_part, tuple_part, SiteTerms, no_site_term, site_term_and}
use Rattle.model.specs.visits.Demands.{Demands, unwraps, unwraps_all}
use Rattle.model.specs.trees.Collects.{calls_in, calls_in_all}
use Rattle.model.specs.sites.DemandedGates.{GatesDemanded, AllGatesDemanded}
use Rattle.model.proofs.Elements.{In, in_left, in_right, in_either}

-- all of a list is in another one
abbrev pub AllIn : {X : Type 0} → List X → List X → Type 0
AllIn xs ys = (x : _) → Contains xs x → Contains ys x

-- what is asked: constraints, and calls that are gone over
pub record Asking : Type 0 where
  pub constraints : List (SiteTerm × Constraint)
  pub calls : List SiteTerm

-- by demands
abbrev pub asking_of : Demands → Asking
asking_of d = record { constraints = d.constraints; calls = d.iterators }

-- no less is asked
pub record AsksMore (a b : Asking) : Type 0 where
  pub constraints : AllIn a.constraints b.constraints
  pub calls : AllIn a.calls b.calls

module _ (less more : Asking) (grown : AsksMore less more) where
  mutual
    pub gates_stay : (asked pure : Bool) (u : SiteTerm) → GatesDemanded asked pure less.constraints less.calls u → GatesDemanded asked pure more.constraints more.calls u
    gates_stay a p (extractor_call t u) h = gates_stay a p u h
    gates_stay a p (constructor_call t args i) h = (h.0, all_stay a p args h.1)
    gates_stay a p (pick_of u) h = (grown.calls u h.0, gates_stay a p u h.1)
    gates_stay a p (variant_made ty variant fields) h = all_stay a p fields h
    gates_stay a p (variant_field u variant f) h =
        (record { ty = h.0.ty; fields = h.0.fields; asked = grown.constraints (u, is_variant h.0.ty variant h.0.fields) h.0.asked; many = h.0.many }, gates_stay a p u h.1)
    gates_stay a p (struct_made ty fields) h = all_stay a p fields h
    gates_stay a p (struct_field u f) h =
        (record { ty = h.0.ty; fields = h.0.fields; asked = grown.constraints (u, is_struct h.0.ty h.0.fields) h.0.asked; many = h.0.many }, gates_stay a p u h.1)
    gates_stay a p (some_made u) h = gates_stay a p u h
    gates_stay a p (some_part u) h = ((grind (arith, common_steps)), gates_stay a p u h.1)
    gates_stay a p (tuple_part u f) h = gates_stay a p u h
    gates_stay a p _ h = tt

    pub all_stay : (asked pure : Bool) (us : SiteTerms) → AllGatesDemanded asked pure less.constraints less.calls us → AllGatesDemanded asked pure more.constraints more.calls us
    all_stay a p no_site_term h = tt
    all_stay a p (site_term_and u us) h = (gates_stay a p u h.0, all_stay a p us h.1)

module _ (cs : List (SiteTerm × Constraint)) (calls : List SiteTerm) where
  -- impure calls needn't be ruled out
  mutual
    pub unpurified : (asked pure : Bool) (u : SiteTerm) → GatesDemanded asked true cs calls u → GatesDemanded asked pure cs calls u
    unpurified a p (extractor_call t u) h = unpurified a p u h
    unpurified a p (constructor_call t args i) h = ((grind (arith, common_steps)), all_unpurified a p args h.1)
    unpurified a p (pick_of u) h = (h.0, unpurified a p u h.1)
    unpurified a p (variant_made ty variant fields) h = all_unpurified a p fields h
    unpurified a p (variant_field u variant f) h = (h.0, unpurified a p u h.1)
    unpurified a p (struct_made ty fields) h = all_unpurified a p fields h
    unpurified a p (struct_field u f) h = (h.0, unpurified a p u h.1)
    unpurified a p (some_made u) h = unpurified a p u h
    unpurified a p (some_part u) h = (h.0, unpurified a p u h.1)
    unpurified a p (tuple_part u f) h = unpurified a p u h
    unpurified a p _ h = tt

    all_unpurified : (asked pure : Bool) (us : SiteTerms) → AllGatesDemanded asked true cs calls us → AllGatesDemanded asked pure cs calls us
    all_unpurified a p no_site_term h = tt
    all_unpurified a p (site_term_and u us) h = (unpurified a p u h.0, all_unpurified a p us h.1)

  -- answers needn't be asked for
  mutual
    pub unasked : (pure : Bool) (u : SiteTerm) → GatesDemanded true pure cs calls u → GatesDemanded false pure cs calls u
    unasked p (extractor_call t u) h = unasked p u h
    unasked p (constructor_call t args i) h = (h.0, all_unasked p args h.1)
    unasked p (pick_of u) h = (h.0, unasked p u h.1)
    unasked p (variant_made ty variant fields) h = all_unasked p fields h
    unasked p (variant_field u variant f) h = (h.0, unasked p u h.1)
    unasked p (struct_made ty fields) h = all_unasked p fields h
    unasked p (struct_field u f) h = (h.0, unasked p u h.1)
    unasked p (some_made u) h = unasked p u h
    unasked p (some_part u) h = (tt, unasked p u h.1)
    unasked p (tuple_part u f) h = unasked p u h
    unasked p _ h = tt

    all_unasked : (pure : Bool) (us : SiteTerms) → AllGatesDemanded true pure cs calls us → AllGatesDemanded false pure cs calls us
    all_unasked p no_site_term h = tt
    all_unasked p (site_term_and u us) h = (unasked p u h.0, all_unasked p us h.1)

  -- what is demanded of a tested site is more than what is of a value
  pub weaker : (pure : Bool) (u : SiteTerm) → GatesDemanded true true cs calls u → GatesDemanded false pure cs calls u
  weaker p u h = unasked p u (unpurified true p u h)

  -- where each call that a pure value unwraps is asked to answer, the value may be tested
  mutual
    pub stronger : (u : SiteTerm) → GatesDemanded false true cs calls u → ((s : SiteTerm) → In (unwraps u) s → Contains cs (s, is_present)) → GatesDemanded true true cs calls u
    stronger (extractor_call t u) h f = stronger u h f
    stronger (constructor_call t args i) h f = (h.0, all_stronger args h.1 f)
    stronger (pick_of u) h f = (h.0, stronger u h.1 f)
    stronger (variant_made ty variant fields) h f = all_stronger fields h f
    stronger (variant_field u variant i) h f = (h.0, stronger u h.1 f)
    stronger (struct_made ty fields) h f = all_stronger fields h f
    stronger (struct_field u i) h f = (h.0, stronger u h.1 f)
    stronger (some_made u) h f = stronger u h f
    stronger (some_part u) h f = (f u (inl refl), stronger u h.1 (λ s i. f s (inr i)))
    stronger (tuple_part u i) h f = stronger u h f
    stronger _ h f = tt

    pub all_stronger : (us : SiteTerms) → AllGatesDemanded false true cs calls us → ((s : SiteTerm) → In (unwraps_all us) s → Contains cs (s, is_present)) → AllGatesDemanded true true cs calls us
    all_stronger no_site_term h f = tt
    all_stronger (site_term_and u us) h f =
        (stronger u h.0 (λ s i. f s (in_left (unwraps u) (unwraps_all us) s i)), all_stronger us h.1 (λ s i. f s (in_right (unwraps u) (unwraps_all us) s i)))

  -- so may the calls that it unwraps
  mutual
    pub unwrapped : (u s : SiteTerm) → GatesDemanded true true cs calls u → In (unwraps u) s → GatesDemanded true true cs calls s
    unwrapped (extractor_call t u) s h i = unwrapped u s h i
    unwrapped (constructor_call t args n) s h i = all_unwrapped args s h.1 i
    unwrapped (pick_of u) s h i = unwrapped u s h.1 i
    unwrapped (variant_made ty variant fields) s h i = all_unwrapped fields s h i
    unwrapped (variant_field u variant f) s h i = unwrapped u s h.1 i
    unwrapped (struct_made ty fields) s h i = all_unwrapped fields s h i
    unwrapped (struct_field u f) s h i = unwrapped u s h.1 i
    unwrapped (some_made u) s h i = unwrapped u s h i
    unwrapped (some_part u) s h (inl e) = subst (GatesDemanded true true cs calls) e h.1
    unwrapped (some_part u) s h (inr i) = unwrapped u s h.1 i
    unwrapped (tuple_part u f) s h i = unwrapped u s h i
    unwrapped _ s h i = absurd i

    pub all_unwrapped : (us : SiteTerms) (s : SiteTerm) → AllGatesDemanded true true cs calls us → In (unwraps_all us) s → GatesDemanded true true cs calls s
    all_unwrapped no_site_term s h i = absurd i
    all_unwrapped (site_term_and u us) s h i = grind (arith, common_steps, unwrapped u s h.0, all_unwrapped us s h.1, in_either)

  -- and the multi calls that it takes answers of
  mutual
    pub gates_of_taken : (asked pure : Bool) (u s : SiteTerm) → GatesDemanded asked pure cs calls u → In (calls_in u) s → GatesDemanded asked pure cs calls s
    gates_of_taken a p (extractor_call t u) s h i = gates_of_taken a p u s h i
    gates_of_taken a p (constructor_call t args n) s h i = all_gates_of_taken a p args s h.1 i
    gates_of_taken a p (pick_of u) s h (inl e) = subst (GatesDemanded a p cs calls) e h.1
    gates_of_taken a p (pick_of u) s h (inr i) = gates_of_taken a p u s h.1 i
    gates_of_taken a p (variant_made ty variant fields) s h i = all_gates_of_taken a p fields s h i
    gates_of_taken a p (variant_field u variant f) s h i = gates_of_taken a p u s h.1 i
    gates_of_taken a p (struct_made ty fields) s h i = all_gates_of_taken a p fields s h i
    gates_of_taken a p (struct_field u f) s h i = gates_of_taken a p u s h.1 i
    gates_of_taken a p (some_made u) s h i = gates_of_taken a p u s h i
    gates_of_taken a p (some_part u) s h i = gates_of_taken a p u s h.1 i
    gates_of_taken a p (tuple_part u f) s h i = gates_of_taken a p u s h i
    gates_of_taken a p _ s h i = absurd i

    pub all_gates_of_taken : (asked pure : Bool) (us : SiteTerms) (s : SiteTerm) → AllGatesDemanded asked pure cs calls us → In (calls_in_all us) s → GatesDemanded asked pure cs calls s
    all_gates_of_taken a p no_site_term s h i = absurd i
    all_gates_of_taken a p (site_term_and u us) s h i = grind (arith, common_steps, gates_of_taken a p u s h.0, all_gates_of_taken a p us s h.1, in_either)
