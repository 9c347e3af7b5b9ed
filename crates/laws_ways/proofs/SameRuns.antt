-- Runs whose steps run alike.
use Rattle.std.proofs.Common.{◌≡◌, ℕ, Bool, false, List, [], ◌∷◌, Option, refl, ap, ◌∙◌, arith}
use Rattle.std.proofs.lemmas.Grind.{common_steps}
use Rattle.model.specs.rules.Meaning.{Content}
use Rattle.model.specs.rules.Outcome.{Ending, Outcome}
use Rattle.model.specs.trees.Run.{Env, Bound, Trace, on_bound, on_ending, or_next, with_content, on_met, for_each, on_many, returned}

pub bound_same : (b : Bound) (t : Trace) (go go' : Env → Trace → Outcome) → ((env : Env) (t' : Trace) → go env t' ≡ go' env t') → on_bound b t go ≡ on_bound b t go'
bound_same b t go go' h = grind (arith, common_steps)

ending_same : (e : Ending) (t : Trace) (go go' : Trace → Outcome) → ((t' : Trace) → go t' ≡ go' t') → on_ending e t go ≡ on_ending e t go'
ending_same e t go go' h = grind (arith, common_steps)

pub next_same : (o o' : Outcome) (go go' : Trace → Outcome) → o ≡ o' → ((t : Trace) → go t ≡ go' t) → or_next o go ≡ or_next o' go'
next_same o o' go go' e h = ap (λ (x : Outcome). or_next x go) e ∙ ending_same o'.ending record { calls = o'.calls; results = o'.results } go go' h

pub content_same : (o : Option Content) (t : Trace) (go go' : Content → Outcome) → ((c : Content) → go c ≡ go' c) → with_content o t go ≡ with_content o t go'
content_same o t go go' h = grind (arith, common_steps)

pub met_same : (o : Option (List Content)) (fields : List (Option ℕ)) (env : Env) (t : Trace) (go go' : Env → Outcome) (other other' : Outcome)
    → ((env' : Env) → go env' ≡ go' env') → other ≡ other' → on_met o fields env t go other ≡ on_met o fields env t go' other'
met_same o fields env t go go' other other' h e = grind (arith, common_steps)

each_same : (cs : List Content) (go go' : Content → Trace → Outcome) → ((c : Content) (t : Trace) → go c t ≡ go' c t) → (t : Trace) → for_each cs go t ≡ for_each cs go' t
each_same [] go go' h t = refl
each_same (c ∷ cs) go go' h t = next_same (go c t) (go' c t) (for_each cs go) (for_each cs go') (h c t) (each_same cs go go' h)

pub many_same : (o : Option Content) (go go' : Content → Trace → Outcome) (t : Trace) → ((c : Content) (t' : Trace) → go c t' ≡ go' c t') → on_many o go t ≡ on_many o go' t
many_same o go go' t h = grind (arith, common_steps)

-- a return ends a run, whatever follows it
pub return_same : (multi : Bool) (o : Option Content) (t : Trace) (go go' : Trace → Outcome) → multi ≡ false
    → or_next (with_content o t (returned multi t)) go ≡ or_next (with_content o t (returned multi t)) go'
return_same multi o t go go' m = grind (arith, common_steps)
