-- A return, in a term that isn't multi: it ends the run, and takes its rule.
use Rattle.std.proofs.Common.{◌≡◌, ◌⊎◌, ℕ, suc, ◌<◌, false, List, [], ◌∷◌, ◌++◌, length, Option, Some, is_some, slice_get, Contains, IsTrue, refl, sym, ap, ◌∙◌, subst, inl, inr, arith}
use Rattle.std.proofs.lemmas.List.Elements.{Contains-append_right, All-contains}
use Rattle.std.proofs.lemmas.Grind.{common_steps}
use Rattle.model.specs.rules.Meaning.{Content}
use Rattle.model.specs.rules.Outcome.{Outcome}
use Rattle.model.specs.sites.Sites.{match_some_site, SetRule}
use Rattle.model.specs.sites.Gates.{gate_demanded}
use Rattle.model.specs.trees.Trees.{Tree, no_step, step, return_at}
use Rattle.model.specs.trees.Places.{is_in, waits, below, all_below, bind_order, return_uses}
use Rattle.model.specs.trees.Run.{World, Env, Bound, bind_all, Trace, at_start, on_bound, or_next, with_content, returned, run_tree, run_check}
use Rattle.model.specs.trees.Sound.{IsTested}
use Rattle.model.specs.trees.Collects.{IsPureAt}
use Rattle.model.specs.trees.SetRuns.{tested_sites, IsUnwrap, IsTestedRule, IsReachedUnder, IsTaken, IsTakenUnder}
use Rattle.model.proofs.Members.{in_alone, get_within, all_members, from_flat_map}
use Rattle.laws_trees.proofs.runs.Below.{below_within}
use Rattle.laws_trees.proofs.runs.Binding.{kept_below, reads}
use Rattle.laws_trees.proofs.runs.RunPlaces.{ClearWorld, IsGoneOver, Kept, Place}
use Rattle.laws_trees.proofs.runs.PickedPlaces.{gate_kept}

-- 1. a return ends a run
module _ (w : World) (single : w.multi ≡ false) where
  last_here : (o : Option Content) (t : Trace) (go : Trace → Outcome) → or_next (with_content o t (returned w.multi t)) go ≡ with_content o t (returned w.multi t)
  last_here o t go = grind (arith, common_steps)

  abbrev Returns : SetRule → Bound → Outcome
  Returns r b = on_bound b at_start (λ env t. run_check (return_at r.at r.result) w env t)

  return_last : (r : SetRule) (rest : Tree) (b : Bound) → on_bound b at_start (λ env t. or_next (run_check (return_at r.at r.result) w env t) (run_tree rest w env)) ≡ Returns r b
  return_last r rest b = grind (arith, common_steps, last_here)

  returns_end : (r : SetRule) (go : Trace → Outcome) (b : Bound) → or_next (Returns r b) go ≡ Returns r b
  returns_end r go b = grind (arith, common_steps, last_here)

  pub return_alone : (r : SetRule) (rest : Tree) (binds : List ℕ) (env : Env) → run_tree (step binds (return_at r.at r.result) rest) w env at_start ≡ run_tree (step binds (return_at r.at r.result) no_step) w env at_start
  return_alone r rest binds env = return_last r rest (bind_all w env [] binds) ∙ sym (return_last r no_step (bind_all w env [] binds))

  pub taken_ends : (r : SetRule) (o : Outcome) (go : Trace → Outcome) → IsTaken w r o → or_next o go ≡ o
  taken_ends r o go t = grind (arith, common_steps, return_last, returns_end)

-- 2. where no rule goes over a call and all that a rule demands was tested, the rule is taken
module _ (clear : ClearWorld) (no_calls : (s : ℕ) → IsGoneOver clear.rules s → ⊥) (place : Place clear) where
  emitted_here : (t : ℕ) → Kept place.around place.at.calls t → IsTrue (is_in t place.around.emitted)
  emitted_here t (inl i) = i
  emitted_here t (inr k) = absurd (no_calls t (place.at.picked.over t k))

  reached_at : IsReachedUnder clear.world place.pick place.around place.env
  reached_at = record {
    emitted = λ s i. let h = place.at.held.there s (inl i) in (ap is_some h.1, reads clear.world place.pick clear.sources place.env (Kept place.around place.at.calls) place.at.held s (inl i));
    pure = λ s i. all_members (IsPureAt clear.world.sites) (all_below clear.world.sites (s ∷ []))
        (λ u c.
        let r = from_flat_map (λ x. below (suc x) clear.world.sites x) (s ∷ []) u c in
        place.at.pure u (emitted_here u (kept_below clear.world place.pick place.env (Kept place.around place.at.calls) place.at.held (suc r.0) r.0 u (inl (subst (λ x. IsTrue (is_in x place.around.emitted)) (in_alone s r.0 r.1) i)) r.2)));
    bound = λ s c b. let r = place.at.held.right s c b in (emitted_here s r.0, r.1);
  }

  module _ (r : SetRule) (rule : IsTestedRule clear.world.sites r) (known : Contains clear.rules r) (all : IsTested place.around r) where
    result_site : (s : ℕ) → Contains (all_below clear.world.sites (return_uses (Some r))) s → s < length clear.world.sites
    result_site s c =
        let m = from_flat_map (λ x. below (suc x) clear.world.sites x) (return_uses (Some r)) s c in
        let l = All-contains (λ x. x < length clear.world.sites) (tested_sites r ++ return_uses (Some r)) m.0 rule.known (Contains-append_right (tested_sites r) (return_uses (Some r)) m.0 m.1) in
        let k = below_within clear.world.sites clear.sources (suc m.0) m.0 s m.2 in
        omega (arith, l, k)

    gates_here : (s : ℕ) → Contains (all_below clear.world.sites (return_uses (Some r))) s → (waits (slice_get clear.world.sites s) ≡ false) ⊎ (IsUnwrap (slice_get clear.world.sites s) ⊎ IsTrue (is_in s place.around.emitted))
    gates_here s c = grind (arith, common_steps, get_within, result_site, gate_kept)

    pub taken_here : clear.world.multi ≡ false → (rest : Tree)
        → IsTakenUnder clear.world place.pick r (run_tree (step (bind_order clear.world.sites place.around (return_uses (Some r))) (return_at r.at r.result) rest) clear.world place.env at_start)
    taken_here single rest = record {
      around = place.around;
      env = place.env;
      reached = reached_at;
      gates = gates_here;
      demanded = λ s source e c g. place.at.brought s (gate_kept clear place r known all s (match_some_site source) e refl (sym (ap (gate_demanded r) e) ∙ g));
      outcome = return_alone clear.world single r rest (bind_order clear.world.sites place.around (return_uses (Some r))) place.env;
    }
