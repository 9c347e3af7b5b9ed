-- In a best tree each site that is used was bound before, and none is bound twice in one scope but for the calls of loops.
use Rattle.std.proofs.Common.{◌≡◌, ℕ, Bool, true, false, not, ◌&&◌, cond, List, [], ◌∷◌, ◌++◌, Option, slice_get, Contains, refl, sym, subst, inl, inr, arith}
use Rattle.std.specs.List.{list_all}
use Rattle.std.proofs.lemmas.Bool.{and_parts, and_from, false≢true}
use Rattle.std.proofs.lemmas.Grind.{common_steps}
use Rattle.model.specs.sites.Sites.{Site, Constraint, sources_at}
use Rattle.model.specs.trees.Trees.{Tree, Marked, m_no_step, m_step, MarkedCheck, m_match, m_equal, m_loop, m_return, MarkedArms, m_no_arm, m_arm}
use Rattle.model.specs.trees.Places.{Around, nothing_around, is_in, available, uses, bind_order, return_uses, field_sites, in_arm, in_equal, in_loop, after_step}
use Rattle.model.specs.trees.Sound.{is_return}
use Rattle.model.specs.trees.Tests.{match_test, IsOpen, sources_around, is_at_hand}
use Rattle.model.specs.trees.Best.{BestSteps, BestArms, IsBestTree}
use Rattle.model.specs.claims.Layers.{gone_over, can_be_used, brings_new, binds_once, binds_before_use, binds_in_check, binds_in_arms, BindsBeforeUse}
use Rattle.model.proofs.Members.{nothing_in, in_cases, in_alone, all_pass}
use Rattle.laws_trees.proofs.runs.Below.{under}
use Rattle.laws_trees.proofs.JudgeExactness.{not_exact}
use Rattle.laws_trees.proofs.Passing.{sources_there}
use Rattle.laws_trees.proofs.binding.ScopedOrders.{binds_are_once, uses_are_bound}
use Rattle.laws_trees.proofs.binding.Scope.{Scoped, BindableSet, ScopeAt, ArmFields, LoopCall}
use Rattle.laws_trees.proofs.binding.Scopes.{Waiting, scoped_after, waiting_after, scoped_arm, waiting_arm, brings_new_fields, scoped_after_loop, scoped_loop, waiting_loop, waiting_after_loop, brings_new_result}

four : (a b c d : Bool) → a ≡ true → b ≡ true → c ≡ true → d ≡ true → (a && b && c && d) ≡ true
four a b c d h i j k = and_from (a && b && c) d (and_from (a && b) c (and_from a b h i) j) k

passed_by : (b x : Bool) → x ≡ true → cond b true x ≡ true
passed_by b x h = grind (arith, common_steps)

module _ (b : BindableSet) (multi : Bool) where
  abbrev sites : List Site
  sites = b.set.sites

  abbrev Binds : List ℕ → List ℕ → Marked → Type 0
  Binds again scope m = binds_before_use b.set multi again scope m ≡ true

  site_open : (ar : Around) (s : ℕ) → IsOpen b.set ar (match_test s) → (available sites ar s ≡ true) × (is_in s (sources_around ar) ≡ false)
  site_open ar s h = grind (arith, common_steps, and_parts, not_exact)

  alone_available : (ar : Around) (s : ℕ) → available sites ar s ≡ true → (x : ℕ) → Contains (s ∷ []) x → available sites ar x ≡ true
  alone_available ar s h x c = subst (λ y. available sites ar y ≡ true) (in_alone s x c) h

  pair_available : (ar : Around) (a c : ℕ) → available sites ar a ≡ true → available sites ar c ≡ true → (x : ℕ) → Contains (a ∷ (c ∷ [])) x → available sites ar x ≡ true
  pair_available ar a c h k x i = elim (in_cases a x (c ∷ []) i) [ inl e ↦ subst (λ y. available sites ar y ≡ true) e h | inr d ↦ alone_available ar c k x d ]

  -- a step whose bind order is that of what it uses binds it
  step_binds : (binds : List ℕ) (check : MarkedCheck) (rest : Marked) (ar : Around) (scope : ScopeAt b ar) → binds ≡ bind_order sites ar (uses b.set check)
      → binds_in_check b.set multi scope.again (bind_order sites ar (uses b.set check) ++ scope.sites) check ≡ true
      → cond (is_return check && not multi) true (binds_before_use b.set multi (gone_over b.set check ++ scope.again) (bind_order sites ar (uses b.set check) ++ scope.sites) rest) ≡ true
      → Binds scope.again scope.sites (m_step binds check rest)
  step_binds binds check rest ar scope same within after =
      let ss = uses b.set check in
      let inner = bind_order sites ar ss ++ scope.sites in
      subst (λ l. Binds scope.again scope.sites (m_step l check rest)) (sym same)
      (four (binds_once sites scope.again scope.sites (bind_order sites ar ss)) (list_all (can_be_used sites inner) ss) (binds_in_check b.set multi scope.again inner check)
      (cond (is_return check && not multi) true (binds_before_use b.set multi (gone_over b.set check ++ scope.again) inner rest))
      (binds_are_once b ar scope ss)
      (all_pass (can_be_used sites inner) ss (uses_are_bound b ar scope ss))
      within after)

  mutual
    steps_bind : (m : Marked) (ar : Around) (closing : Bool) (scope : ScopeAt b ar) → (closing ≡ false → Waiting sites ar scope.sites) → BestSteps b.set ar closing m → Binds scope.again scope.sites m
    steps_bind m_no_step ar closing scope wait best = refl
    steps_bind (m_step binds (m_match source arms) rest) ar closing scope wait best =
        let check = best.1 in
        let w = wait check.0 in
        let open_site = site_open ar source check.1.test.open_here in
        let ss = source ∷ [] in
        let avail = alone_available ar source open_site.0 in
        step_binds binds (m_match source arms) rest ar scope best.0
        (arms_bind arms ar source scope _ w open_site.0 open_site.1 check.2)
        (steps_bind rest (after_step b.set ar (m_match source arms)) false (record { again = scope.again; sites = bind_order sites ar ss ++ scope.sites; scoped = scoped_after b ar scope ss })
        (λ q. let u = waiting_after b ar scope ss w avail in record { brought = u.brought; sources = u.sources }) best.2)
    steps_bind (m_step binds (m_equal a c body) rest) ar closing scope wait best =
        let check = best.1 in
        let w = wait check.0 in
        let pair = and_parts _ _ check.1.test.open_here in
        let second = and_parts _ (is_at_hand b.set ar c) pair.0 in
        let first = and_parts _ (is_at_hand b.set ar a) second.0 in
        let ss = a ∷ (c ∷ []) in
        let avail = pair_available ar a c (and_parts _ (available sites ar a) first.1).1 (and_parts _ (available sites ar c) second.1).1 in
        let inner = bind_order sites ar ss ++ scope.sites in
        let after = scoped_after b ar scope ss in
        let u = waiting_after b ar scope ss w avail in
        step_binds binds (m_equal a c body) rest ar scope best.0
        (steps_bind body (in_equal b.set ar a c) false (record { again = scope.again; sites = inner; scoped = after }) (λ q. record { brought = u.brought; sources = u.sources }) check.2)
        (steps_bind rest (after_step b.set ar (m_equal a c body)) false (record { again = scope.again; sites = inner; scoped = after }) (λ q. record { brought = u.brought; sources = u.sources }) best.2)
    steps_bind (m_step binds (m_loop result body) rest) ar closing scope wait best =
        let check = best.1 in
        let w = wait check.0 in
        let source = check.1.0 in
        let loop : LoopCall sites = record { result = result; source = source; at = check.1.1 } in
        let free = site_open ar source check.1.2.test.open_here in
        let avail = alone_available ar source free.0 in
        let one = sources_there b.set result source loop.at in
        let ss = sources_at sites result in
        let inner = bind_order sites ar ss ++ scope.sites in
        step_binds binds (m_loop result body) rest ar scope best.0
        (and_from (brings_new inner (result ∷ [])) (binds_before_use b.set multi (ss ++ scope.again) (result ∷ inner) body)
        (subst (λ l. brings_new (bind_order sites ar l ++ scope.sites) (result ∷ []) ≡ true) (sym one) (brings_new_result b ar scope loop w avail free.1))
        (steps_bind body (in_loop b.set ar result) false
        (record {
          again = ss ++ scope.again;
          sites = result ∷ inner;
          scoped = subst (λ l. Scoped sites (result ∷ (under sites l ++ ar.emitted)) (l ++ scope.again) (result ∷ (bind_order sites ar l ++ scope.sites))) (sym one) (scoped_loop b ar scope loop);
        })
        (λ q. subst (λ l. Waiting sites (in_loop b.set ar result) (result ∷ (bind_order sites ar l ++ scope.sites))) (sym one) (waiting_loop b ar scope loop w avail))
        check.2))
        (steps_bind rest (after_step b.set ar (m_loop result body)) false
        (record {
          again = ss ++ scope.again;
          sites = inner;
          scoped = subst (λ l. Scoped sites (under sites l ++ ar.emitted) (l ++ scope.again) (bind_order sites ar l ++ scope.sites)) (sym one) (scoped_after_loop b ar scope loop);
        })
        (λ q. let u = subst (λ l. Waiting sites (record ar { emitted = under sites ss ++ ar.emitted }) (bind_order sites ar l ++ scope.sites)) (sym one) (waiting_after_loop b ar scope loop w avail) in
        record { brought = u.brought; sources = u.sources })
        best.2)
    steps_bind (m_step binds (m_return rule) rest) ar closing scope wait best =
        let ss = return_uses (slice_get b.set.rules rule) in
        let inner = bind_order sites ar ss ++ scope.sites in
        step_binds binds (m_return rule) rest ar scope best.0 refl
        (passed_by (not multi) (binds_before_use b.set multi scope.again inner rest)
        (steps_bind rest (after_step b.set ar (m_return rule)) true (record { again = scope.again; sites = inner; scoped = scoped_after b ar scope ss }) (λ q. absurd (false≢true (sym q))) best.2))

    arms_bind : (arms : MarkedArms) (ar : Around) (source : ℕ) (scope : ScopeAt b ar) (prior : Option Constraint) → Waiting sites ar scope.sites
        → available sites ar source ≡ true → is_in source (sources_around ar) ≡ false → BestArms b.set ar source prior arms
        → binds_in_arms b.set multi scope.again (bind_order sites ar (source ∷ []) ++ scope.sites) arms ≡ true
    arms_bind m_no_arm ar source scope prior w there free best = refl
    arms_bind (m_arm constraint fields body rest) ar source scope prior w there free best =
        let inner = bind_order sites ar (source ∷ []) ++ scope.sites in
        let avail = alone_available ar source there in
        let arm : ArmFields sites = record { source = source; constraint = constraint; fields = fields; exact = best.3 } in
        let new = brings_new inner (field_sites fields) in
        let within = binds_before_use b.set multi scope.again (field_sites fields ++ inner) body in
        and_from (new && within) (binds_in_arms b.set multi scope.again inner rest)
        (and_from new within
        (brings_new_fields b ar scope arm w avail free)
        (steps_bind body (in_arm b.set ar source constraint fields) false (record { again = scope.again; sites = field_sites fields ++ inner; scoped = scoped_arm b ar scope arm })
        (λ q. waiting_arm b ar scope arm w avail) best.4))
        (arms_bind rest ar source scope _ w there free best.5)

  pub best_tree_binds : (tree : Tree) → IsBestTree b.set tree → BindsBeforeUse b.set multi tree
  best_tree_binds tree best =
      record {
        marked = best.marked;
        returns = best.returns;
        bound =
            steps_bind best.marked nothing_around false
            (record { again = []; sites = []; scoped = record { bound = λ s u c k n. absurd (nothing_in s c); only = λ s c. absurd (nothing_in s c) } })
            (λ q. record { brought = λ x c. absurd (nothing_in x c); sources = λ x a c w k. absurd (nothing_in x c) })
            best.steps;
      }
