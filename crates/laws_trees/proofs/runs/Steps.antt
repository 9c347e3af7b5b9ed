-- One step of a run at a place of a sound tree: what it comes to, and where the run stands then.
use Rattle.std.proofs.Common.{◌≡◌, ◌⊎◌, ℕ, List, [], ◌∷◌, Option, Some, None, is_some, slice_get, Contains, IsTrue, refl, sym, ap, ap₂, ◌∙◌, subst, inl, inr, true, arith}
use Rattle.std.proofs.lemmas.Bool.{both_ways}
use Rattle.std.proofs.lemmas.Grind.{common_steps}
use Rattle.model.specs.rules.Values.{Value, value_eq}
use Rattle.model.specs.rules.Meaning.{Content, one, many, Contents, contents}
use Rattle.model.specs.rules.Outcome.{Outcome, ran_through, then_option}
use Rattle.model.specs.rules.Picks.{Pick}
use Rattle.model.specs.sites.Sites.{iterator_site, Constraint, SetRule}
use Rattle.model.specs.trees.Trees.{Tree, step, Check, match_at, equal_at, loop_at, Arms, arm}
use Rattle.model.specs.trees.Places.{Around, joins_in, available, all_below, fields_of, field_sites, bind_order, in_arm}
use Rattle.model.specs.trees.Run.{World, Env, used, as_value, bind_all, all_bound, Trace, content_fields, on_met, on_equal, on_many, iterated, with_env, with_content, on_bound, ending_at, or_next, for_each, run_tree, run_check, run_arms}
use Rattle.model.specs.trees.Collects.{content_at, meets, IsPureAt}
use Rattle.model.proofs.ValuesEqual.{eq_means, eq_same}
use Rattle.model.proofs.Members.{in_head, in_tail, in_cases, in_alone}
use Rattle.model.proofs.Numbers.{in_first}
use Rattle.laws_trees.proofs.runs.Below.{all_below_itself}
use Rattle.laws_trees.proofs.runs.RuleDemands.{joined_back}
use Rattle.laws_trees.proofs.runs.Fields.{FieldsHold, fields_hold, fields_bound, fields_pure}
use Rattle.laws_trees.proofs.runs.RunPlaces.{ClearWorld, Kept, At, Place, IsReady, wider, set_in}
use Rattle.laws_trees.proofs.runs.AvailableSites.{found_at, binds_at}
use Rattle.laws_trees.proofs.runs.PickedPlaces.{at_arm}

-- where a run stands that made no impure call
abbrev pub trace : List Content → Trace
trace done = record { calls = []; results = done }

-- a step whose sites are bound
pub step_runs : (w : World) (binds : List ℕ) (check : Check) (rest : Tree) (env env' : Env) (done : List Content) → bind_all w env [] binds ≡ all_bound env' []
    → run_tree (step binds check rest) w env (trace done) ≡ or_next (run_check check w env' (trace done)) (run_tree rest w env')
step_runs w binds check rest env env' done h = ap (λ b. on_bound b (trace done) (λ env'' t. or_next (run_check check w env'' t) (run_tree rest w env''))) h

-- two values are one, or an equality goes on without its body
pub values_cases : (u v : Value)
    → (((o : Option Content) → o ≡ Some (one v) → o ≡ Some (one u)) × ((t : Trace) (body : Outcome) → on_equal (Some u) (Some v) t body ≡ body)) ⊎ ((u ≡ v → ⊥) × ((t : Trace) (body : Outcome) → on_equal (Some u) (Some v) t body ≡ ending_at ran_through t))
values_cases u v = grind (arith, common_steps, eq_means u v, both_ways (value_eq u v), eq_same u)

pub fields_cases : (o : Option (List Content)) → ((cs : List Content) × (o ≡ Some cs)) ⊎ (o ≡ None)
fields_cases None = inr refl
fields_cases (Some cs) = inl (cs, refl)

-- a run with more results before it goes on alike
abbrev RunsAs : (Trace → Outcome) → (Trace → Outcome) → Type 0
RunsAs run go = (done : List Content) → run (trace done) ≡ go (trace done)

module _ (clear : ClearWorld) (place : Place clear) where
  -- 1. a match of an available site
  pub match_step : (binds : List ℕ) (source : ℕ) (arms : Arms) (rest : Tree) → binds ≡ bind_order clear.world.sites place.around (source ∷ []) → IsReady clear.world.sites place.around source
      → (x : Content) × (env' : Env) × (content_at clear.world place.pick source ≡ Some x) × At clear (wider clear.world.sites place.around (source ∷ [])) place.pick env'
      × RunsAs (run_tree (step binds (match_at source arms) rest) clear.world place.env) (λ t. or_next (run_arms arms clear.world x env' t) (run_tree rest clear.world env'))
  match_step binds source arms rest same ready =
      let x = found_at clear place source ready in
      let b = binds_at clear place (source ∷ []) (λ s c. subst (IsReady clear.world.sites place.around) (in_alone source s c) ready) in (
        x.0,
        b.0,
        x.1,
        b.2,
        λ done.
            step_runs clear.world binds (match_at source arms) rest place.env b.0 done (ap (bind_all clear.world place.env []) same ∙ b.1)
            ∙ ap (λ o. or_next (with_content o (trace done) (λ c. run_arms arms clear.world c b.0 (trace done))) (run_tree rest clear.world b.0)) (b.3 source (in_head source []) ∙ x.1),
      )

  -- 2. an equality of available sites
  pub equal_step : (binds : List ℕ) (a b : ℕ) (body rest : Tree) (r : SetRule) → Contains clear.rules r → IsTrue (joins_in r.classes a b)
      → binds ≡ bind_order clear.world.sites place.around (a ∷ (b ∷ [])) → IsReady clear.world.sites place.around a → IsReady clear.world.sites place.around b
      → (u : Value) × (v : Value) × (env' : Env) × (content_at clear.world place.pick a ≡ Some (one u)) × (content_at clear.world place.pick b ≡ Some (one v)) × At clear (wider clear.world.sites place.around (a ∷ (b ∷ []))) place.pick env'
      × RunsAs (run_tree (step binds (equal_at a b body) rest) clear.world place.env) (λ t. or_next (on_equal (Some u) (Some v) t (run_tree body clear.world env' t)) (run_tree rest clear.world env'))
  equal_step binds a b body rest r known join same ready_a ready_b =
      let x = found_at clear place a ready_a in
      let y = found_at clear place b ready_b in
      let u = place.at.picked.served.values r a b x.0 known join x.1 in
      let v = place.at.picked.served.values r b a y.0 known (joined_back r.classes a b join) y.1 in
      let e = x.1 ∙ ap Some u.1 in
      let f = y.1 ∙ ap Some v.1 in
      let m = binds_at clear place (a ∷ (b ∷ []))
      (λ s c. elim (in_cases a s (b ∷ []) c) [ inl e ↦ subst (IsReady clear.world.sites place.around) e ready_a | inr d ↦ subst (IsReady clear.world.sites place.around) (in_alone b s d) ready_b ]) in (
        u.0,
        v.0,
        m.0,
        e,
        f,
        m.2,
        λ done.
            step_runs clear.world binds (equal_at a b body) rest place.env m.0 done (ap (bind_all clear.world place.env []) same ∙ m.1)
            ∙ ap₂ (λ s t. or_next (on_equal (then_option s as_value) (then_option t as_value) (trace done) (run_tree body clear.world m.0 (trace done))) (run_tree rest clear.world m.0))
            (m.3 a (in_head a (b ∷ [])) ∙ e) (m.3 b (in_tail a b (b ∷ []) (in_head b [])) ∙ f),
      )

  -- 3. a loop over an available call of some rule
  pub loop_step : (binds : List ℕ) (result source : ℕ) (body rest : Tree) (r : SetRule) → Contains clear.rules r → Contains r.iterators source → slice_get clear.world.sites result ≡ Some (iterator_site source)
      → binds ≡ bind_order clear.world.sites place.around (source ∷ []) → IsTrue (available clear.world.sites place.around source)
      → (cs : Contents) × (env' : Env) × (content_at clear.world place.pick source ≡ Some (many cs)) × At clear (wider clear.world.sites place.around (source ∷ [])) place.pick env'
      × RunsAs (run_tree (step binds (loop_at result body) rest) clear.world place.env) (λ t. or_next (for_each (contents cs) (λ c t'. run_tree body clear.world ((result, c) ∷ env') t') t) (run_tree rest clear.world env'))
  loop_step binds result source body rest r known over site same avail =
      let ready : IsReady clear.world.sites place.around source = record { available = avail; pure = (clear.gone_over r known source over).pure } in
      let x = found_at clear place source ready in
      let l = place.at.picked.served.lists r source x.0 known over x.1 in
      let e = x.1 ∙ ap Some l.1 in
      let b = binds_at clear place (source ∷ []) (λ s c. subst (IsReady clear.world.sites place.around) (in_alone source s c) ready) in (
        l.0,
        b.0,
        e,
        b.2,
        λ done.
            step_runs clear.world binds (loop_at result body) rest place.env b.0 done (ap (bind_all clear.world place.env []) same ∙ b.1)
            ∙ ap (λ o. or_next (on_many (then_option (then_option o iterated) (used clear.world b.0)) (λ c t. run_tree body clear.world ((result, c) ∷ b.0) t) (trace done)) (run_tree rest clear.world b.0)) site
            ∙ ap (λ o. or_next (on_many o (λ c t. run_tree body clear.world ((result, c) ∷ b.0) t) (trace done)) (run_tree rest clear.world b.0)) (b.3 source (in_head source []) ∙ e),
      )

module _ (clear : ClearWorld) where
  -- 4. an arm that is met, of a constraint that some rule asks for, and one that isn't
  pub arm_step : (ar : Around) (pick : Pick) (env : Env) (s : ℕ) (c : Constraint) (fields : List (Option ℕ)) (body : Tree) (rest : Arms) (x : Content) (cs : List Content) (r : SetRule)
      → At clear (wider clear.world.sites ar (s ∷ [])) pick env
      → Contains clear.rules r → Contains r.constraints (s, c) → fields ≡ fields_of clear.world.sites s c → content_at clear.world pick s ≡ Some x → content_fields clear.world.meaning c x ≡ Some cs
      → (env' : Env) × At clear (in_arm (set_in clear) ar s c fields) pick env' × RunsAs (run_arms (arm c fields body rest) clear.world x env) (run_tree body clear.world env')
  arm_step ar pick env s c fields body rest x cs r at known asks same e met =
      let hold = fields_hold clear.world pick clear.sources s c x cs e met (at.picked.served.fields r s c x cs known asks e met) in
      let kept : Kept (wider clear.world.sites ar (s ∷ [])) at.calls s = inl (in_first s (all_below clear.world.sites (s ∷ [])) ar.emitted (all_below_itself clear.world.sites (s ∷ []) s (in_head s []))) in
      let b = fields_bound clear.world pick clear.sources s fields cs env (Kept (wider clear.world.sites ar (s ∷ [])) at.calls) at.held kept (subst (λ l. FieldsHold clear.world pick clear.sources s l cs) (sym same) hold) in
      let fine = subst (λ l. (t : ℕ) → Contains (field_sites l) t → IsPureAt clear.world.sites t) (sym same) (fields_pure clear.world pick clear.sources s (fields_of clear.world.sites s c) cs hold) in
      let passes : meets clear.world.meaning c (content_at clear.world pick s) ≡ true = ap (meets clear.world.meaning c) e ∙ ap is_some met in (
        b.0,
        at_arm clear ar s c fields pick env b.0 at same passes fine b.2,
        λ done.
            ap (λ o. on_met o fields env (trace done) (λ e. run_tree body clear.world e (trace done)) (run_arms rest clear.world x env (trace done))) met
            ∙ ap (λ o. with_env o (trace done) (λ e. run_tree body clear.world e (trace done))) b.1,
      )

  pub arm_unmet : (env : Env) (c : Constraint) (fields : List (Option ℕ)) (body : Tree) (rest : Arms) (x : Content) → content_fields clear.world.meaning c x ≡ None
      → RunsAs (run_arms (arm c fields body rest) clear.world x env) (run_arms rest clear.world x env)
  arm_unmet env c fields body rest x unmet done = grind (arith, common_steps)
