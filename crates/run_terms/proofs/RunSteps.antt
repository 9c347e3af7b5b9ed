-- A run's steps, by their views.
use Rattle.std.proofs.Common.{◌≡◌, ℕ, Bool, true, false, ◌+◌, ◌<◌, ◌≤◌, if◌then◌else◌, List, [], ◌∷◌, ◌++◌, length, get_or, drop, Option, Some, None, slice_get, refl, sym, ap, ◌∙◌}
use Rattle.std.proofs.lemmas.Bool.{false≢true}
use Rattle.std.proofs.lemmas.List.{at_drop_more, at_drop_all}
use Rattle.model.specs.rules.Meaning as M
use Rattle.model.specs.rules.Values as Values
use Rattle.model.specs.rules.Outcome as O
use Rattle.model.specs.rules.Outcome.{Outcome, then_option}
use Rattle.model.specs.trees.Trees.{Tree, step, Check, match_at, equal_at, loop_at, return_at, Arms, arm}
use Rattle.model.specs.trees.Run.{Env, Trace, all_bound, unwrap_failed, no_content_there, ending_at, with_calls, on_bound, on_ending, or_next, with_env, with_content, on_met, on_equal, for_each, on_many, iterated, returned, bind_fields, World, used, used_value, bind_all, content_fields, run_tree, run_check, run_arms}
use Rattle.core_serialize.specs.declared.serialize.EvalStep.{EvalStep}
use Rattle.core_serialize.specs.declared.serialize.MatchArm.{MatchArm, out-MatchArm, roll-out-MatchArm}
use Rattle.core_serialize.specs.TreeViews.{tree_view, check_view, arm_view, steps_view, arms_view}
use Rattle.core_serialize.proofs.TreeLaws.{arm_seen}
use Rattle.core_rule_sets.specs.SiteViews.{constraint_view}
use Rattle.run_terms.specs.declared.values.Content.{Content}
use Rattle.run_terms.specs.declared.state.Ending as E
use Rattle.run_terms.specs.declared.state.Ending.TheVariants.{Ended, Failed, RanThrough, Stuck}
use Rattle.run_terms.specs.declared.state.Trace as T
use Rattle.run_terms.specs.RunViews.{content_list, ending_view, is_through, outcome_at, trace_view, equality_by, many_by}
use Rattle.run_terms.specs.ValueViews.{content_view}

-- 1. how steps end
pub through : (e : E.Ending) (t : Trace) (go : Trace → Outcome) → is_through e ≡ true → on_ending (ending_view e) t go ≡ go t
through Ended t go h = absurd (false≢true h)
through Failed t go h = absurd (false≢true h)
through RanThrough t go h = refl
through Stuck t go h = absurd (false≢true h)

pub over : (e : E.Ending) (t : Trace) (go : Trace → Outcome) → is_through e ≡ false → on_ending (ending_view e) t go ≡ ending_at (ending_view e) t
over Ended t go h = refl
over Failed t go h = refl
over RanThrough t go h = absurd (false≢true (sym h))
over Stuck t go h = refl

-- 2. steps
abbrev pub step_view : EvalStep → Tree → Tree
step_view s rest = step s.bind_order.items (check_view s.check) rest

module _ (w : World) where
  pub step_through : (binds : List ℕ) (check : Check) (env env' : Env) (t : Trace) (calls' : List O.Call) (e : E.Ending) (t' : T.Trace) → all_bound env' calls' ≡ bind_all w env t.calls binds
      → outcome_at e t' ≡ run_check check w env' (with_calls t calls')
      → (rest : Tree) → on_ending (ending_view e) (trace_view t') (run_tree rest w env') ≡ run_tree (step binds check rest) w env t
  step_through binds check env env' t calls' e t' b o rest =
      ap (λ z. or_next z (run_tree rest w env')) o
      ∙ ap (λ z. on_bound z t (λ env'' t''. or_next (run_check check w env'' t'') (run_tree rest w env''))) b

  pub step_failed : (binds : List ℕ) (check : Check) (env : Env) (t : Trace) (calls' : List O.Call) → unwrap_failed calls' ≡ bind_all w env t.calls binds
      → (rest : Tree) → ending_at O.failed (with_calls t calls') ≡ run_tree (step binds check rest) w env t
  step_failed binds check env t calls' b rest =
      ap (λ z. on_bound z t (λ env'' t''. or_next (run_check check w env'' t'') (run_tree rest w env''))) b

  pub step_stuck : (binds : List ℕ) (check : Check) (env : Env) (t : Trace) (calls' : List O.Call) → no_content_there calls' ≡ bind_all w env t.calls binds
      → (rest : Tree) → ending_at O.stuck (with_calls t calls') ≡ run_tree (step binds check rest) w env t
  step_stuck binds check env t calls' b rest =
      ap (λ z. on_bound z t (λ env'' t''. or_next (run_check check w env'' t'') (run_tree rest w env''))) b

  next_step : (ss : List EvalStep) (i : ℕ) (s : EvalStep) (env : Env) (t : Trace) → i < length ss → s ≡ get_or ss i s → run_tree (steps_view (drop i ss)) w env t ≡ run_tree (step_view s (steps_view (drop (i + 1) ss))) w env t
  next_step ss i s env t h at =
      ap (λ l. run_tree l w env t) (at_drop_more steps_view ss i s h) ∙ ap (λ x. run_tree (step_view x (steps_view (drop (i + 1) ss))) w env t) (sym at)

  pub block_more : (ss : List EvalStep) (i : ℕ) (s : EvalStep) (env env' : Env) (t t' : Trace) (e : E.Ending) (whole : Outcome) → i < length ss → s ≡ get_or ss i s
      → ((rest : Tree) → on_ending (ending_view e) t' (run_tree rest w env') ≡ run_tree (step_view s rest) w env t) → is_through e ≡ true
      → run_tree (steps_view (drop i ss)) w env t ≡ whole → run_tree (steps_view (drop (i + 1) ss)) w env' t' ≡ whole
  block_more ss i s env env' t t' e whole h at ran on inv =
      sym (through e t' (run_tree (steps_view (drop (i + 1) ss)) w env') on) ∙ ran (steps_view (drop (i + 1) ss)) ∙ sym (next_step ss i s env t h at) ∙ inv

  pub block_over : (ss : List EvalStep) (i : ℕ) (s : EvalStep) (env env' : Env) (t t' : Trace) (e : E.Ending) (whole : Outcome) → i < length ss → s ≡ get_or ss i s
      → ((rest : Tree) → on_ending (ending_view e) t' (run_tree rest w env') ≡ run_tree (step_view s rest) w env t) → is_through e ≡ false
      → run_tree (steps_view (drop i ss)) w env t ≡ whole → ending_at (ending_view e) t' ≡ whole
  block_over ss i s env env' t t' e whole h at ran off inv =
      sym (over e t' (run_tree (steps_view (drop (i + 1) ss)) w env') off) ∙ ran (steps_view (drop (i + 1) ss)) ∙ sym (next_step ss i s env t h at) ∙ inv

  pub block_done : (ss : List EvalStep) (i : ℕ) (env : Env) (t : Trace) (whole : Outcome) → length ss ≤ i → run_tree (steps_view (drop i ss)) w env t ≡ whole → ending_at O.ran_through t ≡ whole
  block_done ss i env t whole h inv = ap (λ l. run_tree l w env t) (sym (at_drop_all steps_view ss i h)) ∙ inv

  -- 3. arms
  arm_is : (a : MatchArm) (rest : Arms) → arm_view a rest ≡ arm (constraint_view (out-MatchArm a).constraint) (out-MatchArm a).bindings.items (tree_view (out-MatchArm a).body) rest
  arm_is a rest = ap (λ (x : MatchArm). arm_view x rest) (sym (roll-out-MatchArm a)) ∙ arm_seen (out-MatchArm a).constraint (out-MatchArm a).bindings (out-MatchArm a).body rest

  next_arm : (arms : List MatchArm) (i : ℕ) (a : MatchArm) (c : M.Content) (env : Env) (t : Trace) → i < length arms → a ≡ get_or arms i a
      → run_arms (arms_view (drop i arms)) w c env t
      ≡ on_met (content_fields w.meaning (constraint_view (out-MatchArm a).constraint) c) (out-MatchArm a).bindings.items env t (λ env'. run_tree (tree_view (out-MatchArm a).body) w env' t) (run_arms (arms_view (drop (i + 1) arms)) w c env t)
  next_arm arms i a c env t h at =
      ap (λ l. run_arms l w c env t) (at_drop_more arms_view arms i a h ∙ ap (λ x. arm_view x (arms_view (drop (i + 1) arms))) (sym at) ∙ arm_is a (arms_view (drop (i + 1) arms)))

  pub arms_more : (arms : List MatchArm) (i : ℕ) (a : MatchArm) (c : M.Content) (env : Env) (t : Trace) (whole : Outcome) → i < length arms → a ≡ get_or arms i a
      → None ≡ content_fields w.meaning (constraint_view (out-MatchArm a).constraint) c
      → run_arms (arms_view (drop i arms)) w c env t ≡ whole → run_arms (arms_view (drop (i + 1) arms)) w c env t ≡ whole
  arms_more arms i a c env t whole h at none inv =
      ap (λ o. on_met o (out-MatchArm a).bindings.items env t (λ env'. run_tree (tree_view (out-MatchArm a).body) w env' t) (run_arms (arms_view (drop (i + 1) arms)) w c env t)) none
      ∙ sym (next_arm arms i a c env t h at) ∙ inv

  pub arms_met : (arms : List MatchArm) (i : ℕ) (a : MatchArm) (c : M.Content) (cs : List M.Content) (env : Env) (t : Trace) (o whole : Outcome) → i < length arms → a ≡ get_or arms i a
      → Some cs ≡ content_fields w.meaning (constraint_view (out-MatchArm a).constraint) c
      → o ≡ with_env (bind_fields (out-MatchArm a).bindings.items cs env) t (λ env'. run_tree (tree_view (out-MatchArm a).body) w env' t)
      → run_arms (arms_view (drop i arms)) w c env t ≡ whole → o ≡ whole
  arms_met arms i a c cs env t o whole h at some is inv =
      is ∙ ap (λ q. on_met q (out-MatchArm a).bindings.items env t (λ env'. run_tree (tree_view (out-MatchArm a).body) w env' t) (run_arms (arms_view (drop (i + 1) arms)) w c env t)) some
      ∙ sym (next_arm arms i a c env t h at) ∙ inv

  pub arms_done : (arms : List MatchArm) (i : ℕ) (c : M.Content) (env : Env) (t : Trace) (whole : Outcome) → length arms ≤ i → run_arms (arms_view (drop i arms)) w c env t ≡ whole → ending_at O.ran_through t ≡ whole
  arms_done arms i c env t whole h inv = ap (λ l. run_arms l w c env t) (sym (at_drop_all arms_view arms i h)) ∙ inv

  -- 4. tests
  pub match_ran : (source : ℕ) (arms : Arms) (c : M.Content) (env : Env) (t : Trace) (o : Outcome) → Some c ≡ used w env source → o ≡ run_arms arms w c env t → o ≡ run_check (match_at source arms) w env t
  match_ran source arms c env t o there is = is ∙ ap (λ q. with_content q t (λ d. run_arms arms w d env t)) there

  pub match_stuck : (source : ℕ) (arms : Arms) (env : Env) (t : Trace) → None ≡ used w env source → ending_at O.stuck t ≡ run_check (match_at source arms) w env t
  match_stuck source arms env t none = ap (λ q. with_content q t (λ d. run_arms arms w d env t)) none

  abbrev on_test : Option Bool → Trace → Outcome → Outcome
  on_test None t body = ending_at O.stuck t
  on_test (Some true) t body = body
  on_test (Some false) t body = ending_at O.ran_through t

  test_is : (b : Bool) (t : Trace) (body : Outcome) → on_test (Some b) t body ≡ (if b then body else ending_at O.ran_through t)
  test_is true t body = refl
  test_is false t body = refl

  tested : (o q : Option Values.Value) (t : Trace) (body : Outcome) → on_test (equality_by o q) t body ≡ on_equal o q t body
  tested None q t body = refl
  tested (Some v) None t body = refl
  tested (Some v) (Some u) t body = test_is (Values.value_eq v u) t body

  pub equal_ran : (a b : ℕ) (body : Tree) (env : Env) (t : Trace) (o : Outcome) (q : Option Bool) → q ≡ equality_by (used_value w env a) (used_value w env b) → o ≡ on_test q t (run_tree body w env t) → o ≡ run_check (equal_at a b body) w env t
  equal_ran a b body env t o q e is =
      is ∙ ap (λ z. on_test z t (run_tree body w env t)) e ∙ tested (used_value w env a) (used_value w env b) t (run_tree body w env t)

  pub return_ran : (at : _) (result : ℕ) (env : Env) (t : Trace) (o : Outcome) → o ≡ with_content (used w env result) t (returned w.multi t) → o ≡ run_check (return_at at result) w env t
  return_ran at result env t o is = is

  -- 5. loops
  abbrev on_answers : Option (List M.Content) → (M.Content → Trace → Outcome) → Trace → Outcome
  on_answers None go t = ending_at O.stuck t
  on_answers (Some cs) go t = for_each cs go t

  many_is : (o : Option M.Content) (go : M.Content → Trace → Outcome) (t : Trace) → on_answers (many_by o) go t ≡ on_many o go t
  many_is None go t = refl
  many_is (Some (M.one v)) go t = refl
  many_is (Some (M.parts vs)) go t = refl
  many_is (Some M.nothing) go t = refl
  many_is (Some (M.just c)) go t = refl
  many_is (Some (M.many cs)) go t = refl

  pub loop_ran : (result : ℕ) (body : Tree) (env : Env) (t : Trace) (o : Outcome) (q : Option (List M.Content)) → q ≡ many_by (then_option (then_option (slice_get w.sites result) iterated) (used w env))
      → o ≡ on_answers q (λ c t'. run_tree body w ((result, c) ∷ env) t') t → o ≡ run_check (loop_at result body) w env t
  loop_ran result body env t o q e is =
      is ∙ ap (λ z. on_answers z (λ c t'. run_tree body w ((result, c) ∷ env) t') t) e
      ∙ many_is (then_option (then_option (slice_get w.sites result) iterated) (used w env)) (λ c t'. run_tree body w ((result, c) ∷ env) t') t

abbrev each : List Content → (M.Content → Trace → Outcome) → Trace → Outcome
each cs go t = for_each (content_list cs) go t

pub each_more : (cs : List Content) (i : ℕ) (c : Content) (go : M.Content → Trace → Outcome) (t : Trace) (t' : T.Trace) (e : E.Ending) (whole : Outcome) → i < length cs → c ≡ get_or cs i c → outcome_at e t' ≡ go (content_view c) t → is_through e ≡ true
    → for_each (content_list (drop i cs)) go t ≡ whole → for_each (content_list (drop (i + 1) cs)) go (trace_view t') ≡ whole
each_more cs i c go t t' e whole h at is on inv =
    sym (through e (trace_view t') (for_each (content_list (drop (i + 1) cs)) go) on) ∙ ap (λ z. or_next z (for_each (content_list (drop (i + 1) cs)) go)) is
    ∙ ap (λ x. or_next (go (content_view x) t) (for_each (content_list (drop (i + 1) cs)) go)) at
    ∙ sym (at_drop_more (λ l. for_each (content_list l) go t) cs i c h) ∙ inv

pub each_over : (cs : List Content) (i : ℕ) (c : Content) (go : M.Content → Trace → Outcome) (t : Trace) (t' : T.Trace) (e : E.Ending) (whole : Outcome) → i < length cs → c ≡ get_or cs i c → outcome_at e t' ≡ go (content_view c) t → is_through e ≡ false
    → for_each (content_list (drop i cs)) go t ≡ whole → outcome_at e t' ≡ whole
each_over cs i c go t t' e whole h at is off inv =
    sym (over e (trace_view t') (for_each (content_list (drop (i + 1) cs)) go) off) ∙ ap (λ z. or_next z (for_each (content_list (drop (i + 1) cs)) go)) is
    ∙ ap (λ x. or_next (go (content_view x) t) (for_each (content_list (drop (i + 1) cs)) go)) at
    ∙ sym (at_drop_more (λ l. for_each (content_list l) go t) cs i c h) ∙ inv

pub each_done : (cs : List Content) (i : ℕ) (go : M.Content → Trace → Outcome) (t : Trace) (whole : Outcome) → length cs ≤ i → for_each (content_list (drop i cs)) go t ≡ whole → ending_at O.ran_through t ≡ whole
each_done cs i go t whole h inv = sym (at_drop_all (λ l. for_each (content_list l) go t) cs i h) ∙ inv
