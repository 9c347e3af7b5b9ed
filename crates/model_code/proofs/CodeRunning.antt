-- The code of a tree runs as the tree, by induction on the tree.
use Rattle.std.proofs.Common.{◌≡◌, ℕ, suc, ◌&&◌, Bool, true, false, if◌then◌else◌, List, [], ◌∷◌, Option, Some, None, slice_get, refl, sym, ap, ◌∙◌, arith}
use Rattle.std.proofs.lemmas.Grind.{common_steps}
use Rattle.model.specs.rules.Values.{Value}
use Rattle.model.specs.rules.Meaning.{Content, many, contents}
use Rattle.model.specs.rules.Outcome.{Call, Outcome, then_option}
use Rattle.model.specs.sites.Sites.{Site, iterator_site}
use Rattle.model.specs.trees.Trees.{Tree, no_step, step, Check, match_at, equal_at, loop_at, return_at, Arms, no_arm, arm}
use Rattle.model.specs.trees.Places.{is_in_place}
use Rattle.model.specs.trees.Run.{World, Env, bound_to, as_value, used, used_value, used_values, Bound, all_bound, unwrap_failed, no_content_there, now_bound, bind_site, then_bind, bind_all, Trace, with_calls, on_bound, or_next, content_fields, bind_fields, on_met, on_equal, for_each, on_many, iterated, run_tree, run_check, run_arms, at_start}
use Rattle.model_code.specs.Code.{Block, statement}
use Rattle.model_code.specs.CodeRuns.{held, held_value, held_values, Flow, goes_on, then_flow, in_braces, flow_of_bound, where_met, where_equal, each_flow, on_answers, run_block, run_statement, run_code_arms, outcome_of}
use Rattle.model_code.specs.TreeCode.{Taker, to_compare, Passes, place_of, use_at, arguments_from, fields_of, bind_code, binds_code, loop_code, tree_code, check_code, arms_code}
use Rattle.model_code.specs.CodeLaws.{not_in_place, none_in_place, no_field_in_place, binds_none_in_place, check_binds_none, arms_bind_none, CodeRunsAsTree}

pub left_of : (a b : Bool) → (a && b) ≡ true → a ≡ true
left_of a b h = grind (arith, common_steps)

pub right_of : (a b : Bool) → (a && b) ≡ true → b ≡ true
right_of a b h = grind (arith, common_steps)

-- 1. what is bound, and what is written in place
abbrev Clean : List Site → Env → Type 0
Clean sites env = (s : ℕ) → is_in_place (slice_get sites s) ≡ true → bound_to env s ≡ None

pub outside : (b : Bool) → (if b then false else true) ≡ true → b ≡ false
outside b h = grind (arith, common_steps)

module _ (w : World) (env : Env) (p : Passes) (clean : Clean w.sites env) where
  held_used : (s : ℕ) → held w env (place_of (slice_get w.sites s) s) ≡ used w env s
  held_used s = grind arith

  value_used : (taker : Taker) (s : ℕ) → held_value w env (use_at w.sites p taker s) ≡ used_value w env s
  value_used taker s = ap (λ o. then_option o as_value) (held_used s)

  fields_used : (ss : List ℕ) → held_values w env (fields_of w.sites p ss) ≡ used_values w env ss
  fields_used [] = refl
  fields_used (s ∷ ss) = grind (arith, common_steps, fields_used ss)

  arguments_used : (term i : ℕ) (ss : List ℕ) → held_values w env (arguments_from w.sites p term i ss) ≡ used_values w env ss
  arguments_used term i [] = refl
  arguments_used term i (s ∷ ss) = grind (arith, common_steps, arguments_used term (suc i) ss)

  -- 2. a site is bound
  binds_site : (t : Trace) (s : ℕ) (o : Option Site) → is_in_place o ≡ false
      → run_statement (bind_code w.sites p s o) w None env t ≡ flow_of_bound (bind_site w env t.calls s o) t
  binds_site t s o h = grind (arith, common_steps, arguments_used, fields_used, held_used)

  -- 3. what is bound stays clean
  abbrev CleanBound : Bound → Type 0
  CleanBound (all_bound env' calls) = Clean w.sites env'
  CleanBound (unwrap_failed calls) = Unit {0}
  CleanBound (no_content_there calls) = Unit {0}

  module _ (s : ℕ) (h : not_in_place w.sites s ≡ true) where
    now_clean : (calls : List Call) (o : Option Content) → CleanBound (now_bound env calls s o)
    now_clean calls o = grind (arith, common_steps)

-- 4. sites are bound in order, and what follows
module _ (w : World) (p : Passes) where
  binds_run : (ss : List ℕ) (rest : Block) (k : Env → Trace → Outcome)
      → ((env : Env) (t : Trace) → Clean w.sites env → outcome_of (run_block rest w None env t) ≡ k env t)
      → none_in_place w.sites ss ≡ true → (env : Env) (t : Trace) → Clean w.sites env
      → outcome_of (run_block (binds_code w.sites p ss rest) w None env t) ≡ on_bound (bind_all w env t.calls ss) t k
  binds_run [] rest k h n env t clean = h env t clean
  binds_run (s ∷ ss) rest k h n env t clean =
      ap (λ f. outcome_of (then_flow f (run_block (binds_code w.sites p ss rest) w None))) (binds_site w env p clean t s (slice_get w.sites s) (outside (is_in_place (slice_get w.sites s)) (left_of _ _ n)))
      ∙ on (bind_site w env t.calls s (slice_get w.sites s)) (grind (arith, common_steps, now_clean)) (λ env' calls' c. binds_run ss rest k h (right_of _ _ n) env' (with_calls t calls') c)
    where
      on : (b : Bound) → CleanBound w env p clean b
          → ((env' : Env) (calls' : List Call) → Clean w.sites env' → outcome_of (run_block (binds_code w.sites p ss rest) w None env' (with_calls t calls')) ≡ on_bound (bind_all w env' calls' ss) (with_calls t calls') k)
          → outcome_of (then_flow (flow_of_bound b t) (run_block (binds_code w.sites p ss rest) w None)) ≡ on_bound (then_bind b (λ env' calls'. bind_all w env' calls' ss)) t k
      on b c below = grind arith

-- 5. flows
next_step : (f : Flow) (env : Env) (go : Env → Trace → Flow) (ho : Trace → Outcome) → ((t : Trace) → outcome_of (go env t) ≡ ho t)
    → outcome_of (then_flow (in_braces env f) go) ≡ or_next (outcome_of f) ho
next_step f env go ho h = grind (arith, common_steps)

equal_step : (a b : Option Value) (env : Env) (t : Trace) (f : Flow) (x : Outcome) → outcome_of f ≡ x → outcome_of (where_equal a b t f (goes_on env t)) ≡ on_equal a b t x
equal_step a b env t f x h = grind (arith, common_steps)

each_step : (cs : List Content) (go : Content → Trace → Flow) (ho : Content → Trace → Outcome) (env : Env) → ((c : Content) (t : Trace) → outcome_of (go c t) ≡ ho c t)
    → (t : Trace) → outcome_of (each_flow cs go env t) ≡ for_each cs ho t
each_step [] go ho env h t = refl
each_step (c ∷ cs) go ho env h t = grind (arith, common_steps, each_step cs go ho env h, next_step)

each_braced : (cs : List Content) (go : Content → Trace → Flow) (env : Env) (t : Trace) → in_braces env (each_flow cs go env t) ≡ each_flow cs go env t
each_braced [] go env t = refl
each_braced (c ∷ cs) go env t = grind (arith, common_steps, each_braced cs go env)

answers_step : (o : Option Content) (go : Content → Trace → Flow) (ho : Content → Trace → Outcome) (env : Env) (t : Trace) → ((c : Content) (t : Trace) → outcome_of (go c t) ≡ ho c t)
    → outcome_of (on_answers o go env t) ≡ on_many o ho t
answers_step (Some (many cs)) go ho env t h = each_step (contents cs) go ho env h t
answers_step _ go ho env t h = refl

-- fields are bound
abbrev CleanOption : List Site → Option Env → Type 0
CleanOption sites None = Unit {0}
CleanOption sites (Some env) = Clean sites env

fields_clean : (sites : List Site) (fields : List (Option ℕ)) (cs : List Content) (env : Env) → Clean sites env → no_field_in_place sites fields ≡ true → CleanOption sites (bind_fields fields cs env)
fields_clean sites (None ∷ rest) (c ∷ cs) env clean h = fields_clean sites rest cs env clean h
fields_clean sites (Some s ∷ rest) (c ∷ cs) env clean h = fields_clean sites rest cs ((s, c) ∷ env) (grind (arith, common_steps, outside)) (right_of _ _ h)
fields_clean sites fields cs env clean h = grind (arith, common_steps)

met_step : (sites : List Site) (o : Option (List Content)) (fields : List (Option ℕ)) (env : Env) (t : Trace) (go : Env → Flow) (ho : Env → Outcome) (other : Flow) (x : Outcome)
    → Clean sites env → no_field_in_place sites fields ≡ true → ((env' : Env) → Clean sites env' → outcome_of (go env') ≡ ho env') → outcome_of other ≡ x
    → outcome_of (where_met o fields env t go other) ≡ on_met o fields env t ho x
met_step sites o fields env t go ho other x clean n h k = grind (arith, common_steps, fields_clean)

-- 6. by induction on the tree
module _ (w : World) (p : Passes) where
  loop_step : (o : Option Site) (s : ℕ) (body : Block) (env : Env) (t : Trace) (ho : Content → Trace → Outcome)
      → ((c : Content) (t' : Trace) → outcome_of (run_block body w None ((s, c) ∷ env) t') ≡ ho c t')
      → outcome_of (run_statement (loop_code o s body) w None env t) ≡ on_many (then_option (then_option o iterated) (used w env)) ho t
  loop_step (Some (iterator_site source)) s body env t ho h =
      answers_step (bound_to env source) (λ c t'. run_block body w None ((s, c) ∷ env) t') ho env t h ∙ (grind arith)
  loop_step _ s body env t ho h = refl

  check_braced : (check : Check) (env : Env) (t : Trace)
      → in_braces env (run_statement (check_code check w.sites p) w None env t) ≡ run_statement (check_code check w.sites p) w None env t
  check_braced (match_at source arms) env t = grind arith
  check_braced (equal_at a b body) env t = grind arith
  check_braced (loop_at result body) env t = grind (arith, each_braced)
  check_braced (return_at at result) env t = grind arith

  mutual
    tree_runs : (tree : Tree) → binds_none_in_place tree w.sites ≡ true → (env : Env) (t : Trace) → Clean w.sites env
        → outcome_of (run_block (tree_code tree w.sites p) w None env t) ≡ run_tree tree w env t
    tree_runs no_step h env t clean = refl
    tree_runs (step binds check rest) h env t clean =
        binds_run w p binds (statement (check_code check w.sites p) (tree_code rest w.sites p)) (λ env' t'. or_next (run_check check w env' t') (run_tree rest w env'))
        (λ env' t' c. ap (λ f. outcome_of (then_flow f (run_block (tree_code rest w.sites p) w None))) (sym (check_braced check env' t'))
        ∙ next_step (run_statement (check_code check w.sites p) w None env' t') env' (run_block (tree_code rest w.sites p) w None) (run_tree rest w env') (λ u. tree_runs rest (right_of _ _ (right_of _ _ h)) env' u c)
        ∙ ap (λ o. or_next o (run_tree rest w env')) (check_runs check (left_of _ _ (right_of _ _ h)) env' t' c))
        (left_of _ _ h) env t clean

    check_runs : (check : Check) → check_binds_none check w.sites ≡ true → (env : Env) (t : Trace) → Clean w.sites env
        → outcome_of (run_statement (check_code check w.sites p) w None env t) ≡ run_check check w env t
    check_runs (match_at source arms) h env t clean = grind (arith, common_steps, arms_run arms h, held_used)
    check_runs (equal_at a b body) h env t clean =
        grind (arith, common_steps)
        ∙ equal_step (held_value w env (use_at w.sites p (to_compare b) a)) (held_value w env (use_at w.sites p (to_compare a) b)) env t (run_block (tree_code body w.sites p) w None env t) (run_tree body w env t) (tree_runs body h env t clean)
        ∙ ap (λ o. on_equal o (held_value w env (use_at w.sites p (to_compare a) b)) t (run_tree body w env t)) (value_used w env p clean (to_compare b) a)
        ∙ ap (λ o. on_equal (used_value w env a) o t (run_tree body w env t)) (value_used w env p clean (to_compare a) b)
    check_runs (loop_at result body) h env t clean =
        loop_step (slice_get w.sites result) result (tree_code body w.sites p) env t (λ c t'. run_tree body w ((result, c) ∷ env) t')
        (λ c t'. tree_runs body (right_of _ _ h) ((result, c) ∷ env) t' (grind (arith, common_steps, outside)))
    check_runs (return_at at result) h env t clean = grind (arith, common_steps, held_used)

    arms_run : (arms : Arms) → arms_bind_none arms w.sites ≡ true → (c : Content) (env : Env) (t : Trace) → Clean w.sites env
        → outcome_of (run_code_arms (arms_code arms w.sites p) w None c env t) ≡ run_arms arms w c env t
    arms_run no_arm h c env t clean = refl
    arms_run (arm constraint fields body rest) h c env t clean =
        met_step w.sites (content_fields w.meaning constraint c) fields env t (λ env'. run_block (tree_code body w.sites p) w None env' t) (λ env'. run_tree body w env' t)
        (run_code_arms (arms_code rest w.sites p) w None c env t) (run_arms rest w c env t) clean (left_of _ _ h)
        (λ env' k. tree_runs body (left_of _ _ (right_of _ _ h)) env' t k) (arms_run rest (right_of _ _ (right_of _ _ h)) c env t clean)

pub code_runs_as_tree_lem : CodeRunsAsTree
code_runs_as_tree_lem tree w p h = tree_runs w p tree h [] at_start (λ s e. refl)
