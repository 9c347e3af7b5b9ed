-- The impure calls of a run are those that were made before, and others after them, whatever bound of results there is.
use Rattle.std.proofs.Common.{◌≡◌, ℕ, Bool, true, false, if◌then◌else◌, List, [], ◌∷◌, Option, Some, None, ◌∙◌, arith}
use Rattle.std.proofs.lemmas.Grind.{common_steps}
use Rattle.model.specs.rules.Values.{Value, value_eq}
use Rattle.model.specs.rules.Meaning.{Content, parts}
use Rattle.model.specs.rules.Outcome.{Call}
use Rattle.model.specs.trees.Run.{World, Env, bound_to, Bound, Trace, bind_fields}
use Rattle.model_code.specs.Code.{Block, no_statement, statement, Statement, match_on, if_equal, for_each_of, labelled, CodeArms, no_code_arm, code_arm}
use Rattle.model_code.specs.CodeRuns.{Flow, goes_on, leaves, returns, fails, sticks, then_flow, in_braces, in_label, flow_of_bound, give_content, with_bindings, where_met, on_content, where_equal, each_flow, on_answers, run_block, run_statement, run_code_arms}
use Rattle.model_code.specs.CodeLaws.{IsBeginning}
use Rattle.model_code.proofs.CodeCut.{beginning_self, beginning_over, calls_of, unwrapped_calls, expr_calls}

abbrev pub calls_in : Flow → List Call
calls_in (goes_on env t) = t.calls
calls_in (leaves t) = t.calls
calls_in (returns t) = t.calls
calls_in (fails t) = t.calls
calls_in (sticks t) = t.calls

abbrev pub Grows : Trace → Flow → Type 0
Grows t f = IsBeginning t.calls (calls_in f)

pub then_grows : (f : Flow) (go : Env → Trace → Flow) → ((env : Env) (t : Trace) → Grows t (go env t)) → IsBeginning (calls_in f) (calls_in (then_flow f go))
then_grows (goes_on env t) go h = h env t
then_grows f go h = grind (arith, common_steps, beginning_self)

pub braces_calls : (env : Env) (f : Flow) → calls_in (in_braces env f) ≡ calls_in f
braces_calls env f = grind (arith, common_steps)

pub braces_grow : (t : Trace) (env : Env) (f : Flow) → Grows t f → Grows t (in_braces env f)
braces_grow t env f g = (g.0, braces_calls env f ∙ g.1)

pub label_grows : (t : Trace) (env : Env) (f : Flow) → Grows t f → Grows t (in_label env f)
label_grows t env f g = grind (arith, common_steps)

pub bound_grows : (b : Bound) (t : Trace) → IsBeginning t.calls (calls_of b) → Grows t (flow_of_bound b t)
bound_grows b t h = grind (arith, common_steps)

pub content_grows : (o : Option Content) (t : Trace) (go : Content → Flow) → ((c : Content) → Grows t (go c)) → Grows t (on_content o t go)
content_grows None t go h = beginning_self t.calls
content_grows (Some c) t go h = h c

pub bindings_grow : (o : Option Env) (t : Trace) (go : Env → Flow) → ((env : Env) → Grows t (go env)) → Grows t (with_bindings o t go)
bindings_grow None t go h = beginning_self t.calls
bindings_grow (Some env) t go h = h env

pub met_grows : (o : Option (List Content)) (fields : List (Option ℕ)) (env : Env) (t : Trace) (go : Env → Flow) (other : Flow)
    → ((env' : Env) → Grows t (go env')) → Grows t other → Grows t (where_met o fields env t go other)
met_grows None fields env t go other h k = k
met_grows (Some cs) fields env t go other h k = bindings_grow (bind_fields fields cs env) t go h

pub if_grows : (b : Bool) (t : Trace) (f g : Flow) → Grows t f → Grows t g → Grows t (if b then f else g)
if_grows true t f g h k = h
if_grows false t f g h k = k

pub equal_grows : (a b : Option Value) (t : Trace) (f g : Flow) → Grows t f → Grows t g → Grows t (where_equal a b t f g)
equal_grows (Some v) (Some u) t f g h k = if_grows (value_eq v u) t f g h k
equal_grows a b t f g h k = grind (arith, common_steps, beginning_self)

pub each_grows : (cs : List Content) (go : Content → Trace → Flow) (env : Env) → ((c : Content) (t : Trace) → Grows t (go c t)) → (t : Trace) → Grows t (each_flow cs go env t)
each_grows [] go env h t = beginning_self t.calls
each_grows (c ∷ cs) go env h t =
    beginning_over t.calls (calls_in (in_braces env (go c t))) (calls_in (then_flow (in_braces env (go c t)) (λ env' t'. each_flow cs go env t')))
    (braces_grow t env (go c t) (h c t)) (then_grows (in_braces env (go c t)) (λ env' t'. each_flow cs go env t') (λ env' t'. each_grows cs go env h t'))

pub answers_grow : (o : Option Content) (go : Content → Trace → Flow) (env : Env) (t : Trace) → ((c : Content) (t : Trace) → Grows t (go c t)) → Grows t (on_answers o go env t)
answers_grow (Some (parts vs)) go env t h = beginning_self t.calls
answers_grow o go env t h = grind (arith, common_steps, beginning_self, each_grows)

pub give_grows : (o : Option Content) (multi : Bool) (most : Option ℕ) (env : Env) (t : Trace) → Grows t (give_content o multi most env t)
give_grows o multi most env t = grind (arith, common_steps, beginning_self, if_grows)

module _ (w : World) (most : Option ℕ) where
  mutual
    pub block_grows : (b : Block) (env : Env) (t : Trace) → Grows t (run_block b w most env t)
    block_grows no_statement env t = beginning_self t.calls
    block_grows (statement s rest) env t =
        beginning_over t.calls (calls_in (run_statement s w most env t)) (calls_in (then_flow (run_statement s w most env t) (run_block rest w most)))
        (statement_grows s env t) (then_grows (run_statement s w most env t) (run_block rest w most) (block_grows rest))

    pub statement_grows : (s : Statement) (env : Env) (t : Trace) → Grows t (run_statement s w most env t)
    statement_grows (match_on u arms) env t = grind (arith, common_steps, arms_grow arms, braces_grow, content_grows)
    statement_grows (if_equal a b body) env t = grind (arith, common_steps, block_grows body env t, braces_grow, equal_grows, beginning_self)
    statement_grows (for_each_of v from body) env t = answers_grow (bound_to env from) (λ c t'. run_block body w most ((v, c) ∷ env) t') env t (λ c t'. block_grows body ((v, c) ∷ env) t')
    statement_grows (labelled body) env t = label_grows t env (run_block body w most env t) (block_grows body env t)
    statement_grows s env t = grind (arith, common_steps, bound_grows, expr_calls, unwrapped_calls, beginning_self, give_grows, content_grows, met_grows, equal_grows)

    pub arms_grow : (arms : CodeArms) (c : Content) (env : Env) (t : Trace) → Grows t (run_code_arms arms w most c env t)
    arms_grow (code_arm pattern fields body rest) c env t = grind (arith, common_steps, block_grows body, arms_grow rest c env t, met_grows)
    arms_grow no_code_arm c env t = beginning_self t.calls
