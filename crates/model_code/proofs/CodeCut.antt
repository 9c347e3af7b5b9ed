-- Code that stops where its list of results is full does the beginning of what it does without a bound.
use Rattle.std.proofs.Common.{◌≡◌, ◌⊎◌, inl, ℕ, zero, suc, ◌<◌, ◌≤◌, Bool, true, false, if◌then◌else◌, List, [], ◌∷◌, ◌++◌, length, take, Option, Some, None, refl, sym, ap, ◌∙◌, arith}
use Rattle.std.proofs.lemmas.List.{append_assoc, append-nil, length_push, length-append, take_at}
use Rattle.std.proofs.lemmas.Grind.{common_steps}
use Rattle.model.specs.rules.Values.{Value, Values, value_eq}
use Rattle.model.specs.rules.Meaning.{Content, many, contents, pure_answer, impure_answer}
use Rattle.model.specs.rules.Outcome.{Call, ended}
use Rattle.model.specs.trees.Run.{World, Env, bound_to, Bound, all_bound, unwrap_failed, no_content_there, now_bound, unwrapped, constructed, Trace, content_fields, bind_fields, at_start}
use Rattle.model_code.specs.Code.{Expr, call, Block, no_statement, statement, Statement, bind, bind_some, no_way, match_on, if_equal, for_each_of, give, labelled, unless_let, unless_equal, CodeArms, no_code_arm, code_arm}
use Rattle.model_code.specs.CodeRuns.{held, held_value, held_values, bind_expr, Flow, goes_on, leaves, returns, fails, sticks, then_flow, in_braces, at_least, give_content, with_bindings, where_met, on_content, where_equal, each_flow, on_answers, run_block, run_statement, run_code_arms, outcome_of}
use Rattle.model_code.specs.CodeLaws.{IsBeginning, IsCut, CodeStopsAtBound}

-- 1. traces that go on
abbrev trace_of : Flow → Trace
trace_of (goes_on env t) = t
trace_of (leaves t) = t
trace_of (returns t) = t
trace_of (fails t) = t
trace_of (sticks t) = t

record Begins (t u : Trace) : Type 0 where
  results : IsBeginning t.results u.results
  calls : IsBeginning t.calls u.calls

pub beginning_self : {X : Type 0} (xs : List X) → IsBeginning xs xs
beginning_self xs = ([], sym (append-nil xs))

pub beginning_over : {X : Type 0} (xs ys zs : List X) → IsBeginning xs ys → IsBeginning ys zs → IsBeginning xs zs
beginning_over xs ys zs b c = (b.0 ++ c.0, c.1 ∙ ap (λ l. l ++ c.0) b.1 ∙ append_assoc xs b.0 c.0)

begins_self : (t : Trace) → Begins t t
begins_self t = record { results = beginning_self t.results; calls = beginning_self t.calls }

begins_over : (t u v : Trace) → Begins t u → Begins u v → Begins t v
begins_over t u v b c = record { results = beginning_over t.results u.results v.results b.results c.results; calls = beginning_over t.calls u.calls v.calls b.calls c.calls }

then_begins : (f : Flow) (go : Env → Trace → Flow) → ((env : Env) (t : Trace) → Begins t (trace_of (go env t))) → Begins (trace_of f) (trace_of (then_flow f go))
then_begins (goes_on env t) go h = h env t
then_begins (leaves t) go h = begins_self t
then_begins (returns t) go h = begins_self t
then_begins (fails t) go h = begins_self t
then_begins (sticks t) go h = begins_self t

braces_begin : (t : Trace) (env : Env) (f : Flow) → Begins t (trace_of f) → Begins t (trace_of (in_braces env f))
braces_begin t env f b = grind (arith, common_steps)

abbrev pub calls_of : Bound → List Call
calls_of (all_bound env calls) = calls
calls_of (unwrap_failed calls) = calls
calls_of (no_content_there calls) = calls

pub now_calls : (env : Env) (calls : List Call) (s : ℕ) (o : Option Content) → IsBeginning calls (calls_of (now_bound env calls s o))
now_calls env calls s o = grind (arith, common_steps, beginning_self)

pub unwrapped_calls : (env : Env) (calls : List Call) (s : ℕ) (o : Option Content) → IsBeginning calls (calls_of (unwrapped env calls s o))
unwrapped_calls env calls s o = grind (arith, common_steps, beginning_self)

constructed_calls : (w : World) (env : Env) (calls : List Call) (s term instance : ℕ) (o : Option Values) → IsBeginning calls (calls_of (constructed w env calls s term instance o))
constructed_calls w env calls s term instance None = beginning_self calls
constructed_calls w env calls s term zero (Some vs) = now_calls env calls s (pure_answer w.meaning term vs)
constructed_calls w env calls s term (suc n) (Some vs) =
    let made : List Call = calls ++ record { term = term; args = vs } ∷ [] in
    beginning_over calls made (calls_of (now_bound env made s (impure_answer w.meaning term (length calls)))) (record { term = term; args = vs } ∷ [], refl) (now_calls env made s (impure_answer w.meaning term (length calls)))

pub expr_calls : (w : World) (env : Env) (calls : List Call) (s : ℕ) (e : Expr) → IsBeginning calls (calls_of (bind_expr w env calls s e))
expr_calls w env calls s (call term us instance) = constructed_calls w env calls s term instance (held_values w env us)
expr_calls w env calls s _ = now_calls env calls s _

content_begins : (o : Option Content) (t : Trace) (go : Content → Flow) → ((c : Content) → Begins t (trace_of (go c))) → Begins t (trace_of (on_content o t go))
content_begins None t go h = begins_self t
content_begins (Some c) t go h = h c

bindings_begin : (o : Option Env) (t : Trace) (go : Env → Flow) → ((env : Env) → Begins t (trace_of (go env))) → Begins t (trace_of (with_bindings o t go))
bindings_begin None t go h = begins_self t
bindings_begin (Some env) t go h = h env

met_begins : (o : Option (List Content)) (fields : List (Option ℕ)) (env : Env) (t : Trace) (go : Env → Flow) (other : Flow)
    → ((env' : Env) → Begins t (trace_of (go env'))) → Begins t (trace_of other) → Begins t (trace_of (where_met o fields env t go other))
met_begins None fields env t go other h k = k
met_begins (Some cs) fields env t go other h k = bindings_begin (bind_fields fields cs env) t go h

if_begins : (b : Bool) (t : Trace) (f g : Flow) → Begins t (trace_of f) → Begins t (trace_of g) → Begins t (trace_of (if b then f else g))
if_begins b t f g h k = grind (arith, common_steps)

equal_begins : (a b : Option Value) (t : Trace) (f g : Flow) → Begins t (trace_of f) → Begins t (trace_of g) → Begins t (trace_of (where_equal a b t f g))
equal_begins (Some v) (Some u) t f g h k = if_begins (value_eq v u) t f g h k
equal_begins _ _ t f g h k = begins_self t

each_begins : (cs : List Content) (go : Content → Trace → Flow) (env : Env) → ((c : Content) (t : Trace) → Begins t (trace_of (go c t))) → (t : Trace) → Begins t (trace_of (each_flow cs go env t))
each_begins [] go env h t = begins_self t
each_begins (c ∷ cs) go env h t =
    begins_over t (trace_of (in_braces env (go c t))) (trace_of (then_flow (in_braces env (go c t)) (λ env' t'. each_flow cs go env t')))
    (braces_begin t env (go c t) (h c t)) (then_begins (in_braces env (go c t)) (λ env' t'. each_flow cs go env t') (λ env' t'. each_begins cs go env h t'))

answers_begin : (o : Option Content) (go : Content → Trace → Flow) (env : Env) (t : Trace) → ((c : Content) (t : Trace) → Begins t (trace_of (go c t))) → Begins t (trace_of (on_answers o go env t))
answers_begin (Some (many cs)) go env t h = each_begins (contents cs) go env h t
answers_begin _ go env t h = begins_self t

give_begins : (o : Option Content) (multi : Bool) (env : Env) (t : Trace) → Begins t (trace_of (give_content o multi None env t))
give_begins None multi env t = begins_self t
give_begins (Some c) true env t = grind (arith, beginning_self)
give_begins (Some c) false env t = grind (arith, beginning_self)

module _ (w : World) where
  mutual
    block_begins : (b : Block) (env : Env) (t : Trace) → Begins t (trace_of (run_block b w None env t))
    block_begins no_statement env t = begins_self t
    block_begins (statement s rest) env t =
        begins_over t (trace_of (run_statement s w None env t)) (trace_of (then_flow (run_statement s w None env t) (run_block rest w None)))
        (statement_begins s env t) (then_begins (run_statement s w None env t) (run_block rest w None) (block_begins rest))

    statement_begins : (s : Statement) (env : Env) (t : Trace) → Begins t (trace_of (run_statement s w None env t))
    statement_begins (bind v e) env t = grind (arith, common_steps, beginning_self, expr_calls w env t.calls v e)
    statement_begins (bind_some v u) env t = grind (arith, common_steps, beginning_self)
    statement_begins no_way env t = begins_self t
    statement_begins (match_on u arms) env t =
        braces_begin t env (on_content (held w env u.place) t (λ c. run_code_arms arms w None c env t)) (content_begins (held w env u.place) t (λ c. run_code_arms arms w None c env t) (λ c. arms_begin arms c env t))
    statement_begins (if_equal a b body) env t =
        braces_begin t env (where_equal (held_value w env a) (held_value w env b) t (run_block body w None env t) (goes_on env t)) (equal_begins (held_value w env a) (held_value w env b) t (run_block body w None env t) (goes_on env t) (block_begins body env t) (begins_self t))
    statement_begins (for_each_of v from body) env t = answers_begin (bound_to env from) (λ c t'. run_block body w None ((v, c) ∷ env) t') env t (λ c t'. block_begins body ((v, c) ∷ env) t')
    statement_begins (give at u) env t = give_begins (held w env u.place) w.multi env t
    statement_begins (labelled body) env t = grind (arith, block_begins body env t)
    statement_begins (unless_let u pattern fields) env t = grind (arith, common_steps, content_begins (held w env u.place) t, met_begins, begins_self t)
    statement_begins (unless_equal a b) env t = equal_begins (held_value w env a) (held_value w env b) t (goes_on env t) (leaves t) (begins_self t) (begins_self t)

    arms_begin : (arms : CodeArms) (c : Content) (env : Env) (t : Trace) → Begins t (trace_of (run_code_arms arms w None c env t))
    arms_begin no_code_arm c env t = begins_self t
    arms_begin (code_arm pattern fields body rest) c env t =
        met_begins (content_fields w.meaning pattern c) fields env t (λ env'. run_block body w None env' t) (run_code_arms rest w None c env t) (λ env'. block_begins body env' t) (arms_begin rest c env t)

-- 2. the flow with a bound beside that without: the same while there is room, or a return that came first. A return alone fills
-- the last room
abbrev Under : ℕ → Flow → Type 0
Under n (goes_on env t) = length t.results < n
Under n (leaves t) = length t.results < n
Under n (returns t) = length t.results ≤ n
Under n (fails t) = length t.results < n
Under n (sticks t) = length t.results < n

record Stopped (n : ℕ) (f g : Flow) : Type 0 where
  at : Trace
  same : g ≡ returns at
  full : length at.results ≡ n
  begins : Begins at (trace_of f)

abbrev Cut : ℕ → Flow → Flow → Type 0
Cut n f g = ((g ≡ f) × Under n f) ⊎ Stopped n f g

cut_then : (n : ℕ) (f g : Flow) (go ho : Env → Trace → Flow) → ((env : Env) (t : Trace) → length t.results < n → Cut n (go env t) (ho env t))
    → ((env : Env) (t : Trace) → Begins t (trace_of (go env t))) → Cut n f g → Cut n (then_flow f go) (then_flow g ho)
cut_then n f g go ho h b k = grind (arith, common_steps, begins_over, then_begins f go b)

cut_met : (n : ℕ) (o : Option (List Content)) (fields : List (Option ℕ)) (env : Env) (t : Trace) (go ho : Env → Flow) (f g : Flow)
    → length t.results < n → ((env' : Env) → Cut n (go env') (ho env')) → Cut n f g → Cut n (where_met o fields env t go f) (where_met o fields env t ho g)
cut_met n o fields env t go ho f g u h k = grind (arith, common_steps)

cut_each : (n : ℕ) (cs : List Content) (go ho : Content → Trace → Flow) (env : Env) → ((c : Content) (t : Trace) → length t.results < n → Cut n (go c t) (ho c t))
    → ((c : Content) (t : Trace) → Begins t (trace_of (go c t))) → (t : Trace) → length t.results < n → Cut n (each_flow cs go env t) (each_flow cs ho env t)
cut_each n [] go ho env h b t u = inl (refl, u)
cut_each n (c ∷ cs) go ho env h b t u =
    cut_then n (in_braces env (go c t)) (in_braces env (ho c t)) (λ env' t'. each_flow cs go env t') (λ env' t'. each_flow cs ho env t') (λ env' t' v. cut_each n cs go ho env h b t' v)
    (λ env' t'. each_begins cs go env b t') (grind (arith, common_steps, braces_begin))

cut_answers : (n : ℕ) (o : Option Content) (go ho : Content → Trace → Flow) (env : Env) (t : Trace) → length t.results < n → ((c : Content) (t : Trace) → length t.results < n → Cut n (go c t) (ho c t))
    → ((c : Content) (t : Trace) → Begins t (trace_of (go c t))) → Cut n (on_answers o go env t) (on_answers o ho env t)
cut_answers n (Some (many cs)) go ho env t u h b = cut_each n (contents cs) go ho env h b t u
cut_answers n _ go ho env t u h b = inl (refl, u)

-- a result
reached : (m n : ℕ) → at_least m n ≡ true → m ≤ n
reached (suc m) (suc n) h = let k = reached m n h in omega (arith, k)
reached m n h = grind arith

not_reached : (m n : ℕ) → at_least m n ≡ false → n < m
not_reached (suc m) (suc n) h = let k = not_reached m n h in omega (arith, k)
not_reached m n h = grind arith

module _ (w : World) (n : ℕ) where
  mutual
    block_cut : (b : Block) (env : Env) (t : Trace) → length t.results < n → Cut n (run_block b w None env t) (run_block b w (Some n) env t)
    block_cut no_statement env t u = inl (refl, u)
    block_cut (statement s rest) env t u =
        cut_then n (run_statement s w None env t) (run_statement s w (Some n) env t) (run_block rest w None) (run_block rest w (Some n)) (block_cut rest) (block_begins w rest) (statement_cut s env t u)

    statement_cut : (s : Statement) (env : Env) (t : Trace) → length t.results < n → Cut n (run_statement s w None env t) (run_statement s w (Some n) env t)
    statement_cut (bind v e) env t u = grind arith
    statement_cut (bind_some v x) env t u = grind arith
    statement_cut no_way env t u = inl (refl, u)
    statement_cut (match_on x arms) env t u = grind (arith, common_steps, arms_cut arms)
    statement_cut (if_equal a b body) env t u = grind (arith, common_steps, block_cut body env t u)
    statement_cut (for_each_of v from body) env t u =
        cut_answers n (bound_to env from) (λ c t'. run_block body w None ((v, c) ∷ env) t') (λ c t'. run_block body w (Some n) ((v, c) ∷ env) t') env t u (λ c t' k. block_cut body ((v, c) ∷ env) t' k) (λ c t'. block_begins w body ((v, c) ∷ env) t')
    statement_cut (give at x) env t u = grind (arith, common_steps, length_push, reached, begins_self, not_reached)
    statement_cut (labelled body) env t u = grind (arith, common_steps, block_cut body env t u)
    statement_cut (unless_let x pattern fields) env t u = grind (arith, common_steps, cut_met)
    statement_cut (unless_equal a b) env t u = grind arith

    arms_cut : (arms : CodeArms) (c : Content) (env : Env) (t : Trace) → length t.results < n → Cut n (run_code_arms arms w None c env t) (run_code_arms arms w (Some n) c env t)
    arms_cut no_code_arm c env t u = inl (refl, u)
    arms_cut (code_arm pattern fields body rest) c env t u = grind (arith, common_steps, block_cut body, arms_cut rest c env t u, cut_met)

-- 3. outcomes
-- what has no room left returned
full_returns : (n : ℕ) (f : Flow) → Under n f → n ≤ length (outcome_of f).results → (outcome_of f).ending ≡ ended
full_returns n f u h = grind (arith, common_steps)

all_taken : {X : Type 0} (n : ℕ) (xs : List X) → length xs ≤ n → xs ≡ take n xs
all_taken (suc n) (x ∷ xs) h = ap (λ l. x ∷ l) (all_taken n xs (omega (arith, h)))
all_taken n xs h = grind (arith, common_steps)

outcomes_cut : (n : ℕ) (f g : Flow) → Cut n f g → IsCut n (outcome_of f) (outcome_of g)
outcomes_cut n f g h = grind (arith, common_steps, all_taken, beginning_self, full_returns, take_at, length-append)

pub code_stops_at_bound_lem : CodeStopsAtBound
code_stops_at_bound_lem body w n = outcomes_cut (suc n) (run_block body w None [] at_start) (run_block body w (Some (suc n)) [] at_start) (block_cut w (suc n) body [] at_start (omega arith))
