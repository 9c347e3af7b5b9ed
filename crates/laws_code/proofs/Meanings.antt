-- Among whatever functions shown code runs as under the meaning that they are: only what is answered to the calls that a run makes
-- matters to it.
use Rattle.std.proofs.Common.{◌≡◌, ℕ, Bool, true, false, List, [], ◌∷◌, ◌++◌, length, Option, Some, None, slice_get, refl, sym, ap, ◌∙◌, subst, arith}
use Rattle.std.proofs.lemmas.Grind.{common_steps}
use Rattle.std.proofs.lemmas.List.{append-nil, length-map, take_at}
use Rattle.model.specs.rules.Values.{Value, Values}
use Rattle.model.specs.rules.Meaning.{Content}
use Rattle.model.specs.rules.Outcome.{Call}
use Rattle.model.specs.trees.Run.{World, Env, bound_to, now_bound, Trace, at_start}
use Rattle.model_code.specs.Code.{Expr, variant_of, Block, no_statement, statement, Statement, match_on, if_equal, for_each_of, labelled, CodeArms, no_code_arm, code_arm}
use Rattle.model_code.specs.CodeRuns.{held, held_value, Flow, goes_on, then_flow, in_braces, in_label, where_met, on_content, where_equal, each_flow, on_answers, outcome_of, code_run}
use Rattle.model_code.specs.CodeLaws.{IsBeginning}
use Rattle.model_code.specs.Written.{shown_code}
use Rattle.laws_code.specs.ShownRuns.{ShownExterns, ShownWorld, world_of_shown, answered, called, bind_shown, run_shown, run_shown_at, run_shown_arms, shown_run}
use Rattle.laws_code.specs.ShownLaws.{SaysWhatIsAround, ShownCodeRunsAsCode}
use Rattle.laws_code.specs.Meanings.{answer_behind, world_around, ShownCodeRunsUnderItsMeaning}
use Rattle.model_code.proofs.CodeCut.{beginning_self, beginning_over, calls_of, now_calls, unwrapped_calls, expr_calls}
use Rattle.laws_code.proofs.ShownRuns.{calls_made}
use Rattle.laws_code.proofs.Growing.{calls_in, Grows, then_grows, braces_grow, braces_calls, label_grows, bound_grows, content_grows, met_grows, equal_grows, each_grows, answers_grow, give_grows}

-- 1. calls grow
answered_calls : (impure : Bool) (a : ShownExterns) (env : Env) (calls : List Call) (v : ℕ) (c : Call) → IsBeginning calls (calls_of (answered impure a env calls v c))
answered_calls false a env calls v c = now_calls env calls v (a.pures c.term c.args)
answered_calls true a env calls v c =
    let made : List Call = calls ++ c ∷ [] in beginning_over calls made (calls_of (now_bound env made v (a.impures calls c))) (c ∷ [], refl) (now_calls env made v (a.impures calls c))

called_calls : (a : ShownExterns) (env : Env) (calls : List Call) (v f : ℕ) (o : Option Values) → IsBeginning calls (calls_of (called a env calls v f o))
called_calls a env calls v f None = beginning_self calls
called_calls a env calls v f (Some vs) = answered_calls (a.is_impure f) a env calls v (record { term = f; args = vs })

module _ (w : ShownWorld) (most : Option ℕ) where
  shown_calls : (env : Env) (calls : List Call) (v : ℕ) (e : Expr) → IsBeginning calls (calls_of (bind_shown w env calls v e))
  shown_calls env calls v (variant_of ty variant us) = expr_calls (world_of_shown w) env calls v (variant_of ty variant us)
  shown_calls env calls v e = grind (arith, common_steps, called_calls, expr_calls)

  mutual
    block_grows : (b : Block) (env : Env) (t : Trace) → Grows t (run_shown b w most env t)
    block_grows no_statement env t = beginning_self t.calls
    block_grows (statement s rest) env t =
        beginning_over t.calls (calls_in (run_shown_at s w most env t)) (calls_in (then_flow (run_shown_at s w most env t) (run_shown rest w most)))
        (statement_grows s env t) (then_grows (run_shown_at s w most env t) (run_shown rest w most) (block_grows rest))

    statement_grows : (s : Statement) (env : Env) (t : Trace) → Grows t (run_shown_at s w most env t)
    statement_grows (match_on u arms) env t = grind (arith, common_steps, arms_grow arms, braces_grow t env, braces_grow, content_grows)
    statement_grows (if_equal a b body) env t = grind (arith, common_steps, block_grows body env t, braces_grow t env, beginning_self t.calls, braces_grow, equal_grows, beginning_self)
    statement_grows (for_each_of v from body) env t = grind (arith, common_steps, block_grows body, answers_grow (bound_to env from), answers_grow)
    statement_grows (labelled body) env t = grind (arith, common_steps, block_grows body env t, label_grows t env (run_shown body w most env t) (block_grows body env t), label_grows)
    statement_grows s env t = grind (arith, common_steps, bound_grows, shown_calls, unwrapped_calls, beginning_self, give_grows, content_grows, met_grows, equal_grows)

    arms_grow : (arms : CodeArms) (c : Content) (env : Env) (t : Trace) → Grows t (run_shown_arms arms w most c env t)
    arms_grow (code_arm pattern fields body rest) c env t = grind (arith, common_steps, block_grows body, arms_grow rest c env t, met_grows)
    arms_grow no_code_arm c env t = beginning_self t.calls

-- 2. other answers to impure calls, the same to those of the run
module _ (w : ShownWorld) (most : Option ℕ) (others : List Call → Call → Option Content) (all : List Call) (agree : (before after : List Call) (c : Call) → all ≡ before ++ c ∷ after → others before c ≡ w.around.impures before c) where
  abbrev v' : ShownWorld
  v' = record w { around = record w.around { impures = others } }

  abbrev wm : World
  wm = world_of_shown w

  abbrev Within : Flow → Type 0
  Within f = IsBeginning (calls_in f) all

  then_same : (f f' : Flow) (go go' : Env → Trace → Flow) → f' ≡ f → Within (then_flow f go) → ((env : Env) (t : Trace) → Within (go env t) → go' env t ≡ go env t) → then_flow f' go' ≡ then_flow f go
  then_same f f' go go' e here h = grind (arith, common_steps)

  braces_within : (env : Env) (f : Flow) → Within (in_braces env f) → Within f
  braces_within env f k = subst (λ l. IsBeginning l all) (braces_calls env f) k

  content_same : (o : Option Content) (t : Trace) (f f' : Content → Flow) → Within (on_content o t f) → ((c : Content) → Within (f c) → f' c ≡ f c) → on_content o t f' ≡ on_content o t f
  content_same o t f f' k h = grind (arith, common_steps)

  met_same : (o : Option (List Content)) (fields : List (Option ℕ)) (env : Env) (t : Trace) (go go' : Env → Flow) (other other' : Flow) → Within (where_met o fields env t go other)
      → ((env' : Env) → Within (go env') → go' env' ≡ go env') → (Within other → other' ≡ other) → where_met o fields env t go' other' ≡ where_met o fields env t go other
  met_same o fields env t go go' other other' k h l = grind (arith, common_steps)

  equal_same : (x y : Option Value) (t : Trace) (f f' g : Flow) → Within (where_equal x y t f g) → (Within f → f' ≡ f) → where_equal x y t f' g ≡ where_equal x y t f g
  equal_same x y t f f' g k h = grind (arith, common_steps)

  each_same : (cs : List Content) (go go' : Content → Trace → Flow) (env : Env) → ((c : Content) (t : Trace) → Grows t (go c t)) → ((c : Content) (t : Trace) → Within (go c t) → go' c t ≡ go c t) → (t : Trace) → Within (each_flow cs go env t)
      → each_flow cs go' env t ≡ each_flow cs go env t
  each_same [] go go' env grow h t k = refl
  each_same (c ∷ cs) go go' env grow h t k =
      then_same (in_braces env (go c t)) (in_braces env (go' c t)) (λ env' t'. each_flow cs go env t') (λ env' t'. each_flow cs go' env t')
      (ap (in_braces env) (h c t (braces_within env (go c t) (beginning_over (calls_in (in_braces env (go c t))) (calls_in (then_flow (in_braces env (go c t)) (λ env' t'. each_flow cs go env t'))) all
      (then_grows (in_braces env (go c t)) (λ env' t'. each_flow cs go env t') (λ env' t'. each_grows cs go env grow t')) k))))
      k (λ env' t' l. each_same cs go go' env grow h t' l)

  answers_same : (o : Option Content) (go go' : Content → Trace → Flow) (env : Env) (t : Trace) → ((c : Content) (t : Trace) → Grows t (go c t)) → ((c : Content) (t : Trace) → Within (go c t) → go' c t ≡ go c t) → Within (on_answers o go env t)
      → on_answers o go' env t ≡ on_answers o go env t
  answers_same o go go' env t grow h k = grind (arith, common_steps, each_same)

  mutual
    block_same : (b : Block) (env : Env) (t : Trace) → Within (run_shown b w most env t) → run_shown b v' most env t ≡ run_shown b w most env t
    block_same no_statement env t k = refl
    block_same (statement s rest) env t k =
        then_same (run_shown_at s w most env t) (run_shown_at s v' most env t) (run_shown rest w most) (run_shown rest v' most)
        (statement_same s env t (beginning_over (calls_in (run_shown_at s w most env t)) (calls_in (then_flow (run_shown_at s w most env t) (run_shown rest w most))) all (then_grows (run_shown_at s w most env t) (run_shown rest w most) (block_grows w most rest)) k))
        k (λ env' t' l. block_same rest env' t' l)

    statement_same : (s : Statement) (env : Env) (t : Trace) → Within (run_shown_at s w most env t) → run_shown_at s v' most env t ≡ run_shown_at s w most env t
    statement_same (match_on u arms) env t k =
        ap (in_braces env) (content_same (held wm env u.place) t (λ c. run_shown_arms arms w most c env t) (λ c. run_shown_arms arms v' most c env t)
        (braces_within env (on_content (held wm env u.place) t (λ c. run_shown_arms arms w most c env t)) k) (λ c. arms_same arms c env t))
    statement_same (if_equal a b body) env t k =
        ap (in_braces env) (equal_same (held_value wm env a) (held_value wm env b) t (run_shown body w most env t) (run_shown body v' most env t) (goes_on env t)
        (braces_within env (where_equal (held_value wm env a) (held_value wm env b) t (run_shown body w most env t) (goes_on env t)) k) (block_same body env t))
    statement_same (for_each_of v from body) env t k =
        answers_same (bound_to env from) (λ c t'. run_shown body w most ((v, c) ∷ env) t') (λ c t'. run_shown body v' most ((v, c) ∷ env) t') env t (λ c t'. block_grows w most body ((v, c) ∷ env) t') (λ c t'. block_same body ((v, c) ∷ env) t') k
    statement_same (labelled body) env t k = ap (in_label env) (block_same body env t (grind (arith, common_steps)))
    statement_same s env t k = grind (arith, common_steps)

    arms_same : (arms : CodeArms) (c : Content) (env : Env) (t : Trace) → Within (run_shown_arms arms w most c env t) → run_shown_arms arms v' most c env t ≡ run_shown_arms arms w most c env t
    arms_same (code_arm pattern fields body rest) c env t k = grind (arith, common_steps, block_same body, arms_same rest c env t, met_same)
    arms_same no_code_arm c env t k = refl

-- 3. answers by the number of calls before
at_place : (xs : List Call) (y : Call) (ys : List Call) → slice_get (xs ++ y ∷ ys) (length xs) ≡ Some y
at_place [] y ys = refl
at_place (x ∷ xs) y ys = at_place xs y ys

pub shown_code_runs_under_its_meaning_lem : ShownCodeRunsAsCode → ShownCodeRunsUnderItsMeaning
shown_code_runs_under_its_meaning_lem law p code w sites most wr ca kind unstuck =
    let shown : Block = shown_code p code in
    let all : List Call = (shown_run shown w most).calls in
    let others : List Call → Call → Option Content = λ before c. answer_behind w.around all (length before) in
    let agree : (before after : List Call) (c : Call) → all ≡ before ++ c ∷ after → others before c ≡ w.around.impures before c = λ before after c e.
    ap (λ l. answer_behind w.around l (length before)) e ∙ (grind (arith, common_steps, at_place, take_at)) in
    let here : IsBeginning (calls_in (run_shown shown w most [] at_start)) all = ([], calls_made (run_shown shown w most [] at_start) ∙ sym (append-nil (calls_in (run_shown shown w most [] at_start)))) in
    let around : ShownExterns = record w.around { impures = others } in
    let world : World = world_around p sites w all in
    let says : SaysWhatIsAround p world.meaning around (code_run code world most).calls = grind (arith, common_steps, length-map) in
    sym (ap outcome_of (block_same w most others all agree shown [] at_start here)) ∙ law p code world around most wr ca kind says unstuck
