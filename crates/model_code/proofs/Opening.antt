-- What opens a block within a label changes no run.
use Rattle.std.proofs.Common.{◌≡◌, ℕ, List, Option, refl, sym, ap, ◌∙◌, arith}
use Rattle.std.proofs.lemmas.Grind.{common_steps}
use Rattle.model.specs.rules.Values.{Value}
use Rattle.model.specs.rules.Meaning.{Content}
use Rattle.model.specs.trees.Run.{World, Env, Trace}
use Rattle.model_code.specs.Code.{PlaceUse, Block, no_statement, statement, Statement, match_on, if_equal, CodeArms, no_code_arm, code_arm}
use Rattle.model_code.specs.CodeRuns.{held_value, Flow, goes_on, leaves, then_flow, in_braces, in_label, where_met, on_content, where_equal, run_block, run_statement}
use Rattle.model_code.specs.Labels.{opened, opened_last, opened_match, OpenedRunsSame}

pub past_braces : (e env : Env) (f : Flow) → in_label e (in_braces env f) ≡ in_label e f
past_braces e env f = grind (arith, common_steps)

-- a statement alone in a block
pub alone : (f : Flow) → then_flow f goes_on ≡ f
alone f = grind (arith, common_steps)

pub past_then : (e : Env) (f : Flow) (go ho : Env → Trace → Flow) → ((env : Env) (t : Trace) → in_label e (go env t) ≡ in_label e (ho env t)) → in_label e (then_flow f go) ≡ in_label e (then_flow f ho)
past_then e f go ho h = grind (arith, common_steps)

pub met_opens : (e : Env) (o : Option (List Content)) (fields : List (Option ℕ)) (env : Env) (t : Trace) (go ho : Env → Trace → Flow)
    → ((env' : Env) (t' : Trace) → in_label e (go env' t') ≡ in_label e (ho env' t'))
    → in_label e (then_flow (where_met o fields env t (λ env'. goes_on env' t) (leaves t)) go) ≡ in_label e (where_met o fields env t (λ env'. ho env' t) (goes_on env t))
met_opens e o fields env t go ho h = grind (arith, common_steps)

pub content_opens : (e : Env) (o : Option Content) (t : Trace) (f ho : Content → Flow) (go : Env → Trace → Flow) → ((c : Content) → in_label e (then_flow (f c) go) ≡ in_label e (ho c))
    → in_label e (then_flow (on_content o t f) go) ≡ in_label e (on_content o t ho)
content_opens e o t f ho go h = grind (arith, common_steps)

pub equal_opens : (e env : Env) (t : Trace) (a b : Option Value) (go ho : Env → Trace → Flow) → in_label e (go env t) ≡ in_label e (ho env t)
    → in_label e (then_flow (where_equal a b t (goes_on env t) (leaves t)) go) ≡ in_label e (where_equal a b t (ho env t) (goes_on env t))
equal_opens e env t a b go ho h = grind (arith, common_steps)

module _ (w : World) (most : Option ℕ) (e : Env) where
  mutual
    block_opens : (b : Block) (env : Env) (t : Trace) → in_label e (run_block (opened b) w most env t) ≡ in_label e (run_block b w most env t)
    block_opens no_statement env t = refl
    block_opens (statement s no_statement) env t = last_opens s env t ∙ ap (in_label e) (sym (alone (run_statement s w most env t)))
    block_opens (statement s (statement next rest)) env t = grind (arith, common_steps, block_opens (statement next rest), past_then)

    last_opens : (s : Statement) (env : Env) (t : Trace) → in_label e (run_block (opened_last s) w most env t) ≡ in_label e (run_statement s w most env t)
    last_opens (match_on u arms) env t = match_opens u arms env t
    last_opens (if_equal a b body) env t =
        equal_opens e env t (held_value w env a) (held_value w env b) (run_block (opened body) w most) (run_block body w most) (block_opens body env t)
        ∙ sym (past_braces e env (where_equal (held_value w env a) (held_value w env b) t (run_block body w most env t) (goes_on env t)))
    last_opens s env t = grind (arith, common_steps, alone)

    match_opens : (u : PlaceUse) (arms : CodeArms) (env : Env) (t : Trace) → in_label e (run_block (opened_match u arms) w most env t) ≡ in_label e (run_statement (match_on u arms) w most env t)
    match_opens u no_code_arm env t = ap (in_label e) (alone (run_statement (match_on u no_code_arm) w most env t))
    match_opens u (code_arm pattern fields body no_code_arm) env t = grind (arith, block_opens body, content_opens, met_opens, past_braces)
    match_opens u (code_arm pattern fields body (code_arm p2 f2 b2 rest)) env t = ap (in_label e) (alone (run_statement (match_on u (code_arm pattern fields body (code_arm p2 f2 b2 rest))) w most env t))

pub opened_runs_same_lem : OpenedRunsSame
opened_runs_same_lem b w most env t = block_opens w most env b env t
