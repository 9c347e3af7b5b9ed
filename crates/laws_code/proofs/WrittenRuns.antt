-- The code that is written runs as the code: braces that no test leaves change nothing around a body.
use Rattle.std.proofs.Common.{◌≡◌, ℕ, Bool, true, false, not, List, [], ◌∷◌, Option, if◌then◌else◌, refl, ap, ◌∙◌, arith}
use Rattle.std.proofs.lemmas.Grind.{common_steps}
use Rattle.std.proofs.lemmas.Bool.{or_parts}
use Rattle.model.specs.rules.Meaning.{Content}
use Rattle.model.specs.trees.Run.{World, Env, Trace}
use Rattle.model_code.specs.Code.{Block, no_statement, statement, Statement, match_on, if_equal, for_each_of, labelled, CodeArms, no_code_arm, code_arm}
use Rattle.model_code.specs.CodeRuns.{held, Flow, goes_on, leaves, then_flow, in_braces, in_label, each_flow, run_block, run_statement, run_code_arms}
use Rattle.model_code.specs.Notation.{Notation}
use Rattle.model_code.specs.Pieces.{is_left, leaves_at, leaves_arms, result_ends, is_end, unless_end}
use Rattle.model_code.specs.Written.{is_bare, unwrapped, written, written_at, written_arms}
use Rattle.model_code.proofs.Flattening.{same_content, same_met, same_equal, same_answers}
use Rattle.model_code.proofs.Written.{left_written}

-- 1. a block that no test leaves stays
abbrev stays : Flow → Bool
stays (leaves t) = false
stays f = true

braces_stay : (env : Env) (f : Flow) → stays f ≡ true → stays (in_braces env f) ≡ true
braces_stay env f h = grind (arith, common_steps)

if_stays : (b : Bool) (f g : Flow) → stays f ≡ true → stays g ≡ true → stays (if b then f else g) ≡ true
if_stays b f g h k = grind (arith, common_steps)

each_stays : (cs : List Content) (go : Content → Trace → Flow) (env : Env) → ((c : Content) (t : Trace) → stays (go c t) ≡ true) → (t : Trace) → stays (each_flow cs go env t) ≡ true
each_stays [] go env h t = refl
each_stays (c ∷ cs) go env h t = grind (arith, each_stays cs go env h, braces_stay)

-- 2. what stays needs no label
label_off : (e env : Env) (f : Flow) → stays f ≡ true → in_braces e f ≡ in_braces e (then_flow (in_label env f) goes_on)
label_off e env f h = grind (arith, common_steps)

module _ (p : Notation) (w : World) (most : Option ℕ) (kind : w.multi ≡ not (result_ends p)) where
  pub ends_there : (s : Statement) (env : Env) (t : Trace) (go : Env → Trace → Flow) → is_end (result_ends p) s ≡ true → then_flow (run_statement s w most env t) go ≡ run_statement s w most env t
  ends_there s env t go h = grind (arith, common_steps)

  later_stays : (ended : Bool) (s : Statement) (rest : Block) (env : Env) (t : Trace) → is_end (result_ends p) s ≡ ended → stays (run_statement s w most env t) ≡ true
      → unless_end ended false (is_left (result_ends p) rest) ≡ false → (is_left (result_ends p) rest ≡ false → (env' : Env) (t' : Trace) → stays (run_block rest w most env' t') ≡ true)
      → stays (then_flow (run_statement s w most env t) (run_block rest w most)) ≡ true
  later_stays ended s rest env t e h k go = grind (arith, common_steps, ends_there)

  mutual
    block_stays : (b : Block) (env : Env) (t : Trace) → is_left (result_ends p) b ≡ false → stays (run_block b w most env t) ≡ true
    block_stays no_statement env t h = refl
    block_stays (statement s rest) env t h =
        let hs = or_parts (leaves_at (result_ends p) s) (unless_end (is_end (result_ends p) s) false (is_left (result_ends p) rest)) h in
        later_stays (is_end (result_ends p) s) s rest env t refl (statement_stays s env t hs.0) hs.1 (λ k env' t'. block_stays rest env' t' k)

    statement_stays : (s : Statement) (env : Env) (t : Trace) → leaves_at (result_ends p) s ≡ false → stays (run_statement s w most env t) ≡ true
    statement_stays (match_on u arms) env t h = grind (arith, common_steps, arms_stay arms, braces_stay)
    statement_stays (if_equal a b body) env t h = grind (arith, common_steps, block_stays body env t h, braces_stay, if_stays)
    statement_stays (for_each_of v from body) env t h = grind (arith, block_stays body, each_stays)
    statement_stays s env t h = grind (arith, common_steps)

    arms_stay : (arms : CodeArms) (c : Content) (env : Env) (t : Trace) → leaves_arms (result_ends p) arms ≡ false → stays (run_code_arms arms w most c env t) ≡ true
    arms_stay (code_arm pattern fields body rest) c env t h = grind (arith, common_steps, block_stays body, arms_stay rest c env t, or_parts)
    arms_stay no_code_arm c env t h = refl

  -- 3. the run
  abbrev Same : Block → Block → Type 0
  Same a b = (env : Env) (t : Trace) → run_block a w most env t ≡ run_block b w most env t

  bare_same : (left : Bool) (body : Block) (e env : Env) (t : Trace) → is_left (result_ends p) body ≡ left → Same (statement (labelled (written p body)) no_statement) (statement (labelled body) no_statement)
      → in_braces e (run_block (unwrapped (not left) (statement (labelled (written p body)) no_statement)) w most env t) ≡ in_braces e (run_block (statement (labelled body) no_statement) w most env t)
  bare_same true body e env t l h = ap (in_braces e) (h env t)
  bare_same false body e env t l h =
      label_off e env (run_block (written p body) w most env t) (block_stays (written p body) env t (left_written p body ∙ l)) ∙ ap (in_braces e) (h env t)

  body_same : (body : Block) (e env : Env) (t : Trace) → Same (written p body) body → in_braces e (run_block (unwrapped (is_bare p body) (written p body)) w most env t) ≡ in_braces e (run_block body w most env t)
  body_same (statement (labelled body) (statement s later)) e env t h = ap (in_braces e) (h env t)
  body_same body e env t h = grind (arith, common_steps, bare_same)

  mutual
    pub written_runs : (b : Block) (env : Env) (t : Trace) → run_block (written p b) w most env t ≡ run_block b w most env t
    written_runs no_statement env t = refl
    written_runs (statement s rest) env t = λ i. then_flow (statement_runs s env t i) (λ env' t'. written_runs rest env' t' i)

    statement_runs : (s : Statement) (env : Env) (t : Trace) → run_statement (written_at p s) w most env t ≡ run_statement s w most env t
    statement_runs (match_on u arms) env t = same_content env (held w env u.place) t (λ c. run_code_arms (written_arms p arms) w most c env t) (λ c. run_code_arms arms w most c env t) (λ c. arms_run arms env c env t)
    statement_runs (if_equal a b body) env t = grind (arith, common_steps, written_runs body, same_equal, body_same)
    statement_runs (for_each_of v from body) env t = grind (arith, common_steps, written_runs body, same_answers, body_same)
    statement_runs (labelled body) env t = ap (in_label env) (written_runs body env t)
    statement_runs s env t = grind (arith, common_steps)

    arms_run : (arms : CodeArms) (e : Env) (c : Content) (env : Env) (t : Trace) → in_braces e (run_code_arms (written_arms p arms) w most c env t) ≡ in_braces e (run_code_arms arms w most c env t)
    arms_run (code_arm pattern fields body rest) e c env t = grind (arith, common_steps, written_runs body, arms_run rest e c env t, same_met, body_same)
    arms_run no_code_arm e c env t = refl
