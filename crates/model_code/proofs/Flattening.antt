-- Labels around the bodies of tests change no run.
use Rattle.std.proofs.Common.{◌≡◌, ℕ, suc, Bool, true, if◌then◌else◌, List, [], ◌∷◌, Option, refl, sym, ap, ◌∙◌, arith}
use Rattle.std.proofs.lemmas.Bool.{false≢true}
use Rattle.std.proofs.lemmas.Grind.{common_steps}
use Rattle.model.specs.rules.Values.{Value}
use Rattle.model.specs.rules.Meaning.{Content}
use Rattle.model.specs.trees.Run.{World, Env, Trace, content_fields}
use Rattle.model_code.specs.Code.{PlaceUse, Block, no_statement, statement, Statement, bind, bind_some, no_way, match_on, if_equal, for_each_of, give, labelled, unless_let, unless_equal, CodeArms, no_code_arm, code_arm}
use Rattle.model_code.specs.CodeRuns.{held, held_value, Flow, goes_on, leaves, then_flow, in_braces, in_label, where_met, on_content, where_equal, each_flow, on_answers, run_block, run_statement, run_code_arms}
use Rattle.model_code.specs.Flat.{unlabelled, unlabelled_at, unlabelled_arms, within, flat, flat_at, flat_arms, leaving, leaving_last, leaving_match, FlatRunsSame}
use Rattle.model_code.proofs.Opening.{past_braces, alone, past_then, met_opens, content_opens, equal_opens}
use Rattle.model_code.proofs.CodeRunning.{left_of, right_of}

-- 1. code without labels leaves none
abbrev Stays : Flow → Type 0
Stays (leaves t) = ⊥
Stays f = Unit {0}

stays_then : (f : Flow) (go : Env → Trace → Flow) → Stays f → ((env : Env) (t : Trace) → Stays (go env t)) → Stays (then_flow f go)
stays_then f go s h = grind (arith, common_steps)

stays_in_braces : (env : Env) (f : Flow) → Stays f → Stays (in_braces env f)
stays_in_braces env f s = grind (arith, common_steps)

stays_met : (o : Option (List Content)) (fields : List (Option ℕ)) (env : Env) (t : Trace) (go : Env → Flow) (f : Flow) → ((env' : Env) → Stays (go env')) → Stays f → Stays (where_met o fields env t go f)
stays_met o fields env t go f h k = grind (arith, common_steps)

stays_if : (b : Bool) (f g : Flow) → Stays f → Stays g → Stays (if b then f else g)
stays_if b f g h k = grind (arith, common_steps)

stays_each : (cs : List Content) (go : Content → Trace → Flow) (env : Env) → ((c : Content) (t : Trace) → Stays (go c t)) → (t : Trace) → Stays (each_flow cs go env t)
stays_each [] go env h t = tt
stays_each (c ∷ cs) go env h t = stays_then (in_braces env (go c t)) (λ env' t'. each_flow cs go env t') (stays_in_braces env (go c t) (h c t)) (λ env' t'. stays_each cs go env h t')

-- 2. the same in braces
pub same_content : (e : Env) (o : Option Content) (t : Trace) (go ho : Content → Flow) → ((c : Content) → in_braces e (go c) ≡ in_braces e (ho c)) → in_braces e (on_content o t go) ≡ in_braces e (on_content o t ho)
same_content e o t go ho h = grind (arith, common_steps)

pub same_met : (e : Env) (o : Option (List Content)) (fields : List (Option ℕ)) (env : Env) (t : Trace) (go ho : Env → Flow) (f g : Flow)
    → ((env' : Env) → in_braces e (go env') ≡ in_braces e (ho env')) → in_braces e f ≡ in_braces e g → in_braces e (where_met o fields env t go f) ≡ in_braces e (where_met o fields env t ho g)
same_met e o fields env t go ho f g h k = grind (arith, common_steps)

pub same_equal : (e : Env) (a b : Option Value) (t : Trace) (f g x : Flow) → in_braces e f ≡ in_braces e g → in_braces e (where_equal a b t f x) ≡ in_braces e (where_equal a b t g x)
same_equal e a b t f g x h = grind (arith, common_steps)

same_then : (f : Flow) (go ho : Env → Trace → Flow) → ((env : Env) (t : Trace) → go env t ≡ ho env t) → then_flow f go ≡ then_flow f ho
same_then f go ho h = grind (arith, common_steps)

same_each : (cs : List Content) (go ho : Content → Trace → Flow) (env : Env) → ((c : Content) (t : Trace) → in_braces env (go c t) ≡ in_braces env (ho c t)) → (t : Trace) → each_flow cs go env t ≡ each_flow cs ho env t
same_each [] go ho env h t = refl
same_each (c ∷ cs) go ho env h t = grind (arith, common_steps, same_each cs go ho env h, same_then)

pub same_answers : (o : Option Content) (go ho : Content → Trace → Flow) (env : Env) (t : Trace) → ((c : Content) (t : Trace) → in_braces env (go c t) ≡ in_braces env (ho c t)) → on_answers o go env t ≡ on_answers o ho env t
same_answers o go ho env t h = grind (arith, common_steps, same_each)

module _ (w : World) (most : Option ℕ) where
  mutual
    stays : (b : Block) → unlabelled b ≡ true → (env : Env) (t : Trace) → Stays (run_block b w most env t)
    stays no_statement h env t = tt
    stays (statement s rest) h env t = stays_then (run_statement s w most env t) (run_block rest w most) (stays_at s (left_of _ _ h) env t) (stays rest (right_of _ _ h))

    stays_at : (s : Statement) → unlabelled_at s ≡ true → (env : Env) (t : Trace) → Stays (run_statement s w most env t)
    stays_at (bind v x) h env t = grind arith
    stays_at (bind_some v u) h env t = grind arith
    stays_at no_way h env t = tt
    stays_at (match_on u arms) h env t = grind (arith, common_steps, stays_arms arms h, stays_in_braces)
    stays_at (if_equal a b body) h env t = grind (arith, common_steps, stays body h env t, stays_in_braces, stays_if)
    stays_at (for_each_of v from body) h env t = grind (arith, stays body h, stays_each)
    stays_at (give at u) h env t = grind (arith, stays_if)
    stays_at (labelled body) h env t = absurd (false≢true h)
    stays_at (unless_let u pattern fields) h env t = absurd (false≢true h)
    stays_at (unless_equal a b) h env t = absurd (false≢true h)

    stays_arms : (arms : CodeArms) → unlabelled_arms arms ≡ true → (c : Content) (env : Env) (t : Trace) → Stays (run_code_arms arms w most c env t)
    stays_arms no_code_arm h c env t = tt
    stays_arms (code_arm pattern fields body rest) h c env t =
        stays_met (content_fields w.meaning pattern c) fields env t (λ env'. run_block body w most env' t) (run_code_arms rest w most c env t) (λ env'. stays body (left_of _ _ h) env' t) (stays_arms rest (right_of _ _ h) c env t)

  -- 3. by induction
  module _ (deep : ℕ → Bool) where
    body_same : (b : Bool) (e : Env) (opened flattened body : Block) (env : Env) (t : Trace) → Stays (run_block body w most env t)
        → in_label env (run_block opened w most env t) ≡ in_label env (run_block body w most env t) → run_block flattened w most env t ≡ run_block body w most env t
        → in_braces e (run_block (within b opened flattened) w most env t) ≡ in_braces e (run_block body w most env t)
    body_same b e opened flattened body env t s o f = grind (arith, common_steps, alone)

    mutual
      flat_same : (b : Block) → unlabelled b ≡ true → (n : ℕ) (env : Env) (t : Trace) → run_block (flat b deep n) w most env t ≡ run_block b w most env t
      flat_same no_statement h n env t = refl
      flat_same (statement s rest) h n env t =
          ap (λ f. then_flow f (run_block (flat rest deep n) w most)) (flat_at_same s (left_of _ _ h) n env t)
          ∙ same_then (run_statement s w most env t) (run_block (flat rest deep n) w most) (run_block rest w most) (flat_same rest (right_of _ _ h) n)

      flat_at_same : (s : Statement) → unlabelled_at s ≡ true → (n : ℕ) (env : Env) (t : Trace) → run_statement (flat_at s deep n) w most env t ≡ run_statement s w most env t
      flat_at_same (match_on u arms) h n env t = grind (arith, common_steps, flat_arms_same arms h n env, same_content)
      flat_at_same (if_equal a b body) h n env t =
          same_equal env (held_value w env a) (held_value w env b) t (run_block (within (deep n) (leaving body deep (suc n)) (flat body deep (suc n))) w most env t) (run_block body w most env t) (goes_on env t)
          (body_same (deep n) env (leaving body deep (suc n)) (flat body deep (suc n)) body env t (stays body h env t) (leaving_same body h (suc n) env env t) (flat_same body h (suc n) env t))
      flat_at_same (for_each_of v from body) h n env t = grind (arith, leaving_same body h (suc n), flat_same body h (suc n), same_answers, body_same, stays)
      flat_at_same s h n env t = refl

      flat_arms_same : (arms : CodeArms) → unlabelled_arms arms ≡ true → (n : ℕ) (e : Env) (c : Content) (env : Env) (t : Trace)
          → in_braces e (run_code_arms (flat_arms arms deep n) w most c env t) ≡ in_braces e (run_code_arms arms w most c env t)
      flat_arms_same no_code_arm h n e c env t = refl
      flat_arms_same (code_arm pattern fields body rest) h n e c env t =
          same_met e (content_fields w.meaning pattern c) fields env t (λ env'. run_block (within (deep n) (leaving body deep (suc n)) (flat body deep (suc n))) w most env' t) (λ env'. run_block body w most env' t)
          (run_code_arms (flat_arms rest deep n) w most c env t) (run_code_arms rest w most c env t)
          (λ env'. body_same (deep n) e (leaving body deep (suc n)) (flat body deep (suc n)) body env' t (stays body (left_of _ _ h) env' t) (leaving_same body (left_of _ _ h) (suc n) env' env' t) (flat_same body (left_of _ _ h) (suc n) env' t))
          (flat_arms_same rest (right_of _ _ h) n e c env t)

      leaving_same : (b : Block) → unlabelled b ≡ true → (n : ℕ) (e env : Env) (t : Trace) → in_label e (run_block (leaving b deep n) w most env t) ≡ in_label e (run_block b w most env t)
      leaving_same no_statement h n e env t = refl
      leaving_same (statement s no_statement) h n e env t = leaving_last_same s (left_of _ _ h) n e env t ∙ ap (in_label e) (sym (alone (run_statement s w most env t)))
      leaving_same (statement s (statement next rest)) h n e env t =
          ap (λ f. in_label e (then_flow f (run_block (leaving (statement next rest) deep n) w most))) (flat_at_same s (left_of _ _ h) n env t)
          ∙ past_then e (run_statement s w most env t) (run_block (leaving (statement next rest) deep n) w most) (run_block (statement next rest) w most) (leaving_same (statement next rest) (right_of _ _ h) n e)

      leaving_last_same : (s : Statement) → unlabelled_at s ≡ true → (n : ℕ) (e env : Env) (t : Trace) → in_label e (run_block (leaving_last s deep n) w most env t) ≡ in_label e (run_statement s w most env t)
      leaving_last_same (bind v x) h n e env t = ap (in_label e) (alone (run_statement (bind v x) w most env t))
      leaving_last_same (bind_some v u) h n e env t = ap (in_label e) (alone (run_statement (bind_some v u) w most env t))
      leaving_last_same no_way h n e env t = refl
      leaving_last_same (match_on u arms) h n e env t = leaving_match_same u arms h n e env t
      leaving_last_same (if_equal a b body) h n e env t = grind (arith, common_steps, leaving_same body h n e env t, equal_opens, past_braces)
      leaving_last_same (for_each_of v from body) h n e env t =
          ap (in_label e) (grind (arith, common_steps, leaving_same body h (suc n), flat_same body h (suc n), alone, same_answers, body_same, stays))
      leaving_last_same (give at u) h n e env t = ap (in_label e) (alone (run_statement (give at u) w most env t))
      leaving_last_same (labelled body) h n e env t = absurd (false≢true h)
      leaving_last_same (unless_let u pattern fields) h n e env t = absurd (false≢true h)
      leaving_last_same (unless_equal a b) h n e env t = absurd (false≢true h)

      leaving_match_same : (u : PlaceUse) (arms : CodeArms) → unlabelled_arms arms ≡ true → (n : ℕ) (e env : Env) (t : Trace)
          → in_label e (run_block (leaving_match u arms deep n) w most env t) ≡ in_label e (run_statement (match_on u arms) w most env t)
      leaving_match_same u no_code_arm h n e env t = ap (in_label e) (alone (run_statement (match_on u no_code_arm) w most env t))
      leaving_match_same u (code_arm pattern fields body no_code_arm) h n e env t =
          content_opens e (held w env u.place) t (λ c. where_met (content_fields w.meaning pattern c) fields env t (λ env'. goes_on env' t) (leaves t)) (λ c. run_code_arms (code_arm pattern fields body no_code_arm) w most c env t) (run_block (leaving body deep n) w most)
          (λ c. met_opens e (content_fields w.meaning pattern c) fields env t (run_block (leaving body deep n) w most) (run_block body w most) (leaving_same body (left_of _ _ h) n e))
          ∙ sym (past_braces e env (on_content (held w env u.place) t (λ c. run_code_arms (code_arm pattern fields body no_code_arm) w most c env t)))
      leaving_match_same u (code_arm pattern fields body (code_arm p2 f2 b2 rest)) h n e env t =
          ap (in_label e) (alone (run_statement (match_on u (code_arm pattern fields (within (deep n) (leaving body deep (suc n)) (flat body deep (suc n))) (code_arm p2 f2 (within (deep n) (leaving b2 deep (suc n)) (flat b2 deep (suc n))) (flat_arms rest deep n)))) w most env t)
          ∙ same_content env (held w env u.place) t (λ c. run_code_arms (code_arm pattern fields (within (deep n) (leaving body deep (suc n)) (flat body deep (suc n))) (code_arm p2 f2 (within (deep n) (leaving b2 deep (suc n)) (flat b2 deep (suc n))) (flat_arms rest deep n))) w most c env t) (λ c. run_code_arms (code_arm pattern fields body (code_arm p2 f2 b2 rest)) w most c env t)
          (λ c. same_met env (content_fields w.meaning pattern c) fields env t (λ env'. run_block (within (deep n) (leaving body deep (suc n)) (flat body deep (suc n))) w most env' t) (λ env'. run_block body w most env' t)
          (run_code_arms (code_arm p2 f2 (within (deep n) (leaving b2 deep (suc n)) (flat b2 deep (suc n))) (flat_arms rest deep n)) w most c env t) (run_code_arms (code_arm p2 f2 b2 rest) w most c env t)
          (λ env'. body_same (deep n) env (leaving body deep (suc n)) (flat body deep (suc n)) body env' t (stays body (left_of _ _ h) env' t) (leaving_same body (left_of _ _ h) (suc n) env' env' t) (flat_same body (left_of _ _ h) (suc n) env' t))
          (same_met env (content_fields w.meaning p2 c) f2 env t (λ env'. run_block (within (deep n) (leaving b2 deep (suc n)) (flat b2 deep (suc n))) w most env' t) (λ env'. run_block b2 w most env' t)
          (run_code_arms (flat_arms rest deep n) w most c env t) (run_code_arms rest w most c env t)
          (λ env'. body_same (deep n) env (leaving b2 deep (suc n)) (flat b2 deep (suc n)) b2 env' t (stays b2 (left_of _ _ (right_of _ _ h)) env' t) (leaving_same b2 (left_of _ _ (right_of _ _ h)) (suc n) env' env' t) (flat_same b2 (left_of _ _ (right_of _ _ h)) (suc n) env' t))
          (flat_arms_same rest (right_of _ _ (right_of _ _ h)) n env c env t))))

pub flat_runs_same_lem : FlatRunsSame
flat_runs_same_lem b deep n w most env t h = flat_same w most deep b h n env t
