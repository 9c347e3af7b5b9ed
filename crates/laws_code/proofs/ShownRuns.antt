-- What a text shows of code runs as the code.
use Rattle.std.proofs.Common.{◌≡◌, ◌&&◌, ℕ, Bool, true, false, not, if◌then◌else◌, List, [], ◌∷◌, length, map, Option, Some, None, refl, sym, ap, ◌∙◌, subst, arith, eqb-true}
use Rattle.std.proofs.lemmas.Grind.{common_steps}
use Rattle.std.proofs.lemmas.Bool.{and_parts, and_from, not-true}
use Rattle.std.proofs.lemmas.List.{append-nil}
use Rattle.std.proofs.lemmas.Option.{same_Some, none-some}
use Rattle.model.specs.rules.Values.{Value, of_struct, no_value, value_and, value_eq}
use Rattle.model.specs.rules.Meaning.{Content, one, extractor_answer}
use Rattle.model.specs.rules.Outcome.{Call, then_option}
use Rattle.model.specs.sites.Sites.{Constraint}
use Rattle.model.specs.trees.Run.{World, Env, as_value, Bound, all_bound, unwrap_failed, no_content_there, now_bound, Trace, where_constant, content_fields, at_start}
use Rattle.model.proofs.ValuesEqual.{eq_means, eq_same}
use Rattle.model_code.specs.Code.{Place, Pass, PlaceUse, Expr, Block, no_statement, statement, Statement, bind, bind_some, no_way, match_on, if_equal, for_each_of, give, labelled, unless_let, unless_equal, CodeArms, no_code_arm, code_arm}
use Rattle.model_code.specs.CodeRuns.{held, held_value, held_values, bind_expr, Flow, goes_on, leaves, returns, fails, sticks, then_flow, in_braces, in_label, flow_of_bound, give_content, where_met, on_content, where_equal, each_flow, run_block, run_statement, run_code_arms, outcome_of, code_run}
use Rattle.model_code.specs.CodeLaws.{IsBeginning}
use Rattle.model_code.specs.Tokens.{struct_owner}
use Rattle.model_code.specs.Notation.{Notation, Shape, extractor_of}
use Rattle.model_code.specs.Pieces.{result_ends, is_end, unless_end}
use Rattle.model_code.specs.Shown.{shown_place, shown_use, shown_uses, shown_made, shown_expr, test_at, equal_or_match, unless_either, shown, shown_at, shown_arms}
use Rattle.model_code.specs.Written.{written, written_at, written_arms}
use Rattle.model_code.specs.ReadsBack.{takes, expr_writable, pattern_writable, match_writable, writable, writable_at, writable_arms}
use Rattle.model_code.proofs.Written.{written_writable}
use Rattle.laws_code.specs.ShownRuns.{ShownExterns, ShownWorld, world_of_shown, called, bind_shown, run_shown, run_shown_at, run_shown_arms}
use Rattle.laws_code.specs.ShownLaws.{expr_calls_as, calls_as, calls_as_at, arms_call_as, by_number, outcome_by_number, SaysWhatIsAround, shown_world, ShownCodeRunsAsCode}
use Rattle.model_code.proofs.CodeCut.{beginning_over}
use Rattle.model_code.proofs.Opening.{alone}
use Rattle.laws_code.proofs.Growing.{calls_in, Grows, each_grows, block_grows}
use Rattle.laws_code.proofs.WrittenRuns.{ends_there, written_runs}

-- 1. the code that is written calls as the code does
module _ (p : Notation) (is_impure : ℕ → Bool) where
  mutual
    written_call : (b : Block) → calls_as p is_impure b ≡ true → calls_as p is_impure (written p b) ≡ true
    written_call (statement s later) h = grind (arith, common_steps, written_call_at s, written_call later, and_parts, and_from)
    written_call no_statement h = refl

    written_call_at : (s : Statement) → calls_as_at p is_impure s ≡ true → calls_as_at p is_impure (written_at p s) ≡ true
    written_call_at (match_on u arms) h = written_arms_call arms h
    written_call_at (if_equal a b body) h = grind (arith, written_call body h, and_parts)
    written_call_at (for_each_of v from body) h = grind (arith, written_call body h, and_parts)
    written_call_at (labelled body) h = written_call body h
    written_call_at s h = h

    written_arms_call : (arms : CodeArms) → arms_call_as p is_impure arms ≡ true → arms_call_as p is_impure (written_arms p arms) ≡ true
    written_arms_call (code_arm pattern fields body rest) h = grind (arith, common_steps, written_call body, written_arms_call rest, and_parts, and_from)
    written_arms_call no_code_arm h = refl

abbrev is_stuck : Flow → Bool
is_stuck (sticks t) = true
is_stuck f = false

turned : (u v : Value) → value_eq u v ≡ value_eq v u
turned u v = grind (arith, common_steps, eq_means u v, eq_same v, eq_means v u, eq_same u)

module _ (p : Notation) (w : World) (around : ShownExterns) (most : Option ℕ) (kind : w.multi ≡ not (result_ends p)) (all : List Call) (says : SaysWhatIsAround p w.meaning around all) where
  abbrev sw : ShownWorld
  sw = shown_world around w

  abbrev ws : World
  ws = world_of_shown sw

  abbrev numbered : Trace → Trace
  numbered t = record { calls = map (by_number p) t.calls; results = t.results }

  abbrev numbered_flow : Flow → Flow
  numbered_flow (goes_on env t) = goes_on env (numbered t)
  numbered_flow (leaves t) = leaves (numbered t)
  numbered_flow (returns t) = returns (numbered t)
  numbered_flow (fails t) = fails (numbered t)
  numbered_flow (sticks t) = sticks (numbered t)

  -- its calls are among those of the whole run, and it isn't stuck
  abbrev Fine : Flow → Type 0
  Fine f = IsBeginning (calls_in f) all × (is_stuck f ≡ false)

  -- 2. how flows are made
  then_fine : (f : Flow) (go : Env → Trace → Flow) → ((env : Env) (t : Trace) → Grows t (go env t)) → Fine (then_flow f go) → Fine f
  then_fine (goes_on env t) go grow h = (beginning_over t.calls (calls_in (go env t)) all (grow env t) h.0, refl)
  then_fine f go grow h = grind (arith, common_steps)

  braces_fine : (env : Env) (f : Flow) → Fine (in_braces env f) → Fine f
  braces_fine env f h = grind (arith, common_steps)

  braces_numbered : (env : Env) (f : Flow) → in_braces env (numbered_flow f) ≡ numbered_flow (in_braces env f)
  braces_numbered env f = grind (arith, common_steps)

  met_shown : (o : Option (List Content)) (fields : List (Option ℕ)) (env : Env) (t : Trace) (go go' : Env → Flow) (other other' : Flow) → Fine (where_met o fields env t go other)
      → ((env' : Env) → Fine (go env') → go' env' ≡ numbered_flow (go env')) → (Fine other → other' ≡ numbered_flow other) → where_met o fields env (numbered t) go' other' ≡ numbered_flow (where_met o fields env t go other)
  met_shown o fields env t go go' h other' fine i k = grind (arith, common_steps)

  each_shown : (cs : List Content) (go go' : Content → Trace → Flow) (env : Env) → ((c : Content) (t : Trace) → Grows t (go c t)) → ((c : Content) (t : Trace) → Fine (go c t) → go' c (numbered t) ≡ numbered_flow (go c t))
      → (t : Trace) → Fine (each_flow cs go env t) → each_flow cs go' env (numbered t) ≡ numbered_flow (each_flow cs go env t)
  each_shown [] go go' env grow h t fine = refl
  each_shown (c ∷ cs) go go' env grow h t fine = grind (arith, each_shown cs go go' env grow h, braces_fine, then_fine, each_grows, braces_numbered)

  -- 3. what is read
  held_shown : (env : Env) (place : Place) → held ws env (shown_place p place) ≡ held w env place
  held_shown env place = grind (arith, common_steps)

  value_shown : (env : Env) (u : PlaceUse) → held_value ws env (shown_use p u) ≡ held_value w env u
  value_shown env u = ap (λ o. then_option o as_value) (held_shown env u.place)

  values_shown : (env : Env) (us : List PlaceUse) → held_values ws env (shown_uses p us) ≡ held_values w env us
  values_shown env [] = refl
  values_shown env (u ∷ us) = λ i. then_option (value_shown env u i) (λ v. then_option (values_shown env us i) (λ vs. Some (value_and v vs)))

  abbrev numbered_bound : Bound → Bound
  numbered_bound (all_bound env calls) = all_bound env (map (by_number p) calls)
  numbered_bound (unwrap_failed calls) = unwrap_failed (map (by_number p) calls)
  numbered_bound (no_content_there calls) = no_content_there (map (by_number p) calls)

  -- 4. calls
  extracted_shown : (env : Env) (t : Trace) (v term : ℕ) (o : Option Value) → around.is_impure (p.function (extractor_of term)) ≡ false
      → called around env (map (by_number p) t.calls) v (p.function (extractor_of term)) (then_option o (λ x. Some (value_and x no_value))) ≡ numbered_bound (now_bound env t.calls v (then_option o (extractor_answer w.meaning term)))
  extracted_shown env t v term o h = grind (arith, common_steps)

  -- 5. what is bound
  struct_shown : (env : Env) (t : Trace) (v ty : ℕ) (shape : Shape) (us : List PlaceUse) → takes shape (length us) ≡ true
      → bind_shown sw env (map (by_number p) t.calls) v (shown_made (struct_owner ty) shape (shown_uses p us)) ≡ numbered_bound (now_bound env t.calls v (then_option (held_values w env us) (λ vs. Some (one (of_struct ty vs)))))
  struct_shown env t v ty shape us h = grind (arith, common_steps, eqb-true, values_shown)

  expr_shown : (env : Env) (t : Trace) (v : ℕ) (e : Expr) → expr_writable p e ≡ true → expr_calls_as p around.is_impure e ≡ true → Fine (flow_of_bound (bind_expr w env t.calls v e) t)
      → bind_shown sw env (map (by_number p) t.calls) v (shown_expr p e) ≡ numbered_bound (bind_expr w env t.calls v e)
  expr_shown env t v e wr ca fine = grind (arith, common_steps, held_shown, value_shown, extracted_shown, not-true, values_shown, struct_shown)

  -- 6. patterns
  -- 7. a comparison that is shown as a match
  abbrev IsTest : Env → PlaceUse → Place → (PlaceUse × Constraint) → Type 0
  IsTest env a place test = (test.0.place ≡ a.place) × ((v : Value) → content_fields ws.meaning test.1 (one v) ≡ where_constant (then_option (held ws env place) as_value) v)

  test_is : (env : Env) (a : PlaceUse) (place : Place) (pass : Pass) (test : PlaceUse × Constraint) → test_at p a place pass ≡ Some test → IsTest env a place test
  test_is env a place pass test e = grind (arith, common_steps, same_Some, none-some)

  compared : (x : Option Content) (y : Option Value) (env : Env) (t : Trace) (k : Constraint) (go : Env → Flow) (body other other' : Flow) → ((v : Value) → content_fields ws.meaning k (one v) ≡ where_constant y v)
      → Fine (where_equal (then_option x as_value) y t body other) → (Fine body → go env ≡ numbered_flow body) → (Fine other → other' ≡ numbered_flow other)
      → on_content x (numbered t) (λ c. where_met (content_fields ws.meaning k c) [] env (numbered t) go other') ≡ numbered_flow (where_equal (then_option x as_value) y t body other)
  compared (Some (one v)) (Some u) env t k go body other other' m fine f g =
      ap (λ o. where_met o [] env (numbered t) go other') (m v) ∙ (λ i. where_met (if turned u v i then Some [] else None) [] env (numbered t) go other') ∙ on (value_eq v u) fine
    where
      on : (b : Bool) → Fine (if b then body else other) → where_met (if b then Some [] else None) [] env (numbered t) go other' ≡ numbered_flow (if b then body else other)
      on true fine = f fine
      on false fine = g fine
  compared x y env t k go body h other' m fine f g = grind (arith, common_steps)

  tested : (test : PlaceUse × Constraint) (a b : PlaceUse) (env : Env) (t : Trace) (go : Env → Flow) (body other other' : Flow) → IsTest env (shown_use p a) (shown_place p b.place) test
      → Fine (where_equal (held_value w env a) (held_value w env b) t body other) → (Fine body → go env ≡ numbered_flow body) → (Fine other → other' ≡ numbered_flow other)
      → on_content (held ws env test.0.place) (numbered t) (λ c. where_met (content_fields ws.meaning test.1 c) [] env (numbered t) go other') ≡ numbered_flow (where_equal (held_value w env a) (held_value w env b) t body other)
  tested test a b env t go body other other' is fine f g =
      ap (λ o. on_content o (numbered t) (λ c. where_met (content_fields ws.meaning test.1 c) [] env (numbered t) go other')) (ap (held ws env) is.0 ∙ held_shown env a.place)
      ∙ compared (held w env a.place) (held_value w env b) env t test.1 go body other other' (λ v. is.1 v ∙ ap (λ o. where_constant o v) (value_shown env b)) fine f g

  if_equal_shown : (o : Option (PlaceUse × Constraint)) (a b : PlaceUse) (body : Block) (env : Env) (t : Trace) → test_at p (shown_use p a) (shown_place p b.place) b.pass ≡ o
      → Fine (where_equal (held_value w env a) (held_value w env b) t (run_block body w most env t) (goes_on env t)) → (Fine (run_block body w most env t) → run_shown (shown p body) sw most env (numbered t) ≡ numbered_flow (run_block body w most env t))
      → run_shown_at (equal_or_match o (shown_use p a) (shown_use p b) (shown p body)) sw most env (numbered t) ≡ numbered_flow (run_statement (if_equal a b body) w most env t)
  if_equal_shown None a b body env t e fine f = grind (arith, common_steps, value_shown, braces_numbered)
  if_equal_shown (Some test) a b body env t e fine f =
      ap (in_braces env) (tested test a b env t (λ env'. run_shown (shown p body) sw most env' (numbered t)) (run_block body w most env t) (goes_on env t) (goes_on env (numbered t)) (test_is env (shown_use p a) (shown_place p b.place) b.pass test e) fine f (λ k. refl))
      ∙ braces_numbered env (where_equal (held_value w env a) (held_value w env b) t (run_block body w most env t) (goes_on env t))

  unless_equal_shown : (o : Option (PlaceUse × Constraint)) (a b : PlaceUse) (env : Env) (t : Trace) → test_at p (shown_use p a) (shown_place p b.place) b.pass ≡ o
      → Fine (where_equal (held_value w env a) (held_value w env b) t (goes_on env t) (leaves t)) → run_shown_at (unless_either o (shown_use p a) (shown_use p b)) sw most env (numbered t) ≡ numbered_flow (run_statement (unless_equal a b) w most env t)
  unless_equal_shown None a b env t e fine = grind (arith, common_steps, value_shown)
  unless_equal_shown (Some test) a b env t e fine =
      tested test a b env t (λ env'. goes_on env' (numbered t)) (goes_on env t) (leaves t) (leaves (numbered t)) (test_is env (shown_use p a) (shown_place p b.place) b.pass test e) fine (λ k. refl) (λ k. refl)

  -- 8. blocks
  later_shown : (ended : Bool) (s : Statement) (rest : Block) (label : Bool) (env : Env) (t : Trace) → is_end (result_ends p) s ≡ ended
      → (Fine (run_statement s w most env t) → run_shown_at (shown_at p s) sw most env (numbered t) ≡ numbered_flow (run_statement s w most env t))
      → unless_end ended true (writable p label rest) ≡ true
      → (writable p label rest ≡ true → (env' : Env) (t' : Trace) → Fine (run_block rest w most env' t') → run_shown (shown p rest) sw most env' (numbered t') ≡ numbered_flow (run_block rest w most env' t'))
      → Fine (then_flow (run_statement s w most env t) (run_block rest w most))
      → then_flow (run_shown_at (shown_at p s) sw most env (numbered t)) (run_shown (unless_end ended no_statement (shown p rest)) sw most) ≡ numbered_flow (then_flow (run_statement s w most env t) (run_block rest w most))
  later_shown ended s rest label env t e h wr go fine = grind (arith, common_steps, ends_there, alone, then_fine, block_grows)

  mutual
    block_shown : (b : Block) (label : Bool) (env : Env) (t : Trace) → writable p label b ≡ true → calls_as p around.is_impure b ≡ true → Fine (run_block b w most env t)
        → run_shown (shown p b) sw most env (numbered t) ≡ numbered_flow (run_block b w most env t)
    block_shown no_statement label env t wr ca fine = refl
    block_shown (statement s rest) label env t wr ca fine =
        let wrs = and_parts (writable_at p label s) (unless_end (is_end (result_ends p) s) true (writable p label rest)) wr in
        let cas = and_parts (calls_as_at p around.is_impure s) (calls_as p around.is_impure rest) ca in
        later_shown (is_end (result_ends p) s) s rest label env t refl (statement_shown s label env t wrs.0 cas.0) wrs.1 (λ k env' t'. block_shown rest label env' t' k cas.1) fine

    statement_shown : (s : Statement) (label : Bool) (env : Env) (t : Trace) → writable_at p label s ≡ true → calls_as_at p around.is_impure s ≡ true → Fine (run_statement s w most env t)
        → run_shown_at (shown_at p s) sw most env (numbered t) ≡ numbered_flow (run_statement s w most env t)
    statement_shown (bind v e) label env t wr ca fine = grind (arith, expr_shown)
    statement_shown (bind_some v u) label env t wr ca fine = grind (arith, common_steps, held_shown)
    statement_shown no_way label env t wr ca fine = refl
    statement_shown (match_on u arms) label env t wr ca fine = grind (arith, arms_shown arms u label, held_shown, braces_fine, braces_numbered)
    statement_shown (if_equal a b body) label env t wr ca fine = grind (arith, common_steps, block_shown body label env t wr ca, if_equal_shown, braces_fine)
    statement_shown (for_each_of v from body) label env t wr ca fine = grind (arith, common_steps, block_shown body label, block_grows, each_shown)
    statement_shown (give at u) label env t wr ca fine = ap (λ o. give_content o w.multi most env (numbered t)) (held_shown env u.place) ∙ (grind (arith, common_steps))
    statement_shown (labelled body) label env t wr ca fine =
        ap (in_label env) (block_shown body _ env t wr ca (grind (arith, common_steps))) ∙ (grind (arith, common_steps))
    statement_shown (unless_let u pattern fields) label env t wr ca fine = grind (arith, common_steps, held_shown, met_shown)
    statement_shown (unless_equal a b) label env t wr ca fine = unless_equal_shown (test_at p (shown_use p a) (shown_place p b.place) b.pass) a b env t refl fine

    arms_shown : (arms : CodeArms) (u : PlaceUse) (label : Bool) (c : Content) (env : Env) (t : Trace) → writable_arms p label u arms ≡ true → arms_call_as p around.is_impure arms ≡ true → Fine (run_code_arms arms w most c env t)
        → run_shown_arms (shown_arms p arms) sw most c env (numbered t) ≡ numbered_flow (run_code_arms arms w most c env t)
    arms_shown no_code_arm u label c env t wr ca fine = refl
    arms_shown (code_arm pattern fields body rest) u label c env t wr ca fine =
        let wrs = and_parts (pattern_writable p pattern fields && match_writable p u pattern) (writable p label body && writable_arms p label u rest) wr in
        let ws' = and_parts (writable p label body) (writable_arms p label u rest) wrs.1 in
        let cas = and_parts (calls_as p around.is_impure body) (arms_call_as p around.is_impure rest) ca in
        ap (λ o. where_met o fields env (numbered t) (λ env'. run_shown (shown p body) sw most env' (numbered t)) (run_shown_arms (shown_arms p rest) sw most c env (numbered t))) (grind arith)
        ∙ met_shown (content_fields w.meaning pattern c) fields env t (λ env'. run_block body w most env' t) (λ env'. run_shown (shown p body) sw most env' (numbered t)) (run_code_arms rest w most c env t) (run_shown_arms (shown_arms p rest) sw most c env (numbered t))
        fine (λ env'. block_shown body label env' t ws'.0 cas.0) (arms_shown rest u label c env t ws'.1 cas.1)

pub calls_made : (f : Flow) → (outcome_of f).calls ≡ calls_in f
calls_made f = grind (arith, common_steps)

pub shown_code_runs_as_code_lem : ShownCodeRunsAsCode
shown_code_runs_as_code_lem p code w around most wr ca kind says unstuck =
    let all : List Call = (code_run code w most).calls in
    let same = written_runs p w most kind code [] at_start in
    let there : IsBeginning (calls_in (run_block code w most [] at_start)) all = ([], calls_made (run_block code w most [] at_start) ∙ sym (append-nil (calls_in (run_block code w most [] at_start)))) in
    ap outcome_of (block_shown p w around most kind all says (written p code) false [] at_start (written_writable p code false wr) (written_call p around.is_impure code ca)
    (subst (Fine p w around most kind all says) (sym same) (there, (grind (arith, common_steps)))))
    ∙ (grind (arith, common_steps))
    ∙ ap (λ f. outcome_by_number p (outcome_of f)) same
