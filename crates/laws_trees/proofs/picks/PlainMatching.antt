-- Without multi calls the two families of matching agree, whatever the pick.
use Rattle.std.proofs.Common.{◌≡◌, ◌==◌, arith, ℕ, zero, suc, Bool, false, cond, List, [], ◌∷◌, length, Option, Some, None, refl, ap, ◌∙◌}
use Rattle.std.proofs.lemmas.Grind.{common_steps}
use Rattle.model.specs.rules.Values.{Value, Values, no_value, value_and}
use Rattle.model.specs.rules.Meaning.{Content, Meaning, look, literal_value, bool_literal, int_literal, constant_value}
use Rattle.model.specs.rules.Outcome.{Call, then_option}
use Rattle.model.specs.rules.Program.{Program, Kind, flags_of, kind, is_partial}
use Rattle.model.specs.rules.Matching.{Vars, var_value, where_equal, parts_seen, holds, each_holds, all_hold, pure_term, pure_value, pure_values, pure_lets, args_hold, iflets_hold}
use Rattle.model.specs.rules.RightSide.{Eval, gives, EvalAll, EvalLets, gives_vars, ends_lets, apply, then_rest, then_lets, then_body, eval, eval_all, eval_lets, outcome_of}
use Rattle.model.specs.sites.Sites.{SiteTerm, argument, SiteTerms, fields_from}
use Rattle.model.specs.visits.Demands.{pattern_count, Opened, output_sites}
use Rattle.model.specs.rules.Picks.{Pick, taken_answer, Sited, sited, SitedVars, sited_value, values_in, expr_site, input_sites, where_same, parts_under, holds_under, each_holds_under, all_hold_under, term_under, value_under, values_under, lets_under, args_hold_under, iflets_hold_under, apply_under, SitedLets, gives_sited, ends_sited, then_sited_lets, then_sited_body, eval_under, eval_all_under, eval_lets_under}
use Rattle.model.specs.rules.Typed.{TypedPattern, match_bind, match_var, match_bool, match_int, match_prim, match_term, match_any, match_and, TypedPatterns, no_typed_pattern, typed_pattern_and, TypedExpr, make_term, make_var, make_bool, make_int, make_prim, make_let, TypedExprs, no_typed_expr, typed_expr_and, TypedLets, no_typed_let, typed_let_and, TypedIfLet}
use Rattle.model.proofs.Options.{then_same}
use Rattle.model.specs.rules.CallsNoMulti.{WhereKnown, PatternCallsNoMulti, PatternsCallNoMulti, ExprCallsNoMulti, ExprsCallNoMulti, LetsCallNoMulti, ArgsCallNoMulti, IfLetsCallNoMulti}
use Rattle.laws_trees.specs.WithoutMulti.{without_sites, MatchesAsPlain, EndsAsPlain}

-- 1. one after another
then_without_sites : (o : Option SitedVars) (f : SitedVars → Option SitedVars) (g : Vars → Option Vars) → ((e : SitedVars) → without_sites (f e) ≡ g (values_in e)) → without_sites (then_option o f) ≡ then_option (without_sites o) g
then_without_sites o f g h = grind (arith, common_steps)

after_without_sites : {X : Type 0} (o q : Option X) (f : X → Option SitedVars) (g : X → Option Vars) → o ≡ q → ((x : X) → without_sites (f x) ≡ g x) → without_sites (then_option o f) ≡ then_option q g
after_without_sites o q f g e h = grind (arith, common_steps)

-- 2. variables
found_same : (b : Bool) (s : Sited) (o : Option Sited) (q : Option (Option Value)) → then_option o (λ s. s.value) ≡ then_option q (λ o. o)
    → then_option (cond b (Some s) o) (λ s. s.value) ≡ then_option (cond b (Some s.value) q) (λ o. o)
found_same b s o q h = grind (arith, common_steps)

var_same : (e : SitedVars) (x : ℕ) → sited_value e x ≡ var_value (values_in e) x
var_same [] x = refl
var_same (b ∷ e) x = found_same (b.0 == x) b.1 (look (λ k. k == x) e) (look (λ k. k == x) (values_in e)) (var_same e x)

same_same : (o : Option Value) (v : Value) (e : SitedVars) → without_sites (where_same o v e) ≡ where_equal o v (values_in e)
same_same o v e = grind (arith, common_steps)

-- 3. the sites of a pattern's parts are as many as the parts
pub fields_count : (f : ℕ → SiteTerm) (i n : ℕ) → length (fields_from f i n) ≡ n
fields_count f i zero = refl
fields_count f i (suc n) = ap suc (fields_count f (suc i) n)

pub output_count : (s : SiteTerm) (qs : TypedPatterns) → length (output_sites s qs) ≡ pattern_count qs
output_count s no_typed_pattern = refl
output_count s (typed_pattern_and q no_typed_pattern) = refl
output_count s (typed_pattern_and q (typed_pattern_and r rs)) = fields_count _ 0 (pattern_count (typed_pattern_and q (typed_pattern_and r rs)))

pub either_count : (b : Bool) (x y : Opened) (n : ℕ) → length x.inputs ≡ n → length y.inputs ≡ n → length (cond b x y).inputs ≡ n
either_count b x y n g h = grind (arith, common_steps)

input_count : (kd : Kind) (t : ℕ) (s : SiteTerm) (qs : TypedPatterns) (v : Value) (m : Meaning) (vs : Values) → parts_seen kd m t v ≡ Some vs → length (input_sites kd t s qs) ≡ pattern_count qs
input_count kd t s qs v m vs h = grind (arith, common_steps, fields_count, output_count, either_count)

where_seen : (kd : Kind) (P : Type 0) (t : ℕ) (v : Value) (m : Meaning) (vs : Values) → WhereKnown kd P → parts_seen kd m t v ≡ Some vs → P
where_seen kd P t v m vs c h = grind (arith, common_steps)

-- 4. calls that are not multi
answer_same : {Y : Type 0} (b : Bool) (k : Pick) (call : SiteTerm) (o : Option Content) (f : Content → Option Y) → b ≡ false → then_option (then_option o (taken_answer b k call)) f ≡ then_option o f
answer_same b k call o f e = grind (arith, common_steps)

parts_same : (kd : Kind) (m : Meaning) (k : Pick) (t : ℕ) (s : SiteTerm) (v : Value) → (flags_of kd).multi ≡ false → parts_under kd m k t s v ≡ parts_seen kd m t v
parts_same kd m k t s v h = grind (arith, common_steps)

term_same : (kd : Kind) (m : Meaning) (k : Pick) (t : ℕ) (ss : SiteTerms) (vs : Values) → (flags_of kd).multi ≡ false → term_under kd m k t ss vs ≡ pure_term kd m t vs
term_same kd m k t ss vs h = grind (arith, common_steps)

abbrev lets_without_sites : SitedLets → EvalLets
lets_without_sites (gives_sited e calls) = gives_vars (values_in e) calls
lets_without_sites (ends_sited calls) = ends_lets calls

module _ (p : Program) (m : Meaning) (k : Pick) where
  -- 5. patterns
  pattern_term_same : (kd : Kind) (t : ℕ) (s : SiteTerm) (v : Value) (args : TypedPatterns) (e : SitedVars) → (flags_of kd).multi ≡ false
      → WhereKnown kd (PatternsCallNoMulti p args)
      → ((ss : List SiteTerm) (vs : Values) → PatternsCallNoMulti p args → length ss ≡ pattern_count args → without_sites (each_holds_under p m k args ss vs e) ≡ each_holds p m args vs (values_in e))
      → without_sites (then_option (parts_under kd m k t s v) (λ vs. each_holds_under p m k args (input_sites kd t s args) vs e)) ≡ then_option (parts_seen kd m t v) (λ vs. each_holds p m args vs (values_in e))
  pattern_term_same kd t s v args e h c ih =
      ap (λ o. without_sites (then_option o (λ vs. each_holds_under p m k args (input_sites kd t s args) vs e))) (parts_same kd m k t s v h) ∙ seen (parts_seen kd m t v) (λ vs g. (where_seen kd (PatternsCallNoMulti p args) t v m vs c g, input_count kd t s args v m vs g))
    where
      seen : (o : Option Values) → ((vs : Values) → o ≡ Some vs → PatternsCallNoMulti p args × (length (input_sites kd t s args) ≡ pattern_count args))
          → without_sites (then_option o (λ vs. each_holds_under p m k args (input_sites kd t s args) vs e)) ≡ then_option o (λ vs. each_holds p m args vs (values_in e))
      seen None g = refl
      seen (Some vs) g = let a = g vs refl in ih (input_sites kd t s args) vs a.0 a.1

  mutual
    holds_same : (q : TypedPattern) (s : SiteTerm) (v : Value) (e : SitedVars) → PatternCallsNoMulti p q → without_sites (holds_under p m k q s v e) ≡ holds p m q v (values_in e)
    holds_same (match_bind ty x sub) s v e h = holds_same sub s v ((x, sited s (Some v)) ∷ e) h
    holds_same (match_var ty x) s v e h = same_same (sited_value e x) v e ∙ ap (λ o. where_equal o v (values_in e)) (var_same e x)
    holds_same (match_bool ty b) s v e h = same_same (literal_value m (bool_literal b ty)) v e
    holds_same (match_int ty z) s v e h = same_same (literal_value m (int_literal z ty)) v e
    holds_same (match_prim ty name) s v e h = same_same (constant_value m name) v e
    holds_same (match_term ty t args) s v e h = pattern_term_same (kind p t) t s v args e h.0 h.1 (λ ss vs c n. each_same args ss vs e c n)
    holds_same (match_any ty) s v e h = refl
    holds_same (match_and ty subs) s v e h = all_same subs s v e h

    each_same : (qs : TypedPatterns) (ss : List SiteTerm) (vs : Values) (e : SitedVars) → PatternsCallNoMulti p qs → length ss ≡ pattern_count qs → without_sites (each_holds_under p m k qs ss vs e) ≡ each_holds p m qs vs (values_in e)
    each_same no_typed_pattern [] no_value e h n = refl
    each_same no_typed_pattern [] (value_and v vs) e h n = refl
    each_same no_typed_pattern (s ∷ ss) vs e h n = absurd (omega (arith, n))
    each_same (typed_pattern_and q qs) [] vs e h n = absurd (omega (arith, n))
    each_same (typed_pattern_and q qs) (s ∷ ss) no_value e h n = refl
    each_same (typed_pattern_and q qs) (s ∷ ss) (value_and v vs) e h n = grind (arith, common_steps, each_same qs ss vs, holds_same q s v e h.0, then_without_sites)

    all_same : (qs : TypedPatterns) (s : SiteTerm) (v : Value) (e : SitedVars) → PatternsCallNoMulti p qs → without_sites (all_hold_under p m k qs s v e) ≡ all_hold p m qs v (values_in e)
    all_same no_typed_pattern s v e h = refl
    all_same (typed_pattern_and q qs) s v e h = grind (arith, common_steps, all_same qs s v, holds_same q s v e h.0, then_without_sites)

  -- 6. values
  mutual
    value_same : (x : TypedExpr) (e : SitedVars) → ExprCallsNoMulti p x → value_under p m k x e ≡ pure_value p m x (values_in e)
    value_same (make_term ty t args) e h = grind (arith, common_steps, values_same args e h.1, then_same, term_same)
    value_same (make_var ty x) e h = var_same e x
    value_same (make_bool ty b) e h = refl
    value_same (make_int ty z) e h = refl
    value_same (make_prim ty name) e h = refl
    value_same (make_let ty defs body) e h = value_same body (lets_under p m k defs e) h.1 ∙ ap (pure_value p m body) (lets_same defs e h.0)

    values_same : (xs : TypedExprs) (e : SitedVars) → ExprsCallNoMulti p xs → values_under p m k xs e ≡ pure_values p m xs (values_in e)
    values_same no_typed_expr e h = refl
    values_same (typed_expr_and x xs) e h = grind (arith, common_steps, value_same x e h.0, values_same xs e h.1)

    lets_same : (xs : TypedLets) (e : SitedVars) → LetsCallNoMulti p xs → values_in (lets_under p m k xs e) ≡ pure_lets p m xs (values_in e)
    lets_same no_typed_let e h = refl
    lets_same (typed_let_and x ty value rest) e h =
        lets_same rest ((x, sited (expr_site p value e 0) (value_under p m k value e)) ∷ e) h.1
        ∙ ap (λ o. pure_lets p m rest ((x, o) ∷ values_in e)) (value_same value e h.0)

  -- 7. left sides
  args_same : (i : ℕ) (qs : List TypedPattern) (vs : List Value) (e : SitedVars) → ArgsCallNoMulti p qs → without_sites (args_hold_under p m k i qs vs e) ≡ args_hold p m qs vs (values_in e)
  args_same i [] [] e h = refl
  args_same i [] (v ∷ vs) e h = refl
  args_same i (q ∷ qs) [] e h = refl
  args_same i (q ∷ qs) (v ∷ vs) e h =
      then_without_sites (holds_under p m k q (argument i) v e) (λ e'. args_hold_under p m k (suc i) qs vs e') (λ e'. args_hold p m qs vs e') (λ e'. args_same (suc i) qs vs e' h.1)
      ∙ ap (λ o. then_option o (λ e'. args_hold p m qs vs e')) (holds_same q (argument i) v e h.0)

  iflets_same : (is : List TypedIfLet) (e : SitedVars) → IfLetsCallNoMulti p is → without_sites (iflets_hold_under p m k is e) ≡ iflets_hold p m is (values_in e)
  iflets_same [] e h = refl
  iflets_same (i ∷ is) e h =
      after_without_sites (value_under p m k i.rhs e) (pure_value p m i.rhs (values_in e))
      (λ v. then_option (holds_under p m k i.lhs (expr_site p i.rhs e 0) v e) (λ e'. iflets_hold_under p m k is e'))
      (λ v. then_option (holds p m i.lhs v (values_in e)) (λ e'. iflets_hold p m is e'))
      (value_same i.rhs e h.1)
      (λ v.
      then_without_sites (holds_under p m k i.lhs (expr_site p i.rhs e 0) v e) (λ e'. iflets_hold_under p m k is e') (λ e'. iflets_hold p m is e') (λ e'. iflets_same is e' h.2)
      ∙ ap (λ o. then_option o (λ e'. iflets_hold p m is e')) (holds_same i.lhs (expr_site p i.rhs e 0) v e h.0))

  -- 8. right sides
  applied_same : (kd : Kind) (t : ℕ) (ss : SiteTerms) (a : EvalAll) → (flags_of kd).multi ≡ false → apply_under kd m k t ss a ≡ apply kd m t a
  applied_same kd t ss a h = grind (arith, common_steps, answer_same)

  rest_same : (x y : Eval) (f g : List Call → EvalAll) → x ≡ y → ((calls : List Call) → f calls ≡ g calls) → then_rest x f ≡ then_rest y g
  rest_same x y f g e h = grind (arith, common_steps)

  then_lets_same : (x y : Eval) (f : Option Value → List Call → SitedLets) (g : Option Value → List Call → EvalLets) → x ≡ y
      → ((o : Option Value) (calls : List Call) → lets_without_sites (f o calls) ≡ g o calls) → lets_without_sites (then_sited_lets x f) ≡ then_lets y g
  then_lets_same x y f g e h = grind (arith, common_steps)

  then_body_same : (x : SitedLets) (y : EvalLets) (f : SitedVars → List Call → Eval) (g : Vars → List Call → Eval) → lets_without_sites x ≡ y
      → ((e : SitedVars) (calls : List Call) → f e calls ≡ g (values_in e) calls) → then_sited_body x f ≡ then_body y g
  then_body_same x y f g e h = grind (arith, common_steps)

  mutual
    eval_same : (x : TypedExpr) (e : SitedVars) (calls : List Call) → ExprCallsNoMulti p x → eval_under p m k x e calls ≡ eval p m x (values_in e) calls
    eval_same (make_term ty t args) e calls h = grind (arith, common_steps, eval_all_same args e calls h.1, applied_same)
    eval_same (make_var ty x) e calls h = ap (λ o. gives o calls) (var_same e x)
    eval_same (make_bool ty b) e calls h = refl
    eval_same (make_int ty z) e calls h = refl
    eval_same (make_prim ty name) e calls h = refl
    eval_same (make_let ty defs body) e calls h = grind (arith, common_steps, eval_lets_same defs e calls h.0, eval_same body, then_body_same)

    eval_all_same : (xs : TypedExprs) (e : SitedVars) (calls : List Call) → ExprsCallNoMulti p xs → eval_all_under p m k xs e calls ≡ eval_all p m xs (values_in e) calls
    eval_all_same no_typed_expr e calls h = refl
    eval_all_same (typed_expr_and x xs) e calls h = grind (arith, common_steps, eval_same x e calls h.0, eval_all_same xs e, rest_same)

    eval_lets_same : (xs : TypedLets) (e : SitedVars) (calls : List Call) → LetsCallNoMulti p xs → lets_without_sites (eval_lets_under p m k xs e calls) ≡ eval_lets p m xs (values_in e) calls
    eval_lets_same no_typed_let e calls h = refl
    eval_lets_same (typed_let_and x ty value rest) e calls h = grind (arith, common_steps, eval_same value e calls h.0, eval_lets_same rest, then_lets_same)

pub matches_as_plain_lem : MatchesAsPlain
matches_as_plain_lem p m k r args h =
    then_without_sites (args_hold_under p m k 0 r.args args []) (λ e. iflets_hold_under p m k r.iflets e) (λ e. iflets_hold p m r.iflets e) (λ e. iflets_same p m k r.iflets e h.conditions)
    ∙ ap (λ o. then_option o (λ e. iflets_hold p m r.iflets e)) (args_same p m k 0 r.args args [] h.patterns)

pub ends_as_plain_lem : EndsAsPlain
ends_as_plain_lem p m k r e h = ap (outcome_of (is_partial p r.root_term)) (eval_same p m k r.rhs e [] h.right)
