-- Picks: which answer of each multi call is taken, what a rule does under a pick, and the bag of a term's results.
use Rattle.std.specs.Prelude.{◌≡◌, ℕ, zero, suc, ◌<◌, Bool, true, false, List, [], ◌∷◌, ◌++◌, length, map, Option, Some, None, if◌then◌else◌, slice_get, is_some, Contains, IsTrue}
use Rattle.std.specs.Bool.{◌==◌}
use Rattle.std.specs.List.{flat_map}
use Rattle.model.specs.rules.Values.{Value, of_variant, of_struct, Values, no_value, value_and, value_eq, listed}
use Rattle.model.specs.rules.Meaning.{Content, one, just, many, Contents, contents, Meaning, look, bool_literal, int_literal, literal_value, constant_value, extractor_answer, pure_answer, impure_answer, answered_outputs}
use Rattle.model.specs.rules.Outcome.{Call, Outcome, then_option}
use Rattle.model.specs.rules.Program.{Program, Kind, a_variant, a_struct, a_call, unknown, kind, is_partial, numbers_from}
use Rattle.model.specs.rules.Matching.{parts_seen, single, pure_term}
use Rattle.model.specs.rules.RightSide.{Eval, gives, ends, EvalAll, gives_all, ends_all, or_end, applied, then_rest, outcome_of}
use Rattle.model.specs.trees.Run.{as_value, from_value, part_at}
use Rattle.model.specs.sites.Sites.{SiteTerm, bool_term, int_term, prim_term, argument, extractor_call, constructor_call, pick_of, variant_made, variant_field, struct_made, struct_field, some_made, some_part, tuple_part, no_site, SiteTerms, no_site_term, site_term_and}
use Rattle.model.specs.visits.Demands.{site_term_eq, Visit, visit_start, open_term, visit_expr, visit_exprs, demands_of, with_sites}
use Rattle.model.specs.rules.Typed.{TypedPattern, match_bind, match_var, match_bool, match_int, match_prim, match_term, match_any, match_and, TypedPatterns, no_typed_pattern, typed_pattern_and, TypedExpr, make_term, make_var, make_bool, make_int, make_prim, make_let, TypedExprs, no_typed_expr, typed_expr_and, TypedLets, no_typed_let, typed_let_and, TypedIfLet, TypedRule}

-- multi calls, each with a place in the list that it answers. A call is its site: calls of one term on the same sites
-- are one call and take one place. An impure call's site also tells its place among the rule's impure calls, so two
-- impure calls on the same sites are two calls: each has the answer that the meaning gives it, and a place of its own
abbrev pub Pick : Type 0
Pick = List (SiteTerm × ℕ)

-- the place that a pick gives a call, where it names it
abbrev pub place_of : Pick → SiteTerm → Option ℕ
place_of k call = look (λ s. site_term_eq s call) k

-- of the answers of a multi call, the one that the pick takes
abbrev pub picked : Pick → SiteTerm → Content → Option Content
picked k call (many cs) = then_option (place_of k call) (slice_get (contents cs))
picked k call _ = None

-- what a call comes to under a pick: where it isn't multi, what it answers
abbrev pub taken_answer : Bool → Pick → SiteTerm → Content → Option Content
taken_answer true k call c = picked k call c
taken_answer false k call c = Some c

-- the field of a value of that variant
abbrev pub field_of_variant : ℕ → ℕ → Value → Option Content
field_of_variant variant i (of_variant ty j vs) = if j == variant then from_value (slice_get (listed vs) i) else None
field_of_variant variant i _ = None

-- the field of a struct's value
abbrev pub field_of_struct : ℕ → Value → Option Content
field_of_struct i (of_struct ty vs) = from_value (slice_get (listed vs) i)
field_of_struct i _ = None

-- what an answer has, where it isn't nothing
abbrev pub part_of_some : Content → Option Content
part_of_some (just c) = Some c
part_of_some _ = None

-- what a constructor's call answers by its place among the rule's impure calls, from 1, or 0 for a pure call
abbrev pub call_answer : Meaning → ℕ → ℕ → Values → Option Content
call_answer m t zero vs = pure_answer m t vs
call_answer m t (suc before) vs = impure_answer m t before

-- the one content of a site on these arguments under a pick, where it has one
abbrev mutual
  pub site_content : Meaning → List Value → Pick → SiteTerm → Option Content
  site_content m args k (bool_term b ty) = from_value (literal_value m (bool_literal b ty))
  site_content m args k (int_term z ty) = from_value (literal_value m (int_literal z ty))
  site_content m args k (prim_term name) = from_value (constant_value m name)
  site_content m args k (argument i) = from_value (slice_get args i)
  site_content m args k (extractor_call t s) = then_option (then_option (site_content m args k s) as_value) (extractor_answer m t)
  site_content m args k (constructor_call t ss instance) = then_option (site_values m args k ss) (call_answer m t instance)
  site_content m args k (pick_of s) = then_option (site_content m args k s) (picked k s)
  site_content m args k (variant_made ty variant ss) = then_option (site_values m args k ss) (λ vs. Some (one (of_variant ty variant vs)))
  site_content m args k (variant_field s variant i) = then_option (then_option (site_content m args k s) as_value) (field_of_variant variant i)
  site_content m args k (struct_made ty ss) = then_option (site_values m args k ss) (λ vs. Some (one (of_struct ty vs)))
  site_content m args k (struct_field s i) = then_option (then_option (site_content m args k s) as_value) (field_of_struct i)
  site_content m args k (some_made s) = then_option (site_content m args k s) (λ c. Some (just c))
  site_content m args k (some_part s) = then_option (site_content m args k s) part_of_some
  site_content m args k (tuple_part s i) = then_option (site_content m args k s) (λ c. part_at c i)
  site_content m args k no_site = None

  pub site_values : Meaning → List Value → Pick → SiteTerms → Option Values
  site_values m args k no_site_term = Some no_value
  site_values m args k (site_term_and s rest) = then_option (then_option (site_content m args k s) as_value) (λ v. then_option (site_values m args k rest) (λ vs. Some (value_and v vs)))

-- the site has a content on these arguments under a pick
abbrev pub HasContent : Meaning → List Value → Pick → SiteTerm → Type 0
HasContent m args k s = IsTrue (is_some (site_content m args k s))

-- the different multi calls of a rule, in the order met: a call comes after those that its arguments take answers of
abbrev pub multi_calls : Program → TypedRule → List SiteTerm
multi_calls p r = with_sites [] (demands_of p r).iterators

-- a pick of a rule: each of its different multi calls, in the order in which the rule's own visit first meets them, with
-- one place in the list that it answers under this pick. The order makes each pick one list; nothing that is done under a
-- pick depends on it, but on the places alone. A set's rule may go over the same calls in another order. Where a call
-- answers no list, since an argument of it has no value, there is no place, and the rule has no pick
pub record IsPick (p : Program) (m : Meaning) (args : List Value) (r : TypedRule) (k : Pick) : Type 0 where
  pub calls : map (λ e. e.0) k ≡ multi_calls p r
  pub places : (call : SiteTerm) (n : ℕ) → Contains k (call, n) → (cs : Contents) × (site_content m args k call ≡ Some (many cs)) × (n < length (contents cs))

-- the places of the list that a call answers
abbrev pub places_in : Option Content → List ℕ
places_in (Some (many cs)) = numbers_from 0 (contents cs)
places_in _ = []

-- a pick and all places of further calls: each call answers under the places taken before it
abbrev pub picks_over : Meaning → List Value → Pick → List SiteTerm → List Pick
picks_over m args k [] = k ∷ []
picks_over m args k (call ∷ calls) = flat_map (λ n. picks_over m args (k ++ (call, n) ∷ []) calls) (places_in (site_content m args k call))

-- all picks of a rule, each once
abbrev pub picks : Program → Meaning → List Value → TypedRule → List Pick
picks p m args r = picks_over m args [] (multi_calls p r)

-- a variable's site, and its value or that it failed
pub record Sited : Type 0 where
  pub site : SiteTerm
  pub value : Option Value

-- a site with a value, or with none
abbrev pub sited : SiteTerm → Option Value → Sited
sited s o = record { site = s; value = o }

-- variables by number, the last one bound first, each with its site
abbrev pub SitedVars : Type 0
SitedVars = List (ℕ × Sited)

-- a variable's value, where it was bound and didn't fail
abbrev pub sited_value : SitedVars → ℕ → Option Value
sited_value e x = then_option (look (λ k. k == x) e) (λ s. s.value)

-- the variables without their values
abbrev pub sites_in : SitedVars → List (ℕ × SiteTerm)
sites_in [] = []
sites_in (b ∷ e) = (b.0, b.1.site) ∷ sites_in e

-- the variables without their sites
abbrev pub values_in : SitedVars → List (ℕ × Option Value)
values_in [] = []
values_in (b ∷ e) = (b.0, b.1.value) ∷ values_in e

-- where a visit stands with these variables, after n impure calls
abbrev pub visit_at : SitedVars → ℕ → Visit
visit_at e n = record { vars = sites_in e; impure_calls = n; demands = visit_start.demands }

-- the site that demands name an expression by, after n impure calls
abbrev pub expr_site : Program → TypedExpr → SitedVars → ℕ → SiteTerm
expr_site p x e n = (visit_expr p x (visit_at e n)).site

-- the sites that demands name the arguments of an expression's term by
abbrev pub expr_sites : Program → TypedExprs → SitedVars → ℕ → SiteTerms
expr_sites p xs e n = (visit_exprs p xs (visit_at e n)).sites

-- the sites that demands name the parts of a term's pattern by
abbrev pub input_sites : Kind → ℕ → SiteTerm → TypedPatterns → List SiteTerm
input_sites k t s args = (open_term k t s args visit_start).inputs

-- the value is the one wanted, and the variables stay
abbrev pub where_same : Option Value → Value → SitedVars → Option SitedVars
where_same None v e = None
where_same (Some w) v e = if value_eq w v then Some e else None

-- what the parts of a term's pattern are matched with
abbrev pub parts_under : Kind → Meaning → Pick → ℕ → SiteTerm → Value → Option Values
parts_under (a_call flags infallible) m k t s v = then_option (then_option (extractor_answer m t v) (taken_answer flags.multi k (extractor_call t s))) answered_outputs
parts_under (a_variant ty variant) m k t s v = parts_seen (a_variant ty variant) m t v
parts_under (a_struct ty) m k t s v = parts_seen (a_struct ty) m t v
parts_under unknown m k t s v = parts_seen unknown m t v

-- a typed pattern holds of a value at a site, under a pick, and takes the variables on
abbrev mutual
  pub holds_under : Program → Meaning → Pick → TypedPattern → SiteTerm → Value → SitedVars → Option SitedVars
  holds_under p m k (match_bind ty x sub) s v e = holds_under p m k sub s v ((x, sited s (Some v)) ∷ e)
  holds_under p m k (match_var ty x) s v e = where_same (sited_value e x) v e
  holds_under p m k (match_bool ty b) s v e = where_same (literal_value m (bool_literal b ty)) v e
  holds_under p m k (match_int ty z) s v e = where_same (literal_value m (int_literal z ty)) v e
  holds_under p m k (match_prim ty name) s v e = where_same (constant_value m name) v e
  holds_under p m k (match_term ty t args) s v e = then_option (parts_under (kind p t) m k t s v) (λ vs. each_holds_under p m k args (input_sites (kind p t) t s args) vs e)
  holds_under p m k (match_any ty) s v e = Some e
  holds_under p m k (match_and ty subs) s v e = all_hold_under p m k subs s v e

  -- each pattern of its own value, at its own site
  pub each_holds_under : Program → Meaning → Pick → TypedPatterns → List SiteTerm → Values → SitedVars → Option SitedVars
  each_holds_under p m k no_typed_pattern [] no_value e = Some e
  each_holds_under p m k (typed_pattern_and q qs) (s ∷ ss) (value_and v vs) e = then_option (holds_under p m k q s v e) (λ e'. each_holds_under p m k qs ss vs e')
  each_holds_under p m k _ _ _ e = None

  -- all patterns of one value
  pub all_hold_under : Program → Meaning → Pick → TypedPatterns → SiteTerm → Value → SitedVars → Option SitedVars
  all_hold_under p m k no_typed_pattern s v e = Some e
  all_hold_under p m k (typed_pattern_and q qs) s v e = then_option (holds_under p m k q s v e) (λ e'. all_hold_under p m k qs s v e')

-- a term's value under a pick, its arguments having these sites and values
abbrev pub term_under : Kind → Meaning → Pick → ℕ → SiteTerms → Values → Option Value
term_under (a_call flags infallible) m k t ss vs = then_option (then_option (pure_answer m t vs) (taken_answer flags.multi k (constructor_call t ss 0))) single
term_under (a_variant ty variant) m k t ss vs = pure_term (a_variant ty variant) m t vs
term_under (a_struct ty) m k t ss vs = pure_term (a_struct ty) m t vs
term_under unknown m k t ss vs = pure_term unknown m t vs

-- the value of an expression without impure calls under a pick, or failure
abbrev mutual
  pub value_under : Program → Meaning → Pick → TypedExpr → SitedVars → Option Value
  value_under p m k (make_term ty t args) e = then_option (values_under p m k args e) (λ vs. term_under (kind p t) m k t (expr_sites p args e 0) vs)
  value_under p m k (make_var ty x) e = sited_value e x
  value_under p m k (make_bool ty b) e = literal_value m (bool_literal b ty)
  value_under p m k (make_int ty z) e = literal_value m (int_literal z ty)
  value_under p m k (make_prim ty name) e = constant_value m name
  value_under p m k (make_let ty defs body) e = value_under p m k body (lets_under p m k defs e)

  pub values_under : Program → Meaning → Pick → TypedExprs → SitedVars → Option Values
  values_under p m k no_typed_expr e = Some no_value
  values_under p m k (typed_expr_and x xs) e = then_option (value_under p m k x e) (λ v. then_option (values_under p m k xs e) (λ vs. Some (value_and v vs)))

  pub lets_under : Program → Meaning → Pick → TypedLets → SitedVars → SitedVars
  lets_under p m k no_typed_let e = e
  lets_under p m k (typed_let_and x ty value rest) e = lets_under p m k rest ((x, sited (expr_site p value e 0) (value_under p m k value e)) ∷ e)

-- the argument patterns from i on, each of its own value
abbrev pub args_hold_under : Program → Meaning → Pick → ℕ → List TypedPattern → List Value → SitedVars → Option SitedVars
args_hold_under p m k i [] [] e = Some e
args_hold_under p m k i (q ∷ qs) (v ∷ vs) e = then_option (holds_under p m k q (argument i) v e) (λ e'. args_hold_under p m k (suc i) qs vs e')
args_hold_under p m k i _ _ e = None

-- then the if-lets in order: each has a value of which its pattern holds
abbrev pub iflets_hold_under : Program → Meaning → Pick → List TypedIfLet → SitedVars → Option SitedVars
iflets_hold_under p m k [] e = Some e
iflets_hold_under p m k (i ∷ is) e =
    then_option (value_under p m k i.rhs e) (λ v. then_option (holds_under p m k i.lhs (expr_site p i.rhs e 0) v e) (λ e'. iflets_hold_under p m k is e'))

-- a rule matches arguments under a pick, with these variables
abbrev pub matches_under : Program → Meaning → Pick → TypedRule → List Value → Option SitedVars
matches_under p m k r args = then_option (args_hold_under p m k 0 r.args args []) (λ e. iflets_hold_under p m k r.iflets e)

-- an impure call under a pick: it is made, and its answer is the one taken
abbrev pub impure_under : Bool → Meaning → Pick → ℕ → SiteTerms → Option Values → List Call → Eval
impure_under multi m k t ss None calls = ends calls
impure_under multi m k t ss (Some vs) calls =
    or_end (then_option (then_option (impure_answer m t (length calls)) (taken_answer multi k (constructor_call t ss (suc (length calls))))) single)
    (calls ++ record { term = t; args = vs } ∷ [])

-- a term with its arguments' sites and values
abbrev pub applied_under : Kind → Meaning → Pick → ℕ → SiteTerms → Option Values → List Call → Eval
applied_under (a_call flags infallible) m k t ss vs calls =
    if flags.pure
    then gives (then_option vs (λ ws. term_under (a_call flags infallible) m k t ss ws)) calls
    else impure_under flags.multi m k t ss vs calls
applied_under (a_variant ty variant) m k t ss vs calls = applied (a_variant ty variant) m t vs calls
applied_under (a_struct ty) m k t ss vs calls = applied (a_struct ty) m t vs calls
applied_under unknown m k t ss vs calls = applied unknown m t vs calls

-- a term with its arguments' sites, after its arguments: one that ended all ends it too
abbrev pub apply_under : Kind → Meaning → Pick → ℕ → SiteTerms → EvalAll → Eval
apply_under kd m k t ss (ends_all calls) = ends calls
apply_under kd m k t ss (gives_all vs calls) = applied_under kd m k t ss vs calls

-- a let's definitions give variables with their sites, or an impure call ended all
pub data SitedLets : Type 0 where
  gives_sited : (vars : SitedVars) (calls : List Call) → SitedLets
  ends_sited : (calls : List Call) → SitedLets

-- further definitions, after one's value
abbrev pub then_sited_lets : Eval → (Option Value → List Call → SitedLets) → SitedLets
then_sited_lets (ends calls) go = ends_sited calls
then_sited_lets (gives o calls) go = go o calls

-- the body, after the definitions
abbrev pub then_sited_body : SitedLets → (SitedVars → List Call → Eval) → Eval
then_sited_body (ends_sited calls) go = ends calls
then_sited_body (gives_sited e calls) go = go e calls

-- an expression's value under a pick, with the calls made: an impure call's place is the number of those made before it
abbrev mutual
  pub eval_under : Program → Meaning → Pick → TypedExpr → SitedVars → List Call → Eval
  eval_under p m k (make_term ty t args) e calls = apply_under (kind p t) m k t (expr_sites p args e (length calls)) (eval_all_under p m k args e calls)
  eval_under p m k (make_var ty x) e calls = gives (sited_value e x) calls
  eval_under p m k (make_bool ty b) e calls = gives (literal_value m (bool_literal b ty)) calls
  eval_under p m k (make_int ty z) e calls = gives (literal_value m (int_literal z ty)) calls
  eval_under p m k (make_prim ty name) e calls = gives (constant_value m name) calls
  eval_under p m k (make_let ty defs body) e calls = then_sited_body (eval_lets_under p m k defs e calls) (λ e' calls'. eval_under p m k body e' calls')

  pub eval_all_under : Program → Meaning → Pick → TypedExprs → SitedVars → List Call → EvalAll
  eval_all_under p m k no_typed_expr e calls = gives_all (Some no_value) calls
  eval_all_under p m k (typed_expr_and x xs) e calls = then_rest (eval_under p m k x e calls) (λ calls'. eval_all_under p m k xs e calls')

  pub eval_lets_under : Program → Meaning → Pick → TypedLets → SitedVars → List Call → SitedLets
  eval_lets_under p m k no_typed_let e calls = gives_sited e calls
  eval_lets_under p m k (typed_let_and x ty value rest) e calls =
      then_sited_lets (eval_under p m k value e calls) (λ o calls'. eval_lets_under p m k rest ((x, sited (expr_site p value e (length calls)) o) ∷ e) calls')

-- the outcome under a pick of a rule whose left side took these variables
abbrev pub right_side_under : Program → Meaning → Pick → TypedRule → SitedVars → Outcome
right_side_under p m k r e = outcome_of (is_partial p r.root_term) (eval_under p m k r.rhs e [])

-- the result of a rule under a pick, where it matches under it
abbrev pub results_with : Program → Meaning → Pick → TypedRule → Option SitedVars → List Content
results_with p m k r None = []
results_with p m k r (Some e) = (right_side_under p m k r e).results

-- the result of a rule on these arguments under a pick
abbrev pub results_under : Program → Meaning → List Value → TypedRule → Pick → List Content
results_under p m args r k = results_with p m k r (matches_under p m k r args)

-- one result for each rule and each pick under which it matches. Bags are compared as lists up to the order of their
-- elements
abbrev pub bag : Program → Meaning → List TypedRule → List Value → List Content
bag p m rs args = flat_map (λ r. flat_map (results_under p m args r) (picks p m args r)) rs
