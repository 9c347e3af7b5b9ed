-- What a typed rule asks of the sites of its term: its demands, in the order of the visit, on trees without numbers.
use Rattle.std.specs.Prelude.{ℕ, suc, Bool, true, false, ◌&&◌, List, [], ◌∷◌, ◌++◌, length, Option, Some, None, if◌then◌else◌, ◌||◌, not}
use Rattle.std.specs.List.{list_any}
use Rattle.std.specs.Bool.{◌==◌}
use Rattle.std.specs.Ordering.{int_eq}
use Rattle.std.proofs.Math.Bool.{beq}
use Rattle.model.specs.lists.Tables.{Flags}
use Rattle.model.specs.rules.Meaning.{look}
use Rattle.model.specs.rules.Program.{Program, Kind, a_variant, a_struct, a_call, unknown, kind, is_partial}
use Rattle.model.specs.sites.Sites.{Constraint, is_variant, is_struct, is_bool, is_int, is_prim, is_present, SiteTerm, bool_term, int_term, prim_term, argument, extractor_call, constructor_call, pick_of, variant_made, variant_field, struct_made, struct_field, some_made, some_part, tuple_part, no_site, SiteTerms, no_site_term, site_term_and, fields_from, field_terms}
use Rattle.model.specs.rules.Typed.{TypedPattern, match_bind, match_var, match_bool, match_int, match_prim, match_term, match_any, match_and, TypedPatterns, no_typed_pattern, typed_pattern_and, TypedExpr, make_term, make_var, make_bool, make_int, make_prim, make_let, TypedExprs, no_typed_expr, typed_expr_and, TypedLets, no_typed_let, typed_let_and, TypedIfLet, TypedRule}

-- whether two trees are one
abbrev mutual
  pub site_term_eq : SiteTerm → SiteTerm → Bool
  site_term_eq (bool_term a s) (bool_term b t) = beq a b && (s == t)
  site_term_eq (int_term a s) (int_term b t) = int_eq a b && (s == t)
  site_term_eq (prim_term a) (prim_term b) = a == b
  site_term_eq (argument i) (argument j) = i == j
  site_term_eq (extractor_call t a) (extractor_call u b) = (t == u) && site_term_eq a b
  site_term_eq (constructor_call t xs i) (constructor_call u ys j) = (t == u) && site_terms_eq xs ys && (i == j)
  site_term_eq (pick_of a) (pick_of b) = site_term_eq a b
  site_term_eq (variant_made s i xs) (variant_made t j ys) = (s == t) && (i == j) && site_terms_eq xs ys
  site_term_eq (variant_field a i f) (variant_field b j g) = site_term_eq a b && (i == j) && (f == g)
  site_term_eq (struct_made s xs) (struct_made t ys) = (s == t) && site_terms_eq xs ys
  site_term_eq (struct_field a f) (struct_field b g) = site_term_eq a b && (f == g)
  site_term_eq (some_made a) (some_made b) = site_term_eq a b
  site_term_eq (some_part a) (some_part b) = site_term_eq a b
  site_term_eq (tuple_part a f) (tuple_part b g) = site_term_eq a b && (f == g)
  site_term_eq no_site no_site = true
  site_term_eq _ _ = false

  pub site_terms_eq : SiteTerms → SiteTerms → Bool
  site_terms_eq no_site_term no_site_term = true
  site_terms_eq (site_term_and a xs) (site_term_and b ys) = site_term_eq a b && site_terms_eq xs ys
  site_terms_eq _ _ = false

-- what is counted of a rule, and may be too many: a variant or a struct matched with n fields, an extractor called with n
-- outputs, an argument by its number
pub data Count : Type 0 where
  fields_matched : (n : ℕ) → Count
  outputs_taken : (n : ℕ) → Count
  argument_taken : (i : ℕ) → Count

-- the demands met so far: constraints, equalities, the multi calls that the rule goes over, its impure calls in
-- order (each by the last site made for it), all sites made, and what was counted, each with how many sites were made before
pub record Demands : Type 0 where
  pub constraints : List (SiteTerm × Constraint)
  pub equalities : List (SiteTerm × SiteTerm)
  pub iterators : List SiteTerm
  pub impure : List SiteTerm
  pub made : List SiteTerm
  pub counted : List (Count × ℕ)

-- where a visit stands: what the variables are, how many impure calls were met, and the demands
pub record Visit : Type 0 where
  pub vars : List (ℕ × SiteTerm)
  pub impure_calls : ℕ
  pub demands : Demands

abbrev pub visit_start : Visit
visit_start = record { vars = []; impure_calls = 0; demands = record { constraints = []; equalities = []; iterators = []; impure = []; made = []; counted = [] } }

abbrev pub with_demands : Visit → Demands → Visit
with_demands v d = record v { demands = d }

abbrev pub making : List SiteTerm → Visit → Visit
making ts v = with_demands v (record v.demands { made = v.demands.made ++ ts })

-- something is counted, after the sites made so far
abbrev pub counting : Count → Visit → Visit
counting c v = with_demands v (record v.demands { counted = v.demands.counted ++ (c, length v.demands.made) ∷ [] })

abbrev pub asking : SiteTerm → Constraint → Visit → Visit
asking s c v = with_demands v (record v.demands { constraints = v.demands.constraints ++ (s, c) ∷ [] })

-- two sites are to be equal, where they are two
abbrev pub equating : SiteTerm → SiteTerm → Visit → Visit
equating a b v = if site_term_eq a b then v else with_demands v (record v.demands { equalities = v.demands.equalities ++ (a, b) ∷ [] })

abbrev pub iterating : SiteTerm → Visit → Visit
iterating s v = with_demands v (record v.demands { iterators = v.demands.iterators ++ s ∷ [] })

abbrev pub calling : SiteTerm → Visit → Visit
calling s v = record v { impure_calls = suc v.impure_calls; demands = record v.demands { impure = v.demands.impure ++ s ∷ [] } }

abbrev pub binding : ℕ → SiteTerm → Visit → Visit
binding x s v = record v { vars = (x, s) ∷ v.vars }

abbrev pub or_no_site : Option SiteTerm → SiteTerm
or_no_site None = no_site
or_no_site (Some s) = s

abbrev pub var_site : Visit → ℕ → SiteTerm
var_site v x = or_no_site (look (λ k. k == x) v.vars)

abbrev pub pattern_count : TypedPatterns → ℕ
pattern_count no_typed_pattern = 0
pattern_count (typed_pattern_and q qs) = suc (pattern_count qs)

-- what the parts of a term's pattern are, and the visit after the term itself was met
pub record Opened : Type 0 where
  pub inputs : List SiteTerm
  pub visit : Visit

abbrev pub opened : List SiteTerm → Visit → Opened
opened inputs v = record { inputs = inputs; visit = v }

-- the n fields that a constraint gives a site are counted and made, and the site is asked to meet it
abbrev pub fields_opened : Constraint → ℕ → SiteTerm → Visit → Opened
fields_opened c n s v = opened (field_terms c s) (asking s c (making (field_terms c s) (counting (fields_matched n) v)))

-- the outputs of a call: one is the site itself, several are its parts, none has no site
abbrev pub output_sites : SiteTerm → TypedPatterns → List SiteTerm
output_sites s no_typed_pattern = []
output_sites s (typed_pattern_and q no_typed_pattern) = s ∷ []
output_sites s (typed_pattern_and q (typed_pattern_and r rs)) = fields_from (tuple_part s) 0 (pattern_count (typed_pattern_and q (typed_pattern_and r rs)))

abbrev pub part_sites : SiteTerm → TypedPatterns → List SiteTerm
part_sites s no_typed_pattern = []
part_sites s (typed_pattern_and q no_typed_pattern) = []
part_sites s (typed_pattern_and q (typed_pattern_and r rs)) = fields_from (tuple_part s) 0 (pattern_count (typed_pattern_and q (typed_pattern_and r rs)))

-- outputs of a call are counted before their parts are made
abbrev pub outputs_opened : SiteTerm → TypedPatterns → Visit → Opened
outputs_opened s args v = opened (output_sites s args) (making (part_sites s args) (counting (outputs_taken (pattern_count args)) v))

-- a multi call is gone over; a call that may answer nothing is asked to answer
abbrev pub open_call : Flags → Bool → SiteTerm → TypedPatterns → Visit → Opened
open_call flags infallible call args v =
    if flags.multi
    then outputs_opened (pick_of call) args (iterating call (making (call ∷ (pick_of call ∷ [])) v))
    else (if infallible
    then outputs_opened call args (making (call ∷ []) v)
    else outputs_opened (some_part call) args (asking call is_present (making (call ∷ (some_part call ∷ [])) v)))

abbrev pub open_term : Kind → ℕ → SiteTerm → TypedPatterns → Visit → Opened
open_term (a_variant ty variant) t s args v = fields_opened (is_variant ty variant (pattern_count args)) (pattern_count args) s v
open_term (a_struct ty) t s args v = fields_opened (is_struct ty (pattern_count args)) (pattern_count args) s v
open_term (a_call flags infallible) t s args v = open_call flags infallible (extractor_call t s) args v
open_term unknown t s args v = opened [] v

abbrev mutual
  pub visit_pattern : Program → TypedPattern → SiteTerm → Visit → Visit
  visit_pattern p (match_bind ty x sub) s v = visit_pattern p sub s (binding x s v)
  visit_pattern p (match_var ty x) s v = equating s (var_site v x) v
  visit_pattern p (match_bool ty b) s v = asking s (is_bool b ty) v
  visit_pattern p (match_int ty z) s v = asking s (is_int z ty) v
  visit_pattern p (match_prim ty name) s v = asking s (is_prim name) v
  visit_pattern p (match_term ty t args) s v = let o = open_term (kind p t) t s args v in visit_each p args o.inputs o.visit
  visit_pattern p (match_any ty) s v = v
  visit_pattern p (match_and ty subs) s v = visit_all p subs s v

  -- each pattern with its own site
  pub visit_each : Program → TypedPatterns → List SiteTerm → Visit → Visit
  visit_each p (typed_pattern_and q qs) (s ∷ ss) v = visit_each p qs ss (visit_pattern p q s v)
  visit_each p _ _ v = v

  -- all patterns with one site
  pub visit_all : Program → TypedPatterns → SiteTerm → Visit → Visit
  visit_all p no_typed_pattern s v = v
  visit_all p (typed_pattern_and q qs) s v = visit_all p qs s (visit_pattern p q s v)

-- an expression's site, and the visit after it
pub record Valued : Type 0 where
  pub site : SiteTerm
  pub visit : Visit

pub record ValuedAll : Type 0 where
  pub sites : SiteTerms
  pub visit : Visit

abbrev pub valued : SiteTerm → Visit → Valued
valued s v = record { site = s; visit = v }

-- a value that is made as one site
abbrev pub value_made : SiteTerm → Visit → Valued
value_made u v = valued u (making (u ∷ []) v)

-- what a constructor's call gives: a pick of a multi one, the unwrapped answer of a partial one, else the call itself
abbrev pub call_result : Flags → SiteTerm → SiteTerm
call_result flags call = if flags.partial then some_part call else (if flags.multi then pick_of call else call)

abbrev pub call_sites : Flags → SiteTerm → List SiteTerm
call_sites flags call = if flags.partial then call ∷ (some_part call ∷ []) else (if flags.multi then call ∷ (pick_of call ∷ []) else call ∷ [])

abbrev pub where_multi : Flags → SiteTerm → Visit → Visit
where_multi flags call v = if flags.multi then iterating call v else v

abbrev pub visit_call : Flags → ℕ → SiteTerms → Visit → Valued
visit_call flags t args v =
    if flags.pure
    then (let call = constructor_call t args 0 in valued (call_result flags call) (where_multi flags call (making (call_sites flags call) v)))
    else (let call = constructor_call t args (suc v.impure_calls) in valued (call_result flags call) (calling (call_result flags call) (where_multi flags call (making (call_sites flags call) v))))

abbrev pub visit_term : Kind → ℕ → ValuedAll → Valued
visit_term (a_variant ty variant) t a = value_made (variant_made ty variant a.sites) a.visit
visit_term (a_struct ty) t a = value_made (struct_made ty a.sites) a.visit
visit_term (a_call flags infallible) t a = visit_call flags t a.sites a.visit
visit_term unknown t a = valued no_site a.visit

abbrev mutual
  pub visit_expr : Program → TypedExpr → Visit → Valued
  visit_expr p (make_term ty t args) v = visit_term (kind p t) t (visit_exprs p args v)
  visit_expr p (make_var ty x) v = valued (var_site v x) v
  visit_expr p (make_bool ty b) v = value_made (bool_term b ty) v
  visit_expr p (make_int ty z) v = value_made (int_term z ty) v
  visit_expr p (make_prim ty name) v = value_made (prim_term name) v
  visit_expr p (make_let ty defs body) v = visit_expr p body (visit_lets p defs v)

  pub visit_exprs : Program → TypedExprs → Visit → ValuedAll
  visit_exprs p no_typed_expr v = record { sites = no_site_term; visit = v }
  visit_exprs p (typed_expr_and x xs) v =
      let a = visit_expr p x v in let b = visit_exprs p xs a.visit in record { sites = site_term_and a.site b.sites; visit = b.visit }

  pub visit_lets : Program → TypedLets → Visit → Visit
  visit_lets p no_typed_let v = v
  visit_lets p (typed_let_and x ty value rest) v = let a = visit_expr p value v in visit_lets p rest (binding x a.site a.visit)

-- the calls whose answers a site takes, at any depth, where this says which call a site takes the answer of
abbrev mutual
  pub taken_by : (SiteTerm → List SiteTerm) → SiteTerm → List SiteTerm
  taken_by taken (pick_of a) = taken (pick_of a) ++ taken_by taken a
  taken_by taken (some_part a) = taken (some_part a) ++ taken_by taken a
  taken_by taken (extractor_call t a) = taken_by taken a
  taken_by taken (constructor_call t args i) = taken_by_all taken args
  taken_by taken (variant_made ty variant fields) = taken_by_all taken fields
  taken_by taken (variant_field a variant f) = taken_by taken a
  taken_by taken (struct_made ty fields) = taken_by_all taken fields
  taken_by taken (struct_field a f) = taken_by taken a
  taken_by taken (some_made a) = taken_by taken a
  taken_by taken (tuple_part a f) = taken_by taken a
  taken_by taken _ = []

  pub taken_by_all : (SiteTerm → List SiteTerm) → SiteTerms → List SiteTerm
  taken_by_all taken no_site_term = []
  taken_by_all taken (site_term_and a rest) = taken_by taken a ++ taken_by_all taken rest

-- the call whose answer a site unwraps, and the one of whose answers it is one
abbrev pub unwrapped_call : SiteTerm → List SiteTerm
unwrapped_call (some_part a) = a ∷ []
unwrapped_call _ = []

abbrev pub picked_call : SiteTerm → List SiteTerm
picked_call (pick_of a) = a ∷ []
picked_call _ = []

-- the calls whose answers a site unwraps, at any depth
abbrev pub unwraps : SiteTerm → List SiteTerm
unwraps s = taken_by unwrapped_call s

abbrev pub unwraps_all : SiteTerms → List SiteTerm
unwraps_all ss = taken_by_all unwrapped_call ss

abbrev pub asking_all : List SiteTerm → Visit → Visit
asking_all [] v = v
asking_all (s ∷ ss) v = asking_all ss (asking s is_present v)

-- an argument is counted before it is made
abbrev pub taking_argument : ℕ → Visit → Visit
taking_argument i v = making (argument i ∷ []) (counting (argument_taken i) v)

-- the arguments from i on
abbrev pub visit_args : Program → ℕ → List TypedPattern → Visit → Visit
visit_args p i [] v = v
visit_args p i (q ∷ qs) v = visit_args p (suc i) qs (visit_pattern p q (argument i) (taking_argument i v))

-- an if-let's value is needed by its pattern: each call that it unwraps is asked to answer
abbrev pub visit_iflets : Program → List TypedIfLet → Visit → Visit
visit_iflets p [] v = v
visit_iflets p (i ∷ rest) v =
    let a = visit_expr p i.rhs v in visit_iflets p rest (visit_pattern p i.lhs a.site (asking_all (unwraps a.site) a.visit))

-- in a partial term the result is Some of the value
abbrev pub finished : Bool → Valued → Valued
finished false a = a
finished true a = value_made (some_made a.site) a.visit

-- a rule up to the value of its right side
abbrev pub value_of_rule : Program → TypedRule → Valued
value_of_rule p r = visit_expr p r.rhs (visit_iflets p r.iflets (visit_args p 0 r.args visit_start))

-- the whole rule: its result's site, and what was met
abbrev pub visit_rule : Program → TypedRule → Valued
visit_rule p r = finished (is_partial p r.root_term) (value_of_rule p r)

abbrev pub demands_of : Program → TypedRule → Demands
demands_of p r = (visit_rule p r).visit.demands

abbrev pub result_of : Program → TypedRule → SiteTerm
result_of p r = (visit_rule p r).site

abbrev pub has_site : List SiteTerm → SiteTerm → Bool
has_site [] s = false
has_site (t ∷ ts) s = site_term_eq t s || has_site ts s

-- the different sites of a list, by first meeting
abbrev pub with_sites : List SiteTerm → List SiteTerm → List SiteTerm
with_sites ts [] = ts
with_sites ts (s ∷ rest) = with_sites (if has_site ts s then ts else ts ++ s ∷ []) rest

abbrev pub constraint_eq : Constraint → Constraint → Bool
constraint_eq (is_variant s i n) (is_variant t j m) = (s == t) && (i == j) && (n == m)
constraint_eq (is_struct s n) (is_struct t m) = (s == t) && (n == m)
constraint_eq (is_bool a s) (is_bool b t) = beq a b && (s == t)
constraint_eq (is_int y s) (is_int z t) = int_eq y z && (s == t)
constraint_eq (is_prim a) (is_prim b) = a == b
constraint_eq is_present is_present = true
constraint_eq _ _ = false

-- some site has different constraints in the two lists
abbrev pub differs_from : SiteTerm × Constraint → SiteTerm × Constraint → Bool
differs_from a b = site_term_eq a.0 b.0 && not (constraint_eq a.1 b.1)

abbrev pub differ : List (SiteTerm × Constraint) → List (SiteTerm × Constraint) → Bool
differ as' bs = list_any (λ a. list_any (differs_from a) bs) as'
