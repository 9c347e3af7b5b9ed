-- The visitor of sites: it answers the site of each part, and its state is what a rule demands so far. It has no fault;
-- what is counted on the way says which limit is passed first.
use Rattle.std.specs.Prelude.{◌≡◌, ℕ, zero, suc, Bool, true, false, not, List, [], ◌∷◌, length, None, Ok}
use Rattle.model.specs.lists.Tables.{TermEntry}
use Rattle.model.specs.rules.Typed.{TypedPatterns, no_typed_pattern, typed_pattern_and, match_any, TypedRule}
use Rattle.model.specs.sites.Sites.{is_variant, is_struct, is_bool, is_int, is_prim, SiteTerm, SiteTerms, no_site_term, site_term_and, argument, bool_term, int_term, prim_term, extractor_call, variant_made, struct_made}
use Rattle.model.specs.visits.Demands.{Visit, visit_start, taking_argument, asking, asking_all, equating, unwraps, Opened, open_call, visit_call, fields_opened, value_made}
use Rattle.model.specs.visits.Runs.{done}
use Rattle.model.specs.visits.Visitors.{PatternSteps, ExprSteps, RuleSteps}
use Rattle.model.specs.visits.RuleRuns.{RuleRun}

-- n parts of which nothing is asked
abbrev pub any_parts : ℕ → TypedPatterns
any_parts zero = no_typed_pattern
any_parts (suc n) = typed_pattern_and (match_any 0) (any_parts n)

-- the n outputs of an extractor's call are open
abbrev pub extractor_opened : ℕ → ℕ → Bool → Bool → SiteTerm → Visit → Opened
extractor_opened term n infallible multi s v =
    open_call (record { pure = true; multi = multi; partial = not infallible; rec = false }) infallible (extractor_call term s) (any_parts n) v

abbrev pub site_patterns : PatternSteps ⊥ Visit SiteTerm
site_patterns = record {
  match_equal_steps = λ v a b ty r t. done tt (equating a b v) r t;
  match_bool_steps = λ v s ty b r t. done tt (asking s (is_bool b ty) v) r t;
  match_int_steps = λ v s ty z r t. done tt (asking s (is_int z ty) v) r t;
  match_prim_steps = λ v s ty name r t. done tt (asking s (is_prim name) v) r t;
  match_variant_steps = λ v s ty tys variant r t. let o = fields_opened (is_variant ty variant (length tys)) (length tys) s v in done o.inputs o.visit r t;
  extract_struct_steps = λ v s ty tys r t. let o = fields_opened (is_struct ty (length tys)) (length tys) s v in done o.inputs o.visit r t;
  extract_steps = λ v s ty tys term infallible multi r t. let o = extractor_opened term (length tys) infallible multi s v in done o.inputs o.visit r t;
}

-- the sites of inputs
abbrev pub sites_of_inputs : List (SiteTerm × ℕ) → SiteTerms
sites_of_inputs [] = no_site_term
sites_of_inputs (x ∷ xs) = site_term_and x.0 (sites_of_inputs xs)

abbrev pub site_exprs : ExprSteps ⊥ Visit SiteTerm
site_exprs = record {
  const_bool_steps = λ v ty b r t. let a = value_made (bool_term b ty) v in done a.site a.visit r t;
  const_int_steps = λ v ty z r t. let a = value_made (int_term z ty) v in done a.site a.visit r t;
  const_prim_steps = λ v ty name r t. let a = value_made (prim_term name) v in done a.site a.visit r t;
  create_variant_steps = λ v inputs ty variant r t. let a = value_made (variant_made ty variant (sites_of_inputs inputs)) v in done a.site a.visit r t;
  create_struct_steps = λ v inputs ty r t. let a = value_made (struct_made ty (sites_of_inputs inputs)) v in done a.site a.visit r t;
  construct_steps = λ v inputs ty term pure infallible multi rec r t.
      let a = visit_call (record { pure = pure; multi = multi; partial = not infallible; rec = rec }) term (sites_of_inputs inputs) v in done a.site a.visit r t;
}

-- it lends itself; where a value is the input of a pattern, each call that it unwraps is asked to answer
abbrev pub site_rules : RuleSteps ⊥ Visit Visit Visit SiteTerm SiteTerm SiteTerm
site_rules = record {
  arg_steps = λ v i ty r t. done (argument i) (taking_argument i v) r t;
  expr_as_pattern_steps = λ v s r t. done s (asking_all (unwraps s) v) r t;
  pattern_as_expr_steps = λ v s r t. done s v r t;
  lend_pattern_steps = λ v r t. done v v r t;
  take_pattern_steps = λ v l r t. done tt l r t;
  leave_pattern_steps = λ l v t. t ≡ l;
  lend_expr_steps = λ v r t. done v v r t;
  take_expr_steps = λ v l ty s r t. done s l r t;
  leave_expr_steps = λ l v t. t ≡ l;
}

-- the run of a rule, in a program with these terms: the site of its right side's value, and what was met
abbrev pub SiteRun : List TermEntry → TypedRule → SiteTerm → Visit → Type 0
SiteRun terms r s v = RuleRun None site_rules site_patterns site_exprs terms r visit_start (Ok s) v
