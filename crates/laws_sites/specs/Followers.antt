-- Visitors that follow the visitor of sites: how their states and ids stand to it, what each of their steps has to show, and
-- that then the visit of a whole rule follows its visit, faults included.
use Rattle.std.specs.Prelude.{◌≡◌, ℕ, ℤ, Bool, true, not, List, [], ◌∷◌, length, Option, Some, Result, Ok, MatchResult, Contains}
use Rattle.std.specs.List.{AllZip}
use Rattle.model.specs.lists.Formed.{is_formed_rule}
use Rattle.model.specs.rules.Program.{Program}
use Rattle.model.specs.rules.Typed.{TypedRule}
use Rattle.model.specs.sites.Sites as Sites
use Rattle.model.specs.sites.Sites.{is_variant, is_struct, is_bool, is_int, is_prim, is_present, SiteTerm, SiteTerms, no_site_term, site_term_and, argument, bool_term, int_term, prim_term, variant_made, struct_made}
use Rattle.model.specs.visits.Demands.{Visit, visit_start, asking, asking_all, equating, binding, taking_argument, unwraps, Opened, Valued, valued, visit_call, value_of_rule, fields_opened, value_made}
use Rattle.model.specs.visits.RuleRuns.{RuleRun}
use Rattle.model.specs.visits.SiteVisitor.{extractor_opened, SiteRun}
use Rattle.model.specs.visits.Visitors.{PatternSteps, ExprSteps, RuleSteps}
use Rattle.laws_sites.specs.VisitLaws.{Continues}

-- 1. what relates a visitor to visits of sites: F are its faults, S its states, N its ids
pub record Follower (F S N : Type 0) : Type 1 where
  -- a state stands where a visit does
  pub Stands : S → Visit → Type 0
  -- in a state, an id is that of a site
  pub Names : S → SiteTerm → N → Type 0
  -- it ended by a fault on its way to where a visit stands
  pub Ends : S → Visit → F → Type 0

-- a visit has asked the calls that a value unwraps nothing but to answer
abbrev pub AsksNothingElse : Visit → SiteTerm → Type 0
AsksNothingElse v u = (call : SiteTerm) (c : Sites.Constraint) → Contains (unwraps u) call → Contains v.demands.constraints (call, c) → c ≡ is_present

module _ {F S N : Type 0} (o : Follower F S N) where
  -- it has gone on to where a visit stands, and its ids stay those of their sites
  pub record Goes (s t : S) (v : Visit) : Type 0 where
    pub stands : o.Stands t v
    pub kept : (u : SiteTerm) (n : N) → o.Names s u n → o.Names t u n

  -- inputs of a call are those of sites, in order
  abbrev pub NameInputs : S → SiteTerms → List (N × ℕ) → Type 0
  NameInputs s no_site_term [] = Unit {0}
  NameInputs s no_site_term (x ∷ xs) = ⊥
  NameInputs s (site_term_and u us) [] = ⊥
  NameInputs s (site_term_and u us) (x ∷ xs) = o.Names s u x.0 × NameInputs s us xs

  -- a call goes to where a visit stands, or ends on the way
  abbrev pub GoesOn : S → Result (Unit {0}) F → S → Visit → Type 0
  GoesOn s r t v = MatchResult r (λ x. Goes s t v) (λ e. o.Ends t v e)

  -- likewise one that answers the ids of parts
  abbrev pub GivesParts : S → Result (List N) F → S → Opened → Type 0
  GivesParts s r t a = MatchResult r (λ ids. Goes s t a.visit × AllZip (o.Names t) a.inputs ids) (λ e. o.Ends t a.visit e)

  -- and one that answers the id of a value
  abbrev pub Gives : S → Result N F → S → Valued → Type 0
  Gives s r t a = MatchResult r (λ n. Goes s t a.visit × o.Names t a.site n) (λ e. o.Ends t a.visit e)

  -- 2. what each step has to show: it does what the visitor of sites does
  pub record FollowsPatterns (v : PatternSteps F S N) : Type 0 where
    pub equal : (s : S) (w : Visit) (a b : SiteTerm) (m n : N) (ty : ℕ) (r : Result (Unit {0}) F) (t : S)
        → o.Stands s w → o.Names s a m → o.Names s b n → v.match_equal_steps s m n ty r t → GoesOn s r t (equating a b w)
    pub bool : (s : S) (w : Visit) (u : SiteTerm) (n : N) (ty : ℕ) (b : Bool) (r : Result (Unit {0}) F) (t : S)
        → o.Stands s w → o.Names s u n → v.match_bool_steps s n ty b r t → GoesOn s r t (asking u (is_bool b ty) w)
    pub int : (s : S) (w : Visit) (u : SiteTerm) (n : N) (ty : ℕ) (z : ℤ) (r : Result (Unit {0}) F) (t : S)
        → o.Stands s w → o.Names s u n → v.match_int_steps s n ty z r t → GoesOn s r t (asking u (is_int z ty) w)
    pub prim : (s : S) (w : Visit) (u : SiteTerm) (n : N) (ty name : ℕ) (r : Result (Unit {0}) F) (t : S)
        → o.Stands s w → o.Names s u n → v.match_prim_steps s n ty name r t → GoesOn s r t (asking u (is_prim name) w)
    pub variant : (s : S) (w : Visit) (u : SiteTerm) (n : N) (ty : ℕ) (tys : List ℕ) (variant : ℕ) (r : Result (List N) F) (t : S)
        → o.Stands s w → o.Names s u n → v.match_variant_steps s n ty tys variant r t → GivesParts s r t (fields_opened (is_variant ty variant (length tys)) (length tys) u w)
    pub struct : (s : S) (w : Visit) (u : SiteTerm) (n : N) (ty : ℕ) (tys : List ℕ) (r : Result (List N) F) (t : S)
        → o.Stands s w → o.Names s u n → v.extract_struct_steps s n ty tys r t → GivesParts s r t (fields_opened (is_struct ty (length tys)) (length tys) u w)
    pub extractor : (s : S) (w : Visit) (u : SiteTerm) (n : N) (ty : ℕ) (tys : List ℕ) (term : ℕ) (infallible multi : Bool) (r : Result (List N) F) (t : S)
        → o.Stands s w → o.Names s u n → v.extract_steps s n ty tys term infallible multi r t → GivesParts s r t (extractor_opened term (length tys) infallible multi u w)

  pub record FollowsExprs (v : ExprSteps F S N) : Type 0 where
    pub bool : (s : S) (w : Visit) (ty : ℕ) (b : Bool) (r : Result N F) (t : S) → o.Stands s w → v.const_bool_steps s ty b r t → Gives s r t (value_made (bool_term b ty) w)
    pub int : (s : S) (w : Visit) (ty : ℕ) (z : ℤ) (r : Result N F) (t : S) → o.Stands s w → v.const_int_steps s ty z r t → Gives s r t (value_made (int_term z ty) w)
    pub prim : (s : S) (w : Visit) (ty name : ℕ) (r : Result N F) (t : S) → o.Stands s w → v.const_prim_steps s ty name r t → Gives s r t (value_made (prim_term name) w)
    pub variant : (s : S) (w : Visit) (us : SiteTerms) (inputs : List (N × ℕ)) (ty variant : ℕ) (r : Result N F) (t : S)
        → o.Stands s w → NameInputs s us inputs → v.create_variant_steps s inputs ty variant r t → Gives s r t (value_made (variant_made ty variant us) w)
    pub struct : (s : S) (w : Visit) (us : SiteTerms) (inputs : List (N × ℕ)) (ty : ℕ) (r : Result N F) (t : S)
        → o.Stands s w → NameInputs s us inputs → v.create_struct_steps s inputs ty r t → Gives s r t (value_made (struct_made ty us) w)
    pub constructor : (s : S) (w : Visit) (us : SiteTerms) (inputs : List (N × ℕ)) (ty term : ℕ) (pure infallible multi rec : Bool) (r : Result N F) (t : S)
        → o.Stands s w → NameInputs s us inputs → v.construct_steps s inputs ty term pure infallible multi rec r t
        → Gives s r t (visit_call (record { pure = pure; multi = multi; partial = not infallible; rec = rec }) term us w)

  -- a visitor of rules that lends itself, and whose ids are the same for patterns and expressions
  pub record FollowsRules (v : RuleSteps F S S S N N N) : Type 0 where
    pub arg : (s : S) (w : Visit) (i ty : ℕ) (r : Result N F) (t : S) → o.Stands s w → v.arg_steps s i ty r t → Gives s r t (valued (argument i) (taking_argument i w))
    pub expr_as_pattern : (s : S) (w : Visit) (u : SiteTerm) (n : N) (r : Result N F) (t : S)
        → o.Stands s w → o.Names s u n → AsksNothingElse w u → v.expr_as_pattern_steps s n r t → Gives s r t (valued u (asking_all (unwraps u) w))
    pub pattern_as_expr : (s : S) (n : N) (r : Result N F) (t : S) → v.pattern_as_expr_steps s n r t → (r ≡ Ok n) × (t ≡ s)
    pub lend_pattern : (s : S) (r : Result S F) (t : S) → v.lend_pattern_steps s r t → (r ≡ Ok s) × (t ≡ s)
    pub take_pattern : (s l : S) (r : Result (Unit {0}) F) (t : S) → v.take_pattern_steps s l r t → (r ≡ Ok tt) × (t ≡ l)
    pub leave_pattern : (l s t : S) → v.leave_pattern_steps l s t → t ≡ l
    pub lend_expr : (s : S) (r : Result S F) (t : S) → v.lend_expr_steps s r t → (r ≡ Ok s) × (t ≡ s)
    pub take_expr : (s l : S) (ty : ℕ) (n : N) (r : Result N F) (t : S) → v.take_expr_steps s l ty n r t → (r ≡ Ok n) × (t ≡ l)
    pub leave_expr : (l s t : S) → v.leave_expr_steps l s t → t ≡ l

  -- what binds a variable changes nothing else; who ended on the way to where a visit stands ended on the way further on; and
  -- want of memory ends anywhere
  pub record EndsOnTheWay (want : Option F) : Type 0 where
    pub bound : (s : S) (w : Visit) (x : ℕ) (u : SiteTerm) → o.Stands s w → o.Stands s (binding x u w)
    pub further : (t : S) (v w : Visit) (e : F) → Continues v w → o.Ends t v e → o.Ends t w e
    pub refused : (t : S) (v : Visit) (e : F) → want ≡ Some e → o.Ends t v e

-- all that makes a visitor follow the visitor of sites
pub record FollowsSites {F S N : Type 0} (o : Follower F S N) (want : Option F) (rules : RuleSteps F S S S N N N) (patterns : PatternSteps F S N) (exprs : ExprSteps F S N) : Type 0 where
  pub in_patterns : FollowsPatterns o patterns
  pub in_exprs : FollowsExprs o exprs
  pub in_rules : FollowsRules o rules
  pub ends : EndsOnTheWay o want

-- 3. the laws
-- a visitor that follows the visitor of sites follows it through a rule that hangs together: a claim on all visitors, so a
-- lemma has it, and no function's clause
abbrev pub VisitsFollow : Type 1
VisitsFollow =
    (F S N : Type 0) (o : Follower F S N) (want : Option F) (rules : RuleSteps F S S S N N N) (patterns : PatternSteps F S N) (exprs : ExprSteps F S N)
    → FollowsSites o want rules patterns exprs
    → (p : Program) (r : TypedRule) (s : S) (a : Result N F) (t : S) → is_formed_rule p r ≡ true → o.Stands s visit_start
    → RuleRun want rules patterns exprs p.terms r s a t → Gives o s a t (value_of_rule p r)

-- so the run of the visitor of sites gives what the functions of the visit compute; the variables are the run's own
pub record IsVisitOf (p : Program) (r : TypedRule) (s : SiteTerm) (v : Visit) : Type 0 where
  pub site : s ≡ (value_of_rule p r).site
  pub demands : v.demands ≡ (value_of_rule p r).visit.demands
  pub calls : v.impure_calls ≡ (value_of_rule p r).visit.impure_calls

abbrev pub SiteRunsVisit : Type 0
SiteRunsVisit = (p : Program) (r : TypedRule) (s : SiteTerm) (v : Visit) → is_formed_rule p r ≡ true → SiteRun p.terms r s v → IsVisitOf p r s v

-- and there is one
abbrev pub SiteRunsExist : Type 0
SiteRunsExist = (p : Program) (r : TypedRule) → is_formed_rule p r ≡ true → (s : SiteTerm) × (v : Visit) × SiteRun p.terms r s v
