-- The set of a term, as its rules are read one after another, and what is reported of a rule.
use Rattle.std.specs.Prelude.{◌≡◌, ℕ, true, List, [], ◌∷◌, ◌++◌, map}
use Rattle.model.specs.lists.Formed.{is_formed_rule}
use Rattle.model.specs.lists.Names.{IsDistinct}
use Rattle.model.specs.lists.Tables.{TermEntry}
use Rattle.model.specs.rules.Typed.{TypedRule}
use Rattle.model.specs.rules.Program.{Program}
use Rattle.model.specs.sites.Sites.{SetRule, SiteSet, SiteTerm}
use Rattle.model.specs.sites.Closure.{Closed}
use Rattle.model.specs.visits.Demands.{visit_rule}
use Rattle.model.specs.sites.Overlap.{RuleReport}
use Rattle.model.specs.sites.RuleSets.{StandFor}
use Rattle.model.specs.claims.Refusals.{Refusal, past_limit, refusal_of, unreachable}
use Rattle.laws_sites.specs.RuleByRule.{AreListedAs, GoesPast}
use Rattle.core_syntax.specs.SyntaxViews.{position}
use Rattle.core_syntax.specs.declared.syntax.Error.{Error}
use Rattle.core_syntax.specs.declared.syntax.Limit.{Limit}
use Rattle.core_syntax.specs.declared.visit_fault.VisitFault.{VisitFault}
use Rattle.core_syntax.specs.declared.visit_fault.VisitFault.TheVariants as Faults
use Rattle.core_syntax.specs.declared.syntax.Pos.{Pos}
use Rattle.core_syntax.specs.ErrorViews.{error_views, limit_view}
use Rattle.core_typed.specs.RuleViews.{rule_view}
use Rattle.core_typed.specs.declared.rules.Rule.{Rule}
use Rattle.core_rule_sets.specs.SiteTables.{IsTable}
use Rattle.core_rule_sets.specs.SiteViews.{member_sites, set_rule_views}
use Rattle.core_builder.specs.VisitedSites.{IsSiteOf, BuilderStandsAt, built_sites}
use Rattle.core_builder.specs.declared.ruleset_builder.RuleSetBuilder.{RuleSetBuilder}
use Rattle.core_builder.specs.declared.term_sets.TermSet.{TermSet}

-- it has a table of its sites
abbrev pub HasTable : TermSet → Type 0
HasTable s = IsTable s.builder.table

-- the set so far
abbrev pub set_so_far : TermSet → SiteSet
set_so_far s = record { rules = set_rule_views s.rules.items; sites = built_sites s.builder }

-- reports, as the errors that they are answered as
abbrev pub report_views : List RuleReport → List Refusal
report_views rs = map refusal_of rs

-- errors, and those of these reports
abbrev pub Reports : List Error → List Error → List RuleReport → Type 0
Reports errors more said = error_views more ≡ error_views errors ++ report_views said

-- errors, and one more for each of some things, that the rule there can't be reached
abbrev pub unreachable_each : {X : Type 0} → List X → Pos → List Refusal
unreachable_each whys pos = map (λ why. unreachable (position pos)) whys

-- the set of a term goes on past a rule, after these sites of the term's rules before, and errors are added
pub record SetGoesOn (p : Program) (before : List SiteTerm) (r : TypedRule) (old new : TermSet) (errors more : List Error) : Type 0 where
  pub said : List RuleReport
  pub goes : GoesPast p before r (set_so_far old) (set_so_far new) said
  pub table : HasTable new
  pub reports : Reports errors more said

-- a rule of a set has these demands, and the calls, place and priority of the rule that it came from
pub record IsListed (b : RuleSetBuilder) (k : Closed) (from : Rule) (value : ℕ) (r : SetRule) : Type 0 where
  pub demands : AreListedAs (built_sites b) k r.constraints r.classes
  pub id : r.id ≡ (rule_view from).id
  pub at : r.at ≡ (rule_view from).at
  pub prio : r.prio ≡ (rule_view from).prio
  pub name : r.name ≡ (rule_view from).name
  pub iterators : r.iterators ≡ member_sites b.iterators
  pub impure : r.impure ≡ b.impure.items
  pub result : r.result ≡ value

-- such a rule is added to a set
pub record AddsListed (b : RuleSetBuilder) (k : Closed) (from : Rule) (value : ℕ) (old new : TermSet) : Type 0 where
  pub rule : SetRule
  pub listed : IsListed b k from value rule
  pub last : set_rule_views new.rules.items ≡ set_rule_views old.rules.items ++ rule ∷ []

-- the visit of a rule is done: nothing that it counted passes a limit, and the site of its result has this number
pub record WasVisited (p : Program) (before : List SiteTerm) (r : TypedRule) (b : RuleSetBuilder) (value : ℕ) : Type 0 where
  pub stands : BuilderStandsAt before b (visit_rule p r).visit
  pub site : IsSiteOf b (visit_rule p r).site value

-- errors, and one more, of the limit that a visit met
pub record ReportsLimit (errors more : List Error) (fault : VisitFault) (pos : Pos) : Type 0 where
  pub limit : Limit
  pub met : fault ≡ Faults.Limit limit
  pub reported : error_views more ≡ error_views errors ++ past_limit (limit_view limit) (position pos) ∷ []

-- a rule may be read next into a set: it hangs together in a program with these terms, and the set's sites stand for these
pub record MayAddRule (known : List TermEntry) (r : TypedRule) (b : RuleSetBuilder) (p : Program) (before : List SiteTerm) : Type 0 where
  pub terms : p.terms ≡ known
  pub formed : is_formed_rule p r ≡ true
  pub table : IsTable b.table
  pub once : IsDistinct before
  pub stand : StandFor (built_sites b) before
