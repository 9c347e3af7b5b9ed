-- The sets of terms, as the rules of all terms are read one after another.
use Rattle.std.specs.Prelude.{◌≡◌, ℕ, true, List, map, Option, Some, option_map}
use Rattle.std.specs.BTreeMap.{BTreeMap, get}
use Rattle.std.specs.Ordering.{nat_cmp}
use Rattle.model.specs.lists.Formed.{is_formed_rule}
use Rattle.model.specs.lists.Tables.{TermEntry}
use Rattle.model.specs.rules.Typed.{TypedRule}
use Rattle.model.specs.rules.Program.{Program}
use Rattle.model.specs.sites.Sites.{SiteSet}
use Rattle.model.specs.sites.Overlap.{RuleReport}
use Rattle.laws_sites.specs.RuleByRule.{AreBuiltSoFar}
use Rattle.core_syntax.specs.ErrorViews.{error_views}
use Rattle.core_syntax.specs.declared.syntax.Error.{Error}
use Rattle.core_builder.specs.AddedRules.{HasTable, report_views, set_so_far}
use Rattle.core_builder.specs.declared.term_sets.TermSet.{TermSet}

-- the set so far of each term that has one, by its number
abbrev pub term_set_at : BTreeMap ℕ TermSet → ℕ → Option SiteSet
term_set_at sets t = option_map set_so_far (get nat_cmp sets t)

-- the sets so far of a list, each with the number of its term
abbrev pub sets_so_far : List (ℕ × TermSet) → List (ℕ × SiteSet)
sets_so_far es = map (λ e. (e.0, set_so_far e.1)) es

-- each has a table of its sites
abbrev pub AreTables : BTreeMap ℕ TermSet → Type 0
AreTables sets = (t : ℕ) (s : TermSet) → get nat_cmp sets t ≡ Some s → HasTable s

-- after some rules of a program: where its sets stand, and what was reported
pub record StandAfter (p : Program) (done : List TypedRule) (sets : BTreeMap ℕ TermSet) (errors : List Error) : Type 0 where
  pub reports : List RuleReport
  pub built : AreBuiltSoFar p done (term_set_at sets) reports
  pub tables : AreTables sets
  pub reported : error_views errors ≡ report_views reports

-- a rule may be read next, after these
pub record MayGoOn (known : List TermEntry) (r : TypedRule) (p : Program) (done : List TypedRule) (sets : BTreeMap ℕ TermSet) (errors : List Error) : Type 0 where
  pub terms : p.terms ≡ known
  pub formed : is_formed_rule p r ≡ true
  pub stand : StandAfter p done sets errors
