-- What holds of the errors that a program is checked with holds of those that are answered.
use Rattle.std.proofs.Common.{List, map, Ok, Err, sym, subst}
use Rattle.std.specs.Prelude.{Result}
use Rattle.std.specs.Global.{Vec}
use Rattle.core_syntax.specs.Answers.{OnErrors}
use Rattle.core_syntax.specs.declared.syntax.Fault.{Fault}
use Rattle.core_syntax.specs.declared.syntax.Fault.TheVariants.{Memory, Errors}
use Rattle.model.specs.rules.Program.{Program}
use Rattle.model.specs.sites.Overlap.{RuleReport}
use Rattle.model.specs.claims.Layers.{CheckReports}
use Rattle.model.specs.claims.Refusals.{Refusal, refusal_of}
use Rattle.core_types.specs.declared.ids.TermId.{TermId}
use Rattle.core_syntax.specs.ErrorViews.{error_views}
use Rattle.core_rule_sets.specs.declared.trie_again.RuleSet.{RuleSet}
use Rattle.laws_sites.specs.ShadowLaws.{check_errors}
use Rattle.cranelift_isle.specs.Checks.{IsChecked}

pub named : (P : Program → List Refusal → Type 0) (p : Program) (result : Result (Vec (TermId × RuleSet)) Fault)
    → ((reports : List RuleReport) → CheckReports p reports → P p (map refusal_of reports)) → IsChecked p result → OnErrors result (λ es. P p (error_views es))
named P p (Ok sets) law checked = tt
named P p (Err (Memory e)) law checked = tt
named P p (Err (Errors es)) law checked = subst (P p) (sym checked.are) (law checked.reports checked.reported)

-- and what holds of exactly those that there are
pub named_exactly : (P : Program → List Refusal → Type 0) (p : Program) (result : Result (Vec (TermId × RuleSet)) Fault) → P p (check_errors p) → IsChecked p result → OnErrors result (λ es. P p (error_views es))
named_exactly P p (Ok sets) law checked = tt
named_exactly P p (Err (Memory e)) law checked = tt
named_exactly P p (Err (Errors es)) law checked = subst (P p) (sym checked.exact) law
