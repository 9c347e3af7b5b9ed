-- Built sets with the rules that they are built of, meanings under which they are used, and the rules of terms.
use Rattle.std.proofs.Common.{◌≡◌, ◌==◌, ℕ, List, IsTrue, Contains, eqb-true}
use Rattle.model.specs.rules.Values.{Value, args_well_typed}
use Rattle.model.specs.rules.Meaning.{Meaning}
use Rattle.model.specs.rules.Program.{Program, arg_types, rules_of}
use Rattle.model.specs.rules.Typed.{TypedRule}
use Rattle.model.specs.sites.Sites.{SetRule, SiteSet}
use Rattle.model.specs.sites.Overlap.{BuiltRule, built_rules}
use Rattle.model.specs.sites.RuleSets.{IsRuleOf, IsBuilt}
use Rattle.model.specs.sites.Serves.{Serves, TellsConstantsApart}
use Rattle.model.proofs.Elements.{In, in_from_contains, contains_from_in, in_filter, passed_filter}
use Rattle.laws_typing.specs.WellTypedPrograms.{IsWellTypedRule, IsWellTypedProgram}

-- 1. sets
-- a set that is built of the rules of one term of a program
pub record BuiltSet : Type 0 where
  pub program : Program
  pub term : ℕ
  pub set : SiteSet
  pub built : IsBuilt program term set

-- one of its rules, the built rule of the term that it stands for, and how
pub record RuleOfSet (b : BuiltSet) : Type 0 where
  pub typed : BuiltRule
  pub listed : In (built_rules b.program b.term) typed
  pub rule : SetRule
  pub is : IsRuleOf b.program b.set.sites typed rule

-- a meaning and arguments of a term's types, where it serves the term's rules and tells their constants apart
pub record ServingMeaning (p : Program) (t : ℕ) : Type 0 where
  pub meaning : Meaning
  pub args : List Value
  pub typed : IsTrue (args_well_typed p.types (arg_types p t) args)
  pub serves : Serves p meaning args (rules_of p t)
  pub apart : TellsConstantsApart p meaning (rules_of p t)

-- 2. rules of terms
pub of_term : (p : Program) (t : ℕ) (r : TypedRule) → Contains (rules_of p t) r → Contains p.rules r × (r.root_term ≡ t)
of_term p t r c =
    let i = in_from_contains (rules_of p t) r c in
    (contains_from_in p.rules r (in_filter (λ (q : TypedRule). q.root_term == t) p.rules r i), eqb-true r.root_term t (passed_filter (λ (q : TypedRule). q.root_term == t) p.rules r i))

-- those of a well-typed program are well typed
pub typed_rule : (p : Program) (t : ℕ) (r : TypedRule) → IsWellTypedProgram p → Contains (rules_of p t) r → IsWellTypedRule p r
typed_rule p t r h c = h.rules r (of_term p t r c).0
