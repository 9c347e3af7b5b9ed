-- That each rule of a list which is typed past the limits alone is named.
use Rattle.std.proofs.Common.{◌≡◌, ℕ, ◌+◌, ◌<◌, Bool, List, ◌++◌, length, get_or, take, All, arith}
use Rattle.std.proofs.lemmas.Grind.{flat_map-append}
use Rattle.std.proofs.lemmas.List.{append-nil, map-append, take_more}
use Rattle.std.proofs.lemmas.List.Elements.{All-contains}
use Rattle.std.proofs.lemmas.Grind.{common_steps}
use Rattle.core_syntax.specs.declared.syntax.Def.{Def}
use Rattle.core_syntax.specs.SyntaxViews as S
use Rattle.model.specs.lists.Syntax.{RuleTree, Definition}
use Rattle.model.specs.lists.TermTable.{rule_of, rule_trees, term_names_met}
use Rattle.model.specs.lists.Setting.{Setting}
use Rattle.model.specs.claims.Environments.{TypesRead, AreReadable, setting_of}
use Rattle.model.specs.claims.Refusals.{Refusal}
use Rattle.model.proofs.Members.{member_from_get}
use Rattle.laws_typing.proofs.NamesOfTables.{names_of_rules_dont_matter_lem}
use Rattle.core_rules.specs.Constructors.{AreTermsNamed}
use Rattle.core_rules.specs.LimitsNamed.{IsNamedPastLimits, NamesTypedPastLimits}
use Rattle.core_rules.proofs.RuleErrorSteps.{reached_from, past_limits_from}

-- 1. rules one after another
-- the rules before the definition at i
abbrev pub rules_before : List Def → ℕ → List RuleTree
rules_before defs i = rule_trees (S.definition_views (take i defs))

pub one_more : (defs : List Def) (i : ℕ) (d : Def) → i < length defs → d ≡ get_or defs i d → rules_before defs (i + 1) ≡ rules_before defs i ++ rule_of (S.definition_view d)
one_more defs i d within at = grind (arith, common_steps, take_more, map-append, flat_map-append, append-nil)

-- 2. the rules of a list
module _ (e : TypesRead) (defs : List Definition) (expand : Bool) (readable : AreReadable e) (k : AreTermsNamed (setting_of e defs expand) (term_names_met e.known defs))
    (errors : List Refusal) (named : All (IsNamedPastLimits (setting_of e defs expand) (term_names_met e.known defs) errors) (rule_trees defs)) where
  abbrev s : Setting
  s = setting_of e defs expand

  abbrev names : List (List ℕ)
  names = term_names_met e.known defs

  pub each_named : NamesTypedPastLimits e defs expand errors
  each_named id h =
      let n = All-contains (IsNamedPastLimits s names errors) (rule_trees defs) h.rule named (member_from_get (rule_trees defs) id h.rule h.here) in
      let alike = λ (d : ℕ). (names_of_rules_dont_matter_lem e defs expand d id h.rule n.more readable n.once).0 in
      let r = reached_from s names k h.rule n.more n.once n.id id alike h.depth h.typing h.reached in
      n.named h.depth r.0 r.1 (past_limits_from s names k h.rule n.more n.once n.id id alike h.depth h.typing h.reached h.none)
