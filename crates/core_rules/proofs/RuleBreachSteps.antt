-- Uses of terms without a constructor, one definition after another: where the first error on one stands.
use Rattle.std.proofs.Common.{◌≡◌, ◌≢◌, ℕ, ◌+◌, ◌<◌, IsTrue, List, [], ◌∷◌, ◌++◌, length, take, drop, get_or, sym, ap, subst, ◌∙◌, inl, inr, ◌⊎◌, arith}
use Rattle.std.specs.List.{flat_map}
use Rattle.std.proofs.lemmas.Grind.{flat_map-append}
use Rattle.std.proofs.lemmas.List.{append-nil}
use Rattle.std.proofs.lemmas.List.Elements.{All-nil}
use Rattle.std.proofs.lemmas.Grind.{common_steps}
use Rattle.core_syntax.specs.declared.syntax.Def.{Def}
use Rattle.core_syntax.specs.declared.syntax.Error.{Error}
use Rattle.core_syntax.specs.Positions.{NotesAt, definition_positions, rule_positions}
use Rattle.core_syntax.specs.SyntaxViews as S
use Rattle.core_syntax.proofs.NotedErrors.{some_noted}
use Rattle.model.specs.lists.Syntax.{Position, Name, RuleTree, Definition, rule_definition}
use Rattle.model.specs.lists.TermTable.{rule_of, rule_trees}
use Rattle.core_types.specs.declared.type_env.TypeEnv.{TypeEnv}
use Rattle.core_typed.specs.Elaborating.{Checks}
use Rattle.core_typed.specs.FirstErrors.{MayBegin}
use Rattle.core_typed.proofs.FirstErrors.{IsNoted, BeginsUnless, begins_next, may_check, goes_on, parted}
use Rattle.core_rules.specs.declared.term_env.TermEnv.{TermEnv}
use Rattle.core_rules.specs.Constructors.{uses_of_rule, uses_of_definition, has_constructor_if_there, AreFoundMade}
use Rattle.core_rules.specs.PatternUses.{found_term}
use Rattle.core_rules.specs.RuleBreaches.{UsesUnmade, uses_unmade}
use Rattle.core_rules.proofs.NamedLimits.{rules_before, one_more}

-- the rules before a definition, that which it is, and those after it
pub rules_parted : (defs : List Def) (i : ℕ) (d : Def) → i < length defs → d ≡ get_or defs i d
    → rule_trees (S.definition_views defs) ≡ rules_before defs i ++ (rule_of (S.definition_view d) ++ rule_trees (S.definition_views (drop (i + 1) defs)))
rules_parted defs i d within at =
    ap rule_trees (parted S.definition_view defs i d within at) ∙ flat_map-append rule_of (S.definition_views (take i defs)) (S.definition_view d ∷ S.definition_views (drop (i + 1) defs))

module _ (env : TermEnv) (tyenv : TypeEnv) (old mid after : List Error) (all done rest : List RuleTree) where
  abbrev IsFound : Position × Name → Type 0
  IsFound u = IsTrue (has_constructor_if_there (found_term env tyenv u.1.text))

  abbrev Wrong : List Position → Type 0
  Wrong = UsesUnmade (AreFoundMade env tyenv) all

  abbrev AreUsed : List RuleTree → Type 0
  AreUsed rs = AreFoundMade env tyenv (flat_map uses_of_rule rs)

  used_push : (r : RuleTree) → AreUsed done → AreFoundMade env tyenv (uses_of_rule r) → AreUsed (done ++ r ∷ [])
  used_push r a b = grind (arith, common_steps, flat_map-append)

  rule_used : (r : RuleTree) → all ≡ done ++ r ∷ rest → NotesAt (rule_positions r) mid after → mid ≡ [] → AreUsed done → Checks mid after (AreFoundMade env tyenv (uses_of_rule r))
      → ((after ≡ []) × AreUsed (done ++ r ∷ [])) ⊎ ((after ≢ []) × IsNoted Wrong mid after)
  rule_used r split noted none right (inl c) = inl (c.0 ∙ none, used_push r right c.1)
  rule_used r split noted none right (inr c) = inr (some_noted c.0, (rule_positions r, uses_unmade done r rest split right c.1, noted))

  nothing_used : mid ≡ [] → AreUsed done → Checks mid after (AreFoundMade env tyenv []) → ((after ≡ []) × AreUsed (done ++ [])) ⊎ ((after ≢ []) × IsNoted Wrong mid after)
  nothing_used none right (inl c) = inl (c.0 ∙ none, subst AreUsed (sym (append-nil done)) right)
  nothing_used none right (inr c) = absurd (c.1 (All-nil IsFound))

  definition_used : (d : Definition) → all ≡ done ++ (rule_of d ++ rest) → NotesAt (definition_positions d) mid after → Checks mid after (AreFoundMade env tyenv (uses_of_definition d)) → mid ≡ [] → AreUsed done
      → ((after ≡ []) × AreUsed (done ++ rule_of d)) ⊎ ((after ≢ []) × IsNoted Wrong mid after)
  definition_used (rule_definition r) split noted c none right = rule_used r split noted none right c
  definition_used _ split noted c none right = nothing_used none right c

-- the rules before a definition use terms with constructors, or the first error stands at one of them
abbrev pub UsedUpTo : TermEnv → TypeEnv → List RuleTree → List RuleTree → List Error → List Error → Type 0
UsedUpTo env tyenv all done old mid = BeginsUnless (UsesUnmade (AreFoundMade env tyenv) all) (AreFoundMade env tyenv (flat_map uses_of_rule done)) old mid

pub next_used : (env : TermEnv) (tyenv : TypeEnv) (old mid after : List Error) (defs : List Def) (i : ℕ) (d : Def) → i < length defs → d ≡ get_or defs i d
    → UsedUpTo env tyenv (rule_trees (S.definition_views defs)) (rules_before defs i) old mid → Checks mid after (AreFoundMade env tyenv (uses_of_definition (S.definition_view d))) → NotesAt (definition_positions (S.definition_view d)) mid after
    → UsedUpTo env tyenv (rule_trees (S.definition_views defs)) (rules_before defs (i + 1)) old after
next_used env tyenv old mid after defs i d within at a c noted =
    let all = rule_trees (S.definition_views defs) in
    subst (λ rs. UsedUpTo env tyenv all rs old after) (sym (one_more defs i d within at))
    (begins_next (UsesUnmade (AreFoundMade env tyenv) all) _ _ old mid after a (goes_on mid after (may_check c))
    (λ none right. definition_used env tyenv old mid after all (rules_before defs i) (rule_trees (S.definition_views (drop (i + 1) defs))) (S.definition_view d) (rules_parted defs i d within at) noted c none right))

pub first_used : (env : TermEnv) (tyenv : TypeEnv) (all : List RuleTree) (es : List Error) → UsedUpTo env tyenv all [] es es
first_used env tyenv all es none = inl (none, All-nil (λ u. IsTrue (has_constructor_if_there (found_term env tyenv u.1.text))))

pub last_used : (env : TermEnv) (tyenv : TypeEnv) (all done : List RuleTree) (old after : List Error) → UsedUpTo env tyenv all done old after → MayBegin (UsesUnmade (AreFoundMade env tyenv) all) old after
last_used env tyenv all done old after a none = elim (a none) [ inl t ↦ inl t.0 | inr w ↦ inr w ]
