-- What is read of the rules of a list is what the model's function gives, where the terms that they use have constructors.
use Rattle.std.proofs.Common.{◌≡◌, ◌≢◌, All, IsTrue, List, [], ◌∷◌, Option, Some, None, slice_get, sym, ap, ◌∙◌, inl, inr, ◌⊎◌, arith}
use Rattle.std.specs.List.{flat_map}
use Rattle.std.proofs.lemmas.List.Elements.{All-nil, All-cons, All-head, All-tail, All-append, All-weaker}
use Rattle.std.proofs.lemmas.Option.{none-some, same_Some}
use Rattle.std.proofs.lemmas.Grind.{common_steps}
use Rattle.core_syntax.specs.declared.syntax.Error.{Error}
use Rattle.model.specs.lists.Syntax.{Position, Name, RuleTree}
use Rattle.model.specs.lists.Names.{number}
use Rattle.model.specs.rules.Typed.{TypedRule}
use Rattle.model.specs.lists.Setting.{Setting, entry_named}
use Rattle.model.specs.lists.Elaborated.{TypedRules, typed_rules}
use Rattle.model.proofs.Positions.{get_front}
use Rattle.core_types.specs.declared.type_env.TypeEnv.{TypeEnv}
use Rattle.core_types.specs.Envs.{names_of, IsInterned}
use Rattle.core_syntax.specs.NotedErrors.{NotesMore, MayNoteMore}
use Rattle.core_syntax.proofs.NotedErrors.{some_noted}
use Rattle.core_rules.specs.declared.term_env.TermEnv.{TermEnv}
use Rattle.core_rules.specs.Constructors.{has_constructor_if_there, AreMadeUses, AreFoundMade, CallsMade, uses_of_rule, AreTermsNamed}
use Rattle.core_typed.specs.Elaborating.{Checks}
use Rattle.core_rules.specs.PatternUses.{found_term}
use Rattle.core_rules.specs.RuleLists.{rules_within, CollectsRules}
use Rattle.core_rules.specs.ShownSettings.{Keeps, IsSettingOf}
use Rattle.core_types.proofs.RightTypes.{all_left, all_right}
use Rattle.core_rules.proofs.ConstructorLaws.{same_entry, rules_same, rules_uses}
use Rattle.core_rules.proofs.MadeCalls.{rules_made}
use Rattle.core_rules.proofs.NamesKept.{Kept, kept_here}
use Rattle.core_rules.proofs.Readings.{keep_setting}
use Rattle.core_rules.proofs.TermsFound.{found_named}

-- what was noted stays
pub still_some : (old new : List Error) → old ≢ [] → MayNoteMore old new → new ≢ []
still_some old new some (inl a) none = some (sym a ∙ none)
still_some old new some (inr a) none = some_noted a none

none_unless : (o : Option TypedRules) → ((l : TypedRules) → o ≡ Some l → ⊥) → o ≡ None
none_unless o h = grind (arith, common_steps)

module _ (env : TermEnv) (old mid : TypeEnv) (inv : IsInterned mid) (keeps : Keeps old mid) (e : Setting) (is : IsSettingOf old env e) (k : AreTermsNamed e (names_of old)) where
  kept : Kept (names_of old) (names_of mid)
  kept = record {
    at = λ i x h. ap (λ ns. slice_get ns i) keeps.names.1 ∙ get_front (names_of old) keeps.names.0 i x h;
    once = λ d i j x h l. same_Some i j (sym (inv.numbered x i h) ∙ inv.numbered x j l);
  }

  abbrev IsMade : Position × Name → Type 0
  IsMade u = IsTrue (has_constructor_if_there (entry_named (number (names_of old) u.1.text) e.terms))

  abbrev IsFoundMade : Position × Name → Type 0
  IsFoundMade u = IsTrue (has_constructor_if_there (found_term env mid u.1.text))

  same_use : (u : Position × Name) → has_constructor_if_there (entry_named (number (names_of old) u.1.text) e.terms) ≡ has_constructor_if_there (found_term env mid u.1.text)
  same_use u = ap has_constructor_if_there (sym (same_entry e (names_of old) k (names_of mid) kept u.1.text) ∙ found_named env mid inv u.1.text e (keep_setting env old mid e keeps is))

  pub made_uses : (uses : List (Position × Name)) → AreFoundMade env mid uses → AreMadeUses e (names_of old) uses
  made_uses uses h = All-weaker IsFoundMade IsMade (λ u m. same_use u ∙ m) uses h

  pub found_uses : (uses : List (Position × Name)) → AreMadeUses e (names_of old) uses → AreFoundMade env mid uses
  found_uses uses h = All-weaker IsMade IsFoundMade (λ u m. sym (same_use u) ∙ m) uses h

  abbrev IsMadeRule : RuleTree → Type 0
  IsMadeRule r = AreMadeUses e (names_of old) (uses_of_rule r)

  by_rule : (rs : List RuleTree) → AreMadeUses e (names_of old) (flat_map uses_of_rule rs) → All IsMadeRule rs
  by_rule [] h = All-nil IsMadeRule
  by_rule (r ∷ rs) h = All-cons IsMadeRule r rs (all_left IsMade (uses_of_rule r) (flat_map uses_of_rule rs) h) (by_rule rs (all_right IsMade (uses_of_rule r) (flat_map uses_of_rule rs) h))

  together : (rs : List RuleTree) → All IsMadeRule rs → AreMadeUses e (names_of old) (flat_map uses_of_rule rs)
  together [] h = All-nil IsMade
  together (r ∷ rs) h = All-append IsMade (uses_of_rule r) (flat_map uses_of_rule rs) (All-head IsMadeRule r rs h) (together rs (All-tail IsMadeRule r rs h))

  -- all rules are typed, and nothing is noted; or something is, and they can't all be
  module _ (errors read before after : List Error) (trees : List RuleTree) (rules : List TypedRule) where
    abbrev Typed : Type 0
    Typed = (read ≡ errors) × (after ≡ before) × (typed_rules e 0 trees (names_of old) ≡ Some (record { rules = rules; names = names_of mid }))

    abbrev NotTyped : Type 0
    NotTyped = ((read ≢ []) ⊎ NotesMore before after) × (typed_rules e 0 trees (names_of old) ≡ None)

    made_all : (l : TypedRules) → typed_rules e 0 trees (names_of old) ≡ Some l → All IsMadeRule trees
    made_all l h = rules_uses e (names_of old) k 0 trees (names_of old) l kept_here h

    at_end : ((read ≡ errors) × (rules_within e 0 trees (names_of old) ≡ Some (record { rules = rules; names = names_of mid }))) ⊎ ((read ≢ []) × (rules_within e 0 trees (names_of old) ≡ None))
        → Checks before after (AreFoundMade env mid (flat_map uses_of_rule trees)) → Typed ⊎ NotTyped
    at_end (inl a) (inl c) = inl (a.0, c.0, sym (rules_same e (names_of old) k 0 trees (names_of old) kept_here (by_rule trees (made_uses (flat_map uses_of_rule trees) c.1))) ∙ a.1)
    at_end (inl a) (inr c) =
        inr (inr c.0, none_unless (typed_rules e 0 trees (names_of old)) (λ l h. c.1 (found_uses (flat_map uses_of_rule trees) (together trees (made_all l h)))))
    at_end (inr b) c =
        inr (inl b.0, none_unless (typed_rules e 0 trees (names_of old)) (λ l h. none-some l (sym b.1 ∙ rules_same e (names_of old) k 0 trees (names_of old) kept_here (made_all l h) ∙ h)))

    pub rules_typed : CollectsRules env old mid errors read trees rules → Checks before after (AreFoundMade env mid (flat_map uses_of_rule trees)) → Typed ⊎ NotTyped
    rules_typed reads checks = at_end (reads e is) checks

  -- where all rules are typed, and each term that they call has a constructor, so has each that they use
  pub used_where_called : (read before : List Error) (trees : List RuleTree) (rules : List TypedRule) → CollectsRules env old mid [] read trees rules → MayNoteMore read before → All (CallsMade e.terms) rules → before ≡ [] → AreFoundMade env mid (flat_map uses_of_rule trees)
  used_where_called read before trees rules reads more calls none =
      elim (reads e is) [
        | inl a ↦ found_uses (flat_map uses_of_rule trees) (rules_made e (names_of old) k 0 trees (names_of old) (record { rules = rules; names = names_of mid }) kept_here a.1 calls)
        | inr b ↦ absurd (still_some read before b.0 more none)
      ]
