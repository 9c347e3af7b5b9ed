-- The use of a term in a pattern, step by step as it is looked at.
use Rattle.std.proofs.Common.{◌≡◌, ℕ, suc, Bool, false, eqb, List, [], ◌∷◌, length, map, Option, Some, option_and_then, slice_get, refl, sym, ap, ◌∙◌, inl, inr, arith}
use Rattle.std.proofs.lemmas.Bool.{cases_Bool}
use Rattle.std.proofs.lemmas.Option.{none-some}
use Rattle.std.proofs.lemmas.Grind.{common_steps}
use Rattle.core_syntax.specs.declared.syntax.Error.{Error}
use Rattle.core_syntax.specs.declared.syntax.Pattern.{Pattern}
use Rattle.core_syntax.specs.SyntaxViews as S
use Rattle.model.specs.lists.Syntax.{Position, Name, PatternTree, PatternTrees, term_pattern, pattern_list}
use Rattle.model.specs.lists.Names.{number}
use Rattle.model.specs.lists.Tables.{TermKindEntry, TermEntry}
use Rattle.model.specs.lists.Expansions.{substituted}
use Rattle.model.specs.lists.Setting.{Setting, Scope, entry_named, term_of, that, has_extractor, pattern_converter}
use Rattle.model.proofs.Options.{then_some}
use Rattle.core_types.specs.Envs.{symbol_of, IsInterned}
use Rattle.core_syntax.proofs.NotedErrors.{both}
use Rattle.core_terms.specs.Terms.{has_extractor_kind}
use Rattle.core_terms.specs.TermViews.{term_views}
use Rattle.core_rules.specs.declared.term_env.TermEnv.{TermEnv}
use Rattle.core_typed.specs.Elaborating.{Checks}
use Rattle.core_rules.specs.TermEnvs.{term_in_env}
use Rattle.core_rules.specs.PatternUses.{found_term, found_converter, found_template, IsExpansionOf}
use Rattle.core_rules.specs.ShownSettings.{Standing, IsSettingOf, Shows}
use Rattle.core_rules.proofs.TermsFound.{found_named}

-- one fact after another is checked
pub checks_both : (a b c : List Error) (P Q : Type 0) → Checks a b P → Checks b c Q → Checks a c (P × Q)
checks_both a b c P Q h k = grind (arith, both)

-- lists of patterns
pub list_is : (ps : List Pattern) → pattern_list (S.pattern_views ps) ≡ map S.pattern_view ps
list_is [] = refl
list_is (p ∷ ps) = ap (λ qs. S.pattern_view p ∷ qs) (list_is ps)

pub list_length : (ps : List Pattern) → length (pattern_list (S.pattern_views ps)) ≡ length ps
list_length [] = refl
list_length (p ∷ ps) = ap suc (list_length ps)

-- extractors
same_extractor : (k : TermKindEntry) → has_extractor k ≡ has_extractor_kind k
same_extractor _ = refl

pub that_same : (p q : TermEntry → Bool) → ((t : TermEntry) → p t ≡ q t) → (o : Option TermEntry) → that p o ≡ that q o
that_same p q h o = grind (arith, common_steps)

-- a name is found by its number
module _ (env : TermEnv) (at : Standing) (inv : IsInterned at.tyenv) (x : List ℕ) where
  pub found_so : (o : Option TermEntry) → o ≡ found_term env at.tyenv x → (e : Setting) (s : Scope) → IsSettingOf at.tyenv env e → Shows at s → term_of e s x ≡ o
  found_so o h e s is sh = ap (λ ns. entry_named (number ns x) e.terms) (sym sh.names) ∙ found_named env at.tyenv inv x e is ∙ sym h

module _ (multi : Bool) (env : TermEnv) (old : Standing) (inv : IsInterned old.tyenv) (name : Name) (args : PatternTrees) (at : Position) (ty : ℕ) where
  abbrev whole : PatternTree
  whole = term_pattern name args at

  module _ (t : TermEntry) (known : Some t ≡ found_term env old.tyenv name.text) where
    pub found : (e : Setting) (s : Scope) → IsSettingOf old.tyenv env e → Shows old s → term_of e s name.text ≡ Some t
    found = found_so env old inv name.text (Some t) known

    at_place : (k : ℕ) × (slice_get (term_views env.terms.items) k ≡ Some t)
    at_place = let p = then_some (option_and_then (term_in_env env) (symbol_of old.tyenv name.text)) (slice_get (term_views env.terms.items)) t (sym known) in (p.0, p.2)

    pub converter_is : (e : Setting) → IsSettingOf old.tyenv env e → eqb t.ret_ty ty ≡ false → pattern_converter e t.ret_ty ty ≡ found_converter env has_extractor_kind t.ret_ty ty
    converter_is e is ne = grind (arith, common_steps, that_same, same_extractor)

    -- a use of another type, which a converter brings to this one
    module _ (by : TermEntry) (converts : Some by ≡ found_converter env has_extractor_kind t.ret_ty ty) where
      pub differs : eqb t.ret_ty ty ≡ false
      differs = elim (cases_Bool (eqb t.ret_ty ty)) [ inr f ↦ f | inl same ↦ absurd (none-some by (sym (rw same refl) ∙ sym converts)) ]

    -- what its template makes
    pub template_expands : (template made : PatternTree) → Some template ≡ found_template env t → Some made ≡ substituted (pattern_list args) template → IsExpansionOf env whole args made
    template_expands template made there is_made = grind (arith, common_steps, at_place, none-some)
