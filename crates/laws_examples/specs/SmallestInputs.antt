-- Samples that tell apart what a statement asks from what it might ask: the smallest inputs behind choices of statements.
use Rattle.std.specs.Prelude.{◌≡◌, ◌∷◌, [], pos, false, List, None, All, IsTrue, is_some, slice_get, ℕ, true, codes, Some, Bool, map}
use Rattle.model.specs.rules.Meaning.{Meaning, nothing, look, finite}
use Rattle.model.specs.sites.Sites.{SetRule, Site, SiteSet, argument_site, constructor_site, make_variant_site, sources_at, match_some_site, is_present, is_variant, match_variant_site}
use Rattle.model.specs.trees.Collects.{content_at, IsPureAt}
use Rattle.model.specs.trees.Places.{waits}
use Rattle.model.specs.trees.Run.{World, run, world_of}
use Rattle.model.specs.trees.SetRuns.{ServesTests, HasNoWrongOverlap, HoldsOnce}
use Rattle.model.specs.claims.Layers.{own_program, CheckReports, IsBuiltForSome, LoweredTerm, LoweringAnswers, RefusedBy}
use Rattle.model.specs.claims.SetMeanings.{returning_once}
use Rattle.model.specs.lists.Syntax.{Definition, declaration}
use Rattle.model.specs.rules.Program.{Program}
use Rattle.model.specs.rules.Typed.{TypedRule, make_int, match_any}
use Rattle.model.specs.sites.Overlap.{RuleReport}
use Rattle.model.specs.rules.Outcome.{ran_through}
use Rattle.model.specs.rules.RightSide.{right_side}
use Rattle.model.specs.trees.Trees.{Tree, no_step}
use Rattle.std.specs.Bool.{◌==◌}
use Rattle.model.specs.claims.Environments.{AnswersBy, PassesNesting, TermEnvironment, TypeEnvironment, types_read, shown_terms, environment_of}
use Rattle.model.specs.claims.Refusals.{of_nesting, past_limit}
use Rattle.model.specs.lists.Signatures.{Signature, constructor_signature, extractor_signature, gives_one, gives_one_or_none}
use Rattle.model.specs.sites.SetRules.{may_fit, sites_brought, no_overlap, overlap_between, some_overlap}
use Rattle.model.specs.claims.Questions.{IsWellFormedEnvironment, identifier, term_of_site}
use Rattle.model.specs.lists.KnownTypes.{types_of}
use Rattle.model.specs.lists.TypeTable.{type_table}
use Rattle.laws_typing.specs.QuestionLaws.{IsVariantsTerm}
use Rattle.model.specs.trees.Best.{total_constraints}
use Rattle.laws_examples.specs.Effects.{effects_defs, effects_rule, effects_rules, effects_set}
use Rattle.laws_examples.specs.MeaningForms.{given, literal, mute, answers, of_literals}
use Rattle.laws_examples.specs.SetForms.{a_rule, byte, is_byte, returning}
use Rattle.laws_examples.specs.TypedForms.{own, rules_and_names, typed, u8, by_constructor, by_extractor, entry, no_flags}
use Rattle.laws_examples.specs.Written.{f_of_bytes, number, numbers, of_f, rule_to, variable, any, at}
use Rattle.laws_examples.specs.Fall.{fall_defs, fall_rules}
use Rattle.laws_examples.specs.Refused.{two_of_one_name}

-- 1. What stands above an impure call is asked of rules that match alone.
--   (type T (enum (P (a u8))))
--   (decl im (u8) u8)
--   (extern constructor im im_fn)
--   (decl f (u8) T)
--   (rule 1 (f 1) (T.P (im 1)))
--   (rule (f _) (T.P 2))
abbrev pub wrapped_call : SetRule
wrapped_call = record (a_rule 0 4 (pos 1) ((0, is_byte 1) ∷ []) [] 3) { impure = 2 ∷ [] }

abbrev pub wrapped_two : SetRule
wrapped_two = a_rule 1 5 (pos 0) [] [] 5

abbrev pub wrapped_sites : List Site
wrapped_sites = argument_site 0 ∷ byte 1 ∷ constructor_site 0 (1 ∷ []) 1 ∷ make_variant_site own 0 (2 ∷ []) ∷ byte 2 ∷ make_variant_site own 0 (4 ∷ []) ∷ []

abbrev pub wrapped_set : SiteSet
wrapped_set = record { rules = wrapped_call ∷ wrapped_two ∷ []; sites = wrapped_sites }

-- the call answers nothing that is a number. It is never made on 2
abbrev pub wrapped_meaning : Meaning
wrapped_meaning = finite (record (of_literals (literal (pos 1) ∷ literal (pos 2) ∷ [])) { impure_calls = ((0, 0), nothing) ∷ [] })

abbrev pub wrapped_world : World
wrapped_world = record { sites = wrapped_sites; args = given (pos 2); meaning = wrapped_meaning; multi = false }

-- a construction that makes no impure call itself, waits for nothing, and whose source has a content, has none; and yet
-- the world has what tests ask
abbrev pub AboveCallsNothingIsAsked : Type 0
AboveCallsNothingIsAsked =
    IsPureAt wrapped_sites 3
    × (waits (slice_get wrapped_sites 3) ≡ false)
    × All (λ a. IsTrue (is_some (content_at wrapped_world [] a))) (sources_at wrapped_sites 3)
    × (content_at wrapped_world [] 3 ≡ None)
    × ServesTests wrapped_set wrapped_world

-- 3. Binding one rule's sites doesn't depend on whether the term is multi.
--   (decl multi f (u8) u8)
--   (rule (f _) 7)
abbrev pub seven_defs : List Definition
seven_defs = declaration (record (numbers 0 (codes "f")) { multi = true }) ∷ rule_to 1 (of_f 1 (any 1 ∷ [])) (number 1 (pos 7)) ∷ []

abbrev pub seven_rule : TypedRule
seven_rule = typed 0 1 0 (pos 0) (Some 13) [] (match_any u8 ∷ []) (make_int u8 (pos 7))

abbrev pub seven_program : Program
seven_program = own_program seven_defs (rules_and_names (seven_rule ∷ []) (codes "f" ∷ []))

abbrev pub seven_meaning : Meaning
seven_meaning = mute (literal (pos 7) ∷ [])

abbrev pub seven_world : World
seven_world = world_of seven_program 0 (argument_site 0 ∷ byte 7 ∷ []) seven_meaning (given (pos 1))

abbrev pub seven_tree : Tree
seven_tree = returning [] 1 1 no_step

-- the right side's outcome ends with its result; the run of the term goes on after the return, and one that returns once
-- does not
abbrev pub ReturnsOfMultiTermsGoOn : Type 0
ReturnsOfMultiTermsGoOn =
    (right_side seven_program seven_meaning seven_rule [] ≡ answers (pos 7))
    × (run seven_tree (returning_once seven_world) ≡ answers (pos 7))
    × ((run seven_tree seven_world).ending ≡ ran_through)

-- 7. In a set with a wrong overlap two rules of one priority may be taken; else at most one.
--   (decl f (u8) u8)
--   (rule (f 1) 1)
--   (rule (f _) 2), or (rule (f 2) 2)
abbrev pub at_one : SetRule
at_one = a_rule 0 1 (pos 0) ((0, is_byte 1) ∷ []) [] 1

abbrev pub at_any : SetRule
at_any = a_rule 1 2 (pos 0) [] [] 2

abbrev pub at_two : SetRule
at_two = a_rule 1 2 (pos 0) ((0, is_byte 2) ∷ []) [] 2

abbrev pub one_or_two_world : World
one_or_two_world = record { sites = argument_site 0 ∷ byte 1 ∷ byte 2 ∷ []; args = given (pos 1); meaning = mute (literal (pos 1) ∷ literal (pos 2) ∷ []); multi = false }

abbrev pub OverlapsMayHoldTwice : Type 0
OverlapsMayHoldTwice =
    (HasNoWrongOverlap (at_one ∷ at_any ∷ []) → ⊥)
    × (HoldsOnce (at_one ∷ at_any ∷ []) one_or_two_world → ⊥)
    × HasNoWrongOverlap (at_one ∷ at_two ∷ [])

-- 4. What lowering gives has the names that were met.
abbrev pub NamelessIsNotAnswered : Type 0
NamelessIsNotAnswered =
    (types : TypeEnvironment) (terms : TermEnvironment) (lowered : List LoweredTerm) → types.names ≡ [] → LoweringAnswers fall_defs true types terms fall_rules lowered → ⊥

-- 5. A look-up has no list: two lists may be behind one.
abbrev pub LookUpsHaveNoList : Type 0
LookUpsHaveNoList = AnswersBy (λ k. look (λ n. n == k) ((1, 10) ∷ ((1, 11) ∷ []))) ((1, 10) ∷ [])

-- 6. Of types that aren't valid no error names a limit; and nothing is reported of rules that can be told apart, whatever
-- stands at one position.
abbrev pub LimitsAreNamedWherePassed : Type 0
LimitsAreNamedWherePassed =
    ((expand : Bool) → RefusedBy two_of_one_name expand (past_limit of_nesting (at 0) ∷ []) → ⊥)
    × ((reports : List RuleReport) → CheckReports (own_program fall_defs fall_rules) reports → ⊥)

-- 8. Behind a rule that has no typed rule the limits are those of the names of the terms.
--   (decl f (u8) u8)
--   (rule (f _) y)
--   (rule (f _) z)
abbrev pub two_unbound : List Definition
two_unbound = f_of_bytes 0 1 ∷ rule_to 1 (of_f 1 (any 1 ∷ [])) (variable 1 (codes "y")) ∷ rule_to 2 (of_f 2 (any 2 ∷ [])) (variable 2 (codes "z")) ∷ []

abbrev pub SecondIsReadAlone : Type 0
SecondIsReadAlone = PassesNesting (types_read two_unbound) two_unbound true 0 × PassesNesting (types_read two_unbound) two_unbound true 1

-- 10. A set without rules and sites is built for some list: of a term that has no rules.
abbrev pub EmptySetsAreBuilt : Type 0
EmptySetsAreBuilt = IsBuiltForSome (record { rules = []; sites = [] })

-- 14. Signatures, and what constraints and sets answer of sites.
--   (decl w (u8) T), (extern constructor w w_fn), (extern extractor w w_ex)
abbrev pub names_of_w : List (List ℕ)
names_of_w = codes "w" ∷ codes "w_fn" ∷ codes "w_ex" ∷ []

abbrev pub signed : List ℕ → List ℕ → Signature
signed params rets = record { func_name = codes "w_fn"; full_name = codes "C::w_fn"; param_tys = params; ret_tys = rets; ret_kind = gives_one }

abbrev pub SignaturesOfW : Type 0
SignaturesOfW =
    (constructor_signature names_of_w (entry 0 0 0 (u8 ∷ []) own (by_constructor no_flags 1)) ≡ Some (signed (u8 ∷ []) (own ∷ [])))
    × (extractor_signature names_of_w (entry 0 0 0 (u8 ∷ []) own (by_constructor no_flags 1)) ≡ None)
    × (extractor_signature names_of_w (entry 0 0 0 (u8 ∷ []) own (by_extractor no_flags 2 0))
    ≡ Some (record { func_name = codes "w_ex"; full_name = codes "C::w_ex"; param_tys = own ∷ []; ret_tys = u8 ∷ []; ret_kind = gives_one_or_none }))

abbrev pub SitesAreBrought : Type 0
SitesAreBrought =
    (sites_brought is_present 0 ≡ match_some_site 0 ∷ [])
    × (sites_brought (is_variant own 1 2) 0 ≡ match_variant_site 0 1 0 ∷ (match_variant_site 0 1 1 ∷ []))
    × (sites_brought (is_byte 1) 0 ≡ [])
    × (may_fit (is_variant own 1 1) (make_variant_site own 0 (2 ∷ [])) ≡ false)
    × (may_fit (is_byte 1) (byte 2) ≡ false)
    × (may_fit (is_byte 1) (argument_site 0) ≡ true)

-- What is told of two rules of a set: other constraints of one site, constraints that are the other's too, those of
-- different sites, and an equality.
abbrev pub at_second : SetRule
at_second = a_rule 3 4 (pos 0) ((1, is_byte 2) ∷ []) [] 0

abbrev pub at_equal : SetRule
at_equal = a_rule 4 5 (pos 0) [] ((0 ∷ 1 ∷ []) ∷ []) 0

abbrev pub OverlapsAreTold : Type 0
OverlapsAreTold =
    (overlap_between at_one at_two ≡ no_overlap)
    × (overlap_between at_one at_any ≡ some_overlap true)
    × (overlap_between at_one at_second ≡ some_overlap false)
    × (overlap_between at_equal at_any ≡ some_overlap false)
    × (total_constraints at_one ≡ 1)
    × (total_constraints at_equal ≡ 2)

-- The terms of sites in `effects`, whose term 3 is the variant; and what a rule is called, with a name and without.
abbrev pub TermsOfSites : Type 0
TermsOfSites =
    map (term_of_site (type_table effects_defs) (shown_terms (types_read effects_defs) effects_defs).term_of) effects_set.sites
    ≡ None ∷ Some 0 ∷ None ∷ Some 1 ∷ Some 3 ∷ None ∷ []

abbrev pub IdentifiersOfRules : Type 0
IdentifiersOfRules =
    (identifier effects_rules.names (λ p. codes "here") effects_rule ≡ codes "f")
    × (identifier effects_rules.names (λ p. codes "here") (record effects_rule { name = None }) ≡ codes "here")

-- The types of a list are shown by a well-formed environment; one in which each name is mapped to the first type is none.
abbrev pub EnvironmentsOfLists : Type 0
EnvironmentsOfLists =
    IsWellFormedEnvironment (environment_of (types_read fall_defs))
    × (IsWellFormedEnvironment (record (environment_of (types_read fall_defs)) { type_of = λ k. Some 0 }) → ⊥)

-- The variant of `effects` has its term.
abbrev pub VariantHasItsTerm : Type 0
VariantHasItsTerm = IsVariantsTerm (types_of effects_defs) effects_defs 13 0 3
