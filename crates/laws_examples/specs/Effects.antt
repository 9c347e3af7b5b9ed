-- A sample: a pure call that may answer nothing, beside an impure one, inside a variant.
--   (type T (enum (P (a u8) (b u8))))
--   (decl pure partial pp (u8) u8)
--   (extern constructor pp pp_fn)
--   (decl im (u8) u8)
--   (extern constructor im im_fn)
--   (decl partial f (u8) T)
--   (rule (f x) (T.P (pp x) (im x)))
use Rattle.std.specs.Prelude.{◌∷◌, [], ◌++◌, ℕ, ℤ, pos, true, false, List, Some, codes}
use Rattle.model.specs.lists.Elaborated.{TypedRules}
use Rattle.model.specs.lists.Syntax.{Definition, declaration}
use Rattle.model.specs.rules.Meaning.{Content, Meaning, just, one, finite}
use Rattle.model.specs.rules.Outcome.{Call, Outcome}
use Rattle.model.specs.rules.Typed.{TypedRule, make_term, make_var}
use Rattle.model.specs.rules.Values.{of_variant, value_and}
use Rattle.model.specs.sites.Sites.{SiteSet, argument_site, constructor_site, make_some_site, make_variant_site, match_some_site}
use Rattle.model.specs.trees.Trees.{Tree, no_step}
use Rattle.laws_examples.specs.MeaningForms.{alone, given, v, no_entries}
use Rattle.laws_examples.specs.SetForms.{a_rule, returning}
use Rattle.laws_examples.specs.Stages.{Sample, HasOutcome}
use Rattle.laws_examples.specs.TypedForms.{bind_any, e_list, own, rules_and_names, typed, typed_var, u8}
use Rattle.laws_examples.specs.Written.{call, constructor_by, decl, enum_of_one, field, numbers, of_f, rule_to, var, variable}

abbrev pub effects_defs : List Definition
effects_defs =
    enum_of_one 0 (codes "T") (codes "P") (field 0 (codes "a") (codes "u8") ∷ field 0 (codes "b") (codes "u8") ∷ [])
    ∷ declaration (record (numbers 1 (codes "pp")) { pure = true; partial = true }) ∷ constructor_by 2 (codes "pp") (codes "pp_fn")
    ∷ declaration (numbers 3 (codes "im")) ∷ constructor_by 4 (codes "im") (codes "im_fn")
    ∷ declaration (record (decl 5 (codes "f") (codes "u8" ∷ []) (codes "T")) { partial = true })
    ∷ rule_to 6 (of_f 6 (var 6 (codes "x") ∷ []))
    (call 6 (codes "T.P") (call 6 (codes "pp") (variable 6 (codes "x") ∷ []) ∷ call 6 (codes "im") (variable 6 (codes "x") ∷ []) ∷ [])) ∷ []

abbrev pub effects_names : List (List ℕ)
effects_names = codes "T" ∷ codes "T.P" ∷ codes "P" ∷ codes "a" ∷ codes "b" ∷ codes "pp" ∷ codes "im" ∷ codes "f" ∷ codes "pp_fn" ∷ codes "im_fn" ∷ []

abbrev pub effects_rule : TypedRule
effects_rule =
    typed 0 6 2 (pos 0) (Some 20) (typed_var 0 23 u8 ∷ []) (bind_any u8 0 ∷ [])
    (make_term own 3 (e_list (make_term u8 0 (e_list (make_var u8 0 ∷ [])) ∷ make_term u8 1 (e_list (make_var u8 0 ∷ [])) ∷ [])))

abbrev pub effects_rules : TypedRules
effects_rules = rules_and_names (effects_rule ∷ []) (effects_names ++ codes "x" ∷ [])

abbrev pub effects_set : SiteSet
effects_set = record {
  rules = record (a_rule 0 6 (pos 0) [] [] 5) { name = Some 20; impure = 3 ∷ [] } ∷ [];
  sites = argument_site 0 ∷ constructor_site 0 (0 ∷ []) 0 ∷ match_some_site 1 ∷ constructor_site 1 (0 ∷ []) 1 ∷ make_variant_site own 0 (2 ∷ 3 ∷ []) ∷ make_some_site 4 ∷ [];
}

-- the impure call is bound first, then the pure one, its answer, the variant and Some of it
abbrev pub effects_tree : Tree
effects_tree = returning (3 ∷ 1 ∷ 2 ∷ 4 ∷ 5 ∷ []) 6 5 no_step

-- a tree that is no best one: the failing call is bound before the impure one
abbrev pub effects_near_trees : List Tree
effects_near_trees = returning (1 ∷ 2 ∷ 3 ∷ 4 ∷ 5 ∷ []) 6 5 no_step ∷ []

abbrev pub effects_sample : Sample
effects_sample = record { defs = effects_defs; rules = effects_rules; term = 2; multi = false; set = effects_set; tree = effects_tree; near_trees = effects_near_trees }

-- pp answers this at 1, and the first impure call answers 6
abbrev pub effects_meaning : Content → Meaning
effects_meaning answer = finite (record no_entries { pure_calls = ((0, alone (pos 1)), answer) ∷ []; impure_calls = ((1, 0), one (v (pos 6))) ∷ [] })

-- the one call that is made on 1
abbrev pub im_of_one : List Call
im_of_one = record { term = 1; args = alone (pos 1) } ∷ []

-- where pp answers so, choice and run end so on 1
abbrev pub EffectsEnds : Content → Outcome → Type 0
EffectsEnds answer o = HasOutcome effects_sample (effects_meaning answer) (given (pos 1)) o

-- Some of the variant
abbrev pub pair_of : ℤ → ℤ → Content
pair_of y z = just (one (of_variant own 0 (value_and (v y) (alone z))))
