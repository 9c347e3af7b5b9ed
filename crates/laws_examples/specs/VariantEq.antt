-- A sample: a variant under a name that stands again in another argument.
--   (type T (enum (A (v u8))))
--   (decl g (T T) T)
--   (rule (g x @ (T.A _) x) x)
use Rattle.std.specs.Prelude.{◌∷◌, [], ℕ, pos, false, List, Option, Some, None, codes}
use Rattle.model.specs.claims.Layers.{own_program}
use Rattle.model.specs.lists.Elaborated.{TypedRules}
use Rattle.model.specs.lists.Syntax.{Definition}
use Rattle.model.specs.rules.Program.{Program}
use Rattle.model.specs.rules.Typed.{TypedRule, make_var, match_any, match_bind, match_term, match_var}
use Rattle.model.specs.sites.Sites.{Constraint, SiteSet, argument_site, is_variant, match_variant_site}
use Rattle.model.specs.trees.Trees.{Tree, equal_at, match_at, no_step, step}
use Rattle.laws_examples.specs.SetForms.{a_rule, one_arm, returning}
use Rattle.laws_examples.specs.Stages.{Sample}
use Rattle.laws_examples.specs.TypedForms.{own, q_list, rules_and_names, typed, typed_var, u8}
use Rattle.laws_examples.specs.Written.{any, bind, declared, enum_of_one, field, rule_to, term, var, variable}

abbrev pub variant_eq_defs : List Definition
variant_eq_defs =
    enum_of_one 0 (codes "T") (codes "A") (field 0 (codes "v") (codes "u8") ∷ [])
    ∷ declared 1 (codes "g") (codes "T" ∷ codes "T" ∷ []) (codes "T")
    ∷ rule_to 2 (term 2 (codes "g") (bind 2 (codes "x") (term 2 (codes "T.A") (any 2 ∷ [])) ∷ var 2 (codes "x") ∷ [])) (variable 2 (codes "x")) ∷ []

-- the name over the variant is the variable of both arguments
abbrev pub variant_eq_rule : TypedRule
variant_eq_rule =
    typed 0 2 0 (pos 0) (Some 17) (typed_var 0 18 own ∷ []) (match_bind own 0 (match_term own 1 (q_list (match_any u8 ∷ []))) ∷ match_var own 0 ∷ []) (make_var own 0)

abbrev pub variant_eq_rules : TypedRules
variant_eq_rules = rules_and_names (variant_eq_rule ∷ []) (codes "T" ∷ codes "T.A" ∷ codes "A" ∷ codes "v" ∷ codes "g" ∷ codes "x" ∷ [])

abbrev pub variant_eq_program : Program
variant_eq_program = own_program variant_eq_defs variant_eq_rules

-- that a value is the variant T.A, which has one field
abbrev pub is_a : Constraint
is_a = is_variant own 0 1

abbrev pub variant_eq_set : SiteSet
variant_eq_set = record {
  rules = record (a_rule 0 2 (pos 0) ((0, is_a) ∷ (2, is_a) ∷ []) ((1 ∷ 3 ∷ []) ∷ []) 0) { name = Some 17 } ∷ [];
  sites = argument_site 0 ∷ match_variant_site 0 0 0 ∷ argument_site 1 ∷ match_variant_site 2 0 0 ∷ [];
}

-- both matches, which bring these fields, around what is inside
abbrev pub variant_eq_matches : Option ℕ → Tree → Tree
variant_eq_matches first inside = step [] (match_at 0 (one_arm is_a (first ∷ []) (step [] (match_at 2 (one_arm is_a (Some 3 ∷ []) inside)) no_step))) no_step

abbrev pub variant_eq_equality : Tree
variant_eq_equality = step [] (equal_at 1 3 (returning [] 2 0 no_step)) no_step

abbrev pub variant_eq_tree : Tree
variant_eq_tree = variant_eq_matches (Some 1) variant_eq_equality

-- trees that are no best ones: an arm brings the other match's field, or no field; the equality is not tested
abbrev pub variant_eq_near_trees : List Tree
variant_eq_near_trees = variant_eq_matches (Some 3) variant_eq_equality ∷ variant_eq_matches None variant_eq_equality ∷ variant_eq_matches (Some 1) (returning [] 2 0 no_step) ∷ []

abbrev pub variant_eq_sample : Sample
variant_eq_sample = record { defs = variant_eq_defs; rules = variant_eq_rules; term = 0; multi = false; set = variant_eq_set; tree = variant_eq_tree; near_trees = variant_eq_near_trees }
