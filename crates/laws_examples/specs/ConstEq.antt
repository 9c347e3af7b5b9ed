-- A sample: a literal under a name that stands again in another argument.
--   (decl f (u8 u8) u8)
--   (rule (f x @ 2 x) x)
use Rattle.std.specs.Prelude.{◌∷◌, [], ℕ, zero, suc, pos, false, List, Some, codes}
use Rattle.model.specs.claims.Layers.{own_program}
use Rattle.model.specs.lists.Elaborated.{TypedRules}
use Rattle.model.specs.lists.Syntax.{Definition}
use Rattle.model.specs.rules.Program.{Program}
use Rattle.model.specs.rules.Typed.{TypedRule, make_var, match_bind, match_int, match_var}
use Rattle.model.specs.visits.Demands.{demands_of}
use Rattle.model.specs.sites.Sites.{SiteSet, SiteTerm, argument, argument_site}
use Rattle.model.specs.sites.Closure.{Joined}
use Rattle.model.specs.trees.Trees.{Tree, match_at, no_step, step}
use Rattle.laws_sites.specs.ClosureLaws.{RespectsDemands}
use Rattle.laws_examples.specs.SetForms.{a0, a2, a_rule, is_byte, one_arm, returning}
use Rattle.laws_examples.specs.Stages.{Sample}
use Rattle.laws_examples.specs.TypedForms.{rules_and_names, typed, typed_var, u8}
use Rattle.laws_examples.specs.Written.{bind, f_of_bytes, int, of_f, rule_to, var, variable}

abbrev pub const_eq_defs : List Definition
const_eq_defs = f_of_bytes 0 2 ∷ rule_to 1 (of_f 1 (bind 1 (codes "x") (int 1 (pos 2)) ∷ var 1 (codes "x") ∷ [])) (variable 1 (codes "x")) ∷ []

-- the only rule of a term has the term's name
abbrev pub const_eq_rule : TypedRule
const_eq_rule = typed 0 1 0 (pos 0) (Some 13) (typed_var 0 14 u8 ∷ []) (match_bind u8 0 (match_int u8 (pos 2)) ∷ match_var u8 0 ∷ []) (make_var u8 0)

abbrev pub const_eq_rules : TypedRules
const_eq_rules = rules_and_names (const_eq_rule ∷ []) (codes "f" ∷ codes "x" ∷ [])

abbrev pub const_eq_program : Program
const_eq_program = own_program const_eq_defs const_eq_rules

-- one class of both arguments, and one of all else, and of each argument alone
abbrev pub of_both : SiteTerm → ℕ
of_both (argument zero) = 0
of_both (argument (suc zero)) = 0
of_both _ = 1

abbrev pub of_each : SiteTerm → ℕ
of_each (argument i) = i
of_each _ = 0

-- the first classes respect the demands, so no third argument must equal the first one; the others don't
abbrev pub ConstEqIsRespected : Type 0
ConstEqIsRespected =
    RespectsDemands (demands_of const_eq_program const_eq_rule) of_both
    × (Joined (demands_of const_eq_program const_eq_rule) a0 a2 → ⊥)
    × (RespectsDemands (demands_of const_eq_program const_eq_rule) of_each → ⊥)

abbrev pub const_eq_set : SiteSet
const_eq_set = record {
  rules = record (a_rule 0 1 (pos 0) ((0, is_byte 2) ∷ (1, is_byte 2) ∷ []) [] 0) { name = Some 13 } ∷ [];
  sites = argument_site 0 ∷ argument_site 1 ∷ [];
}

abbrev pub const_eq_tree : Tree
const_eq_tree =
    step [] (match_at 0 (one_arm (is_byte 2) []
    (step [] (match_at 1 (one_arm (is_byte 2) [] (returning [] 1 0 no_step))) no_step))) no_step

abbrev pub const_eq_sample : Sample
const_eq_sample = record { defs = const_eq_defs; rules = const_eq_rules; term = 0; multi = false; set = const_eq_set; tree = const_eq_tree; near_trees = [] }
