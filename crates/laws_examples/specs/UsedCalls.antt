-- A sample: a partial call of an if-let, which is needed since the value takes its answer.
--   (decl pure partial pp (u8) u8)
--   (extern constructor pp pp_fn)
--   (decl f (u8) u8)
--   (rule (f x) (if-let _ (let ((y u8 (pp x))) y)) 7)
use Rattle.std.specs.Prelude.{ℕ, ◌∷◌, [], pos, true, false, List, Some, codes}
use Rattle.model.specs.claims.Layers.{BindsBeforeUse}
use Rattle.model.specs.lists.Elaborated.{TypedRules}
use Rattle.model.specs.lists.Syntax.{Definition, declaration}
use Rattle.model.specs.rules.Meaning.{Content, Meaning, finite}
use Rattle.model.specs.rules.Outcome.{Outcome}
use Rattle.model.specs.rules.Typed.{TypedRule, make_int, make_term, make_var, match_any}
use Rattle.model.specs.sites.Sites.{SiteSet, argument_site, constructor_site, is_present, match_some_site}
use Rattle.model.specs.trees.Trees.{Tree, match_at, no_step, step}
use Rattle.laws_examples.specs.MeaningForms.{alone, given, literal, of_literals}
use Rattle.laws_examples.specs.SetForms.{a_rule, byte, one_arm, returning}
use Rattle.laws_examples.specs.Stages.{Sample, HasOutcome}
use Rattle.laws_examples.specs.TypedForms.{bind_any, e_list, make_let_one, rules_and_names, typed, typed_iflet, typed_var, u8}
use Rattle.laws_examples.specs.Written.{any, call, constructor_by, f_of_bytes, let_one, number, numbers, of_f, rule_if, var, variable}

-- the variable that the if-let's let ends with is y, or another
abbrev pub ending_with : List ℕ → List Definition
ending_with body =
    declaration (record (numbers 0 (codes "pp")) { pure = true; partial = true }) ∷ constructor_by 1 (codes "pp") (codes "pp_fn") ∷ f_of_bytes 2 1
    ∷ rule_if 3 (of_f 3 (var 3 (codes "x") ∷ [])) (any 3)
    (let_one 3 (codes "y") (codes "u8") (call 3 (codes "pp") (variable 3 (codes "x") ∷ [])) (variable 3 body)) (number 3 (pos 7)) ∷ []

abbrev pub used_defs : List Definition
used_defs = ending_with (codes "y")

abbrev pub used_rule : TypedRule
used_rule = record (typed 0 3 1 (pos 0) (Some 14) (typed_var 0 16 u8 ∷ typed_var 1 17 u8 ∷ []) (bind_any u8 0 ∷ []) (make_int u8 (pos 7))) {
  iflets = typed_iflet (match_any u8) (make_let_one u8 1 u8 (make_term u8 0 (e_list (make_var u8 0 ∷ []))) (make_var u8 1)) ∷ [];
}

abbrev pub used_rules : TypedRules
used_rules = rules_and_names (used_rule ∷ []) (codes "pp" ∷ codes "f" ∷ codes "pp_fn" ∷ codes "x" ∷ codes "y" ∷ [])

abbrev pub used_set : SiteSet
used_set = record {
  rules = record (a_rule 0 3 (pos 0) ((1, is_present) ∷ []) [] 3) { name = Some 14 } ∷ [];
  sites = argument_site 0 ∷ constructor_site 0 (0 ∷ []) 0 ∷ match_some_site 1 ∷ byte 7 ∷ [];
}

-- the tree with these sites bound before the match and before the return
abbrev pub used_with : List ℕ → List ℕ → Tree
used_with first then_bound = step first (match_at 1 (one_arm is_present (Some 2 ∷ []) (returning then_bound 3 3 no_step))) no_step

abbrev pub used_tree : Tree
used_tree = used_with (1 ∷ []) []

-- pp answers this at 1
abbrev pub pp_answers : Content → Meaning
pp_answers answer = finite (record (of_literals (literal (pos 7) ∷ [])) { pure_calls = ((0, alone (pos 1)), answer) ∷ [] })

abbrev pub used_sample : Sample
used_sample = record { defs = used_defs; rules = used_rules; term = 1; multi = false; set = used_set; tree = used_tree; near_trees = [] }

-- where pp answers so, choice and run end so on 1
abbrev pub UsedEnds : Content → Outcome → Type 0
UsedEnds answer o = HasOutcome used_sample (pp_answers answer) (given (pos 1)) o

-- the call isn't bound; its answer is bound before it; the arm's field is bound again; the call is bound twice in one scope
abbrev pub NearTreesDoNotBind : Type 0
NearTreesDoNotBind =
    (BindsBeforeUse used_set false (used_with [] []) → ⊥)
    × (BindsBeforeUse used_set false (used_with (2 ∷ 1 ∷ []) []) → ⊥)
    × (BindsBeforeUse used_set false (used_with (1 ∷ []) (2 ∷ [])) → ⊥)
    × (BindsBeforeUse used_set false (used_with (1 ∷ []) (1 ∷ [])) → ⊥)
