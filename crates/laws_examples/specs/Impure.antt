-- A sample: an impure call.
--   (decl im (u8) u8)
--   (extern constructor im im_fn)
--   (decl f (u8) u8)
--   (rule (f x) (im x))
use Rattle.std.specs.Prelude.{◌≡◌, ◌∷◌, [], pos, false, List, Option, Some, None, codes}
use Rattle.model.specs.lists.Elaborated.{TypedRules}
use Rattle.model.specs.lists.Syntax.{Definition, declaration}
use Rattle.model.specs.rules.Meaning.{Content, Meaning, impure_answer}
use Rattle.model.specs.rules.Outcome.{Call, Outcome, ended, stuck}
use Rattle.model.specs.rules.Typed.{TypedRule, make_term, make_var}
use Rattle.model.specs.rules.Values.{Value, no_value, value_and}
use Rattle.model.specs.sites.Sites.{SetRule, SiteSet, argument_site, constructor_site}
use Rattle.model.specs.trees.Run.{World}
use Rattle.model.specs.trees.SetRuns.{IsTaken}
use Rattle.model.specs.trees.Trees.{Tree, no_step}
use Rattle.laws_examples.specs.SetForms.{a_rule, returning}
use Rattle.laws_examples.specs.Stages.{Sample}
use Rattle.laws_examples.specs.TypedForms.{bind_any, e_list, rules_and_names, typed, typed_var, u8}
use Rattle.laws_examples.specs.Written.{call, constructor_by, f_of_bytes, numbers, of_f, rule_to, var, variable}

abbrev pub impure_defs : List Definition
impure_defs =
    declaration (numbers 0 (codes "im")) ∷ constructor_by 1 (codes "im") (codes "im_fn") ∷ f_of_bytes 2 1
    ∷ rule_to 3 (of_f 3 (var 3 (codes "x") ∷ [])) (call 3 (codes "im") (variable 3 (codes "x") ∷ [])) ∷ []

abbrev pub impure_rule : TypedRule
impure_rule = typed 0 3 1 (pos 0) (Some 14) (typed_var 0 16 u8 ∷ []) (bind_any u8 0 ∷ []) (make_term u8 0 (e_list (make_var u8 0 ∷ [])))

abbrev pub impure_rules : TypedRules
impure_rules =
    rules_and_names (impure_rule ∷ [])
    (codes "im" ∷ codes "f" ∷ codes "im_fn" ∷ codes "x" ∷ [])

abbrev pub call_on_argument : SetRule
call_on_argument = record (a_rule 0 3 (pos 0) [] [] 1) { name = Some 14; impure = 1 ∷ [] }

abbrev pub impure_set : SiteSet
impure_set = record { rules = call_on_argument ∷ []; sites = argument_site 0 ∷ constructor_site 0 (0 ∷ []) 1 ∷ [] }

abbrev pub impure_tree : Tree
impure_tree = returning (1 ∷ []) 3 1 no_step

abbrev pub impure_sample : Sample
impure_sample = record { defs = impure_defs; rules = impure_rules; term = 1; multi = false; set = impure_set; tree = impure_tree; near_trees = [] }

abbrev pub im_called : Meaning → Value → World
im_called m v = record { sites = impure_set.sites; args = v ∷ []; meaning = m; multi = false }

abbrev pub the_call : Value → List Call
the_call v = record { term = 0; args = value_and v no_value } ∷ []

-- the call is made, and its answer is the result
abbrev pub after_call : Value → Option Content → Outcome
after_call v None = record { calls = the_call v; results = []; ending = stuck }
after_call v (Some c) = record { calls = the_call v; results = c ∷ []; ending = ended }

-- the rule can be taken, and from whatever place it is, the call is made
pub record ImpureIsCalled : Type 0 where
  pub can_be_taken : (m : Meaning) (v : Value) → IsTaken (im_called m v) call_on_argument (after_call v (impure_answer m 0 0))
  pub makes_the_call : (m : Meaning) (v : Value) (o : Outcome) → IsTaken (im_called m v) call_on_argument o → o ≡ after_call v (impure_answer m 0 0)
