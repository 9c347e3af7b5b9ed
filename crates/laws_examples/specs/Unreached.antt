-- A sample: a rule makes two impure calls, and the second one isn't reached where the first answers nothing.
--   (decl partial im (u8) u8)
--   (extern constructor im im_fn)
--   (decl partial f (u8) u8)
--   (rule (f x) (let ((y u8 (im x))) (im x)))
use Rattle.std.specs.Prelude.{◌≡◌, ◌∷◌, [], pos, false, true, List, Some, None, codes}
use Rattle.model.specs.claims.Layers.{own_program}
use Rattle.model.specs.lists.Elaborated.{TypedRules}
use Rattle.model.specs.lists.Syntax.{Definition, declaration, ExprTree}
use Rattle.model.specs.rules.Meaning.{Content, Meaning, impure_answer, nothing, finite}
use Rattle.model.specs.rules.Outcome.{Call, Outcome}
use Rattle.model.specs.rules.Picks.{site_values}
use Rattle.model.specs.rules.Program.{Program}
use Rattle.model.specs.rules.Typed.{TypedExpr, TypedRule, make_term, make_var}
use Rattle.model.specs.sites.Serves.{Serves, TellsConstantsApart}
use Rattle.model.specs.sites.Sites.{SiteSet, SiteTerm, argument_site, constructor_call, constructor_site, make_some_site, match_some_site}
use Rattle.model.specs.trees.Trees.{Tree, no_step}
use Rattle.laws_examples.specs.MeaningForms.{alone, given, no_entries}
use Rattle.laws_examples.specs.SetForms.{a0, a_rule, one_source, returning}
use Rattle.laws_examples.specs.Stages.{Sample, HasOutcome}
use Rattle.laws_examples.specs.TypedForms.{bind_any, e_list, make_let_one, rules_and_names, typed, u8, variables}
use Rattle.laws_examples.specs.Written.{call, constructor_by, let_one, numbers, of_f, rule_to, var, variable}

abbrev pub im_of_x : ExprTree
im_of_x = call 3 (codes "im") (variable 3 (codes "x") ∷ [])

abbrev pub unreached_defs : List Definition
unreached_defs =
    declaration (record (numbers 0 (codes "im")) { partial = true }) ∷ constructor_by 1 (codes "im") (codes "im_fn")
    ∷ declaration (record (numbers 2 (codes "f")) { partial = true })
    ∷ rule_to 3 (of_f 3 (var 3 (codes "x") ∷ [])) (let_one 3 (codes "y") (codes "u8") im_of_x im_of_x) ∷ []

abbrev pub typed_im : TypedExpr
typed_im = make_term u8 0 (e_list (make_var u8 0 ∷ []))

abbrev pub unreached_rule : TypedRule
unreached_rule = typed 0 3 1 (pos 0) (Some 14) (variables 0 (16 ∷ 17 ∷ [])) (bind_any u8 0 ∷ []) (make_let_one u8 1 u8 typed_im typed_im)

abbrev pub unreached_rules : TypedRules
unreached_rules = rules_and_names (unreached_rule ∷ []) (codes "im" ∷ codes "f" ∷ codes "im_fn" ∷ codes "x" ∷ codes "y" ∷ [])

abbrev pub unreached_program : Program
unreached_program = own_program unreached_defs unreached_rules

-- the two calls, on the same argument
abbrev pub first_im : SiteTerm
first_im = constructor_call 0 (one_source a0) 1

abbrev pub unreached_set : SiteSet
unreached_set = record {
  rules = record (a_rule 0 3 (pos 0) [] [] 5) { name = Some 14; impure = 2 ∷ 4 ∷ [] } ∷ [];
  sites = argument_site 0 ∷ constructor_site 0 (0 ∷ []) 1 ∷ match_some_site 1 ∷ constructor_site 0 (0 ∷ []) 2 ∷ match_some_site 3 ∷ make_some_site 4 ∷ [];
}

abbrev pub unreached_tree : Tree
unreached_tree = returning (1 ∷ 2 ∷ 3 ∷ 4 ∷ 5 ∷ []) 3 5 no_step

-- a tree that is no best one: both calls are bound before the first one's answer is unwrapped
abbrev pub unreached_near_trees : List Tree
unreached_near_trees = returning (1 ∷ 3 ∷ 2 ∷ 4 ∷ 5 ∷ []) 3 5 no_step ∷ []

abbrev pub unreached_sample : Sample
unreached_sample = record { defs = unreached_defs; rules = unreached_rules; term = 1; multi = false; set = unreached_set; tree = unreached_tree; near_trees = unreached_near_trees }

-- the first impure call answers this, and there is no entry for the second one
abbrev pub first_answers : Content → Meaning
first_answers answer = finite (record no_entries { impure_calls = ((0, 0), answer) ∷ [] })

-- the one call that is made on 1
abbrev pub one_im_of_one : List Call
one_im_of_one = record { term = 0; args = alone (pos 1) } ∷ []

-- where the first call answers nothing, choice and run end so on 1
abbrev pub UnreachedEnds : Outcome → Type 0
UnreachedEnds o = HasOutcome unreached_sample (first_answers nothing) (given (pos 1)) o

-- the argument of the second call has a value and the meaning lacks an answer to it; yet, where the first call answers
-- nothing, the meaning has what the rule asks, and tells constants apart
abbrev pub UnreachedCallsAreNotAsked : Type 0
UnreachedCallsAreNotAsked =
    (site_values (first_answers nothing) (given (pos 1)) [] (one_source a0) ≡ Some (alone (pos 1)))
    × (impure_answer (first_answers nothing) 0 1 ≡ None)
    × Serves unreached_program (first_answers nothing) (given (pos 1)) unreached_rules.rules
    × TellsConstantsApart unreached_program (first_answers nothing) unreached_rules.rules
