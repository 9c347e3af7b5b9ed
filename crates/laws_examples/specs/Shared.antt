-- A sample: two rules that share a call.
--   (decl pure p (u8) u8)
--   (extern constructor p p_fn)
--   (decl multi f (u8) u8)
--   (rule (f x) (p x))
--   (rule (f x) (p (p x)))
use Rattle.std.specs.Prelude.{◌≡◌, ◌∷◌, [], ℕ, ℤ, pos, true, List, None, codes}
use Rattle.model.specs.claims.Layers.{own_program}
use Rattle.model.specs.lists.Elaborated.{TypedRules}
use Rattle.model.specs.lists.Syntax.{Definition, ExprTree, declaration}
use Rattle.model.specs.rules.Meaning.{Content, Meaning, one, finite}
use Rattle.model.specs.rules.Outcome.{ran_through, stuck}
use Rattle.model.specs.rules.Picks.{bag}
use Rattle.model.specs.rules.Program.{Program}
use Rattle.model.specs.rules.Typed.{TypedExpr, make_term, make_var}
use Rattle.model.specs.rules.Values.{Values}
use Rattle.model.specs.sites.Sites.{SiteSet, argument_site, constructor_site}
use Rattle.model.specs.trees.Collects.{set_bag}
use Rattle.model.specs.trees.Run.{World, run, world_of}
use Rattle.model.specs.trees.Trees.{Tree, no_step}
use Rattle.laws_examples.specs.MeaningForms.{alone, each, given, v, no_entries}
use Rattle.laws_examples.specs.SetForms.{a_rule, returning}
use Rattle.laws_examples.specs.TypedForms.{bind_any, e_list, rules_and_names, typed, typed_var, u8}
use Rattle.laws_examples.specs.Written.{call, constructor_by, numbers, of_f, rule_to, var, variable}

-- a use of p
abbrev pub p_of : ℕ → ExprTree → ExprTree
p_of n x = call n (codes "p") (x ∷ [])

abbrev pub shared_defs : List Definition
shared_defs =
    declaration (record (numbers 0 (codes "p")) { pure = true }) ∷ constructor_by 1 (codes "p") (codes "p_fn")
    ∷ declaration (record (numbers 2 (codes "f")) { multi = true })
    ∷ rule_to 3 (of_f 3 (var 3 (codes "x") ∷ [])) (p_of 3 (variable 3 (codes "x")))
    ∷ rule_to 4 (of_f 4 (var 4 (codes "x") ∷ [])) (p_of 4 (p_of 4 (variable 4 (codes "x")))) ∷ []

abbrev pub p_made : TypedExpr → TypedExpr
p_made x = make_term u8 0 (e_list (x ∷ []))

abbrev pub shared_rules : TypedRules
shared_rules =
    rules_and_names
    (typed 0 3 1 (pos 0) None (typed_var 0 16 u8 ∷ []) (bind_any u8 0 ∷ []) (p_made (make_var u8 0))
    ∷ typed 1 4 1 (pos 0) None (typed_var 0 16 u8 ∷ []) (bind_any u8 0 ∷ []) (p_made (p_made (make_var u8 0))) ∷ [])
    (codes "p" ∷ codes "f" ∷ codes "p_fn" ∷ codes "x" ∷ [])

abbrev pub shared_set : SiteSet
shared_set = record {
  rules = a_rule 0 3 (pos 0) [] [] 1 ∷ a_rule 1 4 (pos 0) [] [] 2 ∷ [];
  sites = argument_site 0 ∷ constructor_site 0 (0 ∷ []) 0 ∷ constructor_site 0 (1 ∷ []) 0 ∷ [];
}

abbrev pub shared_tree : Tree
shared_tree = returning (1 ∷ []) 3 1 (returning (2 ∷ []) 4 2 no_step)

abbrev pub shared_program : Program
shared_program = own_program shared_defs shared_rules

-- p answers 2 at 1, and this at 2
abbrev pub shared_meaning : List ((ℕ × Values) × Content) → Meaning
shared_meaning at_two = finite (record no_entries { pure_calls = ((0, alone (pos 1)), one (v (pos 2))) ∷ at_two })

abbrev pub shared_world : List ((ℕ × Values) × Content) → World
shared_world at_two = world_of shared_program 1 shared_set.sites (shared_meaning at_two) (given (pos 1))

-- on 1 the bag of the rules' results, that of the set's rules, and what the run gives are these
abbrev pub SharedGives : List ((ℕ × Values) × Content) → List ℤ → Type 0
SharedGives at_two results =
    (bag shared_program (shared_meaning at_two) shared_rules.rules (given (pos 1)) ≡ each results)
    × (set_bag shared_set (shared_world at_two) ≡ each results)
    × (run shared_tree (shared_world at_two) ≡ record { calls = []; results = each results; ending = ran_through })

-- where the meaning lacks the second answer the run is stuck there: it doesn't serve the rules
abbrev pub SharedIsStuck : Type 0
SharedIsStuck = run shared_tree (shared_world []) ≡ record { calls = []; results = each (pos 2 ∷ []); ending = stuck }
