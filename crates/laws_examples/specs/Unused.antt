-- A sample: a partial call of an if-let, which is not needed since the value doesn't take its answer. It is the one of
-- `Used`, but for the variable that the let ends with.
--   (decl pure partial pp (u8) u8)
--   (extern constructor pp pp_fn)
--   (decl f (u8) u8)
--   (rule (f x) (if-let _ (let ((y u8 (pp x))) x)) 7)
use Rattle.std.specs.Prelude.{◌∷◌, [], pos, false, List, Some, codes}
use Rattle.model.specs.lists.Elaborated.{TypedRules}
use Rattle.model.specs.lists.Syntax.{Definition}
use Rattle.model.specs.rules.Meaning.{Content}
use Rattle.model.specs.rules.Outcome.{Outcome}
use Rattle.model.specs.rules.Typed.{TypedRule, make_term, make_var, match_any}
use Rattle.model.specs.sites.Sites.{SiteSet}
use Rattle.model.specs.trees.Trees.{Tree, no_step}
use Rattle.laws_examples.specs.MeaningForms.{given}
use Rattle.laws_examples.specs.SetForms.{a_rule, returning}
use Rattle.laws_examples.specs.Stages.{Sample, HasOutcome}
use Rattle.laws_examples.specs.TypedForms.{e_list, make_let_one, typed_iflet, u8}
use Rattle.laws_examples.specs.UsedCalls.{ending_with, pp_answers, used_rule, used_rules, used_set, used_tree}

abbrev pub unused_defs : List Definition
unused_defs = ending_with (codes "x")

abbrev pub unused_rule : TypedRule
unused_rule = record used_rule { iflets = typed_iflet (match_any u8) (make_let_one u8 1 u8 (make_term u8 0 (e_list (make_var u8 0 ∷ []))) (make_var u8 0)) ∷ [] }

abbrev pub unused_rules : TypedRules
unused_rules = record used_rules { rules = unused_rule ∷ [] }

-- the sites are those of `Used`
abbrev pub unused_set : SiteSet
unused_set = record { rules = record (a_rule 0 3 (pos 0) [] [] 3) { name = Some 14 } ∷ []; sites = used_set.sites }

abbrev pub unused_tree : Tree
unused_tree = returning [] 3 3 no_step

-- the tree of `Used` demands the call, and is no best one here
abbrev pub unused_sample : Sample
unused_sample = record { defs = unused_defs; rules = unused_rules; term = 1; multi = false; set = unused_set; tree = unused_tree; near_trees = used_tree ∷ [] }

-- where pp answers so, choice and run end so on 1
abbrev pub UnusedEnds : Content → Outcome → Type 0
UnusedEnds answer o = HasOutcome unused_sample (pp_answers answer) (given (pos 1)) o
