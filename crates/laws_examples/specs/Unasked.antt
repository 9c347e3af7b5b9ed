-- A sample: a multi call whose answer nothing uses, so no answer of the call inside it is demanded.
--   (decl pure partial pp (u8) u8)
--   (extern constructor pp pp_fn)
--   (decl pure multi m (u8) u8)
--   (extern constructor m m_fn)
--   (decl multi f (u8) u8)
--   (rule (f x) (if-let _ (let ((y u8 (m (pp x)))) x)) 7)
use Rattle.std.specs.Prelude.{◌≡◌, ◌∷◌, [], pos, true, false, List, Some, codes, slice_get}
use Rattle.model.specs.lists.Elaborated.{TypedRules}
use Rattle.model.specs.lists.Syntax.{Definition, declaration}
use Rattle.model.specs.rules.Typed.{TypedRule, make_int, make_term, make_var, match_any}
use Rattle.model.specs.sites.Gates.{gate_demanded}
use Rattle.model.specs.sites.Sites.{SetRule, SiteSet, argument_site, constructor_site, iterator_site, match_some_site}
use Rattle.model.specs.trees.Trees.{Tree, no_step}
use Rattle.laws_examples.specs.SetForms.{a_rule, byte, returning}
use Rattle.laws_examples.specs.Stages.{Sample}
use Rattle.laws_examples.specs.TypedForms.{bind_any, e_list, make_let_one, rules_and_names, typed, typed_iflet, typed_var, u8}
use Rattle.laws_examples.specs.Written.{any, call, constructor_by, let_one, number, numbers, of_f, rule_if, var, variable}

abbrev pub unasked_defs : List Definition
unasked_defs =
    declaration (record (numbers 0 (codes "pp")) { pure = true; partial = true }) ∷ constructor_by 1 (codes "pp") (codes "pp_fn")
    ∷ declaration (record (numbers 2 (codes "m")) { pure = true; multi = true }) ∷ constructor_by 3 (codes "m") (codes "m_fn")
    ∷ declaration (record (numbers 4 (codes "f")) { multi = true })
    ∷ rule_if 5 (of_f 5 (var 5 (codes "x") ∷ [])) (any 5)
    (let_one 5 (codes "y") (codes "u8") (call 5 (codes "m") (call 5 (codes "pp") (variable 5 (codes "x") ∷ []) ∷ [])) (variable 5 (codes "x"))) (number 5 (pos 7)) ∷ []

abbrev pub unasked_rule : TypedRule
unasked_rule = record (typed 0 5 2 (pos 0) (Some 15) (typed_var 0 18 u8 ∷ typed_var 1 19 u8 ∷ []) (bind_any u8 0 ∷ []) (make_int u8 (pos 7))) {
  iflets = typed_iflet (match_any u8) (make_let_one u8 1 u8 (make_term u8 1 (e_list (make_term u8 0 (e_list (make_var u8 0 ∷ [])) ∷ []))) (make_var u8 0)) ∷ [];
}

abbrev pub unasked_rules : TypedRules
unasked_rules = rules_and_names (unasked_rule ∷ []) (codes "pp" ∷ codes "m" ∷ codes "f" ∷ codes "pp_fn" ∷ codes "m_fn" ∷ codes "x" ∷ codes "y" ∷ [])

-- the rule goes over the call 3 and uses no answer of it: what stands in the call's argument isn't demanded
abbrev pub unasked_call : SetRule
unasked_call = record (a_rule 0 5 (pos 0) [] [] 5) { name = Some 15; iterators = 3 ∷ [] }

abbrev pub unasked_set : SiteSet
unasked_set = record {
  rules = unasked_call ∷ [];
  sites = argument_site 0 ∷ constructor_site 0 (0 ∷ []) 0 ∷ match_some_site 1 ∷ constructor_site 1 (2 ∷ []) 0 ∷ iterator_site 3 ∷ byte 7 ∷ [];
}

abbrev pub UnaskedIsNotDemanded : Type 0
UnaskedIsNotDemanded = gate_demanded unasked_call (slice_get unasked_set.sites 2) ≡ false

-- the call is never at hand, since nothing demands what stands in its argument: the tree doesn't go over it, and returns
-- once. What holds of runs is not said of this term: it is multi, and its rule leaves a call unused
abbrev pub unasked_tree : Tree
unasked_tree = returning [] 5 5 no_step

-- the list is lowered to that tree
abbrev pub unasked_sample : Sample
unasked_sample = record { defs = unasked_defs; rules = unasked_rules; term = 2; multi = true; set = unasked_set; tree = unasked_tree; near_trees = [] }
