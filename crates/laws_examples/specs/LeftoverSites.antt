-- A sample of a set with sites left over from a rule that is not in it: an impure call, and a pure one above it.
--   (decl im (u8) u8)
--   (extern constructor im im_fn)
--   (decl pure pu (u8) u8)
--   (extern constructor pu pu_fn)
--   (decl multi f (u8) u8)
--   (rule (f (and 1 2)) (pu (im 1)))
--   (rule (f x) x)
use Rattle.std.specs.Prelude.{◌≡◌, ◌∷◌, [], pos, true, false, List, None, All, IsTrue, codes, is_some, slice_get}
use Rattle.model.specs.claims.Layers.{own_program}
use Rattle.model.specs.lists.Elaborated.{TypedRules}
use Rattle.model.specs.lists.Syntax.{Definition, declaration}
use Rattle.model.specs.rules.Meaning.{Meaning, nothing, finite}
use Rattle.model.specs.rules.Program.{Program}
use Rattle.model.specs.rules.Typed.{TypedRule, make_int, make_term, make_var, match_and, match_int}
use Rattle.model.specs.sites.Serves.{Serves, TellsConstantsApart}
use Rattle.model.specs.sites.Sites.{SetRule, SiteSet, argument_site, constructor_site, sources_at}
use Rattle.model.specs.trees.Collects.{Collects, IsCollectedSet, IsPureAt, ServesSet, content_at, set_bag}
use Rattle.model.specs.trees.Places.{waits}
use Rattle.model.specs.trees.Run.{World, run, world_of}
use Rattle.model.specs.trees.Trees.{Tree, no_step}
use Rattle.laws_examples.specs.MeaningForms.{each, given, literal, of_literals}
use Rattle.laws_examples.specs.SetForms.{a_rule, byte, returning}
use Rattle.laws_examples.specs.TypedForms.{bind_any, e_list, q_list, rules_and_names, typed, typed_var, u8}
use Rattle.laws_examples.specs.Written.{both, call, constructor_by, int, number, numbers, of_f, rule_to, var, variable}

abbrev pub left_over_defs : List Definition
left_over_defs =
    declaration (numbers 0 (codes "im")) ∷ constructor_by 1 (codes "im") (codes "im_fn")
    ∷ declaration (record (numbers 2 (codes "pu")) { pure = true }) ∷ constructor_by 3 (codes "pu") (codes "pu_fn")
    ∷ declaration (record (numbers 4 (codes "f")) { multi = true })
    ∷ rule_to 5 (of_f 5 (both 5 (int 5 (pos 1) ∷ int 5 (pos 2) ∷ []) ∷ [])) (call 5 (codes "pu") (call 5 (codes "im") (number 5 (pos 1) ∷ []) ∷ []))
    ∷ rule_to 6 (of_f 6 (var 6 (codes "x") ∷ [])) (variable 6 (codes "x")) ∷ []

abbrev pub never_rule : TypedRule
never_rule =
    typed 0 5 2 (pos 0) None [] (match_and u8 (q_list (match_int u8 (pos 1) ∷ match_int u8 (pos 2) ∷ [])) ∷ [])
    (make_term u8 1 (e_list (make_term u8 0 (e_list (make_int u8 (pos 1) ∷ [])) ∷ [])))

abbrev pub any_rule : TypedRule
any_rule = typed 1 6 2 (pos 0) None (typed_var 0 18 u8 ∷ []) (bind_any u8 0 ∷ []) (make_var u8 0)

abbrev pub left_over_rules : TypedRules
left_over_rules = rules_and_names (never_rule ∷ any_rule ∷ []) (codes "im" ∷ codes "pu" ∷ codes "f" ∷ codes "im_fn" ∷ codes "pu_fn" ∷ codes "x" ∷ [])

abbrev pub left_over_program : Program
left_over_program = own_program left_over_defs left_over_rules

-- the first rule never matches and is left out of the set; its sites stay
abbrev pub kept_rule : SetRule
kept_rule = a_rule 1 6 (pos 0) [] [] 0

abbrev pub left_over_set : SiteSet
left_over_set = record { rules = kept_rule ∷ []; sites = argument_site 0 ∷ byte 1 ∷ constructor_site 0 (1 ∷ []) 1 ∷ constructor_site 1 (2 ∷ []) 0 ∷ [] }

abbrev pub left_over_tree : Tree
left_over_tree = returning [] 6 0 no_step

-- im answers what is no number, as it is never called, and pu answers nothing at all
abbrev pub left_over_meaning : Meaning
left_over_meaning = finite (record (of_literals (literal (pos 1) ∷ literal (pos 2) ∷ [])) { impure_calls = ((0, 0), nothing) ∷ [] })

-- the world on 7
abbrev pub left_over_world : World
left_over_world = world_of left_over_program 2 left_over_set.sites left_over_meaning (given (pos 7))

-- the call of pu makes no impure call itself, waits for nothing, and its source has a content: it has none
abbrev pub LeftOverLacksACall : Type 0
LeftOverLacksACall =
    IsPureAt left_over_set.sites 3
    × (waits (slice_get left_over_set.sites 3) ≡ false)
    × All (λ a. IsTrue (is_some (content_at left_over_world [] a))) (sources_at left_over_set.sites 3)
    × (content_at left_over_world [] 3 ≡ None)

-- the meaning has what the rules ask on 7, and tells constants apart; the set's rules are such as a run collects, and the
-- world serves it
abbrev pub LeftOverIsServed : Type 0
LeftOverIsServed =
    Serves left_over_program left_over_meaning (given (pos 7)) left_over_rules.rules × TellsConstantsApart left_over_program left_over_meaning left_over_rules.rules

abbrev pub LeftOverIsCollected : Type 0
LeftOverIsCollected = IsCollectedSet left_over_set × ServesSet left_over_set left_over_world

-- the run of the tree on 7 collects the set's bag, which is 7 alone
abbrev pub LeftOverCollects : Type 0
LeftOverCollects = (set_bag left_over_set left_over_world ≡ each (pos 7 ∷ [])) × Collects (run left_over_tree left_over_world) (set_bag left_over_set left_over_world)
