-- A sample: a multi call in a multi term.
--   (decl pure multi m (u8) u8)
--   (extern constructor m m_fn)
--   (decl multi f (u8) u8)
--   (rule (f x) (m x))
--   (rule (f 1) 9)
use Rattle.std.specs.Prelude.{◌≡◌, ◌∷◌, [], ℕ, ℤ, pos, true, List, None, Some, codes, is_some, All, Contains, IsTrue}
use Rattle.model.specs.claims.SetMeanings.{returning_once}
use Rattle.model.specs.claims.Layers.{BindsBeforeUse, own_program}
use Rattle.model.specs.lists.Elaborated.{TypedRules}
use Rattle.model.specs.lists.Syntax.{Definition, declaration}
use Rattle.model.specs.rules.Meaning.{Meaning, many, finite}
use Rattle.model.specs.rules.Outcome.{ran_through}
use Rattle.model.specs.rules.Picks.{Pick, SitedVars, bag, matches_under, picks, right_side_under}
use Rattle.model.specs.rules.Program.{Program}
use Rattle.model.specs.rules.Typed.{TypedRule, make_int, make_term, make_var, match_int}
use Rattle.model.specs.sites.Serves.{Serves, TellsConstantsApart}
use Rattle.model.specs.sites.Sites.{SetRule, SiteSet, SiteTerm, argument_site, constructor_call, constructor_site, iterator_site}
use Rattle.model.specs.trees.Collects.{Collects, CollectsTheBag, HasCollectedResults, IsCollectedSet, ServesSet, as_list, content_at, set_bag}
use Rattle.model.specs.trees.Run.{World, run, world_of}
use Rattle.model.specs.trees.SetRuns.{IsTakenUnder}
use Rattle.model.specs.trees.Trees.{Tree, loop_at, match_at, no_step, step}
use Rattle.laws_examples.specs.MeaningForms.{all_of, alone, answers, each, given, literal, mute, of_literals}
use Rattle.laws_examples.specs.SetForms.{a0, a_rule, byte, is_byte, one_arm, one_source, returning}
use Rattle.laws_examples.specs.Stages.{Sample}
use Rattle.laws_examples.specs.TypedForms.{bind_any, e_list, rules_and_names, typed, typed_var, u8}
use Rattle.laws_examples.specs.Written.{call, constructor_by, int, number, numbers, of_f, rule_to, var, variable}

abbrev pub multi_defs : List Definition
multi_defs =
    declaration (record (numbers 0 (codes "m")) { pure = true; multi = true }) ∷ constructor_by 1 (codes "m") (codes "m_fn")
    ∷ declaration (record (numbers 2 (codes "f")) { multi = true })
    ∷ rule_to 3 (of_f 3 (var 3 (codes "x") ∷ [])) (call 3 (codes "m") (variable 3 (codes "x") ∷ []))
    ∷ rule_to 4 (of_f 4 (int 4 (pos 1) ∷ [])) (number 4 (pos 9)) ∷ []

abbrev pub each_m : TypedRule
each_m = typed 0 3 1 (pos 0) None (typed_var 0 16 u8 ∷ []) (bind_any u8 0 ∷ []) (make_term u8 0 (e_list (make_var u8 0 ∷ [])))

abbrev pub nine : TypedRule
nine = typed 1 4 1 (pos 0) None [] (match_int u8 (pos 1) ∷ []) (make_int u8 (pos 9))

abbrev pub multi_rules : TypedRules
multi_rules = rules_and_names (each_m ∷ nine ∷ []) (codes "m" ∷ codes "f" ∷ codes "m_fn" ∷ codes "x" ∷ [])

abbrev pub multi_program : Program
multi_program = own_program multi_defs multi_rules

abbrev pub call_m : SiteTerm
call_m = constructor_call 0 (one_source a0) 0

abbrev pub each_of_m : SetRule
each_of_m = record (a_rule 0 3 (pos 0) [] [] 2) { iterators = 1 ∷ [] }

abbrev pub nine_for_one : SetRule
nine_for_one = a_rule 1 4 (pos 0) ((0, is_byte 1) ∷ []) [] 3

abbrev pub multi_set : SiteSet
multi_set = record { rules = each_of_m ∷ nine_for_one ∷ []; sites = argument_site 0 ∷ constructor_site 0 (0 ∷ []) 0 ∷ iterator_site 1 ∷ byte 9 ∷ [] }

-- the test for 1 first, then what follows
abbrev pub nine_first : Tree → Tree
nine_first rest = step [] (match_at 0 (one_arm (is_byte 1) [] (returning [] 4 3 no_step))) rest

-- then a loop over the call's answers
abbrev pub multi_tree : Tree
multi_tree = nine_first (step (1 ∷ []) (loop_at 2 (returning [] 3 2 no_step)) no_step)

-- trees that are no best ones: a loop over the call, which is no iterator; and a rule that returns outside of its loop
abbrev pub multi_near_trees : List Tree
multi_near_trees = nine_first (step (1 ∷ []) (loop_at 1 (returning [] 3 2 no_step)) no_step) ∷ nine_first (returning (1 ∷ 2 ∷ []) 3 2 no_step) ∷ []

abbrev pub multi_sample : Sample
multi_sample = record { defs = multi_defs; rules = multi_rules; term = 1; multi = true; set = multi_set; tree = multi_tree; near_trees = multi_near_trees }

-- the call that a loop goes over may be bound again in its body, or after it, but not what the loop brought
abbrev pub looped_with : List ℕ → List ℕ → Tree
looped_with inside after = step (1 ∷ []) (loop_at 2 (returning inside 3 2 no_step)) (returning after 4 3 no_step)

abbrev pub LoopsMayBindAgain : Type 0
LoopsMayBindAgain = BindsBeforeUse multi_set true (looped_with (1 ∷ []) (1 ∷ [])) × (BindsBeforeUse multi_set true (looped_with (2 ∷ []) []) → ⊥)

-- m answers 4 and 4 at 1, 7 at 2, and the empty list at 3
abbrev pub multi_meaning : Meaning
multi_meaning = finite (record (of_literals (literal (pos 1) ∷ literal (pos 9) ∷ [])) {
  pure_calls =
      ((0, alone (pos 1)), many (all_of (pos 4 ∷ pos 4 ∷ [])))
      ∷ ((0, alone (pos 2)), many (all_of (pos 7 ∷ [])))
      ∷ ((0, alone (pos 3)), many (all_of [])) ∷ [];
})

-- the same without calls
abbrev pub multi_mute : Meaning
multi_mute = mute (literal (pos 1) ∷ literal (pos 9) ∷ [])

-- the world of a run on an argument
abbrev pub multi_world : ℤ → World
multi_world z = world_of multi_program 1 multi_set.sites multi_meaning (given z)

-- the bag of the rules' results on an argument, that of the set's rules, and what the run gives, in its own order
abbrev pub MultiGives : ℤ → List ℤ → List ℤ → Type 0
MultiGives z results in_run =
    (bag multi_program multi_meaning multi_rules.rules (given z) ≡ each results)
    × (set_bag multi_set (multi_world z) ≡ each results)
    × (run multi_tree (multi_world z) ≡ record { calls = []; results = each in_run; ending = ran_through })

-- the run collects the bag
abbrev pub MultiCollects : ℤ → Type 0
MultiCollects z = Collects (run multi_tree (multi_world z)) (bag multi_program multi_meaning multi_rules.rules (given z))

-- results that are not the bag on 1
abbrev pub MultiIsNot : List ℤ → Type 0
MultiIsNot results = Collects (record { calls = []; results = each results; ending = ran_through }) (bag multi_program multi_meaning multi_rules.rules (given (pos 1))) → ⊥

-- the meaning has what the rules ask on 1, and tells their constants apart
abbrev pub MultiIsServed : Type 0
MultiIsServed = Serves multi_program multi_meaning (given (pos 1)) multi_rules.rules × TellsConstantsApart multi_program multi_meaning multi_rules.rules

-- the typed rules make no impure call, and their if-lets leave no multi call unused; the set's rules make none and demand
-- every gate, its sites stand in order, and the world serves it
abbrev pub MultiIsCollected : Type 0
MultiIsCollected = All (HasCollectedResults multi_program) multi_rules.rules × IsCollectedSet multi_set × ServesSet multi_set (multi_world (pos 1))

-- so the law on runs of multi terms applies: on 1, the run of the tree collects the bag of the set
abbrev pub MultiSetCollects : Type 0
MultiSetCollects = Collects (run multi_tree (multi_world (pos 1))) (set_bag multi_set (multi_world (pos 1)))

-- and so does the law on best trees: on all well-typed arguments, and under every meaning that serves the rules
abbrev pub MultiTreeCollects : Type 0
MultiTreeCollects = CollectsTheBag multi_program 1 multi_set.sites multi_tree

-- under each pick of the first rule on 1, what its right side gives is what the site of its result holds
abbrev pub MultiResultsAreHeld : Type 0
MultiResultsAreHeld =
    (k : Pick) (e : SitedVars) → Contains (picks multi_program multi_meaning (given (pos 1)) each_m) k → matches_under multi_program multi_meaning k each_m (given (pos 1)) ≡ Some e
    → (right_side_under multi_program multi_meaning k each_m e).results ≡ as_list (content_at (multi_world (pos 1)) k 2)

-- the first answer of the call
abbrev pub first_answer : Pick
first_answer = (call_m, 0) ∷ []

-- under the pick of it the first rule matches 1, and is taken: its right side's outcome is that answer
abbrev pub MultiIsTaken : Type 0
MultiIsTaken =
    Contains (picks multi_program multi_meaning (given (pos 1)) each_m) first_answer
    × IsTrue (is_some (matches_under multi_program multi_meaning first_answer each_m (given (pos 1))))
    × IsTakenUnder (returning_once (multi_world (pos 1))) first_answer each_of_m (answers (pos 4))

-- so the law on rules that are taken applies
abbrev pub MultiTakenGives : Type 0
MultiTakenGives =
    (e : SitedVars) → matches_under multi_program multi_meaning first_answer each_m (given (pos 1)) ≡ Some e
    → answers (pos 4) ≡ right_side_under multi_program multi_meaning first_answer each_m e
