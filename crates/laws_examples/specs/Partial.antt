-- A sample: a partial call on the right side, which is impure.
--   (decl partial g (u8) u8)
--   (extern constructor g g_fn)
--   (decl partial f (u8) u8)
--   (rule 1 (f 1) (g 1))
--   (rule (f _) 7)
use Rattle.std.specs.Prelude.{◌∷◌, [], ℤ, pos, true, false, List, None, codes}
use Rattle.model.specs.claims.Layers.{own_program}
use Rattle.model.specs.lists.Elaborated.{TypedRules}
use Rattle.model.specs.lists.Syntax.{Definition, declaration}
use Rattle.model.specs.rules.Meaning.{Content, Meaning, nothing, finite}
use Rattle.model.specs.rules.Outcome.{Call, Outcome}
use Rattle.model.specs.rules.Program.{Program}
use Rattle.model.specs.rules.Typed.{TypedRule, make_int, make_term, match_any, match_int}
use Rattle.model.specs.sites.Serves.{Serves, TellsConstantsApart}
use Rattle.model.specs.sites.Sites.{SiteSet, argument_site, constructor_site, make_some_site, match_some_site}
use Rattle.model.specs.trees.Trees.{Tree, match_at, no_step, step}
use Rattle.laws_examples.specs.MeaningForms.{alone, given, literal, mute, of_literals}
use Rattle.laws_examples.specs.SetForms.{a_rule, byte, is_byte, one_arm, returning}
use Rattle.laws_examples.specs.Stages.{Sample, HasOutcome}
use Rattle.laws_examples.specs.TypedForms.{e_list, rules_and_names, typed, u8}
use Rattle.laws_examples.specs.Written.{any, call, constructor_by, int, number, numbers, of_f, rule_first, rule_to}

abbrev pub partial_defs : List Definition
partial_defs =
    declaration (record (numbers 0 (codes "g")) { partial = true }) ∷ constructor_by 1 (codes "g") (codes "g_fn")
    ∷ declaration (record (numbers 2 (codes "f")) { partial = true })
    ∷ rule_first 3 (pos 1) (of_f 3 (int 3 (pos 1) ∷ [])) (call 3 (codes "g") (number 3 (pos 1) ∷ []))
    ∷ rule_to 4 (of_f 4 (any 4 ∷ [])) (number 4 (pos 7)) ∷ []

abbrev pub partial_call : TypedRule
partial_call = typed 0 3 1 (pos 1) None [] (match_int u8 (pos 1) ∷ []) (make_term u8 0 (e_list (make_int u8 (pos 1) ∷ [])))

abbrev pub partial_any : TypedRule
partial_any = typed 1 4 1 (pos 0) None [] (match_any u8 ∷ []) (make_int u8 (pos 7))

abbrev pub partial_rules : TypedRules
partial_rules = rules_and_names (partial_call ∷ partial_any ∷ []) (codes "g" ∷ codes "f" ∷ codes "g_fn" ∷ [])

abbrev pub partial_program : Program
partial_program = own_program partial_defs partial_rules

abbrev pub partial_set : SiteSet
partial_set = record {
  rules = record (a_rule 0 3 (pos 1) ((0, is_byte 1) ∷ []) [] 4) { impure = 3 ∷ [] } ∷ a_rule 1 4 (pos 0) [] [] 6 ∷ [];
  sites = argument_site 0 ∷ byte 1 ∷ constructor_site 0 (1 ∷ []) 1 ∷ match_some_site 2 ∷ make_some_site 3 ∷ byte 7 ∷ make_some_site 5 ∷ [];
}

-- under the test for 1 the call, its answer and Some of it are bound before the return
abbrev pub partial_tree : Tree
partial_tree = step [] (match_at 0 (one_arm (is_byte 1) [] (returning (2 ∷ 3 ∷ 4 ∷ []) 3 4 no_step))) (returning (6 ∷ []) 4 6 no_step)

abbrev pub partial_sample : Sample
partial_sample = record { defs = partial_defs; rules = partial_rules; term = 1; multi = false; set = partial_set; tree = partial_tree; near_trees = [] }

-- the first impure call answers this
abbrev pub partial_meaning : Content → Meaning
partial_meaning answer = finite (record (of_literals (literal (pos 1) ∷ literal (pos 7) ∷ [])) { impure_calls = ((0, 0), answer) ∷ [] })

-- the same without calls
abbrev pub partial_mute : Meaning
partial_mute = mute (literal (pos 1) ∷ literal (pos 7) ∷ [])

-- the one call that is made on 1
abbrev pub g_of_one : List Call
g_of_one = record { term = 0; args = alone (pos 1) } ∷ []

-- where the first impure call answers so, choice and run end so on an argument
abbrev pub PartialEnds : Content → ℤ → Outcome → Type 0
PartialEnds answer z o = HasOutcome partial_sample (partial_meaning answer) (given z) o

-- the meaning has what the rules ask on 1, and tells their constants apart
abbrev pub PartialIsServed : Type 0
PartialIsServed =
    Serves partial_program (partial_meaning nothing) (given (pos 1)) partial_rules.rules × TellsConstantsApart partial_program (partial_meaning nothing) partial_rules.rules
