-- Samples of rules with multi calls: which calls are one, which are two, and what a call without a list comes to.
use Rattle.std.specs.Prelude.{◌≡◌, ◌∷◌, [], ℕ, ℤ, pos, true, false, List, Some, None, map}
use Rattle.model.specs.rules.Meaning.{Content, Meaning, many, nothing, one, pure_answer, finite}
use Rattle.model.specs.rules.Picks.{bag}
use Rattle.model.specs.rules.Program.{Program}
use Rattle.model.specs.rules.Typed.{TypedExpr, TypedIfLet, TypedPattern, TypedRule, make_int, make_term, make_var, match_and, match_any, match_term}
use Rattle.model.specs.rules.Values.{Values, value_and}
use Rattle.model.specs.visits.Demands.{demands_of, result_of}
use Rattle.model.specs.sites.Serves.{Serves}
use Rattle.model.specs.sites.Sites.{SetRule, SiteSet, argument_site, constructor_site, iterator_site, unfold_site}
use Rattle.model.specs.trees.Collects.{IsCollectedRule, LeavesNoCallUnused, set_bag}
use Rattle.model.specs.trees.Run.{World}
use Rattle.laws_examples.specs.MeaningForms.{all_of, alone, each, given, just_number, literal, v}
use Rattle.laws_examples.specs.SetForms.{a_rule, byte}
use Rattle.laws_examples.specs.TypedForms.{bind_any, builtins, by_constructor, by_extractor, by_rules, e_list, entry, flags, make_let_one, number_term, q_list, typed, typed_iflet, u8, variables}

-- f and the pure m are multi, pr is pure, pp is pure and partial, w is impure and multi, e is a multi extractor
abbrev pub calls_program : Program
calls_program = record {
  types = builtins;
  constants = [];
  terms =
      number_term 0 0 13 (by_rules (flags false true false))
      ∷ number_term 1 1 14 (by_constructor (flags true true false) 19)
      ∷ entry 2 2 15 (u8 ∷ u8 ∷ []) u8 (by_constructor (flags true false false) 20)
      ∷ number_term 3 3 16 (by_constructor (flags true false true) 21)
      ∷ number_term 4 4 17 (by_constructor (flags false true false) 22)
      ∷ number_term 5 5 18 (by_extractor (flags false true false) 23 5) ∷ [];
  rules = [];
}

-- the only rule of f, which has its name, with variables of these names
abbrev pub rule_of_f : List ℕ → TypedPattern → List TypedIfLet → TypedExpr → TypedRule
rule_of_f names arg iflets rhs = record (typed 0 6 0 (pos 0) (Some 13) (variables 0 names) (arg ∷ []) rhs) { iflets = iflets }

-- a rule (f x) whose names are x and these
abbrev pub of_x : List ℕ → List TypedIfLet → TypedExpr → TypedRule
of_x names iflets rhs = rule_of_f (24 ∷ names) (bind_any u8 0) iflets rhs

abbrev pub x_used : TypedExpr
x_used = make_var u8 0

-- a call of a term on one argument, and of pr on two
abbrev pub call_of : ℕ → TypedExpr → TypedExpr
call_of t a = make_term u8 t (e_list (a ∷ []))

abbrev pub pair_made : TypedExpr → TypedExpr → TypedExpr
pair_made a b = make_term u8 2 (e_list (a ∷ b ∷ []))

-- (f x) is (pr (m x) (m x))
abbrev pub pure_twice : TypedRule
pure_twice = of_x [] [] (pair_made (call_of 1 x_used) (call_of 1 x_used))

-- (f x) is (pr (w x) (w x))
abbrev pub impure_twice : TypedRule
impure_twice = of_x [] [] (pair_made (call_of 4 x_used) (call_of 4 x_used))

-- (f x) is (m (m x))
abbrev pub call_in_call : TypedRule
call_in_call = of_x [] [] (call_of 1 (call_of 1 x_used))

-- a pattern (e x)
abbrev pub extracted : ℕ → TypedPattern
extracted i = match_term u8 5 (q_list (bind_any u8 i ∷ []))

-- (f (and (e x) (e y))) is (pr x y)
abbrev pub extracted_twice : TypedRule
extracted_twice = rule_of_f (24 ∷ 25 ∷ []) (match_and u8 (q_list (extracted 0 ∷ extracted 1 ∷ []))) [] (pair_made x_used (make_var u8 1))

-- (let ((z u8 CALL)) x)
abbrev pub x_beside : TypedExpr → TypedExpr
x_beside value = make_let_one u8 1 u8 value x_used

-- (f x) is (let ((z u8 (m x))) x)
abbrev pub unused_let : TypedRule
unused_let = of_x (26 ∷ []) [] (x_beside (call_of 1 x_used))

-- (f x) is y, if y is (let ((z u8 (m (pp x)))) x)
abbrev pub unused_condition : TypedRule
unused_condition = of_x (26 ∷ 25 ∷ []) (typed_iflet (bind_any u8 2) (x_beside (call_of 1 (call_of 3 x_used))) ∷ []) (make_var u8 2)

-- (f x) is y, if y is (m (pp x))
abbrev pub used_condition : TypedRule
used_condition = of_x (25 ∷ []) (typed_iflet (bind_any u8 1) (call_of 1 (call_of 3 x_used)) ∷ []) (make_var u8 1)

-- pr answers c on a and b
abbrev pub paired : ℤ → ℤ → ℤ → (ℕ × Values) × Content
paired a b c = ((2, value_and (v a) (alone b)), one (v c))

-- the literal 7 is 7; m answers 4 and 5 at 1, 6 and 7 at 4, and 8 at 5; e answers 4 and 5 at 1; pr sets two digits side by
-- side; pp answers 5 at 1 and nothing at 2; w answers 4 and 5, then 6 and 7
abbrev pub calls_meaning : Meaning
calls_meaning = finite (record {
  literals = literal (pos 7) ∷ [];
  constants = [];
  extractor_calls = ((5, v (pos 1)), many (all_of (pos 4 ∷ pos 5 ∷ []))) ∷ [];
  pure_calls =
      ((1, alone (pos 1)), many (all_of (pos 4 ∷ pos 5 ∷ [])))
      ∷ ((1, alone (pos 4)), many (all_of (pos 6 ∷ pos 7 ∷ [])))
      ∷ ((1, alone (pos 5)), many (all_of (pos 8 ∷ [])))
      ∷ ((3, alone (pos 1)), just_number (pos 5))
      ∷ ((3, alone (pos 2)), nothing)
      ∷ paired (pos 4) (pos 4) (pos 44) ∷ paired (pos 5) (pos 5) (pos 55) ∷ paired (pos 4) (pos 6) (pos 46) ∷ paired (pos 4) (pos 7) (pos 47)
      ∷ paired (pos 5) (pos 6) (pos 56) ∷ paired (pos 5) (pos 7) (pos 57) ∷ [];
  impure_calls = ((4, 0), many (all_of (pos 4 ∷ pos 5 ∷ []))) ∷ ((4, 1), many (all_of (pos 6 ∷ pos 7 ∷ []))) ∷ [];
})

-- the bag of a rule alone on an argument
abbrev pub GivesResults : TypedRule → ℤ → List ℤ → Type 0
GivesResults r z results = bag calls_program calls_meaning (r ∷ []) (given z) ≡ each results

-- on 1 the meaning has what pure_twice asks, though pr has no answer on two different answers of m: the two calls of m are
-- one, of which each pick takes one answer
abbrev pub OneCallIsServed : Type 0
OneCallIsServed =
    (pure_answer calls_meaning 2 (value_and (v (pos 4)) (alone (pos 5))) ≡ None)
    × Serves calls_program calls_meaning (given (pos 1)) (pure_twice ∷ [])

-- some if-let leaves a multi call of its expression unused
abbrev pub LeavesACallUnused : TypedRule → Type 0
LeavesACallUnused r = LeavesNoCallUnused calls_program r → ⊥

-- (f x) is 7, if anything is (let ((z u8 (m x))) x)
abbrev pub unused_gate : TypedRule
unused_gate = of_x (26 ∷ []) (typed_iflet (match_any u8) (x_beside (call_of 1 x_used)) ∷ []) (make_int u8 (pos 7))

-- on numbered sites: it goes over the call, and returns 7
abbrev pub unused_gate_rule : SetRule
unused_gate_rule = record (a_rule 0 6 (pos 0) [] [] 3) { name = Some 13; iterators = 1 ∷ [] }

abbrev pub unused_gate_set : SiteSet
unused_gate_set = record { rules = unused_gate_rule ∷ []; sites = argument_site 0 ∷ constructor_site 1 (0 ∷ []) 0 ∷ iterator_site 1 ∷ byte 7 ∷ [] }

-- the set's rule is the typed rule, as far as its calls and its result go
abbrev pub GoesOverTheCall : SetRule → Type 0
GoesOverTheCall r =
    (map (unfold_site unused_gate_set.sites) r.iterators ≡ (demands_of calls_program unused_gate).iterators)
    × (unfold_site unused_gate_set.sites r.result ≡ result_of calls_program unused_gate)

-- the if-let leaves the call unused, yet the rule of the set demands every gate
abbrev pub DemandsGatesThough : Type 0
DemandsGatesThough = LeavesACallUnused unused_gate × GoesOverTheCall unused_gate_rule × IsCollectedRule unused_gate_set.sites unused_gate_rule

-- the world on 1, where the call answers 4 and 5
abbrev pub unused_gate_world : World
unused_gate_world = record { sites = unused_gate_set.sites; args = given (pos 1); meaning = calls_meaning; multi = true }

-- the bag of the typed rule, and that of the set, have a 7 for each answer
abbrev pub UnusedGateGives : Type 0
UnusedGateGives = GivesResults unused_gate (pos 1) (pos 7 ∷ pos 7 ∷ []) × (set_bag unused_gate_set unused_gate_world ≡ each (pos 7 ∷ pos 7 ∷ []))
