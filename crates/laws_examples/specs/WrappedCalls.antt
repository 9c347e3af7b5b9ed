-- A sample: a variant around an impure call, in a rule that doesn't match where the other one does.
--   (type T (enum (P (a u8))))
--   (decl im (u8) u8)
--   (extern constructor im im_fn)
--   (decl f (u8) T)
--   (rule 1 (f 1) (T.P (im 1)))
--   (rule (f _) (T.P 2))
use Rattle.std.specs.Prelude.{◌∷◌, [], ℕ, pos, List, None, codes}
use Rattle.model.specs.claims.Layers.{own_program}
use Rattle.model.specs.lists.Elaborated.{TypedRules}
use Rattle.model.specs.lists.Syntax.{Definition, ExprTree, declaration}
use Rattle.model.specs.rules.Program.{Program}
use Rattle.model.specs.rules.Typed.{TypedExpr, TypedRule, make_int, make_term, match_any, match_int}
use Rattle.model.specs.sites.Serves.{Serves, TellsConstantsApart}
use Rattle.laws_examples.specs.SmallestInputs.{wrapped_meaning}
use Rattle.laws_examples.specs.MeaningForms.{given}
use Rattle.laws_examples.specs.TypedForms.{e_list, own, rules_and_names, typed, u8}
use Rattle.laws_examples.specs.Written.{any, call, constructor_by, declared, enum_of_one, field, int, number, numbers, of_f, rule_first, rule_to}

abbrev pub in_p : ℕ → ExprTree → ExprTree
in_p d x = call d (codes "T.P") (x ∷ [])

abbrev pub wrapped_defs : List Definition
wrapped_defs =
    enum_of_one 0 (codes "T") (codes "P") (field 0 (codes "a") (codes "u8") ∷ [])
    ∷ declaration (numbers 1 (codes "im")) ∷ constructor_by 2 (codes "im") (codes "im_fn") ∷ declared 3 (codes "f") (codes "u8" ∷ []) (codes "T")
    ∷ rule_first 4 (pos 1) (of_f 4 (int 4 (pos 1) ∷ [])) (in_p 4 (call 4 (codes "im") (number 4 (pos 1) ∷ [])))
    ∷ rule_to 5 (of_f 5 (any 5 ∷ [])) (in_p 5 (number 5 (pos 2))) ∷ []

abbrev pub made_p : TypedExpr → TypedExpr
made_p x = make_term own 2 (e_list (x ∷ []))

abbrev pub first_wrapped : TypedRule
first_wrapped = typed 0 4 1 (pos 1) None [] (match_int u8 (pos 1) ∷ []) (made_p (make_term u8 0 (e_list (make_int u8 (pos 1) ∷ []))))

abbrev pub second_wrapped : TypedRule
second_wrapped = typed 1 5 1 (pos 0) None [] (match_any u8 ∷ []) (made_p (make_int u8 (pos 2)))

abbrev pub wrapped_rules : TypedRules
wrapped_rules =
    rules_and_names (first_wrapped ∷ second_wrapped ∷ []) (codes "T" ∷ codes "T.P" ∷ codes "P" ∷ codes "a" ∷ codes "im" ∷ codes "f" ∷ codes "im_fn" ∷ [])

abbrev pub wrapped_program : Program
wrapped_program = own_program wrapped_defs wrapped_rules

-- on 2 the first rule doesn't match: the meaning serves the rules, though it has no number for the first impure call, and
-- tells constants apart. That its world lacks what stands above that call says `AboveCallsNothingIsAsked`
abbrev pub NothingIsAskedAboveCalls : Type 0
NothingIsAskedAboveCalls =
    Serves wrapped_program wrapped_meaning (given (pos 2)) wrapped_rules.rules
    × TellsConstantsApart wrapped_program wrapped_meaning wrapped_rules.rules
