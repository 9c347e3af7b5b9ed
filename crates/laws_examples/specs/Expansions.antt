-- How many expansions a rule takes whose patterns use a template that uses its argument twice.
use Rattle.std.specs.Prelude.{◌≡◌, ◌∷◌, [], ◌+◌, ◌≤◌, ℕ, pos, zero, suc, true, List, Option, Some, None, codes, length, option_map, replicate}
use Rattle.model.specs.lists.Elaborated.{typed_rule}
use Rattle.model.specs.lists.Setting.{Setting}
use Rattle.model.specs.lists.Syntax.{Definition, ExprTree, PatternTree, declaration}
use Rattle.model.specs.lists.TermTable.{template}
use Rattle.laws_examples.specs.Stages.{own_setting}
use Rattle.laws_examples.specs.TypedForms.{names_with}
use Rattle.laws_examples.specs.Written.{any, both, extractor, f_of_bytes, number, numbers, of_f, rule_to, rule_tree, term, var}

-- (decl d (u8) u8), (extractor (d a) T), (decl f (u8 ..) u8) of as many arguments, and (rule (f p ..) x)
abbrev pub by_template : PatternTree → List PatternTree → ExprTree → List Definition
by_template template ps x =
    declaration (numbers 0 (codes "d")) ∷ extractor 1 (codes "d") (codes "a" ∷ []) template ∷ f_of_bytes 2 (length ps) ∷ rule_to 3 (of_f 3 ps) x ∷ []

-- its tables, which the patterns don't change
abbrev pub template_setting : PatternTree → ℕ → Setting
template_setting template k = own_setting (by_template template (replicate k (any 3)) (number 3 (pos 1))) true

-- the expansions that (rule (f p ..) 1) takes
abbrev pub expansions_in : PatternTree → List PatternTree → Option ℕ
expansions_in template ps =
    option_map (λ a. a.expansions) (typed_rule (template_setting template (length ps)) 0 (rule_tree 3 (of_f 3 ps) (number 3 (pos 1))) (names_with (codes "d" ∷ codes "f" ∷ [])))

-- a pattern inside n uses of d
abbrev pub inside : ℕ → PatternTree → PatternTree
inside zero p = p
inside (suc n) p = term 3 (codes "d") (inside n p ∷ [])

abbrev pub twice : PatternTree
twice = both 1 (var 1 (codes "a") ∷ var 1 (codes "a") ∷ [])

-- x inside n uses of d
abbrev pub nested_uses : ℕ → PatternTree
nested_uses n = inside n (var 3 (codes "x"))

-- a use of the template: one expansion, and twice those inside
abbrev pub used_twice : ℕ → ℕ
used_twice k = suc (k + (k + 0))

-- 2 to the number n, less 1
abbrev pub doubled : ℕ → ℕ
doubled zero = 0
doubled (suc n) = used_twice (doubled n)

-- the expansions that (rule (f p q r) 1) takes
abbrev pub expansions_of : PatternTree → PatternTree → PatternTree → Option ℕ
expansions_of p q r = expansions_in twice (p ∷ q ∷ r ∷ [])

-- x inside n uses takes 2 to the number n, less 1, as long as that is within the limit, which it is up to 16 uses
pub record NestedUsesDouble : Type 0 where
  pub within : (n : ℕ) → n ≤ 16 → expansions_of (nested_uses n) (any 3) (any 3) ≡ Some (doubled n)
  pub most : doubled 16 ≡ 65535
  pub past : expansions_of (nested_uses 17) (any 3) (any 3) ≡ None
