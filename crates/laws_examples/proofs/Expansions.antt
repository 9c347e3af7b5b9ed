-- How many expansions nested uses of a template take that uses its argument twice.
use Rattle.std.proofs.Common.{◌≡◌, ◌∷◌, [], ◌+◌, ◌<◌, ◌≤◌, ◌-◌, ◌∙◌, ℕ, pos, zero, suc, false, Some, None, codes, refl, ap, subst, arith}
use Rattle.model.specs.lists.Elaborates.{ElaboratesPattern, new_name, bound_name, a_template, anything, all_of, no_part, part, no_more, one_more, a_rule, integer_expr, no_iflet}
use Rattle.laws_typing.proofs.TypedPatterns.{raised}
use Rattle.std.proofs.lemmas.Bool.{le-leb, lt-leb}
use Rattle.model.specs.lists.Elaborated.{elaborated_rule}
use Rattle.model.specs.lists.Setting.{Scope, bound, new_scope}
use Rattle.model.specs.lists.Syntax.{PatternTree}
use Rattle.model.specs.rules.Typed.{TypedPattern, TypedRule}
use Rattle.laws_typing.proofs.TypedRules.{rules_agree}
use Rattle.laws_typing.specs.TypingLaws.{typing}
use Rattle.laws_examples.specs.Expansions.{NestedUsesDouble, doubled, expansions_of, nested_uses, template_setting, twice}
use Rattle.laws_examples.specs.TypedForms.{names_with, typed_var, u8}
use Rattle.laws_examples.specs.Written.{any, number, of_f, rule_tree}

abbrev start : Scope
start = new_scope (names_with (codes "d" ∷ codes "f" ∷ []))

abbrev after_x : Scope
after_x = bound start (codes "x") u8

-- within n nested expansions, where x is bound
x_used : (n : ℕ) → (q : TypedPattern) × ElaboratesPattern (template_setting twice 3) false n (nested_uses n) u8 after_x q after_x (doubled n)
x_used zero = (_, bound_name {v = typed_var 0 15 u8} refl refl)
x_used (suc n) = let r = x_used n in (_, a_template refl refl refl refl (all_of (one_more r.1 (one_more r.1 no_more))))

-- and where it isn't
x_bound : (n : ℕ) → (q : TypedPattern) × ElaboratesPattern (template_setting twice 3) false n (nested_uses n) u8 start q after_x (doubled n)
x_bound zero = (_, new_name refl)
x_bound (suc n) = let r = x_bound n in let u = x_used n in (_, a_template refl refl refl refl (all_of (one_more r.1 (one_more u.1 no_more))))

-- a pattern that is elaborated from these names on, after which x is bound, and how many expansions it takes
record Expanded (from : Scope) : Type 0 where
  pattern : PatternTree
  count : ℕ
  typed : TypedPattern
  made : ElaboratesPattern (template_setting twice 3) false 256 pattern u8 from typed after_x count

abbrev any_one : Expanded after_x
any_one = record { pattern = any 3; count = 0; typed = _; made = anything }

abbrev first_one : (n : ℕ) → n ≤ 256 → Expanded start
first_one n h =
    let r = x_bound n in
    let i : (256 - n) + n ≡ 256 = omega arith in
    record { pattern = nested_uses n; count = doubled n; typed = r.0; made = raised (template_setting twice 3) false (256 - n) i r.1 }

-- the whole rule
module _ (a : Expanded start) (b c : Expanded after_x) where
  total : ℕ
  total = (a.count + (b.count + (c.count + 0))) + (0 + 0)

  whole : (t : TypedRule) × (s : Scope) × (elaborated_rule (template_setting twice 3) 256 0 (rule_tree 3 (of_f 3 (a.pattern ∷ b.pattern ∷ c.pattern ∷ [])) (number 3 (pos 1))) start.names ≡ Some (typing t s total))
  unfolding total
  whole = (
    _,
    _,
    (rules_agree (template_setting twice 3) 256 0 (rule_tree 3 (of_f 3 (a.pattern ∷ b.pattern ∷ c.pattern ∷ [])) (number 3 (pos 1))) start.names _ _ total).0
        (a_rule refl refl refl refl (part a.made (part b.made (part c.made no_part))) no_iflet (integer_expr refl)),
  )

  within : total ≤ 65536 → expansions_of a.pattern b.pattern c.pattern ≡ Some total
  within h = rw (whole.2, le-leb total 65536 h) refl

  past : 65536 < total → expansions_of a.pattern b.pattern c.pattern ≡ None
  past h = rw (whole.2, lt-leb total 65536 h) refl

grows : (k n : ℕ) → doubled n ≤ doubled (k + n)
grows zero n = let i : n ≡ 0 + n = omega arith in subst (λ m. doubled n ≤ doubled m) i (let j : doubled n ≤ doubled n = omega arith in j)
grows (suc k) n =
    let h = grows k n in
    let i : suc (k + n) ≡ suc k + n = omega arith in
    subst (λ m. doubled n ≤ doubled m) i (let j : doubled n ≤ suc (doubled (k + n) + (doubled (k + n) + 0)) = omega (arith, h) in j)

pub nested_uses_double : NestedUsesDouble
unfolding total
nested_uses_double = record {
  within = λ n h.
      let l : n ≤ 256 = omega (arith, h) in
      let g = grows (16 - n) n in
      let i : (16 - n) + n ≡ 16 = omega (arith, h) in
      let small : doubled n ≤ 65535 = subst (λ m. doubled n ≤ doubled m) i g in
      let few : (doubled n + (0 + (0 + 0))) + (0 + 0) ≤ 65536 = omega (arith, small) in
      let same : (doubled n + (0 + (0 + 0))) + (0 + 0) ≡ doubled n = omega arith in
      within (first_one n l) any_one any_one few ∙ ap Some same;
  most = refl;
  past =
      let l : 17 ≤ 256 = omega arith in
      let many : 65536 < (131071 + (0 + (0 + 0))) + (0 + 0) = omega arith in
      past (first_one 17 l) any_one any_one many;
}
