-- Giving rules the names of their terms, one rule after another.
use Rattle.std.proofs.Common.{◌≡◌, ℕ, suc, ◌+◌, ◌<◌, List, ◌∷◌, ◌++◌, length, take, drop, set, get_or, map, Option, option_map, refl, ap, arith}
use Rattle.std.proofs.lemmas.List.{map-set, length-map}
use Rattle.std.proofs.lemmas.Grind.{common_steps}
use Rattle.model.specs.lists.Tables.{TermEntry}
use Rattle.model.specs.rules.Typed.{TypedRule}
use Rattle.model.specs.lists.Elaborated.{named_rule, named_rules}
use Rattle.core_types.specs.declared.ids.Sym.{Sym}
use Rattle.core_typed.specs.declared.rules.Rule.{Rule}
use Rattle.core_typed.proofs.Defaults.{same_default}
use Rattle.core_typed.specs.RuleViews.{rule_view, rule_views}

take_set : {A : Type 0} (f : A → A) (xs : List A) (i : ℕ) (d : A) → i < length xs → take (suc i) (set xs i (f (get_or xs i d))) ++ map f (drop (suc i) (set xs i (f (get_or xs i d)))) ≡ take i xs ++ map f (drop i xs)
take_set f (x ∷ xs) (suc i) d h = ap (λ l. x ∷ l) (take_set f xs i d (omega (arith, h)))
take_set f xs i d h = grind arith

-- the rules before i have got their names
abbrev pub NamedUpTo : List TermEntry → List TypedRule → List TypedRule → ℕ → Type 0
NamedUpTo terms first now i = take i now ++ map (named_rule terms first) (drop i now) ≡ named_rules terms first

step_naming : (terms : List TermEntry) (first now : List TypedRule) (i : ℕ) (d y : TypedRule) → i < length now → y ≡ named_rule terms first (get_or now i d) → NamedUpTo terms first now i → NamedUpTo terms first (set now i y) (i + 1)
step_naming terms first now i d y h e n = grind (arith, common_steps, take_set)

pub view_at : (rules : List Rule) (i : ℕ) (d : Rule) → rule_view (get_or rules i d) ≡ get_or (rule_views rules) i (rule_view d)
view_at (r ∷ rs) (suc i) d = view_at rs i d
view_at _ _ d = refl

-- after the rule at i has got its name
pub named_at : (terms : List TermEntry) (first : List TypedRule) (rules : List Rule) (i : ℕ) (d r : Rule) (name : Option Sym) → i < length rules → d ≡ get_or rules i d → r ≡ get_or rules i r → option_map (λ s. s.0) name ≡ (named_rule terms first (rule_view r)).name → NamedUpTo terms first (rule_views rules) i → NamedUpTo terms first (rule_views (set rules i (record d { name = name }))) (i + 1)
named_at terms first rules i d r name h d_is r_is nm n = grind (arith, common_steps, same_default, view_at, map-set, step_naming, length-map)
