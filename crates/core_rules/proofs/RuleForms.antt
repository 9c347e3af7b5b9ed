-- A rule, from what its sides became.
use Rattle.std.proofs.Common.{◌≡◌, ℕ, ℤ, List, [], ◌∷◌, map, Option, unwrap_or, pos, ap, ◌∙◌, arith}
use Rattle.std.proofs.lemmas.Grind.{common_steps}
use Rattle.model.specs.lists.Syntax.{Name, RuleTree}
use Rattle.model.specs.lists.Tables.{TermEntry}
use Rattle.model.specs.rules.Typed.{TypedPattern, TypedPatterns, no_typed_pattern, typed_pattern_and, TypedRule, TypedVar}
use Rattle.model.specs.lists.Elaborated.{typed_list, Sides, own_number, rule_of_sides}
use Rattle.core_typed.specs.declared.rules.BoundVar.{BoundVar}
use Rattle.core_rules.specs.RuleReadings.{scope_of}
use Rattle.core_typed.specs.RuleViews.{var_view}

pub listed : (qs : List TypedPattern) (parts : List TypedPattern → TypedPatterns) → parts [] ≡ no_typed_pattern → ((q : TypedPattern) (rest : List TypedPattern) → parts (q ∷ rest) ≡ typed_pattern_and q (parts rest)) → typed_list (parts qs) ≡ qs
listed [] parts none some = ap typed_list none
listed (q ∷ qs) parts none some = ap typed_list (some q qs) ∙ ap (λ r. q ∷ r) (listed qs parts none some)

own_numbered : (name : Option Name) (ns ms : List (List ℕ)) (vs ws us : List TypedVar) → ns ≡ ms
    → own_number (record { names = ns; visible = []; vars = vs }) name ≡ own_number (record { names = ms; visible = us; vars = ws }) name
own_numbered name ns ms vs ws us h = grind (arith, common_steps)

module _ (r : RuleTree) (id : ℕ) (t : TermEntry) (q : Sides) where
  abbrev with_parts : List TypedVar → Option ℕ → TypedRule
  with_parts vs o = record { id = id; root_term = t.id; args = typed_list q.0; iflets = q.1.0; rhs = q.1.1; vars = vs; prio = unwrap_or r.prio (pos 0); at = r.at; name = o }

-- a rule with these parts is that of the sides
pub rule_is : (r : RuleTree) (id : ℕ) (t : TermEntry) (q : Sides) (names : List (List ℕ)) (vars : List BoundVar) (args : List TypedPattern) (vs : List TypedVar) (prio : ℤ) (name : Option ℕ)
    → typed_list q.0 ≡ args → vs ≡ map var_view vars → prio ≡ unwrap_or r.prio (pos 0) → name ≡ own_number (scope_of names []) r.name
    → ◌≡◌ {A = TypedRule} (record { id = id; root_term = t.id; args = args; iflets = q.1.0; rhs = q.1.1; vars = vs; prio = prio; at = r.at; name = name }) (rule_of_sides id r t q (scope_of names vars))
rule_is r id t q names vars args vs prio name a v p n = grind (arith, common_steps, own_numbered)
