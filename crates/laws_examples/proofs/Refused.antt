-- Lists that have no typed rules, and samples that lowering refuses.
use Rattle.std.proofs.Common.{◌≡◌, ◌∷◌, [], Bool, List, length, ap, arith}
use Rattle.model.proofs.Members.{in_alone}
use Rattle.model.specs.lists.Syntax.{Position, Definition}
use Rattle.model.specs.claims.Refusals.{Refusal, ill_typed, IsOfReading}
use Rattle.model.specs.claims.Layers.{RefusedBy, by_rules}
use Rattle.std.proofs.lemmas.List.Elements.{All-from_recursion}
use Rattle.std.proofs.lemmas.Grind.{common_steps}
use Rattle.model.specs.lists.TypeTable.{IsValidTypes}
use Rattle.laws_examples.specs.Stages.{IsNotRead}

pub some_error : (r : Refusal) → (r ∷ []) ≡ [] → ⊥
some_error r e = (let l : 1 ≡ 0 = ap length e in omega (arith, l))

-- a list whose types are valid, and that has no typed rules, is refused by one error of a rule
pub by_one_rule : (defs : List Definition) (p : Position) → IsValidTypes defs → IsNotRead defs → (expand : Bool) → RefusedBy defs expand (ill_typed p ∷ [])
by_one_rule defs p types none expand =
    by_rules (ill_typed p ∷ []) types
    (record {
      some_error = some_error (ill_typed p);
      forms = All-from_recursion IsOfReading (ill_typed p ∷ []) (tt, tt);
      limits = grind (arith, common_steps, in_alone);
      no_rules = λ h. none expand h.0 (record { types = types; elaborated = h.1 });
    })
