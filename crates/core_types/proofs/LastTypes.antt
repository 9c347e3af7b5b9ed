-- The last type of each constant, with one more definition of a constant.
use Rattle.std.proofs.Common.{◌≡◌, ℕ, ◌||◌, true, cond, nat_eq, List, [], ◌∷◌, ◌++◌, Option, Some, slice_get, unwrap_or, sym, ap, subst, ◌∙◌, arith}
use Rattle.std.specs.Str.{bytes_eq}
use Rattle.std.proofs.lemmas.List.{reverse-append}
use Rattle.std.proofs.lemmas.Grind.{common_steps}
use Rattle.model.specs.lists.Syntax.{Definition}
use Rattle.model.specs.lists.Names.{number, has_name, with_name, with_names, IsDistinct}
use Rattle.model.specs.rules.Outcome.{then_option}
use Rattle.model.specs.lists.TypeTable.{ConstantTree, type_id, type_or_first, type_names_met}
use Rattle.model.proofs.Bytes.{same_self}
use Rattle.model.proofs.Names.{has_met}
use Rattle.core_types.specs.Stages.{last_type}
use Rattle.laws_typing.proofs.LooksByNumber.{number_looked_up}

-- the type of a constant of one more definition
last_more : (defs : List Definition) (read : List ConstantTree) (c : ConstantTree) (x : List ℕ) → last_type defs (read ++ c ∷ []) x ≡ cond (bytes_eq c.name.text x) (Some (type_or_first defs c.ty)) (last_type defs read x)
last_more defs read c x = grind (arith, common_steps, reverse-append read (c ∷ []))

each_same : (o : Option (List ℕ)) (f g : List ℕ → Option ℕ) → ((x : List ℕ) → f x ≡ g x) → then_option o f ≡ then_option o g
each_same o f g h = grind (arith, common_steps)

-- a name that is met as a constant's gets the type of that definition
pub last_read : (defs : List Definition) (read : List ConstantTree) (c : ConstantTree) (ns rest : List (List ℕ)) (id : ℕ) → IsDistinct (type_names_met defs) → with_names (with_name ns c.name.text) rest ≡ type_names_met defs → number (type_names_met defs) c.name.text ≡ number ns c.name.text → type_id defs c.ty.text ≡ Some id → (k : ℕ)
    → cond (nat_eq (number ns c.name.text) k) (Some id) (then_option (slice_get (type_names_met defs) k) (last_type defs read)) ≡ then_option (slice_get (type_names_met defs) k) (last_type defs (read ++ c ∷ []))
last_read defs read c ns rest id once whole same known k =
    let all = type_names_met defs in
    let x = c.name.text in
    let met : has_name all x ≡ true = subst (λ l. has_name l x ≡ true) whole (has_met ns (x ∷ rest) x (ap (λ b. b || has_name rest x) (same_self x))) in
    let ty : Some id ≡ Some (type_or_first defs c.ty) = ap (λ o. Some (unwrap_or o 0)) (sym known) in
    ap (λ n. cond (nat_eq n k) (Some id) (then_option (slice_get all k) (last_type defs read))) (sym same)
    ∙ number_looked_up all x id (last_type defs read) once met k
    ∙ each_same (slice_get all k) _ _ (λ y. ap (λ o. cond (bytes_eq x y) o (last_type defs read y)) ty ∙ sym (last_more defs read c y))
