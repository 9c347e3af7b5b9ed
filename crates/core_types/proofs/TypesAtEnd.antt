-- What holds when all definitions were read.
use Rattle.std.proofs.Common.{◌≡◌, ◌≢◌, ℕ, true, false, cond, ◌==◌, List, [], ◌∷◌, ◌++◌, map, Some, None, slice_get, refl, sym, arith}
use Rattle.std.proofs.lemmas.List.{append-nil}
use Rattle.std.proofs.lemmas.List.Elements.{All-nil}
use Rattle.std.proofs.lemmas.Grind.{common_steps}
use Rattle.model.specs.lists.Syntax.{Definition}
use Rattle.model.specs.lists.Names.{number, has_name}
use Rattle.model.specs.rules.Meaning.{look}
use Rattle.model.specs.rules.Outcome.{then_option}
use Rattle.model.specs.lists.TypeTable.{builtin_names, type_names, ConstantTree, constant_trees, type_names_met, last_definitions, type_or_first, constant_types, IsOfKnownType, IsValidTypes}
use Rattle.model.specs.claims.Refusals.{RefusesTypes}
use Rattle.core_syntax.specs.declared.syntax.Error.{Error}
use Rattle.core_syntax.specs.ErrorViews.{error_views}
use Rattle.core_syntax.proofs.NotedErrors.{forms_of, some_views}
use Rattle.model.proofs.Bytes.{same_self}
use Rattle.model.proofs.Names.{found, has_at, has_met, has_right}
use Rattle.laws_typing.proofs.TypeLaws.{names_later, type_names_distinct, last_definition_counts_lem}
use Rattle.core_types.specs.declared.type_env.TypeEnv.{TypeEnv}
use Rattle.core_types.specs.Envs.{IsInterned}
use Rattle.core_types.specs.Stages.{names_in_types, constant_names, last_type, TypingConstants, ReadsConstants}
use Rattle.core_types.specs.TypeErrors.{AreErrorsOfTypes}
use Rattle.core_types.specs.TypeTables.{SeesTypes}
use Rattle.core_types.proofs.FirstBreaches.{first_invalid, first_breaks}
use Rattle.core_types.proofs.RightTypes.{types_valid}
use Rattle.core_types.proofs.TypeErrors.{told_forms}

-- no constant has a number past the names
look_past : (ns : List (List ℕ)) (ty : ConstantTree → ℕ) (k : ℕ) → slice_get ns k ≡ None → (cs : List ConstantTree) → ((x : List ℕ) → has_name (map (λ c. c.name.text) cs) x ≡ true → has_name ns x ≡ true) → look (λ j. j == k) (map (λ c. (number ns c.name.text, ty c)) (last_definitions cs)) ≡ None
look_past ns ty k past [] met = refl
look_past ns ty k past (c ∷ cs) met =
    let texts : List (List ℕ) = map (λ c. c.name.text) cs in
    let later : look (λ j. j == k) (map (λ c. (number ns c.name.text, ty c)) (last_definitions cs)) ≡ None = look_past ns ty k past cs (λ x h. met x (has_right (c.name.text ∷ []) texts x h)) in
    elim (has_name texts c.name.text) as (λ b. look (λ j. j == k) (map (λ c. (number ns c.name.text, ty c)) (cond b (last_definitions cs) (c ∷ last_definitions cs))) ≡ None) [
      | true ↦ later
      | false ↦ grind (arith, common_steps, same_self c.name.text, found ns c.name.text)
    ]

-- the last type of each constant is what the table of constants has
pub last_types : (defs : List Definition) (k : ℕ) → then_option (slice_get (type_names_met defs) k) (last_type defs (constant_trees defs)) ≡ look (λ j. j == k) (constant_types defs)
last_types defs k =
    let all = type_names_met defs in
    elim (slice_get all k) as (λ o. slice_get all k ≡ o → then_option o (last_type defs (constant_trees defs)) ≡ look (λ j. j == k) (constant_types defs)) [
      | None ↦ λ past.
          sym (look_past all (λ c. type_or_first defs c.ty) k past (constant_trees defs) (λ x h. has_met builtin_names (names_later defs) x (has_right (type_names defs ++ names_in_types defs) (constant_names defs) x h)))
      | Some x ↦ grind (arith, common_steps, type_names_distinct defs (number all x) k x, found all x, has_at all k x, last_definition_counts_lem defs x)
    ] refl

module _ (defs : List Definition) (env : TypeEnv) where
  valid_of : TypingConstants defs [] env → IsValidTypes defs
  valid_of n = types_valid defs n.distinct n.right (n.of_known (All-nil (IsOfKnownType defs)))

  sees_of : TypingConstants defs [] env → IsInterned env → SeesTypes env defs (type_names_met defs)
  sees_of n i = grind (arith, common_steps, append-nil n.read, last_types defs)

  pub at_ok : (es : List Error) → ReadsConstants defs [] env es → es ≡ [] → IsValidTypes defs × SeesTypes env defs (type_names_met defs)
  at_ok es s none = let right = s.right none in (valid_of right, sees_of right s.inverse)

module _ (defs : List Definition) (es : List Error) (a : AreErrorsOfTypes defs es) where
  pub at_err : es ≢ [] → IsValidTypes defs → ⊥
  at_err some v = first_invalid defs es (first_breaks defs es a some) v

  pub why_refused : es ≢ [] → RefusesTypes defs (error_views es)
  why_refused some = record { some_error = some_views es some; forms = forms_of es (told_forms defs es a); not_valid = at_err some }
