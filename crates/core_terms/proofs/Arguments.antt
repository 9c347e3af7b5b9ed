-- Looking up the types of names, one after another.
use Rattle.std.proofs.Common.{◌≡◌, ℕ, ◌+◌, ◌<◌, true, List, [], ◌∷◌, ◌++◌, length, drop, get_or, map, Option, Some, None, is_some, All, sym, ap, subst, ◌∙◌}
use Rattle.std.proofs.lemmas.Bool.{false≢true}
use Rattle.std.proofs.lemmas.List.{append_assoc, at_drop_more, map-append}
use Rattle.std.proofs.lemmas.List.Elements.{All-head, All-tail}
use Rattle.core_syntax.specs.declared.syntax.Ident.{Ident}
use Rattle.core_syntax.specs.SyntaxViews.{name_view}
use Rattle.core_types.specs.declared.ids.TypeId.{TypeId}
use Rattle.core_types.specs.declared.type_env.TypeEnv.{TypeEnv}
use Rattle.core_terms.specs.Reading.{IsKnownInEnv}
use Rattle.core_types.specs.Envs.{type_of_name}

abbrev found_types : List TypeId → List (Option ℕ)
found_types tys = map Some (map (λ t. t.0) tys)

abbrev named_types : TypeEnv → List Ident → List (Option ℕ)
named_types env names = map (λ n. type_of_name env n.text) (map name_view names)

-- the types of these names are left to be looked up, and the rest are all known
pub record IsLookedUp (env : TypeEnv) (names rest : List Ident) (tys : List TypeId) : Type 0 where
  pub types : found_types tys ++ named_types env rest ≡ named_types env names
  pub known : All (IsKnownInEnv env) (map name_view names) → All (IsKnownInEnv env) (map name_view rest)

module _ (env : TypeEnv) (names : List Ident) (k : ℕ) (n : Ident) (within : k < length names) (at : n ≡ get_or names k n) (tys : List TypeId) (s : IsLookedUp env names (drop k names) tys) where
  left : drop k names ≡ n ∷ drop (k + 1) names
  left = at_drop_more (λ l. l) names k n within ∙ ap (λ x. x ∷ drop (k + 1) names) (sym at)

  pub next_type : (tys' : List TypeId) (t : TypeId) → tys' ≡ tys ++ t ∷ [] → Some t.0 ≡ type_of_name env (name_view n).text → IsLookedUp env names (drop (k + 1) names) tys'
  next_type tys' t more is = record {
    types = ap (λ ts. found_types ts ++ named_types env (drop (k + 1) names)) more
        ∙ ap (λ ts. ts ++ named_types env (drop (k + 1) names)) (ap (map Some) (map-append (λ u. u.0) tys (t ∷ [])) ∙ map-append Some (map (λ u. u.0) tys) (t.0 ∷ []))
        ∙ append_assoc (found_types tys) (Some t.0 ∷ []) (named_types env (drop (k + 1) names))
        ∙ ap (λ o. found_types tys ++ (o ∷ named_types env (drop (k + 1) names))) is
        ∙ ap (λ l. found_types tys ++ named_types env l) (sym left) ∙ s.types;
    known = λ v. All-tail (IsKnownInEnv env) (name_view n) (map name_view (drop (k + 1) names)) (subst (λ l. All (IsKnownInEnv env) (map name_view l)) left (s.known v));
  }

  pub unknown_type : None ≡ type_of_name env (name_view n).text → All (IsKnownInEnv env) (map name_view names) → ⊥
  unknown_type none v =
      let one : IsKnownInEnv env (name_view n) = All-head (IsKnownInEnv env) (name_view n) (map name_view (drop (k + 1) names)) (subst (λ l. All (IsKnownInEnv env) (map name_view l)) left (s.known v)) in
      false≢true (subst (λ o. is_some o ≡ true) (sym none) one)
