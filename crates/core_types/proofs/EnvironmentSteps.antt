-- What a type environment sees after one more name, or one more type.
use Rattle.std.proofs.Common.{◌≡◌, ℕ, ◌+◌, true, false, cond, nat_eq, List, [], ◌∷◌, ◌++◌, length, Some, None, option_map, slice_get, refl, sym, ap, subst, ◌∙◌, arith, eqb-true}
use Rattle.std.proofs.lemmas.List.{length_push}
use Rattle.std.proofs.lemmas.Grind.{common_steps}
use Rattle.model.specs.lists.Names.{number, has_name, with_name}
use Rattle.model.specs.rules.Outcome.{then_option}
use Rattle.model.specs.lists.TypeTable.{place_from}
use Rattle.core_syntax.specs.Stable.{entry_count, look_up}
use Rattle.core_types.specs.declared.type_env.TypeEnv.{TypeEnv}
use Rattle.core_types.specs.Envs.{names_of, symbol_of, type_at, same_symbol, symbol, IsInterned}
use Rattle.core_types.specs.Reading.{NamesType}
use Rattle.core_types.specs.Stages.{Sees}
use Rattle.core_types.proofs.Inverse.{inverse_distinct}
use Rattle.model.proofs.ByNumber.{then_with, of_text, others}
use Rattle.model.proofs.FirstPlaces.{place_push_new, place_push_other}
use Rattle.model.proofs.Names.{with_missing, with_name_at}

module _ (env : TypeEnv) (ts : List (List ℕ)) (s : Sees env ts) where
  -- the type of a text's number is the place of the text
  pub type_of_text : (x : List ℕ) → type_at env (number (names_of env) x) ≡ place_from 0 x ts
  type_of_text x = s.ids (number (names_of env) x) ∙ of_text (names_of env) (λ y. place_from 0 y ts) x (s.known x)

  -- a name is met, and nothing else
  pub sees_name : (new : TypeEnv) (x : List ℕ) → names_of new ≡ with_name (names_of env) x → new.type_map ≡ env.type_map → new.const_types ≡ env.const_types → new.errors ≡ env.errors → Sees new ts
  sees_name new x names types constants errors = record {
    ids = grind (arith, common_steps, then_with (names_of env) x (λ y. place_from 0 y ts) (s.known x));
    known = λ y e. s.known y (with_missing (names_of env) x y (subst (λ ns. has_name ns y ≡ false) names e)).0;
    count = ap entry_count types ∙ s.count;
    constants = λ k. ap (λ m. option_map (λ t. t.0) (look_up same_symbol m (symbol k))) constants ∙ s.constants k;
    errors = ap (λ v. v.items) errors ∙ s.errors;
  }

  module _ (new : TypeEnv) (x : List ℕ) (n : NamesType x env new) (i : IsInterned new) where
    pub was_free : place_from 0 x ts ≡ None
    was_free = sym (type_of_text x) ∙ n.fresh

    at_number : slice_get (names_of new) (number (names_of env) x) ≡ Some x
    at_number = subst (λ ns. slice_get ns (number (names_of env) x) ≡ Some x) (sym n.names) (with_name_at (names_of env) x)

    ids_named : (k : ℕ) → type_at new k ≡ then_option (slice_get (names_of new) k) (λ y. place_from 0 y (ts ++ x ∷ []))
    ids_named k =
        n.ids k ∙ (elim (nat_eq (number (names_of env) x) k) as (λ b. nat_eq (number (names_of env) x) k ≡ b → cond b (Some (entry_count env.type_map)) (type_at env k) ≡ then_option (slice_get (names_of new) k) (λ y. place_from 0 y (ts ++ x ∷ []))) [
          | true ↦ λ e.
              let here : slice_get (names_of new) k ≡ Some x = subst (λ j. slice_get (names_of new) j ≡ Some x) (eqb-true (number (names_of env) x) k e) at_number in
              let size : entry_count env.type_map ≡ 0 + length ts = s.count ∙ omega arith in
              ap Some size ∙ sym (ap (λ o. then_option o (λ y. place_from 0 y (ts ++ x ∷ []))) here ∙ place_push_new 0 ts x was_free)
          | false ↦ λ e.
              s.ids k ∙ sym (ap (λ ns. then_option (slice_get ns k) (λ y. place_from 0 y ts)) n.names ∙ then_with (names_of env) x (λ y. place_from 0 y ts) (s.known x) k) ∙ others (names_of new) (inverse_distinct (names_of new) (symbol_of new) i) (number (names_of env) x) x at_number ts k e
        ] refl)

    -- a name becomes that of the next type
    pub sees_type : Sees new (ts ++ x ∷ [])
    sees_type = grind (arith, common_steps, ids_named, with_missing (names_of env) x, place_push_other 0 ts x, length_push ts x)
