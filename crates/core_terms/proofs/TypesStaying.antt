-- Names that are met leave the types that are read with.
use Rattle.std.proofs.Common.{◌≡◌, ◌==◌, Result, Ok, Err, OnOk, OnErr, ℕ, true, false, cond, List, [], ◌∷◌, ◌++◌, None, slice_get, Contains, IsTrue, refl, sym, ap, subst, ◌∙◌, arith}
use Rattle.std.proofs.lemmas.Bool.{false≢true}
use Rattle.std.proofs.lemmas.List.{append_assoc, append-nil}
use Rattle.std.proofs.lemmas.List.Elements.{All-contains}
use Rattle.std.proofs.lemmas.Grind.{common_steps}
use Rattle.model.specs.lists.Names.{number, has_name, with_name, with_names, IsDistinct}
use Rattle.model.specs.rules.Meaning.{look}
use Rattle.model.specs.rules.Outcome.{then_option}
use Rattle.model.specs.lists.TypeTable.{place_from}
use Rattle.model.specs.lists.KnownTypes.{type_named}
use Rattle.model.specs.claims.Environments.{TypesRead, AreReadable, environment_of, with_read_names, numbered, IsLeftByRefusal}
use Rattle.model.proofs.ByNumber.{by_text}
use Rattle.model.proofs.FirstPlaces.{place_absent}
use Rattle.model.proofs.Members.{member_from_get}
use Rattle.model.proofs.Names.{found, has_left}
use Rattle.model.proofs.NumbersOf.{environments_are_read}
use Rattle.laws_typing.proofs.TypesStay.{types_are_shown_lem, types_stay_lem}
use Rattle.core_types.specs.declared.type_env.TypeEnv.{TypeEnv}
use Rattle.core_types.specs.Envs.{names_of, symbol_of, type_at, type_of_name, IsInterned}
use Rattle.core_types.specs.EnvViews.{environment_view}
use Rattle.core_types.proofs.Inverse.{inverse_distinct}
use Rattle.laws_typing.proofs.LooksByNumber.{numbered_from}
use Rattle.core_terms.specs.Reading.{Interns, MayIntern}

with_name_more : (ns : List (List ℕ)) (x : List ℕ) → (more : List (List ℕ)) × (with_name ns x ≡ ns ++ more)
with_name_more ns x =
    elim (has_name ns x) as (λ b. (more : List (List ℕ)) × (cond b ns (ns ++ x ∷ []) ≡ ns ++ more)) [
      | true ↦ ([], sym (append-nil ns))
      | false ↦ (x ∷ [], refl)
    ]

-- names that were met go on
pub with_names_more : (ns xs : List (List ℕ)) → (more : List (List ℕ)) × (with_names ns xs ≡ ns ++ more)
with_names_more ns [] = ([], sym (append-nil ns))
with_names_more ns (x ∷ xs) = grind (arith, common_steps, with_names_more (with_name ns x) xs, with_name_more ns x, append_assoc ns)

place_unmet : (ts : List (List ℕ)) (x : List ℕ) → (Contains ts x → ⊥) → place_from 0 x ts ≡ None
place_unmet ts x never = grind (arith, common_steps, member_from_get ts (number ts x) x, found ts x, place_absent 0 ts x)

module _ (e : TypesRead) (r : AreReadable e) (env : TypeEnv) (left : IsLeftByRefusal e (environment_view env)) where
  names_are : names_of env ≡ e.known.names ++ left.more
  names_are = left.types.names

  pub left_interned : IsInterned env
  left_interned = record { numbered = left.types.inverse.numbered; named = left.types.inverse.named }

  pub left_distinct : IsDistinct (names_of env)
  left_distinct = inverse_distinct (names_of env) (symbol_of env) left_interned

  -- the type of a name is the one that it was handed in with
  pub type_is : (x : List ℕ) → type_of_name env x ≡ type_named e.known x
  type_is x =
      let met : (y : List ℕ) → Contains e.known.type_names y → has_name e.known.names y ≡ true = λ y c. All-contains (λ z. IsTrue (has_name e.known.names z)) e.known.type_names y r.well_formed.names_of_types_met c in
      let met_here : (y : List ℕ) → Contains e.known.type_names y → has_name (names_of env) y ≡ true = λ y c. subst (λ ns. has_name ns y ≡ true) (sym names_are) (has_left e.known.names left.more y (met y c)) in
      let ids : (k : ℕ) → type_at env k ≡ then_option (slice_get (names_of env) k) (λ y. place_from 0 y e.known.type_names) =
      λ k. left.types.look_ups k ∙ ap (λ ns. look (λ n. n == k) (numbered ns e.known.type_names)) (sym names_are) ∙ numbered_from (names_of env) 0 e.known.type_names left_distinct met_here k in
      by_text (names_of env) (symbol_of env) left.types.inverse.numbered left.types.inverse.named (type_at env) (λ y. place_from 0 y e.known.type_names) ids x
      (λ f. place_unmet e.known.type_names x (λ c. false≢true (sym f ∙ met_here x c)))

  -- names are met, and nothing else changes
  pub left_more : (new : TypeEnv) → MayIntern env new → IsLeftByRefusal e (environment_view new)
  left_more new m =
      let w = with_names_more (names_of env) m.met in
      let more : List (List ℕ) = left.more ++ w.0 in
      let names : names_of new ≡ e.known.names ++ more = m.meets.names ∙ w.1 ∙ ap (λ ns. ns ++ w.0) names_are ∙ append_assoc e.known.names left.more w.0 in
      let once : IsDistinct (e.known.names ++ more) = subst IsDistinct names (inverse_distinct (names_of new) (symbol_of new) m.inverse) in
      let e' : TypesRead = with_read_names e (e.known.names ++ more) in
      let before = (types_stay_lem e (environment_of e) (environment_view env) left.more r (types_are_shown_lem e r) left.types) in
      let after = (types_stay_lem e (environment_of e) (environment_of e') more r (types_are_shown_lem e r) (environments_are_read e' once)) in
      record {
        more = more;
        types = grind (arith, common_steps);
      }

-- meeting a name changes nothing else
pub interned : {S E : Type 0} (r : Result S E) (x : List ℕ) (old new : TypeEnv) → OnOk r (names_of new ≡ with_name (names_of old) x) → OnErr r (names_of new ≡ names_of old) → IsInterned new → new.types ≡ old.types → new.type_map ≡ old.type_map → new.const_types ≡ old.const_types → new.errors ≡ old.errors → MayIntern old new
interned (Ok s) x old new ok err i types type_map constants errors = record {
  met = x ∷ [];
  meets = record { names = ok; types = types; type_map = type_map; const_types = constants; errors = errors };
  inverse = i;
}
interned (Err f) x old new ok err i types type_map constants errors = grind (arith, common_steps)

pub may_intern : (x : List ℕ) (old new : TypeEnv) → Interns x old new → MayIntern old new
may_intern x old new n = record {
  met = x ∷ [];
  meets = record { names = n.names; types = n.types; type_map = n.type_map; const_types = n.const_types; errors = n.errors };
  inverse = n.inverse;
}
