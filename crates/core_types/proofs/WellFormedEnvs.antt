-- The type environment of a list with valid types shows the types of that list, and so is well formed; with more names it
-- stays so.
use Rattle.std.proofs.Common.{◌≡◌, Result, OnOk, OnErr, ℕ, ◌<◌, ◌≤◌, true, List, [], ◌∷◌, length, take, Option, option_map, Contains, IsTrue, All, refl, sym, ap, ◌∙◌, subst, arith}
use Rattle.std.specs.List.{flat_map}
use Rattle.std.proofs.lemmas.List.{length-append}
use Rattle.std.proofs.lemmas.List.Elements.{All-contains}
use Rattle.std.proofs.lemmas.Grind.{common_steps}
use Rattle.model.specs.lists.Syntax.{Definition}
use Rattle.model.specs.lists.Names.{has_name, with_name, AreNumbersOf}
use Rattle.model.specs.lists.Tables.{TypeEntry}
use Rattle.model.specs.lists.TypeTable.{builtin_names, builtin_from, all_type_names, type_names_met, IsValidTypes}
use Rattle.model.specs.lists.KnownTypes.{types_inside, StandAtIds}
use Rattle.model.specs.claims.Environments.{types_read, AreReadable, HasVariantsAtIds, TypeEnvironment, AreTypesOf}
use Rattle.model.specs.claims.Questions.{HasOneNumber, AnswersTypes, IsWellFormedEnvironment}
use Rattle.laws_typing.proofs.EnvironmentsShown.{well_formed_environments_are_read_lem}
use Rattle.laws_typing.proofs.LooksByNumber.{numbered_look}
use Rattle.laws_typing.proofs.OwnTypes.{own_types_are_readable_lem}
use Rattle.core_syntax.specs.Stable.{look_up}
use Rattle.core_types.specs.declared.type_env.TypeEnv.{TypeEnv}
use Rattle.core_types.specs.Envs.{names_of, symbol_of, same_symbol, symbol, IsInterned}
use Rattle.core_types.specs.EnvViews.{environment_view}
use Rattle.core_types.specs.Stages.{Booting}
use Rattle.core_types.specs.TypeTables.{SeesTypes}
use Rattle.core_types.specs.TypeViews.{type_views}
use Rattle.core_types.proofs.Booting.{booted}
use Rattle.laws_typing.proofs.JudgedTypes.{types_are_judged_lem}

module _ (defs : List Definition) (env : TypeEnv) (v : IsValidTypes defs) (s : SeesTypes env defs (type_names_met defs)) where
  own : AreReadable (types_read defs)
  own = own_types_are_readable_lem defs v

  met : (x : List ℕ) → Contains (all_type_names defs) x → has_name (type_names_met defs) x ≡ true
  met x c = All-contains (λ y. IsTrue (has_name (type_names_met defs) y)) (all_type_names defs) x own.well_formed.names_of_types_met c

  pub types_shown : AreTypesOf defs (environment_view env)
  types_shown = record {
    valid = v;
    shown = record {
      names = s.names;
      inverse = subst (λ ns. AreNumbersOf ns (symbol_of env)) (sym s.names) s.inverse;
      types = s.types;
      look_ups = λ k. s.ids k ∙ sym (numbered_look (type_names_met defs) (all_type_names defs) own.well_formed.names_distinct met k);
      constants = s.constants;
      no_errors = ap length s.errors;
    };
  }

  pub well_formed : IsWellFormedEnvironment (environment_view env)
  well_formed = (well_formed_environments_are_read_lem (environment_view env)).1 (types_read defs, own, types_shown.shown)

-- so does that of the built-in types alone
abbrev none : List Definition
none = []

no_types : IsValidTypes none
no_types = (types_are_judged_lem none).0 refl

pub builtins_shown : (env : TypeEnv) → Booting env [] → AreTypesOf none (environment_view env)
builtins_shown env s = types_shown none env no_types (booted env s)

pub builtins_well_formed : (env : TypeEnv) → Booting env [] → IsWellFormedEnvironment (environment_view env)
builtins_well_formed env s = well_formed none env no_types (booted env s)

-- with more names, and all else as it was, a well-formed environment stays so
module _ (old new : TypeEnvironment) (h : IsWellFormedEnvironment old) (inverse : AreNumbersOf new.names new.number_of) (more : length old.names ≤ length new.names) (types : new.types ≡ old.types) (types_of : (k : ℕ) → new.type_of k ≡ old.type_of k) (constants_of : (k : ℕ) → new.constant_type_of k ≡ old.constant_type_of k) (errors : new.errors ≡ old.errors) where
  answers_stay : (before after : ℕ → Option ℕ) → ((k : ℕ) → after k ≡ before k) → AnswersTypes old before → AnswersTypes new after
  answers_stay before after same a k ty e = grind (arith, common_steps)

  number_stays : (ty : ℕ) → HasOneNumber old ty → HasOneNumber new ty
  number_stays ty n = grind (arith, common_steps)

  pub stays_well_formed : IsWellFormedEnvironment new
  stays_well_formed = record {
    inverse = inverse;
    builtins = subst (λ ts. take 13 ts ≡ builtin_from 0 builtin_names) (sym types) h.builtins;
    ids = subst StandAtIds (sym types) h.ids;
    variants = subst (All HasVariantsAtIds) (sym types) h.variants;
    one_number = λ ty l. number_stays ty (h.one_number ty (subst (λ ts. ty < length ts) types l));
    type_names = answers_stay old.type_of new.type_of types_of h.type_names;
    constants = answers_stay old.constant_type_of new.constant_type_of constants_of h.constants;
    types_in_range = subst (λ (ts : List TypeEntry). All (λ ty. ty < length ts) (flat_map types_inside ts)) (sym types) h.types_in_range;
    numbers_in_range = grind (arith, common_steps);
    no_errors = errors ∙ h.no_errors;
  }

pub longer : (ns : List (List ℕ)) (x : List ℕ) → length ns ≤ length (with_name ns x)
longer ns x = grind (arith, common_steps, length-append ns (x ∷ []))

as_long : {S E : Type 0} (r : Result S E) (x : List ℕ) (old new : List (List ℕ)) → OnOk r (new ≡ with_name old x) → OnErr r (new ≡ old) → length old ≤ length new
as_long r x old new ok err = grind (arith, common_steps, longer old x)

-- so it does where a name is met
pub interned_well_formed : {S E : Type 0} (r : Result S E) (x : List ℕ) (old new : TypeEnv) → OnOk r (names_of new ≡ with_name (names_of old) x) → OnErr r (names_of new ≡ names_of old) → IsInterned new → new.types ≡ old.types → new.type_map ≡ old.type_map → new.const_types ≡ old.const_types → new.errors ≡ old.errors
    → IsWellFormedEnvironment (environment_view old) → IsWellFormedEnvironment (environment_view new)
interned_well_formed r x old new ok err inverse types type_map constants errors h =
    stays_well_formed (environment_view old) (environment_view new) h inverse (as_long r x (names_of old) (names_of new) ok err) (ap (λ v. type_views v.items) types)
    (λ k. ap (λ m. option_map (λ t. t.0) (look_up same_symbol m (symbol k))) type_map)
    (λ k. ap (λ m. option_map (λ t. t.0) (look_up same_symbol m (symbol k))) constants) (ap (λ v. length v.items) errors)
