-- Names that are met one after another, and that the types stay seen meanwhile.
use Rattle.std.proofs.Common.{◌≡◌, ℕ, true, false, List, [], ◌∷◌, ◌++◌, option_map, ap, subst, ◌∙◌, arith}
use Rattle.std.proofs.lemmas.Grind.{common_steps}
use Rattle.model.specs.lists.Names.{has_name, with_name, with_names}
use Rattle.model.specs.lists.TypeTable.{place_from}
use Rattle.model.specs.lists.Syntax.{Position}
use Rattle.core_syntax.specs.declared.syntax.Error.{Error}
use Rattle.core_syntax.specs.Positions.{OccurAmong}
use Rattle.core_syntax.specs.Stable.{entry_count, look_up}
use Rattle.core_types.specs.declared.type_env.TypeEnv.{TypeEnv}
use Rattle.core_types.specs.Envs.{names_of, same_symbol, symbol}
use Rattle.core_types.specs.Reading.{MeetsNames, EndsAt}
use Rattle.core_types.specs.Stages.{Sees}
use Rattle.core_types.specs.ToldErrors.{Notes}
use Rattle.core_types.proofs.ToldErrors.{noted_among}
use Rattle.model.proofs.ByNumber.{then_withs}
use Rattle.model.proofs.Names.{known_name, missing_before, with_names_append}

-- one name is met
pub meet_one : (x y : List ℕ) (old new : TypeEnv) → x ≡ y → names_of new ≡ with_name (names_of old) x → new.types ≡ old.types → new.type_map ≡ old.type_map → new.const_types ≡ old.const_types → new.errors ≡ old.errors → MeetsNames (y ∷ []) old new
meet_one x y old new same names types type_map const_types errors = grind (arith, common_steps)

-- a name that was met is met again
pub meet_known : (x : List ℕ) (old new : TypeEnv) → has_name (names_of old) x ≡ true → names_of new ≡ with_name (names_of old) x → new.types ≡ old.types → new.type_map ≡ old.type_map → new.const_types ≡ old.const_types → new.errors ≡ old.errors → MeetsNames [] old new
meet_known x old new there names types type_map const_types errors = grind (arith, common_steps, known_name (names_of old) x there)

pub meet_more : (xs ys : List (List ℕ)) (a b c : TypeEnv) → MeetsNames xs a b → MeetsNames ys b c → MeetsNames (xs ++ ys) a c
meet_more xs ys a b c m n = grind (arith, common_steps, with_names_append (names_of a) xs ys)

-- names are met, and the types stay known by their names
pub sees_after : (ts xs : List (List ℕ)) (old new : TypeEnv) → names_of new ≡ with_names (names_of old) xs → new.type_map ≡ old.type_map → new.const_types ≡ old.const_types → new.errors ≡ old.errors → Sees old ts → Sees new ts
sees_after ts xs old new names type_map const_types errors s = record {
  ids = grind (arith, common_steps, then_withs (names_of old) xs (λ y. place_from 0 y ts) s.known);
  known = λ y e. s.known y (missing_before (names_of old) xs y (subst (λ ns. has_name ns y ≡ false) names e));
  count = ap entry_count type_map ∙ s.count;
  constants = λ k. ap (λ m. option_map (λ t. t.0) (look_up same_symbol m (symbol k))) const_types ∙ s.constants k;
  errors = ap (λ v. v.items) errors ∙ s.errors;
}

pub sees_met : (ts xs : List (List ℕ)) (old new : TypeEnv) → MeetsNames xs old new → Sees old ts → Sees new ts
sees_met ts xs old new m s = sees_after ts xs old new m.names m.type_map m.const_types m.errors s

-- an error is noted, and nothing else changes
pub ends_here : (ps : List Position) (env : TypeEnv) (es es' : List Error) → Notes 1 ps es es' → EndsAt ps env es env es'
ends_here ps env es es' noted = grind (arith, common_steps)

-- the work on a part ends, and so does that on the whole
pub ends_inside : (ps qs : List Position) (old new : TypeEnv) (es mid es' : List Error) → mid ≡ es → OccurAmong ps qs → EndsAt ps old mid new es' → EndsAt qs old es new es'
ends_inside ps qs old new es mid es' same among e = grind (arith, common_steps, noted_among 1 ps qs mid es' among e.notes)
