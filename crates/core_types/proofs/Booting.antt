-- Adding the built-in types, one after another.
use Rattle.std.proofs.Common.{◌≡◌, ℕ, ◌+◌, ◌<◌, false, cond, List, [], ◌∷◌, ◌++◌, length, drop, get_or, map, sym, ap, subst, ◌∙◌, inl, inr, refl, arith}
use Rattle.std.proofs.lemmas.List.{append_assoc, append-nil, at_drop_more}
use Rattle.std.proofs.lemmas.Grind.{common_steps}
use Rattle.model.specs.lists.Names.{has_name}
use Rattle.model.specs.lists.Tables.{builtin_type}
use Rattle.model.specs.lists.TypeTable.{builtin_names}
use Rattle.core_syntax.specs.Stable.{entry_count}
use Rattle.core_types.specs.declared.builtin.BuiltinType.{BuiltinType}
use Rattle.core_types.specs.declared.type_env.TypeEnv.{TypeEnv}
use Rattle.core_types.specs.Builtin.{builtin_name, builtin_place}
use Rattle.core_types.specs.Envs.{names_of, IsInterned}
use Rattle.core_types.specs.Reading.{AddsBuiltin}
use Rattle.core_types.specs.Stages.{Sees, Booting}
use Rattle.core_types.specs.TypeTables.{SeesTypes}
use Rattle.core_types.specs.TypeViews.{type_views}
use Rattle.core_types.proofs.EnvironmentSteps.{type_of_text, was_free, sees_type}
use Rattle.model.proofs.Names.{distinct_if}
use Rattle.model.proofs.FirstPlaces.{place_missing, twice}

step_boot : (b : BuiltinType) (rest : List BuiltinType) (old new : TypeEnv) → IsInterned new → Booting old (b ∷ rest) → AddsBuiltin b old new → Booting new rest
step_boot b rest old new i s (inl a) =
    let free = was_free old (names_of old) s.sees new (builtin_name b) a.0 i in
    let missing : has_name (names_of old) (builtin_name b) ≡ false = place_missing 0 (names_of old) (builtin_name b) free in
    let names : names_of new ≡ names_of old ++ builtin_name b ∷ [] = a.0.names ∙ ap (λ h. cond h (names_of old) (names_of old ++ builtin_name b ∷ [])) missing in
    record {
      inverse = i;
      sees = subst (Sees new) (sym names) (sees_type old (names_of old) s.sees new (builtin_name b) a.0 i);
      whole = ap (λ ns. ns ++ map builtin_name rest) names ∙ append_assoc (names_of old) (builtin_name b ∷ []) (map builtin_name rest) ∙ s.whole;
      types = ap (λ es. es ++ map (λ c. builtin_type (builtin_place c)) rest) a.1 ∙ append_assoc (type_views old.types.items) (builtin_type (builtin_place b) ∷ []) (map (λ c. builtin_type (builtin_place c)) rest) ∙ s.types;
    }
step_boot b rest old new i s (inr a) =
    absurd (twice (names_of old) (map builtin_name rest) builtin_names (builtin_name b) a.id (distinct_if builtin_names refl) s.whole (sym (type_of_text old (names_of old) s.sees (builtin_name b)) ∙ a.taken))

-- after the built-in type at k
pub next_boot : (all : List BuiltinType) (k : ℕ) (d : BuiltinType) → k < length all → (old new : TypeEnv) → IsInterned new → Booting old (drop k all) → AddsBuiltin (get_or all k d) old new → Booting new (drop (k + 1) all)
next_boot all k d within old new i s a =
    step_boot (get_or all k d) (drop (k + 1) all) old new i (subst (Booting old) (at_drop_more (λ l. l) all k d within) s) a

module _ (env : TypeEnv) (s : Booting env []) where
  all_names : names_of env ≡ builtin_names
  all_names = sym (append-nil (names_of env)) ∙ s.whole

  pub booted : SeesTypes env [] builtin_names
  booted = grind (arith, common_steps, all_names, append-nil (type_views env.types.items))

  pub booted_count : entry_count env.type_map ≡ 13
  booted_count = s.sees.count ∙ ap length all_names
