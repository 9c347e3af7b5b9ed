-- Reading the names of the types, one definition after another.
use Rattle.std.proofs.Common.{◌≡◌, ◌≢◌, ℕ, ◌+◌, ◌<◌, ◌||◌, Bool, cond, length, drop, get_or, take, List, [], ◌∷◌, ◌++◌, true, false, refl, sym, ap, subst, ◌∙◌, inl, inr, arith}
use Rattle.std.proofs.lemmas.List.{append_assoc, append-nil, at_drop_more}
use Rattle.std.proofs.lemmas.List.Elements.{All-nil}
use Rattle.std.proofs.lemmas.Grind.{common_steps}
use Rattle.model.specs.lists.Syntax.{Position, TypeTree, Definition, type_definition, declaration, extractor_definition, converter_definition, rule_definition, extern_definition, other_definition}
use Rattle.model.specs.lists.Names.{has_name, with_names, AreNumbersOf}
use Rattle.model.specs.lists.TypeTable.{builtin_names, type_names, all_type_names}
use Rattle.core_syntax.specs.declared.syntax.Def.{Def}
use Rattle.core_syntax.specs.declared.syntax.Error.{Error}
use Rattle.core_syntax.specs.SyntaxViews.{definition_view, definition_views}
use Rattle.core_syntax.specs.Stable.{entry_count}
use Rattle.core_types.specs.declared.type_env.TypeEnv.{TypeEnv}
use Rattle.core_types.specs.Envs.{names_of, symbol_of, IsInterned}
use Rattle.core_types.specs.Reading.{NamesType, NotesTaken, RefusesName, NamesDefinition}
use Rattle.core_types.specs.Stages.{Sees, KnowsTypes, Naming, NamesTypes}
use Rattle.core_types.specs.ToldErrors.{IsToldAt, NotesOf, NotesEach}
use Rattle.core_types.specs.TypeErrors.{TellsOfName}
use Rattle.core_types.specs.TypeTables.{SeesTypes}
use Rattle.core_types.specs.TypeViews.{type_views}
use Rattle.core_types.proofs.EnvironmentSteps.{was_free, sees_type}
use Rattle.model.proofs.Names.{distinct_if, has_append}
use Rattle.model.proofs.FirstPlaces.{distinct_push, place_absent, place_missing}
use Rattle.core_types.proofs.KnownTypes.{place_within, knows_other, knows_more, knows_taken, taken_place, taken_has, one_more_read}
use Rattle.core_types.proofs.ToldErrors.{some_told, noted_more}
use Rattle.core_types.proofs.ReadingSteps.{reads_on, reads_wrong, reads_same}

module _ (defs rest : List Definition) (t : TypeTree) (old : TypeEnv) (n : Naming defs (type_definition t ∷ rest) old) where
  pub name_right : (new : TypeEnv) → IsInterned new → NamesType t.name.text old new → new.types ≡ old.types → Naming defs rest new
  name_right new i a types = record {
    named = n.named ++ t.name.text ∷ [];
    sees = sees_type old n.named n.sees new t.name.text a i;
    distinct = distinct_push n.named t.name.text n.distinct (was_free old n.named n.sees new t.name.text a i);
    whole = append_assoc n.named (t.name.text ∷ []) (type_names rest) ∙ n.whole;
    names = ap (λ ns. with_names ns (type_names rest)) a.names ∙ n.names;
    types = ap (λ v. type_views v.items) types ∙ n.types;
  }

-- how often a name is told of that is a built-in type's, or another's
abbrev times : Bool → Bool → ℕ
times a b = cond a 2 (cond b 1 0)

-- what is told of a name
module _ (before : List Definition) (t : TypeTree) (old new : TypeEnv) (k : KnowsTypes before old) (es es' : List Error) where
  free_told : es' ≡ es → NamesType t.name.text old new → IsInterned new → NotesOf TellsOfName before (type_definition t) es es'
  free_told same n i =
      let x = t.name.text in
      let free = was_free old (all_type_names k.kept) k.sees new x n i in
      let missing : has_name builtin_names x || has_name (type_names before) x ≡ false =
      sym (has_append builtin_names (type_names before) x) ∙ sym (k.same x) ∙ place_missing 0 (all_type_names k.kept) x free in
      record {
        more = [];
        added = same ∙ sym (append-nil es);
        says = record { many = sym (none_taken (has_name builtin_names x) (has_name (type_names before) x) missing); each = All-nil (IsToldAt (t.at ∷ [])) };
      }
    where
      none_taken : (a b : Bool) → a || b ≡ false → times a b ≡ 0
      none_taken a b e = grind (arith, common_steps)

  taken_told : RefusesName t.name.text t.at old es new es' → NotesOf TellsOfName before (type_definition t) es es'
  taken_told r =
      let x = t.name.text in
      let there = taken_has before t old new k r.id r.taken in
      let either : has_name builtin_names x || has_name (type_names before) x ≡ true = sym (has_append builtin_names (type_names before) x) ∙ there in
      elim (place_within 0 builtin_names (type_names k.kept) x r.id (taken_place before t old new k r.id r.taken)) [
        | inl built_in ↦ grind (arith, common_steps)
        | inr other ↦ grind (arith, common_steps)
      ]

-- there is an error where a name is taken
taken_some : (at : Position) (id : ℕ) (es es' : List Error) → NotesTaken id at es es' → es' ≢ []
taken_some at id es es' (inl two) = some_told 1 (at ∷ []) es es' two.1
taken_some at id es es' (inr one) = some_told 0 (at ∷ []) es es' one.1

-- after a definition of something else
step_other : (defs before rest : List Definition) (d : Definition) → type_names (d ∷ []) ≡ [] → type_names rest ≡ type_names (d ∷ rest) → (old new : TypeEnv) (es es' : List Error) → NamesTypes defs before (d ∷ rest) old es → (es' ≡ es) × (new ≡ old) → NamesTypes defs (before ++ d ∷ []) rest new es'
step_other defs before rest d none same old new es es' s a =
    reads_same (KnowsTypes before) (KnowsTypes (before ++ d ∷ [])) (Naming defs (d ∷ rest)) (Naming defs rest) old new es es' a (knows_other before d old none)
    (λ n. record {
      named = n.named;
      sees = n.sees;
      distinct = n.distinct;
      whole = ap (λ xs. n.named ++ xs) same ∙ n.whole;
      names = ap (λ xs. with_names (names_of old) xs) same ∙ n.names;
      types = n.types;
    }) s

pub step_name : (defs before rest : List Definition) (d : Definition) (old new : TypeEnv) (es es' : List Error) → IsInterned new → NamesTypes defs before (d ∷ rest) old es → NamesDefinition d old es new es' → NamesTypes defs (before ++ d ∷ []) rest new es'
step_name defs before rest (type_definition t) old new es es' i s (inl a) =
    reads_on (KnowsTypes before) (KnowsTypes (before ++ type_definition t ∷ [])) (Naming defs (type_definition t ∷ rest)) (Naming defs rest) old new es es' i
    (λ k. knows_more before t old new k i a.1) a.0 (λ n. name_right defs rest t old n new i a.1 a.2) s
step_name defs before rest (type_definition t) old new es es' i s (inr a) =
    reads_wrong (KnowsTypes before) (KnowsTypes (before ++ type_definition t ∷ [])) (Naming defs (type_definition t ∷ rest)) (Naming defs rest) old new es es' i
    (λ k. knows_taken before t old new k a.id a.taken a.meets) (taken_some t.at a.id es es' a.notes) s
step_name defs before rest (declaration d) old new es es' i s a = step_other defs before rest (declaration d) refl refl old new es es' s a
step_name defs before rest (extractor_definition d) old new es es' i s a = step_other defs before rest (extractor_definition d) refl refl old new es es' s a
step_name defs before rest (converter_definition d) old new es es' i s a = step_other defs before rest (converter_definition d) refl refl old new es es' s a
step_name defs before rest (rule_definition d) old new es es' i s a = step_other defs before rest (rule_definition d) refl refl old new es es' s a
step_name defs before rest (extern_definition d) old new es es' i s a = step_other defs before rest (extern_definition d) refl refl old new es es' s a
step_name defs before rest other_definition old new es es' i s a = step_other defs before rest other_definition refl refl old new es es' s a

-- and what is told of it
pub told_name : (before : List Definition) (d : Definition) (old new : TypeEnv) (es es' : List Error) → IsInterned new → KnowsTypes before old → NamesDefinition d old es new es' → NotesOf TellsOfName before d es es'
told_name before (type_definition t) old new es es' i k (inl a) = free_told before t old new k es es' a.0 a.1 i
told_name before (type_definition t) old new es es' i k (inr a) = taken_told before t old new k es es' a
told_name before _ old new es es' i k a = record { more = []; added = a.0 ∙ sym (append-nil es); says = refl }

-- the names of types of the definitions before a place were read, with the errors that are told of them
pub record NamesUpTo (defs : List Def) (i : ℕ) (start : List Error) (env : TypeEnv) (es : List Error) : Type 0 where
  pub named : NamesTypes (definition_views defs) (definition_views (take i defs)) (definition_views (drop i defs)) env es
  pub told : NotesEach TellsOfName (definition_views (take i defs)) start es

-- after the definition at i
pub next_name : (defs : List Def) (i : ℕ) (d : Def) → i < length defs → d ≡ get_or defs i d → (old new : TypeEnv) (start es es' : List Error) → IsInterned new → NamesUpTo defs i start old es → NamesDefinition (definition_view d) old es new es' → NamesUpTo defs (i + 1) start new es'
next_name defs i d within at old new start es es' inverse s a =
    let before = definition_views (take i defs) in
    let rest = definition_views (drop (i + 1) defs) in
    let left : definition_views (drop i defs) ≡ definition_view d ∷ rest = at_drop_more definition_views defs i d within ∙ ap (λ x. definition_view x ∷ rest) (sym at) in
    let done : before ++ definition_view d ∷ [] ≡ definition_views (take (i + 1) defs) = one_more_read defs i d within at in
    let named = subst (λ ds. NamesTypes (definition_views defs) before ds old es) left s.named in
    record {
      named = subst (λ ds. NamesTypes (definition_views defs) ds rest new es') done (step_name (definition_views defs) before rest (definition_view d) old new es es' inverse named a);
      told = subst (λ ds. NotesEach TellsOfName ds start es') done (noted_more TellsOfName before (definition_view d) start es es' s.told (told_name before (definition_view d) old new es es' inverse named.knows a));
    }

sees_first : (env : TypeEnv) → SeesTypes env [] builtin_names → entry_count env.type_map ≡ 13 → Sees env builtin_names
sees_first env s count = grind (arith, common_steps, place_absent 0 builtin_names)

-- before the first definition
pub first_name : (defs : List Definition) (env : TypeEnv) (es : List Error) → SeesTypes env [] builtin_names → entry_count env.type_map ≡ 13 → es ≡ [] → NamesTypes defs [] defs env es
first_name defs env es s count none = record {
  inverse = subst (λ ns. AreNumbersOf ns (symbol_of env)) (sym s.names) s.inverse;
  knows = record { kept = []; sees = sees_first env s count; same = λ x. refl };
  right = grind (arith, common_steps, sees_first env s count, distinct_if builtin_names refl);
}
