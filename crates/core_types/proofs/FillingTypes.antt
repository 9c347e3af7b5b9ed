-- Reading what the types are, one definition after another.
use Rattle.std.proofs.Common.{◌≡◌, ℕ, ◌+◌, ◌<◌, List, [], ◌∷◌, ◌++◌, length, take, drop, get_or, All, Contains, IsTrue, refl, sym, ap, subst, ◌∙◌, inl, inr, arith}
use Rattle.std.specs.List.{flat_map}
use Rattle.std.proofs.lemmas.List.{append_assoc, append-nil, at_drop_more, length_push, length-map, map_push}
use Rattle.std.proofs.lemmas.List.Elements.{All-nil, All-cons, All-head}
use Rattle.std.proofs.lemmas.Grind.{common_steps}
use Rattle.model.specs.lists.Syntax.{TypeTree, Definition, type_definition, declaration, extractor_definition, converter_definition, rule_definition, extern_definition, other_definition}
use Rattle.model.specs.lists.Names.{has_name, with_names, IsDistinct}
use Rattle.model.specs.lists.Tables.{TypeEntry}
use Rattle.model.specs.lists.TypeTable.{builtin_names, type_trees, type_names, all_type_names, names_inside, type_names_met, type_entry, type_table}
use Rattle.core_syntax.specs.declared.syntax.Def.{Def}
use Rattle.core_syntax.specs.declared.syntax.Error.{Error}
use Rattle.core_syntax.specs.SyntaxViews.{definition_view, definition_views}
use Rattle.core_types.specs.declared.type_env.TypeEnv.{TypeEnv}
use Rattle.core_types.specs.declared.types.Type as T
use Rattle.core_types.specs.Envs.{names_of, IsInterned}
use Rattle.core_syntax.specs.Positions.{type_positions}
use Rattle.core_types.specs.Reading.{MeetsNames, IsRightType}
use Rattle.core_types.specs.Promises.{DefinitionIsFilled}
use Rattle.core_types.specs.Stages.{Sees, KnowsTypes, Naming, NamesTypes, names_in_types, constant_names, entries_from, AreMet, Filling, FillsTypes}
use Rattle.core_types.specs.ToldErrors.{NotesOf, NotesEach}
use Rattle.core_types.specs.TypeErrors.{TellsOfType}
use Rattle.core_types.specs.TypeViews.{type_view, type_views}
use Rattle.core_types.specs.VariantReading.{FillsType, FillsDefinition}
use Rattle.core_types.proofs.EntriesStay.{AllMet, met_more, met_self, type_stays}
use Rattle.core_types.proofs.NamesMet.{sees_after}
use Rattle.core_types.proofs.KnownTypes.{right_same, type_named, known_met, knows_met, one_more_read}
use Rattle.model.proofs.Members.{in_map}
use Rattle.model.proofs.Names.{with_names_append}
use Rattle.core_types.proofs.ReadingSteps.{reads_on, reads_wrong, reads_same}
use Rattle.core_types.proofs.ToldErrors.{some_told, not_same, noted_none, noted_more}

-- one more entry, where what follows depends on how many there are
push_entry : (es es' : List TypeEntry) (p q : TypeEntry) (G : ℕ → List TypeEntry) (whole : List TypeEntry) → es' ≡ es ++ p ∷ [] → p ≡ q → es ++ (q ∷ G (length es + 1)) ≡ whole → es' ++ G (length es') ≡ whole
push_entry es es' p q G whole more same is = grind (arith, common_steps, length_push es p, append_assoc es (p ∷ []) (G (length es + 1)))

-- a type that was read is pushed as the next one
pub type_pushed : (defs : List Definition) (t : TypeTree) (id : ℕ) (read : T.Type) (old mid new : TypeEnv) → IsRightType defs t → MeetsNames (names_inside t.name.text t.value) old mid → type_view read ≡ type_entry defs (names_of mid) id t → id ≡ length old.types.items → names_of new ≡ names_of mid → new.type_map ≡ mid.type_map → new.const_types ≡ mid.const_types → new.errors ≡ mid.errors → new.types.items ≡ mid.types.items ++ read ∷ [] → FillsType defs t old new
type_pushed defs t id read old mid new right met entry place names type_map const_types errors pushed = record {
  right = right;
  names = names ∙ met.names;
  type_map = type_map ∙ met.type_map;
  const_types = const_types ∙ met.const_types;
  errors = errors ∙ met.errors;
  types = grind (arith, common_steps, map_push type_view mid.types.items read);
}

module _ (defs rest : List Definition) (t : TypeTree) (old : TypeEnv) (n : Filling defs (type_definition t ∷ rest) old) where
  module _ (own : IsTrue (has_name (names_of old) t.name.text)) (new : TypeEnv) (f : FillsType defs t old new) where
    abbrev inside : List (List ℕ)
    inside = names_inside t.name.text t.value

    abbrev left_over : List (List ℕ)
    left_over = names_in_types rest ++ constant_names defs

    names_left : with_names (names_of new) left_over ≡ type_names_met defs
    names_left = grind (arith, common_steps, with_names_append (names_of old) inside left_over, append_assoc inside (names_in_types rest) (constant_names defs))

    own_later : AllMet (names_of new) (t.name.text ∷ [])
    own_later = grind (arith, common_steps, met_more (names_of old) inside (t.name.text ∷ []))

    inside_later : AllMet (names_of new) inside
    inside_later = subst (λ ns. AllMet ns inside) (sym f.names) (met_self (names_of old) inside)

    same_entry : type_entry defs (names_of new) (length old.types.items) t ≡ type_entry defs (type_names_met defs) (length (type_views old.types.items)) t
    same_entry =
        ap (λ k. type_entry defs (names_of new) k t) (sym (length-map old.types.items type_view))
        ∙ type_stays defs (names_of new) left_over (length (type_views old.types.items)) t (All-head (λ x. IsTrue (has_name (names_of new) x)) t.name.text [] own_later) inside_later
        ∙ ap (λ ns. type_entry defs ns (length (type_views old.types.items)) t) names_left

    pub fill_right : Filling defs rest new
    fill_right = record {
      sees = sees_after (all_type_names defs) inside old new f.names f.type_map f.const_types f.errors n.sees;
      distinct = n.distinct;
      names = names_left;
      types = push_entry (type_views old.types.items) (type_views new.types.items) _ _ (λ k. entries_from defs k (type_trees rest)) (type_table defs) f.types same_entry n.types;
      right = λ h. n.right (All-cons (IsRightType defs) t (type_trees rest) f.right h);
    }

-- after a definition that isn't one of a type
fill_other : (defs rest rest' : List Definition) (env : TypeEnv) → type_trees rest' ≡ type_trees rest → Filling defs rest env → Filling defs rest' env
fill_other defs rest rest' env same n = record {
  sees = n.sees;
  distinct = n.distinct;
  names = ap (λ ts. with_names (names_of env) (flat_map (λ t. names_inside t.name.text t.value) ts ++ constant_names defs)) same ∙ n.names;
  types = ap (λ ts. type_views env.types.items ++ entries_from defs (length (type_views env.types.items)) ts) same ∙ n.types;
  right = λ h. n.right (subst (All (IsRightType defs)) same h);
}

-- after a definition that isn't one of a type
step_other : (defs rest : List Definition) (d : Definition) (old new : TypeEnv) (es es' : List Error) → type_trees rest ≡ type_trees (d ∷ rest) → FillsTypes defs (d ∷ rest) old es → (es' ≡ es) × (new ≡ old) → FillsTypes defs rest new es'
step_other defs rest d old new es es' same s a =
    reads_same (KnowsTypes defs) (KnowsTypes defs) (Filling defs (d ∷ rest)) (Filling defs rest) old new es es' a (λ k. k) (fill_other defs (d ∷ rest) rest old same) s

-- where nothing is noted, the type becomes an entry
filled : (defs : List Definition) (t : TypeTree) (old new : TypeEnv) (es es' : List Error) → es' ≡ es → FillsDefinition defs (type_definition t) old es new es' → FillsType defs t old new
filled defs t old new es es' same (inl a) = a.1
filled defs t old new es es' same (inr a) = absurd (not_same 0 (type_positions t) es es' a.0.notes same)

none_met : (env : TypeEnv) → AreMet env []
none_met env = All-nil (λ x. IsTrue (has_name (names_of env) x))

-- the name of a type was met
type_met : (defs : List Definition) (t : TypeTree) → Contains defs (type_definition t) → (env : TypeEnv) → KnowsTypes defs env → AreMet env (t.name.text ∷ [])
type_met defs t here env k = grind (arith, common_steps, known_met defs env k t.name.text (type_named defs t here), type_named defs t here, none_met env)

-- after one of a type
step_type : (defs rest : List Definition) (t : TypeTree) (old new : TypeEnv) (es es' : List Error) → IsInterned new → FillsTypes defs (type_definition t ∷ rest) old es → AreMet old (t.name.text ∷ []) → ((kept : List Definition) → Sees old (all_type_names kept) → FillsDefinition kept (type_definition t) old es new es') → FillsTypes defs rest new es'
step_type defs rest t old new es es' i s own step =
    elim (step s.knows.kept s.knows.sees) [
      | inl a ↦ reads_on (KnowsTypes defs) (KnowsTypes defs) (Filling defs (type_definition t ∷ rest)) (Filling defs rest) old new es es' i
          (λ k. record { kept = k.kept; sees = sees_after (all_type_names k.kept) (names_inside t.name.text t.value) old new a.1.names a.1.type_map a.1.const_types a.1.errors k.sees; same = k.same })
          a.0 (λ n. fill_right defs rest t old n (All-head (λ x. IsTrue (has_name (names_of old) x)) t.name.text [] own) new (filled defs t old new es es' a.0 (step defs n.sees))) s
      | inr a ↦ reads_wrong (KnowsTypes defs) (KnowsTypes defs) (Filling defs (type_definition t ∷ rest)) (Filling defs rest) old new es es' i
          (λ k. knows_met defs a.0.met old new a.0.meets k) (some_told 0 (type_positions t) es es' a.0.notes) s
    ]

-- after any definition
step_fill : (defs rest : List Definition) (d : Definition) → Contains defs d → (old new : TypeEnv) (es es' : List Error) → IsInterned new → FillsTypes defs (d ∷ rest) old es → DefinitionIsFilled d old es new es' → FillsTypes defs rest new es'
step_fill defs rest (type_definition t) here old new es es' i s step =
    let own = type_met defs t here old s.knows in
    step_type defs rest t old new es es' i s own (λ kept sees. step kept sees own)
step_fill defs rest (declaration d) here old new es es' i s step = step_other defs rest (declaration d) old new es es' refl s (step s.knows.kept s.knows.sees (none_met old))
step_fill defs rest (extractor_definition d) here old new es es' i s step = step_other defs rest (extractor_definition d) old new es es' refl s (step s.knows.kept s.knows.sees (none_met old))
step_fill defs rest (converter_definition d) here old new es es' i s step = step_other defs rest (converter_definition d) old new es es' refl s (step s.knows.kept s.knows.sees (none_met old))
step_fill defs rest (rule_definition d) here old new es es' i s step = step_other defs rest (rule_definition d) old new es es' refl s (step s.knows.kept s.knows.sees (none_met old))
step_fill defs rest (extern_definition d) here old new es es' i s step = step_other defs rest (extern_definition d) old new es es' refl s (step s.knows.kept s.knows.sees (none_met old))
step_fill defs rest other_definition here old new es es' i s step = step_other defs rest other_definition old new es es' refl s (step s.knows.kept s.knows.sees (none_met old))

-- what is told of a type
told_filled : (defs before : List Definition) (t : TypeTree) (old new : TypeEnv) (es es' : List Error) → (k : KnowsTypes defs old) → FillsDefinition k.kept (type_definition t) old es new es' → NotesOf (TellsOfType defs) before (type_definition t) es es'
told_filled defs before t old new es es' k (inl a) = grind (arith, common_steps, append-nil es, right_same k.kept defs k.same t a.1.right)
told_filled defs before t old new es es' k (inr a) = grind (arith, common_steps, right_same defs k.kept (λ x. sym (k.same x)) t)

-- and of any definition
pub told_fill : (defs before : List Definition) (d : Definition) → Contains defs d → (old new : TypeEnv) (es es' : List Error) → KnowsTypes defs old → DefinitionIsFilled d old es new es' → NotesOf (TellsOfType defs) before d es es'
told_fill defs before (type_definition t) here old new es es' k step = told_filled defs before t old new es es' k (step k.kept k.sees (type_met defs t here old k))
told_fill defs before _ here old new es es' k step = record { more = []; added = (step k.kept k.sees (none_met old)).0 ∙ sym (append-nil es); says = refl }

-- the types of the definitions before a place were read, with the errors that are told of them
pub record FillsUpTo (defs : List Def) (i : ℕ) (start : List Error) (env : TypeEnv) (es : List Error) : Type 0 where
  pub filled : FillsTypes (definition_views defs) (definition_views (drop i defs)) env es
  pub told : NotesEach (TellsOfType (definition_views defs)) (definition_views (take i defs)) start es

-- after the definition at i
pub next_type : (defs : List Def) (i : ℕ) (d : Def) → i < length defs → d ≡ get_or defs i d → (old new : TypeEnv) (start es es' : List Error) → IsInterned new → FillsUpTo defs i start old es → DefinitionIsFilled (definition_view d) old es new es' → FillsUpTo defs (i + 1) start new es'
next_type defs i d within at old new start es es' inverse s step =
    let all = definition_views defs in
    let before = definition_views (take i defs) in
    let rest = definition_views (drop (i + 1) defs) in
    let left : definition_views (drop i defs) ≡ definition_view d ∷ rest = at_drop_more definition_views defs i d within ∙ ap (λ x. definition_view x ∷ rest) (sym at) in
    let here : Contains all (definition_view d) = in_map definition_view defs d (i, within, sym at) in
    let filled = subst (λ ds. FillsTypes all ds old es) left s.filled in
    record {
      filled = step_fill all rest (definition_view d) here old new es es' inverse filled step;
      told = subst (λ ds. NotesEach (TellsOfType all) ds start es') (one_more_read defs i d within at)
          (noted_more (TellsOfType all) before (definition_view d) start es es' s.told (told_fill all before (definition_view d) here old new es es' filled.knows step));
    }

start : (defs : List Definition) (env : TypeEnv) → Naming defs [] env → Filling defs defs env
start defs env n =
    let all : n.named ≡ all_type_names defs = sym (append-nil n.named) ∙ n.whole in
    record {
      sees = subst (Sees env) all n.sees;
      distinct = subst IsDistinct all n.distinct;
      names = ap (λ ns. with_names ns (names_in_types defs ++ constant_names defs)) n.names
          ∙ sym (with_names_append builtin_names (type_names defs) (names_in_types defs ++ constant_names defs))
          ∙ ap (with_names builtin_names) (sym (append_assoc (type_names defs) (names_in_types defs) (constant_names defs)));
      types = ap (λ es. es ++ entries_from defs (length es) (type_trees defs)) n.types;
      right = λ h. h;
    }

-- before the first definition
pub first_type : (defs : List Def) (env : TypeEnv) (es : List Error) → NamesTypes (definition_views defs) (definition_views defs) [] env es → FillsUpTo defs 0 es env es
first_type defs env es s = record {
  filled = reads_on (KnowsTypes (definition_views defs)) (KnowsTypes (definition_views defs)) (Naming (definition_views defs) []) (Filling (definition_views defs) (definition_views defs)) env env es es s.inverse (λ k. k) refl (start (definition_views defs) env) s;
  told = noted_none (TellsOfType (definition_views defs)) es;
}
