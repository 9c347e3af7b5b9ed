-- Reading the constants, one definition after another.
use Rattle.std.proofs.Common.{◌≡◌, ℕ, ◌+◌, ◌<◌, length, take, drop, get_or, List, [], ◌∷◌, ◌++◌, false, cond, Some, None, is_some, map, All, refl, sym, ap, subst, ◌∙◌, inl, inr, arith}
use Rattle.std.proofs.lemmas.List.{append_assoc, append-nil, at_drop_more}
use Rattle.std.proofs.lemmas.List.Elements.{All-cons}
use Rattle.std.proofs.lemmas.Grind.{common_steps}
use Rattle.model.specs.lists.Syntax.{Name, Position, Definition, type_definition, declaration, extractor_definition, converter_definition, rule_definition, extern_definition, extern_constructor, extern_extractor, extern_const, other_definition}
use Rattle.model.specs.lists.Names.{number, has_name, with_names}
use Rattle.model.specs.lists.TypeTable.{ConstantTree, constant_trees, all_type_names, type_id, type_of_number, IsOfKnownType}
use Rattle.core_syntax.specs.declared.syntax.Def.{Def}
use Rattle.core_syntax.specs.declared.syntax.Error.{Error}
use Rattle.core_syntax.specs.SyntaxViews.{definition_view, definition_views}
use Rattle.laws_typing.proofs.TypeLaws.{type_names_distinct}
use Rattle.core_types.specs.declared.type_env.TypeEnv.{TypeEnv}
use Rattle.core_types.specs.ConstantReading.{TypesConstant, ReadsConstant, ReadsDefinition}
use Rattle.core_types.specs.Envs.{names_of, symbol_of, type_at, type_of_name, IsInterned}
use Rattle.core_types.specs.Stages.{constant_names, KnowsTypes, Filling, FillsTypes, LooksUpTypes, TypingConstants, ReadsConstants}
use Rattle.core_types.specs.ToldErrors.{NotesOf, NotesEach}
use Rattle.core_types.specs.TypeErrors.{TellsOfConstant}
use Rattle.core_types.specs.TypeViews.{type_views}
use Rattle.core_types.proofs.LastTypes.{last_read}
use Rattle.model.proofs.ByNumber.{by_text, then_with}
use Rattle.model.proofs.Names.{with_missing, number_stays}
use Rattle.core_types.proofs.KnownTypes.{placed_has, one_more_read}
use Rattle.core_types.proofs.ToldErrors.{some_told, noted_none, noted_more}
use Rattle.core_types.proofs.ReadingSteps.{reads_on, reads_wrong, reads_same}

-- the types that are found by their names stay, when a constant is read
module _ (defs : List Definition) (name ty : Name) (old new : TypeEnv) (t : TypesConstant name.text ty.text old new) where
  ids_after : ((k : ℕ) → type_at old k ≡ type_of_number defs (names_of old) k) → ((x : List ℕ) → has_name (names_of old) x ≡ false → type_id defs x ≡ None) → (k : ℕ) → type_at new k ≡ type_of_number defs (names_of new) k
  ids_after ids known k = grind (arith, common_steps, then_with (names_of old) name.text (type_id defs) (known name.text) k)

  known_after : ((x : List ℕ) → has_name (names_of old) x ≡ false → type_id defs x ≡ None) → (x : List ℕ) → has_name (names_of new) x ≡ false → type_id defs x ≡ None
  known_after known y e = known y (with_missing (names_of old) name.text y (subst (λ ns. has_name ns y ≡ false) t.names e)).0

module _ (defs rest : List Definition) (name ty : Name) (at : Position) (old : TypeEnv) (i : IsInterned old) (n : TypingConstants defs (extern_definition (extern_const name ty at) ∷ rest) old) where
  abbrev constant : ConstantTree
  constant = record { name = name; ty = ty }

  -- what is looked up is the type of the name
  type_is : type_of_name old ty.text ≡ type_id defs ty.text
  type_is = by_text (names_of old) (symbol_of old) i.numbered i.named (type_at old) (type_id defs) n.ids ty.text (n.known ty.text)

  pub constant_right : (new : TypeEnv) → TypesConstant name.text ty.text old new → TypingConstants defs rest new
  constant_right new t =
      let known : type_id defs ty.text ≡ Some t.id = sym type_is ∙ t.known in
      record {
        ids = ids_after defs name ty old new t n.ids n.known;
        known = known_after defs name ty old new t n.known;
        errors = ap (λ v. v.items) t.errors ∙ n.errors;
        distinct = n.distinct;
        names = ap (λ ns. with_names ns (constant_names rest)) t.names ∙ n.names;
        types = ap (λ v. type_views v.items) t.types ∙ n.types;
        right = n.right;
        read = n.read ++ constant ∷ [];
        whole = append_assoc n.read (constant ∷ []) (constant_trees rest) ∙ n.whole;
        constants = λ k. t.constants k ∙ ap (cond _ (Some t.id)) (n.constants k)
            ∙ last_read defs n.read constant (names_of old) (constant_names rest) t.id (type_names_distinct defs) n.names
            (ap (λ ns. number ns name.text) (sym n.names) ∙ number_stays (names_of old) (constant_names rest) name.text) known k;
        of_known = λ h. n.of_known (All-cons (IsOfKnownType defs) constant (constant_trees rest) (ap is_some known) h);
      }

-- the type of a constant is known exactly if it is found by its name
module _ (defs : List Definition) (name ty : Name) (at : Position) (old : TypeEnv) (i : IsInterned old) (k : LooksUpTypes defs old) where
  found_is : is_some (type_of_name old ty.text) ≡ is_some (type_id defs ty.text)
  found_is =
      ap is_some (by_text (names_of old) (symbol_of old) i.numbered i.named (type_at old) (type_id k.kept) k.ids ty.text (k.known ty.text))
      ∙ placed_has 0 (all_type_names k.kept) ty.text ∙ k.same ty.text ∙ sym (placed_has 0 (all_type_names defs) ty.text)

  -- what is told of it
  told_read : (before : List Definition) (new : TypeEnv) (es es' : List Error) → ReadsConstant name ty at old es new es' → NotesOf (TellsOfConstant defs) before (extern_definition (extern_const name ty at)) es es'
  told_read before new es es' h = grind (arith, common_steps, append-nil es, found_is)

  looks_up : (new : TypeEnv) → TypesConstant name.text ty.text old new → LooksUpTypes defs new
  looks_up new t = record { kept = k.kept; ids = ids_after k.kept name ty old new t k.ids k.known; known = known_after k.kept name ty old new t k.known; same = k.same }

-- after a definition of something else
step_other : (defs rest rest' : List Definition) (old new : TypeEnv) (es es' : List Error) → constant_trees rest' ≡ constant_trees rest → ReadsConstants defs rest old es → (es' ≡ es) × (new ≡ old) → ReadsConstants defs rest' new es'
step_other defs rest rest' old new es es' same s a =
    reads_same (LooksUpTypes defs) (LooksUpTypes defs) (TypingConstants defs rest) (TypingConstants defs rest') old new es es' a (λ k. k)
    (λ n. record {
      ids = n.ids;
      known = n.known;
      errors = n.errors;
      distinct = n.distinct;
      names = ap (λ cs. with_names (names_of old) (map (λ c. c.name.text) cs)) same ∙ n.names;
      types = n.types;
      right = n.right;
      read = n.read;
      whole = ap (λ cs. n.read ++ cs) same ∙ n.whole;
      constants = n.constants;
      of_known = λ h. n.of_known (subst (All (IsOfKnownType defs)) same h);
    }) s

step_constant : (defs rest : List Definition) (d : Definition) (old new : TypeEnv) (es es' : List Error) → IsInterned new → ReadsConstants defs (d ∷ rest) old es → ReadsDefinition d old es new es' → ReadsConstants defs rest new es'
step_constant defs rest (type_definition t) old new es es' i s a = step_other defs (type_definition t ∷ rest) rest old new es es' refl s a
step_constant defs rest (declaration d) old new es es' i s a = step_other defs (declaration d ∷ rest) rest old new es es' refl s a
step_constant defs rest (extractor_definition d) old new es es' i s a = step_other defs (extractor_definition d ∷ rest) rest old new es es' refl s a
step_constant defs rest (converter_definition d) old new es es' i s a = step_other defs (converter_definition d ∷ rest) rest old new es es' refl s a
step_constant defs rest (rule_definition d) old new es es' i s a = step_other defs (rule_definition d ∷ rest) rest old new es es' refl s a
step_constant defs rest (extern_definition (extern_constructor term function at)) old new es es' i s a = step_other defs (extern_definition (extern_constructor term function at) ∷ rest) rest old new es es' refl s a
step_constant defs rest (extern_definition (extern_extractor term function at infallible)) old new es es' i s a = step_other defs (extern_definition (extern_extractor term function at infallible) ∷ rest) rest old new es es' refl s a
step_constant defs rest (extern_definition (extern_const name ty at)) old new es es' i s (inl a) =
    reads_on (LooksUpTypes defs) (LooksUpTypes defs) (TypingConstants defs (extern_definition (extern_const name ty at) ∷ rest)) (TypingConstants defs rest) old new es es' i
    (λ k. looks_up defs name ty at old s.inverse k new a.1) a.0 (λ n. constant_right defs rest name ty at old s.inverse n new a.1) s
step_constant defs rest (extern_definition (extern_const name ty at)) old new es es' i s (inr a) =
    reads_wrong (LooksUpTypes defs) (LooksUpTypes defs) (TypingConstants defs (extern_definition (extern_const name ty at) ∷ rest)) (TypingConstants defs rest) old new es es' i
    (λ k. subst (LooksUpTypes defs) (sym a.1) k) (some_told 0 (at ∷ []) es es' a.0) s
step_constant defs rest other_definition old new es es' i s a = step_other defs (other_definition ∷ rest) rest old new es es' refl s a

-- and what is told of it
told_constant : (defs before : List Definition) (d : Definition) (old new : TypeEnv) (es es' : List Error) → IsInterned old → LooksUpTypes defs old → ReadsDefinition d old es new es' → NotesOf (TellsOfConstant defs) before d es es'
told_constant defs before (extern_definition (extern_const name ty at)) old new es es' i k a = told_read defs name ty at old i k before new es es' a
told_constant defs before _ old new es es' i k a = record { more = []; added = a.0 ∙ sym (append-nil es); says = refl }

-- the constants of the definitions before a place were read, with the errors that are told of them
pub record ConstantsUpTo (defs : List Def) (i : ℕ) (start : List Error) (env : TypeEnv) (es : List Error) : Type 0 where
  pub read : ReadsConstants (definition_views defs) (definition_views (drop i defs)) env es
  pub told : NotesEach (TellsOfConstant (definition_views defs)) (definition_views (take i defs)) start es

-- after the definition at i
pub next_constant : (defs : List Def) (i : ℕ) (d : Def) → i < length defs → d ≡ get_or defs i d → (old new : TypeEnv) (start es es' : List Error) → IsInterned new → ConstantsUpTo defs i start old es → ReadsDefinition (definition_view d) old es new es' → ConstantsUpTo defs (i + 1) start new es'
next_constant defs i d within at old new start es es' inverse s a =
    let all = definition_views defs in
    let before = definition_views (take i defs) in
    let rest = definition_views (drop (i + 1) defs) in
    let left : definition_views (drop i defs) ≡ definition_view d ∷ rest = at_drop_more definition_views defs i d within ∙ ap (λ x. definition_view x ∷ rest) (sym at) in
    let read = subst (λ ds. ReadsConstants all ds old es) left s.read in
    record {
      read = step_constant all rest (definition_view d) old new es es' inverse read a;
      told = subst (λ ds. NotesEach (TellsOfConstant all) ds start es') (one_more_read defs i d within at)
          (noted_more (TellsOfConstant all) before (definition_view d) start es es' s.told (told_constant all before (definition_view d) old new es es' read.inverse read.knows a));
    }

start : (defs : List Definition) (env : TypeEnv) → Filling defs [] env → TypingConstants defs defs env
start defs env n = grind (arith, common_steps, append-nil (type_views env.types.items))

-- before the first definition
pub first_constant : (defs : List Def) (env : TypeEnv) (es : List Error) → FillsTypes (definition_views defs) [] env es → ConstantsUpTo defs 0 es env es
first_constant defs env es s =
    let all = definition_views defs in
    record {
      read = reads_on (KnowsTypes all) (LooksUpTypes all) (Filling all []) (TypingConstants all all) env env es es s.inverse
          (λ k. record { kept = k.kept; ids = k.sees.ids; known = k.sees.known; same = k.same }) refl (start all env) s;
      told = noted_none (TellsOfConstant all) es;
    }
