-- Reading the fields of a list, one after another.
use Rattle.std.proofs.Common.{◌≡◌, ℕ, ◌+◌, ◌<◌, ◌≤◌, true, false, List, [], ◌∷◌, ◌++◌, length, map, drop, get_or, Some, None, All, unwrap_or, refl, sym, ap, subst, ◌∙◌, arith, ⊎_elim}
use Rattle.std.specs.List.{flat_map, enumerate_from}
use Rattle.std.specs.Option.{is_some}
use Rattle.std.proofs.lemmas.Bool.{false≢true}
use Rattle.std.proofs.lemmas.List.{append_assoc, append-nil, map-append, length_push, at_drop_more, at_drop_all}
use Rattle.std.proofs.lemmas.List.Elements.{All-nil, All-push, All-head, All-tail}
use Rattle.std.proofs.lemmas.Grind.{common_steps}
use Rattle.model.specs.lists.Syntax.{Name, FieldTree, TupleFieldTree, struct_fields, tuple_fields, Definition}
use Rattle.model.specs.lists.Names.{number, with_name, with_names, IsDistinct}
use Rattle.model.specs.lists.Tables.{FieldEntry, TupleFieldEntry, struct_entries, tuple_entries}
use Rattle.model.specs.lists.TypeTable.{field_names, all_type_names, place_from, IsKnownType, type_or_first, field_entry, tuple_field_entry}
use Rattle.core_syntax.specs.declared.syntax.Error.{Error}
use Rattle.core_syntax.specs.declared.syntax.StructField as S
use Rattle.core_syntax.specs.declared.syntax.TupleField as U
use Rattle.core_syntax.specs.Positions.{field_positions, tuple_field_positions}
use Rattle.core_syntax.specs.Stable.{Members}
use Rattle.core_syntax.specs.SyntaxViews as X
use Rattle.core_types.specs.declared.ids.Sym.{Sym}
use Rattle.core_types.specs.declared.type_env.TypeEnv.{TypeEnv}
use Rattle.core_types.specs.declared.types.StructField.{StructField}
use Rattle.core_types.specs.declared.types.TupleField.{TupleField}
use Rattle.core_types.specs.Envs.{names_of, symbol_of, type_at, type_of_name, IsInterned}
use Rattle.core_types.specs.VariantReading.{HasSeen}
use Rattle.core_types.specs.FieldReading.{was_seen, IsField, ReadsField, IsTupleField, ReadsTupleField}
use Rattle.core_types.specs.Reading.{MeetsNames, EndsAt, AreRightFields}
use Rattle.core_types.specs.Stages.{Sees}
use Rattle.core_types.specs.TypeViews.{field_view, tuple_field_view}
use Rattle.model.proofs.ByNumber.{by_text}
use Rattle.model.proofs.FirstPlaces.{distinct_push, twice}
use Rattle.model.proofs.Names.{number_stays, with_names_append}
use Rattle.core_types.proofs.NamesMet.{meet_more}
use Rattle.core_types.proofs.NotedPositions.{noted_first}
use Rattle.core_types.proofs.EnvironmentSteps.{sees_name}
use Rattle.core_types.proofs.SeenNames.{none_seen, not_seen, seen_text, one_seen}

-- a fact of all elements is one of an element between the others
all_middle : {X : Type 0} (P : X → Type 0) (xs : List X) (x : X) (ys : List X) → All P (xs ++ x ∷ ys) → P x
all_middle P [] x ys h = All-head P x ys h
all_middle P (z ∷ zs) x ys h = all_middle P zs x ys (All-tail P z (zs ++ x ∷ ys) h)

-- one more element, numbered
number_push : {X Y : Type 0} (f : ℕ × X → Y) (n : ℕ) (xs : List X) (x : X) → map f (enumerate_from n (xs ++ x ∷ [])) ≡ map f (enumerate_from n xs) ++ f (n + length xs, x) ∷ []
number_push f n [] x = ap (λ k. f (k, x) ∷ []) (omega arith)
number_push f n (y ∷ ys) x = grind (arith, common_steps, number_push f (n + 1) ys x)

-- the type that is found by a name has the name's place among the names of types
pub found_type : (env : TypeEnv) (types : List (List ℕ)) → Sees env types → IsInterned env → (x : List ℕ) → type_of_name env x ≡ place_from 0 x types
found_type env types s i x = by_text (names_of env) (symbol_of env) i.numbered i.named (type_at env) (λ y. place_from 0 y types) s.ids x (s.known x)

-- after names were met the same types are seen
pub sees_met : (types : List (List ℕ)) (old new : TypeEnv) (x : List ℕ) → Sees old types → MeetsNames (x ∷ []) old new → Sees new types
sees_met types old new x s m = sees_name old types s new x m.names m.type_map m.const_types m.errors

is_known : (types : List (List ℕ)) (n : Name) (k : ℕ) → place_from 0 n.text types ≡ Some k → IsKnownType types n
is_known types n k e = rw e refl

unknown_type : (types : List (List ℕ)) (n : Name) → place_from 0 n.text types ≡ None → IsKnownType types n → ⊥
unknown_type types n e h = false≢true (rw e at h)

-- the entries of fields, where these are the names
abbrev pub entries_of : List Definition → List (List ℕ) → List FieldTree → List FieldEntry
entries_of defs names fs = map (λ p. field_entry defs names p.0 p.1) (enumerate_from 0 fs)

abbrev pub tuple_entries_of : List Definition → List TupleFieldTree → List TupleFieldEntry
tuple_entries_of defs fs = map (λ p. tuple_field_entry defs p.0 p.1) (enumerate_from 0 fs)

-- what is left from a place on begins with the element there
left_at : {X Y : Type 0} (f : X → Y) (xs : List X) (i : ℕ) (x : X) → i < length xs → x ≡ get_or xs i x → map f (drop i xs) ≡ f x ∷ map f (drop (i + 1) xs)
left_at f xs i x within at = at_drop_more (map f) xs i x within ∙ ap (λ z. f z ∷ map f (drop (i + 1) xs)) (sym at)

-- the names of fields
abbrev pub names_in : List FieldTree → List (List ℕ)
names_in fs = map (λ f. f.name.text) fs

-- of all these fields the rest is left to be read
pub record FieldsRead (defs : List Definition) (all rest : List FieldTree) (read : List StructField) (seen : Members Sym) (old new : TypeEnv) : Type 0 where
  pub done : List FieldTree
  pub whole : done ++ rest ≡ all
  pub count : length read ≡ length done
  pub sees : Sees new (all_type_names defs)
  pub distinct : IsDistinct (names_in done)
  pub known : All (IsKnownType (all_type_names defs)) (map (λ f. f.ty) done)
  pub met : MeetsNames (names_in done) old new
  pub entries : (more : List (List ℕ)) → map field_view read ≡ entries_of defs (with_names (names_of new) more) done
  pub numbers : HasSeen (names_of new) seen (names_in done)

-- before the first field
first_field : (defs : List Definition) (fs : List FieldTree) (seen : Members Sym) (env : TypeEnv) → Sees env (all_type_names defs) → ((k : ℕ) → was_seen seen k ≡ false) → FieldsRead defs fs fs [] seen env env
first_field defs fs seen env s none = record {
  done = [];
  whole = refl;
  count = refl;
  sees = s;
  distinct = λ j k x p q. absurd (cc);
  known = All-nil (IsKnownType (all_type_names defs));
  met = record { names = refl; types = refl; type_map = refl; const_types = refl; errors = refl };
  entries = λ more. refl;
  numbers = none_seen (names_of env) seen none;
}

-- after the last one
last_field : (defs : List Definition) (fs : List FieldTree) (read : List StructField) (seen : Members Sym) (old new : TypeEnv) → FieldsRead defs fs [] read seen old new → AreRightFields defs (struct_fields fs) × MeetsNames (names_in fs) old new × (map field_view read ≡ entries_of defs (names_of new) fs)
last_field defs fs read seen old new s = grind (arith, common_steps, append-nil s.done, s.done, s.whole, s.distinct, s.known, s.entries [])

module _ (defs : List Definition) (all rest : List FieldTree) (f : FieldTree) (read : List StructField) (seen : Members Sym) (old env : TypeEnv) (s : FieldsRead defs all (f ∷ rest) read seen old env) (new : TypeEnv) (m : MeetsNames (f.name.text ∷ []) env new) (i : IsInterned new) where
  sees_now : Sees new (all_type_names defs)
  sees_now = sees_met (all_type_names defs) env new f.name.text s.sees m

  type_now : type_of_name new f.ty.text ≡ place_from 0 f.ty.text (all_type_names defs)
  type_now = found_type new (all_type_names defs) sees_now i f.ty.text

  names_after : names_in (s.done ++ f ∷ []) ≡ names_in s.done ++ f.name.text ∷ []
  names_after = map-append (λ (g : FieldTree). g.name.text) s.done (f ∷ [])

  met_after : MeetsNames (names_in (s.done ++ f ∷ [])) old new
  met_after = grind (arith, common_steps, with_names_append (names_of old) (names_in s.done) (f.name.text ∷ []))

  module _ (r : StructField) (id : ℕ) (at : id ≡ length read) (seen' : Members Sym) (a : IsField f id r env new seen seen') where
    known_now : place_from 0 f.ty.text (all_type_names defs) ≡ Some r.ty.0
    known_now = sym type_now ∙ a.ty

    same_entry : (more : List (List ℕ)) → field_view r ≡ field_entry defs (with_names (with_name (names_of env) f.name.text) more) (0 + length s.done) f
    same_entry more =
        let name : r.name.0 ≡ number (with_names (with_name (names_of env) f.name.text) more) f.name.text = a.name ∙ sym (number_stays (names_of env) more f.name.text) in
        let id_is : r.id.0 ≡ 0 + length s.done = a.id_is ∙ at ∙ s.count ∙ omega arith in
        let ty : r.ty.0 ≡ type_or_first defs f.ty = sym (ap (λ o. unwrap_or o 0) known_now) in
        rw (name, id_is, ty) refl

    entries_after : (more : List (List ℕ)) → map field_view (read ++ r ∷ []) ≡ entries_of defs (with_names (names_of new) more) (s.done ++ f ∷ [])
    entries_after more =
        map-append field_view read (r ∷ [])
        ∙ ap (λ es. es ++ field_view r ∷ []) (s.entries (f.name.text ∷ more))
        ∙ ap (λ e. entries_of defs (with_names (with_name (names_of env) f.name.text) more) s.done ++ e ∷ []) (same_entry more)
        ∙ sym (number_push (λ p. field_entry defs (with_names (with_name (names_of env) f.name.text) more) p.0 p.1) 0 s.done f)
        ∙ ap (λ ns. entries_of defs (with_names ns more) (s.done ++ f ∷ [])) (sym m.names)

    numbers_after : HasSeen (names_of new) seen' (names_in (s.done ++ f ∷ []))
    numbers_after = grind (arith, common_steps, one_seen (names_of env) seen (names_in s.done) s.numbers f.name.text seen' (symbol_of new))

    -- after a field that is right
    next_field : FieldsRead defs all rest (read ++ r ∷ []) seen' old new
    next_field = record {
      done = s.done ++ f ∷ [];
      whole = append_assoc s.done (f ∷ []) rest ∙ s.whole;
      count = length_push read r ∙ ap (λ n. n + 1) s.count ∙ sym (length_push s.done f);
      sees = sees_now;
      distinct = subst IsDistinct (sym names_after) (distinct_push (names_in s.done) f.name.text s.distinct (not_seen (names_of env) seen (names_in s.done) s.numbers f.name.text a.fresh));
      known = subst (All (IsKnownType (all_type_names defs))) (sym (map-append (λ (g : FieldTree). g.ty) s.done (f ∷ []))) (All-push (IsKnownType (all_type_names defs)) (map (λ g. g.ty) s.done) f.ty s.known (is_known (all_type_names defs) f.ty r.ty.0 known_now));
      met = met_after;
      entries = entries_after;
      numbers = numbers_after;
    }

  module _ (right : AreRightFields defs (struct_fields all)) where
    not_twice : was_seen seen (number (names_of env) f.name.text) ≡ true → ⊥
    not_twice e =
        let parts : names_in s.done ++ f.name.text ∷ names_in rest ≡ names_in all = sym (map-append (λ (g : FieldTree). g.name.text) s.done (f ∷ rest)) ∙ ap names_in s.whole in
        elim (place_from 0 f.name.text (names_in s.done)) as (λ o. place_from 0 f.name.text (names_in s.done) ≡ o → is_some o ≡ true → ⊥) [
          | None ↦ λ _ h. false≢true h
          | Some k ↦ λ there _. twice (names_in s.done) (names_in rest) (names_in all) f.name.text k right.distinct parts there
        ] refl (sym (seen_text (names_of env) seen (names_in s.done) s.numbers f.name.text) ∙ e)

    has_type : type_of_name new f.ty.text ≡ None → ⊥
    has_type e =
        let parts : map (λ (g : FieldTree). g.ty) all ≡ map (λ g. g.ty) s.done ++ f.ty ∷ map (λ g. g.ty) rest = sym (ap (map (λ (g : FieldTree). g.ty)) s.whole) ∙ map-append (λ (g : FieldTree). g.ty) s.done (f ∷ rest) in
        unknown_type (all_type_names defs) f.ty (sym type_now ∙ e) (all_middle (IsKnownType (all_type_names defs)) (map (λ g. g.ty) s.done) f.ty (map (λ g. g.ty) rest) (subst (All (IsKnownType (all_type_names defs))) parts right.known))

-- of these fields of a struct or of a variant the rest is left to be read, and nothing was noted
pub record ReadsMore (fields rest : List S.StructField) (read : List StructField) (seen : Members Sym) (old : TypeEnv) (es : List Error) (new : TypeEnv) (es' : List Error) : Type 0 where
  pub inverse : IsInterned new
  pub unnoted : es' ≡ es
  pub met : List (List ℕ)
  pub meets : MeetsNames met old new
  pub reads : (defs : List Definition) → Sees old (all_type_names defs) → FieldsRead defs (map X.field_view fields) (map X.field_view rest) read seen old new

pub reads_first : (fields : List S.StructField) (read : List StructField) (seen : Members Sym) (env : TypeEnv) (es : List Error) → IsInterned env → read ≡ [] → ((k : ℕ) → was_seen seen k ≡ false) → ReadsMore fields fields read seen env es env es
reads_first fields read seen env es i empty none = record {
  inverse = i;
  unnoted = refl;
  met = [];
  meets = record { names = refl; types = refl; type_map = refl; const_types = refl; errors = refl };
  reads = λ defs s. subst (λ fs. FieldsRead defs (map X.field_view fields) (map X.field_view fields) fs seen env env) (sym empty) (first_field defs (map X.field_view fields) seen env s none);
}

pub reads_last : (fields : List S.StructField) (k : ℕ) → length fields ≤ k → (read : List StructField) (seen : Members Sym) (old : TypeEnv) (es : List Error) (new : TypeEnv) (es' : List Error) → ReadsMore fields (drop k fields) read seen old es new es' → (defs : List Definition) → Sees old (all_type_names defs) → (es' ≡ es) × AreRightFields defs (struct_fields (map X.field_view fields)) × MeetsNames (names_in (map X.field_view fields)) old new × (struct_entries (map field_view read) ≡ struct_entries (entries_of defs (names_of new) (map X.field_view fields)))
reads_last fields k past read seen old es new es' s defs sees =
    let none : map X.field_view (drop k fields) ≡ [] = at_drop_all (map X.field_view) fields k past in
    let l = last_field defs (map X.field_view fields) read seen old new (subst (λ rest. FieldsRead defs (map X.field_view fields) rest read seen old new) none (s.reads defs sees)) in
    (s.unnoted, l.0, l.1, ap struct_entries l.2)

module _ (fields : List S.StructField) (k : ℕ) (d : S.StructField) (within : k < length fields) (here : d ≡ get_or fields k d) (read : List StructField) (seen seen' : Members Sym) (old env new : TypeEnv) (es now es' : List Error) (s : ReadsMore fields (drop k fields) read seen old es env now) (m : MeetsNames ((X.field_view d).name.text ∷ []) env new) (i : IsInterned new) (id : ℕ) where
  so_far : (defs : List Definition) → Sees old (all_type_names defs) → FieldsRead defs (map X.field_view fields) (X.field_view d ∷ map X.field_view (drop (k + 1) fields)) read seen old env
  so_far defs sees = subst (λ rest. FieldsRead defs (map X.field_view fields) rest read seen old env) (left_at X.field_view fields k d within here) (s.reads defs sees)

  -- after a field that is right
  pub reads_next : (r : StructField) → id ≡ length read → ReadsField (X.field_view d) id (Some r) env now seen new es' seen' → ReadsMore fields (drop (k + 1) fields) (read ++ r ∷ []) seen' old es new es'
  reads_next r at a = record {
    inverse = i;
    unnoted = a.0 ∙ s.unnoted;
    met = s.met ++ (X.field_view d).name.text ∷ [];
    meets = meet_more s.met ((X.field_view d).name.text ∷ []) old env new s.meets m;
    reads = λ defs sees. next_field defs (map X.field_view fields) (map X.field_view (drop (k + 1) fields)) (X.field_view d) read seen old env (so_far defs sees) new m i r id at seen' a.1;
  }

  -- at one that is wrong
  pub reads_wrong : ReadsField (X.field_view d) id None env now seen new es' seen' → (defs : List Definition) → Sees old (all_type_names defs) → EndsAt (flat_map field_positions (map X.field_view fields)) old es new es' × (AreRightFields defs (struct_fields (map X.field_view fields)) → ⊥)
  reads_wrong a defs sees = (
    record {
      met = s.met ++ (X.field_view d).name.text ∷ [];
      meets = meet_more s.met ((X.field_view d).name.text ∷ []) old env new s.meets m;
      notes = noted_first field_positions X.field_view fields k d within here es now es' s.unnoted a.0;
    },
    λ right. ⊎_elim (not_twice defs (map X.field_view fields) (map X.field_view (drop (k + 1) fields)) (X.field_view d) read seen old env (so_far defs sees) new m i right) (has_type defs (map X.field_view fields) (map X.field_view (drop (k + 1) fields)) (X.field_view d) read seen old env (so_far defs sees) new m i right) a.1,
  )

-- of all these fields without names the rest is left to be read
pub record TupleFieldsRead (defs : List Definition) (all rest : List TupleFieldTree) (read : List TupleField) : Type 0 where
  pub done : List TupleFieldTree
  pub whole : done ++ rest ≡ all
  pub count : length read ≡ length done
  pub known : All (IsKnownType (all_type_names defs)) (map (λ f. f.ty) done)
  pub entries : map tuple_field_view read ≡ tuple_entries_of defs done

-- of these fields without names the rest is left to be read, and nothing was noted
pub record ReadsMoreTuple (fields rest : List U.TupleField) (read : List TupleField) (env : TypeEnv) (es es' : List Error) : Type 0 where
  pub unnoted : es' ≡ es
  pub reads : (defs : List Definition) → Sees env (all_type_names defs) → TupleFieldsRead defs (map X.tuple_field_view fields) (map X.tuple_field_view rest) read

pub reads_first_tuple : (fields : List U.TupleField) (read : List TupleField) (env : TypeEnv) (es : List Error) → read ≡ [] → ReadsMoreTuple fields fields read env es es
reads_first_tuple fields read env es empty = record {
  unnoted = refl;
  reads = λ defs s. subst (TupleFieldsRead defs (map X.tuple_field_view fields) (map X.tuple_field_view fields)) (sym empty) (record {
    done = [];
    whole = refl;
    count = refl;
    known = All-nil (IsKnownType (all_type_names defs));
    entries = refl;
  });
}

no_names : IsDistinct (field_names (tuple_fields []))
no_names j k x p q = absurd (cc)

pub reads_last_tuple : (fields : List U.TupleField) (k : ℕ) → length fields ≤ k → (read : List TupleField) (env : TypeEnv) (es es' : List Error) → ReadsMoreTuple fields (drop k fields) read env es es' → (defs : List Definition) → Sees env (all_type_names defs) → (es' ≡ es) × AreRightFields defs (tuple_fields (map X.tuple_field_view fields)) × MeetsNames [] env env × (tuple_entries (map tuple_field_view read) ≡ tuple_entries (tuple_entries_of defs (map X.tuple_field_view fields)))
reads_last_tuple fields k past read env es es' s defs sees = grind (arith, common_steps, at_drop_all (map X.tuple_field_view) fields k past, append-nil, no_names)

module _ (fields : List U.TupleField) (k : ℕ) (d : U.TupleField) (within : k < length fields) (here : d ≡ get_or fields k d) (read : List TupleField) (env : TypeEnv) (es now es' : List Error) (s : ReadsMoreTuple fields (drop k fields) read env es now) (i : IsInterned env) (id : ℕ) (defs : List Definition) (sees : Sees env (all_type_names defs)) where
  before : TupleFieldsRead defs (map X.tuple_field_view fields) (map X.tuple_field_view (drop k fields)) read
  before = s.reads defs sees

  parts : before.done ++ X.tuple_field_view d ∷ map X.tuple_field_view (drop (k + 1) fields) ≡ map X.tuple_field_view fields
  parts = ap (λ rest. before.done ++ rest) (sym (left_at X.tuple_field_view fields k d within here)) ∙ before.whole

  next_part : (r : TupleField) → id ≡ length read → IsTupleField (X.tuple_field_view d) id r env → TupleFieldsRead defs (map X.tuple_field_view fields) (map X.tuple_field_view (drop (k + 1) fields)) (read ++ r ∷ [])
  next_part r at a =
      let there : place_from 0 (X.tuple_field_view d).ty.text (all_type_names defs) ≡ Some r.ty.0 = sym (found_type env (all_type_names defs) sees i (X.tuple_field_view d).ty.text) ∙ a.ty in
      let id_is : r.id.0 ≡ 0 + length before.done = a.id_is ∙ at ∙ before.count ∙ omega arith in
      let ty : r.ty.0 ≡ type_or_first defs (X.tuple_field_view d).ty = sym (ap (λ o. unwrap_or o 0) there) in
      let same : tuple_field_view r ≡ tuple_field_entry defs (0 + length before.done) (X.tuple_field_view d) = rw (id_is, ty) refl in
      record {
        done = before.done ++ X.tuple_field_view d ∷ [];
        whole = append_assoc before.done (X.tuple_field_view d ∷ []) (map X.tuple_field_view (drop (k + 1) fields)) ∙ parts;
        count = length_push read r ∙ ap (λ n. n + 1) before.count ∙ sym (length_push before.done (X.tuple_field_view d));
        known = subst (All (IsKnownType (all_type_names defs))) (sym (map-append (λ (g : TupleFieldTree). g.ty) before.done (X.tuple_field_view d ∷ []))) (All-push (IsKnownType (all_type_names defs)) (map (λ g. g.ty) before.done) (X.tuple_field_view d).ty before.known (is_known (all_type_names defs) (X.tuple_field_view d).ty r.ty.0 there));
        entries = map-append tuple_field_view read (r ∷ [])
            ∙ ap (λ es. es ++ tuple_field_view r ∷ []) before.entries
            ∙ ap (λ e. tuple_entries_of defs before.done ++ e ∷ []) same
            ∙ sym (number_push (λ p. tuple_field_entry defs p.0 p.1) 0 before.done (X.tuple_field_view d));
      }

  wrong_part : type_of_name env (X.tuple_field_view d).ty.text ≡ None → AreRightFields defs (tuple_fields (map X.tuple_field_view fields)) → ⊥
  wrong_part e right =
      let types : map (λ (g : TupleFieldTree). g.ty) (map X.tuple_field_view fields) ≡ map (λ g. g.ty) before.done ++ (X.tuple_field_view d).ty ∷ map (λ g. g.ty) (map X.tuple_field_view (drop (k + 1) fields)) = sym (ap (map (λ (g : TupleFieldTree). g.ty)) parts) ∙ map-append (λ (g : TupleFieldTree). g.ty) before.done (X.tuple_field_view d ∷ map X.tuple_field_view (drop (k + 1) fields)) in
      unknown_type (all_type_names defs) (X.tuple_field_view d).ty (sym (found_type env (all_type_names defs) sees i (X.tuple_field_view d).ty.text) ∙ e) (all_middle (IsKnownType (all_type_names defs)) (map (λ g. g.ty) before.done) (X.tuple_field_view d).ty (map (λ g. g.ty) (map X.tuple_field_view (drop (k + 1) fields))) (subst (All (IsKnownType (all_type_names defs))) types right.known))

module _ (fields : List U.TupleField) (k : ℕ) (d : U.TupleField) (within : k < length fields) (here : d ≡ get_or fields k d) (read : List TupleField) (env : TypeEnv) (es now es' : List Error) (s : ReadsMoreTuple fields (drop k fields) read env es now) (i : IsInterned env) (id : ℕ) where
  -- after a field that is right
  pub reads_next_tuple : (r : TupleField) → id ≡ length read → ReadsTupleField (X.tuple_field_view d) id (Some r) env now es' → ReadsMoreTuple fields (drop (k + 1) fields) (read ++ r ∷ []) env es es'
  reads_next_tuple r at a = grind (arith, common_steps, next_part fields k d within here read env es now es' s i id)

  -- at one that is wrong
  pub reads_wrong_tuple : ReadsTupleField (X.tuple_field_view d) id None env now es' → (defs : List Definition) → Sees env (all_type_names defs) → EndsAt (flat_map tuple_field_positions (map X.tuple_field_view fields)) env es env es' × (AreRightFields defs (tuple_fields (map X.tuple_field_view fields)) → ⊥)
  reads_wrong_tuple a defs sees = (
    record {
      met = [];
      meets = record { names = refl; types = refl; type_map = refl; const_types = refl; errors = refl };
      notes = noted_first tuple_field_positions X.tuple_field_view fields k d within here es now es' s.unnoted a.0;
    },
    wrong_part fields k d within here read env es now es' s i id defs sees a.1,
  )
