-- Reading converters by types that are handed in, one definition after another.
use Rattle.std.proofs.Common.{◌≡◌, ◌==◌, ◌&&◌, ℕ, suc, ◌+◌, ◌<◌, Bool, true, false, cond, List, [], ◌∷◌, ◌++◌, length, take, drop, get_or, map, slice_get, None, Some, is_some, unwrap_or, option_map, All, refl, sym, ap, subst, ◌∙◌, inl, inr, Contains, ⊎_elim, arith}
use Rattle.std.proofs.Math.Path.{ap₂}
use Rattle.std.proofs.lemmas.Bool.{false≢true}
use Rattle.std.proofs.lemmas.Bool.Decides.{Decides-eqb}
use Rattle.std.proofs.lemmas.List.{append-nil, map-append}
use Rattle.std.proofs.lemmas.List.Concat.{flat_map-append}
use Rattle.std.proofs.lemmas.List.Elements.{All-contains, All-push, Contains-append_left, Contains-append_right, Contains-append_cases}
use Rattle.std.proofs.lemmas.Option.{same_Some, slice_get-map}
use Rattle.std.proofs.lemmas.Grind.{common_steps}
use Rattle.model.proofs.Members.{in_alone, in_head, in_map, member_from_get, get_from_member, nothing_in}
use Rattle.model.proofs.Mapped.{mapped_some}
use Rattle.model.specs.lists.Syntax.{Name, ConverterTree, Definition, type_definition, declaration, extractor_definition, converter_definition, rule_definition, extern_definition, other_definition}
use Rattle.model.specs.lists.Names.{IsDistinct}
use Rattle.model.specs.rules.Meaning.{look}
use Rattle.model.specs.lists.TypeTable.{IsKnownType}
use Rattle.model.specs.lists.KnownTypes.{type_named, known_type}
use Rattle.model.specs.lists.TermTable.{decl_names, rule_trees, extractor_trees, converter_of, converter_trees, converted_pairs, term_named, known_term, IsKnownTerm, IsKnownConverter}
use Rattle.model.specs.claims.Environments.{TypesRead, AreReadable, IsLeftByRefusal}
use Rattle.model.proofs.Positions.{distinct_push}
use Rattle.core_syntax.specs.declared.syntax.Def.{Def}
use Rattle.core_syntax.specs.declared.syntax.Error.{Error}
use Rattle.core_syntax.specs.Stable.{Entries, look_up}
use Rattle.core_syntax.specs.Positions.{converter_positions, definition_positions}
use Rattle.core_syntax.specs.SyntaxViews.{definition_view, definition_views}
use Rattle.core_types.specs.declared.type_env.TypeEnv.{TypeEnv}
use Rattle.core_types.specs.Envs.{type_of_name}
use Rattle.core_types.specs.EnvViews.{environment_view}
use Rattle.core_types.specs.declared.ids.TermId.{TermId}
use Rattle.core_types.specs.declared.ids.TypeId.{TypeId}
use Rattle.core_terms.specs.TermTables.{same_types}
use Rattle.core_terms.specs.declared.term_table.TermTable.{TermTable}
use Rattle.core_terms.specs.Reading.{IsWithin, term_of_name}
use Rattle.core_terms.specs.TermBreaches.{of_converters, FirstStandsAt, BreaksConverter, unknown_converter, second_converter, by_converter}
use Rattle.core_terms.specs.Stages.{constructor_after}
use Rattle.core_terms.specs.Signing.{NotesIfWrong, ReadsTerms}
use Rattle.core_terms.specs.TermErrors.{IsConvertedBefore, TellsOfConverter}
use Rattle.core_types.specs.ToldErrors as T
use Rattle.core_types.specs.ToldErrors.{NotesEach}
use Rattle.core_types.proofs.ToldErrors.{noted_none, noted_more}
use Rattle.core_terms.specs.Converting.{type_by_id, converter_at, pair_of, converter_entry, template_after, ConvertersRead, Converts, IsWrongConverter, ReadsIfConverter}
use Rattle.core_terms.proofs.Declaring.{taken_next, around}
use Rattle.core_terms.proofs.ErrorSteps.{some_noted, step}
use Rattle.core_terms.proofs.ReadTerms.{term_is}
use Rattle.core_terms.proofs.TemplateSteps.{one_name}
use Rattle.core_terms.proofs.TypesStaying.{left_interned, type_is}

-- what is looked up in a list with one more entry
look_push : {K V : Type 0} (p : K → Bool) (xs : List (K × V)) (x : K × V) → look p xs ≡ None → look p (xs ++ x ∷ []) ≡ cond (p x.0) (Some x.1) None
look_push p [] x h = refl
look_push p (y ∷ xs) x h = grind (arith, common_steps, look_push p xs x)

look_other : {K V : Type 0} (p : K → Bool) (xs : List (K × V)) (x : K × V) → p x.0 ≡ false → look p (xs ++ x ∷ []) ≡ look p xs
look_other p [] x h = ap (λ b. cond b (Some x.1) None) h
look_other p (y ∷ xs) x h = ap (cond (p y.0) (Some y.1)) (look_other p xs x h)

-- an entry that passes is found
look_passes : {X K V : Type 0} (f : X → K × V) (p : K → Bool) (xs : List X) (j : ℕ) (x : X) → slice_get xs j ≡ Some x → p (f x).0 ≡ true → look p (map f xs) ≡ None → ⊥
look_passes f p (y ∷ xs) (suc j) x h t n =
    elim (p (f y).0) as (λ b. cond b (Some (f y).1) (look p (map f xs)) ≡ None → ⊥) [
      | true ↦ λ g. absurd (cc)
      | false ↦ λ g. look_passes f p xs j x h t g
    ] n
look_passes f p xs j x h t n = grind (arith, same_Some)

-- what is found is that of an entry that passes
look_passed : {X K V : Type 0} (f : X → K × V) (p : K → Bool) (xs : List X) (v : V) → look p (map f xs) ≡ Some v → (j : ℕ) × (x : X) × (slice_get xs j ≡ Some x) × (p (f x).0 ≡ true)
look_passed f p [] v h = absurd (cc)
look_passed f p (y ∷ xs) v h =
    elim (p (f y).0) as (λ b. p (f y).0 ≡ b → cond b (Some (f y).1) (look p (map f xs)) ≡ Some v → (j : ℕ) × (x : _) × (slice_get (y ∷ xs) j ≡ Some x) × (p (f x).0 ≡ true)) [
      | true ↦ λ e g. (0, y, refl, e)
      | false ↦ λ e g. (let r = look_passed f p xs v g in (suc r.0, r.1, r.2, r.3))
    ] refl h

abbrev is_pair : ℕ → ℕ → ℕ × ℕ → Bool
is_pair i o k = (k.0 == i) && (k.1 == o)

same_pair : (i o : ℕ) → is_pair i o (i, o) ≡ true
same_pair i o = ap₂ (λ a b. a && b) ((Decides-eqb i i).1 refl) ((Decides-eqb o o).1 refl)

pair_is : (k : ℕ × ℕ) (i o : ℕ) → is_pair i o k ≡ true → (k.0 ≡ i) × (k.1 ≡ o)
pair_is k i o h = grind (arith, common_steps)

module _ (e : TypesRead) (readable : AreReadable e) (defs read : List Definition) (c : ConverterTree) (env : TypeEnv) (old : TermTable) (left : IsLeftByRefusal e (environment_view env)) (s : ConvertersRead e defs read env old) where
  more : converter_trees (read ++ converter_definition c ∷ []) ≡ converter_trees read ++ c ∷ []
  more = flat_map-append converter_of read (converter_definition c ∷ [])

  abbrev entry : ConverterTree → (ℕ × ℕ) × ℕ
  entry = converter_entry e.known defs

  type_of : (n : Name) → type_of_name env n.text ≡ type_named e.known n.text
  type_of n = type_is e readable env left n.text

  term_of : (n : Name) → term_of_name env old n ≡ term_named e.known defs n.text
  term_of n = term_is e defs (decl_names defs) (constructor_after (rule_trees defs)) (template_after (extractor_trees defs)) env old (left_interned e readable env left) s.stand n

  known_is : (n : Name) (ty : ℕ) → type_of_name env n.text ≡ Some ty → (known_type e.known n ≡ ty) × IsKnownType e.known.type_names n
  known_is n ty h = let at : type_named e.known n.text ≡ Some ty = sym (type_of n) ∙ h in (ap (λ o. unwrap_or o 0) at, ap is_some at)

  term_known : (n : Name) (t : ℕ) → term_of_name env old n ≡ Some t → (known_term e.known defs n ≡ t) × IsKnownTerm e.known defs n
  term_known n t h = let at : term_named e.known defs n.text ≡ Some t = sym (term_of n) ∙ h in (ap (λ o. unwrap_or o 0) at, ap is_some at)

  module _ (new : TermTable) (a : Converts c env old new) where
    inner : (known_type e.known c.inner_ty ≡ a.inner) × IsKnownType e.known.type_names c.inner_ty
    inner = known_is c.inner_ty a.inner a.inner_is

    outer : (known_type e.known c.outer_ty ≡ a.outer) × IsKnownType e.known.type_names c.outer_ty
    outer = known_is c.outer_ty a.outer a.outer_is

    term : (known_term e.known defs c.term ≡ a.term) × IsKnownTerm e.known defs c.term
    term = term_known c.term a.term a.term_is

    none_so_far : look (is_pair a.inner a.outer) (map entry (converter_trees read)) ≡ None
    none_so_far = sym (s.conversions a.inner a.outer) ∙ a.free

    fresh : (j : ℕ) → slice_get (converted_pairs read) j ≡ Some (pair_of c) → ⊥
    fresh j h =
        let d = mapped_some pair_of (slice_get (converter_trees read) j) (pair_of c) (sym (slice_get-map pair_of (converter_trees read) j) ∙ h) in
        let first : known_type e.known d.0.inner_ty ≡ a.inner = ap (λ (p : List ℕ × List ℕ). unwrap_or (type_named e.known p.0) 0) d.2 ∙ (inner).0 in
        let second : known_type e.known d.0.outer_ty ≡ a.outer = ap (λ (p : List ℕ × List ℕ). unwrap_or (type_named e.known p.1) 0) d.2 ∙ (outer).0 in
        let pass : is_pair a.inner a.outer (entry d.0).0 ≡ true = ap (λ n. is_pair a.inner a.outer (n, known_type e.known d.0.outer_ty)) first ∙ ap (λ n. is_pair a.inner a.outer (a.inner, n)) second ∙ same_pair a.inner a.outer in
        look_passes entry (is_pair a.inner a.outer) (converter_trees read) j d.0 d.1 pass none_so_far

    same_entry : entry c ≡ ((a.inner, a.outer), a.term)
    same_entry = grind (arith, common_steps, inner, outer, term)

    answers : (i o : ℕ) → converter_at new i o ≡ look (is_pair i o) (map entry (converter_trees read) ++ ((a.inner, a.outer), a.term) ∷ [])
    answers i o =
        a.conversions i o ∙ (elim (is_pair i o (a.inner, a.outer)) as (λ b. is_pair i o (a.inner, a.outer) ≡ b → cond b (Some a.term) (converter_at old i o) ≡ look (is_pair i o) (map entry (converter_trees read) ++ ((a.inner, a.outer), a.term) ∷ [])) [
          | true ↦ λ t.
              let is = pair_is (a.inner, a.outer) i o t in
              let none : look (is_pair i o) (map entry (converter_trees read)) ≡ None = subst (λ k. look (is_pair i k) (map entry (converter_trees read)) ≡ None) is.1 (subst (λ k. look (is_pair k a.outer) (map entry (converter_trees read)) ≡ None) is.0 none_so_far) in
              sym (look_push (is_pair i o) (map entry (converter_trees read)) ((a.inner, a.outer), a.term) none ∙ ap (λ b. cond b (Some a.term) None) t)
          | false ↦ λ f. s.conversions i o ∙ sym (look_other (is_pair i o) (map entry (converter_trees read)) ((a.inner, a.outer), a.term) f)
        ] refl)

    pub converter_right : ConvertersRead e defs (read ++ converter_definition c ∷ []) env new
    converter_right = record {
      stand = grind (arith, common_steps);
      known = subst (All (IsKnownConverter e.known defs)) (sym more) (All-push (IsKnownConverter e.known defs) (converter_trees read) c s.known ((term).1, (inner).1, (outer).1));
      distinct = subst (λ cs. IsDistinct (map pair_of cs)) (sym more) (subst IsDistinct (sym (map-append pair_of (converter_trees read) (c ∷ []))) (distinct_push (converted_pairs read) (pair_of c) s.distinct fresh));
      conversions = λ i o. answers i o ∙ ap (λ x. look (is_pair i o) (map entry (converter_trees read) ++ x ∷ [])) (sym same_entry) ∙ ap (look (is_pair i o)) (sym (map-append entry (converter_trees read) (c ∷ [])) ∙ ap (map entry) (sym more));
    }

  named_is : (n : Name) → IsKnownType e.known.type_names n → type_named e.known n.text ≡ Some (known_type e.known n)
  named_is n h = grind (arith, common_steps)

  -- types of one id have one name
  one_type : (a b : Name) (ty : ℕ) → IsKnownType e.known.type_names a → known_type e.known a ≡ ty → type_of_name env b.text ≡ Some ty → a.text ≡ b.text
  one_type a b ty known is found = one_name e.known.type_names a.text b.text ty (named_is a known ∙ ap Some is) (sym (type_of b) ∙ found)

  -- a converter before that converts types of these ids
  converted_before : (d : ConverterTree) → Contains (converter_trees read) d → (i o : ℕ) → known_type e.known d.inner_ty ≡ i → known_type e.known d.outer_ty ≡ o → type_of_name env c.inner_ty.text ≡ Some i → type_of_name env c.outer_ty.text ≡ Some o
      → Contains (converted_pairs read) (pair_of c)
  converted_before d there i o first second inner outer =
      let known = All-contains (IsKnownConverter e.known defs) (converter_trees read) d s.known there in
      let same : pair_of d ≡ pair_of c = ap (λ x. (x, d.outer_ty.text)) (one_type d.inner_ty c.inner_ty i known.1 first inner) ∙ ap (λ y. (c.inner_ty.text, y)) (one_type d.outer_ty c.outer_ty o known.2 second outer) in
      subst (Contains (converted_pairs read)) same (in_map pair_of (converter_trees read) d there)

  pub converter_wrong : IsWrongConverter c env old → BreaksConverter e.known defs read c
  converter_wrong (inl none) = unknown_converter (λ k. false≢true (sym (ap is_some (sym (type_of c.inner_ty) ∙ none)) ∙ k.1))
  converter_wrong (inr (inl none)) = unknown_converter (λ k. false≢true (sym (ap is_some (sym (type_of c.outer_ty) ∙ none)) ∙ k.2))
  converter_wrong (inr (inr (inl none))) = unknown_converter (λ k. false≢true (sym (ap is_some (sym (term_of c.term) ∙ none)) ∙ k.0))
  converter_wrong (inr (inr (inr m))) =
      let found = look_passed entry (is_pair m.inner m.outer) (converter_trees read) m.id (sym (s.conversions m.inner m.outer) ∙ m.taken) in
      let is = pair_is (entry found.1).0 m.inner m.outer found.3 in
      second_converter (converted_before found.1 (member_from_get (converter_trees read) found.0 found.1 found.2) m.inner m.outer is.0 is.1 m.inner_is m.outer_is)

-- what is noted of a converter, where it doesn't matter how much
as_noted : (c : ConverterTree) (env : TypeEnv) (table table' : TermTable) (es es' : List Error) → ReadsIfConverter (converter_definition c) env table es table' es' → NotesIfWrong es es' (Converts c env table table') (IsWrongConverter c env table)
as_noted c env table table' es es' h = grind (arith, common_steps, some_noted 0 (converter_positions c) es es')

module _ (e : TypesRead) (readable : AreReadable e) (defs read rest : List Definition) (env : TypeEnv) (table table' : TermTable) (es es' : List Error) (w : IsWithin table') where
  other : (d : Definition) → converter_of d ≡ [] → (es' ≡ es) × (table' ≡ table) → ReadsTerms e of_converters defs (ConvertersRead e defs read) env table es → ReadsTerms e of_converters defs (ConvertersRead e defs (read ++ d ∷ [])) env table' es'
  other d none same s =
      let trees : converter_trees (read ++ d ∷ []) ≡ converter_trees read = flat_map-append converter_of read (d ∷ []) ∙ ap (λ l. converter_trees read ++ (l ++ [])) none ∙ append-nil (converter_trees read) in
      let go : ConvertersRead e defs read env table → ConvertersRead e defs (read ++ d ∷ []) env table = grind (arith, common_steps) in
      step e of_converters defs (ConvertersRead e defs read) (ConvertersRead e defs (read ++ d ∷ [])) env env table table' es es' (Unit {0}) ⊥ s.left w (inl (same.0, tt))
      (λ h _. subst (ConvertersRead e defs (read ++ d ∷ []) env) (sym same.1) (go h))
      (λ h x. absurd x) s

  next : (d : Definition) → defs ≡ read ++ d ∷ rest → ReadsIfConverter d env table es table' es' → FirstStandsAt (definition_positions d) es es' → ReadsTerms e of_converters defs (ConvertersRead e defs read) env table es → ReadsTerms e of_converters defs (ConvertersRead e defs (read ++ d ∷ [])) env table' es'
  next (converter_definition c) whole a b s =
      step e of_converters defs (ConvertersRead e defs read) (ConvertersRead e defs (read ++ converter_definition c ∷ [])) env env table table' es es' (Converts c env table table') (IsWrongConverter c env table) s.left w (as_noted c env table table' es es' a)
      (λ h x. converter_right e readable defs read c env table s.left h table' x)
      (λ h x. record { positions = definition_positions (converter_definition c); breaks = by_converter read rest c whole (converter_wrong e readable defs read c env table s.left h x); begins = b }) s
  next (declaration d) whole a b s = other (declaration d) refl a s
  next (type_definition d) whole a b s = other (type_definition d) refl a s
  next (extractor_definition d) whole a b s = other (extractor_definition d) refl a s
  next (rule_definition d) whole a b s = other (rule_definition d) refl a s
  next (extern_definition d) whole a b s = other (extern_definition d) refl a s
  next other_definition whole a b s = other other_definition refl a s

-- after the definition at i
pub next_converter : (e : TypesRead) → AreReadable e → (defs : List Def) (i : ℕ) (d : Def) → i < length defs → d ≡ get_or defs i d → (env : TypeEnv) (table table' : TermTable) (es es' : List Error) → IsWithin table'
    → ReadsIfConverter (definition_view d) env table es table' es' → FirstStandsAt (definition_positions (definition_view d)) es es'
    → ReadsTerms e of_converters (definition_views defs) (ConvertersRead e (definition_views defs) (definition_views (take i defs))) env table es
    → ReadsTerms e of_converters (definition_views defs) (ConvertersRead e (definition_views defs) (definition_views (take (i + 1) defs))) env table' es'
next_converter e r defs i d within here env table table' es es' w a b s =
    subst (λ ds. ReadsTerms e of_converters (definition_views defs) (ConvertersRead e (definition_views defs) ds) env table' es') (sym (taken_next defs i d within here))
    (next e r (definition_views defs) (definition_views (take i defs)) (definition_views (drop (i + 1) defs)) env table table' es es' w (definition_view d) (around defs i d within here) a b s)

trees_more : (xs : List Definition) (c : ConverterTree) → converter_trees (xs ++ converter_definition c ∷ []) ≡ converter_trees xs ++ c ∷ []
trees_more xs c = flat_map-append converter_of xs (converter_definition c ∷ [])

trees_same : (xs : List Definition) (d : Definition) → converter_of d ≡ [] → converter_trees (xs ++ d ∷ []) ≡ converter_trees xs
trees_same xs d none = flat_map-append converter_of xs (d ∷ []) ∙ ap (λ l. converter_trees xs ++ (l ++ [])) none ∙ append-nil (converter_trees xs)

-- the converters of these definitions that were taken are those of some others, in which all are right
pub record ConvertsUpTo (e : TypesRead) (defs before : List Definition) (env : TypeEnv) (start : List Error) (table : TermTable) (es : List Error) : Type 0 where
  pub kept : List Definition
  pub reads : ConvertersRead e defs kept env table
  pub has : (p : List ℕ × List ℕ) → Contains (converted_pairs kept) p → IsConvertedBefore e.known defs before p
  pub all : (p : List ℕ × List ℕ) → IsConvertedBefore e.known defs before p → Contains (converted_pairs kept) p
  pub told : NotesEach (TellsOfConverter e.known defs) before start es

module _ (e : TypesRead) (readable : AreReadable e) (defs before : List Definition) (env : TypeEnv) (left : IsLeftByRefusal e (environment_view env)) (start : List Error) (table table' : TermTable) (es es' : List Error) (u : ConvertsUpTo e defs before env start table es) where
  abbrev Tells : List Definition → Definition → List Error → Type 0
  Tells = TellsOfConverter e.known defs

  -- a definition of something else
  passed : (d : Definition) → converter_of d ≡ [] → ((own : List Error) → own ≡ [] → Tells before d own) → (es' ≡ es) × (table' ≡ table) → ConvertsUpTo e defs (before ++ d ∷ []) env start table' es'
  passed d none says a = record {
    kept = u.kept;
    reads = subst (ConvertersRead e defs u.kept env) (sym a.1) u.reads;
    has = λ p h. let b = u.has p h in record { converter = b.converter; there = subst (λ l. Contains l b.converter) (sym (trees_same before d none)) b.there; known = b.known; of_types = b.of_types };
    all = λ p b. u.all p (record { converter = b.converter; there = subst (λ l. Contains l b.converter) (trees_same before d none) b.there; known = b.known; of_types = b.of_types });
    told = noted_more Tells before d start es es' u.told (record { more = []; added = a.0 ∙ sym (append-nil es); says = says [] refl });
  }

  module _ (c : ConverterTree) where
    abbrev here : Definition
    here = converter_definition c

    wider : (p : List ℕ × List ℕ) → IsConvertedBefore e.known defs before p → IsConvertedBefore e.known defs (before ++ here ∷ []) p
    wider p b = record { converter = b.converter; there = subst (λ l. Contains l b.converter) (sym (trees_more before c)) (Contains-append_left (converter_trees before) (c ∷ []) b.converter b.there); known = b.known; of_types = b.of_types }

    -- one that is taken
    taken : es' ≡ es → Converts c env table table' → ConvertsUpTo e defs (before ++ here ∷ []) env start table' es'
    taken same a =
        let right = converter_right e readable defs u.kept c env table left u.reads table' a in
        let pairs : converted_pairs (u.kept ++ here ∷ []) ≡ converted_pairs u.kept ++ pair_of c ∷ [] = ap (map pair_of) (trees_more u.kept c) ∙ map-append pair_of (converter_trees u.kept) (c ∷ []) in
        let known : IsKnownConverter e.known defs c = All-contains (IsKnownConverter e.known defs) (converter_trees (u.kept ++ here ∷ [])) c right.known (subst (λ l. Contains l c) (sym (trees_more u.kept c)) (Contains-append_right (converter_trees u.kept) (c ∷ []) c (in_head c []))) in
        let own : IsConvertedBefore e.known defs (before ++ here ∷ []) (pair_of c) = record { converter = c; there = subst (λ l. Contains l c) (sym (trees_more before c)) (Contains-append_right (converter_trees before) (c ∷ []) c (in_head c [])); known = known; of_types = refl } in
        record {
          kept = u.kept ++ here ∷ [];
          reads = right;
          has = λ p h. ⊎_elim (λ first. wider p (u.has p first)) (λ last. subst (IsConvertedBefore e.known defs (before ++ here ∷ [])) (in_alone (pair_of c) p last) own)
              (Contains-append_cases (converted_pairs u.kept) (pair_of c ∷ []) p (subst (λ l. Contains l p) pairs h));
          all = λ p b. subst (λ l. Contains l p) (sym pairs)
              (⊎_elim (λ first. Contains-append_left (converted_pairs u.kept) (pair_of c ∷ []) p (u.all p (record { converter = b.converter; there = first; known = b.known; of_types = b.of_types })))
              (λ last. Contains-append_right (converted_pairs u.kept) (pair_of c ∷ []) p (subst (λ q. Contains (pair_of c ∷ []) q) (ap pair_of (in_alone c b.converter last) ∙ b.of_types) (in_head (pair_of c) [])))
              (Contains-append_cases (converter_trees before) (c ∷ []) b.converter (subst (λ l. Contains l b.converter) (trees_more before c) b.there)));
          told = noted_more Tells before here start es es' u.told (record {
            more = [];
            added = same ∙ sym (append-nil es);
            says = inl (record { known = known; first = λ b. let g = get_from_member (converted_pairs u.kept) (pair_of c) (u.all (pair_of c) b) in fresh e readable defs u.kept c env table left u.reads table' a g.0 g.1 }, refl);
          });
        }

    -- one that is refused
    refused : T.Notes 1 (converter_positions c) es es' → table' ≡ table → IsWrongConverter c env table → ConvertsUpTo e defs (before ++ here ∷ []) env start table' es'
    refused n same wrong =
        let why = converter_wrong e readable defs u.kept c env table left u.reads wrong in
        record {
          kept = u.kept;
          reads = subst (ConvertersRead e defs u.kept env) (sym same) u.reads;
          has = λ p h. wider p (u.has p h);
          all = λ p b. ⊎_elim (λ first. u.all p (record { converter = b.converter; there = first; known = b.known; of_types = b.of_types }))
              (λ last. let is = in_alone c b.converter last in subst (Contains (converted_pairs u.kept)) (ap pair_of is ∙ b.of_types) (second why (subst (IsKnownConverter e.known defs) (sym is) b.known)))
              (Contains-append_cases (converter_trees before) (c ∷ []) b.converter (subst (λ l. Contains l b.converter) (trees_more before c) b.there));
          told = noted_more Tells before here start es es' u.told (record { more = n.more; added = n.added; says = inr (λ r. r.first (u.has (pair_of c) (second why r.known)), n.tells) });
        }
      where
        second : BreaksConverter e.known defs u.kept c → IsKnownConverter e.known defs c → Contains (converted_pairs u.kept) (pair_of c)
        second h known = grind (arith, common_steps)

  up_to : (d : Definition) → ReadsIfConverter d env table es table' es' → ConvertsUpTo e defs (before ++ d ∷ []) env start table' es'
  up_to (converter_definition c) (inl a) = taken c a.0 a.1
  up_to (converter_definition c) (inr a) = refused c a.0 a.1 a.2
  up_to (declaration d) a = passed (declaration d) refl (λ own none. none) a
  up_to (type_definition d) a = passed (type_definition d) refl (λ own none. none) a
  up_to (extractor_definition d) a = passed (extractor_definition d) refl (λ own none. none) a
  up_to (rule_definition d) a = passed (rule_definition d) refl (λ own none. none) a
  up_to (extern_definition d) a = passed (extern_definition d) refl (λ own none. none) a
  up_to other_definition a = passed other_definition refl (λ own none. none) a

-- after the definition at i
pub told_converter : (e : TypesRead) → AreReadable e → (defs : List Def) (i : ℕ) (d : Def) → i < length defs → d ≡ get_or defs i d → (env : TypeEnv) → IsLeftByRefusal e (environment_view env) → (start : List Error) (table table' : TermTable) (es es' : List Error)
    → ReadsIfConverter (definition_view d) env table es table' es' → ConvertsUpTo e (definition_views defs) (definition_views (take i defs)) env start table es → ConvertsUpTo e (definition_views defs) (definition_views (take (i + 1) defs)) env start table' es'
told_converter e r defs i d within here env left start table table' es es' a u =
    subst (λ ds. ConvertsUpTo e (definition_views defs) ds env start table' es') (sym (taken_next defs i d within here))
    (up_to e r (definition_views defs) (definition_views (take i defs)) env left start table table' es es' u (definition_view d) a)

-- before the first one
pub told_start : (e : TypesRead) (defs : List Definition) (env : TypeEnv) (table : TermTable) (es : List Error) → es ≡ [] → ReadsTerms e of_converters defs (ConvertersRead e defs []) env table es → ConvertsUpTo e defs [] env es table es
told_start e defs env table es none s = grind (arith, common_steps, nothing_in, noted_none (TellsOfConverter e.known defs) es)

-- all errors are those that are told of each, where there was none before
pub all_new : (Says : List Definition → Definition → List Error → Type 0) (defs : List Definition) (es es' : List Error) → es ≡ [] → NotesEach Says defs es es' → T.Told Says defs es'
all_new Says defs es es' none n = subst (T.Told Says defs) (sym (n.added ∙ ap (λ l. l ++ n.more) none)) n.told

-- what is looked up at a pair of types, after one more
pub read_conversions : (old new : Entries (TypeId × TypeId) TermId) (a b : TypeId) (t : TermId) → ((x : TypeId × TypeId) → look_up same_types new x ≡ cond (same_types (a, b) x) (Some t) (look_up same_types old x))
    → (i o : ℕ) → option_map (λ u. u.0) (look_up same_types new (type_by_id i, type_by_id o)) ≡ cond ((a.0 == i) && (b.0 == o)) (Some t.0) (option_map (λ u. u.0) (look_up same_types old (type_by_id i, type_by_id o)))
read_conversions old new a b t has i o = grind (arith, common_steps)
