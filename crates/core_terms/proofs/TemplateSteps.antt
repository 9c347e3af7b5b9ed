-- Reading internal extractors by types that are handed in, one definition after another.
use Rattle.std.proofs.Common.{◌≡◌, ◌≢◌, ◌&&◌, ◌==◌, ℕ, ◌+◌, ◌<◌, not, Bool, true, false, cond, List, [], ◌∷◌, ◌++◌, ◌⊎◌, length, take, drop, get_or, map, slice_get, Option, None, Some, is_some, unwrap_or, option_map, Contains, Vec, refl, sym, ap, subst, ◌∙◌, inl, inr, eqb-true, arith}
use Rattle.std.specs.List.{find}
use Rattle.std.specs.Str.{bytes_eq}
use Rattle.std.specs.declared.alloc.Global.{Global}
use Rattle.std.proofs.lemmas.Bool.{false≢true}
use Rattle.std.proofs.lemmas.Bool.Decides.{Decides-eqb}
use Rattle.std.proofs.lemmas.List.{append-nil, length-map, map-append}
use Rattle.std.proofs.lemmas.List.Concat.{flat_map-append}
use Rattle.std.proofs.lemmas.List.Elements.{All-push, All-weaker, Contains-append_left, Contains-push, Contains-push_cases}
use Rattle.std.proofs.lemmas.List.Sorted.{Contains-permutation, IsPermutation-sym}
use Rattle.std.proofs.lemmas.Option.{same_Some}
use Rattle.std.proofs.lemmas.Grind.{common_steps}
use Rattle.model.specs.lists.Syntax.{Name, DeclTree, ExtractorTree, Definition, type_definition, declaration, extractor_definition, converter_definition, rule_definition, extern_definition, other_definition}
use Rattle.model.specs.lists.Names.{IsDistinct}
use Rattle.model.specs.lists.Tables.{ConstructorEntry, ExtractorEntry, internal_extractor, TermKindEntry, declared_term, TermEntry}
use Rattle.model.specs.lists.TypeTable.{place_from}
use Rattle.model.specs.lists.KnownTypes.{known_type}
use Rattle.model.specs.lists.TermTable.{decl_flags, decl_names, decl_named, decl_trees, rule_trees, extractor_of, extractor_trees, extractor_template, terms_in, arguments_in, argument_count, term_names, term_names_met, term_named, is_declared_multi, IsDeclaredTerm, IsKnownTerm, IsOfPlainTerm, NamesKnownTerms, HoldsNoMacroArg, UsesDeclaredArguments}
use Rattle.model.specs.claims.Environments.{TypesRead, AreReadable, IsLeftByRefusal}
use Rattle.model.proofs.FirstPlaces.{place_next}
use Rattle.model.proofs.Members.{in_map, get_from_member, member_from_get}
use Rattle.model.proofs.Positions.{distinct_push}
use Rattle.core_syntax.specs.declared.syntax.Def.{Def}
use Rattle.core_syntax.specs.declared.syntax.Error.{Error}
use Rattle.core_syntax.specs.Positions.{definition_positions}
use Rattle.core_syntax.specs.SyntaxViews.{definition_view, definition_views}
use Rattle.core_types.specs.declared.ids.TermId.{TermId}
use Rattle.core_types.specs.declared.type_env.TypeEnv.{TypeEnv}
use Rattle.core_types.specs.Envs.{IsInterned}
use Rattle.core_types.specs.EnvViews.{environment_view}
use Rattle.core_terms.specs.declared.term_table.TermTable.{TermTable}
use Rattle.core_terms.specs.Reading.{IsWithin, term_of_name}
use Rattle.core_terms.specs.TermBreaches.{of_definitions, FirstStandsAt, BreaksExtractor, extractor_of_none, second_extractor, extractor_of_multi, unknown_term, holds_macro_arg, by_extractor}
use Rattle.core_terms.specs.Stages.{constructor_after, place_among}
use Rattle.core_terms.specs.Signing.{ReadsTerms, declared_so_far}
use Rattle.core_terms.specs.ReadTerms.{Stand, is_declared_kind}
use Rattle.core_terms.specs.Converting.{template_after}
use Rattle.core_terms.specs.Externing.{taken_by_this, with_kind}
use Rattle.core_terms.specs.Templating.{callees_of, may_have_template, AreArguments, AreRightExtractors, CallsAreOf, IsCall, IsExtractor, IsFoundTerm, IsWrongOfTerm, ReadsIfTemplate, TemplatesRead}
use Rattle.core_terms.proofs.Changing.{place_at}
use Rattle.core_terms.proofs.Declaring.{taken_next, around}
use Rattle.core_terms.proofs.FirstOfTerm.{known_other, known_new, not_known, was_known, none_stands}
use Rattle.core_terms.proofs.ErrorSteps.{step}
use Rattle.core_terms.proofs.Rooting.{one_before}
use Rattle.core_terms.proofs.ReadTerms.{entry_found, nothing_found, stands_on, term_is}
use Rattle.core_terms.proofs.TemplateNames.{found_all, found_one, name_found}
use Rattle.core_terms.proofs.TypesStaying.{left_interned}

abbrev text_of : DeclTree → List ℕ
text_of d = d.term.text

abbrev extracted_by : ExtractorTree → List ℕ
extracted_by x = x.term.text

abbrev template_entry : ExtractorTree → ExtractorEntry
template_entry x = internal_extractor (extractor_template x)

abbrev nowhere : List ℕ → Bool
nowhere x = false

abbrev by_nothing : List ℕ → Option ExtractorEntry
by_nothing x = None

-- a declaration is the first one of its name
decl_is : (ds : List DeclTree) (x : List ℕ) (id : ℕ) (d : DeclTree) → place_among (map text_of ds) x ≡ Some id → slice_get ds id ≡ Some d → find (λ c. bytes_eq c.term.text x) ds ≡ Some d
decl_is [] x id d p at = absurd (cc)
decl_is (c ∷ cs) x id d p at =
    elim (bytes_eq c.term.text x) as (λ b. cond b (Some 0) (place_from 1 x (map text_of cs)) ≡ Some id → cond b (Some c) (find (λ c. bytes_eq c.term.text x) cs) ≡ Some d) [
      | true ↦ λ h. let first : 0 ≡ id = same_Some 0 id h in ap (slice_get (c ∷ cs)) first ∙ at
      | false ↦ grind (arith, common_steps, decl_is cs x, one_before (place_among (map text_of cs) x) id, place_next 0 x (map text_of cs))
    ] p

and_both : (a b : Bool) → (a && b) ≡ true → (a ≡ true) × (b ≡ true)
and_both a b h = grind (arith, common_steps)

and_fails : (a b : Bool) → (a && b) ≡ false → (a ≡ false) ⊎ (b ≡ false)
and_fails a b h = grind (arith, common_steps)

-- a term that may have a template is a declared one
template_lacks : (k : TermKindEntry) → may_have_template k ≡ true → is_declared_kind k ≡ false → ⊥
template_lacks k h o = grind arith

-- two names of one term are one
pub one_name : (names : List (List ℕ)) (x y : List ℕ) (t : ℕ) → place_from 0 x names ≡ Some t → place_from 0 y names ≡ Some t → x ≡ y
one_name names x y t h g = grind (arith, common_steps, same_Some x y, place_at 0 t x names t, place_at 0 t y names t)

module _ (e : TypesRead) (readable : AreReadable e) (defs read rest : List Definition) (x : ExtractorTree) (whole : defs ≡ read ++ extractor_definition x ∷ rest) (env : TypeEnv) (old : TermTable) (callees : List (Vec TermId Global)) (left : IsLeftByRefusal e (environment_view env)) (s : TemplatesRead e defs read callees env old) where
  abbrev seen : List ExtractorTree
  seen = extractor_trees read

  more : extractor_trees (read ++ extractor_definition x ∷ []) ≡ seen ++ x ∷ []
  more = flat_map-append extractor_of read (extractor_definition x ∷ [])

  abbrev made : List ℕ → Option ConstructorEntry
  made = constructor_after (rule_trees defs)

  abbrev taken : List ℕ → Option ExtractorEntry
  taken = template_after seen

  interned : IsInterned env
  interned = left_interned e readable env left

  term_of : (n : Name) → term_of_name env old n ≡ term_named e.known defs n.text
  term_of n = term_is e defs (decl_names defs) made taken env old interned s.stand n

  -- what is said of the declaration of its term
  module _ (id : ℕ) (d : DeclTree) (at : slice_get (decl_trees defs) id ≡ Some d) (place : place_among (decl_names defs) x.term.text ≡ Some id) where
    declared_as : decl_named defs x.term.text ≡ Some d
    declared_as = decl_is (decl_trees defs) x.term.text id d place at

    multi_is : is_declared_multi defs x.term.text ≡ d.multi
    multi_is = ap (λ o. unwrap_or (option_map (λ d. d.multi) o) false) declared_as

    count_is : argument_count defs x.term.text ≡ length (map (known_type e.known) d.arg_tys)
    count_is = ap (λ o. unwrap_or (option_map (λ d. length d.arg_tys) o) 0) declared_as ∙ sym (length-map d.arg_tys (known_type e.known))

  abbrev entry_so_far : DeclTree → ℕ → TermEntry
  entry_so_far = declared_so_far e.known (term_names_met e.known defs) made taken

  module _ (new : TermTable) (callees' : List (Vec TermId Global)) (a : IsExtractor x env old new callees callees') where
    here : term_named e.known defs x.term.text ≡ Some a.id
    here = sym (term_of x.term) ∙ a.found

    names : map Some a.is.named ≡ map (λ n. term_named e.known defs n.text) (terms_in x.template)
    names = grind (arith, common_steps, term_of)

    -- the terms that it names are told of its own term
    new_calls : find (λ y. bytes_eq y.term.text x.term.text) seen ≡ None → CallsAreOf e defs (seen ++ x ∷ []) callees'
    new_calls none = record { there = there; said = said }
      where
        other_term : (y : ExtractorTree) (t : ℕ) → Contains seen y → term_named e.known defs y.term.text ≡ Some t → t ≢ a.id
        other_term y t c h same =
            let text : y.term.text ≡ x.term.text = one_name (term_names e.known defs) y.term.text x.term.text a.id (h ∙ ap Some same) here in
            let g = get_from_member (map extracted_by seen) x.term.text (subst (Contains (map extracted_by seen)) text (in_map extracted_by seen y c)) in
            none_stands extracted_by nowhere by_nothing template_entry seen x.term.text none g.0 g.1

        there : (t u : ℕ) → IsCall e defs (seen ++ x ∷ []) t u → Contains (callees_of callees' t) u
        there t u c =
            elim (Contains-push_cases seen x c.definition c.there) [
              | inl i ↦
                  let before : Contains (callees_of callees t) u = s.calls.there t u (record { definition = c.definition; there = i; of_term = c.of_term; name = c.name; calls = c.calls; is_term = c.is_term }) in
                  subst (λ l. Contains l u) (sym (a.is.sets.others t (other_term c.definition t i c.of_term))) before
              | inr same ↦
                  let at_id : a.id ≡ t = same_Some a.id t (sym here ∙ ap (λ (y : ExtractorTree). term_named e.known defs y.term.text) same ∙ c.of_term) in
                  let calls : Contains (terms_in x.template) c.name = subst (λ (y : ExtractorTree). Contains (terms_in y.template) c.name) (sym same) c.calls in
                  let named : Contains a.is.named u = found_one (λ n. term_named e.known defs n.text) (terms_in x.template) a.is.named c.name u names calls c.is_term in
                  subst (λ k. Contains (callees_of callees' k) u) at_id (Contains-permutation a.is.named (callees_of callees' a.id) u a.is.sets.this named)
            ]

        at_term : (u : ℕ) → Contains (callees_of callees' a.id) u → IsCall e defs (seen ++ x ∷ []) a.id u
        at_term u c =
            let named : Contains a.is.named u = Contains-permutation (callees_of callees' a.id) a.is.named u (IsPermutation-sym a.is.named (callees_of callees' a.id) a.is.sets.this) c in
            let n = name_found (λ n. term_named e.known defs n.text) (terms_in x.template) a.is.named u names named in
            record { definition = x; there = Contains-push seen x; of_term = here; name = n.0; calls = n.1; is_term = n.2 }

        at_other : (t u : ℕ) → t ≢ a.id → Contains (callees_of callees' t) u → IsCall e defs (seen ++ x ∷ []) t u
        at_other t u other c =
            let i = s.calls.said t u (subst (λ l. Contains l u) (a.is.sets.others t other) c) in
            record { definition = i.definition; there = Contains-append_left seen (x ∷ []) i.definition i.there; of_term = i.of_term; name = i.name; calls = i.calls; is_term = i.is_term }

        said : (t u : ℕ) → Contains (callees_of callees' t) u → IsCall e defs (seen ++ x ∷ []) t u
        said t u c =
            elim (t == a.id) as (λ b. (t == a.id) ≡ b → IsCall e defs (seen ++ x ∷ []) t u) [
              | true ↦ λ h.
                  let same : t ≡ a.id = eqb-true t a.id h in
                  subst (λ k. IsCall e defs (seen ++ x ∷ []) k u) (sym same) (at_term u (subst (λ k. Contains (callees_of callees' k) u) same c))
              | false ↦ λ h. at_other t u (λ same. false≢true (sym h ∙ (Decides-eqb t a.id).1 same)) c
            ] refl

    template_right : TemplatesRead e defs (read ++ extractor_definition x ∷ []) callees' env new
    template_right =
        elim (entry_found e defs (decl_names defs) made taken env old interned s.stand x.term a.id a.is.takes.entry a.found a.is.takes.at) [
          | inr q ↦ absurd (template_lacks a.is.takes.entry.kind a.is.takes.passes q.1)
          | inl q ↦ of_declaration q.0 q.1 q.2 q.3 q.4
        ]
      where
        of_declaration : (d : DeclTree) → slice_get (decl_trees defs) a.id ≡ Some d → d.term.text ≡ x.term.text → place_among (decl_names defs) x.term.text ≡ Some a.id → a.is.takes.entry ≡ entry_so_far d a.id → TemplatesRead e defs (read ++ extractor_definition x ∷ []) callees' env new
        of_declaration d at text place entry =
            let both : (not (is_some (taken d.term.text)) && not d.multi) ≡ true = ap (λ (t : TermEntry). may_have_template t.kind) (sym entry) ∙ a.is.takes.passes in
            let passes = and_both (not (is_some (taken d.term.text))) (not d.multi) both in
            let untaken : not (is_some (taken x.term.text)) ≡ true = ap (λ y. not (is_some (taken y))) (sym text) ∙ passes.0 in
            let free = not_known extracted_by nowhere by_nothing template_entry seen x.term.text (λ h. absurd (false≢true h)) untaken in
            let plain : IsOfPlainTerm defs x = ap not (multi_is a.id d at place) ∙ passes.1 in
            let count : length a.is.takes.entry.arg_tys ≡ argument_count defs x.term.text = ap (λ (t : TermEntry). length t.arg_tys) entry ∙ sym (count_is a.id d at place) in
            record {
              stand = subst (λ es. Stand e defs (decl_names defs) made (template_after es) env new) (sym more)
                  (stands_on e defs (decl_names defs) made taken env old interned s.stand x.term.text a.id (with_kind (taken_by_this (template_entry x))) made (template_after (seen ++ x ∷ [])) new place a.is.takes.changes
                  (λ t j h. ap (λ m. record (declared_so_far e.known (term_names_met e.known defs) made taken t j) { kind = declared_term (decl_flags t) (made t.term.text) m }) (known_other extracted_by nowhere by_nothing template_entry seen x t.term.text h))
                  (λ t j h. ap (λ m. record (declared_so_far e.known (term_names_met e.known defs) made taken t j) { kind = declared_term (decl_flags t) (made t.term.text) m }) (known_new extracted_by nowhere by_nothing template_entry seen x t.term.text refl free.1 h)));
              roots = s.roots;
              right = subst (AreRightExtractors e defs) (sym more) (record {
                terms = All-push (λ y. IsDeclaredTerm defs y.term) seen x s.right.terms (ap is_some place);
                plain = All-push (IsOfPlainTerm defs) seen x s.right.plain plain;
                known = All-push (NamesKnownTerms e.known defs) seen x s.right.known (found_all (λ n. term_named e.known defs n.text) (terms_in x.template) a.is.named names);
                no_macro_args = All-push HoldsNoMacroArg seen x s.right.no_macro_args a.is.no_macro_args;
                arguments = All-push (UsesDeclaredArguments defs) seen x s.right.arguments (subst (λ n. AreArguments n (arguments_in (extractor_template x))) count a.is.takes.arguments);
                distinct = subst IsDistinct (sym (map-append extracted_by seen (x ∷ []))) (distinct_push (map extracted_by seen) x.term.text s.right.distinct (none_stands extracted_by nowhere by_nothing template_entry seen x.term.text free.1));
              });
              calls = subst (λ es. CallsAreOf e defs es callees') (sym more) (new_calls free.1);
              converters = rw a.is.takes.changes.converters s.converters;
            }

  cant_take : (id : ℕ) (entry : TermEntry) (d : DeclTree) → slice_get (decl_trees defs) id ≡ Some d → d.term.text ≡ x.term.text → place_among (decl_names defs) x.term.text ≡ Some id → entry ≡ entry_so_far d id
      → (may_have_template entry.kind ≡ false) ⊎ (AreArguments (length entry.arg_tys) (arguments_in (extractor_template x)) → ⊥) → BreaksExtractor e.known defs read x
  cant_take id entry d at text place is (inl f) =
      let either : (not (is_some (taken d.term.text)) && not d.multi) ≡ false = ap (λ (t : TermEntry). may_have_template t.kind) (sym is) ∙ f in
      elim (and_fails (not (is_some (taken d.term.text))) (not d.multi) either) [
        | inl known ↦
            let there = was_known extracted_by nowhere by_nothing template_entry seen x.term.text (ap (λ y. not (is_some (taken y))) (sym text) ∙ known) in
            elim there [
              | inl h ↦ absurd (false≢true h)
              | inr h ↦ second_extractor (member_from_get (map extracted_by seen) h.0 x.term.text h.1)
            ]
        | inr multi ↦ extractor_of_multi (λ plain. false≢true (sym (ap not (multi_is id d at place) ∙ multi) ∙ plain))
      ]
  cant_take id entry d at text place is (inr past) = grind (arith, common_steps, count_is id d at place)

  template_wrong : (term_of_name env old x.term ≡ None) ⊎ IsWrongOfTerm x env old → BreaksExtractor e.known defs read x
  template_wrong (inl none) = extractor_of_none (λ declared. false≢true (sym (ap is_some (nothing_found e defs (decl_names defs) made taken env old interned s.stand x.term none)) ∙ declared))
  template_wrong (inr m) =
      elim m.wrong [
        | inl macro_arg ↦ holds_macro_arg macro_arg
        | inr w ↦ elim w [
          | inl unknown ↦ unknown_term (λ known. unknown (All-weaker (IsKnownTerm e.known defs) (IsFoundTerm env old) (λ n h. ap is_some (term_of n) ∙ h) (terms_in x.template) known))
          | inr c ↦ elim (entry_found e defs (decl_names defs) made taken env old interned s.stand x.term m.id c.entry m.found c.at) [
            | inr q ↦ extractor_of_none (λ declared. false≢true (sym (ap is_some q.0) ∙ declared))
            | inl q ↦ cant_take m.id c.entry q.0 q.1 q.2 q.3 q.4 c.fails
          ]
        ]
      ]

module _ (e : TypesRead) (readable : AreReadable e) (defs read rest : List Definition) (env : TypeEnv) (table table' : TermTable) (callees callees' : List (Vec TermId Global)) (es es' : List Error) (b : Bool) (w : IsWithin table') where
  abbrev Goes : Definition → TypeEnv → TermTable → Type 0
  Goes d env table = (b ≡ true) × TemplatesRead e defs (read ++ d ∷ []) callees' env table

  other : (d : Definition) → extractor_of d ≡ [] → (es' ≡ es) × (table' ≡ table) × (callees' ≡ callees) × (b ≡ true) → ReadsTerms e of_definitions defs (TemplatesRead e defs read callees) env table es → ReadsTerms e of_definitions defs (Goes d) env table' es'
  other d none same s =
      let trees : extractor_trees (read ++ d ∷ []) ≡ extractor_trees read = flat_map-append extractor_of read (d ∷ []) ∙ ap (λ l. extractor_trees read ++ (l ++ [])) none ∙ append-nil (extractor_trees read) in
      let go : TemplatesRead e defs read callees env table → TemplatesRead e defs (read ++ d ∷ []) callees env table = grind (arith, common_steps) in
      step e of_definitions defs (TemplatesRead e defs read callees) (Goes d) env env table table' es es' (Unit {0}) ⊥ s.left w (inl (same.0, tt))
      (λ h _. (same.3, subst (λ cs. TemplatesRead e defs (read ++ d ∷ []) cs env table') (sym same.2) (subst (TemplatesRead e defs (read ++ d ∷ []) callees env) (sym same.1) (go h))))
      (λ h x. absurd x) s

  next : (d : Definition) → defs ≡ read ++ d ∷ rest → ReadsIfTemplate d env table callees es table' callees' es' b → FirstStandsAt (definition_positions d) es es' → ReadsTerms e of_definitions defs (TemplatesRead e defs read callees) env table es → ReadsTerms e of_definitions defs (Goes d) env table' es'
  next (extractor_definition x) whole a f s =
      step e of_definitions defs (TemplatesRead e defs read callees) (Goes (extractor_definition x)) env env table table' es es' ((b ≡ true) × IsExtractor x env table table' callees callees') ((term_of_name env table x.term ≡ None) ⊎ IsWrongOfTerm x env table) s.left w a
      (λ h r. (r.0, template_right e readable defs read rest x whole env table callees s.left h table' callees' r.1))
      (λ h r. record { positions = definition_positions (extractor_definition x); breaks = by_extractor read rest x whole (template_wrong e readable defs read rest x whole env table callees s.left h r); begins = f }) s
  next (declaration d) whole a f s = other (declaration d) refl a s
  next (type_definition d) whole a f s = other (type_definition d) refl a s
  next (converter_definition d) whole a f s = other (converter_definition d) refl a s
  next (rule_definition d) whole a f s = other (rule_definition d) refl a s
  next (extern_definition d) whole a f s = other (extern_definition d) refl a s
  next other_definition whole a f s = other other_definition refl a s

-- after the definition at i
pub next_template : (e : TypesRead) → AreReadable e → (defs : List Def) (i : ℕ) (d : Def) → i < length defs → d ≡ get_or defs i d → (env : TypeEnv) (table table' : TermTable) (callees callees' : List (Vec TermId Global)) (es es' : List Error) (b : Bool) → IsWithin table'
    → ReadsIfTemplate (definition_view d) env table callees es table' callees' es' b → FirstStandsAt (definition_positions (definition_view d)) es es'
    → ReadsTerms e of_definitions (definition_views defs) (TemplatesRead e (definition_views defs) (definition_views (take i defs)) callees) env table es
    → ReadsTerms e of_definitions (definition_views defs) (λ env table. (b ≡ true) × TemplatesRead e (definition_views defs) (definition_views (take (i + 1) defs)) callees' env table) env table' es'
next_template e r defs i d within here env table table' callees callees' es es' b w a f s =
    subst (λ ds. ReadsTerms e of_definitions (definition_views defs) (λ env table. (b ≡ true) × TemplatesRead e (definition_views defs) ds callees' env table) env table' es') (sym (taken_next defs i d within here))
    (next e r (definition_views defs) (definition_views (take i defs)) (definition_views (drop (i + 1) defs)) env table table' callees callees' es es' b w (definition_view d) (around defs i d within here) a f s)
