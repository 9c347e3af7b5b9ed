-- Reading external constructors and extractors by types that are handed in, one definition after another.
use Rattle.std.proofs.Common.{◌≡◌, ℕ, ◌+◌, ◌<◌, not, Bool, true, false, List, [], ◌∷◌, ◌++◌, ◌⊎◌, length, take, drop, get_or, map, slice_get, Option, None, Some, is_some, option_map, Contains, refl, sym, ap, subst, ◌∙◌, inl, inr, arith}
use Rattle.std.specs.List.{find, flat_map}
use Rattle.std.specs.Str.{bytes_eq}
use Rattle.std.proofs.lemmas.Bool.{false≢true}
use Rattle.std.proofs.lemmas.List.{append_assoc, append-nil, map-append}
use Rattle.std.proofs.lemmas.List.Concat.{flat_map-append}
use Rattle.std.proofs.lemmas.List.Elements.{All-push, Contains-append_left, Contains-append_right, Contains-append_cases}
use Rattle.std.proofs.lemmas.Grind.{common_steps}
use Rattle.model.specs.lists.Syntax.{Name, Position, ExtractorTree, Definition, type_definition, declaration, extractor_definition, converter_definition, rule_definition, extern_definition, other_definition, extern_constructor, extern_extractor, extern_const}
use Rattle.model.specs.lists.Names.{number, has_name, with_name, with_names, IsDistinct}
use Rattle.model.specs.lists.Tables.{ConstructorEntry, internal_constructor, external_constructor, ExtractorEntry, internal_extractor, external_extractor, TermKindEntry, declared_term, TermEntry}
use Rattle.model.specs.lists.TermTable.{ConstructorTree, ExternalTree, decl_flags, decl_names, function_of, external_constructor_of, external_extractor_of, constructor_trees, external_trees, extractor_trees, internal_extractors, extractor_template, has_rules, term_names_met, IsDeclaredTerm, IsWithoutRules}
use Rattle.model.specs.claims.Environments.{TypesRead, AreReadable, IsLeftByRefusal}
use Rattle.model.proofs.Members.{member_from_get, get_from_member}
use Rattle.model.proofs.Names.{found, absent, number_stays, with_names_append}
use Rattle.model.proofs.Positions.{distinct_push}
use Rattle.core_syntax.specs.declared.syntax.Def.{Def}
use Rattle.core_syntax.specs.declared.syntax.Error.{Error}
use Rattle.core_syntax.specs.Stable.{look_up}
use Rattle.core_syntax.specs.Positions.{definition_positions}
use Rattle.core_syntax.specs.SyntaxViews.{definition_view, definition_views}
use Rattle.core_types.specs.declared.type_env.TypeEnv.{TypeEnv}
use Rattle.core_types.specs.Envs.{names_of, IsInterned}
use Rattle.core_types.specs.EnvViews.{environment_view}
use Rattle.core_terms.specs.declared.term_table.TermTable.{TermTable}
use Rattle.core_terms.specs.TermBreaches.{of_externs, FirstStandsAt, BreaksConstructor, constructor_of_none, beside_rules, second_constructor, BreaksExternal, external_of_none, second_taker, by_constructor, by_external}
use Rattle.core_terms.specs.TermTables.{same_types}
use Rattle.core_terms.specs.Reading.{IsWithin, Interns, MayIntern, term_of_name}
use Rattle.core_terms.specs.Signing.{ReadsTerms, declared_so_far}
use Rattle.core_terms.specs.ReadTerms.{Stand, is_declared_kind}
use Rattle.core_terms.specs.Converting.{type_by_id}
use Rattle.core_terms.specs.Externing.{lacks_constructor, lacks_extractor, made_by_this, taken_by_this, with_kind, ChangesKind, HasOtherKind}
use Rattle.core_terms.specs.ExternStages.{function_after, external_after, AreRightConstructors, AreRightExternals, ExternsRead, ReadsIfExtern}
use Rattle.core_terms.proofs.Declaring.{taken_next, around}
use Rattle.core_terms.proofs.FirstOfTerm.{known_other, known_new, not_known, was_known, none_stands}
use Rattle.core_terms.proofs.ErrorSteps.{step}
use Rattle.core_terms.proofs.ReadTerms.{entry_found, nothing_found, stands_on, stands_named}
use Rattle.core_terms.proofs.TypesStaying.{left_interned, left_more}

-- a definition that says nothing of this kind adds nothing
nothing_more : {X : Type 0} (f : Definition → List X) (read : List Definition) (d : Definition) → f d ≡ [] → flat_map f (read ++ d ∷ []) ≡ flat_map f read
nothing_more f read d none = flat_map-append f read (d ∷ []) ∙ ap (λ l. flat_map f read ++ (l ++ [])) none ∙ append-nil (flat_map f read)

-- a kind that passes is that of a declared term
constructor_lacks : (k : TermKindEntry) → lacks_constructor k ≡ true → is_declared_kind k ≡ false → ⊥
constructor_lacks k h o = grind arith

extractor_lacks : (k : TermKindEntry) → lacks_extractor k ≡ true → is_declared_kind k ≡ false → ⊥
extractor_lacks k h o = grind arith

abbrev constructed_by : ConstructorTree → List ℕ
constructed_by c = c.term.text

abbrev extracted_by : ExternalTree → List ℕ
extracted_by t = t.term.text

-- an external constructor is read while all terms stand
module _ (e : TypesRead) (defs : List Definition) (cs : List ConstructorTree) (c : ConstructorTree) (met : List (List ℕ)) (taken : List ℕ → Option ExtractorEntry) (env : TypeEnv) (table : TermTable) (i : IsInterned env) (s : Stand e defs met (function_after e defs cs) taken env table) (r : AreRightConstructors defs cs) where
  abbrev function_entry : ConstructorTree → ConstructorEntry
  function_entry t = external_constructor (number (term_names_met e.known defs) t.function.text)

  abbrev by_rules : List ℕ → Option ConstructorEntry
  by_rules x = Some internal_constructor

  pub constructor_right : (new : TermTable) → ChangesKind lacks_constructor (made_by_this (function_entry c)) c.term env table new
      → Stand e defs met (function_after e defs (cs ++ c ∷ [])) taken env new × AreRightConstructors defs (cs ++ c ∷ [])
  constructor_right new a =
      elim (entry_found e defs met (function_after e defs cs) taken env table i s c.term a.id a.entry a.found a.at) [
        | inr q ↦ absurd (constructor_lacks a.entry.kind a.passes q.1)
        | inl q ↦
            let passes : not (is_some (function_after e defs cs c.term.text)) ≡ true = ap (λ x. not (is_some (function_after e defs cs x))) (sym q.2) ∙ ap (λ (t : TermEntry). lacks_constructor t.kind) (sym q.4) ∙ a.passes in
            let free = not_known constructed_by (has_rules defs) by_rules function_entry cs c.term.text (λ _. refl) passes in (
              stands_on e defs met (function_after e defs cs) taken env table i s c.term.text a.id (with_kind (made_by_this (function_entry c))) (function_after e defs (cs ++ c ∷ [])) taken new q.3 a.changes
                  (λ d j h. ap (λ m. record (declared_so_far e.known (term_names_met e.known defs) (function_after e defs cs) taken d j) { kind = declared_term (decl_flags d) m (taken d.term.text) }) (known_other constructed_by (has_rules defs) by_rules function_entry cs c d.term.text h))
                  (λ d j h. ap (λ m. record (declared_so_far e.known (term_names_met e.known defs) (function_after e defs cs) taken d j) { kind = declared_term (decl_flags d) m (taken d.term.text) }) (known_new constructed_by (has_rules defs) by_rules function_entry cs c d.term.text free.0 free.1 h)),
              record {
                terms = All-push (λ t. IsDeclaredTerm defs t.term) cs c r.terms (ap is_some q.3);
                without_rules = All-push (IsWithoutRules defs) cs c r.without_rules (ap not free.0);
                distinct = subst IsDistinct (sym (map-append constructed_by cs (c ∷ []))) (distinct_push (map constructed_by cs) c.term.text r.distinct (none_stands constructed_by (has_rules defs) by_rules function_entry cs c.term.text free.1));
              },
            )
      ]

  pub constructor_wrong : (term_of_name env table c.term ≡ None) ⊎ HasOtherKind lacks_constructor c.term env table → (before : List Definition) → constructor_trees before ≡ cs → BreaksConstructor defs before c
  constructor_wrong (inl none) before so_far = grind (arith, common_steps, nothing_found e defs met (function_after e defs cs) taken env table i s c.term none)
  constructor_wrong (inr m) before so_far =
      elim (entry_found e defs met (function_after e defs cs) taken env table i s c.term m.id m.entry m.found m.at) [
        | inr q ↦ constructor_of_none (λ declared. false≢true (sym (ap is_some q.0) ∙ declared))
        | inl q ↦
            let fails : not (is_some (function_after e defs cs c.term.text)) ≡ false = ap (λ x. not (is_some (function_after e defs cs x))) (sym q.2) ∙ ap (λ (t : TermEntry). lacks_constructor t.kind) (sym q.4) ∙ m.fails in
            elim (was_known constructed_by (has_rules defs) by_rules function_entry cs c.term.text fails) [
              | inl rules ↦ beside_rules (λ without. false≢true (sym (ap not rules) ∙ without))
              | inr there ↦ second_constructor (subst (λ l. Contains (map constructed_by l) c.term.text) (sym so_far) (member_from_get (map constructed_by cs) there.0 c.term.text there.1))
            ]
      ]

-- an external extractor is read while all terms stand
module _ (e : TypesRead) (defs : List Definition) (ts : List ExternalTree) (t : ExternalTree) (met : List (List ℕ)) (made : List ℕ → Option ConstructorEntry) (env : TypeEnv) (table : TermTable) (i : IsInterned env) (s : Stand e defs met made (external_after e defs ts) env table) (r : AreRightExternals defs ts) where
  abbrev external_entry : ExternalTree → ExtractorEntry
  external_entry u = external_extractor (number (term_names_met e.known defs) u.function.text) u.infallible u.at

  abbrev has_template : List ℕ → Bool
  has_template = has_name (internal_extractors defs)

  abbrev by_template : List ℕ → Option ExtractorEntry
  by_template x = option_map (λ u. internal_extractor (extractor_template u)) (find (λ u. bytes_eq u.term.text x) (extractor_trees defs))

  template_there : (us : List ExtractorTree) (x : List ℕ) → has_name (map (λ u. u.term.text) us) x ≡ true → is_some (option_map (λ u. internal_extractor (extractor_template u)) (find (λ u. bytes_eq u.term.text x) us)) ≡ true
  template_there [] x h = absurd (false≢true h)
  template_there (u ∷ us) x h = grind (arith, common_steps, template_there us x)

  pub external_right : (new : TermTable) → ChangesKind lacks_extractor (taken_by_this (external_entry t)) t.term env table new
      → Stand e defs met made (external_after e defs (ts ++ t ∷ [])) env new × AreRightExternals defs (ts ++ t ∷ [])
  external_right new a =
      elim (entry_found e defs met made (external_after e defs ts) env table i s t.term a.id a.entry a.found a.at) [
        | inr q ↦ absurd (extractor_lacks a.entry.kind a.passes q.1)
        | inl q ↦
            let passes : not (is_some (external_after e defs ts t.term.text)) ≡ true = ap (λ x. not (is_some (external_after e defs ts x))) (sym q.2) ∙ ap (λ (u : TermEntry). lacks_extractor u.kind) (sym q.4) ∙ a.passes in
            let free = not_known extracted_by has_template by_template external_entry ts t.term.text (template_there (extractor_trees defs) t.term.text) passes in (
              stands_on e defs met made (external_after e defs ts) env table i s t.term.text a.id (with_kind (taken_by_this (external_entry t))) made (external_after e defs (ts ++ t ∷ [])) new q.3 a.changes
                  (λ d j h. ap (λ m. record (declared_so_far e.known (term_names_met e.known defs) made (external_after e defs ts) d j) { kind = declared_term (decl_flags d) (made d.term.text) m }) (known_other extracted_by has_template by_template external_entry ts t d.term.text h))
                  (λ d j h. ap (λ m. record (declared_so_far e.known (term_names_met e.known defs) made (external_after e defs ts) d j) { kind = declared_term (decl_flags d) (made d.term.text) m }) (known_new extracted_by has_template by_template external_entry ts t d.term.text free.0 free.1 h)),
              record {
                terms = All-push (λ u. IsDeclaredTerm defs u.term) ts t r.terms (ap is_some q.3);
                distinct = subst IsDistinct (append_assoc (internal_extractors defs) (map extracted_by ts) (t.term.text ∷ []) ∙ ap (λ l. internal_extractors defs ++ l) (sym (map-append extracted_by ts (t ∷ []))))
                    (distinct_push (internal_extractors defs ++ map extracted_by ts) t.term.text r.distinct (stands_nowhere free.0 free.1));
              },
            )
      ]
    where
      stands_nowhere : has_template t.term.text ≡ false → find (λ u. bytes_eq u.term.text t.term.text) ts ≡ None → (j : ℕ) → slice_get (internal_extractors defs ++ map extracted_by ts) j ≡ Some t.term.text → ⊥
      stands_nowhere none free j h =
          elim (Contains-append_cases (internal_extractors defs) (map extracted_by ts) t.term.text (member_from_get (internal_extractors defs ++ map extracted_by ts) j t.term.text h)) [
            | inl a ↦ let g = get_from_member (internal_extractors defs) t.term.text a in absent (internal_extractors defs) t.term.text none g.0 g.1
            | inr b ↦ let g = get_from_member (map extracted_by ts) t.term.text b in none_stands extracted_by has_template by_template external_entry ts t.term.text free g.0 g.1
          ]

  pub external_wrong : (term_of_name env table t.term ≡ None) ⊎ HasOtherKind lacks_extractor t.term env table → (before : List Definition) → external_trees before ≡ ts → BreaksExternal defs before t
  external_wrong (inl none) before so_far = grind (arith, common_steps, nothing_found e defs met made (external_after e defs ts) env table i s t.term none)
  external_wrong (inr m) before so_far =
      elim (entry_found e defs met made (external_after e defs ts) env table i s t.term m.id m.entry m.found m.at) [
        | inr q ↦ external_of_none (λ declared. false≢true (sym (ap is_some q.0) ∙ declared))
        | inl q ↦
            let fails : not (is_some (external_after e defs ts t.term.text)) ≡ false = ap (λ x. not (is_some (external_after e defs ts x))) (sym q.2) ∙ ap (λ (u : TermEntry). lacks_extractor u.kind) (sym q.4) ∙ m.fails in
            second_taker (subst (λ l. Contains (internal_extractors defs ++ map extracted_by l) t.term.text) (sym so_far) (elim (was_known extracted_by has_template by_template external_entry ts t.term.text fails) [
              | inl template ↦ Contains-append_left (internal_extractors defs) (map extracted_by ts) t.term.text (member_from_get (internal_extractors defs) (number (internal_extractors defs) t.term.text) t.term.text (found (internal_extractors defs) t.term.text template))
              | inr there ↦ Contains-append_right (internal_extractors defs) (map extracted_by ts) t.term.text (member_from_get (map extracted_by ts) there.0 t.term.text there.1)
            ]))
      ]

-- the name of a function is met, and nothing else
module _ (e : TypesRead) (defs read rest : List Definition) (d : Definition) (whole : defs ≡ read ++ d ∷ rest) (f : List ℕ) (names : function_of d ≡ f ∷ []) (made : List ℕ → Option ConstructorEntry) (taken : List ℕ → Option ExtractorEntry) (old : TypeEnv) (table : TermTable) (i : IsInterned old) (s : Stand e defs (decl_names defs ++ flat_map function_of read) made taken old table) (new : TypeEnv) (n : Interns f old new) where
  pub function_number : number (names_of old) f ≡ number (term_names_met e.known defs) f
  function_number =
      let after : List (List ℕ) = flat_map function_of rest in
      let all : term_names_met e.known defs ≡ with_names (with_name (names_of old) f) after =
      ap (λ ds. with_names e.known.names (decl_names defs ++ flat_map function_of ds)) whole
      ∙ ap (λ l. with_names e.known.names (decl_names defs ++ l)) (flat_map-append function_of read (d ∷ rest) ∙ ap (λ l. flat_map function_of read ++ (l ++ after)) names)
      ∙ ap (with_names e.known.names) (sym (append_assoc (decl_names defs) (flat_map function_of read) (f ∷ after)))
      ∙ with_names_append e.known.names (decl_names defs ++ flat_map function_of read) (f ∷ after)
      ∙ ap (λ ns. with_names (with_name ns f) after) (sym s.names) in
      sym (ap (λ ns. number ns f) all ∙ number_stays (names_of old) after f)

  pub function_met : Stand e defs (decl_names defs ++ flat_map function_of (read ++ d ∷ [])) made taken new table
  function_met =
      let more : flat_map function_of (read ++ d ∷ []) ≡ flat_map function_of read ++ f ∷ [] = flat_map-append function_of read (d ∷ []) ∙ ap (λ l. flat_map function_of read ++ (l ++ [])) names in
      subst (λ l. Stand e defs l made taken new table) (append_assoc (decl_names defs) (flat_map function_of read) (f ∷ []) ∙ ap (λ l. decl_names defs ++ l) (sym more))
      (stands_named e defs (decl_names defs ++ flat_map function_of read) made taken old table i s f new n)

module _ (e : TypesRead) (readable : AreReadable e) (defs read rest : List Definition) (old new : TypeEnv) (table table' : TermTable) (es es' : List Error) (m : MayIntern old new) (w : IsWithin table') where
  abbrev interned : IsLeftByRefusal e (environment_view old) → IsInterned old
  interned left = left_interned e readable old left

  other : (d : Definition) → function_of d ≡ [] → external_constructor_of d ≡ [] → external_extractor_of d ≡ [] → (es' ≡ es) × (new ≡ old) × (table' ≡ table)
      → ReadsTerms e of_externs defs (ExternsRead e defs read) old table es → ReadsTerms e of_externs defs (ExternsRead e defs (read ++ d ∷ [])) new table' es'
  other d functions cs ts same s =
      let go : ExternsRead e defs read old table → ExternsRead e defs (read ++ d ∷ []) old table = λ h. record {
        stand = subst (λ fs. Stand e defs (decl_names defs ++ fs) (function_after e defs (constructor_trees (read ++ d ∷ []))) (external_after e defs (external_trees (read ++ d ∷ []))) old table) (sym (nothing_more function_of read d functions))
            (grind (arith, common_steps, nothing_more external_constructor_of read d cs, nothing_more external_extractor_of read d ts));
        constructors = subst (AreRightConstructors defs) (sym (nothing_more external_constructor_of read d cs)) h.constructors;
        externals = subst (AreRightExternals defs) (sym (nothing_more external_extractor_of read d ts)) h.externals;
        conversions = h.conversions;
      } in
      step e of_externs defs (ExternsRead e defs read) (ExternsRead e defs (read ++ d ∷ [])) old new table table' es es' (Unit {0}) ⊥ (left_more e readable old s.left new m) w (inl (same.0, tt))
      (λ h _. subst (λ env. ExternsRead e defs (read ++ d ∷ []) env table') (sym same.1) (subst (ExternsRead e defs (read ++ d ∷ []) old) (sym same.2) (go h)))
      (λ h x. absurd x) s

  constructor : (term function : Name) (at : Position) → defs ≡ read ++ extern_definition (extern_constructor term function at) ∷ rest → ReadsIfExtern (extern_definition (extern_constructor term function at)) old table es new table' es' → FirstStandsAt (definition_positions (extern_definition (extern_constructor term function at))) es es'
      → ReadsTerms e of_externs defs (ExternsRead e defs read) old table es → ReadsTerms e of_externs defs (ExternsRead e defs (read ++ extern_definition (extern_constructor term function at) ∷ [])) new table' es'
  constructor term function at whole a b s =
      let d : Definition = extern_definition (extern_constructor term function at) in
      let c : ConstructorTree = record { term = term; function = function } in
      let more : constructor_trees (read ++ d ∷ []) ≡ constructor_trees read ++ c ∷ [] = flat_map-append external_constructor_of read (d ∷ []) in
      let same : external_trees (read ++ d ∷ []) ≡ external_trees read = flat_map-append external_extractor_of read (d ∷ []) ∙ append-nil (external_trees read) in
      let met : List (List ℕ) = decl_names defs ++ flat_map function_of (read ++ d ∷ []) in
      let taken : List ℕ → Option ExtractorEntry = external_after e defs (external_trees read) in
      let stand = λ (h : ExternsRead e defs read old table). function_met e defs read rest d whole function.text refl (function_after e defs (constructor_trees read)) taken old table (interned s.left) h.stand new a.0 in
      let number_is = λ (h : ExternsRead e defs read old table). function_number e defs read rest d whole function.text refl (function_after e defs (constructor_trees read)) taken old table (interned s.left) h.stand new a.0 in
      step e of_externs defs (ExternsRead e defs read) (ExternsRead e defs (read ++ d ∷ [])) old new table table' es es' (ChangesKind lacks_constructor (made_by_this (external_constructor (number (names_of old) function.text))) term new table table') ((term_of_name new table term ≡ None) ⊎ HasOtherKind lacks_constructor term new table)
      (left_more e readable old s.left new m) w a.1
      (λ h x.
      let y = subst (λ k. ChangesKind lacks_constructor (made_by_this (external_constructor k)) term new table table') (number_is h) x in
      let r = constructor_right e defs (constructor_trees read) c met taken new table a.0.inverse (stand h) h.constructors table' y in
      record {
        stand = grind (arith, common_steps);
        constructors = subst (AreRightConstructors defs) (sym more) r.1;
        externals = subst (AreRightExternals defs) (sym same) h.externals;
        conversions = λ i o. ap (λ m. option_map (λ t. t.0) (look_up same_types m (type_by_id i, type_by_id o))) x.changes.converters ∙ h.conversions i o;
      })
      (λ h x. record { positions = definition_positions d; breaks = by_constructor read rest term function at whole (constructor_wrong e defs (constructor_trees read) c met taken new table a.0.inverse (stand h) h.constructors x read refl); begins = b }) s

  extractor : (term function : Name) (at : Position) (infallible : Bool) → defs ≡ read ++ extern_definition (extern_extractor term function at infallible) ∷ rest → ReadsIfExtern (extern_definition (extern_extractor term function at infallible)) old table es new table' es' → FirstStandsAt (definition_positions (extern_definition (extern_extractor term function at infallible))) es es'
      → ReadsTerms e of_externs defs (ExternsRead e defs read) old table es → ReadsTerms e of_externs defs (ExternsRead e defs (read ++ extern_definition (extern_extractor term function at infallible) ∷ [])) new table' es'
  extractor term function at infallible whole a b s =
      let d : Definition = extern_definition (extern_extractor term function at infallible) in
      let t : ExternalTree = record { term = term; function = function; infallible = infallible; at = at } in
      let more : external_trees (read ++ d ∷ []) ≡ external_trees read ++ t ∷ [] = flat_map-append external_extractor_of read (d ∷ []) in
      let same : constructor_trees (read ++ d ∷ []) ≡ constructor_trees read = flat_map-append external_constructor_of read (d ∷ []) ∙ append-nil (constructor_trees read) in
      let met : List (List ℕ) = decl_names defs ++ flat_map function_of (read ++ d ∷ []) in
      let made : List ℕ → Option ConstructorEntry = function_after e defs (constructor_trees read) in
      let stand = λ (h : ExternsRead e defs read old table). function_met e defs read rest d whole function.text refl made (external_after e defs (external_trees read)) old table (interned s.left) h.stand new a.0 in
      let number_is = λ (h : ExternsRead e defs read old table). function_number e defs read rest d whole function.text refl made (external_after e defs (external_trees read)) old table (interned s.left) h.stand new a.0 in
      step e of_externs defs (ExternsRead e defs read) (ExternsRead e defs (read ++ d ∷ [])) old new table table' es es' (ChangesKind lacks_extractor (taken_by_this (external_extractor (number (names_of old) function.text) infallible at)) term new table table') ((term_of_name new table term ≡ None) ⊎ HasOtherKind lacks_extractor term new table)
      (left_more e readable old s.left new m) w a.1
      (λ h x.
      let y = subst (λ k. ChangesKind lacks_extractor (taken_by_this (external_extractor k infallible at)) term new table table') (number_is h) x in
      let r = external_right e defs (external_trees read) t met made new table a.0.inverse (stand h) h.externals table' y in
      record {
        stand = grind (arith, common_steps);
        constructors = subst (AreRightConstructors defs) (sym same) h.constructors;
        externals = subst (AreRightExternals defs) (sym more) r.1;
        conversions = λ i o. ap (λ m. option_map (λ t. t.0) (look_up same_types m (type_by_id i, type_by_id o))) x.changes.converters ∙ h.conversions i o;
      })
      (λ h x. record { positions = definition_positions d; breaks = by_external read rest t whole (external_wrong e defs (external_trees read) t met made new table a.0.inverse (stand h) h.externals x read refl); begins = b }) s

  pub next : (d : Definition) → defs ≡ read ++ d ∷ rest → ReadsIfExtern d old table es new table' es' → FirstStandsAt (definition_positions d) es es' → ReadsTerms e of_externs defs (ExternsRead e defs read) old table es → ReadsTerms e of_externs defs (ExternsRead e defs (read ++ d ∷ [])) new table' es'
  next (extern_definition (extern_constructor term function at)) whole a b s = constructor term function at whole a b s
  next (extern_definition (extern_extractor term function at infallible)) whole a b s = extractor term function at infallible whole a b s
  next (extern_definition (extern_const name ty at)) whole a b s = other (extern_definition (extern_const name ty at)) refl refl refl a s
  next (declaration d) whole a b s = other (declaration d) refl refl refl a s
  next (type_definition d) whole a b s = other (type_definition d) refl refl refl a s
  next (extractor_definition d) whole a b s = other (extractor_definition d) refl refl refl a s
  next (converter_definition d) whole a b s = other (converter_definition d) refl refl refl a s
  next (rule_definition d) whole a b s = other (rule_definition d) refl refl refl a s
  next other_definition whole a b s = other other_definition refl refl refl a s

-- after the definition at i
pub next_extern : (e : TypesRead) → AreReadable e → (defs : List Def) (i : ℕ) (d : Def) → i < length defs → d ≡ get_or defs i d → (old new : TypeEnv) (table table' : TermTable) (es es' : List Error) → MayIntern old new → IsWithin table'
    → ReadsIfExtern (definition_view d) old table es new table' es' → FirstStandsAt (definition_positions (definition_view d)) es es'
    → ReadsTerms e of_externs (definition_views defs) (ExternsRead e (definition_views defs) (definition_views (take i defs))) old table es
    → ReadsTerms e of_externs (definition_views defs) (ExternsRead e (definition_views defs) (definition_views (take (i + 1) defs))) new table' es'
next_extern e r defs i d within here old new table table' es es' m w a b s =
    subst (λ ds. ReadsTerms e of_externs (definition_views defs) (ExternsRead e (definition_views defs) ds) new table' es') (sym (taken_next defs i d within here))
    (next e r (definition_views defs) (definition_views (take i defs)) (definition_views (drop (i + 1) defs)) old new table table' es es' m w (definition_view d) (around defs i d within here) a b s)
