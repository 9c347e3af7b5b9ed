-- The positions of the terms of a list of definitions are those of the definitions, and of the types that they are read with.
use Rattle.std.proofs.Common.{◌≡◌, ℕ, ◌+◌, Bool, true, false, cond, List, [], ◌∷◌, ◌++◌, Option, Some, None, Contains, map, option_map, refl, subst, inl, inr, arith}
use Rattle.std.specs.List.{flat_map, find, enumerate_from}
use Rattle.std.specs.Str.{bytes_eq}
use Rattle.std.proofs.lemmas.List.Elements.{Contains-append_cases}
use Rattle.std.proofs.lemmas.Option.{none-some, same_Some}
use Rattle.std.proofs.lemmas.Grind.{common_steps}
use Rattle.model.specs.lists.Syntax.{Position, DeclTree, ExtractorTree, Definition, extractor_definition}
use Rattle.model.specs.lists.Names.{number, has_name}
use Rattle.model.specs.lists.Tables.{TypeEntry, enum_type, struct_type, internal_extractor, external_extractor, TermEntry}
use Rattle.model.specs.lists.KnownTypes.{KnownTypes}
use Rattle.model.specs.lists.TermTable.{ExternalTree, decl_of, decl_trees, extractor_of, extractor_trees, external_extractor_of, external_trees, internal_extractors, extractor_template, extractor_kind, decl_as_term, variant_as_term, struct_as_term, terms_made, terms_in_order, term_table, term_names_met}
use Rattle.model.proofs.Members.{nothing_in, in_head, in_tail, in_alone, in_map, from_map, from_flat_map}
use Rattle.core_syntax.specs.Positions.{OccurAmong, pattern_positions, extractor_positions, definition_positions, positions_of}
use Rattle.core_syntax.proofs.Positioned.{among_same, among_both, among_left, among_right, among_rest, among_first, among_one, among_each, among_none, among_join}
use Rattle.core_terms.proofs.NotedPositions.{template_among, pattern_in_extractor}
use Rattle.core_terms.specs.TermPositions.{taken_positions, entry_positions, terms_positions}
use Rattle.core_types.specs.TypePositions.{entry_positions as type_entry_positions, types_positions}

-- what is found is there
found_there : {X : Type 0} (p : X → Bool) (xs : List X) (x : X) → find p xs ≡ Some x → Contains xs x
found_there p [] x h = absurd (none-some x h)
found_there p (y ∷ xs) x h = grind (arith, common_steps, found_there p xs x, same_Some, in_head, in_tail)

-- what definitions hold has positions of these, where that of each has its positions
of_definitions : {X : Type 0} (g : Definition → List X) (place : X → List Position) → ((d : Definition) (x : X) → Contains (g d) x → OccurAmong (place x) (definition_positions d)) → (defs : List Definition) (x : X) → Contains (flat_map g defs) x → OccurAmong (place x) (positions_of defs)
of_definitions g place each defs x c =
    let f = from_flat_map g defs x c in
    among_both (place x) (definition_positions f.0) (positions_of defs) (each f.0 x f.2) (among_each definition_positions defs f.0 f.1)

of_declaration : (d : Definition) (x : DeclTree) → Contains (decl_of d) x → OccurAmong (x.at ∷ []) (definition_positions d)
of_declaration d x c = grind (arith, in_alone, among_first, nothing_in)

of_internal : (d : Definition) (x : ExtractorTree) → Contains (extractor_of d) x → OccurAmong (pattern_positions x.template) (definition_positions d)
of_internal (extractor_definition e) x c = subst (λ (y : ExtractorTree). OccurAmong (pattern_positions y.template) (extractor_positions e)) (in_alone e x c) (pattern_in_extractor e)
of_internal _ x c = absurd (nothing_in x c)

of_external : (d : Definition) (x : ExternalTree) → Contains (external_extractor_of d) x → OccurAmong (x.at ∷ []) (definition_positions d)
of_external d x c = grind (arith, in_alone, among_first, nothing_in)

module _ (defs : List Definition) where
  of_template : (o : Option ExtractorTree) → ((e : ExtractorTree) → o ≡ Some e → Contains (extractor_trees defs) e) → OccurAmong (taken_positions (option_map (λ e. internal_extractor (extractor_template e)) o)) (positions_of defs)
  of_template None there = among_none (positions_of defs)
  of_template (Some e) there =
      among_both (pattern_positions (extractor_template e)) (pattern_positions e.template) (positions_of defs) (template_among (map (λ n. n.text) e.args) e.template)
      (of_definitions extractor_of (λ x. pattern_positions x.template) of_internal defs e (there e refl))

  of_function : (names : List (List ℕ)) (o : Option ExternalTree) → ((e : ExternalTree) → o ≡ Some e → Contains (external_trees defs) e)
      → OccurAmong (taken_positions (option_map (λ e. external_extractor (number names e.function.text) e.infallible e.at) o)) (positions_of defs)
  of_function names None there = among_none (positions_of defs)
  of_function names (Some e) there = of_definitions external_extractor_of (λ x. x.at ∷ []) of_external defs e (there e refl)

  of_extractor_kind : (names : List (List ℕ)) (x : List ℕ) → OccurAmong (taken_positions (extractor_kind defs names x)) (positions_of defs)
  of_extractor_kind names x =
      let internal = option_map (λ e. internal_extractor (extractor_template e)) (find (λ e. bytes_eq e.term.text x) (extractor_trees defs)) in
      let external = option_map (λ e. external_extractor (number names e.function.text) e.infallible e.at) (find (λ e. bytes_eq e.term.text x) (external_trees defs)) in
      let one : OccurAmong (taken_positions internal) (positions_of defs) = of_template (find (λ e. bytes_eq e.term.text x) (extractor_trees defs)) (λ e h. found_there (λ e. bytes_eq e.term.text x) (extractor_trees defs) e h) in
      let other : OccurAmong (taken_positions external) (positions_of defs) = of_function names (find (λ e. bytes_eq e.term.text x) (external_trees defs)) (λ e h. found_there (λ e. bytes_eq e.term.text x) (external_trees defs) e h) in
      elim (has_name (internal_extractors defs) x) as (λ b. OccurAmong (taken_positions (cond b internal external)) (positions_of defs)) [ true ↦ one | false ↦ other ]

  of_declared : (k : KnownTypes) (d : DeclTree) → Contains (decl_trees defs) d → (id : ℕ) → OccurAmong (entry_positions (decl_as_term k defs (term_names_met k defs) d id)) (positions_of defs)
  of_declared k d c id =
      let kind = taken_positions (extractor_kind defs (term_names_met k defs) d.term.text) in
      among_join (d.at ∷ []) kind (positions_of defs) (of_definitions decl_of (λ x. x.at ∷ []) of_declaration defs d c) (of_extractor_kind (term_names_met k defs) d.term.text)

-- a term that a type makes stands where the type or one of its variants does
of_made : (t : TypeEntry) (f : ℕ → TermEntry) → Contains (terms_made t) f → (id : ℕ) → OccurAmong (entry_positions (f id)) (type_entry_positions t)
of_made (enum_type name ty is_extern is_nodebug variants at) f c id =
    let v = from_map (variant_as_term ty) variants f c in
    let places = map (λ x. x.at) variants in
    subst (λ (g : ℕ → TermEntry). OccurAmong (entry_positions (g id)) (at ∷ places)) v.2
    (among_both (v.0.at ∷ []) places (at ∷ places) (among_one v.0.at places (in_map (λ x. x.at) variants v.0 v.1)) (among_rest at places))
of_made (struct_type name ty is_extern is_nodebug fields at) f c id = subst (λ (g : ℕ → TermEntry). OccurAmong (entry_positions (g id)) (at ∷ [])) (in_alone (struct_as_term name ty fields at) f c) (among_same (at ∷ []))
of_made _ f c id = absurd (nothing_in f c)

each_made : (all : List Position) (fs : List (ℕ → TermEntry)) (i : ℕ) → ((f : ℕ → TermEntry) → Contains fs f → (id : ℕ) → OccurAmong (entry_positions (f id)) all) → OccurAmong (terms_positions (map (λ p. p.1 p.0) (enumerate_from i fs))) all
each_made all [] i each = among_none all
each_made all (f ∷ fs) i each =
    among_join (entry_positions (f i)) (terms_positions (map (λ p. p.1 p.0) (enumerate_from (i + 1) fs))) all (each f (in_head f fs) i)
    (each_made all fs (i + 1) (λ g c id. each g (in_tail f g fs c) id))

pub terms_inside : (k : KnownTypes) (defs : List Definition) → OccurAmong (terms_positions (term_table k defs)) (positions_of defs ++ types_positions k.types)
terms_inside k defs =
    let all = positions_of defs ++ types_positions k.types in
    each_made all (terms_in_order k defs) 0 (λ f c id.
    elim (Contains-append_cases (map (decl_as_term k defs (term_names_met k defs)) (decl_trees defs)) (flat_map terms_made k.types) f c) [
      | inl a ↦
          let d = from_map (decl_as_term k defs (term_names_met k defs)) (decl_trees defs) f a in
          subst (λ (g : ℕ → TermEntry). OccurAmong (entry_positions (g id)) all) d.2
          (among_both (entry_positions (decl_as_term k defs (term_names_met k defs) d.0 id)) (positions_of defs) all (of_declared defs k d.0 d.1 id) (among_left (positions_of defs) (types_positions k.types)))
      | inr b ↦
          let t = from_flat_map terms_made k.types f b in
          among_both (entry_positions (f id)) (type_entry_positions t.0) all (of_made t.0 f t.2 id)
          (among_both (type_entry_positions t.0) (types_positions k.types) all (among_each type_entry_positions k.types t.0 t.1) (among_right (positions_of defs) (types_positions k.types)))
    ])
