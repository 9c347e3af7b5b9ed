-- What is found while all terms stand, and how they stand after one of them is changed or a name is met.
use Rattle.std.proofs.Common.{◌≡◌, ℕ, true, false, List, [], ◌∷◌, ◌++◌, length, slice_get, Option, None, Some, suc, ◌⊎◌, option_map, refl, sym, ap, ◌∙◌, arith, inl, inr}
use Rattle.std.specs.List.{filter_map, flat_map}
use Rattle.std.specs.Str.{bytes_eq}
use Rattle.std.proofs.lemmas.List.{length-map}
use Rattle.std.proofs.lemmas.Option.{same_Some, slice_get_within, slice_get-map}
use Rattle.std.proofs.lemmas.Grind.{common_steps}
use Rattle.model.specs.lists.Syntax.{Name, DeclTree, Definition}
use Rattle.model.specs.lists.Names.{with_name}
use Rattle.model.specs.lists.Tables.{ConstructorEntry, ExtractorEntry, TermEntry}
use Rattle.model.specs.lists.TypeTable.{place_from}
use Rattle.model.specs.lists.TermTable.{decl_trees, decl_names, term_id, term_names, term_names_met, terms_made, made_by}
use Rattle.model.specs.claims.Environments.{TypesRead}
use Rattle.core_syntax.specs.Stable.{look_up}
use Rattle.core_types.specs.declared.type_env.TypeEnv.{TypeEnv}
use Rattle.core_types.specs.Envs.{names_of, symbol_of, same_symbol, symbol, IsInterned}
use Rattle.core_terms.specs.declared.term_table.TermTable.{TermTable}
use Rattle.core_terms.specs.TermTables.{term_at}
use Rattle.core_terms.specs.TermViews.{term_views}
use Rattle.core_terms.specs.Reading.{Interns, term_of_name}
use Rattle.core_terms.specs.Stages.{place_among}
use Rattle.core_terms.specs.Signing.{declared_so_far}
use Rattle.core_terms.specs.ReadTerms.{Stand, is_declared_kind, change, Changes}
use Rattle.core_terms.proofs.Changing.{changed, entry_of, all_made, place_split, place_at}
use Rattle.core_terms.proofs.Declaring.{with_names_push}
use Rattle.core_terms.proofs.Finding.{by_name, finds_more}
use Rattle.core_terms.proofs.Making.{distinct_left}

pub no_place : (n : ℕ) (x : List ℕ) (xs ys : List (List ℕ)) → place_from n x (xs ++ ys) ≡ None → place_from n x xs ≡ None
no_place n x [] ys h = refl
no_place n x (y ∷ xs) ys h = grind (arith, common_steps, no_place (suc n) x xs ys)

-- what is found by a name while all terms stand
module _ (e : TypesRead) (defs : List Definition) (met : List (List ℕ)) (made : List ℕ → Option ConstructorEntry) (taken : List ℕ → Option ExtractorEntry) (env : TypeEnv) (table : TermTable) (i : IsInterned env) (s : Stand e defs met made taken env table) where
  abbrev others : List (List ℕ)
  others = filter_map (slice_get e.known.names) (flat_map made_by e.known.types)

  abbrev entry_so_far : DeclTree → ℕ → TermEntry
  entry_so_far = declared_so_far e.known (term_names_met e.known defs) made taken

  pub term_is : (n : Name) → term_of_name env table n ≡ place_among (term_names e.known defs) n.text
  term_is n = by_name (names_of env) (term_at table) (place_among (term_names e.known defs)) s.finds (symbol_of env) i n.text

  -- the term of a name is the declared one of this name, or one that a type makes
  pub entry_found : (n : Name) (id : ℕ) (t : TermEntry) → term_of_name env table n ≡ Some id → slice_get (term_views table.terms.items) id ≡ Some t
      → ((d : DeclTree) × (slice_get (decl_trees defs) id ≡ Some d) × (d.term.text ≡ n.text) × (term_id defs n.text ≡ Some id) × (t ≡ entry_so_far d id)) ⊎ ((term_id defs n.text ≡ None) × (is_declared_kind t.kind ≡ false))
  entry_found n id t found at =
      let split = place_split 0 n.text (decl_names defs) others id (sym (term_is n) ∙ found) in
      let entry = entry_of entry_so_far (flat_map terms_made e.known.types) (all_made e.known.types) 0 id (decl_trees defs) t (ap (λ l. slice_get l id) (sym s.terms) ∙ at) in
      let size : length (decl_names defs) ≡ length (decl_trees defs) = length-map (decl_trees defs) (λ d. d.term.text) in
      elim split [
        | inl p ↦
            let here = place_at 0 id n.text (decl_names defs) id (omega arith) p in
            elim entry [
              | inl q ↦ grind (arith, common_steps, slice_get-map (λ d. d.term.text) (decl_trees defs) id, same_Some q.0.term.text n.text)
              | inr q ↦ let within = slice_get_within (decl_names defs) id n.text here in let past = q.0 in absurd (omega (arith, within, size, past))
            ]
        | inr p ↦ grind (arith, common_steps, slice_get_within (decl_trees defs) id)
      ]

  pub declared_found : (n : Name) (id : ℕ) (t : TermEntry) → term_of_name env table n ≡ Some id → slice_get (term_views table.terms.items) id ≡ Some t → is_declared_kind t.kind ≡ true → term_id defs n.text ≡ Some id
  declared_found n id t found at declared = grind (arith, common_steps, entry_found n id t found at)

  pub made_found : (n : Name) (id : ℕ) (t : TermEntry) → term_of_name env table n ≡ Some id → slice_get (term_views table.terms.items) id ≡ Some t → is_declared_kind t.kind ≡ false → term_id defs n.text ≡ None
  made_found n id t found at other = grind (arith, common_steps, entry_found n id t found at)

  -- a name that is no term's is no declared one's
  pub nothing_found : (n : Name) → term_of_name env table n ≡ None → term_id defs n.text ≡ None
  nothing_found n none = no_place 0 n.text (decl_names defs) others (sym (term_is n) ∙ none)

  -- of one declared term something else is known now
  pub stands_on : (x : List ℕ) (id : ℕ) (g : TermEntry → TermEntry) (made' : List ℕ → Option ConstructorEntry) (taken' : List ℕ → Option ExtractorEntry) (new : TermTable) → term_id defs x ≡ Some id → Changes g id table new
      → ((d : DeclTree) (i : ℕ) → bytes_eq d.term.text x ≡ false → entry_so_far d i ≡ declared_so_far e.known (term_names_met e.known defs) made' taken' d i)
      → ((d : DeclTree) (i : ℕ) → bytes_eq d.term.text x ≡ true → g (entry_so_far d i) ≡ declared_so_far e.known (term_names_met e.known defs) made' taken' d i)
      → Stand e defs met made' taken' env new
  stands_on x id g made' taken' new place c same this = record {
    names = s.names;
    finds = record { ids = λ k. ap (λ m. option_map (λ t. t.0) (look_up same_symbol m (symbol k))) c.term_map ∙ s.finds.ids k; known = s.finds.known };
    distinct = s.distinct;
    right = s.right;
    terms = c.terms ∙ ap (change g id) s.terms ∙ changed x g entry_so_far (declared_so_far e.known (term_names_met e.known defs) made' taken') same this (flat_map terms_made e.known.types) 0 id (decl_trees defs) (distinct_left (decl_names defs) others s.distinct) place;
  }

  -- a name is met, and nothing else
  pub stands_named : (x : List ℕ) (new : TypeEnv) → Interns x env new → Stand e defs (met ++ x ∷ []) made taken new table
  stands_named x new n = record {
    names = n.names ∙ ap (λ ns. with_name ns x) s.names ∙ with_names_push e.known.names met x;
    finds = finds_more (names_of env) (term_at table) (place_among (term_names e.known defs)) s.finds x (names_of new) n.names (term_at table) (λ k. refl);
    distinct = s.distinct;
    right = s.right;
    terms = s.terms;
  }
