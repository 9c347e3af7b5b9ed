-- Each declared term of a list has rules, an external constructor or an extractor exactly where each term of its table has
-- something that makes it or takes it apart.
use Rattle.std.proofs.Common.{◌≡◌, ℕ, ◌+◌, ◌||◌, Bool, true, cond, List, [], ◌∷◌, ◌++◌, map, All, Contains, IsTrue, Option, Some, option_map, is_some, refl, sym, ap, subst, ◌∙◌, arith}
use Rattle.std.proofs.Math.Path.{ap₂}
use Rattle.std.specs.List.{enumerate_from, find, flat_map}
use Rattle.std.specs.Str.{bytes_eq}
use Rattle.std.proofs.lemmas.List.Elements.{All-nil, All-cons, All-head, All-tail, All-append, All-contains, Contains-append_right}
use Rattle.std.proofs.lemmas.Grind.{common_steps}
use Rattle.model.specs.lists.Syntax.{Position, DeclTree, ExtractorTree, Definition}
use Rattle.model.specs.lists.Names.{number, has_name}
use Rattle.model.specs.lists.Tables.{internal_constructor, external_constructor, internal_extractor, external_extractor, TermEntry}
use Rattle.model.specs.lists.KnownTypes.{KnownTypes}
use Rattle.model.specs.lists.TermTable.{ConstructorTree, ExternalTree, decl_trees, constructor_trees, extractor_trees, external_trees, extractor_template, internal_extractors, external_extractors, external_constructors, has_rules, constructor_kind, extractor_kind, decl_as_term, terms_made, terms_in_order, term_names_met, term_table, is_defined, IsDefined, AllDefined}
use Rattle.model.proofs.Members.{in_head}
use Rattle.core_typed.specs.RuleNaming.{is_defined_term, AreDefined, IsLeftUndefined, left_undefined}
use Rattle.core_rules.specs.RuleBreaches.{IsUndefined, undefined}
use Rattle.core_rules.proofs.TemplateUses.{each_made, of_types}

abbrev IsDefinedTerm : TermEntry → Type 0
IsDefinedTerm t = IsTrue (is_defined_term t)

mapped_is_some : {X Y : Type 0} (f : X → Y) (o : Option X) → is_some (option_map f o) ≡ is_some o
mapped_is_some f o = grind (arith, common_steps)

found_is_some : {X : Type 0} (text : X → List ℕ) (x : List ℕ) (es : List X) → is_some (find (λ e. bytes_eq (text e) x) es) ≡ has_name (map text es) x
found_is_some text x [] = refl
found_is_some text x (e ∷ es) = grind (arith, common_steps, found_is_some text x es)

by_either : {X : Type 0} (b : Bool) (o p : Option X) → is_some (cond b o p) ≡ cond b (is_some o) (is_some p)
by_either b o p = grind (arith, common_steps)

made_or_apart : (r c i x : Bool) → cond r true c || cond i i x ≡ r || c || i || x
made_or_apart r c i x = grind (arith, common_steps)

module _ (k : KnownTypes) (defs : List Definition) where
  abbrev names : List (List ℕ)
  names = term_names_met k defs

  has_made : (x : List ℕ) → is_some (constructor_kind defs names x) ≡ cond (has_rules defs x) true (has_name (external_constructors defs) x)
  has_made x =
      by_either (has_rules defs x) (Some internal_constructor) (option_map (λ c. external_constructor (number names c.function.text)) (find (λ c. bytes_eq c.term.text x) (constructor_trees defs)))
      ∙ ap (cond (has_rules defs x) true)
      (mapped_is_some (λ (c : ConstructorTree). external_constructor (number names c.function.text)) (find (λ c. bytes_eq c.term.text x) (constructor_trees defs)) ∙ found_is_some (λ (c : ConstructorTree). c.term.text) x (constructor_trees defs))

  has_apart : (x : List ℕ) → is_some (extractor_kind defs names x) ≡ cond (has_name (internal_extractors defs) x) (has_name (internal_extractors defs) x) (has_name (external_extractors defs) x)
  has_apart x =
      by_either (has_name (internal_extractors defs) x) (option_map (λ e. internal_extractor (extractor_template e)) (find (λ e. bytes_eq e.term.text x) (extractor_trees defs))) (option_map (λ e. external_extractor (number names e.function.text) e.infallible e.at) (find (λ e. bytes_eq e.term.text x) (external_trees defs)))
      ∙ ap₂ (cond (has_name (internal_extractors defs) x))
      (mapped_is_some (λ (e : ExtractorTree). internal_extractor (extractor_template e)) (find (λ e. bytes_eq e.term.text x) (extractor_trees defs)) ∙ found_is_some (λ (e : ExtractorTree). e.term.text) x (extractor_trees defs))
      (mapped_is_some (λ (e : ExternalTree). external_extractor (number names e.function.text) e.infallible e.at) (find (λ e. bytes_eq e.term.text x) (external_trees defs)) ∙ found_is_some (λ (e : ExternalTree). e.term.text) x (external_trees defs))

  same_test : (d : DeclTree) (id : ℕ) → is_defined_term (decl_as_term k defs names d id) ≡ is_defined defs d.term.text
  same_test d id = grind (arith, common_steps, has_made, has_apart, made_or_apart)

  abbrev Always : (ℕ → TermEntry) → Type 0
  Always f = (id : ℕ) → IsDefinedTerm (f id)

  declared : (ds : List DeclTree) → All (IsDefined defs) ds → All Always (map (decl_as_term k defs names) ds)
  declared [] h = All-nil Always
  declared (d ∷ ds) h =
      All-cons Always (decl_as_term k defs names d) (map (decl_as_term k defs names) ds) (λ id. same_test d id ∙ All-head (IsDefined defs) d ds h) (declared ds (All-tail (IsDefined defs) d ds h))

  pub terms_defined : AllDefined defs → AreDefined (term_table k defs)
  terms_defined h =
      each_made IsDefinedTerm 0 (terms_in_order k defs)
      (All-append Always (map (decl_as_term k defs names) (decl_trees defs)) (flat_map terms_made k.types) (declared (decl_trees defs) h) (of_types IsDefinedTerm (λ ty v id. refl) (λ name ty fields at id. refl) k.types))

  back : (i : ℕ) (ds : List DeclTree) (fs : List (ℕ → TermEntry)) → AreDefined (map (λ p. p.1 p.0) (enumerate_from i (map (decl_as_term k defs names) ds ++ fs))) → All (IsDefined defs) ds
  back i [] fs h = All-nil (IsDefined defs)
  back i (d ∷ ds) fs h =
      let rest : List TermEntry = map (λ p. p.1 p.0) (enumerate_from (i + 1) (map (decl_as_term k defs names) ds ++ fs)) in
      All-cons (IsDefined defs) d ds (sym (same_test d i) ∙ All-head IsDefinedTerm (decl_as_term k defs names d i) rest h) (back (i + 1) ds fs (All-tail IsDefinedTerm (decl_as_term k defs names d i) rest h))

  pub all_defined : AreDefined (term_table k defs) → AllDefined defs
  all_defined h = back 0 (decl_trees defs) (flat_map terms_made k.types) h

  -- the first term that isn't defined is that of the first declaration of one that isn't
  record FoundUndefined (ds : List DeclTree) (t : TermEntry) : Type 0 where
    pub before : List DeclTree
    pub declared_here : DeclTree
    pub after : List DeclTree
    pub split : ds ≡ before ++ declared_here ∷ after
    pub right : All (IsDefined defs) before
    pub wrong : IsDefined defs declared_here → ⊥
    pub place : declared_here.at ≡ t.at

  abbrev made_from : ℕ → List (ℕ → TermEntry) → List TermEntry
  made_from i fs = map (λ p. p.1 p.0) (enumerate_from i fs)

  found_undefined : (i : ℕ) (ds : List DeclTree) (fs : List (ℕ → TermEntry)) → All Always fs → (before : List TermEntry) (t : TermEntry) (after : List TermEntry) → made_from i (map (decl_as_term k defs names) ds ++ fs) ≡ before ++ t ∷ after
      → All IsDefinedTerm before → (IsDefinedTerm t → ⊥) → FoundUndefined ds t
  found_undefined i [] fs always before t after split right wrong =
      absurd (wrong (All-contains IsDefinedTerm (made_from i fs) t (each_made IsDefinedTerm i fs always) (subst (λ ts. Contains ts t) (sym split) (Contains-append_right before (t ∷ after) t (in_head t after)))))
  found_undefined i (d ∷ ds) fs always [] t after split right wrong =
      let here : decl_as_term k defs names d i ≡ t = cc in
      record {
        before = [];
        declared_here = d;
        after = ds;
        split = refl;
        right = All-nil (IsDefined defs);
        wrong = λ h. wrong (subst IsDefinedTerm here (same_test d i ∙ h));
        place = ap (λ (u : TermEntry). u.at) here;
      }
  found_undefined i (d ∷ ds) fs always (u ∷ before) t after split right wrong =
      let here : decl_as_term k defs names d i ≡ u = cc in
      let rest : made_from (i + 1) (map (decl_as_term k defs names) ds ++ fs) ≡ before ++ t ∷ after = cc in
      let f = found_undefined (i + 1) ds fs always before t after rest (All-tail IsDefinedTerm u before right) wrong in
      record {
        before = d ∷ f.before;
        declared_here = f.declared_here;
        after = f.after;
        split = ap (λ xs. d ∷ xs) f.split;
        right = All-cons (IsDefined defs) d f.before (sym (same_test d i) ∙ subst IsDefinedTerm (sym here) (All-head IsDefinedTerm u before right)) f.right;
        wrong = f.wrong;
        place = f.place;
      }

  pub undefined_declared : (ps : List Position) → IsLeftUndefined (term_table k defs) ps → IsUndefined defs ps
  undefined_declared ps (left_undefined before t after split right wrong) =
      let f =
      found_undefined 0 (decl_trees defs) (flat_map terms_made k.types) (of_types IsDefinedTerm (λ ty v id. refl) (λ name ty fields at id. refl) k.types) before t after split right wrong in
      subst (λ p. IsUndefined defs (p ∷ [])) f.place (undefined f.before f.declared_here f.after f.split f.right f.wrong)
