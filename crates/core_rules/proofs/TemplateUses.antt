-- A template that uses no argument past those given can be filled in, and in a valid list each template is such a one.
use Rattle.std.proofs.Common.{◌≡◌, ℕ, zero, suc, ◌+◌, ◌<◌, Bool, true, false, cond, List, [], ◌∷◌, length, map, All, Option, Some, option_map, is_some, unwrap_or, slice_get, refl, sym, ap, subst, ◌∙◌, arith}
use Rattle.std.specs.List.{enumerate_from, filter_map, find, flat_map}
use Rattle.std.specs.Str.{bytes_eq}
use Rattle.std.proofs.lemmas.List.{length-map}
use Rattle.std.proofs.lemmas.List.Elements.{All-nil, All-cons, All-head, All-tail, All-append}
use Rattle.std.proofs.lemmas.Option.{none-some, same_Some}
use Rattle.std.proofs.lemmas.Grind.{common_steps}
use Rattle.model.specs.lists.Syntax.{Position, PatternTree, bind_pattern, term_pattern, and_pattern, macro_arg, PatternTrees, no_pattern, pattern_and, DeclTree, ExtractorTree, Definition}
use Rattle.model.specs.lists.Names.{number, IsDistinct}
use Rattle.model.specs.lists.Tables.{FieldEntries, VariantEntry, TypeEntry, enum_type, struct_type, internal_extractor, external_extractor, TermEntry}
use Rattle.model.specs.lists.KnownTypes.{KnownTypes, known_type}
use Rattle.model.specs.lists.TermTable.{ExternalTree, arguments_in, arguments_in_all, argument_count, decl_trees, decl_names, extractor_trees, extractor_template, made_by, variant_as_term, struct_as_term, terms_made, decl_as_term, terms_in_order, term_names_met, term_table, UsesDeclaredArguments, IsValidTerms}
use Rattle.model.specs.lists.Setting.{entry_template}
use Rattle.model.specs.lists.Expansions.{substituted, all_substituted, with_pattern}
use Rattle.model.proofs.Bytes.{same_bytes, same_self}
use Rattle.model.proofs.Mapped.{get_map}
use Rattle.model.proofs.Members.{all_members, from_map, get_from_member}
use Rattle.model.proofs.Positions.{get_front}
use Rattle.core_rules.specs.ShownSettings.{IsWholeTemplate}
use Rattle.core_types.proofs.RightTypes.{all_left, all_right}

some_mapped : {X Y : Type 0} (f : X → Y) (o : Option X) → is_some o ≡ true → is_some (option_map f o) ≡ true
some_mapped f o h = grind (arith, common_steps)

some_with : (p : Option PatternTree) (ps : Option PatternTrees) → is_some p ≡ true → is_some ps ≡ true → is_some (with_pattern p ps) ≡ true
some_with p ps h i = grind arith

some_within : (given : List PatternTree) (i : ℕ) → i < length given → is_some (slice_get given i) ≡ true
some_within (p ∷ ps) (suc i) h = some_within ps i (omega (arith, h))
some_within given i h = grind arith

module _ (given : List PatternTree) where
  abbrev IsGiven : ℕ → Type 0
  IsGiven i = i < length given

  mutual
    pub filled : (t : PatternTree) → All IsGiven (arguments_in t) → is_some (substituted given t) ≡ true
    filled (macro_arg i at) h = some_within given i (All-head IsGiven i [] h)
    filled (bind_pattern name of at) h = some_mapped (λ p. bind_pattern name p at) (substituted given of) (filled of h)
    filled (term_pattern term args at) h = some_mapped (λ ps. term_pattern term ps at) (all_substituted given args) (all_filled args h)
    filled (and_pattern parts at) h = some_mapped (λ ps. and_pattern ps at) (all_substituted given parts) (all_filled parts h)
    filled _ h = refl

    all_filled : (ts : PatternTrees) → All IsGiven (arguments_in_all ts) → is_some (all_substituted given ts) ≡ true
    all_filled no_pattern h = refl
    all_filled (pattern_and p rest) h =
        some_with (substituted given p) (all_substituted given rest) (filled p (all_left IsGiven (arguments_in p) (arguments_in_all rest) h)) (all_filled rest (all_right IsGiven (arguments_in p) (arguments_in_all rest) h))

-- what is made of a list whose names are distinct is found by its name
first_of_name : (ds : List DeclTree) (i : ℕ) (d : DeclTree) → IsDistinct (map (λ e. e.term.text) ds) → slice_get ds i ≡ Some d → find (λ e. bytes_eq e.term.text d.term.text) ds ≡ Some d
first_of_name [] i d once h = absurd (none-some d h)
first_of_name (e ∷ ds) zero d once h = grind (arith, common_steps, same_Some, same_self)
first_of_name (e ∷ ds) (suc i) d once h =
    elim (bytes_eq e.term.text d.term.text) as (λ b. bytes_eq e.term.text d.term.text ≡ b → cond b (Some e) (find (λ e. bytes_eq e.term.text d.term.text) ds) ≡ Some d) [
      | true ↦ grind (arith, get_map (λ (e : DeclTree). e.term.text) ds i d h, same_bytes e.term.text d.term.text, e.term.text, once 0 (suc i) d.term.text)
      | false ↦ λ _. first_of_name ds i d (λ j k x p q. let s : suc j ≡ suc k = once (suc j) (suc k) x p q in omega (arith, s)) h
    ] refl

-- of what is found by a name
found_of_name : (es : List ExtractorTree) (x : List ℕ) (e : ExtractorTree) → find (λ e. bytes_eq e.term.text x) es ≡ Some e → (P : ExtractorTree → Type 0) → All P es → (e.term.text ≡ x) × P e
found_of_name [] x e h P a = absurd (none-some e h)
found_of_name (c ∷ es) x e h P a =
    elim (bytes_eq c.term.text x) as (λ b. bytes_eq c.term.text x ≡ b → cond b (Some c) (find (λ e. bytes_eq e.term.text x) es) ≡ Some e → (e.term.text ≡ x) × P e) [
      | true ↦ λ t g. subst (λ d. (d.term.text ≡ x) × P d) (same_Some c e g) (same_bytes c.term.text x t, All-head P c es a)
      | false ↦ λ _ g. found_of_name es x e g P (All-tail P c es a)
    ] refl h

-- terms that are made as these say, from an id on
pub each_made : (P : TermEntry → Type 0) (i : ℕ) (fs : List (ℕ → TermEntry)) → All (λ f. (id : ℕ) → P (f id)) fs → All P (map (λ p. p.1 p.0) (enumerate_from i fs))
each_made P i [] a = All-nil P
each_made P i (f ∷ fs) a =
    All-cons P (f i) (map (λ p. p.1 p.0) (enumerate_from (i + 1) fs)) (All-head (λ f. (id : ℕ) → P (f id)) f fs a i) (each_made P (i + 1) fs (All-tail (λ f. (id : ℕ) → P (f id)) f fs a))

-- what holds of variants and structs holds of all terms that types make
module _ (P : TermEntry → Type 0) (variant : (ty : ℕ) (v : VariantEntry) (id : ℕ) → P (variant_as_term ty v id)) (structure : (name ty : ℕ) (fields : FieldEntries) (at : Position) (id : ℕ) → P (struct_as_term name ty fields at id)) where
  abbrev Always : (ℕ → TermEntry) → Type 0
  Always f = (id : ℕ) → P (f id)

  of_variants : (ty : ℕ) (vs : List VariantEntry) → All Always (map (variant_as_term ty) vs)
  of_variants ty [] = All-nil Always
  of_variants ty (v ∷ vs) = All-cons Always (variant_as_term ty v) (map (variant_as_term ty) vs) (variant ty v) (of_variants ty vs)

  of_type : (t : TypeEntry) → All Always (terms_made t)
  of_type (enum_type name id is_extern is_nodebug variants at) = of_variants id variants
  of_type (struct_type name id is_extern is_nodebug fields at) = All-cons Always (struct_as_term name id fields at) [] (structure name id fields at) (All-nil Always)
  of_type _ = All-nil Always

  pub of_types : (ts : List TypeEntry) → All Always (flat_map terms_made ts)
  of_types [] = All-nil Always
  of_types (t ∷ ts) = All-append Always (terms_made t) (flat_map terms_made ts) (of_type t) (of_types ts)

module _ (k : KnownTypes) (defs : List Definition) (valid : IsValidTerms k defs) where
  names_once : IsDistinct (decl_names defs)
  names_once j l x p q = valid.distinct j l x (get_front (decl_names defs) (filter_map (slice_get k.names) (flat_map made_by k.types)) j x p) (get_front (decl_names defs) (filter_map (slice_get k.names) (flat_map made_by k.types)) l x q)

  -- as many arguments as the declaration of a name has
  count_of : (i : ℕ) (d : DeclTree) → slice_get (decl_trees defs) i ≡ Some d → argument_count defs d.term.text ≡ length d.arg_tys
  count_of i d h = ap (λ (o : Option DeclTree). unwrap_or (option_map (λ d. length d.arg_tys) o) 0) (first_of_name (decl_trees defs) i d names_once h)

  module _ (i : ℕ) (d : DeclTree) (h : slice_get (decl_trees defs) i ≡ Some d) (id : ℕ) where
    abbrev entry : TermEntry
    entry = decl_as_term k defs (term_names_met k defs) d id

    fits : (t : PatternTree) (given : List PatternTree) → (e : ExtractorTree) × (find (λ e. bytes_eq e.term.text d.term.text) (extractor_trees defs) ≡ Some e) × (extractor_template e ≡ t) → length given ≡ length entry.arg_tys → is_some (substituted given t) ≡ true
    fits t given x size =
        let own = found_of_name (extractor_trees defs) d.term.text x.0 x.1 (UsesDeclaredArguments defs) valid.declared_arguments in
        let many : argument_count defs x.0.term.text ≡ length given = ap (argument_count defs) own.0 ∙ count_of i d h ∙ sym (length-map d.arg_tys (known_type k)) ∙ sym size in
        filled given t (subst (λ p. All (λ j. j < length given) (arguments_in p)) x.2 (subst (λ n. All (λ j. j < n) (arguments_in (extractor_template x.0))) many own.1))

    internal : (b : Bool) (t : PatternTree) (o : Option ExtractorTree) (p : Option ExternalTree)
        → entry_template (cond b (option_map (λ e. internal_extractor (extractor_template e)) o) (option_map (λ e. external_extractor (number (term_names_met k defs) e.function.text) e.infallible e.at) p)) ≡ Some t
        → (e : ExtractorTree) × (o ≡ Some e) × (extractor_template e ≡ t)
    internal b t o p g = grind (arith, none-some, same_Some)

    whole : IsWholeTemplate entry
    whole t given is size = grind (arith, common_steps, fits, internal)

  abbrev Whole : (ℕ → TermEntry) → Type 0
  Whole f = (id : ℕ) → IsWholeTemplate (f id)

  declared_whole : All Whole (map (decl_as_term k defs (term_names_met k defs)) (decl_trees defs))
  declared_whole =
      all_members Whole (map (decl_as_term k defs (term_names_met k defs)) (decl_trees defs)) (λ f c.
      let d = from_map (decl_as_term k defs (term_names_met k defs)) (decl_trees defs) f c in
      let i = get_from_member (decl_trees defs) d.0 d.1 in
      subst Whole d.2 (λ id. whole i.0 d.0 i.1 id))

  pub templates_are_whole : All IsWholeTemplate (term_table k defs)
  templates_are_whole =
      each_made IsWholeTemplate 0 (terms_in_order k defs)
      (All-append Whole (map (decl_as_term k defs (term_names_met k defs)) (decl_trees defs)) (flat_map terms_made k.types) declared_whole
      (of_types IsWholeTemplate (λ ty v id t given is size. absurd (none-some t is)) (λ name ty fields at id t given is size. absurd (none-some t is)) k.types))
