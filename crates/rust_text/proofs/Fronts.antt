-- What stands before functions is made of texts that leave nothing open.
use Rattle.std.proofs.Common.{◌≡◌, ◌∙◌, ◌&&◌, ◌++◌, ◌==◌, ◌∷◌, [], ℕ, zero, suc, Bool, true, false, not, cond, List, Option, Some, None, codes, decimal, filter, slice_get, refl, sym, ap, inl, inr, ⊎_elim}
use Rattle.std.specs.List.{flat_map, list_any}
use Rattle.std.proofs.lemmas.Bool.{and_parts, and_from, false≢true, not-true}
use Rattle.model.specs.lists.Signatures.{text_of, Giving, gives_one, gives_one_or_none, gives_any_number, Signature, constructor_signature, extractor_signature}
use Rattle.model.specs.lists.Syntax.{Position}
use Rattle.model.specs.lists.Tables.{FieldEntry, TupleFieldEntry, FieldEntries, unit_entries, struct_entries, tuple_entries, VariantEntry, TypeEntry, builtin_type, primitive_type, enum_type, struct_type, TermEntry}
use Rattle.model.specs.rules.Values.{is_composed_type}
use Rattle.model.proofs.Elements.{In, from_flat_map, in_either, in_filter}
use Rattle.model_code.specs.Closed.{is_closed, quotes_close, escape_closes}
use Rattle.model_code.proofs.Lexing.{decimal_letters}
use Rattle.model_code.proofs.Closed.{closed_letters}
use Rattle.core_terms.specs.Terms.{has_external_constructor_term, has_external_extractor_term}
use Rattle.rust_items.specs.FilePlaces.{Beginning, Sources, file_written, place_written}
use Rattle.rust_items.specs.RustNames.{part, spelled}
use Rattle.rust_items.specs.WrittenItems.{ContextFunction, ItemSetting, answers_begin, attributes_written, call_begin, call_written, constructor_function, context_functions, context_written, declaration_written, defined_written, derive_written, enum_written, extractor_function, fields_written, file_line, file_lines, firsts, function_at, function_lines, functions_if, functions_of_term, given_written, has_any_field, head_written, is_other, items_before, named_field_written, named_fields_written, returns_written, signature_written, struct_end, struct_written, trait_begin, type_head, types_written, unless, unnamed_field_written, unnamed_fields_written, variant_has_fields, variant_written, variants_written, whole_struct_written}
use Rattle.rust_items.specs.WrittenTypes.{lead, listed_type, listed_types, outputs_written, parameter_written, parameters_written, reference, type_written}
use Rattle.rust_items.specs.declared.beside.TheConstants.{BESIDE}
use Rattle.rust_items.specs.declared.head.TheConstants.{ALLOWS, FIRST, IMPORTS}
use Rattle.core_terms.specs.TermViews.{term_views}
use Rattle.rust_text.specs.Fronts.{FrontsAreClosed, Standing, behind_backslash, in_line_comment, in_quotes, one_further, outside, standing_behind}
use Rattle.rust_text.specs.WholeCode.{first_line, front_written, items_of}
use Rattle.rust_text.proofs.ClosedNames.{written_names_are_closed_lem as written}
use Rattle.rust_text.proofs.WholeNames.{file_stays, is_on_line, part_closed, place_stays, type_closed}

-- 1. texts that leave nothing open
record Leaves (text : List ℕ) : Type 0 where
  pub none : standing_behind outside text ≡ outside

onto : (s : Standing) (x y : List ℕ) → standing_behind s (x ++ y) ≡ standing_behind (standing_behind s x) y
onto s [] y = refl
onto s (c ∷ x) y = onto (one_further s c) x y

both : (x y : List ℕ) → Leaves x → Leaves y → Leaves (x ++ y)
both x y h k = record { none = onto outside x y ∙ ap (λ s. standing_behind s y) h.none ∙ k.none }

nothing : Leaves []
nothing = record { none = refl }

either : (b : Bool) (x y : List ℕ) → Leaves x → Leaves y → Leaves (cond b x y)
either true x y h k = h
either false x y h k = k

-- closed texts
record AreLeft (cs : List ℕ) : Type 0 where
  pub closed : is_closed cs ≡ true → standing_behind outside cs ≡ outside
  pub quotes : quotes_close cs ≡ true → standing_behind in_quotes cs ≡ outside
  pub escape : escape_closes cs ≡ true → standing_behind behind_backslash cs ≡ outside

closed_at : (c : ℕ) (cs : List ℕ) (b : Bool) → (c == 34) ≡ b → AreLeft cs → cond b (quotes_close cs) ((not (c == 47) && not (c == 46)) && is_closed cs) ≡ true → standing_behind (one_further outside c) cs ≡ outside
closed_at c cs true e r h = rw e (r.quotes h)
closed_at c cs false e r h =
    let hs = and_parts (not (c == 47) && not (c == 46)) (is_closed cs) h in
    let slash = not-true (c == 47) (and_parts (not (c == 47)) (not (c == 46)) hs.0).0 in
    rw e (rw slash (r.closed hs.1))

quoted_at : (c : ℕ) (cs : List ℕ) (a b : Bool) → (c == 92) ≡ a → (c == 34) ≡ b → AreLeft cs → cond a (escape_closes cs) (cond b (is_closed cs) (quotes_close cs)) ≡ true → standing_behind (one_further in_quotes c) cs ≡ outside
quoted_at c cs true b e f r h = rw e (r.escape h)
quoted_at c cs false true e f r h = rw e (rw f (r.closed h))
quoted_at c cs false false e f r h = rw e (rw f (r.quotes h))

are_left : (cs : List ℕ) → AreLeft cs
are_left [] = record { closed = λ h. refl; quotes = λ h. absurd (false≢true h); escape = λ h. absurd (false≢true h) }
are_left (c ∷ cs) =
    let r = are_left cs in
    record { closed = closed_at c cs (c == 34) refl r; quotes = quoted_at c cs (c == 92) (c == 34) refl refl r; escape = λ h. r.quotes h }

of_closed : (text : List ℕ) → is_closed text ≡ true → Leaves text
of_closed text h = record { none = (are_left text).closed h }

-- comments, which end with their line
within : (text : List ℕ) → is_on_line text ≡ true → standing_behind in_line_comment text ≡ in_line_comment
within [] h = refl
within (c ∷ cs) h = let hs = and_parts (not (c == 10)) (is_on_line cs) h in rw (not-true (c == 10) hs.0) (within cs hs.1)

comment : (text rest : List ℕ) → is_on_line text ≡ true → standing_behind in_line_comment rest ≡ outside → standing_behind in_line_comment (text ++ rest) ≡ outside
comment text rest h k = onto in_line_comment text rest ∙ ap (λ s. standing_behind s rest) (within text h) ∙ k

-- one behind another
each : {X : Type 0} (f : X → List ℕ) → ((x : X) → Leaves (f x)) → (xs : List X) → Leaves (flat_map f xs)
each f h [] = nothing
each f h (x ∷ xs) = both (f x) (flat_map f xs) (h x) (each f h xs)

each_in : {X : Type 0} (f : X → List ℕ) (xs : List X) → ((x : X) → In xs x → Leaves (f x)) → Leaves (flat_map f xs)
each_in f [] h = nothing
each_in f (x ∷ xs) h = both (f x) (flat_map f xs) (h x (inl refl)) (each_in f xs (λ y i. h y (inr i)))

name_leaves : (name : List ℕ) → Leaves (spelled name)
name_leaves name = of_closed (spelled name) (written.name name)

part_leaves : (name : List ℕ) → Leaves (part name)
part_leaves name = of_closed (part name) (part_closed name)

type_leaves : (names : List (List ℕ)) (o : Option TypeEntry) → Leaves (type_written names o)
type_leaves names o = of_closed (type_written names o) (type_closed names o)

decimal_leaves : (n : ℕ) → Leaves (decimal n)
decimal_leaves n = of_closed (decimal n) (closed_letters (decimal n) (decimal_letters n))

lead_leaves : (first : List ℕ) → Leaves first → (i : ℕ) → Leaves (lead first i)
lead_leaves first h zero = h
lead_leaves first h (suc i) = record { none = refl }

-- 2. the head
line_leaves : (bs : List Beginning) (name : List ℕ) → Leaves (file_line bs name)
line_leaves bs name = record { none = comment (file_written bs name) (codes "\n") (file_stays bs name) refl }

head_leaves : (s : Sources) (excluded : Bool) → Leaves (head_written s excluded)
head_leaves s excluded =
    both FIRST.now _ (record { none = refl }) (both (file_lines s) _ (each (file_line s.beginnings) (line_leaves s.beginnings) s.names)
    (both (unless excluded ALLOWS.now) IMPORTS.now (by excluded) (record { none = refl })))
  where
    by : (b : Bool) → Leaves (unless b ALLOWS.now)
    by true = nothing
    by false = record { none = refl }

-- 3. the trait
module _ (s : ItemSetting) where
  listed_leave : (i : ℕ) (tys : List ℕ) → Leaves (listed_types s.names s.types i tys)
  listed_leave i [] = nothing
  listed_leave i (ty ∷ tys) =
      both (listed_type s.names s.types i ty) (listed_types s.names s.types (suc i) tys) (both (lead [] i) _ (lead_leaves [] nothing i) (type_leaves s.names (slice_get s.types ty))) (listed_leave (suc i) tys)

  outputs_leave : (tys : List ℕ) → Leaves (outputs_written s.names s.types tys)
  outputs_leave [] = record { none = refl }
  outputs_leave (ty ∷ []) = type_leaves s.names (slice_get s.types ty)
  outputs_leave (ty ∷ (other ∷ tys)) = both (codes "(") _ (record { none = refl }) (both _ (codes ")") (listed_leave 0 (ty ∷ (other ∷ tys))) (record { none = refl }))

  parameter_leaves : (i ty : ℕ) → Leaves (parameter_written s.names s.types i ty)
  parameter_leaves i ty =
      both (codes ", arg") _ (record { none = refl }) (both (decimal i) _ (decimal_leaves i) (both (codes ": ") _ (record { none = refl })
      (both (reference (slice_get s.types ty)) _ (either (is_composed_type (slice_get s.types ty)) (codes "&") [] (record { none = refl }) nothing) (type_leaves s.names (slice_get s.types ty)))))

  parameters_leave : (i : ℕ) (tys : List ℕ) → Leaves (parameters_written s.names s.types i tys)
  parameters_leave i [] = nothing
  parameters_leave i (ty ∷ tys) = both (parameter_written s.names s.types i ty) _ (parameter_leaves i ty) (parameters_leave (suc i) tys)

  returns_leave : (name tys : List ℕ) (gives : Giving) → Leaves (returns_written s name tys gives)
  returns_leave name tys gives_one = nothing
  returns_leave name tys gives_one_or_none = nothing
  returns_leave name tys gives_any_number =
      both (answers_begin name) _ (both (codes "    type ") _ (record { none = refl }) (both (part name) _ (part_leaves name) (record { none = refl })))
      (both (outputs_written s.names s.types tys) _ (outputs_leave tys) (record { none = refl }))

  given_leaves : (name tys : List ℕ) (gives : Giving) → Leaves (given_written s name tys gives)
  given_leaves name tys gives_one = both (codes ") -> ") _ (record { none = refl }) (outputs_leave tys)
  given_leaves name tys gives_one_or_none = both (codes ") -> Option<") _ (record { none = refl }) (both _ (codes ">") (outputs_leave tys) (record { none = refl }))
  given_leaves name tys gives_any_number = both (codes ", returns: &mut Self::") _ (record { none = refl }) (both (part name) _ (part_leaves name) (record { none = refl }))

  call_leaves : (name params tys : List ℕ) (gives : Giving) → Leaves (call_written s name params tys gives)
  call_leaves name params tys gives =
      both (call_begin name) _ (both (codes "    fn ") _ (record { none = refl }) (both (spelled name) _ (name_leaves name) (record { none = refl })))
      (both (parameters_written s.names s.types 0 params) _ (parameters_leave 0 params) (both (given_written s name tys gives) _ (given_leaves name tys gives) (record { none = refl })))

  signature_leaves : (sig : Signature) → Leaves (signature_written s sig)
  signature_leaves sig =
      both (returns_written s sig.func_name sig.ret_tys sig.ret_kind) _ (returns_leave sig.func_name sig.ret_tys sig.ret_kind) (call_leaves sig.func_name sig.param_tys sig.ret_tys sig.ret_kind)

  function_leaves : (at : Position) (o : Option Signature) (f : ContextFunction) → In (function_at s at o) f → Leaves f.text
  function_leaves at None f i = absurd i
  function_leaves at (Some sig) f (inl e) = record { none = ap (λ (x : ContextFunction). standing_behind outside x.text) (sym e) ∙ (signature_leaves sig).none }
  function_leaves at (Some sig) f (inr i) = absurd i

  if_leaves : (b : Bool) (fs : List ContextFunction) (f : ContextFunction) → ((g : ContextFunction) → In fs g → Leaves g.text) → In (functions_if b fs) f → Leaves f.text
  if_leaves true fs f h i = h f i
  if_leaves false fs f h i = absurd i

  term_leaves : (e : TermEntry) (f : ContextFunction) → In (functions_of_term s e) f → Leaves f.text
  term_leaves e f i =
      ⊎_elim (λ a. if_leaves (has_external_extractor_term e) _ f (λ g. function_leaves e.at (extractor_signature s.names e) g) a) (λ b. if_leaves (has_external_constructor_term e) _ f (λ g. function_leaves e.at (constructor_signature s.names e) g) b)
      (in_either (extractor_function s e) (constructor_function s e) f i)

  in_firsts : (fs : List ContextFunction) (f : ContextFunction) → In (firsts fs) f → In fs f
  in_firsts [] f i = i
  in_firsts (g ∷ fs) f (inl e) = inl e
  in_firsts (g ∷ fs) f (inr i) = inr (in_firsts fs f (in_filter (is_other g) (firsts fs) f i))

  context_leaves : (es : List TermEntry) → Leaves (context_written s es)
  context_leaves es =
      both trait_begin _ (record { none = refl }) (both (function_lines (firsts (context_functions s es))) (codes "}\n")
      (each_in (λ (f : ContextFunction). f.text) (firsts (context_functions s es))
      (λ f i. let r = from_flat_map (functions_of_term s) es f (in_firsts (context_functions s es) f i) in term_leaves r.0 f r.2))
      (record { none = refl }))

  -- 4. types
  attributes_leave : (has_fields is_nodebug : Bool) (at : Position) → Leaves (attributes_written s.sources has_fields is_nodebug at)
  attributes_leave has_fields is_nodebug at =
      both (defined_written s.sources at) (derive_written has_fields is_nodebug) (record { none = comment (place_written s.sources at) (codes ".\n") (place_stays s.sources at) refl }) (behind has_fields is_nodebug)
    where
      behind : (a b : Bool) → Leaves (derive_written a b)
      behind true true = record { none = refl }
      behind true false = record { none = refl }
      behind false true = record { none = refl }
      behind false false = record { none = refl }

  type_head_leaves : (word : List ℕ) → Leaves word → (name : ℕ) → Leaves (type_head s.names word name)
  type_head_leaves word h name = both (codes "pub ") _ (record { none = refl }) (both word _ h (name_leaves (text_of s.names name)))

  module _ (word : List ℕ) (h : Leaves word) where
    named_field_leaves : (i : ℕ) (f : FieldEntry) → Leaves (named_field_written s word i f)
    named_field_leaves i f =
        both (lead (codes " ") i) _ (lead_leaves (codes " ") (record { none = refl }) i) (both word _ h (both (spelled (text_of s.names f.name)) _ (name_leaves (text_of s.names f.name))
        (both (codes ": ") _ (record { none = refl }) (type_leaves s.names (slice_get s.types f.ty)))))

    named_fields_leave : (i : ℕ) (fs : List FieldEntry) → Leaves (named_fields_written s word i fs)
    named_fields_leave i [] = nothing
    named_fields_leave i (f ∷ fs) = both (named_field_written s word i f) _ (named_field_leaves i f) (named_fields_leave (suc i) fs)

    unnamed_field_leaves : (i : ℕ) (f : TupleFieldEntry) → Leaves (unnamed_field_written s word i f)
    unnamed_field_leaves i f = both (lead [] i) _ (lead_leaves [] nothing i) (both word _ h (type_leaves s.names (slice_get s.types f.ty)))

    unnamed_fields_leave : (i : ℕ) (fs : List TupleFieldEntry) → Leaves (unnamed_fields_written s word i fs)
    unnamed_fields_leave i [] = nothing
    unnamed_fields_leave i (f ∷ fs) = both (unnamed_field_written s word i f) _ (unnamed_field_leaves i f) (unnamed_fields_leave (suc i) fs)

    fields_leave : (fields : FieldEntries) → Leaves (fields_written s word fields)
    fields_leave unit_entries = nothing
    fields_leave (struct_entries fs) = both (codes " {") _ (record { none = refl }) (both _ (codes " }") (named_fields_leave 0 fs) (record { none = refl }))
    fields_leave (tuple_entries fs) = both (codes "(") _ (record { none = refl }) (both _ (codes ")") (unnamed_fields_leave 0 fs) (record { none = refl }))

  variant_leaves : (v : VariantEntry) → Leaves (variant_written s v)
  variant_leaves v =
      both (codes "    ") _ (record { none = refl }) (both (spelled (text_of s.names v.name)) _ (name_leaves (text_of s.names v.name)) (both _ (codes ",\n") (fields_leave [] nothing v.fields) (record { none = refl })))

  enum_leaves : (name : ℕ) (is_nodebug : Bool) (variants : List VariantEntry) (at : Position) → Leaves (enum_written s name is_nodebug variants at)
  enum_leaves name is_nodebug variants at =
      both (attributes_written s.sources (list_any variant_has_fields variants) is_nodebug at) _ (attributes_leave (list_any variant_has_fields variants) is_nodebug at)
      (both (type_head s.names (codes "enum ") name) _ (type_head_leaves (codes "enum ") (record { none = refl }) name)
      (both (codes " {\n") _ (record { none = refl }) (both (flat_map (variant_written s) variants) _ (each (variant_written s) variant_leaves variants) (record { none = refl }))))

  end_leaves : (fields : FieldEntries) → Leaves (struct_end fields)
  end_leaves unit_entries = record { none = refl }
  end_leaves (struct_entries fs) = record { none = refl }
  end_leaves (tuple_entries fs) = record { none = refl }

  struct_leaves : (name : ℕ) (is_nodebug : Bool) (fields : FieldEntries) (at : Position) → Leaves (whole_struct_written s name is_nodebug fields at)
  struct_leaves name is_nodebug fields at =
      both (attributes_written s.sources (has_any_field fields) is_nodebug at) _ (attributes_leave (has_any_field fields) is_nodebug at)
      (both (type_head s.names (codes "struct ") name) _ (type_head_leaves (codes "struct ") (record { none = refl }) name)
      (both (fields_written s (codes "pub ") fields) _ (fields_leave (codes "pub ") (record { none = refl }) fields) (end_leaves fields)))

  unless_leaves : (b : Bool) (text : List ℕ) → Leaves text → Leaves (unless b text)
  unless_leaves true text h = nothing
  unless_leaves false text h = h

  declaration_leaves : (e : TypeEntry) → Leaves (declaration_written s e)
  declaration_leaves (builtin_type place) = nothing
  declaration_leaves (primitive_type id name at) = nothing
  declaration_leaves (enum_type name id is_extern is_nodebug variants at) = unless_leaves is_extern _ (enum_leaves name is_nodebug variants at)
  declaration_leaves (struct_type name id is_extern is_nodebug fields at) = unless_leaves is_extern _ (struct_leaves name is_nodebug fields at)

  items_leave : (excluded : Bool) (es : List TermEntry) → Leaves (items_before s excluded es)
  items_leave excluded es =
      both (head_written s.sources excluded) _ (head_leaves s.sources excluded) (both (context_written s es) _ (context_leaves es)
      (both BESIDE.now (types_written s s.types) (record { none = refl }) (each (declaration_written s) declaration_leaves s.types)))

pub fronts_are_closed_lem : FrontsAreClosed
fronts_are_closed_lem l sources excluded =
    (both first_line (items_before (items_of l sources) excluded (term_views l.termenv.terms.items)) (record { none = refl }) (items_leave (items_of l sources) excluded (term_views l.termenv.terms.items))).none
