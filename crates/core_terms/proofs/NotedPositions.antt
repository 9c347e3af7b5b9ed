-- Errors that stand at the positions of a definition or at those that a table keeps, and the positions that a table keeps
-- after a step.
use Rattle.std.proofs.Common.{◌≡◌, ◌⊎◌, ℕ, zero, suc, ◌<◌, Option, Some, Bor, OnOk, Result, List, [], ◌∷◌, ◌++◌, Contains, length, get_or, map, slice_get, refl, sym, ap, subst, ◌∙◌, inl, inr, arith}
use Rattle.std.proofs.Math.ListN.{set}
use Rattle.std.proofs.lemmas.List.{map-append}
use Rattle.std.proofs.lemmas.Result.{on_ok_weaker}
use Rattle.std.proofs.lemmas.Simd.{map-map}
use Rattle.std.proofs.lemmas.List.Concat.{flat_map-append}
use Rattle.std.proofs.lemmas.List.Elements.{Contains-append_left, Contains-append_right, Contains-get_or}
use Rattle.std.proofs.lemmas.Grind.{common_steps}
use Rattle.model.specs.lists.Syntax.{Position, Name, PatternTree, PatternTrees, var_pattern, bind_pattern, bool_pattern, int_pattern, prim_pattern, term_pattern, wildcard_pattern, and_pattern, macro_arg, no_pattern, pattern_and, ConverterTree, DeclTree, ExtractorTree}
use Rattle.model.specs.lists.Tables.{VariantEntry, ConstructorEntry, ExtractorEntry, TermKindEntry, TermEntry}
use Rattle.model.specs.lists.TermTable.{variant_as_term, argument_or, binding_or, template, templates, extractor_template, terms_of, terms_of_all}
use Rattle.model.proofs.Members.{in_head, in_tail, in_cases, in_map, in_flat_map, from_map, from_flat_map, member_from_get}
use Rattle.core_syntax.specs.declared.syntax.Def.{Def}
use Rattle.core_syntax.specs.declared.syntax.Error.{Error}
use Rattle.core_syntax.specs.declared.syntax.Ident.{Ident}
use Rattle.core_syntax.specs.declared.syntax.Pos.{Pos}
use Rattle.core_syntax.specs.Patterns.{pattern_position}
use Rattle.core_syntax.specs.Places.{term_view as place_view}
use Rattle.core_syntax.specs.Positions.{NotesAt, OccurAmong, converter_positions, declaration_positions, name_positions, definition_positions, extractor_positions, pattern_positions, patterns_positions, positions_of}
use Rattle.core_syntax.specs.SyntaxViews.{definition_view, definition_views, name_view, position}
use Rattle.core_syntax.proofs.Positioned.{among_same, among_both, among_left, among_right, among_rest, among_one, among_first, among_each, notes_nothing, notes_both, notes_among, among_none, among_join, among_next, among_under, among_sides, notes_parts}
use Rattle.core_types.specs.declared.types.Type as T
use Rattle.core_types.specs.declared.types.Variant.{Variant}
use Rattle.core_types.specs.TypeViews.{type_view, type_views, variant_view}
use Rattle.core_terms.specs.declared.term.Term.{Term}
use Rattle.core_terms.specs.declared.term_table.TermTable.{TermTable}
use Rattle.core_terms.specs.Externing.{made_by_this, taken_by_this, with_kind}
use Rattle.core_terms.specs.Reading.{internal_entry, internal_kind}
use Rattle.core_terms.specs.Signing.{PushesTerm}
use Rattle.core_terms.specs.TermPositions.{template_place, variants_positions, argument_places, argument_places_all, entry_positions, kind_positions, table_positions, taker_positions, terms_positions, IsPlacedAmong}
use Rattle.core_types.specs.TypePositions.{entry_positions as type_entry_positions, types_positions}
use Rattle.core_terms.specs.TermViews.{term_view, term_views}

pub among_as : (ps qs rs : List Position) → ps ≡ qs → OccurAmong ps rs → OccurAmong qs rs
among_as ps qs rs e a = subst (λ l. OccurAmong l rs) e a

-- an error, and one at an earlier place
pub notes_earlier : (p q : Position) (ps : List Position) (old mid new : List Error) → Contains ps q → NotesAt (p ∷ []) old mid → NotesAt (q ∷ []) mid new → NotesAt (p ∷ ps) old new
notes_earlier p q ps old mid new there first second =
    notes_both (p ∷ ps) old mid new (notes_among (p ∷ []) (p ∷ ps) old mid (among_first p ps) first)
    (notes_among (q ∷ []) (p ∷ ps) mid new (among_one q (p ∷ ps) (in_tail p q ps there)) second)

-- tables
pub placed_same : (old new : TermTable) (ps : List Position) → new.terms ≡ old.terms → IsPlacedAmong (ps ++ table_positions old) new
placed_same old new ps same = record { each = subst (λ v. OccurAmong (terms_positions (term_views v.items)) (ps ++ table_positions old)) (sym same) (among_right ps (table_positions old)) }

pub placed_among : (ps qs : List Position) (table : TermTable) → OccurAmong ps qs → IsPlacedAmong ps table → IsPlacedAmong qs table
placed_among ps qs table a w = record { each = among_both (table_positions table) ps qs w.each a }

-- what a step keeps, where all that was kept stands among positions
pub placed_next : (part ps : List Position) (old new : TermTable) → OccurAmong part ps → IsPlacedAmong ps old → IsPlacedAmong (part ++ table_positions old) new → IsPlacedAmong ps new
placed_next part ps old new a before after = record { each = among_both (table_positions new) (part ++ table_positions old) ps after.each (among_join part (table_positions old) ps a before.each) }

pub notes_next : (part ps : List Position) (old : TermTable) (es mid es' : List Error) → OccurAmong part ps → IsPlacedAmong ps old → NotesAt ps es mid → NotesAt (part ++ table_positions old) mid es' → NotesAt ps es es'
notes_next part ps old es mid es' a before first second =
    notes_both ps es mid es' first (notes_among (part ++ table_positions old) ps mid es' (among_join part (table_positions old) ps a before.each) second)

-- how far a loop over definitions is: what was noted stands at these positions, and what the table keeps is among them
pub record PlacedSoFar (ps : List Position) (es : List Error) (table : TermTable) (es' : List Error) : Type 0 where
  pub noted : NotesAt ps es es'
  pub kept : IsPlacedAmong ps table

pub not_begun : (ps : List Position) (table : TermTable) (es : List Error) → PlacedSoFar (ps ++ table_positions table) es table es
not_begun ps table es = record { noted = notes_nothing (ps ++ table_positions table) es es refl; kept = placed_same table table ps refl }

pub step_so_far : (part ps : List Position) (table table' : TermTable) (es mid es' : List Error) → OccurAmong part ps → NotesAt (part ++ table_positions table) mid es' → IsPlacedAmong (part ++ table_positions table) table' → PlacedSoFar ps es table mid → PlacedSoFar ps es table' es'
step_so_far part ps table table' es mid es' a noted placed s = record {
  noted = notes_next part ps table es mid es' a s.kept s.noted noted;
  kept = placed_next part ps table table' a s.kept placed;
}

-- the positions of one definition are among those of all
pub def_among : (defs : List Def) (i : ℕ) (def : Def) → i < length defs → def ≡ get_or defs i def → (rest : List Position) → OccurAmong (definition_positions (definition_view def)) (positions_of (definition_views defs) ++ rest)
def_among defs i def within here rest =
    let member : Contains defs def = subst (Contains defs) (sym here) (Contains-get_or defs i def within) in
    among_both (definition_positions (definition_view def)) (positions_of (definition_views defs)) (positions_of (definition_views defs) ++ rest)
    (among_each definition_positions (definition_views defs) (definition_view def) (in_map definition_view defs def member))
    (among_left (positions_of (definition_views defs)) rest)

pub next_so_far : (defs : List Def) (i : ℕ) (def : Def) → i < length defs → def ≡ get_or defs i def → (rest : List Position) (table table' : TermTable) (es mid es' : List Error) → NotesAt (definition_positions (definition_view def) ++ table_positions table) mid es' → IsPlacedAmong (definition_positions (definition_view def) ++ table_positions table) table'
    → PlacedSoFar (positions_of (definition_views defs) ++ rest) es table mid → PlacedSoFar (positions_of (definition_views defs) ++ rest) es table' es'
next_so_far defs i def within here rest table table' es mid es' =
    step_so_far (definition_positions (definition_view def)) (positions_of (definition_views defs) ++ rest) table table' es mid es' (def_among defs i def within here rest)

-- what a step notes of a definition stands at those of all
pub next_noted : (defs : List Def) (i : ℕ) (def : Def) → i < length defs → def ≡ get_or defs i def → (es mid es' : List Error) → NotesAt (definition_positions (definition_view def)) mid es' → NotesAt (positions_of (definition_views defs)) es mid → NotesAt (positions_of (definition_views defs)) es es'
next_noted defs i def within here es mid es' second first =
    let member : Contains defs def = subst (Contains defs) (sym here) (Contains-get_or defs i def within) in
    notes_both (positions_of (definition_views defs)) es mid es' first
    (notes_among (definition_positions (definition_view def)) (positions_of (definition_views defs)) mid es' (among_each definition_positions (definition_views defs) (definition_view def) (in_map definition_view defs def member)) second)

-- the place of one name is among those of all
pub name_among : (names : List Ident) (i : ℕ) (n : Ident) → i < length names → n ≡ get_or names i n → OccurAmong (position n.1 ∷ []) (name_positions (map name_view names))
name_among names i n within here =
    let member : Contains names n = subst (Contains names) (sym here) (Contains-get_or names i n within) in
    among_one (position n.1) (name_positions (map name_view names)) (in_map (λ (m : Name). m.at) (map name_view names) (name_view n) (in_map name_view names n member))

pub arguments_in_declaration : (d : DeclTree) → OccurAmong (name_positions d.arg_tys) (declaration_positions d)
arguments_in_declaration d p c = in_tail d.at p (d.term.at ∷ d.ret_ty.at ∷ name_positions d.arg_tys) (in_tail d.term.at p (d.ret_ty.at ∷ name_positions d.arg_tys) (in_tail d.ret_ty.at p (name_positions d.arg_tys) c))

pub result_in_declaration : (d : DeclTree) → OccurAmong (d.ret_ty.at ∷ []) (declaration_positions d)
result_in_declaration d = among_one d.ret_ty.at (declaration_positions d) (in_tail d.at d.ret_ty.at (d.term.at ∷ d.ret_ty.at ∷ name_positions d.arg_tys) (in_tail d.term.at d.ret_ty.at (d.ret_ty.at ∷ name_positions d.arg_tys) (in_head d.ret_ty.at (name_positions d.arg_tys))))

-- those of one term are among those of its table
pub entry_among : (ts : List Term) (i : ℕ) (t : Term) → i < length ts → t ≡ get_or ts i t → OccurAmong (entry_positions (term_view t)) (terms_positions (term_views ts))
entry_among ts i t within here = grind (arith, common_steps, among_each entry_positions (term_views ts) (term_view t), in_map term_view ts t)

-- a term is added
pub placed_push : (old new : TermTable) (e : TermEntry) (ps : List Position) → term_views new.terms.items ≡ term_views old.terms.items ++ e ∷ [] → OccurAmong (entry_positions e) ps → IsPlacedAmong (ps ++ table_positions old) new
placed_push old new e ps terms a =
    let all : terms_positions (term_views new.terms.items) ≡ table_positions old ++ (entry_positions e ++ []) = ap terms_positions terms ∙ flat_map-append entry_positions (term_views old.terms.items) (e ∷ []) in
    record {
      each = among_as (table_positions old ++ (entry_positions e ++ [])) (table_positions new) (ps ++ table_positions old) (sym all)
          (among_join (table_positions old) (entry_positions e ++ []) (ps ++ table_positions old) (among_right ps (table_positions old))
          (among_join (entry_positions e) [] (ps ++ table_positions old) (among_both (entry_positions e) ps (ps ++ table_positions old) a (among_left ps (table_positions old))) (among_none (ps ++ table_positions old))));
    }

member_set : (ts : List Term) (k : ℕ) (t x : Term) → Contains (set ts k t) x → (t ≡ x) ⊎ Contains ts x
member_set [] k t x c = inr c
member_set (y ∷ ys) zero t x c = elim (in_cases t x ys c) [ inl e ↦ inl e | inr d ↦ inr (in_tail y x ys d) ]
member_set (y ∷ ys) (suc k) t x c = grind (arith, common_steps, member_set ys k t x, in_cases y x (set ys k t) c, set ys k t, in_head y ys, in_tail y x ys)

-- a term is changed
pub set_among : (ts : List Term) (k : ℕ) (t d : Term) (ps : List Position) → k < length ts → d ≡ get_or ts k d → OccurAmong (entry_positions (term_view t)) (ps ++ entry_positions (term_view d))
    → OccurAmong (terms_positions (term_views (set ts k t))) (ps ++ terms_positions (term_views ts))
set_among ts k t d ps within here a p c =
    let others : List Position = terms_positions (term_views ts) in
    let of = from_flat_map entry_positions (term_views (set ts k t)) p c in
    let this = from_map term_view (set ts k t) of.0 of.1 in
    let at : Contains (entry_positions (term_view this.0)) p = subst (λ e. Contains (entry_positions e) p) (sym this.2) of.2 in
    elim (member_set ts k t this.0 this.1) [
      | inl same ↦
          among_join ps (entry_positions (term_view d)) (ps ++ others) (among_left ps others)
          (among_both (entry_positions (term_view d)) others (ps ++ others) (entry_among ts k d within here) (among_right ps others)) p
          (a p (subst (λ x. Contains (entry_positions (term_view x)) p) (sym same) at))
      | inr m ↦ Contains-append_right ps others p (in_flat_map entry_positions (term_views ts) (term_view this.0) p (in_map term_view ts this.0 m) at)
    ]

pub placed_set : (old new : TermTable) (k : ℕ) (t d : Term) (ps : List Position) → k < length old.terms.items → d ≡ get_or old.terms.items k d → new.terms.items ≡ set old.terms.items k t
    → OccurAmong (entry_positions (term_view t)) (ps ++ entry_positions (term_view d)) → IsPlacedAmong (ps ++ table_positions old) new
placed_set old new k t d ps within here is a = grind (arith, common_steps, set_among old.terms.items k t d ps within here a)

-- one name after another, each with its place
pub next_place : {X : Type 0} (f : X → Position) (xs : List X) (i : ℕ) (x : X) → i < length xs → x ≡ get_or xs i x → (es mid es' : List Error) → NotesAt (f x ∷ []) mid es' → NotesAt (map f xs) es mid → NotesAt (map f xs) es es'
next_place f xs i x within here es mid es' second first =
    let member : Contains xs x = subst (Contains xs) (sym here) (Contains-get_or xs i x within) in
    notes_both (map f xs) es mid es' first (notes_among (f x ∷ []) (map f xs) mid es' (among_one (f x) (map f xs) (in_map f xs x member)) second)

-- one type after another
pub type_among : (types : List T.Type) (i : ℕ) (t : T.Type) → i < length types → t ≡ get_or types i t → OccurAmong (type_entry_positions (type_view t)) (types_positions (type_views types))
type_among types i t within here = grind (arith, common_steps, among_each type_entry_positions (type_views types) (type_view t), in_map type_view types t)

pub type_noted : (types : List T.Type) (i : ℕ) (t : T.Type) → i < length types → t ≡ get_or types i t → (es mid es' : List Error) → NotesAt (type_entry_positions (type_view t)) mid es' → NotesAt (types_positions (type_views types)) es mid → NotesAt (types_positions (type_views types)) es es'
type_noted types i t within here es mid es' second first =
    notes_both (types_positions (type_views types)) es mid es' first (notes_among (type_entry_positions (type_view t)) (types_positions (type_views types)) mid es' (type_among types i t within here) second)

pub type_placed : (types : List T.Type) (i : ℕ) (t : T.Type) → i < length types → t ≡ get_or types i t → (rest : List Position) (table table' : TermTable) → IsPlacedAmong (type_entry_positions (type_view t) ++ table_positions table) table' → IsPlacedAmong (types_positions (type_views types) ++ rest) table → IsPlacedAmong (types_positions (type_views types) ++ rest) table'
type_placed types i t within here rest table table' second first =
    let ps : List Position = types_positions (type_views types) in
    placed_next (type_entry_positions (type_view t)) (ps ++ rest) table table' (among_both (type_entry_positions (type_view t)) ps (ps ++ rest) (type_among types i t within here) (among_left ps rest)) first second

-- one variant after another
pub variant_placed : (ty : ℕ) (vs : List Variant) (i : ℕ) (v : Variant) → i < length vs → v ≡ get_or vs i v → (rest : List Position) (table table' : TermTable) → PushesTerm v.fullname.0 (variant_as_term ty (variant_view v)) table table' → IsPlacedAmong (variants_positions (map variant_view vs) ++ rest) table → IsPlacedAmong (variants_positions (map variant_view vs) ++ rest) table'
variant_placed ty vs i v within here rest table table' pushes first =
    let member : Contains vs v = subst (Contains vs) (sym here) (Contains-get_or vs i v within) in
    let ps : List Position = variants_positions (map variant_view vs) in
    let at : Contains ps (position v.pos) = in_map (λ (e : VariantEntry). e.at) (map variant_view vs) (variant_view v) (in_map variant_view vs v member) in
    placed_next (position v.pos ∷ []) (ps ++ rest) table table' (among_one (position v.pos) (ps ++ rest) (Contains-append_left ps rest (position v.pos) at)) first
    (placed_push table table' (variant_as_term ty (variant_view v) (length table.terms.items)) (position v.pos ∷ []) pushes.terms (among_same (position v.pos ∷ [])))

-- what a change of a kind keeps
internal_same : (k : TermKindEntry) → kind_positions (internal_kind k) ≡ kind_positions k
internal_same k = grind (arith, common_steps)

made_same : (c : ConstructorEntry) (k : TermKindEntry) → kind_positions (made_by_this c k) ≡ kind_positions k
made_same c k = grind (arith, common_steps)

taken_among : (x : ExtractorEntry) (k : TermKindEntry) → OccurAmong (kind_positions (taken_by_this x k)) (taker_positions x)
taken_among x k = grind (arith, among_none)

pub internal_among : (new old : TermEntry) → new ≡ internal_entry old → OccurAmong (entry_positions new) (entry_positions old)
internal_among new old is = among_as (entry_positions old) (entry_positions new) (entry_positions old) (ap (λ ps. old.at ∷ ps) (sym (internal_same old.kind)) ∙ ap entry_positions (sym is)) (among_same (entry_positions old))

pub made_among : (c : ConstructorEntry) (new old : TermEntry) → new ≡ with_kind (made_by_this c) old → OccurAmong (entry_positions new) (entry_positions old)
made_among c new old is = among_as (entry_positions old) (entry_positions new) (entry_positions old) (ap (λ ps. old.at ∷ ps) (sym (made_same c old.kind)) ∙ ap entry_positions (sym is)) (among_same (entry_positions old))

pub taken_entry_among : (x : ExtractorEntry) (new old : TermEntry) (ps : List Position) → OccurAmong (taker_positions x) ps → new ≡ with_kind (taken_by_this x) old → OccurAmong (entry_positions new) (ps ++ entry_positions old)
taken_entry_among x new old ps a is =
    among_as (old.at ∷ kind_positions (taken_by_this x old.kind)) (entry_positions new) (ps ++ entry_positions old) (ap entry_positions (sym is))
    (among_next old.at (kind_positions (taken_by_this x old.kind)) (ps ++ entry_positions old) (Contains-append_right ps (entry_positions old) old.at (in_head old.at (kind_positions old.kind)))
    (among_both (kind_positions (taken_by_this x old.kind)) (taker_positions x) (ps ++ entry_positions old) (taken_among x old.kind)
    (among_both (taker_positions x) ps (ps ++ entry_positions old) a (among_left ps (entry_positions old)))))

-- a template stands where its pattern does
argument_among : (o : Option ℕ) (at : Position) (p : PatternTree) (qs : List Position) → Contains qs at → OccurAmong (pattern_positions p) qs → OccurAmong (pattern_positions (argument_or o at p)) qs
argument_among o at p qs here a = grind (arith, common_steps)

binding_among : (o : Option ℕ) (name : Name) (q : PatternTree) (at : Position) → OccurAmong (pattern_positions (binding_or o name q at)) (at ∷ name.at ∷ pattern_positions q)
binding_among o name q at = grind (arith, argument_among, in_head, among_same)

mutual
  pub template_among : (args : List (List ℕ)) (p : PatternTree) → OccurAmong (pattern_positions (template args p)) (pattern_positions p)
  template_among args (var_pattern name at) = argument_among _ at (var_pattern name at) (at ∷ name.at ∷ []) (in_head at (name.at ∷ [])) (among_same (at ∷ name.at ∷ []))
  template_among args (bind_pattern name p at) =
      among_both (pattern_positions (template args (bind_pattern name p at))) (at ∷ name.at ∷ pattern_positions (template args p)) (at ∷ name.at ∷ pattern_positions p)
      (binding_among _ name (template args p) at)
      (among_under at (name.at ∷ pattern_positions (template args p)) (name.at ∷ pattern_positions p) (among_under name.at (pattern_positions (template args p)) (pattern_positions p) (template_among args p)))
  template_among args (term_pattern term ps at) =
      among_under at (term.at ∷ patterns_positions (templates args ps)) (term.at ∷ patterns_positions ps) (among_under term.at (patterns_positions (templates args ps)) (patterns_positions ps) (templates_among args ps))
  template_among args (and_pattern ps at) = among_under at (patterns_positions (templates args ps)) (patterns_positions ps) (templates_among args ps)
  template_among args (bool_pattern b at) = among_same (at ∷ [])
  template_among args (int_pattern z at) = among_same (at ∷ [])
  template_among args (prim_pattern name at) = among_same (at ∷ name.at ∷ [])
  template_among args (wildcard_pattern at) = among_same (at ∷ [])
  template_among args (macro_arg i at) = among_same (at ∷ [])

  templates_among : (args : List (List ℕ)) (ps : PatternTrees) → OccurAmong (patterns_positions (templates args ps)) (patterns_positions ps)
  templates_among args no_pattern = among_same []
  templates_among args (pattern_and p ps) = among_sides (pattern_positions (template args p)) (patterns_positions (templates args ps)) (pattern_positions p) (patterns_positions ps) (template_among args p) (templates_among args ps)

-- those of its pattern are among those of an extractor
pub pattern_in_extractor : (x : ExtractorTree) → OccurAmong (pattern_positions x.template) (extractor_positions x)
pattern_in_extractor x =
    let ps : List Position = pattern_positions x.template in
    let args : List Position = map (λ n. n.at) x.args in
    among_both ps (args ++ ps) (extractor_positions x) (among_right args ps) (among_both (args ++ ps) (x.term.at ∷ args ++ ps) (extractor_positions x) (among_rest x.term.at (args ++ ps)) (among_rest x.at (x.term.at ∷ args ++ ps)))

pub pattern_among : (x : ExtractorTree) (rest : List Position) → OccurAmong (pattern_positions x.template) (extractor_positions x ++ rest)
pattern_among x rest = among_both (pattern_positions x.template) (extractor_positions x) (extractor_positions x ++ rest) (pattern_in_extractor x) (among_left (extractor_positions x) rest)

pub template_in_extractor : (x : ExtractorTree) → OccurAmong (pattern_positions (extractor_template x)) (extractor_positions x)
template_in_extractor x =
    let ps : List Position = pattern_positions x.template in
    let args : List Position = map (λ n. n.at) x.args in
    among_both (pattern_positions (extractor_template x)) ps (extractor_positions x) (template_among _ x.template)
    (among_both ps (args ++ ps) (extractor_positions x) (among_right args ps) (among_both (args ++ ps) (x.term.at ∷ args ++ ps) (extractor_positions x) (among_rest x.term.at (args ++ ps)) (among_rest x.at (x.term.at ∷ args ++ ps))))

-- where terms stand in a pattern
mutual
  terms_among : (p : PatternTree) → OccurAmong (map (λ t. t.0) (terms_of p)) (pattern_positions p)
  terms_among (bind_pattern name p at) =
      among_both (map (λ t. t.0) (terms_of p)) (pattern_positions p) (at ∷ name.at ∷ pattern_positions p) (terms_among p)
      (among_both (pattern_positions p) (name.at ∷ pattern_positions p) (at ∷ name.at ∷ pattern_positions p) (among_rest name.at (pattern_positions p)) (among_rest at (name.at ∷ pattern_positions p)))
  terms_among (term_pattern term ps at) =
      among_under at (map (λ t. t.0) (terms_of_all ps)) (term.at ∷ patterns_positions ps) (among_both (map (λ t. t.0) (terms_of_all ps)) (patterns_positions ps) (term.at ∷ patterns_positions ps) (terms_all_among ps) (among_rest term.at (patterns_positions ps)))
  terms_among (and_pattern ps at) = among_both (map (λ t. t.0) (terms_of_all ps)) (patterns_positions ps) (at ∷ patterns_positions ps) (terms_all_among ps) (among_rest at (patterns_positions ps))
  terms_among (var_pattern name at) = among_none (at ∷ name.at ∷ [])
  terms_among (bool_pattern b at) = among_none (at ∷ [])
  terms_among (int_pattern z at) = among_none (at ∷ [])
  terms_among (prim_pattern name at) = among_none (at ∷ name.at ∷ [])
  terms_among (wildcard_pattern at) = among_none (at ∷ [])
  terms_among (macro_arg i at) = among_none (at ∷ [])

  terms_all_among : (ps : PatternTrees) → OccurAmong (map (λ t. t.0) (terms_of_all ps)) (patterns_positions ps)
  terms_all_among no_pattern = among_same []
  terms_all_among (pattern_and p ps) =
      among_as (map (λ t. t.0) (terms_of p) ++ map (λ t. t.0) (terms_of_all ps)) (map (λ t. t.0) (terms_of p ++ terms_of_all ps)) (pattern_positions p ++ patterns_positions ps) (sym (map-append (λ t. t.0) (terms_of p) (terms_of_all ps)))
      (among_sides (map (λ t. t.0) (terms_of p)) (map (λ t. t.0) (terms_of_all ps)) (pattern_positions p) (patterns_positions ps) (terms_among p) (terms_all_among ps))

-- where macro arguments stand in a pattern
mutual
  arguments_among : (p : PatternTree) → OccurAmong (argument_places p) (pattern_positions p)
  arguments_among (bind_pattern name p at) =
      among_both (argument_places p) (pattern_positions p) (at ∷ name.at ∷ pattern_positions p) (arguments_among p)
      (among_both (pattern_positions p) (name.at ∷ pattern_positions p) (at ∷ name.at ∷ pattern_positions p) (among_rest name.at (pattern_positions p)) (among_rest at (name.at ∷ pattern_positions p)))
  arguments_among (term_pattern term ps at) =
      among_both (argument_places_all ps) (patterns_positions ps) (at ∷ term.at ∷ patterns_positions ps) (arguments_all_among ps)
      (among_both (patterns_positions ps) (term.at ∷ patterns_positions ps) (at ∷ term.at ∷ patterns_positions ps) (among_rest term.at (patterns_positions ps)) (among_rest at (term.at ∷ patterns_positions ps)))
  arguments_among (and_pattern ps at) = among_both (argument_places_all ps) (patterns_positions ps) (at ∷ patterns_positions ps) (arguments_all_among ps) (among_rest at (patterns_positions ps))
  arguments_among (var_pattern name at) = among_none (at ∷ name.at ∷ [])
  arguments_among (bool_pattern b at) = among_none (at ∷ [])
  arguments_among (int_pattern z at) = among_none (at ∷ [])
  arguments_among (prim_pattern name at) = among_none (at ∷ name.at ∷ [])
  arguments_among (wildcard_pattern at) = among_none (at ∷ [])
  arguments_among (macro_arg i at) = among_same (at ∷ [])

  arguments_all_among : (ps : PatternTrees) → OccurAmong (argument_places_all ps) (patterns_positions ps)
  arguments_all_among no_pattern = among_same []
  arguments_all_among (pattern_and p ps) = among_sides (argument_places p) (argument_places_all ps) (pattern_positions p) (patterns_positions ps) (arguments_among p) (arguments_all_among ps)

-- where the names of what was listed of a pattern stand
pub named_among : (ts old : List (Pos × Bor Ident)) (p : PatternTree) → map (λ (t : Pos × Bor Ident). place_view t.0 t.1.now) ts ≡ map (λ (t : Pos × Bor Ident). place_view t.0 t.1.now) old ++ terms_of p → old ≡ [] → OccurAmong (map (λ (t : Pos × Bor Ident). position t.0) ts) (pattern_positions p)
named_among ts old p h none =
    among_as (map (λ (t : Position × Name). t.0) (terms_of p)) (map (λ (t : Pos × Bor Ident). position t.0) ts) (pattern_positions p)
    (ap (map (λ (t : Position × Name). t.0)) (sym (h ∙ ap (λ l. map (λ (t : Pos × Bor Ident). place_view t.0 t.1.now) l ++ terms_of p) none)) ∙ map-map (λ (t : Position × Name). t.0) (λ (t : Pos × Bor Ident). place_view t.0 t.1.now) ts)
    (terms_among p)

-- the first macro argument of a pattern
pub first_argument : (qs : List (Pos × ℕ)) (a : Pos × ℕ) (p : PatternTree) → map (λ (x : Pos × ℕ). position x.0) qs ≡ argument_places p → slice_get qs 0 ≡ Some a → Contains (pattern_positions p) (position a.0)
first_argument qs a p h first =
    arguments_among p (position a.0) (subst (λ l. Contains l (position a.0)) h (in_map (λ (x : Pos × ℕ). position x.0) qs a (member_from_get qs 0 a first)))

-- parts of definitions
pub first_in_declaration : (d : DeclTree) (rest : List Position) → OccurAmong (d.at ∷ []) (declaration_positions d ++ rest)
first_in_declaration d rest = among_one d.at (declaration_positions d ++ rest) (in_head d.at (d.term.at ∷ d.ret_ty.at ∷ name_positions d.arg_tys ++ rest))

pub declaration_there : (d : DeclTree) → Contains (declaration_positions d) d.at
declaration_there d = in_head d.at (d.term.at ∷ d.ret_ty.at ∷ name_positions d.arg_tys)

pub converter_first : (x : ConverterTree) → OccurAmong (x.at ∷ []) (converter_positions x)
converter_first x = among_one x.at (converter_positions x) (in_head x.at (x.term.at ∷ x.inner_ty.at ∷ x.outer_ty.at ∷ []))

pub converter_term : (x : ConverterTree) → OccurAmong (x.term.at ∷ []) (converter_positions x)
converter_term x = among_one x.term.at (converter_positions x) (in_tail x.at x.term.at (x.term.at ∷ x.inner_ty.at ∷ x.outer_ty.at ∷ []) (in_head x.term.at (x.inner_ty.at ∷ x.outer_ty.at ∷ [])))

pub converter_inner : (x : ConverterTree) → OccurAmong (x.inner_ty.at ∷ []) (converter_positions x)
converter_inner x = among_one x.inner_ty.at (converter_positions x) (in_tail x.at x.inner_ty.at (x.term.at ∷ x.inner_ty.at ∷ x.outer_ty.at ∷ []) (in_tail x.term.at x.inner_ty.at (x.inner_ty.at ∷ x.outer_ty.at ∷ []) (in_head x.inner_ty.at (x.outer_ty.at ∷ []))))

pub converter_outer : (x : ConverterTree) → OccurAmong (x.outer_ty.at ∷ []) (converter_positions x)
converter_outer x = among_one x.outer_ty.at (converter_positions x) (in_tail x.at x.outer_ty.at (x.term.at ∷ x.inner_ty.at ∷ x.outer_ty.at ∷ []) (in_tail x.term.at x.outer_ty.at (x.inner_ty.at ∷ x.outer_ty.at ∷ []) (in_tail x.inner_ty.at x.outer_ty.at (x.outer_ty.at ∷ []) (in_head x.outer_ty.at []))))

-- what a call notes at some positions, said of more
pub noted_among : {R E : Type 0} (r : Result R E) (ps qs : List Position) (old new : List Error) → OccurAmong ps qs → OnOk r (NotesAt ps old new) → OnOk r (NotesAt qs old new)
noted_among r ps qs old new a h = on_ok_weaker r (notes_among ps qs old new a) h

-- a declaration is read
pub declaration_noted : (d : DeclTree) (rest : List Position) (a b c e : List Error) → NotesAt (declaration_positions d ++ rest) a b → NotesAt (d.at ∷ []) b c → NotesAt (declaration_positions d) c e → NotesAt (declaration_positions d ++ rest) a e
declaration_noted d rest a b c e first second third =
    let ps : List Position = declaration_positions d ++ rest in
    notes_both ps a b e first (notes_both ps b c e (notes_among (d.at ∷ []) ps b c (first_in_declaration d rest) second) (notes_among (declaration_positions d) ps c e (among_left (declaration_positions d) rest) third))

pub types_noted : (d : DeclTree) (a b c : List Error) → NotesAt (name_positions d.arg_tys) a b → NotesAt (d.ret_ty.at ∷ []) b c → NotesAt (declaration_positions d) a c
types_noted d a b c first second = notes_parts (name_positions d.arg_tys) (d.ret_ty.at ∷ []) (declaration_positions d) a b c (arguments_in_declaration d) (result_in_declaration d) first second

pub arguments_noted : (d : DeclTree) (a b : List Error) → NotesAt (name_positions d.arg_tys) a b → NotesAt (declaration_positions d) a b
arguments_noted d a b first = notes_among (name_positions d.arg_tys) (declaration_positions d) a b (arguments_in_declaration d) first

-- a term that is declared, or made by a type, stands where that says
pub placed_pushed : (old new : TermTable) (e : TermEntry) (at : Position) (ps : List Position) → entry_positions e ≡ at ∷ [] → Contains ps at → term_views new.terms.items ≡ term_views old.terms.items ++ e ∷ [] → IsPlacedAmong (ps ++ table_positions old) new
placed_pushed old new e at ps is there terms = placed_push old new e ps terms (among_as (at ∷ []) (entry_positions e) ps (sym is) (among_one at ps there))

-- a declaration of a name that a term has already
pub declared_before : (d : DeclTree) (table : TermTable) (i : ℕ) (t : Term) → i < length table.terms.items → t ≡ get_or table.terms.items i t → (a b c : List Error) → NotesAt (d.at ∷ []) a b → NotesAt (position t.decl_pos ∷ []) b c → NotesAt (declaration_positions d ++ table_positions table) a c
declared_before d table i t within here a b c first second =
    let ps : List Position = declaration_positions d ++ table_positions table in
    let place : Contains (table_positions table) (position t.decl_pos) = entry_among table.terms.items i t within here (position t.decl_pos) (in_head (position t.decl_pos) (kind_positions (term_view t).kind)) in
    notes_parts (d.at ∷ []) (position t.decl_pos ∷ []) ps a b c (first_in_declaration d (table_positions table)) (among_one (position t.decl_pos) ps (Contains-append_right (declaration_positions d) (table_positions table) (position t.decl_pos) place)) first second

-- the root of a pattern
pub root_there : (p : PatternTree) → Contains (pattern_positions p) (pattern_position p)
root_there (var_pattern name at) = in_head at (name.at ∷ [])
root_there (bind_pattern name p at) = in_head at (name.at ∷ pattern_positions p)
root_there (bool_pattern b at) = in_head at []
root_there (int_pattern z at) = in_head at []
root_there (prim_pattern name at) = in_head at (name.at ∷ [])
root_there (term_pattern term ps at) = in_head at (term.at ∷ patterns_positions ps)
root_there (wildcard_pattern at) = in_head at []
root_there (and_pattern ps at) = in_head at (patterns_positions ps)
root_there (macro_arg i at) = in_head at []

template_kept : (k : TermKindEntry) (q : Position) → template_place k ≡ Some q → Contains (kind_positions k) q
template_kept k q e = grind arith

pub template_there : (table : TermTable) (i : ℕ) (t : Term) → i < length table.terms.items → t ≡ get_or table.terms.items i t → (q : Position) → template_place (term_view t).kind ≡ Some q → OccurAmong (q ∷ []) (table_positions table)
template_there table i t within here q e =
    among_one q (table_positions table) (entry_among table.terms.items i t within here q (in_tail (position t.decl_pos) q (kind_positions (term_view t).kind) (template_kept (term_view t).kind q e)))

-- whatever a call answers, a table that it left stands where it stood
pub placed_still : {R E : Type 0} (r : Result R E) (old new : TermTable) (ps : List Position) → new.terms ≡ old.terms → OnOk r (IsPlacedAmong (ps ++ table_positions old) new)
placed_still r old new ps same = grind (arith, common_steps, placed_same old new ps same)

-- what was noted before a call that notes nothing
pub noted_before : {R E : Type 0} (r : Result R E) (ps : List Position) (old new : List Error) → NotesAt ps old new → OnOk r (NotesAt ps old new)
noted_before r ps old new n = grind (arith, common_steps)

-- an extractor that a term has already, or a term that can't have one
pub entry_taken : (at : Position) (e : TermEntry) (qs : List Position) (old new : List Error) → NotesAt (at ∷ qs) old new → kind_positions e.kind ≡ qs → NotesAt (at ∷ entry_positions e) old new
entry_taken at e qs old new n is =
    notes_among (at ∷ qs) (at ∷ entry_positions e) old new (among_under at qs (entry_positions e) (among_as (kind_positions e.kind) qs (entry_positions e) is (among_rest e.at (kind_positions e.kind)))) n

pub entry_first : (at : Position) (e : TermEntry) (old new : List Error) → NotesAt (at ∷ []) old new → NotesAt (at ∷ entry_positions e) old new
entry_first at e old new n = notes_among (at ∷ []) (at ∷ entry_positions e) old new (among_first at (entry_positions e)) n

-- an error of a term, at those of its table
pub notes_at_term : (at : Position) (table : TermTable) (i : ℕ) (t : Term) → i < length table.terms.items → t ≡ get_or table.terms.items i t → (old new : List Error) → NotesAt (at ∷ entry_positions (term_view t)) old new → NotesAt (at ∷ table_positions table) old new
notes_at_term at table i t within here old new n =
    notes_among (at ∷ entry_positions (term_view t)) (at ∷ table_positions table) old new
    (among_under at (entry_positions (term_view t)) (table_positions table) (entry_among table.terms.items i t within here)) n

pub placed_on : {R E : Type 0} (r : Result R E) (ps qs : List Position) (table : TermTable) → OccurAmong ps qs → OnOk r (IsPlacedAmong ps table) → OnOk r (IsPlacedAmong qs table)
placed_on r ps qs table a h = on_ok_weaker r (placed_among ps qs table a) h

-- parts of an extractor
pub extractor_there : (x : ExtractorTree) → OccurAmong (x.at ∷ []) (extractor_positions x)
extractor_there x = among_first x.at (x.term.at ∷ map (λ n. n.at) x.args ++ pattern_positions x.template)

pub extractor_at : (x : ExtractorTree) (rest : List Position) → OccurAmong (x.at ∷ []) (extractor_positions x ++ rest)
extractor_at x rest = among_both (x.at ∷ []) (extractor_positions x) (extractor_positions x ++ rest) (extractor_there x) (among_left (extractor_positions x) rest)

pub extractor_noted : (x : ExtractorTree) (rest : List Position) (a b c : List Error) → NotesAt (pattern_positions x.template) a b → NotesAt (x.at ∷ rest) b c → NotesAt (extractor_positions x ++ rest) a c
extractor_noted x rest a b c first second =
    let ps : List Position = extractor_positions x ++ rest in
    notes_parts (pattern_positions x.template) (x.at ∷ rest) ps a b c (pattern_among x rest) (among_join (x.at ∷ []) rest ps (extractor_at x rest) (among_right (extractor_positions x) rest)) first second

-- a macro argument in the pattern of an extractor
pub argument_there : (x : ExtractorTree) (qs : List (Pos × ℕ)) (a : Pos × ℕ) → map (λ (y : Pos × ℕ). position y.0) qs ≡ argument_places x.template → slice_get qs 0 ≡ Some a → OccurAmong (position a.0 ∷ []) (extractor_positions x)
argument_there x qs a h first = among_one (position a.0) (extractor_positions x) (pattern_in_extractor x (position a.0) (first_argument qs a x.template h first))

pub argument_noted : (x : ExtractorTree) (rest : List Position) (qs : List (Pos × ℕ)) (a : Pos × ℕ) → map (λ (y : Pos × ℕ). position y.0) qs ≡ argument_places x.template → slice_get qs 0 ≡ Some a → OccurAmong (position a.0 ∷ []) (extractor_positions x ++ rest)
argument_noted x rest qs a h first = among_both (position a.0 ∷ []) (extractor_positions x) (extractor_positions x ++ rest) (argument_there x qs a h first) (among_left (extractor_positions x) rest)

-- the recursion that is looked for last
pub recursion_noted : (ps : List Position) (table : TermTable) (a b c : List Error) → NotesAt ps a b → IsPlacedAmong ps table → NotesAt (table_positions table) b c → NotesAt ps a c
recursion_noted ps table a b c first placed second = notes_both ps a b c first (notes_among (table_positions table) ps b c placed.each second)

-- rules, and then extractors
pub rules_so_far : (ps : List Position) (old table : TermTable) (a b : List Error) → NotesAt ps a b → IsPlacedAmong (table_positions old) table → PlacedSoFar (ps ++ table_positions old) a table b
rules_so_far ps old table a b noted placed = record {
  noted = notes_among ps (ps ++ table_positions old) a b (among_left ps (table_positions old)) noted;
  kept = placed_among (table_positions old) (ps ++ table_positions old) table (among_right ps (table_positions old)) placed;
}

-- declarations, and then the terms that types make
pub made_so_far : (ds ts ts' : List Position) (old mid new : TermTable) (a b c : List Error) → ts' ≡ ts → NotesAt (ds ++ table_positions old) a b → IsPlacedAmong (ds ++ table_positions old) mid → NotesAt ts' b c → IsPlacedAmong (ts' ++ table_positions mid) new
    → PlacedSoFar ((ds ++ ts) ++ table_positions old) a new c
made_so_far ds ts ts' old mid new a b c same noted placed noted' placed' =
    let rest : List Position = table_positions old in
    let ps : List Position = (ds ++ ts) ++ rest in
    let from_declarations : OccurAmong (ds ++ rest) ps = among_sides ds rest (ds ++ ts) rest (among_left ds ts) (among_same rest) in
    let from_types : OccurAmong ts' ps = among_as ts ts' ps (sym same) (among_both ts (ds ++ ts) ps (among_right ds ts) (among_left (ds ++ ts) rest)) in
    let kept : IsPlacedAmong ps mid = placed_among (ds ++ rest) ps mid from_declarations placed in
    record {
      noted = notes_parts (ds ++ rest) ts' ps a b c from_declarations from_types noted noted';
      kept = placed_next ts' ps mid new from_types kept placed';
    }

-- the terms and the types of a table that had none
pub begun : (ps : List Position) (old new : TermTable) (a b : List Error) → old.terms.items ≡ [] → a ≡ [] → NotesAt (ps ++ table_positions old) a b → IsPlacedAmong (ps ++ table_positions old) new → PlacedSoFar ps [] new b
begun ps old new a b no_terms no_errors noted placed =
    let fewer : OccurAmong (ps ++ table_positions old) ps = among_join ps (table_positions old) ps (among_same ps) (among_as [] (table_positions old) ps (ap (λ ts. terms_positions (term_views ts)) (sym no_terms)) (among_none ps)) in
    record {
      noted = subst (λ es. NotesAt ps es b) no_errors (notes_among (ps ++ table_positions old) ps a b fewer noted);
      kept = placed_among (ps ++ table_positions old) ps new fewer placed;
    }

pub converters_so_far : (part ps : List Position) (old new : TermTable) (a b c : List Error) → OccurAmong part ps → NotesAt part b c → new.terms ≡ old.terms → PlacedSoFar ps a old b → PlacedSoFar ps a new c
converters_so_far part ps old new a b c within noted same s = record {
  noted = notes_both ps a b c s.noted (notes_among part ps b c within noted);
  kept = record { each = subst (λ v. OccurAmong (terms_positions (term_views v.items)) ps) (sym same) s.kept.each };
}

-- parts of an external definition
pub extern_rest : (at term function : Position) (rest : List Position) → OccurAmong rest (at ∷ term ∷ function ∷ rest)
extern_rest at term function rest p c = in_tail at p (term ∷ function ∷ rest) (in_tail term p (function ∷ rest) (in_tail function p rest c))

pub extern_at : (at term function : Position) (rest : List Position) → OccurAmong (at ∷ []) (at ∷ term ∷ function ∷ rest)
extern_at at term function rest = among_first at (term ∷ function ∷ rest)

pub extern_among : (at term function : Position) (rest : List Position) → OccurAmong (at ∷ rest) (at ∷ term ∷ function ∷ rest)
extern_among at term function rest = among_next at rest (at ∷ term ∷ function ∷ rest) (in_head at (term ∷ function ∷ rest)) (extern_rest at term function rest)
