-- The terms of a table: none is multi and partial at once, and those of variants and structs take their fields, at the types of
-- these.
use Rattle.std.proofs.Common.{◌≡◌, ℕ, ◌+◌, Bool, true, not, List, [], ◌∷◌, map, Option, Some, None, slice_get, flat_map, refl, sym, ap, subst, inl, inr, ◌∙◌, arith}
use Rattle.std.proofs.lemmas.Grind.{common_steps}
use Rattle.std.proofs.lemmas.Bool.{and_from, false≢true}
use Rattle.std.proofs.lemmas.List.Elements.{All-contains}
use Rattle.std.specs.List.{enumerate_from}
use Rattle.model.specs.lists.Syntax.{Definition, DeclTree}
use Rattle.model.specs.lists.Tables.{VariantEntry, TypeEntry, enum_type, struct_type, TermEntry, TermKindEntry, variant_term, struct_term, declared_term}
use Rattle.model.specs.lists.TermTable.{decl_trees, term_names_met, IsNotBothMultiAndPartial, variant_as_term, terms_made, decl_as_term, terms_in_order, term_table}
use Rattle.model.specs.lists.KnownTypes.{KnownTypes, StandAtIds}
use Rattle.model.specs.lists.Elaborated.{TypedRules}
use Rattle.model.specs.rules.Values.{field_types, variant_types, struct_types}
use Rattle.model.specs.rules.Program.{Kind, unknown, kind_of, flags_of}
use Rattle.model.specs.claims.Environments.{TypesRead, HasVariantsAtIds, IsElaborated, program_of}
use Rattle.model.specs.sites.DemandedGates.{HasNoPartialMulti}
use Rattle.model.proofs.Elements.{In, contains_from_in, in_either, in_slice, in_map, from_flat_map, slice_in}
use Rattle.laws_typing.specs.WellTypedPrograms.{HasTypedParts}

in_numbered : {X : Type 0} (k : ℕ) (xs : List X) (e : ℕ × X) → In (enumerate_from k xs) e → In xs e.1
in_numbered k [] e i = absurd i
in_numbered k (x ∷ xs) e (inl q) = inl (ap (λ (y : ℕ × _). y.1) q)
in_numbered k (x ∷ xs) e (inr i) = inr (in_numbered (k + 1) xs e i)

-- what holds of each term that a declaration or a type makes, whatever its id, holds of each term of the table
abbrev Each : (TermEntry → Type 0) → (ℕ → TermEntry) → Type 0
Each P f = (id : ℕ) → P (f id)

each_term : (k : KnownTypes) (defs : List Definition) (P : TermEntry → Type 0) → ((d : DeclTree) → In (decl_trees defs) d → Each P (decl_as_term k defs (term_names_met k defs) d))
    → ((t : TypeEntry) → In k.types t → (f : ℕ → TermEntry) → In (terms_made t) f → Each P f) → (t : ℕ) (e : TermEntry) → slice_get (term_table k defs) t ≡ Some e → P e
each_term k defs P declared made t e there =
    let m = in_map (λ (p : ℕ × (ℕ → TermEntry)). p.1 p.0) (enumerate_from 0 (terms_in_order k defs)) e (in_slice (term_table k defs) t e there) in
    subst P m.2 (of m.0.1 (in_numbered 0 (terms_in_order k defs) m.0 m.1) m.0.0)
  where
    of : (f : ℕ → TermEntry) → In (terms_in_order k defs) f → Each P f
    of f j =
        elim (in_either (map (decl_as_term k defs (term_names_met k defs)) (decl_trees defs)) (flat_map terms_made k.types) f j) [
          | inl a ↦ let d = in_map (decl_as_term k defs (term_names_met k defs)) (decl_trees defs) f a in subst (Each P) d.2 (declared d.0 d.1)
          | inr a ↦ let d = from_flat_map terms_made k.types f a in made d.0 d.1 f d.2
        ]

-- 1. terms that are multi and partial
abbrev IsNotBoth : TermEntry → Type 0
IsNotBoth e = (flags_of (kind_of e)).multi ≡ true → (flags_of (kind_of e)).partial ≡ true → ⊥

made_not_both : (t : TypeEntry) (f : ℕ → TermEntry) → In (terms_made t) f → Each IsNotBoth f
made_not_both t f i = grind (arith, common_steps, in_map)

pub none_is_both : (e : TypesRead) (defs : List Definition) (expand : Bool) (rules : TypedRules) → IsElaborated e defs expand rules → HasNoPartialMulti (program_of e defs rules.rules)
none_is_both e defs expand rules h t = by (slice_get (term_table e.known defs) t) refl
  where
    declared : (d : DeclTree) → In (decl_trees defs) d → Each IsNotBoth (decl_as_term e.known defs (term_names_met e.known defs) d)
    declared d i id m q = false≢true (sym (ap not (and_from d.multi d.partial m q)) ∙ All-contains IsNotBothMultiAndPartial (decl_trees defs) d h.terms.marks (contains_from_in (decl_trees defs) d i))

    by : (o : Option TermEntry) → slice_get (term_table e.known defs) t ≡ o → (flags_of (elim o as (λ _. Kind) [ None ↦ unknown | Some x ↦ kind_of x ])).multi ≡ true
        → (flags_of (elim o as (λ _. Kind) [ None ↦ unknown | Some x ↦ kind_of x ])).partial ≡ true → ⊥
    by None q m n = false≢true m
    by (Some x) q m n = each_term e.known defs IsNotBoth declared (λ t _ f i. made_not_both t f i) t x q m n

-- 2. fields of variants and structs
abbrev Takes : List TypeEntry → ℕ → List ℕ → TermKindEntry → Type 0
Takes types ret args (variant_term i) = variant_types (slice_get types ret) i ≡ Some args
Takes types ret args struct_term = struct_types (slice_get types ret) ≡ Some args
Takes types ret args (declared_term flags c x) = Unit {0}

abbrev TakesFields : List TypeEntry → TermEntry → Type 0
TakesFields types e = Takes types e.ret_ty e.arg_tys e.kind

made_take : (types : List TypeEntry) → StandAtIds types → ((t : TypeEntry) → In types t → HasVariantsAtIds t)
    → (t : TypeEntry) → In types t → (f : ℕ → TermEntry) → In (terms_made t) f → Each (TakesFields types) f
made_take types ids at (enum_type name id is_extern is_nodebug variants pos) i f j =
    let t = enum_type name id is_extern is_nodebug variants pos in
    let m = in_map (variant_as_term id) variants f j in
    let s = slice_in types t i in
    let here : slice_get types id ≡ Some t = subst (λ n. slice_get types n ≡ Some t) (sym (ids s.0 t s.1)) s.1 in
    let w = slice_in variants m.0 m.1 in
    let there : slice_get variants m.0.id ≡ Some m.0 = subst (λ n. slice_get variants n ≡ Some m.0) (sym (at t i w.0 m.0 w.1)) w.1 in
    subst (Each (TakesFields types)) m.2
    (λ n. ap (λ o. variant_types o m.0.id) here ∙ ap (λ (o : Option VariantEntry). elim o as (λ _. Option (List ℕ)) [ None ↦ None | Some v ↦ Some (field_types v.fields) ]) there)
made_take types ids at (struct_type name id is_extern is_nodebug fields pos) i f j =
    let t = struct_type name id is_extern is_nodebug fields pos in
    let s = slice_in types t i in
    let here : slice_get types id ≡ Some t = subst (λ n. slice_get types n ≡ Some t) (sym (ids s.0 t s.1)) s.1 in
    elim j [ inl e ↦ subst (Each (TakesFields types)) e (λ n. ap struct_types here) | inr n ↦ absurd n ]
made_take h ids at f i j k = grind (arith, common_steps)

pub has_typed_parts : (e : TypesRead) (defs : List Definition) (expand : Bool) (rules : TypedRules) → IsElaborated e defs expand rules → HasTypedParts (program_of e defs rules.rules)
has_typed_parts e defs expand rules h = record {
  variants = λ t x s i q. subst (Takes types x.ret_ty x.arg_tys) q (takes t x s);
  structs = λ t x s q. subst (Takes types x.ret_ty x.arg_tys) q (takes t x s);
}
  where
    types : List TypeEntry
    types = e.known.types

    takes : (t : ℕ) (x : TermEntry) → slice_get (term_table e.known defs) t ≡ Some x → TakesFields types x
    takes =
        each_term e.known defs (TakesFields types) (λ d i id. tt)
        (made_take types h.readable.well_formed.ids (λ y i. All-contains HasVariantsAtIds types y h.readable.variants (contains_from_in types y i)))
