-- Each variant of a well-formed type has its term in the table of a valid list, and the look-up of its full name finds it.
use Rattle.std.proofs.Common.{◌≡◌, ◌==◌, ℕ, suc, ◌+◌, ◌<◌, List, [], ◌∷◌, ◌++◌, length, map, Some, slice_get, refl, sym, ap, ◌∙◌, subst, inl, inr, arith}
use Rattle.std.proofs.lemmas.Grind.{common_steps}
use Rattle.std.proofs.lemmas.List.Elements.{All-contains}
use Rattle.std.proofs.lemmas.Option.{same_Some, none-some}
use Rattle.std.specs.List.{enumerate_from, flat_map}
use Rattle.model.specs.lists.Syntax.{Definition}
use Rattle.model.specs.lists.Names.{number}
use Rattle.model.specs.lists.Tables.{VariantEntry, TypeEntry, enum_type, variant_term, TermEntry}
use Rattle.model.specs.lists.TermTable.{decl_trees, decl_names, function_of, term_names, term_names_met, IsValidTerms, variant_as_term, terms_made, decl_as_term, terms_in_order, term_table}
use Rattle.model.specs.lists.KnownTypes.{KnownTypes, entry_id, variant_numbers, entry_numbers}
use Rattle.model.specs.rules.Meaning.{look}
use Rattle.model.specs.rules.Outcome.{then_option}
use Rattle.model.specs.claims.Environments.{TypesRead, HasVariantsAtIds, variants_in, AreReadable, terms_by_name}
use Rattle.model.specs.claims.Questions.{variant_by_id}
use Rattle.model.proofs.Elements.{In, contains_from_in, in_right, in_slice, slice_in, in_map, map_in, in_flat_map}
use Rattle.model.proofs.Members.{get_within}
use Rattle.model.proofs.Names.{at_number, get_kept}
use Rattle.model.proofs.Options.{then_some}
use Rattle.laws_typing.specs.QuestionLaws.{VariantsHaveTerms}
use Rattle.laws_typing.proofs.TermLaws.{terms_have_names_lem, terms_stand_at_ids_lem}
use Rattle.model.proofs.Mapped.{get_map, get_mapped}

-- 1. lists
-- the one entry of a key is looked up
pub looked_up : (es : List (ℕ × ℕ)) (k v : ℕ) → In es (k, v) → ((w : ℕ) → In es (k, w) → w ≡ v) → look (λ n. n == k) es ≡ Some v
looked_up [] k v i f = absurd i
looked_up (e ∷ es) k v i f = grind (arith, looked_up es k v, e.0, f e.1, e.1)

-- each entry takes the id of its place
at_place : (fs : List (ℕ → TermEntry)) (k i m : ℕ) (f : ℕ → TermEntry) → k + i ≡ m → slice_get fs i ≡ Some f → slice_get (map (λ p. p.1 p.0) (enumerate_from k fs)) i ≡ Some (f m)
at_place (g ∷ fs) k (suc i) m f z e = at_place fs (k + 1) i m f (omega arith) e
at_place fs k i m f z e = grind (arith, common_steps, same_Some)

-- 2. the variant
-- a variant of one of these types, with its type and its place there
record VariantOf (types : List TypeEntry) : Type 0 where
  ty : ℕ
  variant : ℕ
  entry : VariantEntry
  of_type : TypeEntry
  there : slice_get types ty ≡ Some of_type
  listed : slice_get (variants_in of_type) variant ≡ Some entry

type_of_variant : (types : List TypeEntry) (ty variant : ℕ) (v : VariantEntry) → variant_by_id types ty variant ≡ Some v
    → (t : TypeEntry) × (slice_get types ty ≡ Some t) × (slice_get (variants_in t) variant ≡ Some v)
type_of_variant types ty variant v h = then_some (slice_get types ty) (λ t. slice_get (variants_in t) variant) v h

-- it makes a term, of its type, and its full name is one of the type's
record IsMadeIn (t : TypeEntry) (ty variant : ℕ) (v : VariantEntry) : Type 0 where
  made : In (terms_made t) (variant_as_term ty v)
  listed : In (entry_numbers t) v.full_name
  at_id : v.id ≡ variant

made_in : (t : TypeEntry) (ty variant : ℕ) (v : VariantEntry) → entry_id t ≡ ty → HasVariantsAtIds t → slice_get (variants_in t) variant ≡ Some v → IsMadeIn t ty variant v
made_in (enum_type name id is_extern is_nodebug variants at) ty variant v i a l =
    let there = in_slice variants variant v l in
    record {
      made = subst (λ n. In (map (variant_as_term id) variants) (variant_as_term n v)) i (map_in (variant_as_term id) variants v there);
      listed = inr (in_flat_map variant_numbers variants v v.full_name there (inl refl));
      at_id = a variant v l;
    }
made_in t h i v j a l = grind (arith, common_steps, none-some)

-- 3. its term
-- a list of definitions whose terms are valid by types that can be read
record ValidTerms : Type 0 where
  types : TypesRead
  definitions : List Definition
  readable : AreReadable types
  valid : IsValidTerms types.known definitions

module _ (l : ValidTerms) (h : VariantOf l.types.known.types) where
  abbrev k : KnownTypes
  k = l.types.known

  abbrev defs : List Definition
  defs = l.definitions

  abbrev v : VariantEntry
  v = h.entry

  type_there : In k.types h.of_type
  type_there = in_slice k.types h.ty h.of_type h.there

  made_here : IsMadeIn h.of_type h.ty h.variant v
  made_here = made_in h.of_type h.ty h.variant v (l.readable.well_formed.ids h.ty h.of_type h.there) (All-contains HasVariantsAtIds k.types h.of_type l.readable.variants (contains_from_in k.types h.of_type type_there)) h.listed

  number_met : v.full_name < length k.names
  number_met =
      All-contains (λ n. n < length k.names) (flat_map entry_numbers k.types) v.full_name l.readable.well_formed.numbers_in_range
      (contains_from_in (flat_map entry_numbers k.types) v.full_name (in_flat_map entry_numbers k.types h.of_type v.full_name type_there made_here.listed))

  -- its place among the terms
  place : (n : ℕ) × (slice_get (terms_in_order k defs) n ≡ Some (variant_as_term h.ty v))
  place =
      slice_in (terms_in_order k defs) (variant_as_term h.ty v)
      (in_right (map (decl_as_term k defs (term_names_met k defs)) (decl_trees defs)) (flat_map terms_made k.types) (variant_as_term h.ty v)
      (in_flat_map terms_made k.types h.of_type (variant_as_term h.ty v) type_there made_here.made))

  there : slice_get (term_table k defs) place.0 ≡ Some (variant_as_term h.ty v place.0)
  there = at_place (terms_in_order k defs) 0 place.0 place.0 (variant_as_term h.ty v) (omega arith) place.1

  -- two terms whose names have its number stand at one place
  name_at : (n : ℕ) (t : TermEntry) → slice_get (term_table k defs) n ≡ Some t → t.name ≡ v.full_name → (z : List ℕ) → slice_get (term_names_met k defs) v.full_name ≡ Some z → slice_get (term_names k defs) n ≡ Some z
  name_at n t s same z known =
      let numbers = terms_have_names_lem.0 k defs l.readable.well_formed in
      let here = sym (ap (λ ts. slice_get ts n) numbers) ∙ get_map (λ (x : TermEntry). x.name) (term_table k defs) n t s in
      let m = get_mapped (number (term_names_met k defs)) (term_names k defs) n t.name here in
      let one : slice_get (term_names_met k defs) (number (term_names_met k defs) m.0) ≡ Some z = ap (slice_get (term_names_met k defs)) (m.2 ∙ same) ∙ known in
      m.1 ∙ ap Some (sym (at_number (term_names_met k defs) m.0 z one))

  one_place : (n m : ℕ) (t u : TermEntry) → slice_get (term_table k defs) n ≡ Some t → slice_get (term_table k defs) m ≡ Some u → t.name ≡ v.full_name → u.name ≡ v.full_name → n ≡ m
  one_place n m t u s w a b =
      let z = get_within k.names v.full_name number_met in
      let known = get_kept k.names (decl_names defs ++ flat_map function_of defs) v.full_name z.0 z.1 in
      l.valid.distinct n m z.0 (name_at n t s a z.0 known) (name_at m u w b z.0 known)

  found_there : look (λ n. n == v.full_name) (terms_by_name (term_table k defs)) ≡ Some place.0
  found_there =
      looked_up (terms_by_name (term_table k defs)) v.full_name place.0
      (map_in (λ (t : TermEntry). (t.name, t.id)) (term_table k defs) (variant_as_term h.ty v place.0) (in_slice (term_table k defs) place.0 (variant_as_term h.ty v place.0) there))
      (λ w i.
      let m = in_map (λ (t : TermEntry). (t.name, t.id)) (term_table k defs) (v.full_name, w) i in
      let s = slice_in (term_table k defs) m.0 m.1 in
      let id : m.0.id ≡ s.0 = terms_stand_at_ids_lem k defs s.0 m.0 s.1 in
      sym (ap (λ (x : ℕ × ℕ). x.1) m.2) ∙ id ∙ one_place s.0 place.0 m.0 (variant_as_term h.ty v place.0) s.1 there (ap (λ (x : ℕ × ℕ). x.0) m.2) refl)

pub variants_have_terms_lem : VariantsHaveTerms
variants_have_terms_lem e defs r valid ty variant v h =
    let t = type_of_variant e.known.types ty variant v h in
    let l : ValidTerms = record { types = e; definitions = defs; readable = r; valid = valid } in
    let x : VariantOf e.known.types = record { ty = ty; variant = variant; entry = v; of_type = t.0; there = t.1; listed = t.2 } in
    let n = place l x in (
      n.0,
      ap (λ o. then_option o (λ (y : VariantEntry). look (λ k. k == y.full_name) (terms_by_name (term_table e.known defs)))) h ∙ found_there l x,
      record { term = variant_as_term ty v n.0; there = there l x; kind = ap variant_term (made_here l x).at_id; of_type = refl },
    )
