-- Changing what is known of one term, while all terms stand.
use Rattle.std.proofs.Common.{◌≡◌, ℕ, zero, suc, ◌+◌, ◌<◌, ◌≤◌, true, false, cond, List, [], ◌∷◌, ◌++◌, ◌⊎◌, length, get_or, map, slice_get, Option, None, Some, is_none, refl, sym, ap, ◌∙◌, arith, inl, inr}
use Rattle.std.specs.List.{flat_map, AllByRecursion}
use Rattle.std.specs.Str.{bytes_eq}
use Rattle.std.proofs.Math.ListN.{set}
use Rattle.std.proofs.lemmas.Option.{same_Some}
use Rattle.std.proofs.lemmas.Grind.{common_steps}
use Rattle.model.specs.lists.Syntax.{DeclTree}
use Rattle.model.specs.lists.Names.{has_name, IsDistinct}
use Rattle.model.specs.lists.Tables.{TypeEntry, enum_type, struct_type, VariantEntry, TermEntry}
use Rattle.model.specs.lists.TypeTable.{place_from}
use Rattle.model.specs.lists.TermTable.{terms_made, variant_as_term}
use Rattle.model.proofs.Bytes.{same_bytes}
use Rattle.model.proofs.FirstPlaces.{place_next}
use Rattle.model.proofs.Joined.{all_joined}
use Rattle.core_terms.specs.declared.term.Term.{Term}
use Rattle.core_terms.specs.TermViews.{term_view, term_views}
use Rattle.core_terms.specs.Stages.{place_among}
use Rattle.core_terms.specs.Signing.{with_ids}
use Rattle.core_terms.specs.ReadTerms.{is_declared_kind, change}
use Rattle.core_terms.proofs.Rooting.{distinct_rest, distinct_first, one_before}

-- a write of one term
pub changes_one : (g : TermEntry → TermEntry) (ts : List Term) (k : ℕ) (t d : Term) → k < length ts → term_view t ≡ g (term_view (get_or ts k d)) → term_views (set ts k t) ≡ change g k (term_views ts)
changes_one g (u ∷ us) (suc k) t d within is = ap (λ es. term_view u ∷ es) (changes_one g us k t d (omega (arith, within)) is)
changes_one g ts k t d within is = grind arith

abbrev text_of : DeclTree → List ℕ
text_of d = d.term.text

-- one name is that of a term of which something else is known now
module _ (x : List ℕ) (g : TermEntry → TermEntry) (f f' : DeclTree → ℕ → TermEntry) (same : (d : DeclTree) (i : ℕ) → bytes_eq d.term.text x ≡ false → f d i ≡ f' d i) (this : (d : DeclTree) (i : ℕ) → bytes_eq d.term.text x ≡ true → g (f d i) ≡ f' d i) (fs : List (ℕ → TermEntry)) where
  unchanged : (n : ℕ) (ds : List DeclTree) → has_name (map text_of ds) x ≡ false → with_ids n (map f ds ++ fs) ≡ with_ids n (map f' ds ++ fs)
  unchanged n [] e = refl
  unchanged n (d ∷ ds) e = grind (arith, common_steps, unchanged (n + 1) ds)

  pub changed : (n id : ℕ) (ds : List DeclTree) → IsDistinct (map text_of ds) → place_among (map text_of ds) x ≡ Some id → change g id (with_ids n (map f ds ++ fs)) ≡ with_ids n (map f' ds ++ fs)
  changed n id [] once e = absurd (cc)
  changed n id (d ∷ ds) once e =
      elim (bytes_eq d.term.text x) as (λ b. bytes_eq d.term.text x ≡ b → cond b (Some 0) (place_from 1 x (map text_of ds)) ≡ Some id → change g id (with_ids n (map f (d ∷ ds) ++ fs)) ≡ with_ids n (map f' (d ∷ ds) ++ fs)) [
        | true ↦ grind (arith, common_steps, same_bytes d.term.text x, distinct_first d.term.text (map text_of ds) once, unchanged (n + 1) ds)
        | false ↦ λ other h.
            let before = one_before (place_among (map text_of ds) x) id (sym (place_next 0 x (map text_of ds)) ∙ h) in
            ap (λ m. change g m (with_ids n (map f (d ∷ ds) ++ fs))) before.1
            ∙ ap (λ l. f d n ∷ l) (changed (n + 1) before.0 ds (distinct_rest d.term.text (map text_of ds) once) before.2)
            ∙ ap (λ y. y ∷ with_ids (n + 1) (map f' ds ++ fs)) (same d n other)
      ] refl e

-- none of these is a declared term
abbrev AreMade : List (ℕ → TermEntry) → Type 0
AreMade fs = AllByRecursion (λ f. (i : ℕ) → is_declared_kind (f i).kind ≡ false) fs

variants_made : (ty : ℕ) (vs : List VariantEntry) → AreMade (map (variant_as_term ty) vs)
variants_made ty [] = tt
variants_made ty (v ∷ vs) = ((λ i. refl), variants_made ty vs)

made_of : (t : TypeEntry) → AreMade (terms_made t)
made_of (enum_type name id is_extern is_nodebug variants at) = variants_made id variants
made_of (struct_type name id is_extern is_nodebug fields at) = ((λ i. refl), tt)
made_of _ = tt

pub all_made : (ts : List TypeEntry) → AreMade (flat_map terms_made ts)
all_made [] = tt
all_made (t ∷ ts) = all_joined (λ f. (i : ℕ) → is_declared_kind (f i).kind ≡ false) (terms_made t) (flat_map terms_made ts) (made_of t) (all_made ts)

not_declared : (n id : ℕ) (fs : List (ℕ → TermEntry)) (e : TermEntry) → AreMade fs → slice_get (with_ids n fs) id ≡ Some e → is_declared_kind e.kind ≡ false
not_declared n id [] e m h = absurd (cc)
not_declared n zero (f ∷ fs) e m h = ap (λ (t : TermEntry). is_declared_kind t.kind) (sym (same_Some (f n) e h)) ∙ m.0 n
not_declared n (suc id) (f ∷ fs) e m h = not_declared (n + 1) id fs e m.1 h

-- a term is the declared one at its id, or it is past them all and a type makes it
pub entry_of : (f : DeclTree → ℕ → TermEntry) (fs : List (ℕ → TermEntry)) → AreMade fs → (n id : ℕ) (ds : List DeclTree) (e : TermEntry) → slice_get (with_ids n (map f ds ++ fs)) id ≡ Some e
    → ((d : DeclTree) × (slice_get ds id ≡ Some d) × (e ≡ f d (n + id))) ⊎ ((length ds ≤ id) × (is_declared_kind e.kind ≡ false))
entry_of f fs m n id [] e h = inr (omega arith, not_declared n id fs e m h)
entry_of f fs m n zero (d ∷ ds) e h = let k : n ≡ n + 0 = omega arith in inl (d, refl, sym (same_Some (f d n) e h) ∙ ap (f d) k)
entry_of f fs m n (suc id) (d ∷ ds) e h = grind (arith, common_steps, entry_of f fs m (n + 1) id ds e h)

place_from_least : (n : ℕ) (x : List ℕ) (ys : List (List ℕ)) (k : ℕ) → place_from n x ys ≡ Some k → n + length {A = List ℕ} [] ≤ k
place_from_least n x [] k h = absurd (cc)
place_from_least n x (y ∷ ys) k h = grind (arith, common_steps, place_from_least (suc n) x ys k, same_Some n k)

pub place_at : (n m : ℕ) (x : List ℕ) (ts : List (List ℕ)) (k : ℕ) → n + m ≡ k → place_from n x ts ≡ Some k → slice_get ts m ≡ Some x
place_at n m x [] k e h = absurd (cc)
place_at n m x (y ∷ ts) k e h =
    elim (bytes_eq y x) as (λ b. bytes_eq y x ≡ b → cond b (Some n) (place_from (suc n) x ts) ≡ Some k → slice_get (y ∷ ts) m ≡ Some x) [
      | true ↦ grind (arith, common_steps, same_Some n k, same_bytes y x)
      | false ↦ λ s g.
          let l = place_from_least (suc n) x ts k g in
          (elim m as (λ j. n + j ≡ k → slice_get (y ∷ ts) j ≡ Some x) [
            | zero ↦ λ q. absurd (omega (arith, l, q))
            | suc j ↦ λ q. place_at (suc n) j x ts k (omega arith) g
          ]) e
    ] refl h

-- a place in a joined list is one in the first part, or past it
pub place_split : (n : ℕ) (x : List ℕ) (xs ys : List (List ℕ)) (k : ℕ) → place_from n x (xs ++ ys) ≡ Some k → (place_from n x xs ≡ Some k) ⊎ ((place_from n x xs ≡ None) × (n + length xs ≤ k))
place_split n x [] ys k h = inr (refl, place_from_least n x ys k h)
place_split n x (y ∷ xs) ys k h = grind (arith, common_steps, place_split (suc n) x xs ys k)

-- the entry of a term
pub view_at : (ts : List Term) (k : ℕ) (t d : Term) → k < length ts → t ≡ get_or ts k d → slice_get (term_views ts) k ≡ Some (term_view t)
view_at (u ∷ us) (suc k) t d within e = view_at us k t d (omega (arith, within)) e
view_at ts k t d within e = grind arith

-- what isn't there, said twice
pub not_there : {X : Type 0} (o : Option X) → ((x : X) → o ≡ Some x → ⊥) → is_none o ≡ true
not_there o h = grind (arith, common_steps)
