-- Lists that grow, turn by turn of a loop over another list, by what each element gives.
use Rattle.std.proofs.Common.{◌≡◌, ℕ, ◌+◌, ◌<◌, ◌≤◌, List, [], ◌∷◌, ◌++◌, length, get_or, take, map, codes, refl, sym, ap, ap₂, subst, ◌∙◌, arith}
use Rattle.std.specs.Prelude.{string_bytes}
use Rattle.std.specs.List.{flat_map, range_with_len}
use Rattle.std.proofs.lemmas.Grind.{flat_map-append}
use Rattle.std.proofs.lemmas.List.{append_assoc, append-nil, map-append, take_all, take_more}
use Rattle.std.proofs.lemmas.List.FromFn.{map-range_with_len_more}
use Rattle.cranelift_isle.specs.Tables.{TypeEntry}
use Rattle.rust_items.specs.declared.claims.Claim as C
use Rattle.rust_items.specs.declared.claims.Namespace as K
use Rattle.rust_items.specs.Claims.{Claim, Namespace}
use Rattle.rust_items.specs.ClaimViews.{claim_view, claim_views, kind_view, kind_views}
use Rattle.rust_items.specs.OwnNames.{is_own_type, is_own_value}
use Rattle.rust_items.specs.NamedPrograms.{NamedProgram, claim, constant_claim, constants_kind, functions_kind, functions_of, kind_as, kinds, kinds_inside, no_own, term_claim, paths_among, terms_kind, type_claim, types_kind}

taken_more : {X Y : Type 0} (v : X → Y) (xs : List X) (i : ℕ) (x : X) → i < length xs → x ≡ get_or xs i x → map v (take (i + 1) xs) ≡ map v (take i xs) ++ v x ∷ []
taken_more v xs i x h e = ap (map v) (take_more xs i x h) ∙ map-append v (take i xs) (get_or xs i x ∷ []) ∙ ap (λ y. map v (take i xs) ++ v y ∷ []) (sym e)

module _ {X Y Z : Type 0} (v : X → Y) (xs : List X) (i : ℕ) where
  -- some of each
  pub grown_by : (f : Y → List Z) (base : List Z) (x : X) (old new : List Z) → i < length xs → x ≡ get_or xs i x → old ≡ base ++ flat_map f (map v (take i xs)) → new ≡ old ++ f (v x) → new ≡ base ++ flat_map f (map v (take (i + 1) xs))
  grown_by f base x old new h e is more =
      more ∙ ap (λ y. y ++ f (v x)) is ∙ append_assoc base (flat_map f (map v (take i xs))) (f (v x))
      ∙ ap (λ y. base ++ y) (sym (ap (flat_map f) (taken_more v xs i x h e) ∙ flat_map-append f (map v (take i xs)) (v x ∷ []) ∙ ap (λ y. flat_map f (map v (take i xs)) ++ y) (append-nil (f (v x)))))

  pub grown_all : (f : Y → List Z) (base old : List Z) → length xs ≤ i → old ≡ base ++ flat_map f (map v (take i xs)) → old ≡ base ++ flat_map f (map v xs)
  grown_all f base old h is = is ∙ ap (λ ys. base ++ flat_map f (map v ys)) (take_all i xs h)

  -- one of each
  pub grown_one : (g : Y → Z) (base : List Z) (x : X) (old new : List Z) → i < length xs → x ≡ get_or xs i x → old ≡ base ++ map g (map v (take i xs)) → new ≡ old ++ g (v x) ∷ [] → new ≡ base ++ map g (map v (take (i + 1) xs))
  grown_one g base x old new h e is more =
      more ∙ ap (λ y. y ++ g (v x) ∷ []) is ∙ append_assoc base (map g (map v (take i xs))) (g (v x) ∷ [])
      ∙ ap (λ y. base ++ y) (sym (ap (map g) (taken_more v xs i x h e) ∙ map-append g (map v (take i xs)) (v x ∷ [])))

  pub grown_ones : (g : Y → Z) (base old : List Z) → length xs ≤ i → old ≡ base ++ map g (map v (take i xs)) → old ≡ base ++ map g (map v xs)
  grown_ones g base old h is = is ∙ ap (λ ys. base ++ map g (map v ys)) (take_all i xs h)

-- over a list that is another one, as of a vector
module _ {X Y Z : Type 0} (v : X → Y) (xs ys : List X) (same : ys ≡ xs) (i : ℕ) where
  pub grown_in : (f : Y → List Z) (base : List Z) (x : X) (old new : List Z) → i < length ys → x ≡ get_or ys i x → old ≡ base ++ flat_map f (map v (take i xs)) → new ≡ old ++ f (v x) → new ≡ base ++ flat_map f (map v (take (i + 1) xs))
  grown_in f base x old new h e is more = grown_by v xs i f base x old new (subst (λ l. i < length l) same h) (e ∙ ap (λ l. get_or l i x) same) is more

  pub grown_through : (f : Y → List Z) (base old : List Z) → length ys ≤ i → old ≡ base ++ flat_map f (map v (take i xs)) → old ≡ base ++ flat_map f (map v xs)
  grown_through f base old h is = grown_all v xs i f base old (subst (λ l. length l ≤ i) same h) is

map_same : {X : Type 0} (xs : List X) → map (λ x. x) xs ≡ xs
map_same [] = refl
map_same (x ∷ xs) = ap (λ ys. x ∷ ys) (map_same xs)

one_number : (n : ℕ) → range_with_len 0 (n + 1) ≡ range_with_len 0 n ++ n ∷ []
one_number n = sym (map_same (range_with_len 0 (n + 1))) ∙ map-range_with_len_more (λ k. k) 0 n n (omega arith) ∙ ap (λ ys. ys ++ n ∷ []) (map_same (range_with_len 0 n))

-- over numbers
pub counted : {Y Z : Type 0} (g : Y → Z) (f : ℕ → List Y) (n : ℕ) (old new : List Z) → old ≡ map g (flat_map f (range_with_len 0 n)) → new ≡ old ++ map g (f n) → new ≡ map g (flat_map f (range_with_len 0 (n + 1)))
counted g f n old new is more =
    more ∙ ap (λ y. y ++ map g (f n)) is ∙ sym (map-append g (flat_map f (range_with_len 0 n)) (f n))
    ∙ ap (map g) (sym (ap (flat_map f) (one_number n) ∙ flat_map-append f (range_with_len 0 n) (n ∷ []) ∙ ap (λ y. flat_map f (range_with_len 0 n) ++ y) (append-nil (f n))))

-- a thing more
pub pushed_claim : (old new : List C.Claim) (x : C.Claim) (written owner : List ℕ) → new ≡ old ++ x ∷ [] → string_bytes x.written ≡ written → string_bytes x.owner ≡ owner → claim_views new ≡ claim_views old ++ claim written owner ∷ []
pushed_claim old new x written owner e w o =
    ap claim_views e ∙ map-append claim_view old (x ∷ []) ∙ ap (λ y. claim_views old ++ claim y (string_bytes x.owner) ∷ []) w ∙ ap (λ y. claim_views old ++ claim written y ∷ []) o

-- a kind more
pub pushed_kind : (old new : List K.Namespace) (x : K.Namespace) (kind : Namespace) → new ≡ old ++ x ∷ [] → kind_view x ≡ kind → kind_views new ≡ kind_views old ++ kind ∷ []
pushed_kind old new x kind e k = ap kind_views e ∙ map-append kind_view old (x ∷ []) ∙ ap (λ y. kind_views old ++ y ∷ []) k

-- what is put behind, before what follows
behind : {X : Type 0} (old new more : List X) (x : X) → new ≡ old ++ x ∷ [] → new ++ more ≡ old ++ x ∷ more
behind old new more x e = ap (λ k. k ++ more) e ∙ append_assoc old (x ∷ []) more

-- the paths, by things that are others'
pub same_paths : (names : List (List ℕ)) (types : List TypeEntry) {cs ds fs gs rs ts : List C.Claim} → cs ≡ ds → fs ≡ gs → rs ≡ ts
    → paths_among names types (claim_views cs) (claim_views fs) (claim_views rs) ≡ paths_among names types (claim_views ds) (claim_views gs) (claim_views ts)
same_paths names types {ds = ds} {gs = gs} {rs = rs} c f r =
    ap₂ (λ x y. paths_among names types (claim_views x) (claim_views y) (claim_views rs)) c f ∙ ap (λ z. paths_among names types (claim_views ds) (claim_views gs) (claim_views z)) r

-- the kinds of a program, one after another
module _ (p : NamedProgram) (k0 k1 k2 k3 k4 k5 k6 inside : List Namespace) (ts fs cs rs ps : List Claim) where
  pub all_kinds : ts ≡ flat_map (type_claim p.names) p.types → inside ≡ flat_map (kinds_inside p.names) p.types
      → fs ≡ flat_map (functions_of p.names) p.terms → cs ≡ map (constant_claim p.names) p.constants → rs ≡ flat_map (term_claim p.names p.terms) p.with_rules
      → ps ≡ paths_among p.names p.types cs fs rs
      → k0 ≡ []
      → k1 ≡ k0 ++ kind_as (codes "the types") (codes "type") is_own_type ts ∷ []
      → k2 ≡ k1 ++ inside
      → k3 ≡ k2 ++ kind_as (codes "the functions") (codes "function") no_own fs ∷ []
      → k4 ≡ k3 ++ kind_as (codes "the constants") (codes "constant") is_own_value cs ∷ []
      → k5 ≡ k4 ++ kind_as (codes "the terms") (codes "term") no_own rs ∷ []
      → k6 ≡ k5 ++ kind_as (codes "the paths") (codes "path") no_own ps ∷ []
      → k6 ≡ kinds p
  all_kinds t i f c r w e0 e1 e2 e3 e4 e5 e6 =
      let after : List Namespace = kind_as (codes "the functions") (codes "function") no_own fs ∷ (kind_as (codes "the constants") (codes "constant") is_own_value cs ∷ (kind_as (codes "the terms") (codes "term") no_own rs ∷ (kind_as (codes "the paths") (codes "path") no_own ps ∷ []))) in
      let all : k6 ≡ kind_as (codes "the types") (codes "type") is_own_type ts ∷ (inside ++ after) =
      e6 ∙ behind _ _ _ _ e5 ∙ behind _ _ _ _ e4 ∙ behind _ _ _ _ e3 ∙ ap (λ k. k ++ after) (e2 ∙ ap (λ k. k ++ inside) (e1 ∙ ap (λ k. k ++ kind_as (codes "the types") (codes "type") is_own_type ts ∷ []) e0)) in
      let paths : ps ≡ paths_among p.names p.types (map (constant_claim p.names) p.constants) (flat_map (functions_of p.names) p.terms) (flat_map (term_claim p.names p.terms) p.with_rules) =
      w ∙ ap₂ (λ x y. paths_among p.names p.types x y rs) c f ∙ ap (λ z. paths_among p.names p.types (map (constant_claim p.names) p.constants) (flat_map (functions_of p.names) p.terms) z) r in
      all ∙ ap (λ x. kind_as (codes "the types") (codes "type") is_own_type x ∷ (inside ++ after)) t
      ∙ ap (λ x. types_kind p ∷ (x ++ after)) i
      ∙ ap (λ x. types_kind p ∷ (flat_map (kinds_inside p.names) p.types ++ kind_as (codes "the functions") (codes "function") no_own x ∷ (kind_as (codes "the constants") (codes "constant") is_own_value cs ∷ (kind_as (codes "the terms") (codes "term") no_own rs ∷ (kind_as (codes "the paths") (codes "path") no_own ps ∷ []))))) f
      ∙ ap (λ x. types_kind p ∷ (flat_map (kinds_inside p.names) p.types ++ functions_kind p ∷ (kind_as (codes "the constants") (codes "constant") is_own_value x ∷ (kind_as (codes "the terms") (codes "term") no_own rs ∷ (kind_as (codes "the paths") (codes "path") no_own ps ∷ []))))) c
      ∙ ap (λ x. types_kind p ∷ (flat_map (kinds_inside p.names) p.types ++ functions_kind p ∷ (constants_kind p ∷ (kind_as (codes "the terms") (codes "term") no_own x ∷ (kind_as (codes "the paths") (codes "path") no_own ps ∷ []))))) r
      ∙ ap (λ x. types_kind p ∷ (flat_map (kinds_inside p.names) p.types ++ functions_kind p ∷ (constants_kind p ∷ (terms_kind p ∷ (kind_as (codes "the paths") (codes "path") no_own x ∷ []))))) paths
