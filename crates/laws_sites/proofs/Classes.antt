-- Classes that respect the demands hold all that must be equal; the names of a settled closure are such classes, once
-- they are carried to the fields that no rule makes.
use Rattle.std.proofs.Common.{◌≡◌, ◌⊎◌, ℕ, zero, suc, true, false, if◌then◌else◌, List, [], ◌∷◌, ◌++◌, map, length, Option, Some, None, slice_get, flat_map, refl, sym, ap, ◌∙◌, subst, inl, inr, arith}
use Rattle.std.proofs.lemmas.Bool.{cases_Bool, cond-true, cond-false, and_from, false≢true}
use Rattle.std.proofs.lemmas.Grind.{common_steps}
use Rattle.model.specs.sites.Sites.{Constraint, is_variant, is_struct, is_bool, is_int, is_prim, is_present, SiteTerm, bool_term, int_term, prim_term, argument, extractor_call, constructor_call, pick_of, variant_made, variant_field, struct_made, struct_field, some_made, some_part, tuple_part, no_site, fields_from, field_terms}
use Rattle.model.specs.visits.Demands.{Demands, site_term_eq, has_site, with_sites}
use Rattle.model.specs.sites.Closure.{Joined, given, itself, turned, chained, at_field, HasConstraint, IsPartOf, IsProperPart, directly, deeper, class_name, due, with_owners, spoken_of, class_names, has_conflict, constrained_in, fields_of_first, parts_of, goes_deeper, has_cycle}
use Rattle.laws_sites.specs.ClosureLaws.{IsEquivalence, RespectsDemands}
use Rattle.model.proofs.Elements.{In, in_from_contains, some_is, none_some, in_left, in_right, in_either, in_slice, slice_in, any_in, in_any, map_in, from_flat_map, in_flat_map, zip_in}
use Rattle.model.proofs.SameSites.{term_means, same_term, constraint_means}
use Rattle.model.proofs.SitesMade.{in_has, has_in}
use Rattle.laws_sites.proofs.Names.{SameName, name_same, given_joined}

pub joined_is_equivalence_lem : (d : Demands) → IsEquivalence (Joined d)
joined_is_equivalence_lem d = record { reflexive = λ a. itself; symmetric = λ a b j. turned j; transitive = λ a b c j k. chained j k }

pub classes_bound : {X : Type 0} (d : Demands) (f : SiteTerm → X) → RespectsDemands d f → (a b : SiteTerm) → Joined d a b → f a ≡ f b
classes_bound d f r a b (given h) = r.given a b h
classes_bound d f r a b itself = refl
classes_bound d f r a b (turned j) = sym (classes_bound d f r b a j)
classes_bound d f r a b (chained {b = m} j k) = classes_bound d f r a m j ∙ classes_bound d f r m b k
classes_bound d f r x y (at_field {a = a} {b = b} {t = t} {k = k} i j l c e g) = grind (arith, common_steps, classes_bound d f r a b j, classes_bound d f r t a l)

-- the same field of another site
pub moved : SiteTerm → SiteTerm → SiteTerm
moved t (variant_field a variant i) = variant_field t variant i
moved t (struct_field a i) = struct_field t i
moved t x = x

variant_fields_at : (a b : SiteTerm) (variant j n i : ℕ) (x : SiteTerm) → slice_get (fields_from (variant_field a variant) j n) i ≡ Some x
    → (slice_get (fields_from (variant_field b variant) j n) i ≡ Some (moved b x)) × ((k : ℕ) × (x ≡ variant_field a variant k))
unfolding moved
variant_fields_at a b variant j zero i x e = absurd (none_some x e)
variant_fields_at a b variant j (suc n) zero x e = let q = some_is (variant_field a variant j) x e in (ap (λ u. Some (moved b u)) q, (j, sym q))
variant_fields_at a b variant j (suc n) (suc i) x e = variant_fields_at a b variant (suc j) n i x e

struct_fields_at : (a b : SiteTerm) (j n i : ℕ) (x : SiteTerm) → slice_get (fields_from (struct_field a) j n) i ≡ Some x
    → (slice_get (fields_from (struct_field b) j n) i ≡ Some (moved b x)) × ((k : ℕ) × (x ≡ struct_field a k))
unfolding moved
struct_fields_at a b j zero i x e = absurd (none_some x e)
struct_fields_at a b j (suc n) zero x e = let q = some_is (struct_field a j) x e in (ap (λ u. Some (moved b u)) q, (j, sym q))
struct_fields_at a b j (suc n) (suc i) x e = struct_fields_at a b (suc j) n i x e

pub fields_at : (c : Constraint) (a b : SiteTerm) (i : ℕ) (x : SiteTerm) → slice_get (field_terms c a) i ≡ Some x → slice_get (field_terms c b) i ≡ Some (moved b x)
fields_at (is_variant ty variant n) a b i x e = (variant_fields_at a b variant 0 n i x e).0
fields_at (is_struct ty n) a b i x e = (struct_fields_at a b 0 n i x e).0
fields_at _ a b i x e = absurd (none_some x e)

-- the place of a site is its class's name; a field of a class with a constraint has the name of that field of the
-- class's first constrained site
pub placed : List (SiteTerm × SiteTerm) → Option (SiteTerm × Constraint) → SiteTerm → SiteTerm → SiteTerm
placed rs None a x = class_name rs x
placed rs (Some c) a x = if has_site (field_terms c.1 a) x then class_name rs (moved c.0 x) else class_name rs x

pub place : List (SiteTerm × SiteTerm) → List (SiteTerm × Constraint) → SiteTerm → SiteTerm
place rs cs (variant_field a variant i) = placed rs (constrained_in rs cs (place rs cs a)) a (variant_field a variant i)
place rs cs (struct_field a i) = placed rs (constrained_in rs cs (place rs cs a)) a (struct_field a i)
place rs cs x = class_name rs x

place_of_field : (rs : List (SiteTerm × SiteTerm)) (cs : List (SiteTerm × Constraint)) (c : Constraint) (a : SiteTerm) (i : ℕ) (x : SiteTerm)
    → slice_get (field_terms c a) i ≡ Some x → place rs cs x ≡ placed rs (constrained_in rs cs (place rs cs a)) a x
unfolding place
place_of_field rs cs (is_variant ty variant n) a i x e =
    let f = variant_fields_at a a variant 0 n i x e in
    subst (λ u. place rs cs u ≡ placed rs (constrained_in rs cs (place rs cs a)) a u) (sym f.1.1) refl
place_of_field rs cs (is_struct ty n) a i x e =
    let f = struct_fields_at a a 0 n i x e in
    subst (λ u. place rs cs u ≡ placed rs (constrained_in rs cs (place rs cs a)) a u) (sym f.1.1) refl
place_of_field rs cs (is_bool v ty) a i x e = absurd (none_some x e)
place_of_field rs cs (is_int z ty) a i x e = absurd (none_some x e)
place_of_field rs cs (is_prim name) a i x e = absurd (none_some x e)
place_of_field rs cs is_present a i x e = absurd (none_some x e)

pub in_with_sites : (ts ss : List SiteTerm) (x : SiteTerm) → In ts x ⊎ In ss x → In (with_sites ts ss) x
in_with_sites ts [] x h = elim h [ inl i ↦ i | inr n ↦ absurd n ]
in_with_sites ts (s ∷ ss) x h = grind (arith, common_steps, in_with_sites (if has_site ts s then ts else ts ++ s ∷ []) ss x, has_in, in_left, in_right)

pub with_sites_in : (ts ss : List SiteTerm) (x : SiteTerm) → In (with_sites ts ss) x → In ts x ⊎ In ss x
with_sites_in ts [] x h = inl h
with_sites_in ts (s ∷ ss) x h = grind (arith, common_steps, with_sites_in (if has_site ts s then ts else ts ++ s ∷ []) ss x h, in_either)

-- owners of owners are owners
own_first : (s : SiteTerm) → In (with_owners s) s
own_first (variant_field a v i) = inl refl
own_first (struct_field a i) = inl refl
own_first (bool_term b ty) = inl refl
own_first (int_term z ty) = inl refl
own_first (prim_term n) = inl refl
own_first (argument i) = inl refl
own_first (extractor_call t a) = inl refl
own_first (constructor_call t xs i) = inl refl
own_first (pick_of a) = inl refl
own_first (variant_made s i xs) = inl refl
own_first (struct_made s xs) = inl refl
own_first (some_made a) = inl refl
own_first (some_part a) = inl refl
own_first (tuple_part a f) = inl refl
own_first no_site = inl refl

-- the site whose field a site is
owner : SiteTerm → SiteTerm
owner (variant_field a v i) = a
owner (struct_field a i) = a
owner x = x

only : (y x : SiteTerm) → (y ≡ x) ⊎ ⊥ → y ≡ x
only y x h = elim h [ inl e ↦ e | inr n ↦ absurd n ]

owners_have : (y x : SiteTerm) → In (with_owners y) x → In (with_owners y) (owner x)
unfolding owner
owners_have (variant_field a v i) x (inl e) = inr (subst (λ u. In (with_owners a) (owner u)) e (own_first a))
owners_have (variant_field a v i) x (inr j) = inr (owners_have a x j)
owners_have (struct_field a i) x (inl e) = inr (subst (λ u. In (with_owners a) (owner u)) e (own_first a))
owners_have (struct_field a i) x (inr j) = inr (owners_have a x j)
owners_have (bool_term b ty) x h = inl (ap owner (only (bool_term b ty) x h))
owners_have (int_term z ty) x h = inl (ap owner (only (int_term z ty) x h))
owners_have (prim_term n) x h = inl (ap owner (only (prim_term n) x h))
owners_have (argument i) x h = inl (ap owner (only (argument i) x h))
owners_have (extractor_call t a) x h = inl (ap owner (only (extractor_call t a) x h))
owners_have (constructor_call t xs i) x h = inl (ap owner (only (constructor_call t xs i) x h))
owners_have (pick_of a) x h = inl (ap owner (only (pick_of a) x h))
owners_have (variant_made s i xs) x h = inl (ap owner (only (variant_made s i xs) x h))
owners_have (struct_made s xs) x h = inl (ap owner (only (struct_made s xs) x h))
owners_have (some_made a) x h = inl (ap owner (only (some_made a) x h))
owners_have (some_part a) x h = inl (ap owner (only (some_part a) x h))
owners_have (tuple_part a f) x h = inl (ap owner (only (tuple_part a f) x h))
owners_have no_site x h = inl (ap owner (only no_site x h))

abbrev owners_of_equal : SiteTerm × SiteTerm → List SiteTerm
owners_of_equal e = with_owners e.0 ++ with_owners e.1

abbrev owners_of_asked : SiteTerm × Constraint → List SiteTerm
owners_of_asked c = with_owners c.0

asked_have : (cs : List (SiteTerm × Constraint)) (x : SiteTerm) → In (flat_map owners_of_asked cs) x → In (flat_map owners_of_asked cs) (owner x)
asked_have cs x i = let f = from_flat_map owners_of_asked cs x i in in_flat_map owners_of_asked cs f.0 (owner x) f.1 (owners_have f.0.0 x f.2)

equal_have : (es : List (SiteTerm × SiteTerm)) (x : SiteTerm) → In (flat_map owners_of_equal es) x → In (flat_map owners_of_equal es) (owner x)
equal_have es x i =
    let f = from_flat_map owners_of_equal es x i in
    in_flat_map owners_of_equal es f.0 (owner x) f.1
    (elim (in_either (with_owners f.0.0) (with_owners f.0.1) x f.2) [
      | inl l ↦ in_left (with_owners f.0.0) (with_owners f.0.1) (owner x) (owners_have f.0.0 x l)
      | inr r ↦ in_right (with_owners f.0.0) (with_owners f.0.1) (owner x) (owners_have f.0.1 x r)
    ])

spoken_in : (d : Demands) (x : SiteTerm) → In (flat_map owners_of_asked d.constraints) x ⊎ In (flat_map owners_of_equal d.equalities) x → In (spoken_of d) x
spoken_in d x h = grind (arith, common_steps, in_with_sites, in_left, in_right)

spoken_owner : (d : Demands) (x : SiteTerm) → In (spoken_of d) x → In (spoken_of d) (owner x)
spoken_owner d x i = grind (arith, common_steps, with_sites_in, spoken_in, owner, in_either, asked_have, equal_have)

pub asked_spoken : (d : Demands) (c : SiteTerm × Constraint) → In d.constraints c → In (spoken_of d) c.0
asked_spoken d c i = spoken_in d c.0 (inl (in_flat_map owners_of_asked d.constraints c c.0 i (own_first c.0)))

pub equal_spoken : (d : Demands) (e : SiteTerm × SiteTerm) → In d.equalities e → In (spoken_of d) e.0 × In (spoken_of d) e.1
equal_spoken d e i = grind (arith, common_steps, spoken_in, in_flat_map, in_left, own_first, in_right)

-- names under which the fields of a constrained class have one name, place by place
abbrev pub IsSettled : List (SiteTerm × SiteTerm) → Demands → Type 0
IsSettled rs d = (s : SiteTerm) (c : SiteTerm × Constraint) (i : ℕ) (x y : SiteTerm) → In (spoken_of d) s → In d.constraints c → SameName rs s c.0
    → slice_get (field_terms c.1 s) i ≡ Some x → slice_get (field_terms c.1 c.0) i ≡ Some y → SameName rs x y

pub in_due : (rs : List (SiteTerm × SiteTerm)) (d : Demands) (s : SiteTerm) (c : SiteTerm × Constraint) (i : ℕ) (x y : SiteTerm) → In (spoken_of d) s → In d.constraints c → SameName rs s c.0
    → slice_get (field_terms c.1 s) i ≡ Some x → slice_get (field_terms c.1 c.0) i ≡ Some y → In (due rs d.constraints (spoken_of d)) (x, y)
in_due rs d s c i x y m n e f g = grind (arith, common_steps, in_flat_map, name_same, zip_in)

-- the first constrained site of a class is one
pub constrained_means : (rs : List (SiteTerm × SiteTerm)) (cs : List (SiteTerm × Constraint)) (n : SiteTerm) (c : SiteTerm × Constraint) → constrained_in rs cs n ≡ Some c → In cs c × (class_name rs c.0 ≡ n)
constrained_means rs [] n c e = absurd (none_some c e)
constrained_means rs (d ∷ ds) n c e = grind (arith, constrained_means rs ds n c, some_is d c, term_means (class_name rs d.0) n)

pub constrained_there : (rs : List (SiteTerm × SiteTerm)) (cs : List (SiteTerm × Constraint)) (n : SiteTerm) (c : SiteTerm × Constraint) → In cs c → class_name rs c.0 ≡ n
    → (b : SiteTerm × Constraint) × (constrained_in rs cs n ≡ Some b)
constrained_there rs [] n c i e = absurd i
constrained_there rs (d ∷ ds) n c i e =
    elim (cases_Bool (site_term_eq (class_name rs d.0) n)) [
      | inl t ↦ (d, cond-true (site_term_eq (class_name rs d.0) n) (Some d) (constrained_in rs ds n) t)
      | inr f ↦ grind (arith, common_steps, constrained_there rs ds n c, same_term)
    ]

-- no class has two constraints
abbrev pub HasNoConflict : List (SiteTerm × SiteTerm) → Demands → Type 0
HasNoConflict rs d = (a b : SiteTerm × Constraint) → In d.constraints a → In d.constraints b → SameName rs a.0 b.0 → a.1 ≡ b.1

pub no_conflict : (rs : List (SiteTerm × SiteTerm)) (d : Demands) → has_conflict rs d.constraints ≡ false → HasNoConflict rs d
no_conflict rs d h a b i j e = grind (arith, common_steps, constraint_means, any_in, and_from, name_same)

-- under settled names without conflict
module _ (d : Demands) (settled : IsSettled (class_names d) d) (agreed : HasNoConflict (class_names d) d) where
  placed_spoken : (a x : SiteTerm) (o : Option (SiteTerm × Constraint)) → ((c : SiteTerm × Constraint) → o ≡ Some c → In d.constraints c × SameName (class_names d) a c.0)
      → In (spoken_of d) a → placed (class_names d) o a x ≡ class_name (class_names d) x
  unfolding placed
  placed_spoken a x None f m = refl
  placed_spoken a x (Some c) f m =
      elim (cases_Bool (has_site (field_terms c.1 a) x)) [
        | inl t ↦
            let at_place = slice_in (field_terms c.1 a) x (has_in (field_terms c.1 a) x t) in
            let r = f c refl in
            cond-true (has_site (field_terms c.1 a) x) (class_name (class_names d) (moved c.0 x)) (class_name (class_names d) x) t
            ∙ sym (settled a c at_place.0 x (moved c.0 x) m r.0 r.1 at_place.1 (fields_at c.1 a c.0 at_place.0 x at_place.1))
        | inr n ↦ cond-false (has_site (field_terms c.1 a) x) (class_name (class_names d) (moved c.0 x)) (class_name (class_names d) x) n
      ]

  of_owner : (a x : SiteTerm) → place (class_names d) d.constraints a ≡ class_name (class_names d) a → In (spoken_of d) a
      → placed (class_names d) (constrained_in (class_names d) d.constraints (place (class_names d) d.constraints a)) a x ≡ class_name (class_names d) x
  of_owner a x e m =
      placed_spoken a x (constrained_in (class_names d) d.constraints (place (class_names d) d.constraints a))
      (λ c h. let r = constrained_means (class_names d) d.constraints (place (class_names d) d.constraints a) c h in (r.0, sym e ∙ sym r.1)) m

  -- a site that the demands speak of has its class's name
  place_spoken : (x : SiteTerm) → In (spoken_of d) x → place (class_names d) d.constraints x ≡ class_name (class_names d) x
  unfolding place owner
  place_spoken (variant_field a v i) m =
      let n = spoken_owner d (variant_field a v i) m in of_owner a (variant_field a v i) (place_spoken a n) n
  place_spoken (struct_field a i) m =
      let n = spoken_owner d (struct_field a i) m in of_owner a (struct_field a i) (place_spoken a n) n
  place_spoken (bool_term b ty) m = refl
  place_spoken (int_term z ty) m = refl
  place_spoken (prim_term n) m = refl
  place_spoken (argument i) m = refl
  place_spoken (extractor_call t a) m = refl
  place_spoken (constructor_call t xs i) m = refl
  place_spoken (pick_of a) m = refl
  place_spoken (variant_made s i xs) m = refl
  place_spoken (struct_made s xs) m = refl
  place_spoken (some_made a) m = refl
  place_spoken (some_part a) m = refl
  place_spoken (tuple_part a f) m = refl
  place_spoken no_site m = refl

  -- the field of a class with a constraint has the name of that field of the first constrained site
  field_placed : (a t : SiteTerm) (k : Constraint) (i : ℕ) (x : SiteTerm) → place (class_names d) d.constraints t ≡ place (class_names d) d.constraints a → In d.constraints (t, k)
      → slice_get (field_terms k a) i ≡ Some x
      → (c : SiteTerm × Constraint) × (constrained_in (class_names d) d.constraints (place (class_names d) d.constraints a) ≡ Some c) × (c.1 ≡ k)
      × (place (class_names d) d.constraints x ≡ class_name (class_names d) (moved c.0 x))
  unfolding placed
  field_placed a t k i x e m f =
      let named = sym (place_spoken t (asked_spoken d (t, k) m)) ∙ e in
      let first = constrained_there (class_names d) d.constraints (place (class_names d) d.constraints a) (t, k) m named in
      let means = constrained_means (class_names d) d.constraints (place (class_names d) d.constraints a) first.0 first.1 in
      let same = agreed first.0 (t, k) means.0 m (means.1 ∙ sym named) in
      let here : slice_get (field_terms first.0.1 a) i ≡ Some x = subst (λ q. slice_get (field_terms q a) i ≡ Some x) (sym same) f in
      let within : has_site (field_terms first.0.1 a) x ≡ true = in_has (field_terms first.0.1 a) x (in_slice (field_terms first.0.1 a) i x here) in (
        first.0,
        first.1,
        same,
        place_of_field (class_names d) d.constraints k a i x f
            ∙ ap (λ o. placed (class_names d) o a x) first.1
            ∙ cond-true (has_site (field_terms first.0.1 a) x) (class_name (class_names d) (moved first.0.0 x)) (class_name (class_names d) x) within,
      )

  place_respects : RespectsDemands d (place (class_names d) d.constraints)
  place_respects = record {
    given = λ a b h.
        let i = in_from_contains d.equalities (a, b) h in
        let m = equal_spoken d (a, b) i in
        place_spoken a m.0 ∙ given_joined d a b i ∙ sym (place_spoken b m.1);
    fields = λ a b t x y k i e f h g l.
        let m = in_from_contains d.constraints (t, k) h in
        let p = field_placed a t k i x f m g in
        let q = field_placed b t k i y (f ∙ e) m l in
        let one : p.0 ≡ q.0 = some_is p.0 q.0 (sym p.1 ∙ ap (constrained_in (class_names d) d.constraints) e ∙ q.1) in
        let xs = fields_at k a p.0.0 i x g in
        let ys = fields_at k b p.0.0 i y l in
        p.3 ∙ ap (class_name (class_names d)) (some_is (moved p.0.0 x) (moved p.0.0 y) (sym xs ∙ ys))
        ∙ ap (λ (c : SiteTerm × Constraint). class_name (class_names d) (moved c.0 y)) one ∙ sym q.3;
  }

  pub joined_placed : (a b : SiteTerm) → Joined d a b → place (class_names d) d.constraints a ≡ place (class_names d) d.constraints b
  joined_placed a b j = classes_bound d (place (class_names d) d.constraints) place_respects a b j

  -- of sites that the demands speak of, those that must be equal have one name
  pub joined_named : (a b : SiteTerm) → In (spoken_of d) a → In (spoken_of d) b → Joined d a b → SameName (class_names d) a b
  joined_named a b m n j = sym (place_spoken a m) ∙ joined_placed a b j ∙ place_spoken b n

  -- no class has two different constraints
  pub one_constraint : (s : SiteTerm) (a b : Constraint) → HasConstraint d s a → HasConstraint d s b → a ≡ b
  one_constraint s a b h k =
      let i = in_from_contains d.constraints (h.source, a) h.asked in
      let j = in_from_contains d.constraints (k.source, b) k.asked in
      agreed (h.source, a) (k.source, b) i j
      (joined_named h.source k.source (asked_spoken d (h.source, a) i) (asked_spoken d (k.source, b) j) (chained h.joined (turned k.joined)))

  -- a part's name is among the parts of the name of the whole
  part_placed : (s t : SiteTerm) → IsPartOf d s t
      → (c : SiteTerm × Constraint) × (constrained_in (class_names d) d.constraints (place (class_names d) d.constraints t) ≡ Some c)
      × In (parts_of (class_names d) d.constraints (place (class_names d) d.constraints t)) (place (class_names d) d.constraints s)
  part_placed s t h =
      let m = in_from_contains d.constraints (h.constrained.source, h.constraint) h.constrained.asked in
      let at_place = slice_in (field_terms h.constraint h.whole) h.field (in_from_contains (field_terms h.constraint h.whole) h.field h.there) in
      let p = field_placed h.whole h.constrained.source h.constraint at_place.0 h.field (joined_placed h.constrained.source h.whole h.constrained.joined) m at_place.1 in
      let whole = joined_placed h.whole t h.of_class in
      let first : constrained_in (class_names d) d.constraints (place (class_names d) d.constraints t) ≡ Some p.0 = ap (constrained_in (class_names d) d.constraints) (sym whole) ∙ p.1 in
      let there : In (field_terms p.0.1 p.0.0) (moved p.0.0 h.field) =
      in_slice (field_terms p.0.1 p.0.0) at_place.0 (moved p.0.0 h.field)
      (subst (λ q. slice_get (field_terms q p.0.0) at_place.0 ≡ Some (moved p.0.0 h.field)) (sym p.2) (fields_at h.constraint h.whole p.0.0 at_place.0 h.field at_place.1)) in (
        p.0,
        first,
        subst (λ o. In (fields_of_first (class_names d) o) (place (class_names d) d.constraints s)) (sym first)
            (subst (In (map (class_name (class_names d)) (field_terms p.0.1 p.0.0))) (sym p.3 ∙ joined_placed h.field s h.in_class)
            (map_in (class_name (class_names d)) (field_terms p.0.1 p.0.0) (moved p.0.0 h.field) there)),
      )

  less_deep : (n : ℕ) (s : SiteTerm) → goes_deeper (suc n) (class_names d) d.constraints s ≡ true → goes_deeper n (class_names d) d.constraints s ≡ true
  less_deep zero s h = refl
  less_deep (suc n) s h = grind (arith, common_steps, less_deep n, in_any, any_in)

  part_deeper : (s t : SiteTerm) → IsProperPart d s t → (n : ℕ) → goes_deeper n (class_names d) d.constraints (place (class_names d) d.constraints s) ≡ true
      → goes_deeper (suc n) (class_names d) d.constraints (place (class_names d) d.constraints t) ≡ true
  part_deeper s t (directly h) n g =
      any_in (goes_deeper n (class_names d) d.constraints) (parts_of (class_names d) d.constraints (place (class_names d) d.constraints t)) (place (class_names d) d.constraints s) (part_placed s t h).2 g
  part_deeper s u (deeper {t = t} h q) n g =
      part_deeper t u q n
      (less_deep n (place (class_names d) d.constraints t)
      (any_in (goes_deeper n (class_names d) d.constraints) (parts_of (class_names d) d.constraints (place (class_names d) d.constraints t)) (place (class_names d) d.constraints s) (part_placed s t h).2 g))

  cycle_deep : (s : SiteTerm) → IsProperPart d s s → (n : ℕ) → goes_deeper n (class_names d) d.constraints (place (class_names d) d.constraints s) ≡ true
  cycle_deep s h zero = refl
  cycle_deep s h (suc n) = part_deeper s s h n (cycle_deep s h n)

  whole_constrained : (s t : SiteTerm) → IsProperPart d s t → (c : SiteTerm × Constraint) × In d.constraints c × (class_name (class_names d) c.0 ≡ place (class_names d) d.constraints t)
  whole_constrained s t (directly h) =
      let p = part_placed s t h in
      let m = constrained_means (class_names d) d.constraints (place (class_names d) d.constraints t) p.0 p.1 in
      (p.0, m.0, m.1)
  whole_constrained s u (deeper {t = t} h q) = whole_constrained t u q

  pub no_cycle : has_cycle (class_names d) d.constraints ≡ false → (s : SiteTerm) → IsProperPart d s s → ⊥
  no_cycle f s h =
      let w = whole_constrained s s h in
      let n = suc (length d.constraints) in
      false≢true (grind (arith, common_steps, any_in, cycle_deep s h n))
