-- Where closing ends, all that follows from demands that can be met is asked.
use Rattle.std.proofs.Common.{◌≡◌, ◌⊎◌, ℕ, true, false, not, if◌then◌else◌, List, [], ◌∷◌, ◌++◌, map, Option, Some, None, slice_get, refl, sym, ap, ◌∙◌, subst, inl, inr, arith}
use Rattle.std.proofs.lemmas.Bool.{cases_Bool, cond-true, cond-false, not-true}
use Rattle.std.specs.List.{zip}
use Rattle.std.proofs.lemmas.Grind.{common_steps}
use Rattle.model.specs.sites.Sites.{Constraint, SiteTerm, field_terms}
use Rattle.model.specs.visits.Demands.{site_term_eq, has_site}
use Rattle.model.specs.sites.Closure.{constraint_of, class_at, without_class_of, merged_classes, merged_all, with_constraint, with_constraints, is_in_class, next_constrained, field_equalities}
use Rattle.model.proofs.Elements.{In, none_some, in_left, in_right, in_either, in_slice, in_map, map_in, from_flat_map, in_flat_map, zip_in, in_zip, in_filter, filter_from, passed_filter}
use Rattle.model.proofs.SameSites.{same_term}
use Rattle.model.proofs.SitesMade.{in_has, has_in}
use Rattle.laws_sites.proofs.Closing.{found_constraint, keeps_one, keeps_all}
use Rattle.model.proofs.Options.{is_there}

-- two classes with a common site are one
abbrev pub IsApart : List (List SiteTerm) → Type 0
IsApart ks = (l m : List SiteTerm) (s : SiteTerm) → In ks l → In ks m → In l s → In m s → l ≡ m

-- two sites are in one class
pub record InOne (ks : List (List SiteTerm)) (a b : SiteTerm) : Type 0 where
  pub class : List SiteTerm
  pub there : In ks class
  pub first : In class a
  pub second : In class b

pub own_class : (ks : List (List SiteTerm)) (s : SiteTerm) → In (class_at ks s) s
own_class [] s = inl refl
own_class (k ∷ ks) s = grind (arith, common_steps, own_class ks s, has_in)

-- the class of a site is one of the classes, or the site alone
pub class_cases : (ks : List (List SiteTerm)) (s : SiteTerm) → In ks (class_at ks s) ⊎ (class_at ks s ≡ s ∷ [])
class_cases [] s = inr refl
class_cases (k ∷ ks) s = grind (arith, common_steps, class_cases ks s)

pub class_found : (ks : List (List SiteTerm)) (l : List SiteTerm) (s : SiteTerm) → In ks l → In l s → In ks (class_at ks s)
class_found [] l s i m = absurd i
class_found (k ∷ ks) l s i m = grind (arith, common_steps, class_found ks l s, in_has)

pub class_is : (ks : List (List SiteTerm)) → IsApart ks → (l : List SiteTerm) (s : SiteTerm) → In ks l → In l s → class_at ks s ≡ l
class_is ks apart l s i m = apart (class_at ks s) l s (class_found ks l s i m) i (own_class ks s) m

pub without_in : (ks : List (List SiteTerm)) (s : SiteTerm) (l : List SiteTerm) → In (without_class_of ks s) l → In ks l × (In l s → ⊥)
without_in ks s l i = grind (arith, common_steps, in_filter, not-true, passed_filter, in_has)

pub in_without : (ks : List (List SiteTerm)) (s : SiteTerm) (l : List SiteTerm) → In ks l → has_site l s ≡ false → In (without_class_of ks s) l
in_without ks s l i f = filter_from (λ k. not (has_site k s)) ks l i (ap not f)

abbrev pub joint : List (List SiteTerm) → SiteTerm × SiteTerm → List SiteTerm
joint ks e = class_at ks e.0 ++ class_at ks e.1

abbrev pub others : List (List SiteTerm) → SiteTerm × SiteTerm → List (List SiteTerm)
others ks e = without_class_of (without_class_of ks e.0) e.1

-- a class of a site that shares a site with a class has that site
pub class_shares : (ks : List (List SiteTerm)) → IsApart ks → (s : SiteTerm) (l : List SiteTerm) (x : SiteTerm) → In ks l → In l x → In (class_at ks s) x → In l s
class_shares ks apart s l x i m n = grind (arith, common_steps, class_cases ks s, own_class ks s, In l, In (s ∷ []) x)

pub joint_apart : (ks : List (List SiteTerm)) → IsApart ks → (e : SiteTerm × SiteTerm) (l : List SiteTerm) (x : SiteTerm) → In (others ks e) l → In l x → In (joint ks e) x → ⊥
joint_apart ks apart e l x i m n = grind (arith, common_steps, in_either, class_shares, without_in)

added_apart : (ks : List (List SiteTerm)) → IsApart ks → (e : SiteTerm × SiteTerm) → IsApart (joint ks e ∷ others ks e)
added_apart ks apart e l m s h k x y = grind (arith, common_steps, joint_apart, without_in)

added_keeps : (ks : List (List SiteTerm)) → IsApart ks → (e : SiteTerm × SiteTerm) (a b : SiteTerm) → InOne ks a b → InOne (joint ks e ∷ others ks e) a b
added_keeps ks apart e a b o =
    elim (cases_Bool (has_site o.class e.0)) [
      | inl t ↦ moved e.0 (in_left (class_at ks e.0) (class_at ks e.1)) t
      | inr f ↦ grind (arith, moved e.1 (in_right (class_at ks e.0) (class_at ks e.1)), in_right, in_without)
    ]
  where
    moved : (x : SiteTerm) → ((s : SiteTerm) → In (class_at ks x) s → In (joint ks e) s) → has_site o.class x ≡ true → InOne (joint ks e ∷ others ks e) a b
    moved x into t = grind (arith, common_steps, class_is ks apart o.class x o.there (has_in o.class x t), has_in o.class x t)

merged_joins : (ks : List (List SiteTerm)) (e : SiteTerm × SiteTerm) → (e.0 ≡ e.1) ⊎ InOne (merged_classes ks e) e.0 e.1
merged_joins ks e =
    elim (cases_Bool (has_site (class_at ks e.0) e.1)) [
      | inl t ↦ grind (arith, common_steps, class_cases ks e.0, own_class ks e.0, has_in (class_at ks e.0) e.1 t)
      | inr f ↦
          inr (subst (λ l. InOne l e.0 e.1) (sym (cond-false (has_site (class_at ks e.0) e.1) ks (joint ks e ∷ others ks e) f))
          (record {
            class = joint ks e;
            there = inl refl;
            first = in_left (class_at ks e.0) (class_at ks e.1) e.0 (own_class ks e.0);
            second = in_right (class_at ks e.0) (class_at ks e.1) e.1 (own_class ks e.1);
          }))
    ]

-- the sites in classes satisfy what those of the classes before and the merged_classes ones do
abbrev pub AllIn : (SiteTerm → Type 0) → List (List SiteTerm) → Type 0
AllIn P ks = (l : List SiteTerm) (s : SiteTerm) → In ks l → In l s → P s

pub class_all : (P : SiteTerm → Type 0) (ks : List (List SiteTerm)) → AllIn P ks → (s : SiteTerm) → P s → (x : SiteTerm) → In (class_at ks s) x → P x
class_all P ks h s p x m = grind (arith, common_steps, class_cases)

merged_all_in : (P : SiteTerm → Type 0) (ks : List (List SiteTerm)) → AllIn P ks → (e : SiteTerm × SiteTerm) → P e.0 → P e.1 → AllIn P (merged_classes ks e)
merged_all_in P ks h e p q = grind (arith, in_either (class_at ks e.0) (class_at ks e.1), class_all P ks h e.0 p, class_all P ks h e.1 q, without_in)

pub each_apart : (es : List (SiteTerm × SiteTerm)) (ks : List (List SiteTerm)) → IsApart ks → IsApart (merged_all ks es)
each_apart [] ks h = h
each_apart (e ∷ es) ks h = each_apart es (merged_classes ks e) (grind (arith, added_apart))

pub each_keeps_one : (es : List (SiteTerm × SiteTerm)) (ks : List (List SiteTerm)) → IsApart ks → (a b : SiteTerm) → InOne ks a b → InOne (merged_all ks es) a b
each_keeps_one [] ks h a b o = o
each_keeps_one (e ∷ es) ks h a b o = each_keeps_one es (merged_classes ks e) (grind (arith, added_apart)) a b (grind (arith, added_keeps))

pub each_joins_one : (es : List (SiteTerm × SiteTerm)) (ks : List (List SiteTerm)) → IsApart ks → (a b : SiteTerm) → In es (a, b) → (a ≡ b) ⊎ InOne (merged_all ks es) a b
each_joins_one [] ks h a b i = absurd i
each_joins_one (e ∷ es) ks h a b (inl p) = grind (arith, common_steps, merged_joins, each_keeps_one, added_apart)
each_joins_one (e ∷ es) ks h a b (inr i) = each_joins_one es (merged_classes ks e) (grind (arith, added_apart)) a b i

pub each_all_in : (P : SiteTerm → Type 0) (es : List (SiteTerm × SiteTerm)) (ks : List (List SiteTerm)) → AllIn P ks → ((e : SiteTerm × SiteTerm) → In es e → P e.0 × P e.1) → AllIn P (merged_all ks es)
each_all_in P [] ks h f = h
each_all_in P (e ∷ es) ks h f = let p = f e (inl refl) in each_all_in P es (merged_classes ks e) (merged_all_in P ks h e p.0 p.1) (λ x i. f x (inr i))

-- what classes and taken pairs join
pub data Chain (ks : List (List SiteTerm)) (h : List (SiteTerm × SiteTerm)) : SiteTerm → SiteTerm → Type 0 where
  one_class : {a b : SiteTerm} → InOne ks a b → Chain ks h a b
  one_take : {a b : SiteTerm} → In h (a, b) → Chain ks h a b
  alike : {a : SiteTerm} → Chain ks h a a
  back : {a b : SiteTerm} → Chain ks h a b → Chain ks h b a
  then_on : {a b c : SiteTerm} → Chain ks h a b → Chain ks h b c → Chain ks h a c

pub chain_carried : (ks ls : List (List SiteTerm)) (g h : List (SiteTerm × SiteTerm)) → ((a b : SiteTerm) → InOne ks a b → Chain ls h a b) → ((a b : SiteTerm) → In g (a, b) → In h (a, b))
    → (a b : SiteTerm) → Chain ks g a b → Chain ls h a b
chain_carried ks ls g h f t a b (one_class o) = f a b o
chain_carried ks ls g h f t a b (one_take i) = one_take (t a b i)
chain_carried ks ls g h f t a b alike = alike
chain_carried ks ls g h f t a b (back c) = back (chain_carried ks ls g h f t b a c)
chain_carried ks ls g h f t a b (then_on {b = m} c e) = then_on (chain_carried ks ls g h f t a m c) (chain_carried ks ls g h f t m b e)

pub joined_chain_cases : (ks : List (List SiteTerm)) (h : List (SiteTerm × SiteTerm)) (a b : SiteTerm) → (a ≡ b) ⊎ InOne ks a b → Chain ks h a b
joined_chain_cases ks h a b o = elim o [ inl e ↦ subst (Chain ks h a) e alike | inr i ↦ one_class i ]

abbrev pub FieldsChained : List (List SiteTerm) → List (SiteTerm × SiteTerm) → Constraint → SiteTerm → SiteTerm → Type 0
FieldsChained ks h k a b = (i : ℕ) (x y : SiteTerm) → slice_get (field_terms k a) i ≡ Some x → slice_get (field_terms k b) i ≡ Some y → Chain ks h x y

-- a taken pair has one constraint, and its fields are joined
pub record IsTaken (cs : List (SiteTerm × Constraint)) (ks : List (List SiteTerm)) (h : List (SiteTerm × SiteTerm)) (a b : SiteTerm) : Type 0 where
  pub constraint : Constraint
  pub first : In cs (a, constraint)
  pub second : In cs (b, constraint)
  pub fields : FieldsChained ks h constraint a b

-- each site of a list gets one
gets_one : (cs : List (SiteTerm × Constraint)) (d : SiteTerm × Constraint) → (c : Constraint) × In (with_constraint cs d) (d.0, c)
gets_one cs d = grind (arith, common_steps, is_there (constraint_of cs d.0), keeps_one cs d, found_constraint cs d.0, in_right cs (d ∷ []) (d.0, d.1) (inl refl))

pub gets_constraint : (cs ds : List (SiteTerm × Constraint)) (x : SiteTerm × Constraint) → In ds x → (c : Constraint) × In (with_constraints cs ds) (x.0, c)
gets_constraint cs [] x i = absurd i
gets_constraint cs (d ∷ ds) x (inl e) = grind (arith, common_steps, gets_one cs d, In (with_constraints (with_constraint cs d) ds), keeps_all (with_constraint cs d) ds)
gets_constraint cs (d ∷ ds) x (inr i) = gets_constraint (with_constraint cs d) ds x i

-- the pairs of a take: the least member with each other one
abbrev pub pairs_of : List SiteTerm → List (SiteTerm × SiteTerm)
pairs_of [] = []
pairs_of (least ∷ rest) = map (λ m. (least, m)) rest

pub members_chained : (ks : List (List SiteTerm)) (h : List (SiteTerm × SiteTerm)) (members : List SiteTerm) (a b : SiteTerm) → In members a → In members b → Chain ks (pairs_of members ++ h) a b
members_chained ks h [] a b i j = absurd i
members_chained ks h (least ∷ rest) a b i j = then_on (back (from_least a i)) (from_least b j)
  where
    from_least : (x : SiteTerm) → In (least ∷ rest) x → Chain ks (map (λ m. (least, m)) rest ++ h) least x
    from_least x (inl e) = subst (Chain ks (map (λ m. (least, m)) rest ++ h) least) e alike
    from_least x (inr i) = one_take (in_left (map (λ m. (least, m)) rest) h (least, x) (map_in (λ m. (least, m)) rest x i))

-- a taken pair's sites are members, and the equalities of their fields are made
pub pair_members : (c : Constraint) (members : List SiteTerm) (a b : SiteTerm) → In (pairs_of members) (a, b)
    → In members a × In members b × ((i : ℕ) (x y : SiteTerm) → slice_get (field_terms c a) i ≡ Some x → slice_get (field_terms c b) i ≡ Some y → In (field_equalities c members) (x, y))
pair_members c members a b i = grind (arith, common_steps, in_map, in_flat_map, zip_in)

-- an equality of fields is of fields of members
pub equality_members : (c : Constraint) (members : List SiteTerm) (e : SiteTerm × SiteTerm) → In (field_equalities c members) e
    → (a : SiteTerm) × (b : SiteTerm) × In members a × In members b × In (field_terms c a) e.0 × In (field_terms c b) e.1
equality_members c [] e i = absurd i
equality_members c (least ∷ rest) e i =
    let m = from_flat_map (λ x. zip (field_terms c least) (field_terms c x)) rest e i in
    let z = in_zip (field_terms c least) (field_terms c m.0) e m.2 in
    (least, m.0, inl refl, inr m.1, in_slice (field_terms c least) z.0 e.0 z.1, in_slice (field_terms c m.0) z.0 e.1 z.2)

pub constraint_there : (cs : List (SiteTerm × Constraint)) (s : SiteTerm) (c : Constraint) → In cs (s, c) → (b : Constraint) × (constraint_of cs s ≡ Some b)
constraint_there [] s c i = absurd i
constraint_there (d ∷ ds) s c i =
    elim (cases_Bool (site_term_eq d.0 s)) [
      | inl t ↦ (d.1, cond-true (site_term_eq d.0 s) (Some d.1) (constraint_of ds s) t)
      | inr f ↦ let r = constraint_there ds s c (grind (arith, same_term)) in (r.0, cond-false (site_term_eq d.0 s) (Some d.1) (constraint_of ds s) f ∙ r.1)
    ]

abbrev next_of : List (List SiteTerm) → SiteTerm → Option (SiteTerm × Constraint) → Option Constraint → Option (SiteTerm × Constraint)
next_of ks s later o = elim o as (λ _. Option (SiteTerm × Constraint)) [ None ↦ later | Some c ↦ if is_in_class ks s then Some (s, c) else later ]

-- where nothing is next, no constrained site is in a class
pub none_constrained : (ks : List (List SiteTerm)) (cs : List (SiteTerm × Constraint)) (order : List SiteTerm) → next_constrained ks cs order ≡ None
    → (s : SiteTerm) (c : Constraint) → In order s → In cs (s, c) → is_in_class ks s ≡ false
none_constrained ks cs [] e s c i m = absurd i
none_constrained ks cs (t ∷ ts) e s c (inl p) m = grind (arith, common_steps, constraint_there, none_some)
none_constrained ks cs (t ∷ ts) e s c (inr i) m = grind (arith, common_steps, none_constrained ks cs ts, none_some)
